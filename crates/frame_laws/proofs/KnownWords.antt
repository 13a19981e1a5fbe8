-- What is known of a frame after a step.
use Rattle.std.proofs.Common.{◌≡◌, ℕ, Bool, true, false, List, refl, sym, ap, subst}
use Rattle.frame_model.specs.declared.kind.Kind.{Kind}
use Rattle.frame_model.specs.declared.view.Known.{Known}
use Rattle.frame_model.specs.declared.view.View.{View}
use Rattle.frame_model.specs.Views.{Has, has, words_of, with_known}
use Rattle.frame_views.proofs.NewPages.{news_else}
use Rattle.frame_words.specs.declared.part.Part.{Part}
use Rattle.frame_words.specs.declared.part.Part.TheVariants.{Pile, Root}
use Rattle.frame_words.specs.Steps.{less_root, root_alone, kept_of, given_of}
use Rattle.frame_steps.specs.declared.lost.Lost.{Lost}
use Rattle.frame_steps.specs.declared.lost.Lost.TheVariants.{Owned, Shared}
use Rattle.frame_steps.specs.Counted.{entered, gained, lost}

-- news of an owned frame is none of another
pub owned_news : (v : View) (f : ℕ) (kind : Kind) (words : List ℕ) (g : ℕ) → Has f v.owned
    → (Has g v.owned → ⊥) → words_of (with_known v f kind words) g ≡ words_of v g
owned_news v f kind words g own away =
    ap (λ (k : Known). k.words) (news_else v f kind words g
    (λ e. away (subst (λ (x : ℕ). Has x v.owned) (sym e) own)))

pub entered_else : (v : View) (f i x g : ℕ) → Has f v.owned → (Has g v.owned → ⊥)
    → words_of (entered v f i x) g ≡ words_of v g
unfolding entered
entered_else v f i x g own away = owned_news v f _ _ g own away

pub gained_words : (v : View) (f g : ℕ) → words_of (gained v f) g ≡ words_of v g
unfolding gained
gained_words v f g = refl

pub lost_words : (o : Lost) (v : View) (f g : ℕ) → words_of (lost o v f) g ≡ words_of v g
unfolding lost
lost_words Owned v f g = refl
lost_words Shared v f g = refl

less_root_words : (own : Bool) (v : View) (root stake g : ℕ) → words_of (less_root own v root stake) g ≡ words_of v g
less_root_words true v root stake g = refl
less_root_words false v root stake g = refl

pub kept_words : (part : Part) (v : View) (g : ℕ) → words_of (kept_of part v) g ≡ words_of v g
unfolding kept_of
kept_words (Pile first count stake) v g = refl
kept_words (Root root stake) v g = less_root_words (has root.0 v.owned) v root.0 stake g

root_alone_words : (own : Bool) (v : View) (root stake g : ℕ) → words_of (root_alone own v root stake) g ≡ words_of v g
root_alone_words true v root stake g = refl
root_alone_words false v root stake g = refl

pub given_words : (part : Part) (v : View) (g : ℕ) → words_of (given_of part v) g ≡ words_of v g
unfolding given_of
given_words (Pile first count stake) v g = refl
given_words (Root root stake) v g = root_alone_words (has root.0 v.owned) v root.0 stake g
