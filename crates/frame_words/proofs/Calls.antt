-- What a call owes to the table: that its word is there, and that its step is allowed.
use Rattle.std.proofs.Common.{◌≡◌, ℕ, ◌*◌, ◌<◌, ◌≤◌, List, [], ◌∷◌, length, replicate, refl, sym}
use Rattle.std.proofs.Common.{ap, subst, ◌∙◌, arith}
use Rattle.std.proofs.lemmas.List.{length-replicate}
use mathlib.Core.Option.{none}
use Rattle.atomic_table.specs.Table.{step, Allows, opening}
use Rattle.frame_model.specs.Words.{depth}
use Rattle.frame_model.specs.declared.kind.Kind.{Kind}
use Rattle.frame_model.specs.declared.kind.Kind.TheVariants.{Data}
use Rattle.frame_model.specs.Words.{frames_in, meta_place, word_place, kind_number}
use Rattle.frame_model.specs.Holdings.{held}
use Rattle.frame_model.specs.Views.{Has, kind_of, reach, first_view, IsSound, IsLoose}
use Rattle.frame_model.specs.Rule.{most_frames, FrameRule}
use Rattle.frame_model.proofs.Opening.{opening_rule}
use Rattle.frame_model.proofs.Reach.{within_front, has_left}
use Rattle.frame_model.proofs.Rules.{sound}
use Rattle.frame_words.specs.Steps.{IsClear}
use Rattle.frame_words.specs.Plays.{Kept, Mine, Looked, LookedAgain, LookedWhole, LookedAtMeta}
use Rattle.frame_words.specs.Plays.{DidPut, DidDress}
use Rattle.frame_words.proofs.Keeps as rule

pub opens : (n : ℕ) (ws : List ℕ) → ws ≡ replicate (n * 513) 0 → n ≤ most_frames
    → Kept n (opening {S = Unit {0}} ws [] (held (first_view n)))
opens n ws is most = record {
  size = ap length is ∙ length-replicate {A = ℕ} (n * 513) 0;
  rule = subst (λ (xs : List ℕ). FrameRule n (frames_in xs) (first_view n ∷ [])) (sym is) (opening_rule n most);
}

pub first_is_sound : (n : ℕ) → n ≤ most_frames → IsSound (first_view n)
first_is_sound n most = sound n (frames_in (replicate (n * 513) 0)) (first_view n ∷ []) (opening_rule n most) 0 (first_view n) refl

-- a table of some frames has a word
pub has_word : (n words : ℕ) → 0 < n → words ≡ n * 513 → 0 < words
has_word n words some size = omega arith

pub same_frames : (n k : ℕ) → n * 513 ≡ k * 513 → n ≡ k
same_frames n k e = omega arith

pub looks_whole : (n slots id : ℕ) (me : Mine)
    → Allows (Kept n) slots id me 0 (λ x. x) (LookedWhole (step slots 0 0 0 none) me)
looks_whole = rule.looks_whole

pub looks_again : (n slots id : ℕ) (me : Mine) → Allows (Kept n) slots id me 0 (λ x. x) (LookedAgain (step slots 0 0 0 none) me)
looks_again = rule.looks_again

module _ (key words slots id : ℕ) (me : Mine) (is : IsSound me.0.view) (size : words ≡ me.0.view.frames * 513) (place f : ℕ) where
  owned_is_reached : Has f me.0.view.owned → Has f (reach me.0.view)
  owned_is_reached h = within_front me.0.view.known depth _ f (has_left f me.0.view.owned me.0.view.references h)

  word_room : (i : ℕ) → Has f (reach me.0.view) → i < 512 → word_place f i < words
  word_room i h lt = let a = is.inside f h in omega arith

  meta_room : Has f (reach me.0.view) → meta_place f < words
  meta_room h = let a = is.inside f h in omega arith

  pub peeks : (i : ℕ) → place ≡ word_place f i → Has f (reach me.0.view) → i < 512
      → (place < words) × Allows (Kept key) slots id me place (λ n. n) (Looked (step slots place 0 0 none) me)
  peeks i e h lt = subst (λ (p : ℕ). (p < words) × Allows (Kept key) slots id me p (λ n. n) (Looked (step slots p 0 0 none) me)) (sym e)
      (word_room i h lt, rule.looks key slots id me f i h lt)

  pub peeks_at_meta : place ≡ meta_place f → Has f (reach me.0.view)
      → (place < words) × Allows (Kept key) slots id me place (λ n. n) (LookedAtMeta (step slots place 0 0 none) me)
  peeks_at_meta e h = subst (λ (p : ℕ). (p < words) × Allows (Kept key) slots id me p (λ n. n) (LookedAtMeta (step slots p 0 0 none) me)) (sym e)
      (meta_room h, rule.looks_at_meta key slots id me f h)

  pub puts : (i x : ℕ) → place ≡ word_place f i → Has f me.0.view.owned → kind_of me.0.view f ≡ Data → i < 512
      → (place < words) × Allows (Kept key) slots id me place (λ _. x) (λ _. DidPut (step slots place x 0 none) me x)
  puts i x e own data_kind lt = subst (λ (p : ℕ). (p < words) × Allows (Kept key) slots id me p (λ _. x) (λ _. DidPut (step slots p x 0 none) me x)) (sym e)
      (word_room i (owned_is_reached own) lt, rule.puts key slots id me f i x own data_kind lt)

  pub dresses : (kind : Kind) (x : ℕ) → place ≡ meta_place f → x ≡ kind_number kind → IsLoose me.0.view f → IsClear me.0.view f
      → (place < words) × Allows (Kept key) slots id me place (λ _. x) (λ _. DidDress (step slots place x 0 none) me x)
  dresses kind x e k loose clear =
      subst (λ (q : ℕ × ℕ). (q.0 < words) × Allows (Kept key) slots id me q.0 (λ _. q.1) (λ _. DidDress (step slots q.0 q.1 0 none) me q.1)) (λ z. (sym e z, sym k z))
      (meta_room (owned_is_reached loose.owned), rule.dresses key slots id me f kind loose clear)
