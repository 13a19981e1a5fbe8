-- Leaf tables that all name one frame.
use Rattle.std.proofs.Common.{◌≡◌, ℕ, ◌+◌, ◌*◌, ◌/◌, ◌%◌, ◌<◌, ◌≤◌, ◌≢◌, ◌⊎◌, List, [], ◌∷◌, ◌++◌}
use Rattle.std.proofs.Common.{get_or, refl, sym, ap, subst, ◌∙◌, inl, inr, ⊎_elim, arith, length}
use Rattle.std.proofs.lemmas.Bool.{cases_eq}
use Rattle.frame_model.specs.declared.kind.Kind.{Kind}
use Rattle.frame_model.specs.declared.kind.Kind.TheVariants.{Data, Leaf}
use Rattle.frame_model.specs.declared.view.Known.{Known}
use Rattle.frame_model.specs.declared.view.View.{View}
use Rattle.frame_model.specs.Words.{kind_number, target, depth}
use Rattle.frame_model.specs.Views.{Has, known_of, kind_of, words_of, word_of, targets_of}
use Rattle.frame_model.specs.Views.{targets_by_kind, within, without, part_of, IsLoose, first_view}
use Rattle.frame_model.specs.Views.{numbers_below, reach}
use Rattle.frame_model.proofs.Opening.{blank_word, numbers_has}
use Rattle.frame_model.proofs.Parts.{has_without, without_has}
use Rattle.frame_model.proofs.Reach.{has_by_kind, has_targets, has_children, within_front}
use Rattle.frame_words.specs.Steps.{dressed, IsClear, tree_of}
use Rattle.frame_steps.specs.Counted.{entered, MayStand, HasRoom, gained}
use Rattle.frame_views.proofs.Giving.{shared_gained, fresh_gained, named_gained, less_here}
use Rattle.frame_views.proofs.Giving.{referred_reached}
use Rattle.frame_views.proofs.NewPages.{dressed_kind_here, dressed_kind_else, dressed_words}
use Rattle.frame_views.proofs.NewPages.{entered_owned, entered_kind, entered_word_else}
use Rattle.frame_views.proofs.NewParts.{new_entry}
use Rattle.frame_steps_tests.specs.Filled.{IsLaid, IsFilled}

-- ---- tables without entries

pub first_laid : IsLaid 1 (first_view 129)
first_laid = record {
  owned = refl;
  references = refl;
  zero = λ f k. blank_word k;
  page = refl;
  tables = λ f some lt. absurd (omega arith);
}

module _ (i : ℕ) (v : View) (p : IsLaid i v) where
  pub laid_loose : (f : ℕ) → f < 129 → IsLoose v f
  laid_loose f lt = record {
    owned = subst (λ (xs : List ℕ). Has f xs) (sym p.owned) (numbers_has 129 f lt);
    unreferred = λ h. subst (λ (xs : List ℕ). Has f xs) p.references h;
    unnamed = λ h.
        let t = has_children v.known v.owned f h in
        let k = has_by_kind (kind_of v t.0) (words_of v t.0) f t.2 in
        let q = has_targets (words_of v t.0) f k.1 in
        q.2 (p.zero t.0 q.0);
  }

  pub laid_clear : (f : ℕ) → IsClear v f
  laid_clear f k lt = p.zero f k

  pub dressed_laid : 0 < i → IsLaid (i + 1) (dressed v i Leaf)
  dressed_laid some = record {
    owned = p.owned;
    references = p.references;
    zero = λ f k. ap (λ (ws : List ℕ). get_or ws k 0) (dressed_words v i Leaf f) ∙ p.zero f k;
    page = dressed_kind_else v i Leaf 0 (λ e. absurd (omega arith)) ∙ p.page;
    tables = λ f above lt. ⊎_elim
        (λ (e : f ≡ i).
        ap (λ (x : ℕ). kind_of (dressed v i Leaf) x) e ∙ dressed_kind_here v i Leaf)
        (λ (ne : f ≢ i). dressed_kind_else v i Leaf f ne ∙ p.tables f above (omega arith))
        (cases_eq f i);
  }

-- ---- frame 0 is given up

-- below data there is nothing
lone : (ks : List Known) → targets_of (known_of ks 0) ≡ [] → within ks 3 (0 ∷ []) ≡ 0 ∷ []
unfolding within
lone ks none = ap (λ (ts : List ℕ). 0 ∷ within ks 2 (ts ++ [])) none

module _ (v : View) (p : IsLaid 129 v) where
  abbrev once : View
  once = part_of v v.owned (0 ∷ v.references) v.stake

  pub first_gained : gained v 0 ≡ once
  first_gained =
      let l = laid_loose 129 v p 0 (omega arith) in fresh_gained v 0 l.unreferred l.unnamed

  pub once_reached : Has 0 (reach once)
  once_reached = referred_reached once 0 (inl refl)

  abbrev twice : View
  twice = part_of once (without (tree_of once 0) v.owned) (0 ∷ 0 ∷ v.references) v.stake

  pub second_gained : gained once 0 ≡ twice
  second_gained = named_gained once 0 (laid_loose 129 v p 0 (omega arith)).owned (inl (inl refl))

  below : (x : ℕ) → Has x (tree_of once 0) → x ≡ 0
  below x h =
      let none = ap (λ (k : Kind). targets_by_kind k (words_of v 0)) p.page in
      ⊎_elim (λ (e : x ≡ 0). e) (λ none. absurd none)
      (subst (λ (xs : List ℕ). Has x xs) (lone v.known none) h)

  pub given_up : IsFilled 512 twice
  given_up = record {
    away = λ h. (has_without (tree_of once 0) v.owned 0 h).0
        (within_front v.known depth (0 ∷ []) 0 (inl refl));
    references = ap (λ (xs : List ℕ). 0 ∷ 0 ∷ xs) p.references;
    page = p.page;
    owned = λ f some lt. without_has (tree_of once 0) v.owned f
        (λ h. let e = below f h in absurd (omega arith))
        (laid_loose 129 v p f lt).owned;
    tables = λ f some lt. p.tables f some lt;
    rest = λ f k lk le. p.zero f k;
  }

pub filled_reached : (n : ℕ) (v : View) → IsFilled n v → Has 0 (reach v)
filled_reached n v p =
    referred_reached v 0 (subst (λ (xs : List ℕ). Has 0 xs) (sym p.references) (inl refl))

-- ---- one entry more

module _ (n : ℕ) (v : View) (p : IsFilled n v) (least : 512 ≤ n) (most : n < 66048) where
  abbrev table : ℕ
  table = n / 512

  abbrev place : ℕ
  place = n % 512

  abbrev held : View
  held = part_of v v.owned (0 ∷ v.references) v.stake

  pub more_gained : gained v 0 ≡ held
  more_gained = shared_gained v 0 p.away

  pub few : length v.references < 16
  few = let e = ap (λ (xs : List ℕ). length xs) p.references in omega arith

  pub table_owned : Has table held.owned
  table_owned = p.owned table (omega arith) (omega arith)

  table_kind : kind_number (kind_of held table) ≡ 1
  table_kind = ap kind_number (p.tables table (omega arith) (omega arith))

  pub is_table : 0 < kind_number (kind_of held table)
  is_table = let e = table_kind in omega arith

  pub stands : MayStand held table 219
  stands =
      let e = table_kind in
      let d : kind_number (kind_of held 0) ≡ 0 = ap kind_number p.page in
      inr (record {
        form = record {
          leaf = λ _. record {
            size = omega arith;
            valid = refl;
            permits = omega arith;
            for_user = refl;
            global = refl;
            accessed = refl;
            dirty = refl;
            private = omega arith;
            software = refl;
          };
          above = λ two. absurd (omega arith);
        };
        below = omega arith;
        referred = inl refl;
      })

  pub has_room : HasRoom held table place 219
  has_room z = absurd (omega arith)

  abbrev fuller : View
  fuller = entered held table place 219

  none_yet : word_of held table place ≡ 0
  none_yet = p.rest table place (omega arith) (omega arith)

  pub filled : IsFilled (n + 1) fuller
  filled = record {
    away = λ h.
        p.away (subst (λ (xs : List ℕ). Has 0 xs) (entered_owned held table place 219) h);
    references = new_entry held table place 219 none_yet (λ z. absurd (omega arith))
        ∙ less_here (target 219) 0 v.references refl ∙ p.references;
    page = entered_kind held table place 219 0 ∙ p.page;
    owned = λ f some lt. subst (λ (xs : List ℕ). Has f xs)
        (sym (entered_owned held table place 219)) (p.owned f some lt);
    tables = λ f some lt. entered_kind held table place 219 f ∙ p.tables f some lt;
    rest = λ f k lk le.
        entered_word_else held table place 219 f k
        (λ t. let a = t.0 in let b = t.1 in absurd (omega arith))
        ∙ p.rest f k lk (omega arith);
  }
