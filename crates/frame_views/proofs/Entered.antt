-- What is named after an entry, and what stays at count 0.
use Rattle.std.proofs.Common.{◌≡◌, ℕ, ◌<◌, ◌≢◌, ◌⊎◌, List, [], ◌∷◌, length, get_or, set}
use Rattle.std.proofs.Common.{sym, ap, subst, ◌∙◌, inl, inr, ⊎_elim, arith, length-set}
use Rattle.std.proofs.Common.{get_or-set_other, get_or-set_same}
use Rattle.std.proofs.lemmas.Bool.{cases_eq}
use Rattle.frame_model.specs.declared.kind.Kind.{Kind}
use Rattle.frame_model.specs.declared.view.Known.{Known}
use Rattle.frame_model.specs.declared.view.View.{View}
use Rattle.frame_model.specs.Words.{target}
use Rattle.frame_model.specs.Views.{Has, Names, known_of, kind_of, words_of, word_of, targets}
use Rattle.frame_model.specs.Views.{targets_by_kind, targets_of, IsLoose}
use Rattle.frame_model.proofs.Parts.{has_less}
use Rattle.frame_model.proofs.Reach.{has_append, has_children, children_has, has_by_kind}
use Rattle.frame_model.proofs.Reach.{by_kind_has, has_targets, targets_has}
use Rattle.frame_words.specs.Steps.{put}
use Rattle.frame_steps.specs.Counted.{less_by, entered, MayStand, IsFreeEntry}
use Rattle.frame_steps.proofs.Links.{targets_none, targets_one, less_none, less_entry}
use Rattle.frame_views.proofs.NewPages.{news_here, news_else, entered_known}

-- what the words name once one of them is another
set_names : (k : Kind) (ws : List ℕ) (i x y : ℕ) → Has y (targets_by_kind k (set ws i x))
    → Has y (targets_by_kind k ws) ⊎ ((x ≢ 0) × (y ≡ target x))
set_names k ws i x y h =
    let kind = has_by_kind k (set ws i x) y h in
    let q = has_targets (set ws i x) y kind.1 in
    let len = length-set ws i x in
    let inside : q.0 < length ws = omega (arith, q.1) in
    ⊎_elim
    (λ (e : q.0 ≡ i).
    let word : get_or (set ws i x) q.0 0 ≡ x =
    ap (λ (j : ℕ). get_or (set ws i x) j 0) e ∙ get_or-set_same ws i x 0 (omega arith) in
    inr ((λ z. q.2 (word ∙ z)), sym q.3 ∙ ap target word))
    (λ (ne : q.0 ≢ i).
    let word : get_or (set ws i x) q.0 0 ≡ get_or ws q.0 0 = get_or-set_other ws i q.0 x 0 ne in
    let there = targets_has ws q.0 inside (λ z. q.2 (word ∙ z)) in
    inl (by_kind_has k ws y kind.0
    (subst (λ (z : ℕ). Has z (targets ws)) (sym (ap target word) ∙ q.3) there)))
    (cases_eq q.0 i)

module _ (v : View) (f i x : ℕ) where
  -- a table names what it named, or is the one that the entry stands in
  pub entered_names : (h y : ℕ) → Names (entered v f i x) h y
      → Names v h y ⊎ ((x ≢ 0) × (y ≡ target x))
  entered_names h y t =
      let same = ap (λ (ks : List Known). targets_of (known_of ks h)) (entered_known v f i x) in
      let now = subst (λ (xs : List ℕ). Has y xs) same t in
      ⊎_elim
      (λ (e : h ≡ f).
      let page = ap targets_of (news_here v f (kind_of v f) (set (words_of v f) i x)) in
      let here = subst (λ (z : ℕ). Has y (targets_of (known_of (put v f i x).known z))) e now in
      ⊎_elim
      (λ was. inl (subst (λ (z : ℕ). Names v z y) (sym e) was))
      (λ (new : (x ≢ 0) × (y ≡ target x)). inr new)
      (set_names (kind_of v f) (words_of v f) i x y
      (subst (λ (xs : List ℕ). Has y xs) page here)))
      (λ (ne : h ≢ f).
      let page = ap targets_of (news_else v f (kind_of v f) (set (words_of v f) i x) h ne) in
      inl (subst (λ (xs : List ℕ). Has y xs) page now))
      (cases_eq h f)

  -- a reference was one, or is to what the old entry named
  pub entered_refers : (g : ℕ) → Has g (entered v f i x).references
      → Has g v.references ⊎ ((word_of v f i ≢ 0) × (g ≡ target (word_of v f i)))
  unfolding entered
  entered_refers g h = ⊎_elim
      (λ old. ⊎_elim
      (λ (z : word_of v f i ≡ 0).
      absurd (subst (λ (xs : List ℕ). Has g xs) (targets_none (word_of v f i) z) old))
      (λ (ne : word_of v f i ≢ 0). ⊎_elim
      (λ (e : g ≡ target (word_of v f i)). inr (ne, e))
      (λ none. absurd none)
      (subst (λ (xs : List ℕ). Has g xs) (targets_one (word_of v f i) ne) old))
      (cases_eq (word_of v f i) 0))
      (λ rest. inl (⊎_elim
      (λ (z : x ≡ 0). subst (λ (xs : List ℕ). Has g xs) (less_none x v.references z) rest)
      (λ (ne : x ≢ 0). has_less (target x) v.references g
      (subst (λ (xs : List ℕ). Has g xs) (less_entry x v.references ne) rest))
      (cases_eq x 0)))
      (has_append g (targets (word_of v f i ∷ [])) (less_by x v.references) h)

  entered_owns : (g : ℕ) → Has g v.owned → Has g (entered v f i x).owned
  unfolding entered
  entered_owns g h = h

  owned_before : (g : ℕ) → Has g (entered v f i x).owned → Has g v.owned
  unfolding entered
  owned_before g h = h

  -- what had count 0 has it still, but for what the old entry named
  pub entered_loose : MayStand v f x → (g : ℕ)
      → ((word_of v f i ≡ 0 → ⊥) → g ≡ target (word_of v f i) → ⊥) → IsLoose v g
      → IsLoose (entered v f i x) g
  entered_loose stands g away loose = record {
    owned = entered_owns g loose.owned;
    unreferred = λ h. ⊎_elim
        (λ r. loose.unreferred r)
        (λ (t : (word_of v f i ≢ 0) × (g ≡ target (word_of v f i))). away t.0 t.1)
        (entered_refers g h);
    unnamed = λ h.
        let t = has_children (entered v f i x).known (entered v f i x).owned g h in
        ⊎_elim
        (λ was. loose.unnamed (children_has v.known v.owned t.0 g (owned_before t.0 t.1) was))
        (λ (new : (x ≢ 0) × (g ≡ target x)). ⊎_elim
        (λ (z : x ≡ 0). new.0 z)
        (λ (free : IsFreeEntry v f x). loose.unreferred
        (subst (λ (y : ℕ). Has y v.references) (sym new.1) free.referred))
        stands)
        (entered_names t.0 g t.2);
  }
