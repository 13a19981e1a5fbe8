-- What a holder knows and reaches after a join.
use Rattle.std.proofs.Common.{◌≡◌, ℕ, ◌⊎◌, ◌++◌, ap, subst, ◌∙◌, inl, inr}
use Rattle.std.proofs.Common.{⊎_elim}
use Rattle.frame_model.specs.declared.view.Known.{Known}
use Rattle.frame_model.specs.declared.view.View.{View}
use Rattle.frame_model.specs.Words.{depth}
use Rattle.frame_model.specs.Views.{Has, known_of, kind_of, words_of, targets_of}
use Rattle.frame_model.specs.Views.{reach, sights, IsSound}
use Rattle.frame_model.proofs.Reach.{has_append, dec_has, within_inside}
use Rattle.frame_model.proofs.Rules.{sound_closed}
use Rattle.frame_words.specs.Steps.{joined}
use Rattle.frame_words.proofs.Splits.{root_reached}
use Rattle.frame_words.proofs.Unions.{sight, sights_here, sights_else, sights_last}

module _ (v w : View) where
  own_sight : (g : ℕ) → Has g (reach v) → known_of (joined v w).known g ≡ sight v.known g
  unfolding joined
  own_sight g h = sights_here v.known (sights w.known (reach w)) (reach v) g h

  other_sight : (g : ℕ) → (Has g (reach v) → ⊥) → Has g (reach w)
      → known_of (joined v w).known g ≡ sight w.known g
  unfolding joined
  other_sight g away h =
      sights_else v.known (sights w.known (reach w)) (reach v) g away
      ∙ sights_last w.known (reach w) g h

  pub joined_own : (g : ℕ) → Has g (reach v)
      → (kind_of (joined v w) g ≡ kind_of v g) × (words_of (joined v w) g ≡ words_of v g)
  joined_own g h = (
    ap (λ (k : Known). k.kind) (own_sight g h),
    ap (λ (k : Known). k.words) (own_sight g h),
  )

  pub joined_other : (g : ℕ) → (Has g (reach v) → ⊥) → Has g (reach w)
      → (kind_of (joined v w) g ≡ kind_of w g) × (words_of (joined v w) g ≡ words_of w g)
  joined_other g away h = (
    ap (λ (k : Known). k.kind) (other_sight g away h),
    ap (λ (k : Known). k.words) (other_sight g away h),
  )

  firsts : IsSound v → IsSound w → (f : ℕ) → Has f ((joined v w).owned ++ (joined v w).references)
      → Has f (reach v) ⊎ Has f (reach w)
  unfolding joined
  firsts a b f h =
      let one : Has f v.owned ⊎ Has f v.references → Has f (reach v) ⊎ Has f (reach w) =
      λ x. inl (root_reached v a f x) in
      let two : Has f w.owned ⊎ Has f w.references → Has f (reach v) ⊎ Has f (reach w) =
      λ x. inr (root_reached w b f x) in
      ⊎_elim
      (λ o. ⊎_elim (λ x. one (inl x)) (λ y. two (inl y)) (has_append f v.owned w.owned o))
      (λ r. ⊎_elim (λ x. one (inr x)) (λ y. two (inr y)) (has_append f v.references w.references r))
      (has_append f (v.owned ++ w.owned) (v.references ++ w.references) h)

  along : IsSound v → IsSound w → (f x : ℕ) → Has f (reach v) ⊎ Has f (reach w)
      → Has x (targets_of (known_of (joined v w).known f)) → Has x (reach v) ⊎ Has x (reach w)
  along a b f x p t =
      let in_v : Has f (reach v) → Has x (reach v) ⊎ Has x (reach w) =
      λ h. inl (sound_closed v a f x h
      (subst (λ (k : Known). Has x (targets_of k)) (own_sight f h) t)) in
      ⊎_elim in_v
      (λ away. ⊎_elim
      (λ h. absurd (away h))
      (λ h. inr (sound_closed w b f x h
      (subst (λ (k : Known). Has x (targets_of k)) (other_sight f away h) t)))
      p)
      (dec_has f (reach v))

  pub joined_reach : IsSound v → IsSound w → (g : ℕ) → Has g (reach (joined v w))
      → Has g (reach v) ⊎ Has g (reach w)
  joined_reach a b g h =
      within_inside (λ (x : ℕ). Has x (reach v) ⊎ Has x (reach w)) (joined v w).known depth
      ((joined v w).owned ++ (joined v w).references) (firsts a b) (along a b) g h
