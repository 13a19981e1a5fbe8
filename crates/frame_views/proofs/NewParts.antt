-- What a holder owns and refers to after an entry or a split.
use Rattle.std.proofs.Common.{◌≡◌, ℕ, ◌-◌, ◌⊎◌, Bool, true, false, List, [], ◌∷◌, ◌++◌, refl}
use Rattle.std.proofs.Common.{sym, ap, subst, ◌∙◌, inl, inr, ⊎_elim}
use Rattle.std.proofs.lemmas.Bool.{cond-true, cond-false}
use Rattle.frame_model.specs.declared.frame.Frame.{Frame}
use Rattle.frame_model.specs.declared.view.View.{View}
use Rattle.frame_model.specs.Words.{target}
use Rattle.frame_model.specs.Views.{Has, has, word_of, targets, among, without, less_one, part_of}
use Rattle.frame_model.specs.Views.{reach, IsLoose, IsSound}
use Rattle.frame_model.proofs.Reach.{has_children, children_has}
use Rattle.frame_model.proofs.Parts.{has_less, true_has, false_has}
use Rattle.frame_words.specs.declared.part.Part.TheVariants.{Pile, Root}
use Rattle.frame_words.specs.Steps.{pile_of, tree_of, less_root, root_alone, kept_of, given_of}
use Rattle.frame_words.proofs.Splits.{root_reached}
use Rattle.frame_steps.specs.declared.lost.Lost.{Lost}
use Rattle.frame_steps.specs.declared.lost.Lost.TheVariants.{Owned, Shared}
use Rattle.frame_steps.specs.Counted.{less_by, entered, owning, lost}
use Rattle.frame_steps.proofs.Recounts.{owning_has, owning_old}
use Rattle.frame_steps.proofs.Links.{targets_none, targets_one, less_none, less_entry}

-- ---- entries

module _ (v : View) (f i : ℕ) where
  traded : (x : ℕ) → (entered v f i x).references
      ≡ targets (word_of v f i ∷ []) ++ less_by x v.references
  unfolding entered
  traded x = refl

  pub new_entry : (x : ℕ) → word_of v f i ≡ 0 → (x ≡ 0 → ⊥)
      → (entered v f i x).references ≡ less_one (target x) v.references
  new_entry x none some =
      traded x ∙ (λ k. targets_none (word_of v f i) none k ++ less_entry x v.references some k)

  pub no_entry : (word_of v f i ≡ 0 → ⊥)
      → (entered v f i 0).references ≡ target (word_of v f i) ∷ v.references
  no_entry some =
      traded 0 ∙ (λ k. targets_one (word_of v f i) some k ++ less_none 0 v.references refl k)

  pub other_entry : (x : ℕ) → (word_of v f i ≡ 0 → ⊥) → (x ≡ 0 → ⊥)
      → (entered v f i x).references ≡ target (word_of v f i) ∷ less_one (target x) v.references
  other_entry x old some =
      traded x ∙ (λ k. targets_one (word_of v f i) old k ++ less_entry x v.references some k)

-- ---- references

-- one reference more names that frame alone
pub more_loose : (v : View) (f g : ℕ) → (g ≡ f → ⊥) → IsLoose v g
    → IsLoose (part_of v v.owned (f ∷ v.references) v.stake) g
more_loose v f g ne loose = record {
  owned = loose.owned;
  unreferred = λ h. ⊎_elim (λ (e : g ≡ f). ne e) (λ r. loose.unreferred r) h;
  unnamed = loose.unnamed;
}

pub lost_shared : (v : View) (f : ℕ)
    → lost Shared v f ≡ part_of v v.owned (less_one f v.references) v.stake
unfolding lost
lost_shared v f = refl

pub lost_again : (v : View) (f : ℕ) → Has f v.owned
    → lost Owned v f ≡ part_of v v.owned (less_one f v.references) v.stake
unfolding lost
lost_again v f own =
    ap (λ (os : List ℕ). part_of v os (less_one f v.references) v.stake)
    (cond-true (has f v.owned) v.owned (f ∷ v.owned) (true_has f v.owned own))

pub lost_owned : (v : View) (f : ℕ) → (Has f v.owned → ⊥)
    → lost Owned v f ≡ part_of v (f ∷ v.owned) (less_one f v.references) v.stake
unfolding lost
lost_owned v f away =
    ap (λ (os : List ℕ). part_of v os (less_one f v.references) v.stake)
    (cond-false (has f v.owned) v.owned (f ∷ v.owned) (false_has f v.owned away))

-- what is owned after a lose was owned, or is that frame
less_loose : (v : View) (f : ℕ) (owned : List ℕ) → IsSound v → Has f v.references
    → ((g : ℕ) → Has g v.owned → Has g owned) → ((g : ℕ) → Has g owned → Has g v.owned ⊎ (g ≡ f))
    → (g : ℕ) → IsLoose v g → IsLoose (part_of v owned (less_one f v.references) v.stake) g
less_loose v f owned is ref old from g loose = record {
  owned = old g loose.owned;
  unreferred = λ h. loose.unreferred (has_less f v.references g h);
  unnamed = λ h.
      let t = has_children v.known owned g h in
      let mine : Has t.0 v.owned → ⊥ =
      λ own. loose.unnamed (children_has v.known v.owned t.0 g own t.2) in
      ⊎_elim mine
      (λ (e : t.0 ≡ f).
      let reached : Has t.0 (reach v) =
      subst (λ (x : ℕ). Has x (reach v)) (sym e) (root_reached v is f (inr ref)) in
      is.walled g t.0 loose.owned reached mine t.2)
      (from t.0 t.1);
}

pub lost_loose : (o : Lost) (v : View) (f : ℕ) → IsSound v → Has f v.references → (g : ℕ)
    → IsLoose v g → IsLoose (lost o v f) g
unfolding lost
lost_loose Owned v f is ref g loose =
    less_loose v f (owning v.owned f) is ref (owning_old v.owned f) (owning_has v.owned f) g loose
lost_loose Shared v f is ref g loose =
    less_loose v f v.owned is ref (λ x h. h) (λ x h. inl h) g loose

-- ---- splits

module _ (v : View) (root : Frame) (stake : ℕ) where
  kept_as : (own : Bool) → has root.0 v.owned ≡ own
      → kept_of (Root root stake) v ≡ less_root own v root.0 stake
  unfolding kept_of
  kept_as own e = ap (λ (b : Bool). less_root b v root.0 stake) e

  given_as : (own : Bool) → has root.0 v.owned ≡ own
      → given_of (Root root stake) v ≡ root_alone own v root.0 stake
  unfolding given_of
  given_as own e = ap (λ (b : Bool). root_alone b v root.0 stake) e

  pub own_root_kept : Has root.0 v.owned → kept_of (Root root stake) v
      ≡ part_of v (without (tree_of v root.0) v.owned) (without (root.0 ∷ []) v.references)
      (v.stake - stake)
  own_root_kept own = kept_as true (true_has root.0 v.owned own)

  pub own_root_given : Has root.0 v.owned → given_of (Root root stake) v
      ≡ part_of v (among (tree_of v root.0) v.owned) (among (root.0 ∷ []) v.references) stake
  own_root_given own = given_as true (true_has root.0 v.owned own)

  pub other_root_kept : (Has root.0 v.owned → ⊥) → kept_of (Root root stake) v
      ≡ part_of v v.owned (less_one root.0 v.references) (v.stake - stake)
  other_root_kept away = kept_as false (false_has root.0 v.owned away)

  pub other_root_given : (Has root.0 v.owned → ⊥)
      → given_of (Root root stake) v ≡ part_of v [] (root.0 ∷ []) stake
  other_root_given away = given_as false (false_has root.0 v.owned away)

pub pile_kept : (v : View) (first : Frame) (count stake : ℕ) → kept_of (Pile first count stake) v
    ≡ part_of v (without (pile_of v first.0 count) v.owned) v.references (v.stake - stake)
unfolding kept_of
pile_kept v first count stake = refl

pub pile_given : (v : View) (first : Frame) (count stake : ℕ) → given_of (Pile first count stake) v
    ≡ part_of v (among (pile_of v first.0 count) v.owned) [] stake
unfolding given_of
pile_given v first count stake = refl
