-- What holders that share the root reach, and what their steps make of their views.
use Rattle.std.proofs.Common.{◌≡◌, ℕ, ◌+◌, ◌-◌, ◌<◌, ◌≤◌, List, [], ◌∷◌, length, get_or}
use Rattle.std.proofs.Common.{refl, sym, ap, subst, ◌∙◌, inl, inr, ⊎_elim, arith}
use Rattle.frame_model.specs.declared.frame.Frame.{Frame}
use Rattle.frame_model.specs.declared.view.View.{View}
use Rattle.frame_model.specs.Words.{depth, kind_number}
use Rattle.std.proofs.lemmas.Bool.{cases_eq, cases_lt}
use Rattle.frame_model.specs.Views.{Has, without, children, within, reach, part_of, whole_stake}
use Rattle.frame_model.specs.Views.{IsSound}
use Rattle.frame_model.proofs.Opening.{has_numbers, numbers_has}
use Rattle.frame_model.proofs.Parts.{has_without}
use Rattle.frame_model.proofs.Reach.{has_left, has_right, has_append, children_has, within_front}
use Rattle.frame_model.proofs.Rules.{sound_closed}
use Rattle.frame_words.specs.declared.part.Part.TheVariants.{Root as RootPart}
use Rattle.frame_words.specs.Steps.{tree_of, kept_of, given_of, IsThere, joined}
use Rattle.frame_views.proofs.Joined.{joined_own}
use Rattle.frame_views.proofs.NewParts.{other_root_kept, other_root_given}
use Rattle.frame_steps.specs.declared.lost.Lost.TheVariants.{Shared}
use Rattle.frame_steps.specs.Counted.{gained, lost, IsNamedTwice, referred_twice, linked}
use Rattle.frame_steps_tests.specs.Mids.{mid_at, leaf_at, IsPlaced, IsShared, HasReferences}
use Rattle.frame_views.proofs.Giving.{shared_gained as gained_shared, fresh_gained}
use Rattle.frame_views.proofs.Giving.{named_gained, less_here, referred_reached}
use Rattle.frame_steps_tests.proofs.Placing.{word_child, entry_child, unplaced}
use Rattle.frame_steps_tests.proofs.Placing.{no_reference as none_referred}

-- ---- seal

module _ (v : View) (p : IsPlaced 512 512 v) where
  mids : List ℕ
  mids = children v.known (0 ∷ [])

  mid_in : (j : ℕ) → j < 512 → Has (mid_at j) mids
  unfolding mids
  mid_in j lt = children_has v.known (0 ∷ []) 0 (mid_at j) (inl refl) (entry_child v p.entries j lt)

  leaf_in : (j : ℕ) → j < 512 → Has (leaf_at j) (children v.known mids)
  leaf_in j lt =
      let kind = ap kind_number (p.mids j lt) in
      children_has v.known mids (mid_at j) (leaf_at j) (mid_in j lt)
      (word_child v (mid_at j) j (leaf_at j) (omega arith) (p.whole (mid_at j) (omega arith)) lt
      (omega arith) (p.leaves j lt))

  mid_below : (j : ℕ) → j < 512 → Has (mid_at j) (tree_of v 0)
  unfolding within mids
  mid_below j lt = inr (within_front v.known 2 mids (mid_at j) (mid_in j lt))

  leaf_below : (j : ℕ) → j < 512 → Has (leaf_at j) (tree_of v 0)
  unfolding within mids
  leaf_below j lt = inr (has_right (leaf_at j) mids (within v.known 1 (children v.known mids))
      (within_front v.known 1 (children v.known mids) (leaf_at j) (leaf_in j lt)))

  -- the root, the mid tables and the leaf tables are all that there is
  in_tree : (f : ℕ) → f < 1025 → Has f (tree_of v 0)
  in_tree f lt = ⊎_elim
      (λ (z : f ≡ 0). subst (λ (x : ℕ). Has x (tree_of v 0)) (sym z)
      (within_front v.known depth (0 ∷ []) 0 (inl refl)))
      (λ (ne : f ≡ 0 → ⊥). ⊎_elim
      (λ (h : f < 513).
      let is : mid_at (f - 1) ≡ f = omega arith in
      subst (λ (x : ℕ). Has x (tree_of v 0)) is (mid_below (f - 1) (omega arith)))
      (λ (h : 513 ≤ f).
      let is : leaf_at (f - 513) ≡ f = omega arith in
      subst (λ (x : ℕ). Has x (tree_of v 0)) is (leaf_below (f - 513) (omega arith)))
      (cases_lt f 513))
      (cases_eq f 0)

  pub root_own : Has 0 v.owned
  root_own = subst (λ (xs : List ℕ). Has 0 xs) (sym p.owned) (numbers_has 1025 0 (omega arith))

  abbrev pub v1 : View
  v1 = part_of v v.owned (0 ∷ v.references) v.stake

  pub root_gained : gained v 0 ≡ v1
  root_gained = fresh_gained v 0 (none_referred 512 512 v p (omega arith) (omega arith) 0)
      (unplaced 512 512 v p (omega arith) (omega arith) 0
      (λ k h e. absurd (omega arith)) (λ k h e. absurd (omega arith)))

  abbrev pub v2 : View
  v2 = part_of v (without (tree_of v 0) v.owned) (0 ∷ 0 ∷ v.references) v.stake

  pub tree_given_up : gained v1 0 ≡ v2
  tree_given_up = named_gained v1 0 root_own (inl (inl refl))

  pub root_twice : IsNamedTwice v2 0
  root_twice = referred_twice (omega arith)

  pub no_reference : length v.references ≡ 0
  no_reference = ap (λ (xs : List ℕ). length xs) p.references

  pub seal_shared : IsShared (lost Shared v2 0)
  unfolding lost
  seal_shared = record {
    nothing = λ f h.
        let q = has_without (tree_of v 0) v.owned f h in
        q.0 (in_tree f (has_numbers 1025 f (subst (λ (xs : List ℕ). Has f xs) p.owned q.1)));
    refers = inl refl;
    entries = record { root = p.entries.root; whole = p.entries.whole; named = p.entries.named };
  }

  pub seal_one : HasReferences 1 (lost Shared v2 0)
  unfolding lost
  seal_one = let e = no_reference in omega arith

  pub seal_stake : (lost Shared v2 0).stake ≡ whole_stake
  unfolding lost
  seal_stake = p.stake

-- ---- holders that share the root

module _ (v : View) (s : IsShared v) where
  pub part_shared : (owned references : List ℕ) (stake : ℕ) → ((f : ℕ) → Has f owned → ⊥) → Has 0 references → IsShared (part_of v owned references stake)
  part_shared owned references stake none refers = record {
    nothing = none;
    refers = refers;
    entries = record { root = s.entries.root; whole = s.entries.whole; named = s.entries.named };
  }

  pub shared_gained : (f : ℕ) → gained v f ≡ part_of v v.owned (f ∷ v.references) v.stake
  shared_gained f = gained_shared v f (s.nothing f)

  -- a mid table is a child of what is reached
  pub mid_child : (j : ℕ) → j < 512 → Has (j + 1) (children v.known (reach v))
  mid_child j lt = children_has v.known (reach v) 0 (j + 1) (referred_reached v 0 s.refers) (entry_child v s.entries j lt)

  pub mid_reached : IsSound v → (j : ℕ) → j < 512 → Has (j + 1) (reach v)
  mid_reached is j lt = sound_closed v is 0 (j + 1) (referred_reached v 0 s.refers) (entry_child v s.entries j lt)

  -- ---- a visit

  module _ (j : ℕ) (lt : j < 512) where
    abbrev pub there : View
    there = part_of v v.owned ((j + 1) ∷ v.references) v.stake

    pub root_in_reach : Has 0 (reach there)
    root_in_reach = referred_reached there 0 (inr s.refers)

    pub mid_in_reach : Has (j + 1) (reach there)
    mid_in_reach = referred_reached there (j + 1) (inl refl)

    pub mid_linked : IsNamedTwice there (j + 1)
    mid_linked = linked (children_has v.known (reach there) 0 (j + 1) root_in_reach (entry_child v s.entries j lt))

    pub back : lost Shared there (j + 1) ≡ v
    unfolding lost
    back = ap (λ (xs : List ℕ). part_of v v.owned xs v.stake) (less_here (j + 1) (j + 1) v.references refl)

  -- ---- a second holder

  abbrev pub twice : View
  twice = part_of v v.owned (0 ∷ v.references) v.stake

  away : (r : Frame) → r.0 ≡ 0 → Has r.0 v.owned → ⊥
  away r e h = s.nothing 0 (subst (λ (f : ℕ). Has f v.owned) e h)

  pub root_part_there : (r : Frame) (stake : ℕ) → r.0 ≡ 0 → IsThere (RootPart r stake) twice
  unfolding IsThere
  root_part_there r stake e = inr (inl e)

  pub root_kept : (r : Frame) (stake : ℕ) → r.0 ≡ 0 → kept_of (RootPart r stake) twice
      ≡ part_of v v.owned v.references (v.stake - stake)
  root_kept r stake e =
      other_root_kept twice r stake (away r e)
      ∙ ap (λ (xs : List ℕ). part_of v v.owned xs (v.stake - stake))
      (less_here r.0 0 v.references e)

  pub root_given : (r : Frame) (stake : ℕ) → r.0 ≡ 0
      → given_of (RootPart r stake) twice ≡ part_of v [] (0 ∷ []) stake
  root_given r stake e =
      other_root_given twice r stake (away r e)
      ∙ ap (λ (f : ℕ). part_of v [] (f ∷ []) stake) e

-- ---- both as one

both_nothing : (v w : View) → IsShared v → IsShared w → (f : ℕ) → Has f (joined v w).owned → ⊥
unfolding joined
both_nothing v w s t f h =
    ⊎_elim (λ a. s.nothing f a) (λ b. t.nothing f b) (has_append f v.owned w.owned h)

both_refer : (v w : View) → IsShared v → Has 0 (joined v w).references
unfolding joined
both_refer v w s = has_left 0 v.references w.references s.refers

pub both_shared : (v w : View) → IsShared v → IsShared w → IsShared (joined v w)
both_shared v w s t =
    let root = joined_own v w 0 (referred_reached v 0 s.refers) in
    record {
      nothing = both_nothing v w s t;
      refers = both_refer v w s;
      entries = record {
        root = root.0 ∙ s.entries.root;
        whole = ap (λ (ws : List ℕ). length ws) root.1 ∙ s.entries.whole;
        named = λ j a. ap (λ (ws : List ℕ). get_or ws j 0) root.1 ∙ s.entries.named j a;
      };
    }
