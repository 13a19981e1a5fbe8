-- Who owns a frame, and what its owner's view says of its count.
use Rattle.std.proofs.Common.{◌≡◌, ℕ, ◌<◌, ◌≢◌, Bool, true, false, not, ◌&&◌, eqb, List, ◌++◌, sym, ap, subst, ◌∙◌, ⊎_elim, arith}
use Rattle.std.proofs.lemmas.Bool.{cases_eq, and_parts, not-true, eqb-true, eqb-false}
use Rattle.frame_model.specs.Words.{depth}
use Rattle.frame_model.specs.declared.view.View.{View}
use Rattle.frame_model.specs.Words.{Frames, kind_at, count_at, names, target}
use Rattle.frame_model.specs.Views.{Has, times, known_of, kind_of, words_of, targets_of, children, reach, IsLoose}
use Rattle.frame_model.specs.Rule.{At, IsNamedByOwn, FrameRule}
use Rattle.frame_model.proofs.Reach.{has_left, within_front, by_kind_has, has_by_kind, has_targets, targets_has, children_has, present}
use Rattle.frame_model.proofs.Counts.{names_true, links_some, links_two, total_at}

not_false : (b : Bool) → not b ≡ true → b ≡ false
not_false b h = not-true b h

-- what it says that an entry names a frame
pub named : (m : Frames) (f g i : ℕ) → names m f g i ≡ true → (0 < kind_at m g) × (m.word g i ≢ 0) × (target (m.word g i) ≡ f)
named m f g i h =
    let both = and_parts (not (eqb (kind_at m g) 0) && not (eqb (m.word g i) 0)) (eqb (target (m.word g i)) f) h in
    let parts = and_parts (not (eqb (kind_at m g) 0)) (not (eqb (m.word g i) 0)) both.0 in
    let ne : kind_at m g ≢ 0 = eqb-false (kind_at m g) 0 (not_false _ parts.0) in
    (omega arith, eqb-false (m.word g i) 0 (not_false _ parts.1), eqb-true _ f both.1)

module _ (n : ℕ) (m : Frames) (views : List View) (rule : FrameRule n m views) where
  pub owned_reached : (v : View) (f : ℕ) → Has f v.owned → Has f (reach v)
  owned_reached v f h = within_front v.known depth (v.owned ++ v.references) f (has_left f v.owned v.references h)

  pub one_owner : (id other : ℕ) (v w : View) → At views id v → At views other w → (f : ℕ) → Has f v.owned → Has f w.owned → id ≡ other
  one_owner id other v w at there f a b =
      ⊎_elim (λ e. e) (λ ne. absurd (rule.apart id other v w at there ne f a (owned_reached w f b))) (cases_eq id other)

  -- a frame that an owned table names is a child of what is owned
  pub named_child : (id : ℕ) (v : View) → At views id v → (f : ℕ) → IsNamedByOwn m v f → Has f (children v.known v.owned)
  named_child id v at f b =
      let a = rule.agrees id v at in
      let t = named m f b.table b.index b.named in
      let h = owned_reached v b.table b.owned in
      let k = a.kind b.table h in
      let w = a.word b.table b.index h b.inside in
      let len = a.whole b.table h in
      let lt = b.inside in
      let tab = t.0 in
      let there = targets_has (words_of v b.table) b.index (omega arith) (λ z. t.1 (w ∙ z)) in
      let there' : Has f (Rattle.frame_model.specs.Views.targets (words_of v b.table)) = subst (λ (y : ℕ). Has y (Rattle.frame_model.specs.Views.targets (words_of v b.table))) (sym (ap target w) ∙ t.2) there in
      children_has v.known v.owned b.table f b.owned (by_kind_has (kind_of v b.table) (words_of v b.table) f (omega arith) there')

  -- the count of a loose frame is 0
  pub loose_count : (id : ℕ) (v : View) → At views id v → (f : ℕ) → IsLoose v f → count_at m f ≡ 0
  loose_count id v at f loose =
      ⊎_elim
      (λ e. e)
      (λ ne. let held = rule.owned.held id v at f loose.owned ne in
      ⊎_elim (λ r. absurd (loose.unreferred r)) (λ b. absurd (loose.unnamed (named_child id v at f b))) held.by)
      (cases_eq (count_at m f) 0)

  -- a link that a view knows is a link of the words
  pub child_link : (id : ℕ) (v : View) → At views id v → (g x : ℕ) → Has g (reach v) → Has x (targets_of (known_of v.known g)) → (i : ℕ) × (i < 512) × (names m x g i ≡ true)
  child_link id v at g x h t =
      let a = rule.agrees id v at in
      let k = has_by_kind (kind_of v g) (words_of v g) x t in
      let p = has_targets (words_of v g) x k.1 in
      let len = a.whole g h in
      let lt : p.0 < 512 = omega (arith, p.1) in
      let w = a.word g p.0 h lt in
      let kind = a.kind g h in
      let tab = k.0 in
      (p.0, lt, names_true m x g p.0 (omega arith) (λ z. p.2 (sym w ∙ z)) (ap target w ∙ p.3))

  -- and the other way round
  pub link_child : (id : ℕ) (v : View) → At views id v → (g x i : ℕ) → Has g (reach v) → i < 512 → names m x g i ≡ true → Has x (targets_of (known_of v.known g))
  link_child id v at g x i h lt e =
      let a = rule.agrees id v at in
      let t = named m x g i e in
      let k = a.kind g h in
      let w = a.word g i h lt in
      let len = a.whole g h in
      let tab = t.0 in
      let there = targets_has (words_of v g) i (omega arith) (λ z. t.1 (w ∙ z)) in
      by_kind_has (kind_of v g) (words_of v g) x (omega arith)
      (subst (λ (y : ℕ). Has y (Rattle.frame_model.specs.Views.targets (words_of v g))) (sym (ap target w) ∙ t.2) there)

  -- a frame of count 0 has no link
  pub no_link : (x g i : ℕ) → x < n → g < n → i < 512 → count_at m x ≡ 0 → names m x g i ≡ true → ⊥
  no_link x g i lx lg lt z e =
      let a = rule.counted x lx in
      let b = links_some m x n g i lg lt e in
      absurd (omega arith)

  module _ (id : ℕ) (v : View) (at : At views id v) where
    -- an owned frame with a link has no reference, its one link is from an owned table
    pub one_holder : (x g i : ℕ) → Has x v.owned → Has g (reach v) → i < 512 → names m x g i ≡ true → (Has x v.references → ⊥) × Has g v.owned
    one_holder x g i o h lt e =
        let a = rule.agrees id v at in
        let lx = a.inside x (owned_reached v x o) in
        let lg = a.inside g h in
        let counted = rule.counted x lx in
        let some_link = links_some m x n g i lg lt e in
        let held = rule.owned.held id v at x o (λ z. no_link x g i lx lg lt z e) in
        let once = held.once in
        let all = total_at (λ u. times x u.references) views id v at in
        let unreferred : Has x v.references → ⊥ = λ r. let p = present x v.references r in absurd (omega arith) in (
          unreferred,
          ⊎_elim
              (λ r. absurd (unreferred r))
              (λ (b : IsNamedByOwn m v x). ⊎_elim
              (λ (same : g ≡ b.table). subst (λ (y : ℕ). Has y v.owned) (sym same) b.owned)
              (λ (ne : g ≡ b.table → ⊥).
              let two = links_two m x n g i b.table b.index lg lt (a.inside b.table (owned_reached v b.table b.owned)) b.inside ne e b.named in
              absurd (omega arith))
              (cases_eq g b.table))
              held.by,
        )

    -- an owned frame has one table that names it
    pub one_table : (x g i h j : ℕ) → Has x v.owned → Has g (reach v) → i < 512 → names m x g i ≡ true → Has h (reach v) → j < 512 → names m x h j ≡ true → g ≡ h
    one_table x g i h j o rg lt e rh lj d = ⊎_elim
        (λ same. same)
        (λ (ne : g ≡ h → ⊥).
        let a = rule.agrees id v at in
        let lx = a.inside x (owned_reached v x o) in
        let counted = rule.counted x lx in
        let once = (rule.owned.held id v at x o (λ z. no_link x g i lx (a.inside g rg) lt z e)).once in
        let two = links_two m x n g i h j (a.inside g rg) lt (a.inside h rh) lj ne e d in
        absurd (omega arith))
        (cases_eq g h)
