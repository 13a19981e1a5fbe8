-- Every frame is reached, and a view that owns data alone has what no other reaches.
use Rattle.std.proofs.Common.{◌≡◌, ℕ, zero, suc, ◌+◌, ◌<◌, List, ◌++◌}
use Rattle.std.proofs.Common.{sym, ap, subst, ◌∙◌, ⊎_elim, arith}
use mathlib.Core.Option.{some-injective}
use Rattle.std.proofs.lemmas.Bool.{cases_eq}
use Rattle.frame_model.specs.declared.view.View.{View}
use Rattle.frame_model.specs.Words.{Frames, depth, kind_number, kind_at, count_at}
use Rattle.frame_model.specs.Views.{Has, times, known_of, kind_of, words_of, targets_of}
use Rattle.frame_model.specs.Views.{reach, IsLoose, OwnsDataAlone, whole_stake}
use Rattle.frame_model.specs.Rule.{At, NoOtherReaches, total, FrameRule}
use Rattle.frame_model.proofs.Counts.{link_below, some_referrer, total_two}
use Rattle.frame_model.proofs.Owners.{named, owned_reached, loose_count, link_child}
use Rattle.frame_model.proofs.Reach.{has_right, has_append, has_by_kind, has_children}
use Rattle.frame_model.proofs.Reach.{within_front, within_inside}
use Rattle.frame_model.proofs.Rules.{kind_most, closed, has_stake}

-- ---- what owns data alone

module _ (v : View) (lone : OwnsDataAlone v) where
  no_reference : (f : ℕ) → Has f v.references → ⊥
  no_reference f h = subst (λ (xs : List ℕ). Has f xs) lone.unreferring h

  no_target : (f x : ℕ) → Has f v.owned → Has x (targets_of (known_of v.known f)) → ⊥
  no_target f x own t =
      let k = has_by_kind (kind_of v f) (words_of v f) x t in
      let z = ap kind_number (lone.kinds f own) in
      let lt = k.0 in
      absurd (omega arith)

  -- what it reaches it owns
  pub lone_reach : (f : ℕ) → Has f (reach v) → Has f v.owned
  lone_reach f h = within_inside (λ (x : ℕ). Has x v.owned) v.known depth (v.owned ++ v.references)
      (λ x hx. ⊎_elim (λ o. o) (λ r. absurd (no_reference x r))
      (has_append x v.owned v.references hx))
      (λ x y o t. absurd (no_target x y o t))
      f h

  pub lone_loose : (f : ℕ) → Has f v.owned → IsLoose v f
  lone_loose f own = record {
    owned = own;
    unreferred = no_reference f;
    unnamed = λ h. let t = has_children v.known v.owned f h in no_target t.0 f t.1 t.2;
  }

module _ (n : ℕ) (m : Frames) (views : List View) (rule : FrameRule n m views) where
  -- ---- every frame is reached

  abbrev Covered : ℕ → Type 0
  Covered f = (id : ℕ) × (v : View) × At views id v × Has f (reach v)

  -- a reference reaches it, or a table that names it, which is reached
  covered_up : (k : ℕ) → ((g : ℕ) → g < n → depth < kind_at m g + k → Covered g)
      → (f : ℕ) → f < n → depth < kind_at m f + suc k → (count_at m f ≡ 0 → ⊥) → Covered f
  covered_up k above f lt most some_count = ⊎_elim
      (λ (none : total (λ v. times f v.references) views ≡ 0).
      let a = rule.counted f lt in
      let l = link_below m f n (omega arith) in
      let t = named m f l.0 l.1 l.4 in
      let d = rule.descends l.0 l.1 l.2 l.3 t.0 t.1 in
      let below : kind_at m f + 1 ≡ kind_at m l.0 =
      subst (λ (y : ℕ). kind_at m y + 1 ≡ kind_at m l.0) t.2 d.below in
      let r = above l.0 l.2 (omega arith) in (
        r.0,
        r.1,
        r.2,
        closed n m views rule r.0 r.1 r.2 l.0 f r.3
            (link_child n m views rule r.0 r.1 r.2 l.0 f l.1 r.3 l.3 l.4),
      ))
      (λ (some : total (λ v. times f v.references) views ≡ 0 → ⊥).
      let r = some_referrer f views (omega arith) in (
        r.0,
        r.1,
        r.2,
        within_front r.1.known depth (r.1.owned ++ r.1.references) f
            (has_right f r.1.owned r.1.references r.3),
      ))
      (cases_eq (total (λ v. times f v.references) views) 0)

  covered : (k f : ℕ) → f < n → depth < kind_at m f + k → Covered f
  covered zero f lt most = absurd (let a = kind_most (m.meta f) (rule.kinds f lt) in omega arith)
  covered (suc k) f lt most = ⊎_elim
      (λ (z : count_at m f ≡ 0).
      let a = rule.owned.loose f lt z in
      (a.0, a.1, a.2, owned_reached n m views rule a.1 f a.3))
      (λ (some : count_at m f ≡ 0 → ⊥).
      covered_up k (λ g lg far. covered k g lg far) f lt most some)
      (cases_eq (count_at m f) 0)

  pub some_reacher : (f : ℕ) → f < n
      → (id : ℕ) × (v : View) × At views id v × (0 < v.stake) × Has f (reach v)
  some_reacher f lt =
      let c = covered 4 f lt (omega arith) in
      (c.0, c.1, c.2, has_stake n m views rule c.0 c.1 c.2 f c.3, c.3)

  module _ (id : ℕ) (v : View) (at : At views id v) (lone : OwnsDataAlone v) where
    pub lone_owns : (f : ℕ) → Has f v.owned → (f < n) × NoOtherReaches views id f
    lone_owns f own = (
      (rule.agrees id v at).inside f (owned_reached n m views rule v f own),
      λ other w there ne r. rule.apart id other v w at there ne f own r,
    )

    pub lone_has : (f : ℕ) → f < n → NoOtherReaches views id f → Has f v.owned
    lone_has f lt none =
        let c = some_reacher f lt in
        ⊎_elim
        (λ (e : id ≡ c.0).
        let there : At views id c.1 = subst (λ (x : ℕ). At views x c.1) (sym e) c.2 in
        let same : c.1 ≡ v = some-injective c.1 v (sym there ∙ at) in
        lone_reach v lone f (subst (λ (x : View). Has f (reach x)) same c.4))
        (λ (ne : id ≡ c.0 → ⊥). absurd (none c.0 c.1 c.2 ne c.4))
        (cases_eq id c.0)

    -- with the whole stake no other view has anything
    whole_alone : v.stake ≡ whole_stake → (f : ℕ) → NoOtherReaches views id f
    whole_alone whole f other w there ne r =
        let two = total_two (λ u. u.stake) views id other v w at there ne in
        let all = rule.stakes.whole in
        let s = has_stake n m views rule other w there f r in
        absurd (omega arith)

    pub whole_owns : v.stake ≡ whole_stake → (f : ℕ) → f < n
        → IsLoose v f × (kind_at m f ≡ 0) × (count_at m f ≡ 0)
    whole_owns whole f lt =
        let own = lone_has f lt (whole_alone whole f) in
        let loose = lone_loose v lone f own in
        let kind = (rule.agrees id v at).kind f (owned_reached n m views rule v f own) in (
          loose,
          kind ∙ ap kind_number (lone.kinds f own),
          loose_count n m views rule id v at f loose,
        )
