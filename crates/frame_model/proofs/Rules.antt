-- What the rule says of one view.
use Rattle.std.proofs.Common.{◌≡◌, ℕ, ◌+◌, ◌%◌, ◌<◌, ◌≤◌, ◌≢◌, List, ◌++◌, sym, ap, subst, ◌∙◌, ⊎_elim, arith}
use Rattle.std.proofs.lemmas.Bool.{cases_eq}
use Rattle.frame_model.specs.Words.{depth}
use Rattle.frame_model.specs.declared.view.View.{View}
use Rattle.frame_model.specs.Words.{Frames, kind_number, kind_at, IsMeta, IsEntryAt, target}
use Rattle.frame_model.specs.Views.{Has, known_of, kind_of, words_of, word_of, targets_of, within, reach, IsSound}
use Rattle.frame_model.specs.Rule.{At, Descends, FrameRule}
use Rattle.frame_model.proofs.Owners.{child_link, one_holder}
use Rattle.frame_model.proofs.Reach.{has_by_kind, by_kind_has, has_targets, targets_has, within_front, within_closed, within_empty, kind_number_most}

pub kind_most : (meta : ℕ) → IsMeta meta → meta % 8 ≤ 3
kind_most meta h = omega arith

module _ (n : ℕ) (m : Frames) (views : List View) (rule : FrameRule n m views) (id : ℕ) (v : View) (at : At views id v) where
  -- a word of a table that the view reaches, and that isn't 0, is an entry
  pub entry_at : (f i : ℕ) → Has f (reach v) → i < 512 → 0 < kind_number (kind_of v f) → word_of v f i ≢ 0 → Descends n m f i
  entry_at f i h lt table ne =
      let a = rule.agrees id v at in
      let k = a.kind f h in
      rule.descends f i (a.inside f h) lt (omega arith) (λ z. ne (sym (a.word f i h lt) ∙ z))

  -- a kind falls by one along each link
  pub falls : (f x : ℕ) → Has f (reach v) → Has x (targets_of (known_of v.known f)) → kind_at m x + 1 ≡ kind_at m f
  falls f x h t =
      let a = rule.agrees id v at in
      let k = has_by_kind (kind_of v f) (words_of v f) x t in
      let p = has_targets (words_of v f) x k.1 in
      let w = a.whole f h in
      let lt : p.0 < 512 = omega (arith, p.1) in
      let d = entry_at f p.0 h lt k.0 p.2 in
      let e : target (m.word f p.0) ≡ x = ap target (a.word f p.0 h lt) ∙ p.3 in
      subst (λ (y : ℕ). kind_at m y + 1 ≡ kind_at m f) e d.below

  -- what a link names is reached too
  pub closed : (f x : ℕ) → Has f (reach v) → Has x (targets_of (known_of v.known f)) → Has x (reach v)
  closed f x h t =
      let a = rule.agrees id v at in
      within_closed (λ (y : ℕ). kind_at m y) v.known depth (v.owned ++ v.references)
      (λ g hg. kind_most (m.meta g) (rule.kinds g (a.inside g (within_front v.known depth (v.owned ++ v.references) g hg))))
      falls
      f x h t

  -- a view that reaches a frame has a stake
  pub has_stake : (f : ℕ) → Has f (reach v) → 0 < v.stake
  has_stake f h = ⊎_elim
      (λ (none : v.stake ≡ 0).
      let s = (rule.stakes.each id v at).spent none in
      absurd (within_empty v.known depth f (subst (λ (p : List ℕ × List ℕ). Has f (within v.known depth (p.0 ++ p.1))) (λ k. (s.0 k, s.1 k)) h)))
      (λ (some : v.stake ≡ 0 → ⊥). omega arith)
      (cases_eq v.stake 0)

  pub sound : IsSound v
  sound =
      let a = rule.agrees id v at in
      record {
        inside = λ f h. subst (λ (k : ℕ). f < k) (sym (a.frames (has_stake f h))) (a.inside f h);
        whole = a.whole;
        entries = λ f i h lt table ne.
            let d = entry_at f i h lt table ne in
            let w = a.word f i h lt in
            let len = a.whole f h in
            let there : Has (target (word_of v f i)) (targets_of (known_of v.known f)) = by_kind_has (kind_of v f) (words_of v f) (target (word_of v f i)) table (targets_has (words_of v f) i (omega arith) ne) in
            let reached = closed f (target (word_of v f i)) h there in
            let below = falls f (target (word_of v f i)) h there in
            let one = a.kind f h in
            let two = a.kind (target (word_of v f i)) reached in
            record {
              form = subst (λ (p : ℕ × ℕ). IsEntryAt p.0 p.1) (λ k. (a.kind f h k, w k)) d.form;
              below = omega arith;
            };
        walled = λ f g o r away t.
            let l = child_link n m views rule id v at g f r t in
            away (one_holder n m views rule id v at f g l.0 o r l.1 l.2).1;
        single = λ f g o r t.
            let l = child_link n m views rule id v at g f r t in
            (one_holder n m views rule id v at f g l.0 o r l.1 l.2).0;
        once = rule.owned.once id v at;
        staked = rule.stakes.each id v at;
      }

-- what a link names is reached too, as the view itself tells
pub sound_closed : (v : View) → IsSound v → (f x : ℕ) → Has f (reach v) → Has x (targets_of (known_of v.known f)) → Has x (reach v)
sound_closed v is =
    within_closed (λ (y : ℕ). kind_number (kind_of v y)) v.known depth (v.owned ++ v.references)
    (λ g hg. let a = kind_number_most (kind_of v g) in omega arith)
    (λ f x h t.
    let k = has_by_kind (kind_of v f) (words_of v f) x t in
    let p = has_targets (words_of v f) x k.1 in
    let w = is.whole f h in
    let e = is.entries f p.0 h (omega (arith, p.1)) k.0 p.2 in
    subst (λ (y : ℕ). kind_number (kind_of v y) + 1 ≡ kind_number (kind_of v f)) p.3 e.below)
