-- A view that is cut in two keeps the rule.
use Rattle.std.proofs.Common.{◌≡◌, ℕ, zero, suc, ◌+◌, ◌<◌, ◌≤◌, ◌≢◌, ◌⊎◌, List, [], ◌∷◌, ◌++◌, length, set, refl, sym, subst, ◌∙◌, inl, inr, ⊎_elim, arith, length-set}
use mathlib.Core.Option.{some, some-ne-none, some-injective}
use lib.ListN.{get_elem?}
use Rattle.atomic_table.proofs.Lists.{at_set, set_here, set_else, at_longer, at_last}
use Rattle.std.proofs.lemmas.Bool.{cases_eq}
use Rattle.frame_model.specs.declared.view.View.{View}
use Rattle.frame_model.specs.Words.{Frames, count_at}
use Rattle.frame_model.specs.Views.{Has, times, Names, reach, part_of, IsStaked, IsSound}
use Rattle.frame_model.specs.Rule.{At, total, Agrees, IsHeldOnce, FrameRule}
use Rattle.frame_model.proofs.Counts.{total_set}
use Rattle.frame_words.proofs.News.{at_length, one_at}

pub at_snoc : {A : Type 0} (l : List A) (a b : A) (j : ℕ) → get_elem? (l ++ a ∷ []) j ≡ some b → (get_elem? l j ≡ some b) ⊎ ((j ≡ length l) × (a ≡ b))
at_snoc [] a b zero e = inr (refl, some-injective a b e)
at_snoc [] a b (suc j) e = absurd (some-ne-none b (sym e))
at_snoc (x ∷ xs) a b zero e = inl e
at_snoc (x ∷ xs) a b (suc j) e = ⊎_elim (λ h. inl h) (λ (t : (j ≡ length xs) × (a ≡ b)). inr (omega (arith, t.0), t.1)) (at_snoc xs a b j e)

pub total_snoc : (h : View → ℕ) (views : List View) (v : View) → total h (views ++ v ∷ []) ≡ total h views + h v
total_snoc h [] v = omega arith
total_snoc h (x ∷ xs) v = let r = total_snoc h xs v in omega arith

-- u has a part of what v has, and knows what v knows
pub record IsPart (v : View) (owned references : List ℕ) (stake : ℕ) : Type 0 where
  pub reached : (f : ℕ) → Has f (reach (part_of v owned references stake)) → Has f (reach v)
  pub own : (f : ℕ) → Has f owned → Has f v.owned
  pub refers : (f : ℕ) → Has f references → Has f v.references
  -- what is owned and names a frame of this part, and is reached from it, is in it too
  pub above : (f g : ℕ) → Has f owned → Has g v.owned
      → Has g (reach (part_of v owned references stake)) → Names v g f → Has g owned
  pub once : (f : ℕ) → times f owned ≤ 1
  pub staked : IsStaked (part_of v owned references stake)

pub part_sound : (v : View) (owned references : List ℕ) (stake : ℕ) → IsPart v owned references stake → IsSound v → IsSound (part_of v owned references stake)
part_sound v owned references stake part is = record {
  inside = λ f h. is.inside f (part.reached f h);
  whole = λ f h. is.whole f (part.reached f h);
  entries = λ f i h lt table ne. let e = is.entries f i (part.reached f h) lt table ne in record { form = e.form; below = e.below };
  walled = λ f g o r away t.
      is.walled f g (part.own f o) (part.reached g r) (λ gv. away (part.above f g o gv r t)) t;
  single = λ f g o r t ref.
      is.single f g (part.own f o) (part.reached g r) t (part.refers f ref);
  once = part.once;
  staked = part.staked;
}

part_agrees : (n : ℕ) (m : Frames) (v : View) (owned references : List ℕ) (stake : ℕ) → IsPart v owned references stake → 0 < v.stake → Agrees n m v → Agrees n m (part_of v owned references stake)
part_agrees n m v owned references stake part live a = record {
  frames = λ _. a.frames live;
  inside = λ f h. a.inside f (part.reached f h);
  whole = λ f h. a.whole f (part.reached f h);
  kind = λ f h. a.kind f (part.reached f h);
  word = λ f i h lt. a.word f i (part.reached f h) lt;
}

-- left and right have together what v has, each its own, and what is owned is held as it was
pub record IsParting (m : Frames) (v : View) (owned kept : List ℕ) (stake : ℕ) (given own : List ℕ) (gift : ℕ) : Type 0 where
  pub left : IsPart v owned kept stake
  pub right : IsPart v given own gift
  pub live : 0 < v.stake
  pub all : (f : ℕ) → Has f v.owned → Has f owned ⊎ Has f given
  pub left_owned : (f : ℕ) → Has f owned → Has f v.owned
  pub right_owned : (f : ℕ) → Has f given → Has f v.owned
  pub left_apart : (f : ℕ) → Has f owned → Has f (reach (part_of v given own gift)) → ⊥
  pub right_apart : (f : ℕ) → Has f given → Has f (reach (part_of v owned kept stake)) → ⊥
  pub references : (f : ℕ) → times f kept + times f own ≡ times f v.references
  pub left_held : (f : ℕ) → Has f owned → IsHeldOnce m v f → IsHeldOnce m (part_of v owned kept stake) f
  pub right_held : (f : ℕ) → Has f given → IsHeldOnce m v f → IsHeldOnce m (part_of v given own gift) f
  pub stakes : stake + gift ≡ v.stake

module _ (n : ℕ) (m : Frames) (views : List View) (rule : FrameRule n m views) (id : ℕ) (v : View) (at : At views id v)
    (owned kept : List ℕ) (stake : ℕ) (given own : List ℕ) (gift : ℕ) (p : IsParting m v owned kept stake given own gift) where
  left : View
  left = part_of v owned kept stake

  right : View
  right = part_of v given own gift

  now : List View
  now = set views id left ++ right ∷ []

  cases : (P : ℕ → View → Type 0) → P id left → P (length views) right → ((j : ℕ) (u : View) → j ≢ id → At views j u → P j u) → (j : ℕ) (u : View) → At now j u → P j u
  unfolding now
  cases P l r others j u e = ⊎_elim
      (λ was. ⊎_elim
      (λ (t : (j ≡ id) × (left ≡ u)). subst (λ (q : ℕ × View). P q.0 q.1) (λ k. (sym t.0 k, t.1 k)) l)
      (λ (t : (j ≢ id) × At views j u). others j u t.0 t.1)
      (at_set views id j left u was))
      (λ (t : (j ≡ length (set views id left)) × (right ≡ u)).
      subst (λ (q : ℕ × View). P q.0 q.1) (λ k. (sym (t.0 ∙ length-set views id left) k, t.1 k)) r)
      (at_snoc (set views id left) right u j e)

  at_left : At now id left
  unfolding now
  at_left = at_longer (set views id left) (right ∷ []) id left (set_here views id left (at_length views id v at))

  at_right : At now (length views) right
  unfolding now
  at_right = at_last (set views id left) right (length views) (length-set views id left)

  at_other : (j : ℕ) (u : View) → j ≢ id → At views j u → At now j u
  unfolding now
  at_other j u ne there = at_longer (set views id left) (right ∷ []) j u (set_else views id j left ne ∙ there)

  totals : (h : View → ℕ) → h left + h right ≡ h v → total h now ≡ total h views
  unfolding now
  totals h e = let a = total_set h views id v left at in let b = total_snoc h (set views id left) right in omega arith

  Apart : ℕ → View → Type 0
  Apart i u = (j : ℕ) (x : View) → At now j x → i ≢ j → (f : ℕ) → Has f u.owned → Has f (reach x) → ⊥

  apart : (i : ℕ) (u : View) → At now i u → Apart i u
  unfolding Apart left right
  apart = cases Apart
      (cases (λ j x. id ≢ j → (f : ℕ) → Has f owned → Has f (reach x) → ⊥)
      (λ ne f o r. ne refl)
      (λ ne f o r. p.left_apart f o r)
      (λ j x off there ne f o r. rule.apart id j v x at there ne f (p.left_owned f o) r))
      (cases (λ j x. length views ≢ j → (f : ℕ) → Has f given → Has f (reach x) → ⊥)
      (λ ne f o r. p.right_apart f o r)
      (λ ne f o r. ne refl)
      (λ j x off there ne f o r. rule.apart id j v x at there (λ e. off (sym e)) f (p.right_owned f o) r))
      (λ i u away here. cases (λ j x. i ≢ j → (f : ℕ) → Has f u.owned → Has f (reach x) → ⊥)
      (λ ne f o r. rule.apart i id u v here at away f o (p.left.reached f r))
      (λ ne f o r. rule.apart i id u v here at away f o (p.right.reached f r))
      (λ j x off there ne f o r. rule.apart i j u x here there ne f o r))

  loose : (f : ℕ) → f < n → count_at m f ≡ 0 → (j : ℕ) × (u : View) × At now j u × Has f u.owned
  unfolding left right
  loose f lt z =
      let a = rule.owned.loose f lt z in
      ⊎_elim
      (λ (e : a.0 ≡ id).
      let same : v ≡ a.1 = one_at views id v a.1 at (subst (λ (x : ℕ). At views x a.1) e a.2) in
      ⊎_elim
      (λ o. (id, left, at_left, o))
      (λ o. (length views, right, at_right, o))
      (p.all f (subst (λ (x : View). Has f x.owned) (sym same) a.3)))
      (λ (ne : a.0 ≢ id). (a.0, a.1, at_other a.0 a.1 ne a.2, a.3))
      (cases_eq a.0 id)

  kept_rule : FrameRule n m now
  unfolding left right Apart
  kept_rule = record {
    limit = rule.limit;
    agrees = cases (λ j u. Agrees n m u)
        (part_agrees n m v owned kept stake p.left p.live (rule.agrees id v at))
        (part_agrees n m v given own gift p.right p.live (rule.agrees id v at))
        (λ j u ne there. rule.agrees j u there);
    apart = λ i j u x e d ne. apart i u e j x d ne;
    counted = λ f lt. let a = rule.counted f lt in let b = totals (λ u. times f u.references) (p.references f) in omega arith;
    owned = record {
      loose = loose;
      held = cases (λ j u. (f : ℕ) → Has f u.owned → (count_at m f ≡ 0 → ⊥) → IsHeldOnce m u f)
          (λ f o ne. p.left_held f o (rule.owned.held id v at f (p.left_owned f o) ne))
          (λ f o ne. p.right_held f o (rule.owned.held id v at f (p.right_owned f o) ne))
          (λ j u ne there. rule.owned.held j u there);
      once = cases (λ j u. (f : ℕ) → times f u.owned ≤ 1) p.left.once p.right.once (λ j u ne there. rule.owned.once j u there);
    };
    descends = rule.descends;
    kinds = rule.kinds;
    stakes = record {
      each = cases (λ j u. IsStaked u) p.left.staked p.right.staked (λ j u ne there. rule.stakes.each j u there);
      whole = totals (λ u. u.stake) p.stakes ∙ rule.stakes.whole;
    };
  }

pub parting_kept : (n : ℕ) (m : Frames) (views : List View) → FrameRule n m views → (id : ℕ) (v : View) → At views id v
    → (owned kept : List ℕ) (stake : ℕ) (given own : List ℕ) (gift : ℕ) → IsParting m v owned kept stake given own gift
    → FrameRule n m (set views id (part_of v owned kept stake) ++ part_of v given own gift ∷ [])
unfolding now left right
parting_kept = kept_rule
