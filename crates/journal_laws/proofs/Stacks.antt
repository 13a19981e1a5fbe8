-- Stacks without doubles: what stands above a place, and what is kept.
use Rattle.std.proofs.Common.{◌≡◌, ℕ, ◌+◌, ◌<◌, ◌==◌, Bool, true, false, cond, suc, zero}
use Rattle.std.proofs.Common.{List, [], ◌∷◌, Option, None, Some, refl, sym, ◌∙◌, ap, arith}
use Rattle.std.proofs.Common.{subst, inl, inr, ◌⊎◌}
use Rattle.std.specs.List.{slice_get}
use Rattle.std.proofs.lemmas.Option.{none-some, same_Some}
use Rattle.journal_model.specs.State.{contains, layer_above, highest_kept, highest_of}
use Rattle.journal_model.proofs.Apart.{IsApart, Has}
use Rattle.journal_laws.specs.Stacks.{IsHighest, IsNoneKept, IsRising, RisesFrom}
use Rattle.journal_model.proofs.Recents.{same, differ}

pub get_has : (xs : List ℕ) (i j : ℕ) → slice_get xs i ≡ Some j → Has j xs
get_has [] i j h = absurd (none-some j h)
get_has (x ∷ xs) zero j h = inl (same_Some x j h)
get_has (x ∷ xs) (suc i) j h = inr (get_has xs i j h)

-- a number that stands in a list has a place there
pub has_get : (xs : List ℕ) (j : ℕ) → Has j xs → (i : ℕ) × (slice_get xs i ≡ Some j)
has_get [] j h = absurd h
has_get (x ∷ xs) j h = elim h
    [ inl e ↦ (0, ap Some e) | inr k ↦ (let p = has_get xs j k in (suc p.0, p.1)) ]

-- in a list without doubles a number has one place
pub one_place : (xs : List ℕ) (i j a : ℕ) → IsApart xs → slice_get xs i ≡ Some a →
    slice_get xs j ≡ Some a → i ≡ j
one_place [] i j a d h k = absurd (none-some a h)
one_place (x ∷ xs) zero zero a d h k = refl
one_place (x ∷ xs) zero (suc j) a d h k = absurd (d.0 (let P : ℕ → Type 0 = λ n. Has n xs in
    subst P (sym (same_Some x a h)) (get_has xs j a k)))
one_place (x ∷ xs) (suc i) zero a d h k = absurd (d.0 (let P : ℕ → Type 0 = λ n. Has n xs in
    subst P (sym (same_Some x a k)) (get_has xs i a h)))
one_place (x ∷ xs) (suc i) (suc j) a d h k = ap suc (one_place xs i j a d.1 h k)

above_first : (b : Bool) (a x : ℕ) (xs : List ℕ) → (x == a) ≡ b → x ≡ a →
    cond b (slice_get xs 0) (layer_above (Some a) xs) ≡ slice_get xs 0
above_first true a x xs e h = refl
above_first false a x xs e h = absurd (differ x a e h)

above_later : (b : Bool) (a x i : ℕ) (xs : List ℕ) → (x == a) ≡ b → (x ≡ a → ⊥) →
    layer_above (Some a) xs ≡ slice_get xs (suc i) →
    cond b (slice_get xs 0) (layer_above (Some a) xs) ≡ slice_get xs (suc i)
above_later true a x i xs e n h = absurd (n (same x a e))
above_later false a x i xs e n h = h

above_at_next : (stack : List ℕ) (i a : ℕ) → IsApart stack → slice_get stack i ≡ Some a →
    layer_above (Some a) stack ≡ slice_get stack (suc i)
unfolding layer_above
above_at_next [] i a d h = absurd (none-some a h)
above_at_next (x ∷ xs) zero a d h = above_first (x == a) a x xs refl (same_Some x a h)
above_at_next (x ∷ xs) (suc i) a d h = above_later (x == a) a x i xs refl
    (λ e. d.0 (let P : ℕ → Type 0 = λ n. Has n xs in subst P (sym e) (get_has xs i a h)))
    (above_at_next xs i a d.1 h)

-- what stands directly above the layer at a place of a stack is the layer at the next place
pub above_at : (stack : List ℕ) (i a : ℕ) → IsApart stack → slice_get stack i ≡ Some a →
    layer_above (Some a) stack ≡ slice_get stack (i + 1)
above_at stack i a d h =
    above_at_next stack i a d h ∙ ap (λ n. slice_get stack n) (omega arith)

-- the layer above a layer, and both places
pub record Stands (stack : List ℕ) (a k : ℕ) : Type 0 where
  pub at : ℕ
  pub lower : slice_get stack at ≡ Some a
  pub upper : slice_get stack (suc at) ≡ Some k

stands_here : (b : Bool) (a k x : ℕ) (xs : List ℕ) → (x == a) ≡ b →
    (layer_above (Some a) xs ≡ Some k → Stands xs a k) →
    cond b (slice_get xs 0) (layer_above (Some a) xs) ≡ Some k → Stands (x ∷ xs) a k
stands_here true a k x xs e f h =
    record { at = 0; lower = ap Some (same x a e); upper = h }
stands_here false a k x xs e f h = let s = f h in
    record { at = suc s.at; lower = s.lower; upper = s.upper }

pub above_stands : (stack : List ℕ) (a k : ℕ) → layer_above (Some a) stack ≡ Some k →
    Stands stack a k
unfolding layer_above
above_stands [] a k h = absurd (none-some k h)
above_stands (x ∷ xs) a k h =
    stands_here (x == a) a k x xs refl (above_stands xs a k) h

next_same : (i j : ℕ) → suc i ≡ suc j → i ≡ j
next_same i j h = omega arith

-- a layer is directly above one place only
pub above_once : (stack : List ℕ) (p q : Option ℕ) (k : ℕ) → IsApart stack →
    layer_above p stack ≡ Some k → layer_above q stack ≡ Some k → p ≡ q
unfolding layer_above
above_once stack None None k d h m = refl
above_once stack None (Some b) k d h m = let s = above_stands stack b k m in
    let e : 0 ≡ suc s.at = one_place stack 0 (suc s.at) k d h s.upper in absurd (omega arith)
above_once stack (Some a) None k d h m = let s = above_stands stack a k h in
    let e : 0 ≡ suc s.at = one_place stack 0 (suc s.at) k d m s.upper in absurd (omega arith)
above_once stack (Some a) (Some b) k d h m =
    let s = above_stands stack a k h in let t = above_stands stack b k m in
    let e : s.at ≡ t.at = next_same s.at t.at
    (one_place stack (suc s.at) (suc t.at) k d s.upper t.upper) in
    sym s.lower ∙ (ap (λ n. slice_get stack n) e ∙ t.lower)

none_here : (b : Bool) (kept : List ℕ) (x : ℕ) (xs : List ℕ) → contains x kept ≡ b →
    IsNoneKept kept xs → cond b (Some x) None ≡ None → IsNoneKept kept (x ∷ xs)
none_here true kept x xs e r h j m g = absurd (none-some x (sym h))
none_here false kept x xs e r h j zero g = ap (λ n. contains n kept) (sym (same_Some x j g)) ∙ e
none_here false kept x xs e r h j (suc m) g = r j m g

none_on : (kept : List ℕ) (x : ℕ) (xs : List ℕ) (o : Option ℕ) →
    (o ≡ None → IsNoneKept kept xs) → highest_of kept x o ≡ None → IsNoneKept kept (x ∷ xs)
none_on kept x xs None r h = none_here (contains x kept) kept x xs refl (r refl) h
none_on kept x xs (Some j) r h = absurd (none-some j (sym h))

pub highest_none : (kept stack : List ℕ) → highest_kept kept stack ≡ None →
    IsNoneKept kept stack
unfolding highest_kept
highest_none kept [] h = λ j m g. absurd (none-some j g)
highest_none kept (x ∷ xs) h =
    none_on kept x xs (highest_kept kept xs) (highest_none kept xs) h

highest_here : (b : Bool) (kept : List ℕ) (x k : ℕ) (xs : List ℕ) → contains x kept ≡ b →
    IsNoneKept kept xs → cond b (Some x) None ≡ Some k → IsHighest kept (x ∷ xs) k
highest_here true kept x k xs e r h = record {
  at = 0;
  place = h;
  kept_one = ap (λ n. contains n kept) (sym (same_Some x k h)) ∙ e;
  above = λ j m. highest_rest j m;
} where
  highest_rest : (j m : ℕ) → 0 < m → slice_get (x ∷ xs) m ≡ Some j → contains j kept ≡ false
  highest_rest j zero l g = absurd (omega arith)
  highest_rest j (suc m) l g = r j m g
highest_here false kept x k xs e r h = absurd (none-some k h)

highest_later : (kept : List ℕ) (x k : ℕ) (xs : List ℕ) → IsHighest kept xs k →
    IsHighest kept (x ∷ xs) k
highest_later kept x k xs r = record {
  at = suc r.at;
  place = r.place;
  kept_one = r.kept_one;
  above = λ j m. later_rest j m;
} where
  later_rest : (j m : ℕ) → suc r.at < m → slice_get (x ∷ xs) m ≡ Some j → contains j kept ≡ false
  later_rest j zero l g = absurd (omega arith)
  later_rest j (suc m) l g = r.above j m (omega arith) g

highest_on : (kept : List ℕ) (x k : ℕ) (xs : List ℕ) (o : Option ℕ) →
    (o ≡ None → IsNoneKept kept xs) → ((j : ℕ) → o ≡ Some j → IsHighest kept xs j) →
    highest_of kept x o ≡ Some k → IsHighest kept (x ∷ xs) k
highest_on kept x k xs None r f h =
    highest_here (contains x kept) kept x k xs refl (r refl) h
highest_on kept x k xs (Some j) r f h = highest_later kept x k xs (f k h)

pub highest_is : (kept stack : List ℕ) (k : ℕ) → highest_kept kept stack ≡ Some k →
    IsHighest kept stack k
unfolding highest_kept
highest_is kept [] k h = absurd (none-some k h)
highest_is kept (x ∷ xs) k h = highest_on kept x k xs (highest_kept kept xs)
    (highest_none kept xs) (highest_is kept xs) h

-- and the other way
highest_of_none : (kept stack : List ℕ) (o : Option ℕ) → highest_kept kept stack ≡ o →
    IsNoneKept kept stack → o ≡ None
highest_of_none kept stack None e r = refl
highest_of_none kept stack (Some k) e r = let i = highest_is kept stack k e in
    let f : true ≡ false = sym i.kept_one ∙ r k i.at i.place in absurd (cc)

pub none_highest : (kept stack : List ℕ) → IsNoneKept kept stack →
    highest_kept kept stack ≡ None
none_highest kept stack r = highest_of_none kept stack (highest_kept kept stack) refl r

highest_of_some : (kept stack : List ℕ) (k : ℕ) (o : Option ℕ) → highest_kept kept stack ≡ o →
    IsHighest kept stack k → o ≡ Some k
highest_of_some kept stack k None e i =
    let f : true ≡ false = sym i.kept_one ∙ highest_none kept stack e k i.at i.place in
    absurd (cc)
highest_of_some kept stack k (Some j) e i = let g = highest_is kept stack j e in
    elim (order g.at i.at) [
      | inl l ↦ absurd (let f : true ≡ false =
          sym i.kept_one ∙ g.above k i.at l i.place in cc)
      | inr m ↦ elim m [
        | inl l ↦ absurd (let f : true ≡ false =
            sym g.kept_one ∙ i.above j g.at l g.place in cc)
        | inr e ↦ sym g.place ∙ (ap (λ n. slice_get stack n) e ∙ i.place)
      ]
    ] where
      order : (a b : ℕ) → (a < b) ⊎ ((b < a) ⊎ (a ≡ b))
      order zero zero = inr (inr refl)
      order zero (suc b) = inl (omega arith)
      order (suc a) zero = inr (inl (omega arith))
      order (suc a) (suc b) = elim (order a b) [
        | inl l ↦ inl (omega arith)
        | inr m ↦ elim m [ inl l ↦ inr (inl (omega arith)) | inr e ↦ inr (inr (ap suc e)) ]
      ]

pub is_highest : (kept stack : List ℕ) (k : ℕ) → IsHighest kept stack k →
    highest_kept kept stack ≡ Some k
is_highest kept stack k i = highest_of_some kept stack k (highest_kept kept stack) refl i

-- what comes after a number in a list that rises from it is greater
rises_above : (x z : ℕ) (ys : List ℕ) → RisesFrom x ys → Has z ys → x < z
rises_above x z [] r h = absurd h
rises_above x z (y ∷ ys) r h = let l : x < y = r.0 in elim h [
  | inl e ↦ omega arith
  | inr k ↦ (let m : y < z = rises_above y z ys r.1 k in omega arith)
]

rises_distinct : (x : ℕ) (ys : List ℕ) → RisesFrom x ys → IsApart (x ∷ ys)
rises_distinct x [] r = (λ h. h, tt)
rises_distinct x (y ∷ ys) r = (
  λ h. (let l = rises_above x x (y ∷ ys) r h in absurd (omega arith)),
  rises_distinct y ys r.1,
)

-- a list that rises has no number twice
pub rising_distinct : (xs : List ℕ) → IsRising xs → IsApart xs
rising_distinct [] r = tt
rising_distinct (x ∷ xs) r = rises_distinct x xs r
