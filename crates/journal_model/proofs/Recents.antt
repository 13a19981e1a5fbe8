-- Lists of numbers without doubles.
use Rattle.std.proofs.Common.{◌≡◌, ℕ, ◌+◌, ◌-◌, ◌≤◌, ◌==◌, ◌||◌, Bool, true, false, cond, suc}
use Rattle.std.proofs.Common.{zero, inl, inr}
use Rattle.std.proofs.Common.{List, [], ◌∷◌, length, Option, None, Some, refl, sym, ◌∙◌, ap}
use Rattle.std.proofs.Common.{arith, subst}
use Rattle.std.proofs.lemmas.Bool.Decides.{nat_tests}
use Rattle.std.proofs.lemmas.Option.{none-some, same_Some}
use Rattle.std.specs.List.{slice_get, find}
use Rattle.journal_model.specs.State.{contains, without, last_of, is_just, highest_kept, highest_of}
use Rattle.journal_model.proofs.Apart.{IsApart, Has}

pub same : (a b : ℕ) → (a == b) ≡ true → a ≡ b
same a b h = grind (arith, nat_tests)

pub differ : (a b : ℕ) → (a == b) ≡ false → a ≡ b → ⊥
differ a b h e = grind (arith, nat_tests)

has_at : (b : Bool) (x y : ℕ) (ys : List ℕ) (rest : Bool) → (b ≡ true → y ≡ x) →
    (rest ≡ true → Has x ys) → (b || rest) ≡ true → Has x (y ∷ ys)
has_at true x y ys rest f g h = inl (f refl)
has_at false x y ys rest f g h = inr (g h)

pub has : (x : ℕ) (xs : List ℕ) → contains x xs ≡ true → Has x xs
unfolding contains
has x [] h = absurd (cc)
has x (y ∷ ys) h = has_at (y == x) x y ys (contains x ys) (same y x) (has x ys) h

absent_at : (b : Bool) (x y : ℕ) (ys : List ℕ) (rest : Bool) → (b ≡ false → y ≡ x → ⊥) →
    (rest ≡ false → Has x ys → ⊥) → (b || rest) ≡ false → Has x (y ∷ ys) → ⊥
absent_at true x y ys rest f g h k = absurd (cc)
absent_at false x y ys rest f g h k = elim k [ inl e ↦ f refl e | inr l ↦ g h l ]

pub absent : (x : ℕ) (xs : List ℕ) → contains x xs ≡ false → Has x xs → ⊥
unfolding contains
absent x [] h k = k
absent x (y ∷ ys) h k =
    absent_at (y == x) x y ys (contains x ys) (differ y x) (absent x ys) h k

less_at : (b : Bool) (y z : ℕ) (ys w : List ℕ) → (Has z w → Has z ys) →
    Has z (cond b ys (y ∷ w)) → Has z (y ∷ ys)
less_at true y z ys w f h = inr h
less_at false y z ys w f h = elim h [ inl e ↦ inl e | inr k ↦ inr (f k) ]

-- what stands in a list without a number stood in the list
pub without_less : (x z : ℕ) (ys : List ℕ) → Has z (without x ys) → Has z ys
unfolding without
without_less x z [] h = h
without_less x z (y ∷ ys) h = less_at (y == x) y z ys (without x ys) (without_less x z ys) h

gone_at : (b : Bool) (x y : ℕ) (ys w : List ℕ) → (b ≡ true → y ≡ x) → (b ≡ false → y ≡ x → ⊥) →
    (Has y ys → ⊥) → (Has x w → ⊥) → Has x (cond b ys (y ∷ w)) → ⊥
gone_at true x y ys w f g a r h =
    let P : ℕ → Type 0 = λ n. Has n ys in a (subst P (sym (f refl)) h)
gone_at false x y ys w f g a r h = elim h [ inl e ↦ g refl e | inr k ↦ r k ]

-- the number is gone
pub without_gone : (x : ℕ) (ys : List ℕ) → IsApart ys → Has x (without x ys) → ⊥
unfolding without
without_gone x [] d h = h
without_gone x (y ∷ ys) d h =
    gone_at (y == x) x y ys (without x ys) (same y x) (differ y x) d.0 (without_gone x ys d.1) h

distinct_at : (b : Bool) (y : ℕ) (ys w : List ℕ) → IsApart ys → IsApart w →
    (Has y w → ⊥) → IsApart (cond b ys (y ∷ w))
distinct_at true y ys w d e f = d
distinct_at false y ys w d e f = (f, e)

pub without_distinct : (x : ℕ) (ys : List ℕ) → IsApart ys → IsApart (without x ys)
unfolding without
without_distinct x [] d = d
without_distinct x (y ∷ ys) d = distinct_at (y == x) y ys (without x ys) d.1
    (without_distinct x ys d.1) (λ h. d.0 (without_less x y ys h))

most_at : (b : Bool) (y : ℕ) (ys w : List ℕ) → length w ≤ length ys →
    length (cond b ys (y ∷ w)) ≤ length (y ∷ ys)
most_at true y ys w h = omega arith
most_at false y ys w h = omega arith

pub without_most : (x : ℕ) (ys : List ℕ) → length (without x ys) ≤ length ys
unfolding without
without_most x [] = omega arith
without_most x (y ∷ ys) = most_at (y == x) y ys (without x ys) (without_most x ys)

fewer_at : (b : Bool) (x y : ℕ) (ys w : List ℕ) → (b ≡ false → y ≡ x → ⊥) →
    (Has x ys → length w + 1 ≡ length ys) → Has x (y ∷ ys) →
    length (cond b ys (y ∷ w)) + 1 ≡ length (y ∷ ys)
fewer_at true x y ys w g f h = omega arith
fewer_at false x y ys w g f h = elim h
    [ inl e ↦ absurd (g refl e) | inr k ↦ (let l : length w + 1 ≡ length ys = f k in omega arith) ]

-- one fewer, where the number stood there
pub without_fewer : (x : ℕ) (ys : List ℕ) → Has x ys → length (without x ys) + 1 ≡ length ys
unfolding without
without_fewer x [] h = absurd h
without_fewer x (y ∷ ys) h =
    fewer_at (y == x) x y ys (without x ys) (differ y x) (without_fewer x ys) h

get_has : (xs : List ℕ) (i j : ℕ) → slice_get xs i ≡ Some j → Has j xs
get_has [] i j h = absurd (none-some j h)
get_has (x ∷ xs) zero j h = inl (same_Some x j h)
get_has (x ∷ xs) (suc i) j h = inr (get_has xs i j h)

pub just : (o : Option ℕ) (n : ℕ) → is_just o n ≡ true → o ≡ Some n
just None n h = absurd (cc)
just (Some m) n h = ap Some (same m n h)

-- the last of a list stands in it
pub last_has : (xs : List ℕ) (j : ℕ) → is_just (last_of xs) j ≡ true → Has j xs
last_has xs j h = get_has xs (length xs - 1) j (just (last_of xs) j h)

found_at : (b : Bool) (p : ℕ → Bool) (x c : ℕ) (xs : List ℕ) → (find p xs ≡ Some c → Has c xs) →
    cond b (Some x) (find p xs) ≡ Some c → Has c (x ∷ xs)
found_at true p x c xs f h = inl (same_Some x c h)
found_at false p x c xs f h = inr (f h)

pub found_has : (p : ℕ → Bool) (xs : List ℕ) (c : ℕ) → find p xs ≡ Some c → Has c xs
found_has p [] c h = absurd (none-some c h)
found_has p (x ∷ xs) c h = found_at (p x) p x c xs (found_has p xs c) h

higher_has : (kept : List ℕ) (k j : ℕ) (b : Bool) (o : Option ℕ) → (b ≡ true → Has k kept) →
    (o ≡ Some j → Has j kept) → contains k kept ≡ b → highest_of kept k o ≡ Some j → Has j kept
higher_has kept k j b (Some i) f g e h = g h
higher_has kept k j true None f g e h =
    let P : ℕ → Type 0 = λ n. Has n kept in
    let q : cond (contains k kept) (Some k) None ≡ Some k = rw e refl in
    subst P (same_Some k j (sym q ∙ h)) (f refl)
higher_has kept k j false None f g e h =
    let q : cond (contains k kept) (Some k) None ≡ None = rw e refl in
    absurd (none-some j (sym q ∙ h))

-- the highest kept layer is kept
pub highest_has : (kept stack : List ℕ) (j : ℕ) → highest_kept kept stack ≡ Some j → Has j kept
unfolding highest_kept
highest_has kept [] j h = absurd (none-some j h)
highest_has kept (k ∷ ks) j h = higher_has kept k j (contains k kept) (highest_kept kept ks)
    (has k kept) (highest_has kept ks j) refl h
