-- Sums by number, where one item is changed or added.
use Rattle.std.proofs.Common.{◌≡◌, ℕ, ◌+◌, ◌-◌, ◌≤◌, ◌==◌, Bool, true, false, cond, suc, zero}
use Rattle.std.proofs.Common.{List, [], ◌∷◌, ◌++◌, length, None, Some, refl, ◌∙◌, ap}
use Rattle.std.proofs.Common.{arith, subst}
use Rattle.std.specs.Prelude.{slice_set}
use Rattle.std.specs.List.{slice_get}
use Rattle.std.proofs.lemmas.Option.{none-some, same_Some}
use Rattle.journal_model.specs.State.{numbered}
use Rattle.journal_model.specs.Legal.{with_numbered}
use Rattle.journal_model.proofs.Recents.{same, differ}
use Rattle.journal_laws.specs.Sums.{sum_from}

set_at : {A : Type 0} (f : ℕ → A → ℕ) (n k : ℕ) (xs : List A) (x y : A) →
    slice_get xs k ≡ Some y →
    sum_from f n (slice_set xs k x) + f (n + k) y ≡ sum_from f n xs + f (n + k) x
unfolding sum_from
set_at f n k [] x y h = absurd (none-some y h)
set_at f n zero (z ∷ zs) x y h =
    let e : f n z ≡ f (n + 0) y =
    ap (f n) (same_Some z y h) ∙ ap (λ m. f m y) (omega arith) in
    let q : f n x ≡ f (n + 0) x = ap (λ m. f m x) (omega arith) in omega arith
set_at f n (suc k) (z ∷ zs) x y h =
    let r = set_at f (n + 1) k zs x y h in
    let e : n + 1 + k ≡ n + suc k = omega arith in
    let p : f (n + 1 + k) y ≡ f (n + suc k) y = ap (λ m. f m y) e in
    let q : f (n + 1 + k) x ≡ f (n + suc k) x = ap (λ m. f m x) e in
    omega arith

number_is : (n : ℕ) → (n == 0) ≡ false → 1 + (n - 1) ≡ n
number_is n h = let d : n ≡ 0 → ⊥ = differ n 0 h in grind arith

changed_at : {A : Type 0} (f : ℕ → A → ℕ) (b : Bool) (n : ℕ) (xs : List A) (x y : A) →
    (n == 0) ≡ b → cond b None (slice_get xs (n - 1)) ≡ Some y →
    sum_from f 1 (cond b xs (slice_set xs (n - 1) x)) + f n y ≡ sum_from f 1 xs + f n x
changed_at f true n xs x y e h = absurd (none-some y h)
changed_at f false n xs x y e h = let P : ℕ → Type 0 = λ m.
    sum_from f 1 (slice_set xs (n - 1) x) + f m y ≡ sum_from f 1 xs + f m x in
    subst P (number_is n e) (set_at f 1 (n - 1) xs x y h)

-- where the n-th is another, the sum is greater by the difference of the two
pub sum_changed : {A : Type 0} (f : ℕ → A → ℕ) (n : ℕ) (xs : List A) (x y : A) →
    numbered xs n ≡ Some y →
    sum_from f 1 (with_numbered n x xs) + f n y ≡ sum_from f 1 xs + f n x
unfolding numbered with_numbered
sum_changed f n xs x y h = changed_at f (n == 0) n xs x y refl h

added_at : {A : Type 0} (f : ℕ → A → ℕ) (n : ℕ) (xs : List A) (x : A) →
    sum_from f n (xs ++ x ∷ []) ≡ sum_from f n xs + f (n + length xs) x
unfolding sum_from
added_at f n [] x = let e : f n x ≡ f (n + 0) x = ap (λ m. f m x) (omega arith) in omega arith
added_at f n (z ∷ zs) x =
    let r = added_at f (n + 1) zs x in
    let e : f (n + 1 + length zs) x ≡ f (n + suc (length zs)) x =
    ap (λ m. f m x) (omega arith) in omega arith

-- where one more is added, what is said of it is added to the sum
pub sum_added : {A : Type 0} (f : ℕ → A → ℕ) (xs : List A) (x : A) →
    sum_from f 1 (xs ++ x ∷ []) ≡ sum_from f 1 xs + f (length xs + 1) x
sum_added f xs x = added_at f 1 xs x ∙ ap (λ m. sum_from f 1 xs + f m x) (omega arith)

most_at : {A : Type 0} (f g : ℕ → A → ℕ) (n : ℕ) (xs : List A) →
    ((k : ℕ) (x : A) → slice_get xs k ≡ Some x → f (n + k) x ≤ g (n + k) x) →
    sum_from f n xs ≤ sum_from g n xs
unfolding sum_from
most_at f g n [] h = omega arith
most_at f g n (z ∷ zs) h =
    let P : ℕ → Type 0 = λ m. f m z ≤ g m z in
    let here : f n z ≤ g n z = subst P (omega arith) (h 0 z refl) in
    let rest = most_at f g (n + 1) zs (λ k x e. let Q : ℕ → Type 0 = λ m. f m x ≤ g m x in
    subst Q (omega arith) (h (suc k) x e)) in
    omega arith

get_at : {A : Type 0} (b : Bool) (xs : List A) (k : ℕ) → ((1 + k) == 0) ≡ b →
    cond b None (slice_get xs (1 + k - 1)) ≡ slice_get xs k
get_at true xs k h = let e : 1 + k ≡ 0 = same (1 + k) 0 h in absurd (omega arith)
get_at false xs k h = ap (λ n. slice_get xs n) (omega arith)

pub get_numbered : {A : Type 0} (xs : List A) (k : ℕ) → numbered xs (1 + k) ≡ slice_get xs k
unfolding numbered
get_numbered xs k = get_at ((1 + k) == 0) xs k refl

-- a sum of no greater numbers is no greater
pub sum_most : {A : Type 0} (f g : ℕ → A → ℕ) (xs : List A) →
    ((n : ℕ) (x : A) → numbered xs n ≡ Some x → f n x ≤ g n x) →
    sum_from f 1 xs ≤ sum_from g 1 xs
sum_most f g xs h = most_at f g 1 xs (λ k x e. h (1 + k) x (get_numbered xs k ∙ e))

less_at : (a b : ℕ) → a ≤ b → b ≤ a → a ≡ b
less_at a b h k = omega arith

-- a sum of the same numbers is the same
pub sum_same : {A : Type 0} (f g : ℕ → A → ℕ) (xs : List A) →
    ((n : ℕ) (x : A) → numbered xs n ≡ Some x → f n x ≡ g n x) →
    sum_from f 1 xs ≡ sum_from g 1 xs
sum_same f g xs h = less_at (sum_from f 1 xs) (sum_from g 1 xs)
    (sum_most f g xs (λ n x e. let q : f n x ≡ g n x = h n x e in omega arith))
    (sum_most g f xs (λ n x e. let q : f n x ≡ g n x = h n x e in omega arith))
