-- What `if` gives at tests that are equal, joined or known, and tests of page numbers.
use Rattle.std.proofs.Common.{◌≡◌, ℕ, suc, ◌+◌, Bool, true, false, ◌&&◌, ◌||◌, nat_le, nat_lt, ◌==◌}
use Rattle.std.proofs.Common.{if◌then◌else◌, refl, sym, ◌∙◌, ap, arith}
use Rattle.std.proofs.lemmas.Bool.{cond_both, eqb-true}
use Rattle.std.proofs.lemmas.Bool.Decides.{nat_tests}

pub if_same : {A : Type 0} (a b : Bool) (x y : A) → a ≡ b
    → (if a then x else y) ≡ (if b then x else y)
if_same a b x y h = ap (λ t. if t then x else y) h

pub if_equal : {A : Type 0} (b : Bool) (x : A) → (if b then x else x) ≡ x
if_equal true x = refl
if_equal false x = refl

pub if_then : {A : Type 0} (b : Bool) (x y z : A) → (b ≡ true → x ≡ y)
    → (if b then x else z) ≡ (if b then y else z)
if_then true x y z h = h refl
if_then false x y z h = refl

pub if_and : {A : Type 0} (a b : Bool) (x z : A)
    → (if a then (if b then x else z) else z) ≡ (if a && b then x else z)
if_and true b x z = refl
if_and false b x z = refl

pub if_either : {A : Type 0} (a b : Bool) (x y z : A) → (a ≡ true → x ≡ y)
    → (if a || b then y else z) ≡ (if a then x else if b then y else z)
if_either true b x y z h = sym (h refl)
if_either false b x y z h = refl

pub ==-swap : (m n : ℕ) → (m == n) ≡ (n == m)
==-swap m n = grind (arith, nat_tests)

-- ---- whether a page is among so many from a page on

abbrev pub is_within : (page n q : ℕ) → Bool
is_within page n q = nat_le page q && nat_lt q (page + n)

pub none_within : (page q : ℕ) → is_within page 0 q ≡ false
none_within page q = grind (arith, nat_tests)

first_within : (page n q : ℕ) → is_within page (suc n) q ≡ ((q == page) || is_within (page + 1) n q)
first_within page n q = grind (arith, nat_tests)

below_within : (page n : ℕ) → is_within (page + 1) n page ≡ false
below_within page n = grind (arith, nat_tests)

pub within_0 : (n q : ℕ) → is_within 0 n q ≡ nat_lt q n
within_0 n q = grind (arith, nat_tests)

-- what the pages have, by what the first has and what the others have
pub if_first : {A : Type 0} (page n q : ℕ) (f : ℕ → A) (z : A)
    → (if q == page then f page else if is_within (page + 1) n q then f q else z)
    ≡ (if is_within page (suc n) q then f q else z)
if_first page n q f z =
    sym (if_either (q == page) (is_within (page + 1) n q) (f page) (f q) z
    (λ e. ap f (sym (eqb-true q page e))))
    ∙ if_same _ _ (f q) z (sym (first_within page n q))

-- the same where the first has what a page outside has
pub if_not_first : {A : Type 0} (page n q : ℕ) (f : ℕ → A) (z : A) → (q ≡ page → f page ≡ z)
    → (if is_within (page + 1) n q then f q else z) ≡ (if is_within page (suc n) q then f q else z)
if_not_first page n q f z h =
    cond_both (q == page) (f page) (if is_within (page + 1) n q then f q else z)
    (λ x. (if is_within (page + 1) n q then f q else z) ≡ x)
    (λ e. let same : q ≡ page = eqb-true q page e in rw (same, below_within) (sym (h same)))
    (λ _. refl)
    ∙ if_first page n q f z
