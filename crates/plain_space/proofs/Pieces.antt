-- Pieces of ranges of addresses, which lie on one page each.
use Rattle.std.proofs.Common.{◌≡◌, ℕ, zero, suc, ◌+◌, ◌%◌, ◌^◌, ◌<◌, ◌≤◌}
use Rattle.std.proofs.Common.{Bool, true, false, ◌||◌, if◌then◌else◌, ◌==◌}
use Rattle.std.proofs.Common.{[], ◌∷◌, ◌++◌}
use Rattle.std.proofs.Common.{Option, None, Some, refl, sym, ap, ◌∙◌, arith}
use Rattle.std.proofs.Common.{append_assoc, append-nil}
use Rattle.image_model.specs.Pages.{page_of}
use Rattle.machine_model.specs.Machine.{address, least_failing, lesser}
use Rattle.machine_model.specs.Machine.{bytes_at, with_written}

-- ---- addresses

pub address-zero : (at : ℕ) → at < 2 ^ 64 → address at 0 ≡ at
address-zero at h = omega arith

pub address_below : (at i : ℕ) → address at i < 2 ^ 64
address_below at i = omega arith

pub address-address : (at i j : ℕ) → address (address at i) j ≡ address at (i + j)
address-address at i j = omega arith

-- addresses that are on the page of the first
pub address-on_page : (at i : ℕ) → at < 2 ^ 64 → at % 2 ^ 12 + i < 2 ^ 12 → address at i ≡ at + i
address-on_page at i h k = omega arith

pub page_of-on_page : (at i : ℕ) → at < 2 ^ 64 → at % 2 ^ 12 + i < 2 ^ 12
    → page_of (address at i) ≡ page_of at
page_of-on_page at i h k = rw (address-on_page at i h k) (omega arith)

pub offset-on_page : (at i : ℕ) → at < 2 ^ 64 → at % 2 ^ 12 + i < 2 ^ 12
    → address at i % 2 ^ 12 ≡ at % 2 ^ 12 + i
offset-on_page at i h k = rw (address-on_page at i h k) (omega arith)

-- ---- one piece after another

pub least_failing-none : (test : ℕ → Bool) (at : ℕ) → least_failing test at 0 ≡ None
unfolding least_failing
least_failing-none test at = refl

lesser-none : (a : Option ℕ) → lesser a None ≡ a
lesser-none None = refl
lesser-none (Some a) = refl

lesser-assoc : (a b c : Option ℕ) → lesser a (lesser b c) ≡ lesser (lesser a b) c
lesser-assoc None b c = refl
lesser-assoc (Some a) None c = refl
lesser-assoc (Some a) (Some b) None = refl
lesser-assoc (Some a) (Some b) (Some c) = ap Some (omega arith)

pub least_failing-append : (test : ℕ → Bool) (at n k : ℕ) → least_failing test at (n + k)
    ≡ lesser (least_failing test at n) (least_failing test (address at n) k)
unfolding least_failing
least_failing-append test at n zero =
    let e : n + 0 ≡ n = omega arith in
    rw e (sym (lesser-none (least_failing test at n)))
least_failing-append test at n (suc k) =
    let e : n + suc k ≡ suc (n + k) = omega arith in
    let before = least_failing-append test at n k in
    rw (e, before, address-address at n k) (sym (lesser-assoc (least_failing test at n)
    (least_failing test (address at n) k)
    (if test (address at (n + k)) then None else Some (address at (n + k)))))

pub bytes_at-none : (memory : ℕ → ℕ) (at : ℕ) → bytes_at memory at 0 ≡ []
unfolding bytes_at
bytes_at-none memory at = refl

pub bytes_at-append : (memory : ℕ → ℕ) (at n k : ℕ)
    → bytes_at memory at (n + k) ≡ bytes_at memory at n ++ bytes_at memory (address at n) k
unfolding bytes_at
bytes_at-append memory at n zero =
    let e : n + 0 ≡ n = omega arith in
    rw e (sym (append-nil (bytes_at memory at n)))
bytes_at-append memory at n (suc k) =
    let e : n + suc k ≡ suc (n + k) = omega arith in
    rw (e, bytes_at-append memory at n k, address-address at n k)
    (append_assoc (bytes_at memory at n) (bytes_at memory (address at n) k)
    (memory (address at (n + k)) ∷ []))

pub with_written-none : (at : ℕ) (written : ℕ → Bool) (page : ℕ)
    → with_written at 0 written page ≡ written page
unfolding with_written
with_written-none at written page = refl

or-assoc : (a b c : Bool) → (a || (b || c)) ≡ ((a || b) || c)
or-assoc true b c = refl
or-assoc false b c = refl

pub with_written-append : (at n k : ℕ) (written : ℕ → Bool) (page : ℕ)
    → with_written at (n + k) written page
    ≡ with_written (address at n) k (with_written at n written) page
unfolding with_written
with_written-append at n zero written page =
    let e : n + 0 ≡ n = omega arith in
    rw e refl
with_written-append at n (suc k) written page =
    let e : n + suc k ≡ suc (n + k) = omega arith in
    rw (e, with_written-append at n k written page, address-address at n k) refl

or_twice : (b : Bool) → (b || b) ≡ b
or_twice true = refl
or_twice false = refl

-- a piece on one page adds that page
pub with_written-piece : (at n : ℕ) (written : ℕ → Bool) (page : ℕ) → at < 2 ^ 64 → 0 < n
    → at % 2 ^ 12 + n ≤ 2 ^ 12
    → with_written at n written page ≡ (written page || page == page_of at)
unfolding with_written
with_written-piece at zero written page h some within = absurd (omega arith)
with_written-piece at (suc zero) written page h some within =
    rw (address-zero at h) refl
with_written-piece at (suc (suc n)) written page h some within =
    let before = with_written-piece at (suc n) written page h (omega arith) (omega arith) in
    rw (before, page_of-on_page at (suc n) h (omega arith))
    (sym (or-assoc (written page) (page == page_of at) (page == page_of at))
    ∙ ap (λ b. written page || b) (or_twice (page == page_of at)))

least_twice : (b : Bool) (a c : ℕ) → a ≤ c
    → lesser (if b then None else Some a) (if b then None else Some c)
    ≡ (if b then None else Some a)
least_twice true a c h = refl
least_twice false a c h = ap Some (omega arith)

-- a piece that may be accessed alike fails at its first address or at none
pub least_failing-piece : (test : ℕ → Bool) (at n : ℕ) → at < 2 ^ 64 → 0 < n
    → at % 2 ^ 12 + n ≤ 2 ^ 12 → ((i : ℕ) → i < n → test (address at i) ≡ test at)
    → least_failing test at n ≡ (if test at then None else Some at)
unfolding least_failing
least_failing-piece test at zero h some within same = absurd (omega arith)
least_failing-piece test at (suc zero) h some within same = rw (address-zero at h) refl
least_failing-piece test at (suc (suc n)) h some within same =
    let before = least_failing-piece test at (suc n) h (omega arith) (omega arith)
    (λ i lt. same i (omega arith)) in
    rw (before, same (suc n) (omega arith), address-on_page at (suc n) h (omega arith))
    (least_twice (test at) at (at + suc n) (omega arith))
