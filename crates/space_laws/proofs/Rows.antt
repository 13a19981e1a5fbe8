-- Pages in a row, which a write of a range that doesn't go round adds.
use Rattle.std.proofs.Common.{◌≡◌, ℕ, zero, suc, ◌+◌, ◌-◌, ◌^◌, ◌<◌, ◌≤◌, Bool}
use Rattle.std.proofs.Common.{◌&&◌, ◌||◌, ◌==◌, ◌∙◌, arith}
use Rattle.std.specs.Prelude.{nat_le, nat_lt}
use Rattle.std.proofs.lemmas.Bool.Decides.{nat_tests}
use Rattle.image_model.specs.Pages.{page_of}
use Rattle.machine_model.specs.Machine.{address, with_written}
use Rattle.space_laws.specs.Growth.{with_page, with_pages, pages_across}

pub row-none : (written : ℕ → Bool) (first page : ℕ)
    → with_pages first 0 written page ≡ written page
row-none written first page = grind (arith, nat_tests)

pub row-more : (written : ℕ → Bool) (first n page : ℕ)
    → with_pages first (n + 1) written page
    ≡ with_page (first + n) (with_pages first n written) page
row-more written first n page = grind (arith, nat_tests)

-- the pages from the first to the last, over plain numbers
one_page : (was : Bool) (first page : ℕ)
    → (was || page == first) ≡ (was || (nat_le first page && nat_le page first))
one_page was first page = grind (arith, nat_tests)

page_after : (was : Bool) (first last next page : ℕ) → first ≤ last → last ≤ next
    → next ≤ last + 1
    → ((was || (nat_le first page && nat_le page last)) || page == next)
    ≡ (was || (nat_le first page && nat_le page next))
page_after was first last next page le up few = grind (arith, nat_tests)

to_last : (written : ℕ → Bool) (at n page : ℕ) → at + n < 2 ^ 64
    → with_written at (suc n) written page
    ≡ (written page || (nat_le (page_of at) page && nat_le page (page_of (at + n))))
unfolding with_written
to_last written at zero page lt =
    let here : address at 0 ≡ at = omega arith in
    let last : at + 0 ≡ at = omega arith in
    rw (here, last) (one_page (written page) (page_of at) page)
to_last written at (suc n) page lt =
    let here : address at (suc n) ≡ at + suc n = omega arith in
    rw (to_last written at n page (omega arith), here)
    (page_after (written page) (page_of at) (page_of (at + n)) (page_of (at + suc n)) page
    (omega arith) (omega arith) (omega arith))

across : (was : Bool) (first last page : ℕ) → first ≤ last
    → (was || (nat_le first page && nat_le page last))
    ≡ (was || (nat_le first page && nat_lt page (first + (last + 1 - first))))
across was first last page le = grind (arith, nat_tests)

pub write-row : (written : ℕ → Bool) (at n page : ℕ) → 0 < n → at + n ≤ 2 ^ 64
    → with_written at n written page
    ≡ with_pages (page_of at) (pages_across at n) written page
write-row written at zero page some fits = absurd (omega arith)
write-row written at (suc n) page some fits =
    let last : at + suc n - 1 ≡ at + n = omega arith in
    rw last (to_last written at n page (omega arith)
    ∙ across (written page) (page_of at) (page_of (at + n)) page (omega arith))
