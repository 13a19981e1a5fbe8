-- Pages with file bytes, one after the other.
use Rattle.std.proofs.Common.{◌≡◌, ℕ, zero, suc, ◌+◌, ◌-◌, ◌^◌, ◌<◌, ◌≤◌, true, false, ◌&&◌}
use Rattle.std.proofs.Common.{List, [], ◌∷◌, ◌++◌, append_assoc, length, refl, sym, ap, ◌∙◌, arith}
use Rattle.std.specs.Prelude.{slice_index}
use Rattle.std.proofs.lemmas.Bool.{cond-true, cond-false, and_from, and_left, and_right}
use Rattle.std.proofs.lemmas.List.{append-nil}
use Rattle.image_model.specs.Pages.{page_start, page_limit}
use Rattle.image_model.specs.Permission.{Permission, is_some_permission}
use Rattle.image_model.specs.StartOf.{file_byte, file_bytes, has_file_byte, pages_of}
use Rattle.image_model.specs.declared.image.Segment.{Segment}
use Rattle.image_model.specs.declared.region.PageBytes.{PageBytes}

-- ---- the bytes of a page

pub file_bytes-one : (segments : List Segment) (at n : ℕ) (xs : List ℕ) → length xs ≡ n
    → ((i : ℕ) → i < n → slice_index xs i ≡ file_byte segments (at + i))
    → xs ≡ file_bytes segments at n
unfolding file_bytes
file_bytes-one segments at zero [] size h = refl
file_bytes-one segments at zero (x ∷ xs) size h = absurd (omega arith)
file_bytes-one segments at (suc n) [] size h = absurd (omega arith)
file_bytes-one segments at (suc n) (x ∷ xs) size h =
    let here : at + 0 ≡ at = omega arith in
    let first : x ≡ file_byte segments at = h 0 (omega arith) ∙ ap (file_byte segments) here in
    let others : xs ≡ file_bytes segments (at + 1) n = file_bytes-one segments (at + 1) n xs
    (omega arith)
    (λ i lt. let there : at + suc i ≡ at + 1 + i = omega arith in
    h (suc i) (omega arith) ∙ ap (file_byte segments) there) in
    λ j. first j ∷ others j

-- ---- the pages from a page on, by those from a later one on

abbrev page_with : List Segment → (page : ℕ) → PageBytes
page_with segments page = record {
  page = page;
  bytes = file_bytes segments (page_start page) (2 ^ 12);
}

pages_of-none : (segments : List Segment) (f : ℕ → Permission) (page : ℕ)
    → pages_of segments f page zero ≡ []
unfolding pages_of
pages_of-none segments f page = refl

pages_of-next : (segments : List Segment) (f : ℕ → Permission) (page n : ℕ)
    → (is_some_permission (f page) && has_file_byte segments page) ≡ true
    → pages_of segments f page (suc n)
    ≡ page_with segments page ∷ pages_of segments f (page + 1) n
unfolding pages_of
pages_of-next segments f page n h =
    let others = pages_of segments f (page + 1) n in
    cond-true (is_some_permission (f page) && has_file_byte segments page)
    (page_with segments page ∷ others) others h

pages_of-other : (segments : List Segment) (f : ℕ → Permission) (page n : ℕ)
    → (is_some_permission (f page) && has_file_byte segments page) ≡ false
    → pages_of segments f page (suc n) ≡ pages_of segments f (page + 1) n
unfolding pages_of
pages_of-other segments f page n h =
    let others = pages_of segments f (page + 1) n in
    cond-false (is_some_permission (f page) && has_file_byte segments page)
    (page_with segments page ∷ others) others h

-- pages without a file byte are left out
pages_of-later : (segments : List Segment) (f : ℕ → Permission) (page k n : ℕ)
    → ((q : ℕ) → page ≤ q → q < page + k → has_file_byte segments q ≡ false)
    → pages_of segments f page (k + n) ≡ pages_of segments f (page + k) n
pages_of-later segments f page zero n none =
    let same : page ≡ page + 0 = omega arith in
    let count : 0 + n ≡ n = omega arith in
    rw (count, ← same) refl
pages_of-later segments f page (suc k) n none =
    let count : suc k + n ≡ suc (k + n) = omega arith in
    let same : page + 1 + k ≡ page + suc k = omega arith in
    let here = none page (omega arith) (omega arith) in
    ap (pages_of segments f page) count
    ∙ pages_of-other segments f page (k + n) (and_right (is_some_permission (f page)) _ here)
    ∙ pages_of-later segments f (page + 1) k n (λ q le lt. none q (omega arith) (omega arith))
    ∙ ap (λ p. pages_of segments f p n) same

-- ---- the pages that were found so far

-- these and the pages from a page on are all
abbrev pub AreSoFar : List Segment → (f : ℕ → Permission) → (page : ℕ) → List PageBytes → Type 0
AreSoFar segments f page found = (n : ℕ) → page + n ≡ page_limit
    → pages_of segments f 0 page_limit ≡ found ++ pages_of segments f page n

pub none_so_far : (segments : List Segment) (f : ℕ → Permission) → AreSoFar segments f 0 []
none_so_far segments f = λ n up.
    let count : page_limit ≡ n = omega arith in
    ap (pages_of segments f 0) count

pub later_so_far : (segments : List Segment) (f : ℕ → Permission) (page next : ℕ)
    (found : List PageBytes) → page ≤ next
    → ((q : ℕ) → page ≤ q → q < next → has_file_byte segments q ≡ false)
    → AreSoFar segments f page found → AreSoFar segments f next found
later_so_far segments f page next found le none h = λ n up.
    let there : page + (next - page) ≡ next = omega arith in
    let skips = pages_of-later segments f page (next - page) n
    (λ q low lt. none q low (omega arith)) in
    h (next - page + n) (omega arith)
    ∙ ap (λ others. found ++ others) (skips ∙ ap (λ p. pages_of segments f p n) there)

pub page_so_far : (segments : List Segment) (f : ℕ → Permission) (page : ℕ)
    (found : List PageBytes) (p : PageBytes) → p.page ≡ page
    → p.bytes ≡ file_bytes segments (page_start page) (2 ^ 12)
    → is_some_permission (f page) ≡ true → has_file_byte segments page ≡ true
    → AreSoFar segments f page found → AreSoFar segments f (page + 1) (found ++ p ∷ [])
page_so_far segments f page found p number bytes some file h = λ n up.
    let others = pages_of segments f (page + 1) n in
    let same : page_with segments page ≡ p = λ i. record {
      page = sym number i;
      bytes = sym bytes i;
    } in
    h (suc n) (omega arith)
    ∙ ap (λ all. found ++ all) (pages_of-next segments f page n (and_from _ _ some file)
    ∙ ap (λ first. first ∷ others) same)
    ∙ sym (append_assoc found (p ∷ []) others)

pub other_so_far : (segments : List Segment) (f : ℕ → Permission) (page : ℕ)
    (found : List PageBytes) → is_some_permission (f page) ≡ false
    → AreSoFar segments f page found → AreSoFar segments f (page + 1) found
other_so_far segments f page found none h = λ n up.
    h (suc n) (omega arith)
    ∙ ap (λ all. found ++ all) (pages_of-other segments f page n (and_left _ _ none))

pub all_found : (segments : List Segment) (f : ℕ → Permission) (page : ℕ)
    (found : List PageBytes) → page ≤ page_limit → page_limit ≤ page
    → AreSoFar segments f page found → found ≡ pages_of segments f 0 page_limit
all_found segments f page found le ge h =
    sym (h 0 (omega arith) ∙ ap (λ all. found ++ all) (pages_of-none segments f page)
    ∙ append-nil found)
