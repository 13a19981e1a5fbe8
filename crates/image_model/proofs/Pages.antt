-- The bytes that the pages of segments give.
use Rattle.std.proofs.Common.{◌≡◌, ℕ, zero, suc, ◌+◌, ◌%◌, ◌^◌, ◌<◌, true, false, nat_lt, ◌==◌}
use Rattle.std.proofs.Common.{◌&&◌, if◌then◌else◌, List, [], ◌∷◌, length, inl, inr, refl, ◌∙◌}
use Rattle.std.proofs.Common.{sym, ap, arith}
use Rattle.std.specs.Prelude.{slice_index}
use Rattle.std.proofs.lemmas.Bool.{cond_both, and_cases, and_parts, and_from, or_parts, eqb-true}
use Rattle.std.proofs.lemmas.Bool.{leb-true, ltb-true, lt-ltb, false_from_ne_true, true≢false}
use Rattle.image_model.specs.Layout.{byte_in}
use Rattle.image_model.specs.Pages.{page_of, page_start}
use Rattle.image_model.specs.Permission.{Permission, is_some_permission}
use Rattle.image_model.specs.StartOf.{is_on_page, has_byte, file_byte, has_file_byte, file_bytes}
use Rattle.image_model.specs.StartOf.{pages_of}
use Rattle.image_model.specs.declared.image.Segment.{Segment}
use Rattle.image_model.proofs.Within.{if_same, if_equal, if_then, if_and, ==-swap, is_within}
use Rattle.image_model.proofs.Within.{none_within, within_0, if_first, if_not_first}

-- ---- the bytes from an address on

pub file_bytes-length : (segments : List Segment) (at n : ℕ)
    → length (file_bytes segments at n) ≡ n
unfolding file_bytes
file_bytes-length segments at zero = refl
file_bytes-length segments at (suc n) = ap suc (file_bytes-length segments (at + 1) n)

file_bytes-at : (segments : List Segment) (at n i : ℕ) → i < n
    → slice_index (file_bytes segments at n) i ≡ file_byte segments (at + i)
unfolding file_bytes
file_bytes-at segments at zero i lt = absurd (omega arith)
file_bytes-at segments at (suc n) zero lt =
    let same : at ≡ at + 0 = omega arith in
    ap (file_byte segments) same
file_bytes-at segments at (suc n) (suc i) lt =
    let same : at + 1 + i ≡ at + suc i = omega arith in
    file_bytes-at segments (at + 1) n i (omega arith) ∙ ap (file_byte segments) same

file_bytes-page : (segments : List Segment) (page a : ℕ) → page_of a ≡ page
    → slice_index (file_bytes segments (page_start page) (2 ^ 12)) (a % 2 ^ 12)
    ≡ file_byte segments a
file_bytes-page segments page a h =
    let same : page_start page + a % 2 ^ 12 ≡ a = omega arith in
    file_bytes-at segments (page_start page) (2 ^ 12) (a % 2 ^ 12) (omega arith)
    ∙ ap (file_byte segments) same

-- ---- a page with no file byte

no_byte : (s : Segment) (page a : ℕ) → page_of a ≡ page
    → is_on_page s.at (length s.bytes) page ≡ false → has_byte s a ≡ false
no_byte s page a h off =
    false_from_ne_true _ (λ has.
    let parts = and_parts _ _ has in
    let low = leb-true s.at a parts.0 in
    let high = ltb-true a (s.at + length s.bytes) parts.1 in
    let some = lt-ltb 0 (length s.bytes) (omega arith) in
    let begins = lt-ltb s.at (page_start (page + 1)) (omega arith) in
    let ends = lt-ltb (page_start page) (s.at + length s.bytes) (omega arith) in
    true≢false (sym (and_from _ _ (and_from _ _ some begins) ends) ∙ off))

no_file_byte : (segments : List Segment) (page a : ℕ) → page_of a ≡ page
    → has_file_byte segments page ≡ false → file_byte segments a ≡ 0
no_file_byte [] page a h off = refl
no_file_byte (s ∷ ss) page a h off =
    let parts = or_parts _ _ off in
    if_same _ _ _ _ (no_byte s page a h parts.0) ∙ no_file_byte ss page a h parts.1

-- ---- the pages from a page on

abbrev given : List Segment → (ℕ → Permission) → (a page : ℕ) → ℕ
given segments f a page = if is_some_permission (f page) then file_byte segments a else 0

given-some : (segments : List Segment) (f : ℕ → Permission) (a page : ℕ)
    → is_some_permission (f page) ≡ true → file_byte segments a ≡ given segments f a page
given-some segments f a page h = if_same true _ (file_byte segments a) 0 (sym h)

given-none : (segments : List Segment) (f : ℕ → Permission) (a page : ℕ)
    → (is_some_permission (f page) && has_file_byte segments page) ≡ false → page_of a ≡ page
    → given segments f a page ≡ 0
given-none segments f a page h on =
    elim (and_cases _ _ h) [
      | inl none ↦ if_same _ false (file_byte segments a) 0 none
      | inr none ↦
          rw (no_file_byte segments page a on none) (if_equal (is_some_permission (f page)) 0)
    ]

-- an address has its file byte where its page is among them and has a permission
pages_of-byte : (segments : List Segment) (f : ℕ → Permission) (page n a : ℕ)
    → byte_in (pages_of segments f page n) a
    ≡ if is_within page n (page_of a) then given segments f a (page_of a) else 0
unfolding pages_of
pages_of-byte segments f page zero a = rw none_within
pages_of-byte segments f page (suc n) a =
    let others = pages_of segments f (page + 1) n in
    let bytes = file_bytes segments (page_start page) (2 ^ 12) in
    let byte = slice_index bytes (a % 2 ^ 12) in
    let other = byte_in others a in
    cond_both (is_some_permission (f page) && has_file_byte segments page)
    (record { page = page; bytes = bytes } ∷ others) others
    (λ all. byte_in all a
    ≡ if is_within page (suc n) (page_of a) then given segments f a (page_of a) else 0)
    (λ h. if_same _ _ byte other (==-swap page (page_of a))
    ∙ if_then (page_of a == page) byte (given segments f a page) other
    (λ e. file_bytes-page segments page a (eqb-true (page_of a) page e)
    ∙ given-some segments f a page (and_parts _ _ h).0)
    ∙ ap (λ x. if page_of a == page then given segments f a page else x)
    (pages_of-byte segments f (page + 1) n a)
    ∙ if_first page n (page_of a) (given segments f a) 0)
    (λ h. pages_of-byte segments f (page + 1) n a
    ∙ if_not_first page n (page_of a) (given segments f a) 0 (given-none segments f a page h))

pub pages_from_0 : (segments : List Segment) (f : ℕ → Permission) (n a : ℕ)
    → byte_in (pages_of segments f 0 n) a
    ≡ if nat_lt (page_of a) n && is_some_permission (f (page_of a)) then file_byte segments a else 0
pages_from_0 segments f n a =
    pages_of-byte segments f 0 n a
    ∙ if_same _ _ (given segments f a (page_of a)) 0 (within_0 n (page_of a))
    ∙ if_and (nat_lt (page_of a) n) (is_some_permission (f (page_of a))) (file_byte segments a) 0
