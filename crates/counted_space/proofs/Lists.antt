-- Lists of pages as sets, and the frames of a row of pages more.
use Rattle.std.proofs.Common.{◌≡◌, ℕ, ◌+◌, ◌-◌, ◌*◌, ◌/◌, ◌^◌, ◌<◌, ◌≤◌}
use Rattle.std.proofs.Common.{Bool, true, false, ◌&&◌, ◌||◌, ◌==◌, List, [], ◌∷◌, ◌++◌}
use Rattle.std.proofs.Common.{inl, inr, refl, sym, ap, ◌∙◌, arith}
use Rattle.std.specs.Prelude.{nat_le, nat_lt}
use Rattle.std.specs.List.{list_any}
use Rattle.std.proofs.lemmas.Bool.{or_cases, or_left, or_right}
use Rattle.std.proofs.lemmas.Bool.Decides.{nat_tests}
use Rattle.std.proofs.Math.Nat.{div-mul-le_self, lt-div-mul-add}
use Rattle.image_model.specs.Pages.{page_of, page_limit}
use Rattle.machine_model.specs.Machine.{with_written}
use Rattle.space_api.specs.Frames.{some_written, frames_of}
use Rattle.space_laws.specs.Growth.{with_page, with_pages, none_yet, page_need, pages_across}
use Rattle.space_laws.proofs.Rows.{row-none, row-more, write-row}
use Rattle.space_laws.proofs.Spans.{bool_by, some-by, some-from}
use Rattle.space_laws.proofs.Spans.{frames-more, frames-same, page-there}
use Rattle.counted_space.specs.Marks.{is_marked, has_between}

-- ---- lists

any-by : (test : ℕ → Bool) (pages : List ℕ) → list_any test pages ≡ true
    → (p : ℕ) × (is_marked pages p ≡ true) × (test p ≡ true)
any-by test [] e = cc
any-by test (p ∷ ps) e =
    elim (or_cases (test p) (list_any test ps) e) [
      | inl here ↦ (p, or_left (p == p) (is_marked ps p) (grind (arith, nat_tests)), here)
      | inr rest ↦ (
          let w = any-by test ps rest in
          (w.0, or_right (p == w.0) (is_marked ps w.0) w.1, w.2))
    ]

any-from : (test : ℕ → Bool) (pages : List ℕ) (p : ℕ) → is_marked pages p ≡ true
    → test p ≡ true → list_any test pages ≡ true
any-from test [] p e f = e
any-from test (q ∷ ps) p e f =
    elim (or_cases (q == p) (is_marked ps p) e) [
      | inl here ↦ (
          let same : q ≡ p = grind (arith, nat_tests) in
          or_left (test q) (list_any test ps) (ap test same ∙ f))
      | inr rest ↦ or_right (test q) (list_any test ps) (any-from test ps p rest f)
    ]

any-same : (f g : ℕ → Bool) → ((k : ℕ) → f k ≡ g k) → (pages : List ℕ)
    → list_any f pages ≡ list_any g pages
any-same f g h [] = refl
any-same f g h (p ∷ ps) = rw (h p, any-same f g h ps) refl

one_wide : (p page : ℕ) → (nat_le page p && nat_lt p (page + 1)) ≡ (p == page)
one_wide p page = grind (arith, nat_tests)

pub between-one : (pages : List ℕ) (page : ℕ)
    → has_between pages page (page + 1) ≡ is_marked pages page
between-one pages page =
    any-same (λ p. nat_le page p && nat_lt p (page + 1)) (λ p. p == page)
    (λ p. one_wide p page) pages

or-assoc : (a b c : Bool) → ((a || b) || c) ≡ (a || (b || c))
or-assoc true b c = refl
or-assoc false b c = refl

eq_turned : (a b : ℕ) → (a == b) ≡ (b == a)
eq_turned a b = grind (arith, nat_tests)

or_last : (a : Bool) → (a || false) ≡ a
or_last true = refl
or_last false = refl

pub marked-push : (pages : List ℕ) (page p : ℕ)
    → is_marked (pages ++ page ∷ []) p ≡ with_page page (is_marked pages) p
marked-push [] page p = or_last (page == p) ∙ eq_turned page p
marked-push (q ∷ qs) page p =
    ap (λ b. (q == p) || b) (marked-push qs page p)
    ∙ sym (or-assoc (q == p) (is_marked qs p) (p == page))

-- ---- the span of a page that comes after others in a row

test_within : (first end p : ℕ) → (nat_le first p && nat_lt p end) ≡ true
    → (first ≤ p) × (p < end)
test_within first end p e = (grind (arith, nat_tests), grind (arith, nat_tests))

within_test : (first end p : ℕ) → first ≤ p → p < end
    → (nat_le first p && nat_lt p end) ≡ true
within_test first end p le lt = grind (arith, nat_tests)

both_below : (first start page : ℕ) → (nat_lt first page && nat_lt start page) ≡ true
    → (first < page) × (start < page)
both_below first start page e = (grind (arith, nat_tests), grind (arith, nat_tests))

below_both : (first start page : ℕ) → first < page → start < page
    → (nat_lt first page && nat_lt start page) ≡ true
below_both first start page f s = grind (arith, nat_tests)

module _ (pages : List ℕ) (first page start size : ℕ) (order : first ≤ page)
    (low : start ≤ page) (high : page < start + size) where
  has_one : (has_between pages start (start + size)
      || (nat_lt first page && nat_lt start page)) ≡ true
      → some_written (with_pages first (page - first) (is_marked pages)) start size ≡ true
  has_one e =
      let set = with_pages first (page - first) (is_marked pages) in
      elim (or_cases (has_between pages start (start + size))
      (nat_lt first page && nat_lt start page) e) [
        | inl listed ↦ (
            let w = any-by (λ p. nat_le start p && nat_lt p (start + size)) pages listed in
            let at = test_within start (start + size) w.0 w.2 in
            some-from set start size w.0 at.0 at.1
            (or_left (is_marked pages w.0)
            (nat_le first w.0 && nat_lt w.0 (first + (page - first))) w.1))
        | inr after ↦ (
            let below = both_below first start page after in
            some-from set start size (page - 1) (omega (arith, below.1)) (omega arith)
            (or_right (is_marked pages (page - 1))
            (nat_le first (page - 1) && nat_lt (page - 1) (first + (page - first)))
            (within_test first (first + (page - first)) (page - 1) (omega (arith, below.0))
            (omega (arith, below.0)))))
      ]

  one_has : some_written (with_pages first (page - first) (is_marked pages)) start size ≡ true
      → (has_between pages start (start + size)
      || (nat_lt first page && nat_lt start page)) ≡ true
  one_has e =
      let w = some-by (with_pages first (page - first) (is_marked pages)) start size e in
      elim (or_cases (is_marked pages w.0)
      (nat_le first w.0 && nat_lt w.0 (first + (page - first))) w.3) [
        | inl listed ↦ or_left (has_between pages start (start + size))
            (nat_lt first page && nat_lt start page)
            (any-from (λ p. nat_le start p && nat_lt p (start + size)) pages w.0 listed
            (within_test start (start + size) w.0 w.1 w.2))
        | inr row ↦ (
            let in_row = test_within first (first + (page - first)) w.0 row in
            or_right (has_between pages start (start + size))
            (nat_lt first page && nat_lt start page)
            (below_both first start page (omega (arith, in_row)) (omega (arith, in_row, w.1))))
      ]

pub span-is : (pages : List ℕ) (first page size : ℕ) → first ≤ page → 0 < size
    → (has_between pages (page / size * size) (page / size * size + size)
    || (nat_lt first page && nat_lt (page / size * size) page))
    ≡ some_written (with_pages first (page - first) (is_marked pages)) (page / size * size) size
span-is pages first page size order some =
    let low = div-mul-le_self page size in
    let high = lt-div-mul-add {a = page} some in
    bool_by _ _ (has_one pages first page (page / size * size) size order low high)
    (one_has pages first page (page / size * size) size order low high)

pub from_listed : (r a b s : Bool) → r ≡ a → r ≡ true → (a || b) ≡ s → r ≡ s
from_listed true true b s e t h = h
from_listed true false b s e t h = cc
from_listed false a b s e t h = cc

pub from_after : (r a x y s : Bool) → r ≡ a → r ≡ false → x ≡ true → (a || (x && y)) ≡ s → y ≡ s
from_after false false true y s e f t h = h
from_after false false false y s e f t h = cc
from_after false true x y s e f t h = cc
from_after true a x y s e f t h = cc

pub from_neither : (r a x y s : Bool) → r ≡ a → r ≡ false → x ≡ false → (a || (x && y)) ≡ s
    → x ≡ s
from_neither false false false y s e f t h = h
from_neither false false true y s e f t h = cc
from_neither false true x y s e f t h = cc
from_neither true a x y s e f t h = cc

-- ---- the frames of a row

some_one : (f : ℕ → Bool) (page : ℕ) → some_written f (page / 1 * 1) 1 ≡ f page
unfolding some_written
some_one f page =
    let same : page / 1 * 1 + 0 ≡ page = omega arith in
    ap f same

pub need-sum : (set : ℕ → Bool) (page a b c : ℕ)
    → a ≡ none_yet (some_written set (page / 1 * 1) 1)
    → b ≡ none_yet (some_written set (page / 2 ^ 9 * 2 ^ 9) (2 ^ 9))
    → c ≡ none_yet (some_written set (page / 2 ^ 18 * 2 ^ 18) (2 ^ 18))
    → a + b + c ≡ page_need set page
unfolding page_need
need-sum set page a b c e f g =
    let one = e ∙ ap none_yet (some_one set page) in
    rw (one, f, g) refl

one_further : (first page : ℕ) → first ≤ page → page + 1 - first ≡ (page - first) + 1
one_further first page le = omega arith

row_end : (first page : ℕ) → first ≤ page → first + (page - first) ≡ page
row_end first page le = omega arith

-- the row with one page more
pub row-next : (set : ℕ → Bool) (first page p : ℕ) → first ≤ page
    → with_pages first (page + 1 - first) set p
    ≡ with_page page (with_pages first (page - first) set) p
row-next set first page p le =
    ap (λ n. with_pages first n set p) (one_further first page le)
    ∙ row-more set first (page - first) p
    ∙ ap (λ q. with_page q (with_pages first (page - first) set) p) (row_end first page le)

pub need-first : (set : ℕ → Bool) (first n : ℕ) → n ≡ 0
    → 0 + frames_of set ≡ frames_of (with_pages first n set)
need-first set first n e =
    let none = frames-same set (with_pages first 0 set) (λ p. row-none set first p) in
    let here = ap (λ k. frames_of (with_pages first k set)) e in
    omega arith

pub need-next : (set : ℕ → Bool) (first page need here : ℕ) → first ≤ page → page < page_limit
    → need + frames_of set ≡ frames_of (with_pages first (page - first) set)
    → here ≡ page_need (with_pages first (page - first) set) page
    → need + here + frames_of set ≡ frames_of (with_pages first (page + 1 - first) set)
need-next set first page need here le lt before e =
    let more = frames-more (with_pages first (page - first) set)
    (with_pages first (page + 1 - first) set) page lt (λ p. row-next set first page p le) in
    omega arith

pub marks-next : (set now : ℕ → Bool) (first page p : ℕ) → first ≤ page
    → ((q : ℕ) → now q ≡ with_pages first (page - first) set q)
    → with_page page now p ≡ with_pages first (page + 1 - first) set p
marks-next set now first page p le before =
    ap (λ b. b || p == page) (before p) ∙ sym (row-next set first page p le)

pub marks-kept : (set now : ℕ → Bool) (first page p : ℕ) → first ≤ page → set page ≡ true
    → ((q : ℕ) → now q ≡ with_pages first (page - first) set q)
    → now p ≡ with_pages first (page + 1 - first) set p
marks-kept set now first page p le there before =
    let old = or_left (set page)
    (nat_le first page && nat_lt page (first + (page - first))) there in
    sym (page-there now page (before page ∙ old) p)
    ∙ marks-next set now first page p le before

less_by : (need f g : ℕ) → need + f ≡ g → need ≡ g - f
less_by need f g e = omega arith

pub need-of_row : (set : ℕ → Bool) (at n need : ℕ) → 0 < n → at + n ≤ 2 ^ 38
    → need + frames_of set ≡ frames_of (with_pages (page_of at) (pages_across at n) set)
    → need ≡ frames_of (with_written at n set) - frames_of set
need-of_row set at n need some fits e =
    less_by need (frames_of set) (frames_of (with_written at n set))
    (e ∙ sym (frames-same (with_pages (page_of at) (pages_across at n) set)
    (with_written at n set) (λ p. write-row set at n p some (omega arith))))
