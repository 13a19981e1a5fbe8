-- The spans of a level in which the pages of a set stand.
use Rattle.std.proofs.Common.{◌≡◌, ℕ, zero, suc, ◌+◌, ◌*◌, ◌/◌, ◌^◌, ◌<◌, ◌≤◌, Bool, true, false}
use Rattle.std.proofs.Common.{◌||◌, ◌==◌, inl, inr, refl, sym, ap, ◌∙◌, arith}
use Rattle.std.proofs.lemmas.Bool.{or_cases, or_left, or_right, cases_eq, false_from_ne_true}
use Rattle.std.proofs.lemmas.Bool.Decides.{nat_tests}
use Rattle.std.proofs.lemmas.Nat.{div_below, le-div}
use Rattle.std.proofs.Math.Nat.{div-mul-le_self, lt-div-mul-add}
use Rattle.image_model.specs.Pages.{page_limit}
use Rattle.space_api.specs.Frames.{some_written, spans_at, frames_of}
use Rattle.space_laws.specs.Growth.{GrowsWithin, none_yet, has_span, page_need, with_page}
use Rattle.space_api.proofs.Frames.{spans_are_pages}
use Rattle.space_laws.proofs.Counts.{count-more, count-grows}

-- ---- which spans have a page

pub some-by : (f : ℕ → Bool) (first n : ℕ) → some_written f first n ≡ true
    → (p : ℕ) × (first ≤ p) × (p < first + n) × (f p ≡ true)
unfolding some_written
some-by f first zero e = cc
some-by f first (suc n) e =
    elim (or_cases (some_written f first n) (f (first + n)) e) [
      | inl some ↦ (let w = some-by f first n some in (w.0, w.1, omega (arith, w.2), w.3))
      | inr last ↦ (first + n, omega arith, omega arith, last)
    ]

pub some-from : (f : ℕ → Bool) (first n p : ℕ) → first ≤ p → p < first + n → f p ≡ true
    → some_written f first n ≡ true
unfolding some_written
some-from f first zero p le lt e = absurd (omega arith)
some-from f first (suc n) p le lt e =
    elim (cases_eq p (first + n)) [
      | inl same ↦ or_right _ _ (ap f (sym same) ∙ e)
      | inr other ↦ or_left _ _ (some-from f first n p le (omega arith) e)
    ]

-- the span of w pages in which a page stands
pub span-of : (w s p : ℕ) → s * w ≤ p → p < s * w + w → p / w ≡ s
span-of w s p le lt =
    let some : 0 < w = omega arith in
    let high : p < (s + 1) * w = omega arith in
    let below = div_below p w (s + 1) some high in
    let above = le-div s p w some le in
    omega arith

pub bool_by : (a b : Bool) → (a ≡ true → b ≡ true) → (b ≡ true → a ≡ true) → a ≡ b
bool_by true b h k = sym (h refl)
bool_by false true h k = k refl
bool_by false false h k = refl

eqb_same : (a b : ℕ) → (a == b) ≡ true → a ≡ b
eqb_same a b e = grind (arith, nat_tests)

same_eqb : (a b : ℕ) → a ≡ b → (a == b) ≡ true
same_eqb a b e = grind (arith, nat_tests)

-- ---- one page more

module _ (before after : ℕ → Bool) (page : ℕ)
    (more : (p : ℕ) → after p ≡ (before p || p == page)) where
  some_more : (s w : ℕ) → some_written after (s * w) w ≡ true
      → (some_written before (s * w) w || s == page / w) ≡ true
  some_more s w e =
      let at = some-by after (s * w) w e in
      elim (or_cases (before at.0) (at.0 == page) (sym (more at.0) ∙ at.3)) [
        | inl was ↦ or_left _ _ (some-from before (s * w) w at.0 at.1 at.2 was)
        | inr here ↦ or_right _ _ (same_eqb s (page / w) (sym (span-of w s at.0 at.1 at.2)
            ∙ ap (λ p. p / w) (eqb_same at.0 page here)))
      ]

  here_more : (s w : ℕ) → 0 < w → s ≡ page / w → some_written after (s * w) w ≡ true
  here_more s w some e =
      let low : s * w ≤ page = rw e (div-mul-le_self page w) in
      let high : page < s * w + w = rw e (lt-div-mul-add some) in
      some-from after (s * w) w page low high
      (more page ∙ or_right (before page) (page == page) (same_eqb page page refl))

  more_some : (s w : ℕ) → 0 < w → (some_written before (s * w) w || s == page / w) ≡ true
      → some_written after (s * w) w ≡ true
  more_some s w some e =
      elim (or_cases (some_written before (s * w) w) (s == page / w) e) [
        | inl was ↦ (
            let at = some-by before (s * w) w was in
            some-from after (s * w) w at.0 at.1 at.2
            (more at.0 ∙ or_left (before at.0) (at.0 == page) at.3))
        | inr here ↦ here_more s w some (eqb_same s (page / w) here)
      ]

  pub span-more : (s w : ℕ) → 0 < w
      → some_written after (s * w) w ≡ (some_written before (s * w) w || s == page / w)
  span-more s w some = bool_by _ _ (some_more s w) (more_some s w some)

  pub spans-more : (b : ℕ) → 0 < 2 ^ b → page / 2 ^ b < page_limit / 2 ^ b
      → spans_at b after ≡ spans_at b before + none_yet (has_span before b page)
  spans-more b some lt =
      count-more (λ s. some_written before (s * 2 ^ b) (2 ^ b))
      (λ s. some_written after (s * 2 ^ b) (2 ^ b)) (page / 2 ^ b)
      (λ s. span-more s (2 ^ b) some) (page_limit / 2 ^ b) lt

sum_more : (a b c x y z p q r : ℕ) → a ≡ x + p → b ≡ y + q → c ≡ z + r
    → 0 + a + b + c ≡ 0 + x + y + z + (p + q + r)
sum_more a b c x y z p q r e f g = omega arith

pub frames-more : (before after : ℕ → Bool) (page : ℕ) → page < page_limit
    → ((p : ℕ) → after p ≡ (before p || p == page))
    → frames_of after ≡ frames_of before + page_need before page
unfolding frames_of page_need
frames-more before after page lt more =
    sum_more (spans_at 0 after) (spans_at 9 after) (spans_at 18 after) (spans_at 0 before)
    (spans_at 9 before) (spans_at 18 before) (none_yet (before page))
    (none_yet (has_span before 9 page)) (none_yet (has_span before 18 page))
    (spans_are_pages after ∙ count-more before after page more page_limit lt
    ∙ ap (λ n. n + none_yet (before page)) (sym (spans_are_pages before)))
    (spans-more before after page more 9 (omega arith) (omega arith))
    (spans-more before after page more 18 (omega arith) (omega arith))

or_same : (a b : Bool) → (b ≡ true → a ≡ true) → (a || b) ≡ a
or_same true b h = refl
or_same false true h = sym (h refl)
or_same false false h = refl

same_sets : (f g : ℕ → Bool) → ((p : ℕ) → f p ≡ g p) → f ≡ g
same_sets f g h = λ t p. h p t

pub frames-same : (before after : ℕ → Bool) → ((p : ℕ) → after p ≡ before p)
    → frames_of after ≡ frames_of before
frames-same before after h = ap frames_of (same_sets after before h)

pub page-there : (written : ℕ → Bool) (page : ℕ) → written page ≡ true → (p : ℕ)
    → with_page page written p ≡ written p
page-there written page e p =
    or_same (written p) (p == page) (λ is. ap written (eqb_same p page is) ∙ e)

-- ---- pages more, of k + 1 in a row

module _ (before after : ℕ → Bool) (a k : ℕ) (grows : GrowsWithin before after a k) where
  span_among : (w m s p : ℕ) → 0 < w → (a + k) / w ≤ a / w + m → p / w ≡ s
      → (a ≤ p) × (p ≤ a + k) → (a / w ≤ s) × (s ≤ a / w + m)
  span_among w m s p some few is among =
      let low : a / w * w ≤ p = omega (arith, div-mul-le_self a w, among.0) in
      let up : p / w * w ≤ a + k = omega (arith, div-mul-le_self p w, among.1) in
      let above = le-div (a / w) p w some low in
      let below = le-div (p / w) (a + k) w some up in
      (omega arith, omega arith)

  not_there : (s w p : ℕ) → s * w ≤ p → p < s * w + w
      → some_written before (s * w) w ≡ false → before p ≡ false
  not_there s w p le lt off =
      false_from_ne_true (before p)
      (λ e. let some = some-from before (s * w) w p le lt e in cc)

  spans-among : (w m : ℕ) → 0 < w → (a + k) / w ≤ a / w + m
      → GrowsWithin (λ s. some_written before (s * w) w) (λ s. some_written after (s * w) w)
      (a / w) m
  spans-among w m some few s on off =
      let at = some-by after (s * w) w on in
      span_among w m s at.0 some few (span-of w s at.0 at.1 at.2)
      (grows at.0 at.3 (not_there s w at.0 at.1 at.2 off))

  pub spans-grow : (b m : ℕ) → 0 < 2 ^ b → (a + k) / 2 ^ b ≤ a / 2 ^ b + m
      → spans_at b after ≤ spans_at b before + (m + 1)
  spans-grow b m some few =
      count-grows (λ s. some_written before (s * 2 ^ b) (2 ^ b))
      (λ s. some_written after (s * 2 ^ b) (2 ^ b)) (a / 2 ^ b) m
      (spans-among (2 ^ b) m some few) (page_limit / 2 ^ b)

sum_grows : (a b c x y z : ℕ) → a ≤ x + 9 → b ≤ y + 2 → c ≤ z + 2
    → 0 + a + b + c ≤ 0 + x + y + z + 13
sum_grows a b c x y z e f g = omega arith

pub frames-grow : (before after : ℕ → Bool) (a : ℕ) → GrowsWithin before after a 8
    → frames_of after ≤ frames_of before + 13
unfolding frames_of
frames-grow before after a grows =
    sum_grows (spans_at 0 after) (spans_at 9 after) (spans_at 18 after) (spans_at 0 before)
    (spans_at 9 before) (spans_at 18 before)
    (spans-grow before after a 8 grows 0 8 (omega arith) (omega arith))
    (spans-grow before after a 8 grows 9 1 (omega arith) (omega arith))
    (spans-grow before after a 8 grows 18 1 (omega arith) (omega arith))
