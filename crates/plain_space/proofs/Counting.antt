-- How many pages of a rising list are marked.
use Rattle.std.proofs.Common.{◌≡◌, ℕ, zero, suc, ◌+◌, ◌<◌, ◌≤◌, ltb, Bool, true, false, ◌&&◌}
use Rattle.std.proofs.Common.{if◌then◌else◌, ◌==◌, List, [], ◌∷◌, Option, Some, None, refl, sym, ap}
use Rattle.std.proofs.Common.{◌∙◌, inl, inr, arith}
use Rattle.std.specs.List.{count_by}
use Rattle.std.proofs.lemmas.Bool.{cases_eq}
use Rattle.std.proofs.lemmas.Bool.Decides.{nat_tests}
use Rattle.std.proofs.lemmas.List.Sums.{sum_by-cons}
use Rattle.image_model.specs.declared.region.Region.{Region}
use Rattle.machine_model.specs.Machine.{count_below}
use Rattle.plain_space.specs.Pages.{ArePagesOf, page_with, is_page_written}
use Rattle.plain_space.specs.declared.page.Page.{Page}
use Rattle.plain_space.proofs.Lists.{absent_of, numbers_above}

pub count_below-le : (set : ℕ → Bool) (n : ℕ) → count_below set n ≤ n
unfolding count_below
count_below-le set zero = omega arith
count_below-le set (suc n) =
    let h = count_below-le set n in
    grind (arith, nat_tests)

count_below-none : (n : ℕ) → count_below (λ page. false) n ≡ 0
unfolding count_below
count_below-none zero = refl
count_below-none (suc n) = count_below-none n

count_below-same : (f g : ℕ → Bool) → ((k : ℕ) → f k ≡ g k) → (n : ℕ)
    → count_below f n ≡ count_below g n
unfolding count_below
count_below-same f g h zero = refl
count_below-same f g h (suc n) = rw (h n, count_below-same f g h n) refl

-- ---- one number more, or not

module _ (before after : ℕ → Bool) (at : ℕ) (b : Bool) (absent : before at ≡ false)
    (is : (k : ℕ) → after k ≡ (if at == k then b else before k)) where
  count_up_to : (n : ℕ) → n ≤ at → count_below after n ≡ count_below before n
  unfolding count_below
  count_up_to zero le = refl
  count_up_to (suc n) le =
      let h = count_up_to n (omega arith) in
      let e = is n in
      grind (arith, nat_tests)

  count_beyond : (n : ℕ) → at < n
      → count_below after n ≡ (if b then 1 else 0) + count_below before n
  unfolding count_below
  count_beyond zero lt = absurd (omega arith)
  count_beyond (suc n) lt =
      elim (cases_eq n at) [
        | inl same ↦ (
            let h = count_up_to n (omega arith) in
            let e = is n in
            grind (arith, nat_tests))
        | inr other ↦ (
            let h = count_beyond n (omega arith) in
            let e = is n in
            grind (arith, nat_tests))
      ]

  count_with : (n : ℕ) → count_below after n
      ≡ (if b && ltb at n then 1 else 0) + count_below before n
  count_with n =
      let up = count_up_to n in
      let beyond = count_beyond n in
      grind (arith, nat_tests)

-- ---- a page more

first_or : (b : Bool) (p : Page) (rest : Option Page)
    → is_page_written (if b then Some p else rest)
    ≡ (if b then p.written else is_page_written rest)
first_or true p rest = refl
first_or false p rest = refl

pub marks_are_counted : (regions : List Region) (lowest : ℕ) (pages : List Page) (limit : ℕ)
    → ArePagesOf regions lowest pages
    → count_below (λ page. is_page_written (page_with pages page)) limit
    ≡ count_by (λ p. p.written && ltb p.number limit) pages
marks_are_counted regions lowest [] limit h = count_below-none limit
marks_are_counted regions lowest (p ∷ ps) limit h =
    let before : ℕ → Bool = λ page. is_page_written (page_with ps page) in
    let after : ℕ → Bool = λ page. is_page_written (page_with (p ∷ ps) page) in
    let none : page_with ps p.number ≡ None = absent_of ps p.number (λ k d lt e.
    let above = numbers_above regions (p.number + 1) ps k d h.1 lt in omega arith) in
    count_with before after p.number p.written (ap is_page_written none)
    (λ k. first_or (p.number == k) p (page_with ps k)) limit
    ∙ ap (λ n. (if p.written && ltb p.number limit then 1 else 0) + n)
    (marks_are_counted regions (p.number + 1) ps limit h.1)
    ∙ sym (sum_by-cons (λ q. if q.written && ltb q.number limit then 1 else 0) p ps)
