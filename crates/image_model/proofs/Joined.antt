-- Regions that rise and are joined are those that their permissions give.
use Rattle.std.proofs.Common.{◌≡◌, ℕ, zero, suc, ◌+◌, ◌-◌, ◌<◌, ◌≤◌, Bool, true, false, ◌||◌}
use Rattle.std.proofs.Common.{List, [], ◌∷◌, inl, inr, refl, sym, ◌∙◌, ap, subst, arith}
use Rattle.std.proofs.lemmas.Bool.{cond_both, cond-true, cond-false, and_from, eq-eqb, cases_eq}
use Rattle.std.proofs.lemmas.Bool.{or_cases, or_left, or_right, false_from_ne_true, both_ways}
use Rattle.std.proofs.lemmas.Bool.Decides.{nat_tests}
use Rattle.image_model.specs.Layout.{IsRegion, AreRegions, IsApart, IsJoined}
use Rattle.image_model.specs.Pages.{page_limit}
use Rattle.image_model.specs.Permission.{Permission, no_permission, is_some_permission}
use Rattle.image_model.specs.Permission.{region_permission, has_page, permission_in}
use Rattle.image_model.specs.StartOf.{same_flag, goes_before, one_page, one_more}
use Rattle.image_model.specs.StartOf.{with_region, regions_of}
use Rattle.image_model.specs.declared.region.Region.{Region}
use Rattle.image_model.proofs.Regions.{goes_before-parts}
use Rattle.image_model.proofs.Within.{if_same}

-- ---- the regions from a page on, by those from the next page on

regions-none : (f : ℕ → Permission) (page : ℕ) → regions_of f page zero ≡ []
unfolding regions_of
regions-none f page = refl

regions-first : (f : ℕ → Permission) (page n : ℕ) → is_some_permission (f page) ≡ true
    → regions_of f page (suc n) ≡ with_region page (f page) (regions_of f (page + 1) n)
unfolding regions_of
regions-first f page n some =
    let others = regions_of f (page + 1) n in
    cond-true (is_some_permission (f page)) (with_region page (f page) others) others some

regions-others : (f : ℕ → Permission) (page n : ℕ) → f page ≡ no_permission
    → regions_of f page (suc n) ≡ regions_of f (page + 1) n
unfolding regions_of
regions-others f page n none =
    let others = regions_of f (page + 1) n in
    cond-false (is_some_permission (f page)) (with_region page (f page) others) others
    (ap is_some_permission none)

-- ---- a region whose permission is that of a page before it

same_flag-refl : (a : Bool) → same_flag a a ≡ true
same_flag-refl true = refl
same_flag-refl false = refl

same_region : (a b : Region) → a.page ≡ b.page → a.count ≡ b.count
    → region_permission a ≡ region_permission b → a ≡ b
same_region a b p c h = λ i. record {
  page = p i;
  count = c i;
  r = (h i).readable;
  w = (h i).writable;
  x = (h i).executable;
}

region_permission-some : (r : Region) → (r.r || r.x) ≡ true
    → is_some_permission (region_permission r) ≡ true
region_permission-some r h =
    elim (or_cases r.r r.x h) [
      | inl a ↦ or_left _ _ (or_left _ _ a)
      | inr b ↦ or_right _ _ b
    ]

with_region-apart : (page : ℕ) (p : Permission) (rs : List Region) → IsApart (page + 1) p rs
    → with_region page p rs ≡ one_page page p ∷ rs
with_region-apart page p [] apart = refl
with_region-apart page p (s ∷ ss) apart =
    cond-false (goes_before page p s) (one_more page s ∷ ss) (one_page page p ∷ s ∷ ss)
    (false_from_ne_true _ (λ e. apart (goes_before-parts page p s e)))

goes_before-own : (page : ℕ) (s : Region) → s.page ≡ page + 1
    → goes_before page (region_permission s) s ≡ true
goes_before-own page s h =
    let there = eq-eqb s.page (page + 1) h in
    let r = and_from _ _ there (same_flag-refl s.r) in
    let w = and_from _ _ r (same_flag-refl s.w) in
    and_from _ _ w (same_flag-refl s.x)

with_region-own : (page : ℕ) (s : Region) (ss : List Region) → s.page ≡ page + 1
    → with_region page (region_permission s) (s ∷ ss) ≡ one_more page s ∷ ss
with_region-own page s ss h =
    let p = region_permission s in
    cond-true (goes_before page p s) (one_more page s ∷ ss) (one_page page p ∷ s ∷ ss)
    (goes_before-own page s h)

-- ---- the regions of permissions are joined

not_before : (page : ℕ) (p : Permission) (s : Region) → goes_before page p s ≡ false
    → (s.page ≡ page + 1) × (p ≡ region_permission s) → ⊥
not_before page p s off parts =
    let on = subst (λ x. goes_before page x s ≡ true) (sym parts.1)
    (goes_before-own page s parts.0) in
    both_ways (goes_before page p s) off on

with_region-joined : (page : ℕ) (p : Permission) (rs : List Region) → IsJoined rs
    → IsJoined (with_region page p rs)
with_region-joined page p [] h = (tt, tt)
with_region-joined page p (r ∷ rs) h =
    cond_both (goes_before page p r) (one_more page r ∷ rs) (one_page page p ∷ r ∷ rs) IsJoined
    (λ on.
    let parts = goes_before-parts page p r on in
    let end : page + (r.count + 1) ≡ r.page + r.count = omega (arith, parts.0) in
    (rw end h.0, h.1))
    (λ off. (not_before page p r off, h))

pub regions_of-joined : (f : ℕ → Permission) (page n : ℕ) → IsJoined (regions_of f page n)
unfolding regions_of
regions_of-joined f page zero = tt
regions_of-joined f page (suc n) =
    let others = regions_of f (page + 1) n in
    let joined = regions_of-joined f (page + 1) n in
    cond_both (is_some_permission (f page)) (with_region page (f page) others) others IsJoined
    (λ _. with_region-joined page (f page) others joined)
    (λ _. joined)

-- ---- what is below regions has no permission

none_below : (low q : ℕ) (rs : List Region) → q < low → AreRegions low rs
    → permission_in rs q ≡ no_permission
none_below low q [] lt h = refl
none_below low q (r ∷ rs) lt h =
    let above = h.0.above in
    let off : has_page r q ≡ false = grind (arith, nat_tests) in
    if_same _ false (region_permission r) (permission_in rs q) off
    ∙ none_below (r.page + r.count) q rs (omega arith) h.1

-- ---- the first page of regions

has_first : (r : Region) → 0 < r.count → has_page r r.page ≡ true
has_first r h = grind (arith, nat_tests)

-- a region without its first page
abbrev one_less : Region → Region
one_less r = record r { page = r.page + 1; count = r.count - 1 }

one_less-has : (r : Region) (q : ℕ) → r.page < q → 0 < r.count
    → has_page (one_less r) q ≡ has_page r q
one_less-has r q lt some = grind (arith, nat_tests)

only-has : (r : Region) (q : ℕ) → r.page < q → r.count ≡ 1 → has_page r q ≡ false
only-has r q lt one = grind (arith, nat_tests)

-- a region of one page, before the others
first_only : (f : ℕ → Permission) (n : ℕ) (r : Region) (rs : List Region) → r.count ≡ 1
    → f r.page ≡ region_permission r → (r.r || r.x) ≡ true
    → IsApart (r.page + r.count) (region_permission r) rs → rs ≡ regions_of f (r.page + 1) n
    → r ∷ rs ≡ regions_of f r.page (suc n)
first_only f n r rs one has some apart others =
    let p = region_permission r in
    let is_some : is_some_permission (f r.page) ≡ true = rw has (region_permission-some r some) in
    let next : IsApart (r.page + 1) p rs = rw one at apart in
    let same : one_page r.page p ≡ r = same_region (one_page r.page p) r refl (sym one) refl in
    sym (regions-first f r.page n is_some
    ∙ rw (has, ← others) (with_region-apart r.page p rs next ∙ ap (λ s. s ∷ rs) same))

-- a region of several pages, before the others
first_of_several : (f : ℕ → Permission) (n : ℕ) (r : Region) (rs : List Region) → 0 < r.count
    → f r.page ≡ region_permission r → (r.r || r.x) ≡ true
    → one_less r ∷ rs ≡ regions_of f (r.page + 1) n
    → r ∷ rs ≡ regions_of f r.page (suc n)
first_of_several f n r rs some_pages has some others =
    let is_some : is_some_permission (f r.page) ≡ true = rw has (region_permission-some r some) in
    let more = one_more r.page (one_less r) in
    let same : more ≡ r = same_region more r refl (omega arith) refl in
    sym (regions-first f r.page n is_some
    ∙ rw (has, ← others) (with_region-own r.page (one_less r) rs refl ∙ ap (λ s. s ∷ rs) same))

-- ---- all regions

-- all regions end at or below a page
abbrev pub EndBy : (end : ℕ) → List Region → Type 0
EndBy end [] = Unit {0}
EndBy end (r ∷ rs) = (r.page + r.count ≤ end) × EndBy end rs

-- regions that rise and are joined, and give these permissions from a page up to another
pub record AreOf (f : ℕ → Permission) (page end : ℕ) (rs : List Region) : Type 0 where
  pub regions : AreRegions page rs
  pub ended : EndBy end rs
  pub joined : IsJoined rs
  pub gives : (q : ℕ) → page ≤ q → q < end → permission_in rs q ≡ f q

-- for so many pages there are no others
abbrev HaveOne : (f : ℕ → Permission) (n : ℕ) → Type 0
HaveOne f n = (page end : ℕ) (rs : List Region) → page + n ≡ end → AreOf f page end rs
    → rs ≡ regions_of f page n

no_pages-one : (f : ℕ → Permission) → HaveOne f zero
no_pages-one f page end [] up h = sym (regions-none f page)
no_pages-one f page end (r ∷ rs) up h =
    let region = h.regions.0 in
    absurd (omega (arith, region.above, region.nonempty, h.ended.0))

-- where the first page is a region
only-others : (f : ℕ → Permission) (end : ℕ) (r : Region) (rs : List Region) → r.count ≡ 1
    → AreOf f r.page end (r ∷ rs) → AreOf f (r.page + 1) end rs
only-others f end r rs one h = record {
  regions = rw one at h.regions.1;
  ended = h.ended.1;
  joined = h.joined.1;
  gives = λ q le lt.
      let off = only-has r q (omega arith) one in
      sym (if_same _ false (region_permission r) (permission_in rs q) off)
      ∙ h.gives q (omega arith) lt;
}

-- where the first page is in a region of several
several-others : (f : ℕ → Permission) (end : ℕ) (r : Region) (rs : List Region) → 1 < r.count
    → AreOf f r.page end (r ∷ rs) → AreOf f (r.page + 1) end (one_less r ∷ rs)
several-others f end r rs more h =
    let region = h.regions.0 in
    let below = region.below in
    let ends : r.page + 1 + (r.count - 1) ≡ r.page + r.count = omega arith in
    let less : IsRegion (r.page + 1) (one_less r) = record {
      above = omega arith;
      nonempty = omega arith;
      below = omega arith;
      accessible = region.accessible;
      readable = region.readable;
    } in
    record {
      regions = (less, rw ends h.regions.1);
      ended = (rw ends h.ended.0, h.ended.1);
      joined = (rw ends h.joined.0, h.joined.1);
      gives = λ q le lt.
          let same = one_less-has r q (omega arith) (omega arith) in
          if_same _ _ (region_permission r) (permission_in rs q) same
          ∙ h.gives q (omega arith) lt;
    }

first-one : (f : ℕ → Permission) (n end : ℕ) (r : Region) (rs : List Region) → HaveOne f n
    → r.page + suc n ≡ end → AreOf f r.page end (r ∷ rs) → r ∷ rs ≡ regions_of f r.page (suc n)
first-one f n end r rs one up h =
    let some = h.regions.0.nonempty in
    let can = h.regions.0.accessible in
    let own = if_same _ true (region_permission r) (permission_in rs r.page) (has_first r some) in
    let has = sym (h.gives r.page (omega arith) (omega arith)) ∙ own in
    elim (cases_eq r.count 1) [
      | inl only ↦
          let others = one (r.page + 1) end rs (omega arith) (only-others f end r rs only h) in
          first_only f n r rs only has can h.joined.0 others
      | inr several ↦
          let less = several-others f end r rs (omega arith) h in
          let others = one (r.page + 1) end (one_less r ∷ rs) (omega arith) less in
          first_of_several f n r rs some has can others
    ]

-- where the first page is below all regions
later-others : (f : ℕ → Permission) (page end : ℕ) (rs : List Region)
    → AreRegions (page + 1) rs → AreOf f page end rs → AreOf f (page + 1) end rs
later-others f page end rs higher h = record {
  regions = higher;
  ended = h.ended;
  joined = h.joined;
  gives = λ q le lt. h.gives q (omega arith) lt;
}

later-one : (f : ℕ → Permission) (n page end : ℕ) (rs : List Region) → HaveOne f n
    → page + suc n ≡ end → AreRegions (page + 1) rs → AreOf f page end rs
    → rs ≡ regions_of f page (suc n)
later-one f n page end rs one up higher h =
    let below = none_below (page + 1) page rs (omega arith) higher in
    let none = sym (h.gives page (omega arith) (omega arith)) ∙ below in
    one (page + 1) end rs (omega arith) (later-others f page end rs higher h)
    ∙ sym (regions-others f page n none)

-- regions may be taken to begin at another page that is below the first
begins_at : (low page : ℕ) (r : Region) (rs : List Region) → low ≤ r.page
    → AreRegions page (r ∷ rs) → AreRegions low (r ∷ rs)
begins_at low page r rs le h = (
  record {
    above = le;
    nonempty = h.0.nonempty;
    below = h.0.below;
    accessible = h.0.accessible;
    readable = h.0.readable;
  },
  h.1,
)

more_pages-one : (f : ℕ → Permission) (n : ℕ) → HaveOne f n → HaveOne f (suc n)
more_pages-one f n one page end [] up h = later-one f n page end [] one up tt h
more_pages-one f n one page end (r ∷ rs) up h =
    let above = h.regions.0.above in
    elim (cases_eq r.page page) [
      | inl first ↦
          let same = subst (λ x. AreOf f x end (r ∷ rs)) (sym first) h in
          first-one f n end r rs one (omega arith) same ∙ ap (λ x. regions_of f x (suc n)) first
      | inr later ↦
          let higher = begins_at (page + 1) page r rs (omega arith) h.regions in
          later-one f n page end (r ∷ rs) one up higher h
    ]

have_one : (f : ℕ → Permission) (n : ℕ) → HaveOne f n
have_one f zero = no_pages-one f
have_one f (suc n) = more_pages-one f n (have_one f n)

-- such regions are the ones that the permissions give
pub regions_of-one : (f : ℕ → Permission) (page n : ℕ) (rs : List Region)
    → AreOf f page (page + n) rs → rs ≡ regions_of f page n
regions_of-one f page n rs h = have_one f n page (page + n) rs refl h

pub end_by_limit : (low : ℕ) (rs : List Region) → AreRegions low rs → EndBy page_limit rs
end_by_limit low [] h = tt
end_by_limit low (r ∷ rs) h = (h.0.below, end_by_limit (r.page + r.count) rs h.1)

pub regions_from_0-one : (f : ℕ → Permission) (rs : List Region) → AreRegions 0 rs → IsJoined rs
    → ((page : ℕ) → page < page_limit → permission_in rs page ≡ f page)
    → rs ≡ regions_of f 0 page_limit
regions_from_0-one f rs h joined gives =
    have_one f page_limit 0 page_limit rs (omega arith) (record {
      regions = h;
      ended = end_by_limit 0 rs h;
      joined = joined;
      gives = λ q le lt. gives q lt;
    })
