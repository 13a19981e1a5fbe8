-- The regions and pages of an image's start are such as a `Start` may have.
use Rattle.std.proofs.Common.{◌≡◌, ℕ, zero, suc, ◌+◌, ◌^◌, ◌<◌, ◌≤◌, true, ◌&&◌, ◌||◌}
use Rattle.std.proofs.Common.{List, [], ◌∷◌, nat_lt, inl, inr, refl, ap, ◌∙◌, arith}
use Rattle.std.proofs.lemmas.Bool.{cond_both, cond-true, and_parts, lt-ltb}
use Rattle.std.proofs.lemmas.Bool.{or_cases, or_left, or_right}
use Rattle.image_model.specs.Layout.{AreRegions, ArePages, AreInRegions}
use Rattle.image_model.specs.Pages.{page_size, page_start, page_limit}
use Rattle.image_model.specs.Permission.{Permission, no_permission, is_some_permission}
use Rattle.image_model.specs.Permission.{joined_permission, permission_in}
use Rattle.image_model.specs.StartOf.{is_on_page, flags_permission, segments_permission}
use Rattle.image_model.specs.StartOf.{is_stack_page, stack_permission, page_permission}
use Rattle.image_model.specs.StartOf.{goes_before, one_page, one_more}
use Rattle.image_model.specs.StartOf.{with_region, regions_of}
use Rattle.image_model.specs.StartOf.{has_file_byte, file_bytes, pages_of}
use Rattle.image_model.specs.declared.image.Segment.{Segment}
use Rattle.image_model.specs.declared.region.PageBytes.{PageBytes}
use Rattle.image_model.specs.declared.region.Region.{Region}
use Rattle.image_model.proofs.Pages.{file_bytes-length}
use Rattle.image_model.proofs.Regions.{goes_before-parts, regions_from_0}

-- ---- what may be written may be read

abbrev pub CanRead : Permission → Type 0
CanRead p = p.writable ≡ true → p.readable ≡ true

joined-can_read : (p q : Permission) → CanRead p → CanRead q → CanRead (joined_permission p q)
joined-can_read p q h k = λ w.
    elim (or_cases p.writable q.writable w) [
      | inl a ↦ or_left _ _ (h a)
      | inr b ↦ or_right _ _ (k b)
    ]

flags-can_read : (flags : ℕ) → CanRead (flags_permission flags)
flags-can_read flags = λ w. or_right _ _ w

segments-can_read : (segments : List Segment) (page : ℕ)
    → CanRead (segments_permission segments page)
segments-can_read [] page = λ w. w
segments-can_read (s ∷ ss) page =
    let own = flags_permission s.flags in
    let others = segments_permission ss page in
    cond_both (is_on_page s.at s.size page) (joined_permission own others) others CanRead
    (λ _. joined-can_read own others (flags-can_read s.flags) (segments-can_read ss page))
    (λ _. segments-can_read ss page)

pub page-can_read : (segments : List Segment) (stack page : ℕ)
    → CanRead (page_permission segments stack page)
page-can_read segments stack page =
    let others = segments_permission segments page in
    cond_both (is_stack_page stack page) (joined_permission stack_permission others) others CanRead
    (λ _. joined-can_read stack_permission others (λ _. refl) (segments-can_read segments page))
    (λ _. segments-can_read segments page)

-- ---- regions

lower_regions : (low high : ℕ) (rs : List Region) → low ≤ high → AreRegions high rs
    → AreRegions low rs
lower_regions low high [] le h = tt
lower_regions low high (r ∷ rs) le h = (
  record {
    above = omega (arith, h.0.above);
    nonempty = h.0.nonempty;
    below = h.0.below;
    accessible = h.0.accessible;
    readable = h.0.readable;
  },
  h.1,
)

can_access : (p : Permission) → is_some_permission p ≡ true → CanRead p
    → (p.readable || p.executable) ≡ true
can_access p some can =
    elim (or_cases (p.readable || p.writable) p.executable some) [
      | inl a ↦ elim (or_cases p.readable p.writable a) [
        | inl r ↦ or_left _ _ r
        | inr w ↦ or_left _ _ (can w)
      ]
      | inr x ↦ or_right _ _ x
    ]

one_page-sound : (page : ℕ) (p : Permission) (rs : List Region) → page < page_limit
    → is_some_permission p ≡ true → CanRead p → AreRegions (page + 1) rs
    → AreRegions page (one_page page p ∷ rs)
one_page-sound page p rs lt some can h = (
  record {
    above = omega arith;
    nonempty = omega arith;
    below = omega arith;
    accessible = can_access p some can;
    readable = can;
  },
  h,
)

one_more-sound : (page : ℕ) (r : Region) (rs : List Region) → r.page ≡ page + 1
    → AreRegions (page + 1) (r ∷ rs) → AreRegions page (one_more page r ∷ rs)
one_more-sound page r rs same h =
    let below = h.0.below in
    let ends : page + (r.count + 1) ≡ r.page + r.count = omega arith in (
      record {
        above = omega arith;
        nonempty = omega arith;
        below = omega arith;
        accessible = h.0.accessible;
        readable = h.0.readable;
      },
      rw ends h.1,
    )

with_region-sound : (page : ℕ) (p : Permission) (rs : List Region) → page < page_limit
    → is_some_permission p ≡ true → CanRead p → AreRegions (page + 1) rs
    → AreRegions page (with_region page p rs)
with_region-sound page p [] lt some can h = one_page-sound page p [] lt some can h
with_region-sound page p (r ∷ rs) lt some can h =
    cond_both (goes_before page p r) (one_more page r ∷ rs) (one_page page p ∷ r ∷ rs)
    (AreRegions page)
    (λ e. one_more-sound page r rs (goes_before-parts page p r e).0 h)
    (λ _. one_page-sound page p (r ∷ rs) lt some can h)

pub regions_of-sound : (f : ℕ → Permission) → ((page : ℕ) → CanRead (f page)) → (page n : ℕ)
    → page + n ≤ page_limit → AreRegions page (regions_of f page n)
unfolding regions_of
regions_of-sound f can page zero le = tt
regions_of-sound f can page (suc n) le =
    let others = regions_of f (page + 1) n in
    let sound = regions_of-sound f can (page + 1) n (omega arith) in
    cond_both (is_some_permission (f page)) (with_region page (f page) others) others
    (AreRegions page)
    (λ some. with_region-sound page (f page) others (omega arith) some (can page) sound)
    (λ _. lower_regions page (page + 1) others (omega arith) sound)

-- ---- pages

lower_pages : (low high : ℕ) (ps : List PageBytes) → low ≤ high → ArePages high ps → ArePages low ps
lower_pages low high [] le h = tt
lower_pages low high (p ∷ ps) le h = (
  record {
    above = omega (arith, h.0.above);
    below = h.0.below;
    whole = h.0.whole;
  },
  h.1,
)

pub pages_of-sound : (segments : List Segment) (f : ℕ → Permission) (page n : ℕ)
    → page + n ≤ page_limit → ArePages page (pages_of segments f page n)
unfolding pages_of
pages_of-sound segments f page zero le = tt
pages_of-sound segments f page (suc n) le =
    let others = pages_of segments f (page + 1) n in
    let sound = pages_of-sound segments f (page + 1) n (omega arith) in
    cond_both (is_some_permission (f page) && has_file_byte segments page)
    (record { page = page; bytes = file_bytes segments (page_start page) (2 ^ 12) } ∷ others)
    others (ArePages page)
    (λ _. (
      record {
        above = omega arith;
        below = omega arith;
        whole = file_bytes-length segments (page_start page) (2 ^ 12);
      },
      sound,
    ))
    (λ _. lower_pages page (page + 1) others (omega arith) sound)

-- each of them has a permission below the limit
pages_of-inside : (segments : List Segment) (f : ℕ → Permission) (rs : List Region)
    → ((page : ℕ) → page < page_limit → permission_in rs page ≡ f page)
    → (page n : ℕ) → page + n ≤ page_limit → AreInRegions rs (pages_of segments f page n)
unfolding pages_of
pages_of-inside segments f rs gives page zero le = tt
pages_of-inside segments f rs gives page (suc n) le =
    let others = pages_of segments f (page + 1) n in
    let inside = pages_of-inside segments f rs gives (page + 1) n (omega arith) in
    cond_both (is_some_permission (f page) && has_file_byte segments page)
    (record { page = page; bytes = file_bytes segments (page_start page) page_size } ∷ others)
    others (AreInRegions rs)
    (λ both. (
      ap is_some_permission (gives page (omega arith)) ∙ (and_parts _ _ both).0,
      inside,
    ))
    (λ _. inside)

pub start_pages-inside : (segments : List Segment) (f : ℕ → Permission)
    → AreInRegions (regions_of f 0 page_limit) (pages_of segments f 0 page_limit)
start_pages-inside segments f =
    let given : (page : ℕ) → page < page_limit
    → permission_in (regions_of f 0 page_limit) page ≡ f page = λ page lt.
    regions_from_0 f page_limit page
    ∙ cond-true (nat_lt page page_limit) (f page) no_permission (lt-ltb page page_limit lt) in
    pages_of-inside segments f (regions_of f 0 page_limit) given 0 page_limit (omega arith)
