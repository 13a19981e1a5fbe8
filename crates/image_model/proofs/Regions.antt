-- The regions that a permission for each page gives.
use Rattle.std.proofs.Common.{◌≡◌, ℕ, zero, suc, ◌+◌, Bool, true, false, nat_lt, ◌==◌, ◌||◌}
use Rattle.std.proofs.Common.{if◌then◌else◌, List, [], ◌∷◌, refl, ◌∙◌, ap, arith}
use Rattle.std.proofs.lemmas.Bool.{cond_both, and_parts, or_parts, eqb-true}
use Rattle.std.proofs.lemmas.Bool.Decides.{nat_tests}
use Rattle.image_model.specs.Permission.{Permission, no_permission, is_some_permission}
use Rattle.image_model.specs.Permission.{region_permission, has_page, permission_in}
use Rattle.image_model.specs.StartOf.{same_flag, goes_before, one_page, one_more}
use Rattle.image_model.specs.StartOf.{with_region, regions_of}
use Rattle.image_model.specs.declared.region.Region.{Region}
use Rattle.image_model.proofs.Within.{if_same, if_either, is_within, none_within, within_0}
use Rattle.image_model.proofs.Within.{if_first, if_not_first}

-- ---- permissions

same_flag-true : (a b : Bool) → same_flag a b ≡ true → a ≡ b
same_flag-true true true h = refl
same_flag-true true false h = cc
same_flag-true false true h = cc
same_flag-true false false h = refl

same_permission : (p q : Permission) → p.readable ≡ q.readable → p.writable ≡ q.writable
    → p.executable ≡ q.executable → p ≡ q
same_permission p q a b c = λ i. record { readable = a i; writable = b i; executable = c i }

pub no_flags : (p : Permission) → is_some_permission p ≡ false → p ≡ no_permission
no_flags p h =
    let all = or_parts _ _ h in
    let first = or_parts _ _ all.0 in
    same_permission p no_permission first.0 first.1 all.1

-- ---- a page that goes before regions

pub goes_before-parts : (page : ℕ) (p : Permission) (r : Region) → goes_before page p r ≡ true
    → (r.page ≡ page + 1) × (p ≡ region_permission r)
goes_before-parts page p r h =
    let a = and_parts _ _ h in
    let b = and_parts _ _ a.0 in
    let c = and_parts _ _ b.0 in (
      eqb-true r.page (page + 1) c.0,
      same_permission p (region_permission r) (same_flag-true _ _ c.1) (same_flag-true _ _ b.1)
          (same_flag-true _ _ a.1),
    )

one_page-has : (page q : ℕ) (p : Permission) → has_page (one_page page p) q ≡ (q == page)
one_page-has page q p = grind (arith, nat_tests)

one_more-has : (page q : ℕ) (r : Region) → r.page ≡ page + 1
    → has_page (one_more page r) q ≡ ((q == page) || has_page r q)
one_more-has page q r h = grind (arith, nat_tests)

one_page-permission : (page q : ℕ) (p : Permission) (rs : List Region)
    → permission_in (one_page page p ∷ rs) q ≡ if q == page then p else permission_in rs q
one_page-permission page q p rs =
    if_same (has_page (one_page page p) q) (q == page) p (permission_in rs q)
    (one_page-has page q p)

one_more-permission : (page q : ℕ) (p : Permission) (r : Region) (rs : List Region)
    → (r.page ≡ page + 1) × (p ≡ region_permission r)
    → permission_in (one_more page r ∷ rs) q ≡ if q == page then p else permission_in (r ∷ rs) q
one_more-permission page q p r rs h =
    if_same _ _ (region_permission r) (permission_in rs q) (one_more-has page q r h.0)
    ∙ if_either (q == page) (has_page r q) p (region_permission r) (permission_in rs q) (λ _. h.1)

with_region-permission : (page q : ℕ) (p : Permission) (rs : List Region)
    → permission_in (with_region page p rs) q ≡ if q == page then p else permission_in rs q
with_region-permission page q p [] = one_page-permission page q p []
with_region-permission page q p (r ∷ rs) =
    cond_both (goes_before page p r) (one_more page r ∷ rs) (one_page page p ∷ r ∷ rs)
    (λ all. permission_in all q ≡ if q == page then p else permission_in (r ∷ rs) q)
    (λ h. one_more-permission page q p r rs (goes_before-parts page p r h))
    (λ _. one_page-permission page q p (r ∷ rs))

-- ---- the regions of so many pages

-- a page among them has its permission, and no other has one
pub regions_of-permission : (f : ℕ → Permission) (page n q : ℕ)
    → permission_in (regions_of f page n) q ≡ if is_within page n q then f q else no_permission
unfolding regions_of
regions_of-permission f page zero q = rw none_within
regions_of-permission f page (suc n) q =
    let others = regions_of f (page + 1) n in
    cond_both (is_some_permission (f page)) (with_region page (f page) others) others
    (λ all. permission_in all q ≡ if is_within page (suc n) q then f q else no_permission)
    (λ _. with_region-permission page q (f page) others
    ∙ ap (λ x. if q == page then f page else x) (regions_of-permission f (page + 1) n q)
    ∙ if_first page n q f no_permission)
    (λ h. regions_of-permission f (page + 1) n q
    ∙ if_not_first page n q f no_permission (λ _. no_flags (f page) h))

pub regions_from_0 : (f : ℕ → Permission) (n q : ℕ)
    → permission_in (regions_of f 0 n) q ≡ if nat_lt q n then f q else no_permission
regions_from_0 f n q =
    regions_of-permission f 0 n q ∙ if_same _ _ (f q) no_permission (within_0 n q)
