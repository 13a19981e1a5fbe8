-- Regions run by run.
use Rattle.std.proofs.Common.{◌≡◌, ℕ, ◌+◌, ◌<◌, ◌≤◌, true, false, ◌||◌, IsTrue}
use Rattle.std.proofs.Common.{List, [], ◌∷◌, ◌++◌, append_assoc, inl, inr, refl, sym, ◌∙◌, arith}
use Rattle.std.proofs.lemmas.Bool.{cases_lt, or_cases, or_left, or_right, or_parts}
use Rattle.std.proofs.lemmas.Bool.Decides.{nat_tests}
use Rattle.std.proofs.lemmas.List.{append-nil}
use Rattle.image_model.specs.Layout.{IsRegion, AreRegions, IsApart, IsJoined}
use Rattle.image_model.specs.Pages.{page_limit}
use Rattle.image_model.specs.Permission.{Permission, no_permission, is_some_permission}
use Rattle.image_model.specs.Permission.{region_permission, has_page, permission_in}
use Rattle.image_model.specs.declared.region.Region.{Region}
use Rattle.image_start.specs.Runs.{IsRun}

-- regions that rise, are joined, and give these permissions from a page on
pub record GiveFrom (f : ℕ → Permission) (page : ℕ) (rs : List Region) : Type 0 where
  pub regions : AreRegions page rs
  pub joined : IsJoined rs
  pub gives : (q : ℕ) → page ≤ q → q < page_limit → permission_in rs q ≡ f q

-- before whichever regions from a page on, these give all
abbrev pub Continues : (f : ℕ → Permission) (page : ℕ) (done : List Region) → Type 0
Continues f page done = (rest : List Region) → GiveFrom f page rest → GiveFrom f 0 (done ++ rest)

pub nothing-continues : (f : ℕ → Permission) → Continues f 0 []
nothing-continues f = λ rest h. h

-- ---- permissions

pub nothing_allowed : (p : Permission) → is_some_permission p ≡ false → p ≡ no_permission
nothing_allowed p h =
    let all = or_parts _ _ h in
    let first = or_parts _ _ all.0 in
    λ i. record { readable = first.0 i; writable = first.1 i; executable = all.1 i }

pub something_allowed : (p : Permission) → (IsTrue p.writable → IsTrue p.readable)
    → is_some_permission p ≡ true → IsTrue (p.readable || p.executable)
something_allowed p too some =
    elim (or_cases (p.readable || p.writable) p.executable some) [
      | inl a ↦ elim (or_cases p.readable p.writable a) [
        | inl r ↦ or_left _ _ r
        | inr w ↦ or_left _ _ (too w)
      ]
      | inr x ↦ or_right _ _ x
    ]

-- ---- a run without a permission

none_below : (low q : ℕ) (rs : List Region) → q < low → AreRegions low rs
    → permission_in rs q ≡ no_permission
none_below low q [] lt h = refl
none_below low q (r ∷ rs) lt h =
    let above = h.0.above in
    let off : has_page r q ≡ false = grind (arith, nat_tests) in
    rw off (none_below (r.page + r.count) q rs (omega arith) h.1)

lower_regions : (low high : ℕ) (rs : List Region) → low ≤ high → AreRegions high rs
    → AreRegions low rs
lower_regions low high [] le h = tt
lower_regions low high (r ∷ rs) le h = (
  record {
    above = omega (arith, h.0.above);
    nonempty = h.0.nonempty;
    below = h.0.below;
    accessible = h.0.accessible;
    readable = h.0.readable;
  },
  h.1,
)

give_earlier : (f : ℕ → Permission) (page end : ℕ) (rs : List Region) → IsRun f page end
    → f page ≡ no_permission → GiveFrom f end rs → GiveFrom f page rs
give_earlier f page end rs run none h = record {
  regions = lower_regions page end rs (omega (arith, run.later)) h.regions;
  joined = h.joined;
  gives = λ q le lt. elim (cases_lt q end) [
    | inl before ↦ none_below end q rs before h.regions ∙ sym (run.same q le before ∙ none)
    | inr behind ↦ h.gives q behind lt
  ];
}

-- ---- a run with a permission

-- the next region, if any, isn't joined to the run
next_apart : (f : ℕ → Permission) (page end : ℕ) (rs : List Region) → IsRun f page end
    → GiveFrom f end rs → IsApart end (f page) rs
next_apart f page end [] run h = tt
next_apart f page end (r ∷ rs) run h = λ both.
    let nonempty = h.regions.0.nonempty in
    let below = h.regions.0.below in
    let on : has_page r r.page ≡ true = grind (arith, nat_tests) in
    let has : permission_in (r ∷ rs) r.page ≡ region_permission r = rw on refl in
    let gives = h.gives r.page (omega arith) (omega arith) in
    let there : f r.page ≡ f page = sym gives ∙ has ∙ sym both.1 in
    run.apart (omega arith) (rw both.0 at there)

-- the region of a run
pub record IsOfRun (f : ℕ → Permission) (page end : ℕ) (r : Region) : Type 0 where
  pub run : IsRun f page end
  pub begins : r.page ≡ page
  pub ends : r.page + r.count ≡ end
  pub permission : region_permission r ≡ f page
  pub accessible : IsTrue (r.r || r.x)
  pub readable : IsTrue r.w → IsTrue r.r

give_with : (f : ℕ → Permission) (page end : ℕ) (r : Region) (rs : List Region)
    → IsOfRun f page end r → GiveFrom f end rs → GiveFrom f page (r ∷ rs)
give_with f page end r rs is h =
    let begins = is.begins in
    let ends = is.ends in
    let run = is.run in
    let region : IsRegion page r = record {
      above = omega arith;
      nonempty = omega arith;
      below = omega arith;
      accessible = is.accessible;
      readable = is.readable;
    } in
    record {
      regions = (region, rw ends h.regions);
      joined = (rw (ends, is.permission) (next_apart f page end rs run h), h.joined);
      gives = λ q le lt. elim (cases_lt q end) [
        | inl before ↦
            let on : has_page r q ≡ true = grind (arith, nat_tests) in
            rw on (is.permission ∙ sym (run.same q le before))
        | inr behind ↦
            let off : has_page r q ≡ false = grind (arith, nat_tests) in
            rw off (h.gives q behind lt)
      ];
    }

-- ---- the regions of all runs

pub no_region-continues : (f : ℕ → Permission) (page end : ℕ) (done : List Region)
    → IsRun f page end → f page ≡ no_permission → Continues f page done → Continues f end done
no_region-continues f page end done run none before = λ rest h.
    before rest (give_earlier f page end rest run none h)

pub region-continues : (f : ℕ → Permission) (page end : ℕ) (done : List Region) (r : Region)
    → IsOfRun f page end r → Continues f page done → Continues f end (done ++ r ∷ [])
region-continues f page end done r is before = λ rest h.
    rw append_assoc (before (r ∷ rest) (give_with f page end r rest is h))

-- up to the limit they give all
pub give_all : (f : ℕ → Permission) (page : ℕ) (done : List Region) → page_limit ≤ page
    → Continues f page done → GiveFrom f 0 done
give_all f page done le continues =
    let none : GiveFrom f page [] = record {
      regions = tt;
      joined = tt;
      gives = λ q low lt. absurd (omega arith);
    } in
    rw append-nil at (continues [] none)
