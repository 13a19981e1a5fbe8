-- The machine before a program's first instruction is valid.
use Rattle.std.proofs.Common.{◌≡◌, ℕ, ◌+◌, ◌^◌, ◌<◌, ◌≤◌, true, List, [], ◌∷◌, replicate, inl, inr, refl, arith}
use Rattle.std.specs.Prelude.{IsTrue, slice_index}
use Rattle.std.proofs.lemmas.Bool.{cases_lt}
use Rattle.std.proofs.lemmas.Bool.Decides.{nat_tests}
use Rattle.std.proofs.lemmas.List.{get_or-replicate, get_or_past, length-replicate}
use Rattle.std.proofs.lemmas.List.Elements.{All-nil}
use Rattle.image_model.specs.Layout.{Layout, IsLayout, AreRegions}
use Rattle.image_model.specs.Pages.{page_limit}
use Rattle.image_model.specs.Permission.{Permission, no_permission, region_permission, has_page, permission_in}
use Rattle.image_model.specs.declared.region.Region.{Region}
use Rattle.machine_model.specs.Loaded.{loaded}
use Rattle.machine_model.specs.Valid.{IsPacket, IsValid, HasBytes}
use Rattle.machine_model.proofs.Changes.{AreRegisters, with_register-keeps}
use Rattle.machine_model.proofs.Choices.{of_either}

-- ---- permissions

-- what may be written may be read
abbrev IsReadable : Permission → Type 0
IsReadable p = IsTrue p.writable → IsTrue p.readable

permission-readable : (lowest : ℕ) (rs : List Region) (page : ℕ) → AreRegions lowest rs →
    IsReadable (permission_in rs page)
permission-readable lowest [] page h = λ t. cc
permission-readable lowest (r ∷ rs) page h =
    of_either IsReadable (has_page r page) (region_permission r) (permission_in rs page)
    (λ e. h.0.readable) (λ e. permission-readable (r.page + r.count) rs page h.1)

has_page-below : (r : Region) (page : ℕ) → has_page r page ≡ true → page < r.page + r.count
has_page-below r page e = grind (arith, nat_tests)

permission-below : (lowest : ℕ) (rs : List Region) (page : ℕ) → AreRegions lowest rs →
    page_limit ≤ page → permission_in rs page ≡ no_permission
permission-below lowest [] page h le = refl
permission-below lowest (r ∷ rs) page h le =
    of_either (λ p. p ≡ no_permission) (has_page r page) (region_permission r)
    (permission_in rs page)
    (λ e. let b = h.0.below in let l = has_page-below r page e in absurd (omega arith))
    (λ e. permission-below (r.page + r.count) rs page h.1 le)

-- ---- registers

zero-at : (n k : ℕ) → slice_index (replicate n 0) k ≡ 0
zero-at n k =
    elim (cases_lt k n) [
      | inl lt ↦ get_or-replicate n k 0 0 lt
      | inr le ↦ get_or_past (replicate n 0) k 0 (omega (arith, length-replicate {A = ℕ} n 0))
    ]

zeros : (n : ℕ) → n ≡ 32 → AreRegisters (replicate n 0)
zeros n e = record {
  number = omega (arith, length-replicate {A = ℕ} n 0);
  words = λ k. let z = zero-at n k in omega arith;
  zero = zero-at n 0;
}

-- ---- the whole

pub loaded-valid : (start : Layout) → start.entry < 2 ^ 64 → IsLayout start → HasBytes start →
    IsValid (loaded start)
loaded-valid start fits l bytes =
    let r = with_register-keeps 2 (2 ^ 38) (replicate 32 0) (omega arith) (zeros 32 refl) in
    record {
      registers = r.number;
      words = r.words;
      zero = r.zero;
      pc = fits;
      aligned = l.aligned;
      memory = bytes;
      readable = λ page. permission-readable 0 start.regions page l.regions;
      below = λ page. permission-below 0 start.regions page l.regions;
      written = λ page t. cc;
      queue = All-nil IsPacket;
      sent = All-nil IsPacket;
      sent_few = omega arith;
      sent_short = omega arith;
      console = All-nil (λ byte. byte < 2 ^ 8);
      console_short = omega arith;
    }
