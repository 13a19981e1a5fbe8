-- Memory with some pages in the place of its own.
use Rattle.std.specs.Prelude.{ℕ, Bool, if◌then◌else◌}
use Rattle.image_model.specs.Pages.{page_of}
use Rattle.machine_model.specs.Machine.{Machine}

-- a set of pages with their bytes, by address
pub record Pages : Type 0 where
  pub listed : ℕ → Bool
  pub bytes : ℕ → ℕ

abbrev pub overlay : (ℕ → ℕ) → Pages → ℕ → ℕ
overlay memory pages a = if pages.listed (page_of a) then pages.bytes a else memory a

-- the pages that were written on the way to the machine, with their bytes then
abbrev pub difference : Machine → Pages
difference reached = record { listed = reached.written; bytes = reached.memory }
