-- What a space means: flat memory, what may be done with its pages, and which of them were
-- written since its layer.
use Rattle.std.specs.Prelude.{ℕ, Bool, List, length}
use Rattle.image_model.specs.Layout.{Layout, byte_in}
use Rattle.image_model.specs.Pages.{page_of}
use Rattle.image_model.specs.Permission.{Permission, permission_in}
use Rattle.machine_model.specs.Loaded.{no_page}
use Rattle.machine_model.specs.Machine.{Machine, bytes_at, little_endian, with_bytes, with_written}
use Rattle.machine_model.specs.declared.hart.Hart.{Hart}

pub record Flat : Type 0 where
  -- the byte at each address, 0 where nothing was said
  pub memory : ℕ → ℕ
  -- what may be done with each page
  pub permissions : ℕ → Permission
  -- the set of pages that were written
  pub written : ℕ → Bool

-- the packets and console bytes of a run
pub record Traffic : Type 0 where
  pub queue : List (List ℕ)
  pub sent : List (List ℕ)
  pub console : List ℕ

-- the machine of a hart, a space and what goes in and out
abbrev pub machine_of : Hart → Flat → Traffic → Machine
machine_of hart flat traffic = record {
  registers = hart.x;
  pc = hart.pc;
  resting = hart.resting;
  memory = flat.memory;
  permissions = flat.permissions;
  written = flat.written;
  queue = traffic.queue;
  sent = traffic.sent;
  console = traffic.console;
}

-- ---- what may be accessed, by address

abbrev pub is_readable : Flat → ℕ → Bool
is_readable flat a = (flat.permissions (page_of a)).readable

abbrev pub is_writable : Flat → ℕ → Bool
is_writable flat a = (flat.permissions (page_of a)).writable

abbrev pub is_executable : Flat → ℕ → Bool
is_executable flat a = (flat.permissions (page_of a)).executable

-- ---- what is read, and what a store makes of it

-- the number of n bytes from `at` on, the lowest first
abbrev pub number_at : Flat → (at n : ℕ) → ℕ
number_at flat at n = little_endian (bytes_at flat.memory at n)

abbrev pub after_store : Flat → (at : ℕ) → List ℕ → Flat
after_store flat at bytes = record flat {
  memory = with_bytes at bytes flat.memory;
  written = with_written at (length bytes) flat.written;
}

-- the space of a start, of which no page was written
abbrev pub flat_of : Layout → Flat
flat_of start = record {
  memory = byte_in start.pages;
  permissions = permission_in start.regions;
  written = no_page;
}
