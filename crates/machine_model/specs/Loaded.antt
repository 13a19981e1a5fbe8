-- The machine before a program's first instruction.
use Rattle.std.specs.Prelude.{ℕ, ◌^◌, Bool, false, [], replicate}
use Rattle.image_model.specs.Layout.{Layout, byte_in}
use Rattle.image_model.specs.Permission.{permission_in}
use Rattle.machine_model.specs.Machine.{Machine, with_register}

abbrev pub no_page : ℕ → Bool
no_page page = false

-- The program counter is at the entry, the stack pointer x2 is 2 ^ 38, every other register is
-- 0; no page was written.
abbrev pub loaded : Layout → Machine
loaded start = record {
  registers = with_register 2 (2 ^ 38) (replicate 32 0);
  pc = start.entry;
  resting = false;
  memory = byte_in start.pages;
  permissions = permission_in start.regions;
  written = no_page;
  queue = [];
  sent = [];
  console = [];
}
