-- The hypercalls, by which a program reaches the outside. ECALL makes the one whose number is in
-- a7 (x17), with its arguments in a0 (x10) and a1 (x11); its result is in a0. Other registers
-- stay unless named. They are this project's own, after Solo5.
use Rattle.std.specs.Prelude.{ℕ, ◌+◌, ◌%◌, ◌^◌, ◌==◌, nat_le, nat_lt, Bool, true, ◌&&◌}
use Rattle.std.specs.Prelude.{if◌then◌else◌, List, [], ◌∷◌, ◌++◌, length, sum_by}
use Rattle.machine_model.specs.Machine.{Machine, register, with_register, is_readable, is_writable}
use Rattle.machine_model.specs.Machine.{range_passes, bytes_at, with_store}

-- what a hypercall comes to
pub data Outcome : Type 0 where
  -- it is done, and this is the machine after it
  Done : Machine → Outcome
  -- the program waits for a packet, and none is queued
  Rests : Machine → Outcome
  -- the program ends with this code
  Halts : (code : ℕ) → Machine → Outcome
  -- there is no hypercall of this number, and the machine stays as it is
  Unknown : (number : ℕ) → Outcome

-- ---- the hypercalls by their numbers

abbrev pub clock_read : ℕ
clock_read = 1

abbrev pub console_write : ℕ
console_write = 2

abbrev pub wait : ℕ
wait = 3

abbrev pub net_write : ℕ
net_write = 6

abbrev pub net_read : ℕ
net_read = 7

abbrev pub halt : ℕ
halt = 8

-- ---- results

abbrev pub ok : ℕ
ok = 0

-- no packet is queued, for net read
abbrev pub again : ℕ
again = 1

abbrev pub invalid : ℕ
invalid = 2

-- a packet is queued, for wait
abbrev pub packet_queued : ℕ
packet_queued = 1

-- ---- limits

-- the bytes of one packet
abbrev pub packet_limit : ℕ
packet_limit = 32768

-- the packets written in one run, and their bytes together
abbrev pub sent_limit : ℕ
sent_limit = 64

abbrev pub sent_bytes_limit : ℕ
sent_bytes_limit = 65536

-- the console bytes written in one run, which is also the most that one hypercall writes
abbrev pub console_limit : ℕ
console_limit = 4096

-- ---- the machine after a hypercall

-- the program counter is after the ECALL
abbrev pub after_call : Machine → Machine
after_call m = record m { pc = (m.pc + 4) % 2 ^ 64 }

-- and the result is in a0
abbrev pub after_result : ℕ → Machine → Machine
after_result result m =
    record m { registers = with_register 10 result m.registers; pc = (m.pc + 4) % 2 ^ 64 }

-- ---- the console

-- so many bytes from `at` on may be written to the console
abbrev pub fits_console : Machine → (at size : ℕ) → Bool
fits_console m at size =
    nat_le size console_limit && nat_le (length m.console + size) console_limit
    && range_passes (is_readable m) at size

abbrev pub console_writes : Machine → (at size : ℕ) → Outcome
console_writes m at size =
    if fits_console m at size
    then Done (after_result ok (record m { console = m.console ++ bytes_at m.memory at size }))
    else Done (after_result invalid m)

-- ---- packets

abbrev pub waits : Machine → List (List ℕ) → Outcome
waits m [] = Rests (record m { pc = (m.pc + 4) % 2 ^ 64; resting = true })
waits m (packet ∷ rest) = Done (after_result packet_queued m)

-- a packet of so many bytes from `at` on may be written
abbrev pub fits_net : Machine → (at size : ℕ) → Bool
fits_net m at size =
    nat_le size packet_limit && nat_lt (length m.sent) sent_limit
    && nat_le (sum_by length m.sent + size) sent_bytes_limit && range_passes (is_readable m) at size

abbrev pub net_writes : Machine → (at size : ℕ) → Outcome
net_writes m at size =
    if fits_net m at size
    then Done (after_result ok (record m { sent = m.sent ++ bytes_at m.memory at size ∷ [] }))
    else Done (after_result invalid m)

-- the machine that read the packet into memory, with its length in a1
abbrev pub after_packet : Machine → (at : ℕ) → List ℕ → List (List ℕ) → Machine
after_packet m at packet rest = record (with_store at packet m) {
  registers = with_register 11 (length packet) (with_register 10 ok m.registers);
  pc = (m.pc + 4) % 2 ^ 64;
  queue = rest;
}

abbrev pub net_reads : Machine → (at room : ℕ) → List (List ℕ) → Outcome
net_reads m at room [] = Done (after_result again m)
net_reads m at room (packet ∷ rest) =
    if nat_le (length packet) room && range_passes (is_writable m) at (length packet)
    then Done (after_packet m at packet rest)
    else Done (after_result invalid m)

-- ---- all of them

-- what the hypercall comes to at which the machine stands, where the clock shows so many
-- nanoseconds
abbrev pub outcome : Machine → (clock : ℕ) → Outcome
outcome m clock =
    let number = register m 17 in
    if number == clock_read then Done (after_result clock m)
    else if number == console_write then console_writes m (register m 10) (register m 11)
    else if number == wait then waits m m.queue
    else if number == net_write then net_writes m (register m 10) (register m 11)
    else if number == net_read then net_reads m (register m 10) (register m 11) m.queue
    else if number == halt then Halts (register m 10) (after_call m)
    else Unknown number
