-- What a hypercall makes of a valid machine is valid.
use Rattle.std.proofs.Common.{◌≡◌, ℕ, ◌+◌, ◌%◌, ◌^◌, ◌<◌, ◌≤◌, true, ◌&&◌, List, [], ◌∷◌, ◌++◌, length, subst, arith}
use Rattle.std.specs.Prelude.{◌==◌, All, sum_by, nat_le}
use Rattle.std.proofs.lemmas.Bool.Decides.{nat_tests}
use Rattle.std.proofs.lemmas.List.{length-append}
use Rattle.std.proofs.lemmas.List.Elements.{All-append, All-head, All-tail, All-push}
use Rattle.std.proofs.lemmas.List.Sums.{sum_by_push}
use Rattle.machine_model.specs.Hypercall.{Outcome, Done, Rests, Halts, Unknown, outcome, clock_read, console_write, wait, net_write, net_read, halt, ok, again, invalid, packet_queued, packet_limit, sent_limit, sent_bytes_limit, console_limit, after_call, after_result, after_packet, fits_console, console_writes, waits, fits_net, net_writes, net_reads}
use Rattle.machine_model.specs.Machine.{Machine, register, with_register, is_writable, range_passes, bytes_at, with_store}
use Rattle.machine_model.specs.Valid.{IsPacket, IsValid}
use Rattle.machine_model.proofs.Changes.{registers_of, with_register-keeps, valid-registers, valid-store, valid-queue, valid-sent, valid-console, valid-resting}
use Rattle.machine_model.proofs.Choices.{of_either}
use Rattle.machine_model.proofs.Instructions.{next_pc-aligned}
use Rattle.machine_model.proofs.Ranges.{length-bytes_at, right_true}
use Rattle.machine_model.proofs.Values.{bytes_at-bytes}

-- the machine after it is valid
abbrev pub Keeps : Outcome → Type 0
Keeps (Done after) = IsValid after
Keeps (Rests after) = IsValid after
Keeps (Halts code after) = IsValid after
Keeps (Unknown number) = Unit {0}

result-valid : (result : ℕ) (m : Machine) → result < 2 ^ 64 → IsValid m →
    IsValid (after_result result m)
result-valid result m fits v =
    valid-registers m (with_register 10 result m.registers) ((m.pc + 4) % 2 ^ 64) v
    (with_register-keeps 10 result m.registers fits (registers_of m v)) (omega arith)
    (next_pc-aligned m v)

call-valid : (m : Machine) → IsValid m → IsValid (after_call m)
call-valid m v =
    valid-registers m m.registers ((m.pc + 4) % 2 ^ 64) v (registers_of m v) (omega arith)
    (next_pc-aligned m v)

-- ---- one lemma a hypercall

console_fits : (m : Machine) (at size : ℕ) → fits_console m at size ≡ true →
    length m.console + size ≤ console_limit
console_fits m at size e = grind (arith, nat_tests)

console_writes-keeps : (m : Machine) (at size : ℕ) → IsValid m → Keeps (console_writes m at size)
console_writes-keeps m at size v =
    let bytes = bytes_at m.memory at size in
    of_either Keeps (fits_console m at size) _ _
    (λ e. result-valid ok (record m { console = m.console ++ bytes }) (omega arith)
    (valid-console m (m.console ++ bytes) v
    (All-append (λ byte. byte < 2 ^ 8) m.console bytes v.console
    (bytes_at-bytes m.memory at size v.memory))
    (let f = console_fits m at size e in
    let n = length-bytes_at m.memory at size in
    omega (arith, length-append m.console bytes))))
    (λ e. result-valid invalid m (omega arith) v)

waits-keeps : (m : Machine) (queue : List (List ℕ)) → IsValid m → Keeps (waits m queue)
waits-keeps m [] v = valid-resting (after_call m) true (call-valid m v)
waits-keeps m (packet ∷ rest) v = result-valid packet_queued m (omega arith) v

net_fits : (m : Machine) (at size : ℕ) → fits_net m at size ≡ true →
    (size ≤ packet_limit) × (length m.sent < sent_limit)
    × (sum_by length m.sent + size ≤ sent_bytes_limit)
net_fits m at size e = (
  grind (arith, nat_tests),
  grind (arith, nat_tests),
  grind (arith, nat_tests),
)

net_writes-keeps : (m : Machine) (at size : ℕ) → IsValid m → Keeps (net_writes m at size)
net_writes-keeps m at size v =
    let bytes = bytes_at m.memory at size in
    let n = length-bytes_at m.memory at size in
    of_either Keeps (fits_net m at size) _ _
    (λ e. let f = net_fits m at size e in
    result-valid ok (record m { sent = m.sent ++ bytes ∷ [] }) (omega arith)
    (valid-sent m (m.sent ++ bytes ∷ []) v
    (All-push IsPacket m.sent bytes v.sent
    (record { bytes = bytes_at-bytes m.memory at size v.memory; short = omega arith }))
    (omega (arith, length-append m.sent (bytes ∷ [])))
    (omega (arith, sum_by_push length m.sent bytes))))
    (λ e. result-valid invalid m (omega arith) v)

packet-valid : (m : Machine) (at : ℕ) (packet : List ℕ) (rest : List (List ℕ)) → IsValid m →
    IsPacket packet → All IsPacket rest → range_passes (is_writable m) at (length packet) ≡ true →
    IsValid (after_packet m at packet rest)
packet-valid m at packet rest v p r passes =
    let s = with_store at packet m in
    let registers = with_register 11 (length packet) (with_register 10 ok m.registers) in
    let short = p.short in
    let w = valid-store m at packet v p.bytes passes in
    valid-queue (record s { registers = registers; pc = (m.pc + 4) % 2 ^ 64 }) rest
    (valid-registers s registers ((m.pc + 4) % 2 ^ 64) w
    (with_register-keeps 11 (length packet) (with_register 10 ok m.registers) (omega arith)
    (with_register-keeps 10 ok m.registers (omega arith) (registers_of m v)))
    (omega arith) (next_pc-aligned m v)) r

net_reads-keeps : (m : Machine) (at room : ℕ) (queue : List (List ℕ)) → IsValid m →
    All IsPacket queue → Keeps (net_reads m at room queue)
net_reads-keeps m at room [] v q = result-valid again m (omega arith) v
net_reads-keeps m at room (packet ∷ rest) v q =
    let passes = range_passes (is_writable m) at (length packet) in
    of_either Keeps (nat_le (length packet) room && passes) _ _
    (λ e. packet-valid m at packet rest v (All-head IsPacket packet rest q)
    (All-tail IsPacket packet rest q)
    (right_true (nat_le (length packet) room) passes e))
    (λ e. result-valid invalid m (omega arith) v)

-- ---- every hypercall

pub outcome-keeps : (m : Machine) (clock : ℕ) → clock < 2 ^ 64 → IsValid m →
    Keeps (outcome m clock)
outcome-keeps m clock fits v =
    let is = λ (number : ℕ). register m 17 == number in
    of_either Keeps (is clock_read) _ _ (λ e. result-valid clock m fits v)
    (λ e. of_either Keeps (is console_write) _ _
    (λ e. console_writes-keeps m (register m 10) (register m 11) v)
    (λ e. of_either Keeps (is wait) _ _ (λ e. waits-keeps m m.queue v)
    (λ e. of_either Keeps (is net_write) _ _
    (λ e. net_writes-keeps m (register m 10) (register m 11) v)
    (λ e. of_either Keeps (is net_read) _ _
    (λ e. net_reads-keeps m (register m 10) (register m 11) m.queue v v.queue)
    (λ e. of_either Keeps (is halt) _ _ (λ e. call-valid m v) (λ e. tt))))))

pub done-keeps : (m after : Machine) (clock : ℕ) → clock < 2 ^ 64 → IsValid m →
    outcome m clock ≡ Done after → IsValid after
done-keeps m after clock fits v e = subst Keeps e (outcome-keeps m clock fits v)

pub rests-keeps : (m after : Machine) (clock : ℕ) → clock < 2 ^ 64 → IsValid m →
    outcome m clock ≡ Rests after → IsValid after
rests-keeps m after clock fits v e = subst Keeps e (outcome-keeps m clock fits v)

pub halts-keeps : (m after : Machine) (clock code : ℕ) → clock < 2 ^ 64 → IsValid m →
    outcome m clock ≡ Halts code after → IsValid after
halts-keeps m after clock code fits v e = subst Keeps e (outcome-keeps m clock fits v)
