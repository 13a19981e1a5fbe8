-- What may change in a machine so that it stays valid, one lemma a kind of change.
use Rattle.std.proofs.Common.{◌≡◌, ◌≢◌, ℕ, zero, suc, ◌%◌, ◌^◌, ◌<◌, ◌≤◌, Bool, true, false, ◌||◌, List, length, inl, inr, refl, ◌∙◌, arith}
use Rattle.std.specs.Prelude.{◌==◌, IsTrue, All, sum_by, slice_index, slice_set}
use Rattle.std.proofs.lemmas.Bool.{cases_eq, cases_lt}
use Rattle.std.proofs.lemmas.Bool.Decides.{nat_tests}
use Rattle.std.proofs.lemmas.List.{length-set, get_or-set_same, get_or-set_other, set_past}
use Rattle.image_model.specs.Pages.{page_of}
use Rattle.machine_model.specs.Hypercall.{sent_limit, sent_bytes_limit, console_limit}
use Rattle.machine_model.specs.Machine.{Machine, with_register, is_writable, address, range_passes, with_written, with_store}
use Rattle.machine_model.specs.Valid.{AreBytes, IsPacket, IsValid}
use Rattle.machine_model.proofs.Choices.{of_either}
use Rattle.machine_model.proofs.Ranges.{with_written-none, with_written-next, passes_each}
use Rattle.machine_model.proofs.Values.{with_bytes-lt}

-- ---- registers

-- 32 words, of which x0 is 0
pub record AreRegisters (registers : List ℕ) : Type 0 where
  pub number : length registers ≡ 32
  pub words : (r : ℕ) → slice_index registers r < 2 ^ 64
  pub zero : slice_index registers 0 ≡ 0

pub registers_of : (m : Machine) → IsValid m → AreRegisters m.registers
registers_of m v = record { number = v.registers; words = v.words; zero = v.zero }

set-word : (registers : List ℕ) (r value k : ℕ) → value < 2 ^ 64 → AreRegisters registers →
    slice_index (slice_set registers r value) k < 2 ^ 64
set-word registers r value k fits h =
    elim (cases_eq k r) [
      | inl same ↦ elim (cases_lt r (length registers)) [
        | inl lt ↦ (let e = get_or-set_same registers r value 0 lt in rw same (omega arith))
        | inr le ↦ rw (set_past registers r value le) (h.words k)
      ]
      | inr other ↦ rw (get_or-set_other registers r k value 0 other) (h.words k)
    ]

set-keeps : (registers : List ℕ) (r value : ℕ) → r ≢ 0 → value < 2 ^ 64 →
    AreRegisters registers → AreRegisters (slice_set registers r value)
set-keeps registers r value other fits h = record {
  number = length-set registers r value ∙ h.number;
  words = λ k. set-word registers r value k fits h;
  zero = get_or-set_other registers r 0 value 0 (omega arith) ∙ h.zero;
}

-- a word is written to a register
pub with_register-keeps : (r value : ℕ) (registers : List ℕ) → value < 2 ^ 64 →
    AreRegisters registers → AreRegisters (with_register r value registers)
with_register-keeps r value registers fits h =
    of_either AreRegisters (r == 0) registers (slice_set registers r value) (λ e. h)
    (λ e. set-keeps registers r value (grind (arith, nat_tests)) fits h)

-- the registers and the program counter
pub valid-registers : (m : Machine) (registers : List ℕ) (pc : ℕ) → IsValid m →
    AreRegisters registers → pc < 2 ^ 64 → pc % 4 ≡ 0 →
    IsValid (record m { registers = registers; pc = pc })
valid-registers m registers pc v r fits aligned = record {
  registers = r.number;
  words = r.words;
  zero = r.zero;
  pc = fits;
  aligned = aligned;
  memory = v.memory;
  readable = v.readable;
  below = v.below;
  written = v.written;
  queue = v.queue;
  sent = v.sent;
  sent_few = v.sent_few;
  sent_short = v.sent_short;
  console = v.console;
  console_short = v.console_short;
}

-- ---- stores

module _ (writable written : ℕ → Bool) (at : ℕ)
    (before : (page : ℕ) → IsTrue (written page) → IsTrue (writable page)) where
  here_or_before : (n page : ℕ) (was is : Bool) → is ≡ (page == page_of (address at n)) →
      (IsTrue was → IsTrue (writable page)) → writable (page_of (address at n)) ≡ true →
      IsTrue (was || is) → IsTrue (writable page)
  here_or_before n page true is e h here t = h refl
  here_or_before n page false true e h here t =
      let same : page ≡ page_of (address at n) = grind (arith, nat_tests) in rw same here
  here_or_before n page false false e h here t = cc

  -- a range that may be written adds only pages that may be written
  with_written-writable : (n page : ℕ) →
      ((i : ℕ) → i < n → writable (page_of (address at i)) ≡ true) →
      IsTrue (with_written at n written page) → IsTrue (writable page)
  with_written-writable zero page each t = before page (rw with_written-none at t)
  with_written-writable (suc n) page each t =
      here_or_before n page (with_written at n written page) (page == page_of (address at n)) refl
      (with_written-writable n page (λ i lt. each i (omega arith))) (each n (omega arith))
      (rw with_written-next at t)

pub valid-store : (m : Machine) (at : ℕ) (bytes : List ℕ) → IsValid m → AreBytes bytes →
    range_passes (is_writable m) at (length bytes) ≡ true → IsValid (with_store at bytes m)
valid-store m at bytes v h passes = record {
  registers = v.registers;
  words = v.words;
  zero = v.zero;
  pc = v.pc;
  aligned = v.aligned;
  memory = with_bytes-lt at bytes m.memory h v.memory;
  readable = v.readable;
  below = v.below;
  written = λ page. with_written-writable (λ p. (m.permissions p).writable) m.written at v.written
      (length bytes) page (λ i lt. passes_each (is_writable m) at (length bytes) i passes lt);
  queue = v.queue;
  sent = v.sent;
  sent_few = v.sent_few;
  sent_short = v.sent_short;
  console = v.console;
  console_short = v.console_short;
}

-- ---- packets and the console

pub valid-queue : (m : Machine) (queue : List (List ℕ)) → IsValid m → All IsPacket queue →
    IsValid (record m { queue = queue })
valid-queue m queue v h = record {
  registers = v.registers;
  words = v.words;
  zero = v.zero;
  pc = v.pc;
  aligned = v.aligned;
  memory = v.memory;
  readable = v.readable;
  below = v.below;
  written = v.written;
  queue = h;
  sent = v.sent;
  sent_few = v.sent_few;
  sent_short = v.sent_short;
  console = v.console;
  console_short = v.console_short;
}

pub valid-sent : (m : Machine) (sent : List (List ℕ)) → IsValid m → All IsPacket sent →
    length sent ≤ sent_limit → sum_by length sent ≤ sent_bytes_limit →
    IsValid (record m { sent = sent })
valid-sent m sent v h few short = record {
  registers = v.registers;
  words = v.words;
  zero = v.zero;
  pc = v.pc;
  aligned = v.aligned;
  memory = v.memory;
  readable = v.readable;
  below = v.below;
  written = v.written;
  queue = v.queue;
  sent = h;
  sent_few = few;
  sent_short = short;
  console = v.console;
  console_short = v.console_short;
}

pub valid-console : (m : Machine) (console : List ℕ) → IsValid m → AreBytes console →
    length console ≤ console_limit → IsValid (record m { console = console })
valid-console m console v h short = record {
  registers = v.registers;
  words = v.words;
  zero = v.zero;
  pc = v.pc;
  aligned = v.aligned;
  memory = v.memory;
  readable = v.readable;
  below = v.below;
  written = v.written;
  queue = v.queue;
  sent = v.sent;
  sent_few = v.sent_few;
  sent_short = v.sent_short;
  console = h;
  console_short = short;
}

pub valid-resting : (m : Machine) (resting : Bool) → IsValid m →
    IsValid (record m { resting = resting })
valid-resting m resting v = record {
  registers = v.registers;
  words = v.words;
  zero = v.zero;
  pc = v.pc;
  aligned = v.aligned;
  memory = v.memory;
  readable = v.readable;
  below = v.below;
  written = v.written;
  queue = v.queue;
  sent = v.sent;
  sent_few = v.sent_few;
  sent_short = v.sent_short;
  console = v.console;
  console_short = v.console_short;
}
