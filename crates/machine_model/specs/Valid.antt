-- Which machines there are. Each instruction, hypercall and `give` keeps a machine valid.
use Rattle.std.specs.Prelude.{◌≡◌, ℕ, ◌%◌, ◌^◌, ◌<◌, ◌≤◌, IsTrue, List, All, length, sum_by}
use Rattle.image_model.specs.Layout.{Layout, byte_in}
use Rattle.image_model.specs.Pages.{page_limit}
use Rattle.image_model.specs.Permission.{no_permission}
use Rattle.machine_model.specs.Hypercall.{packet_limit, sent_limit, sent_bytes_limit, console_limit}
use Rattle.machine_model.specs.Machine.{Machine, register}

abbrev pub AreBytes : List ℕ → Type 0
AreBytes bytes = All (λ byte. byte < 2 ^ 8) bytes

pub record IsPacket (packet : List ℕ) : Type 0 where
  pub bytes : AreBytes packet
  pub short : length packet ≤ packet_limit

pub record IsValid (m : Machine) : Type 0 where
  -- 32 words, of which x0 is 0
  pub registers : length m.registers ≡ 32
  pub words : (r : ℕ) → register m r < 2 ^ 64
  pub zero : register m 0 ≡ 0
  -- the address of an instruction
  pub pc : m.pc < 2 ^ 64
  pub aligned : m.pc % 4 ≡ 0
  -- bytes
  pub memory : (a : ℕ) → m.memory a < 2 ^ 8
  -- what may be written may be read, and nothing may be done at or above address 2 ^ 38
  pub readable : (page : ℕ) → IsTrue (m.permissions page).writable →
      IsTrue (m.permissions page).readable
  pub below : (page : ℕ) → page_limit ≤ page → m.permissions page ≡ no_permission
  -- only pages that may be written were
  pub written : (page : ℕ) → IsTrue (m.written page) → IsTrue (m.permissions page).writable
  -- packets and console bytes within their limits
  pub queue : All IsPacket m.queue
  pub sent : All IsPacket m.sent
  pub sent_few : length m.sent ≤ sent_limit
  pub sent_short : sum_by length m.sent ≤ sent_bytes_limit
  pub console : AreBytes m.console
  pub console_short : length m.console ≤ console_limit

-- the pages of a start hold bytes
abbrev pub HasBytes : Layout → Type 0
HasBytes start = (a : ℕ) → byte_in start.pages a < 2 ^ 8
