-- What a run takes in and writes.
use Rattle.std.specs.Prelude.{◌≡◌, ℕ, ◌≤◌, List, [], ◌∷◌, take, drop, sum, length}
use Rattle.machine_model.specs.Hypercall.{sent_limit, sent_bytes_limit, console_limit}
use Rattle.space_api.specs.Flat.{Traffic}

-- what the clock shows, in nanoseconds, and the packets and console bytes
pub record Exchange : Type 0 where
  pub clock : ℕ
  pub traffic : Traffic

-- these packets are queued, and nothing was written
abbrev pub starting : (clock : ℕ) → List (List ℕ) → Exchange
starting clock packets = record {
  clock = clock;
  traffic = record { queue = packets; sent = []; console = [] };
}

-- the pieces of these sizes that stand in bytes one after another
abbrev pub pieces : (sizes bytes : List ℕ) → List (List ℕ)
pieces [] bytes = []
pieces (n ∷ ns) bytes = take n bytes ∷ pieces ns (drop n bytes)

-- the rooms for what a run writes, and how much of them is taken
pub record FitsRooms (queued read : ℕ) (sizes : List ℕ) (count used bytes shown text : ℕ)
    : Type 0 where
  pub read_few : read ≤ queued
  pub sizes_room : length sizes ≡ sent_limit
  pub sent_few : count ≤ sent_limit
  pub used_is : sum (take count sizes) ≡ used
  pub sent_short : used ≤ sent_bytes_limit
  pub sent_room : bytes ≡ sent_bytes_limit
  pub console_short : shown ≤ console_limit
  pub console_room : text ≡ console_limit
