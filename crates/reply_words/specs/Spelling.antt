-- How numbers, bytes and packets are spelled in a word.
use Rattle.std.specs.Prelude.{ℕ, ◌/◌, ◌%◌, ◌<◌, ◌≤◌, false, List, [], ◌∷◌, ◌++◌, length, codes}
use Rattle.std.specs.Fmt.{digits, digit_glyph}
use Rattle.std.specs.List.{flat_map, AllByRecursion}
use Rattle.machine_model.specs.Hypercall.{packet_limit}

-- in as many digits as it takes, with small letters
abbrev pub hexadecimal : ℕ → List ℕ
hexadecimal n = digits 16 false n

-- a byte as two digits
abbrev pub byte_text : ℕ → List ℕ
byte_text b = digit_glyph false (b / 16) ∷ (digit_glyph false (b % 16) ∷ [])

-- bytes as two digits each, or a dash where there are none
abbrev pub bytes_text : List ℕ → List ℕ
bytes_text [] = codes "-"
bytes_text (b ∷ bs) = flat_map byte_text (b ∷ bs)

abbrev pub packet_behind_slash : List ℕ → List ℕ
packet_behind_slash packet = codes "/" ++ bytes_text packet

-- packets with slashes between, or `none`
abbrev pub packets_text : List (List ℕ) → List ℕ
packets_text [] = codes "none"
packets_text (packet ∷ packets) = bytes_text packet ++ flat_map packet_behind_slash packets

-- as many bytes as a packet may have
pub record IsPacket (packet : List ℕ) : Type 0 where
  pub short : length packet ≤ packet_limit
  pub bytes : AllByRecursion (λ b. b < 256) packet

abbrev pub ArePackets : List (List ℕ) → Type 0
ArePackets packets = AllByRecursion IsPacket packets
