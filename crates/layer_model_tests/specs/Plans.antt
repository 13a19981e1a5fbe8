-- Small plans, whose words an assembler made.
use Rattle.std.specs.Prelude.{ℕ, ◌^◌, ◌-◌, true, false, List, [], ◌∷◌, ◌++◌, Option, Some, None}
use Rattle.std.specs.Prelude.{codes, length, replicate}
use Rattle.std.specs.Int.{w32, to_le_bytes}
use Rattle.std.specs.List.{flat_map}
use Rattle.image_model.specs.Layout.{Layout}
use Rattle.image_model.specs.declared.region.PageBytes.{PageBytes}
use Rattle.plan_model.specs.Outline.{Outline}
use Rattle.plan_model.specs.declared.layer.PlanLayer.{PlanLayer}
use Rattle.plan_model.specs.declared.numbers.Numbers.{Numbers}
use Rattle.space_api.specs.declared.given.Given.{Given}

-- where the sum of packets stands, on a page of data
abbrev pub sum_at : ℕ
sum_at = 131072

-- ---- images

abbrev pub code_page : List ℕ → PageBytes
code_page words =
    let bytes = flat_map (λ w. to_le_bytes w32 w) words in
    record { page = 16; bytes = bytes ++ replicate (4096 - length bytes) 0 }

-- code at 0x10000, a page of data at 0x20000, and 16 pages of a stack
abbrev pub layout_of : List ℕ → Layout
layout_of words = record {
  entry = 65536;
  regions =
      record { page = 16; count = 1; r = true; w = false; x = true }
      ∷ record { page = 32; count = 1; r = true; w = true; x = false }
      ∷ record { page = 2 ^ 26 - 16; count = 16; r = true; w = true; x = false } ∷ [];
  pages = code_page words ∷ [];
}

-- It adds the first byte of each packet to the number at 0x20000, and writes the low byte of the
-- sum as a packet; then it waits for the next.
--     lui s0, 0x20
--     sd x0, 0(s0)
-- loop: addi a7, x0, 3
--     ecall
--     addi a0, s0, 16
--     addi a1, x0, 64
--     addi a7, x0, 7
--     ecall
--     ld t0, 0(s0)
--     lbu t1, 16(s0)
--     add t0, t0, t1
--     sd t0, 0(s0)
--     addi a0, s0, 0
--     addi a1, x0, 1
--     addi a7, x0, 6
--     ecall
--     jal x0, loop
abbrev pub count : Layout
count = layout_of (
    0x00020437 ∷ 0x00043023 ∷ 0x00300893 ∷ 0x00000073 ∷ 0x01040513 ∷ 0x04000593 ∷ 0x00700893
    ∷ 0x00000073 ∷ 0x00043283 ∷ 0x01044303 ∷ 0x006282b3 ∷ 0x00543023 ∷ 0x00040513 ∷ 0x00100593
    ∷ 0x00600893 ∷ 0x00000073 ∷ 0xfc9ff06f ∷ []
    )

-- addi a0, x0, 0; addi a7, x0, 8; ecall
abbrev pub tiny : Layout
tiny = layout_of (0x00000513 ∷ 0x00800893 ∷ 0x00000073 ∷ [])

-- a word that is no instruction
abbrev pub broken : Layout
broken = layout_of (0 ∷ [])

-- addi x0, x0, 0; addi a7, x0, 1; ecall; addi a7, x0, 8; ecall: it reads the clock, and halts with
-- what that shows
abbrev pub clocked : Layout
clocked = layout_of (0x00000013 ∷ 0x00100893 ∷ 0x00000073 ∷ 0x00800893 ∷ 0x00000073 ∷ [])

-- addi x0, x0, 0; lui a0, 0x10; addi a1, x0, 2; addi a7, x0, 2; ecall; addi a7, x0, 8; ecall: it
-- writes its first two bytes to the console, and halts
abbrev pub printer : Layout
printer = layout_of (
    0x00000013 ∷ 0x00010537 ∷ 0x00200593 ∷ 0x00200893 ∷ 0x00000073 ∷ 0x00800893 ∷ 0x00000073 ∷ []
    )

-- a jump to itself
abbrev pub spin : Layout
spin = layout_of (0x0000006f ∷ [])

-- ---- plans

abbrev pub numbers_with : (budget prepare : ℕ) → Numbers
numbers_with budget prepare = record {
  frames = 64;
  workers = 1;
  idle = 1;
  room = 3;
  uses = 8;
  budget = budget;
  prepare = prepare;
  stack_bytes = 65536;
  clock = 7;
  serve = 4096;
}

abbrev pub layer : (below : Option ℕ) → (trigger : ℕ) → (packets : List (List ℕ)) → PlanLayer
layer below trigger packets = record {
  name = codes "layer";
  below = below;
  start = 0;
  trigger = trigger;
  packets = packets;
}

-- a plan over an image, with a function on its last layer
abbrev pub plan_of : Numbers → Layout → List PlanLayer → Outline
plan_of numbers layout layers = record {
  numbers = numbers;
  layers = layers;
  functions = record { name = codes "f"; layer = length layers - 1 } ∷ [];
  starts = layout ∷ [];
}

abbrev pub numbers : Numbers
numbers = numbers_with 1000 1000

abbrev pub at_loop : (below : Option ℕ) → (packets : List (List ℕ)) → PlanLayer
at_loop below packets = layer below 65544 packets

-- each of the layers but the lowest is given a packet
abbrev pub three_layers : List PlanLayer
three_layers = at_loop None [] ∷ at_loop (Some 0) ((1 ∷ []) ∷ [])
    ∷ at_loop (Some 1) ((2 ∷ []) ∷ []) ∷ []

abbrev pub three : Outline
three = plan_of numbers count three_layers

-- one layer, where a request may take 16 instructions, and 17
abbrev pub short : Outline
short = plan_of (numbers_with 16 1000) count (at_loop None [] ∷ [])

abbrev pub enough : Outline
enough = plan_of (numbers_with 17 1000) count (at_loop None [] ∷ [])

-- the upper layer is given a packet that it doesn't read
abbrev pub unread : Outline
unread = plan_of numbers count
    (at_loop None [] ∷ at_loop (Some 0) ((1 ∷ []) ∷ (2 ∷ []) ∷ []) ∷ [])

-- the upper layer's trigger is past the loop
abbrev pub resting : Outline
resting = plan_of numbers count (at_loop None [] ∷ layer (Some 0) 65604 ((1 ∷ []) ∷ []) ∷ [])

-- a layer's run may take 100 instructions, and a request 1000
abbrev pub spinning : Outline
spinning = plan_of (numbers_with 1000 100) spin (layer None 65540 [] ∷ [])

-- the trigger is where the program begins
abbrev pub round : Outline
round = plan_of numbers spin (layer None 65536 [] ∷ [])

abbrev pub halting : Outline
halting = plan_of numbers tiny (layer None 65552 [] ∷ [])

abbrev pub breaking : Outline
breaking = plan_of numbers broken (layer None 65552 [] ∷ [])

-- the trigger is after the first instruction
abbrev pub timed : Outline
timed = plan_of numbers clocked (layer None 65540 [] ∷ [])

-- the trigger isn't reached
abbrev pub halting_timed : Outline
halting_timed = plan_of numbers clocked (layer None 65556 [] ∷ [])

-- the trigger is before what is written to the console
abbrev pub printing : Outline
printing = plan_of numbers printer (layer None 65540 [] ∷ [])

-- and after it
abbrev pub printed : Outline
printed = plan_of numbers printer (layer None 65556 [] ∷ [])

-- on the second image
abbrev pub on_second : PlanLayer
on_second = record {
  name = codes "second";
  below = None;
  start = 1;
  trigger = 65536;
  packets = [];
}

-- two layers on two images, with a function each
abbrev pub two : Outline
two = record {
  numbers = numbers_with 100 1000;
  layers = at_loop None [] ∷ on_second ∷ [];
  functions = record { name = codes "f"; layer = 0 } ∷ record { name = codes "g"; layer = 1 } ∷ [];
  starts = count ∷ spin ∷ [];
}

-- ---- requests

-- a packet of one byte, with what the clock shows
abbrev pub given : (byte clock : ℕ) → Given
given byte clock = record { packet = byte ∷ []; clock = clock }
