-- Plans of worked batches, and requests.
use Rattle.std.specs.Prelude.{ℕ, true, [], ◌∷◌, None, codes}
use Rattle.batch_model.specs.Setting.{Setting}
use Rattle.image_model.specs.Layout.{Layout}
use Rattle.layer_model_tests.specs.Plans.{layout_of, count, spin, at_loop, layer, plan_of}
use Rattle.layer_model_tests.specs.Plans.{three_layers}
use Rattle.plan_model.specs.Outline.{Outline}
use Rattle.plan_model.specs.declared.layer.PlanLayer.{PlanLayer}
use Rattle.plan_model.specs.declared.numbers.Numbers.{Numbers}
use Rattle.request_lines.specs.declared.request.Request.{Request}

abbrev pub numbers : (idle room uses prepare : ℕ) → Numbers
numbers idle room uses prepare = record {
  frames = 64;
  workers = 1;
  idle = idle;
  room = room;
  uses = uses;
  budget = 1000000;
  prepare = prepare;
  stack_bytes = 65536;
  clock = 0;
  serve = 4096;
}

abbrev pub most_prepare : ℕ
most_prepare = 10000000

-- one function on one layer, which sums the packets; with room for so many idle contexts, each of
-- which may answer so many requests
abbrev pub counting : (idle uses : ℕ) → Outline
counting idle uses = plan_of (numbers idle 1 uses most_prepare) count (at_loop None [] ∷ [])

-- three layers, each with a packet but the lowest
abbrev pub three : Outline
three = plan_of (numbers 1 3 64 most_prepare) count three_layers

-- the layer's run doesn't come to its trigger
abbrev pub spinning : Outline
spinning = plan_of (numbers 1 1 64 100) spin (layer None 65540 [] ∷ [])

-- addi x0, x0, 0; ebreak: the layer stands between the two
abbrev pub breaks : Layout
breaks = layout_of (0x00000013 ∷ 0x00100073 ∷ [])

abbrev pub breaking : Outline
breaking = plan_of (numbers 1 1 64 most_prepare) breaks (layer None 65540 [] ∷ [])

-- the same program on two images, with a layer and a function on each, and room for one layer
abbrev pub on_second : PlanLayer
on_second = record {
  name = codes "layer";
  below = None;
  start = 1;
  trigger = 65544;
  packets = [];
}

abbrev pub two : Outline
two = record {
  numbers = numbers 2 1 64 most_prepare;
  layers = at_loop None [] ∷ on_second ∷ [];
  functions = record { name = codes "a"; layer = 0 } ∷ record { name = codes "b"; layer = 1 } ∷ [];
  starts = count ∷ count ∷ [];
}

-- ---- what batches are given

-- over copied pages, with the plan's clock
abbrev pub copied : Outline → Setting
copied plan = record { plan = plan; fixed_clock = true; root = 0 }

-- one byte for a function
abbrev pub request : (function byte : ℕ) → Request
request function byte = record { function = function; packet = byte ∷ [] }
