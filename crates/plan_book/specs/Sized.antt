-- The sizes of a plan's book.
use Rattle.std.specs.Prelude.{ℕ, ◌^◌, ◌<◌, Some, List, map, All}
use Rattle.batch_model.specs.Setting.{stack_on}
use Rattle.journal_model.specs.Extents.{Extents, Stack}
use Rattle.plan_model.specs.Outline.{Outline}

-- Over copied pages, where the clock shows what the plan says, and for so many requests.
abbrev pub sizes_for : Outline → (requests : ℕ) → Extents
sizes_for plan requests = record {
  frames = plan.numbers.frames;
  root = 0;
  idle = plan.numbers.idle;
  layers = plan.numbers.room;
  uses = plan.numbers.uses;
  requests = requests;
  clock = Some plan.numbers.clock;
  stacks = map (stack_on plan.layers) plan.functions;
}

-- the numbers of starts are below this
abbrev pub start_limit : ℕ
start_limit = 2 ^ 16

-- each stack has an image with such a number
abbrev pub HaveStarts : List Stack → Type 0
HaveStarts stacks = All (λ (stack : Stack). stack.start < start_limit) stacks
