-- What a batch is given, and the sizes by which its journal is judged.
use Rattle.std.specs.Prelude.{ℕ, Bool, if◌then◌else◌, List, length, map, Option, None, Some}
use Rattle.std.specs.Prelude.{slice_get}
use Rattle.journal_model.specs.Extents.{Extents, Stack}
use Rattle.journal_model.specs.State.{State, numbered}
use Rattle.journal_model.specs.declared.state.RequestState.{RequestState}
use Rattle.plan_model.specs.Outline.{Outline}
use Rattle.plan_model.specs.Stacks.{stack}
use Rattle.plan_model.specs.declared.function.PlanFunction.{PlanFunction}
use Rattle.plan_model.specs.declared.layer.PlanLayer.{PlanLayer}
use Rattle.request_lines.specs.declared.request.Request.{Request}
use Rattle.space_api.specs.declared.given.Given.{Given}

-- The plan; whether the clock shows what the plan says, or else anything; and how many frames a
-- deploy takes, which is 0 over copied pages.
pub record Setting : Type 0 where
  pub plan : Outline
  pub fixed_clock : Bool
  pub root : ℕ

-- ---- sizes

abbrev pub start_of_one : Option PlanLayer → ℕ
start_of_one None = 0
start_of_one (Some layer) = layer.start

-- the image of a function, and its layers from the lowest up
abbrev pub stack_on : List PlanLayer → PlanFunction → Stack
stack_on layers function = record {
  start = start_of_one (slice_get layers function.layer);
  layers = stack layers function.layer;
}

-- rooms and limits are the plan's, there are as many requests as these, and the stacks are those of
-- the plan's functions
abbrev pub sizes_of : Setting → List Request → Extents
sizes_of setting requests = record {
  frames = setting.plan.numbers.frames;
  root = setting.root;
  idle = setting.plan.numbers.idle;
  layers = setting.plan.numbers.room;
  uses = setting.plan.numbers.uses;
  requests = length requests;
  clock = if setting.fixed_clock then Some setting.plan.numbers.clock else None;
  stacks = map (stack_on setting.plan.layers) setting.plan.functions;
}

-- ---- what a request's run is given

abbrev pub given_by : Option Request → Option RequestState → Option Given
given_by None started = None
given_by (Some request) None = None
given_by (Some request) (Some started) =
    Some (record { packet = request.packet; clock = started.clock })

-- the packet of request i, with what the clock showed at its start; none where it wasn't started
abbrev pub given_of : List Request → State → (i : ℕ) → Option Given
given_of requests s i = given_by (numbered requests i) (numbered s.requests i)
