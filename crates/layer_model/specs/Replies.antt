-- What a request is answered, by where its context stands and what it has served.
use Rattle.std.specs.Prelude.{◌≡◌, ◌≢◌, ℕ, List, [], ◌∷◌, Option, None, Some, slice_get}
use Rattle.journal_model.specs.State.{layer_above}
use Rattle.machine_model.specs.Machine.{Machine}
use Rattle.machine_model.specs.Run.{Limits, End, IsRun, give}
use Rattle.machine_model.specs.declared.stop.Stop.{Stop}
use Rattle.machine_model.specs.declared.stop.Stop.TheVariants.{Rest}
use Rattle.plan_model.specs.Outline.{Outline}
use Rattle.plan_model.specs.Stacks.{stack}
use Rattle.plan_model.specs.declared.function.PlanFunction.{PlanFunction}
use Rattle.plan_model.specs.declared.layer.PlanLayer.{PlanLayer}
use Rattle.space_api.specs.declared.given.Given.{Given}
use Rattle.layer_model.specs.Layers.{settled, IsPlace, IsNoLayer}

-- ---- the run of a request

-- no trigger, and as many instructions as a request may take
abbrev pub request_limits : Outline → Limits
request_limits plan = record { trigger = None; budget = plan.numbers.budget }

-- The run of a request from the machine ends so: it is given the one packet, and the clock shows
-- what was given with it.
abbrev pub IsRequestRun : Outline → Machine → Given → End → Type 0
IsRequestRun plan m given end =
    IsRun given.clock (request_limits plan) (give m (given.packet ∷ [])) end

-- the request is served, to its rest, and leads from the one machine to the other
pub record IsServed (plan : Outline) (m : Machine) (given : Given) (after : Machine) : Type 0 where
  pub counted : ℕ
  pub rested : Machine
  pub run : IsRequestRun plan m given
      (record { stop = Rest; number = counted; machine = rested })
  pub after_is : after ≡ settled rested

-- these requests, one after the other, lead from the one machine to the other
abbrev pub Serves : Outline → List Given → (m after : Machine) → Type 0
Serves plan [] m after = m ≡ after
Serves plan (given ∷ more) m after =
    (mid : Machine) × IsServed plan m given mid × Serves plan more mid after

-- ---- contexts

-- the machine is that of a context which stands at the place and has served these requests
pub record IsContext (plan : Outline) (start : ℕ) (place : Option ℕ) (served : List Given)
    (m : Machine) : Type 0 where
  pub base : Machine
  pub stands : IsPlace plan start place base
  pub serves : Serves plan served base m

-- ---- replies

-- a request ends with its run, or as a layer of its stack isn't there
pub data Ending : Type 0 where
  Ran : Stop → Ending
  NoLayer : (number : ℕ) → (why : Stop) → Ending

-- how it ended, how many instructions were counted, and the packets and console bytes written
pub record Reply : Type 0 where
  pub ending : Ending
  pub number : ℕ
  pub packets : List (List ℕ)
  pub console : List ℕ

-- the function of the number, and its layer
pub record IsFunction (plan : Outline) (number : ℕ) (function : PlanFunction) (layer : PlanLayer)
    : Type 0 where
  pub function_is : slice_get plan.functions number ≡ Some function
  pub layer_is : slice_get plan.layers function.layer ≡ Some layer

-- the context stands at its function's layer, and the reply is what the request's run shows
pub record Answers (plan : Outline) (number : ℕ) (place : Option ℕ) (served : List Given)
    (given : Given) (reply : Reply) : Type 0 where
  pub function : PlanFunction
  pub layer : PlanLayer
  pub function_is : IsFunction plan number function layer
  pub place_is : place ≡ Some function.layer
  pub context : Machine
  pub context_is : IsContext plan layer.start place served context
  pub stop : Stop
  pub counted : ℕ
  pub after : Machine
  pub run : IsRequestRun plan context given
      (record { stop = stop; number = counted; machine = after })
  pub reply_is : reply ≡ record {
    ending = Ran stop;
    number = counted;
    packets = after.sent;
    console = after.console;
  }

-- the context stands below its function's layer, and the layer directly above it isn't one
pub record Misses (plan : Outline) (number : ℕ) (place : Option ℕ) (reply : Reply) : Type 0 where
  pub function : PlanFunction
  pub layer : PlanLayer
  pub function_is : IsFunction plan number function layer
  pub place_is : place ≢ Some function.layer
  pub above : ℕ
  pub above_is : layer_above place (stack plan.layers function.layer) ≡ Some above
  pub why : Stop
  pub no_layer : IsNoLayer plan above why
  pub reply_is : reply ≡ record {
    ending = NoLayer above why;
    number = 0;
    packets = [];
    console = [];
  }

-- The reply of a function's request, where its context stands at the place and has served these
-- requests.
pub data IsReply (plan : Outline) (number : ℕ) (place : Option ℕ) (served : List Given)
    (given : Given) (reply : Reply) : Type 0 where
  By_run : Answers plan number place served given reply →
      IsReply plan number place served given reply
  By_miss : Misses plan number place reply → IsReply plan number place served given reply
