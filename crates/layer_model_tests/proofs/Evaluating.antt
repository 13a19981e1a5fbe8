-- What is computed of a run is how it ends.
use Rattle.std.proofs.Common.{◌≡◌, ◌≢◌, ℕ, zero, suc, ◌+◌, ◌^◌, ◌<◌, ◌==◌, ◌&&◌, Bool, true}
use Rattle.std.proofs.Common.{false, nat_lt, List, [], ◌∷◌, Option, Some, None, is_some}
use Rattle.std.proofs.Common.{MatchBool, slice_get, refl, sym, ap, ◌∙◌, subst, arith}
use Rattle.std.proofs.lemmas.Bool.Decides.{nat_tests}
use Rattle.std.proofs.lemmas.Option.{none-some, same_Some}
use Rattle.instruction_model.proofs.Completeness.{reading-decodes}
use Rattle.instruction_model.specs.InstructionWord.{Decodes}
use Rattle.instruction_model.specs.Reading.{reading}
use Rattle.layer_laws.proofs.Answering.{reply_at_layer}
use Rattle.layer_laws.specs.Requests.{run_reply}
use Rattle.layer_model.specs.Layers.{layer_limits, IsLayerRun, IsStep, IsPlace, IsNoLayer}
use Rattle.layer_model.specs.Replies.{request_limits, IsRequestRun, IsServed, IsContext}
use Rattle.layer_model.specs.Replies.{IsFunction, IsReply}
use Rattle.layer_model_tests.specs.Evaluated.{pick, next_by_word, some_next, after_turn}
use Rattle.layer_model_tests.specs.Evaluated.{after_next, run_from, run_of, end_of, layer_end}
use Rattle.layer_model_tests.specs.Evaluated.{layer_after, request_end, request_after}
use Rattle.layer_model_tests.specs.Shown.{NoLayerShows}
use Rattle.machine_model.proofs.Ranges.{each_more}
use Rattle.machine_model.proofs.Runs.{goes_on}
use Rattle.machine_model.specs.Instruction.{Next, Raises, IsNext, Executes, can_fetch, word_at_pc}
use Rattle.machine_model.specs.Instruction.{effect, instruction_page_fault}
use Rattle.machine_model.specs.Machine.{Machine}
use Rattle.machine_model.specs.Run.{Limits, End, Turn, Goes, Stops, IsTurn, turn_of, After}
use Rattle.machine_model.specs.Run.{at_trigger, IsStop, By_trigger, By_budget, By_turn, Runs}
use Rattle.machine_model.specs.Run.{IsRun, is_empty, give}
use Rattle.machine_model.specs.declared.stop.Stop.{Stop}
use Rattle.machine_model.specs.declared.stop.Stop.TheVariants.{Trigger, Budget, Rest}
use Rattle.plan_model.specs.Outline.{Outline}
use Rattle.plan_model.specs.declared.function.PlanFunction.{PlanFunction}
use Rattle.plan_model.specs.declared.layer.PlanLayer.{PlanLayer}
use Rattle.space_api.specs.declared.given.Given.{Given}

-- ---- a turn

below_limit : (w : ℕ) → nat_lt w (2 ^ 32) ≡ true → w < 2 ^ 32
below_limit w h = grind (arith, nat_tests)

word_executes : (m : Machine) (next : Next) (w : ℕ) (fits : Bool) → nat_lt w (2 ^ 32) ≡ fits
    → w ≡ word_at_pc m
    → pick fits (λ _. Some (effect m w (reading w))) (λ _. None) ≡ Some next → Executes m next
word_executes m next w true fits is e = record {
  instruction = reading (word_at_pc m);
  decoded = subst (λ v. Decodes v (reading v)) is (reading-decodes w (below_limit w fits));
  next_is = sym (same_Some (effect m w (reading w)) next e)
      ∙ ap (λ v. effect m v (reading v)) is;
}
word_executes m next w false fits is e = absurd (none-some next e)

next_by : (m : Machine) (next : Next) (test : Bool)
    → pick test (λ _. next_by_word m (word_at_pc m))
    (λ _. Some (Raises instruction_page_fault m.pc)) ≡ Some next
    → MatchBool test (Executes m next) (next ≡ Raises instruction_page_fault m.pc)
next_by m next true e =
    word_executes m next (word_at_pc m) (nat_lt (word_at_pc m) (2 ^ 32)) refl refl e
next_by m next false e = sym (same_Some (Raises instruction_page_fault m.pc) next e)

next_is : (m : Machine) (next : Next) → some_next m ≡ Some next → IsNext m next
next_is m next e = next_by m next (can_fetch m) e

-- ---- a run

abbrev NoStop : ℕ → Limits → Machine → ℕ → Type 0
NoStop clock limits start number =
    (mid : Machine) (other : End) → After clock number start mid
    → IsStop clock limits number mid other → ⊥

-- so far from the start, with no stop at an earlier number
record IsOn (clock : ℕ) (limits : Limits) (start : Machine) (number : ℕ) (m : Machine)
    : Type 0 where
  reached : After clock number start m
  least : (earlier : ℕ) → earlier < number → NoStop clock limits start earlier

stops_here : (clock : ℕ) (limits : Limits) (start : Machine) (number : ℕ) (m : Machine)
    (stop end : End) → IsOn clock limits start number m → IsStop clock limits number m stop
    → ◌≡◌ {A = Option End} (Some stop) (Some end) → Runs clock limits start end
stops_here clock limits start number m stop end on stopped e =
    subst (Runs clock limits start) (same_Some stop end e) (record {
      number = number;
      at = m;
      reached = on.reached;
      stopped = stopped;
      least = on.least;
    })

by_turn : (clock : ℕ) (limits : Limits) (start : Machine) (number : ℕ) (m : Machine)
    (turn : Turn) (more : Machine → Option End) (end : End) → IsOn clock limits start number m
    → at_trigger limits.trigger number m ≡ false → number ≢ limits.budget → IsTurn m clock turn
    → ((after : Machine) → IsOn clock limits start (suc number) after → more after ≡ Some end
    → Runs clock limits start end)
    → after_turn more number turn ≡ Some end → Runs clock limits start end
by_turn clock limits start number m (Goes after) more end on trigger budget t go e =
    go after (record {
      reached = (m, on.reached, t);
      least = each_more (NoStop clock limits start) number on.least
          (goes_on clock limits number start m after on.reached trigger budget t);
    }) e
by_turn clock limits start number m (Stops stop counted after) more end on trigger budget t go e =
    stops_here clock limits start number m
    (record { stop = stop; number = number + counted; machine = after }) end on
    (By_turn trigger budget t) e

by_next : (clock : ℕ) (limits : Limits) (start : Machine) (number : ℕ) (m : Machine)
    (next : Option Next) (more : Machine → Option End) (end : End)
    → some_next m ≡ next → IsOn clock limits start number m
    → at_trigger limits.trigger number m ≡ false → number ≢ limits.budget
    → ((after : Machine) → IsOn clock limits start (suc number) after → more after ≡ Some end
    → Runs clock limits start end)
    → after_next more number clock m next ≡ Some end → Runs clock limits start end
by_next clock limits start number m None more end is on trigger budget go e =
    absurd (none-some end e)
by_next clock limits start number m (Some next) more end is on trigger budget go e =
    by_turn clock limits start number m (turn_of m clock next) more end on trigger budget
    (record { next = next; is_next = next_is m next is; turn_is = refl }) go e

differs : (a b : ℕ) → (a == b) ≡ false → a ≢ b
differs a b h e = grind (arith, nat_tests)

same : (a b : ℕ) → (a == b) ≡ true → a ≡ b
same a b h = grind (arith, nat_tests)

by_budget : (clock : ℕ) (limits : Limits) (start : Machine) (number : ℕ) (m : Machine)
    (spent : Bool) (more : Machine → Option End) (end : End)
    → (number == limits.budget) ≡ spent → IsOn clock limits start number m
    → at_trigger limits.trigger number m ≡ false
    → ((after : Machine) → IsOn clock limits start (suc number) after → more after ≡ Some end
    → Runs clock limits start end)
    → pick spent (λ _. Some (record { stop = Budget; number = number; machine = m }))
    (λ _. after_next more number clock m (some_next m)) ≡ Some end
    → Runs clock limits start end
by_budget clock limits start number m true more end is on trigger go e =
    stops_here clock limits start number m
    (record { stop = Budget; number = number; machine = m }) end on
    (By_budget trigger (same number limits.budget is)) e
by_budget clock limits start number m false more end is on trigger go e =
    by_next clock limits start number m (some_next m) more end refl on trigger
    (differs number limits.budget is) go e

by_trigger : (clock : ℕ) (limits : Limits) (start : Machine) (number : ℕ) (m : Machine)
    (there : Bool) (more : Machine → Option End) (end : End)
    → at_trigger limits.trigger number m ≡ there → IsOn clock limits start number m
    → ((after : Machine) → IsOn clock limits start (suc number) after → more after ≡ Some end
    → Runs clock limits start end)
    → pick there (λ _. Some (record { stop = Trigger; number = number; machine = m }))
    (λ _. pick (number == limits.budget)
    (λ _. Some (record { stop = Budget; number = number; machine = m }))
    (λ _. after_next more number clock m (some_next m))) ≡ Some end
    → Runs clock limits start end
by_trigger clock limits start number m true more end is on go e =
    stops_here clock limits start number m
    (record { stop = Trigger; number = number; machine = m }) end on (By_trigger is) e
by_trigger clock limits start number m false more end is on go e =
    by_budget clock limits start number m (number == limits.budget) more end refl on is go e

runs_from : (turns clock : ℕ) (limits : Limits) (start : Machine) (number : ℕ) (m : Machine)
    (end : End) → IsOn clock limits start number m
    → run_from turns clock limits number m ≡ Some end → Runs clock limits start end
unfolding run_from
runs_from zero clock limits start number m end on e = absurd (none-some end e)
runs_from (suc turns) clock limits start number m end on e =
    by_trigger clock limits start number m (at_trigger limits.trigger number m)
    (run_from turns clock limits (suc number)) end refl on
    (λ after. runs_from turns clock limits start (suc number) after end) e

rests_or_runs : (turns clock : ℕ) (limits : Limits) (m : Machine) (end : End) (rests : Bool)
    → pick rests (λ _. Some (record { stop = Rest; number = 0; machine = m }))
    (λ _. run_from turns clock limits 0 m) ≡ Some end
    → MatchBool rests (end ≡ record { stop = Rest; number = 0; machine = m })
    (Runs clock limits m end)
rests_or_runs turns clock limits m end true e =
    sym (same_Some (record { stop = Rest; number = 0; machine = m }) end e)
rests_or_runs turns clock limits m end false e =
    runs_from turns clock limits m 0 m end
    (record { reached = refl; least = λ earlier lt. absurd (omega arith) }) e

-- the run ends as was computed
pub run_ends : (turns clock : ℕ) (limits : Limits) (m : Machine) (end : End)
    → run_of turns clock limits m ≡ Some end → IsRun clock limits m end
run_ends turns clock limits m end e =
    rests_or_runs turns clock limits m end (m.resting && is_empty m.queue) e

some_end : (m : Machine) (o : Option End) → is_some o ≡ true → o ≡ Some (end_of m o)
some_end m None h = cc
some_end m (Some end) h = refl

-- ---- layers

pub layer_ends : (plan : Outline) (layer : PlanLayer) (below : Machine)
    → is_some (layer_end plan layer below) ≡ true
    → IsLayerRun plan layer below (end_of below (layer_end plan layer below))
layer_ends plan layer below some =
    run_ends 200 0 (layer_limits plan layer) (give below layer.packets)
    (end_of below (layer_end plan layer below)) (some_end below (layer_end plan layer below) some)

-- the layer's run was computed to end at its trigger
pub step_by : (plan : Outline) (k : ℕ) (layer : PlanLayer) (below : Machine)
    → slice_get plan.layers k ≡ Some layer → is_some (layer_end plan layer below) ≡ true
    → (end_of below (layer_end plan layer below)).stop ≡ Trigger
    → (step : IsStep plan k below (layer_after plan layer below))
    × (step.counted ≡ (end_of below (layer_end plan layer below)).number)
step_by plan k layer below found some there =
    let end = end_of below (layer_end plan layer below) in
    let step : IsStep plan k below (layer_after plan layer below) = record {
      layer = layer;
      layer_is = found;
      counted = end.number;
      reached = end.machine;
      run = subst (λ stop. IsLayerRun plan layer below
          (record { stop = stop; number = end.number; machine = end.machine })) there
          (layer_ends plan layer below some);
      after_is = refl;
    } in
    (step, refl)

-- or elsewhere
pub no_layer_by : (plan : Outline) (k : ℕ) (layer : PlanLayer) (below : Machine) (why : Stop)
    → slice_get plan.layers k ≡ Some layer → IsPlace plan layer.start layer.below below
    → is_some (layer_end plan layer below) ≡ true
    → (end_of below (layer_end plan layer below)).stop ≡ why → why ≢ Trigger
    → NoLayerShows plan k (end_of below (layer_end plan layer below)).number why
no_layer_by plan k layer below why found stands some there elsewhere =
    let end = end_of below (layer_end plan layer below) in
    let no : IsNoLayer plan k why = record {
      layer = layer;
      layer_is = found;
      below = below;
      place = stands;
      counted = end.number;
      stopped = end.machine;
      run = subst (λ stop. IsLayerRun plan layer below
          (record { stop = stop; number = end.number; machine = end.machine })) there
          (layer_ends plan layer below some);
      elsewhere = elsewhere;
    } in
    record { no_layer = no; counted_is = refl }

-- ---- requests

pub request_ends : (plan : Outline) (m : Machine) (given : Given)
    → is_some (request_end plan m given) ≡ true
    → IsRequestRun plan m given (end_of m (request_end plan m given))
request_ends plan m given some =
    run_ends 200 given.clock (request_limits plan) (give m (given.packet ∷ []))
    (end_of m (request_end plan m given)) (some_end m (request_end plan m given) some)

pub served_by : (plan : Outline) (m : Machine) (given : Given)
    → is_some (request_end plan m given) ≡ true
    → (end_of m (request_end plan m given)).stop ≡ Rest
    → IsServed plan m given (request_after plan m given)
served_by plan m given some there =
    let end = end_of m (request_end plan m given) in
    record {
      counted = end.number;
      rested = end.machine;
      run = subst (λ stop. IsRequestRun plan m given
          (record { stop = stop; number = end.number; machine = end.machine })) there
          (request_ends plan m given some);
      after_is = refl;
    }

pub reply_by : (plan : Outline) (number : ℕ) (function : PlanFunction) (layer : PlanLayer)
    (served : List Given) (given : Given) (m : Machine) → IsFunction plan number function layer
    → IsContext plan layer.start (Some function.layer) served m
    → is_some (request_end plan m given) ≡ true
    → IsReply plan number (Some function.layer) served given
    (run_reply (end_of m (request_end plan m given)))
reply_by plan number function layer served given m is context some =
    let end = end_of m (request_end plan m given) in
    (reply_at_layer plan number function layer served given m (run_reply end) is context).1
    (end, request_ends plan m given some, refl)
