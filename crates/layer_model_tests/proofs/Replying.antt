-- Replies, computed.
use Rattle.std.proofs.Common.{ℕ, [], ◌∷◌, Option, Some, None, refl}
use Rattle.std.specs.Prelude.{codes}
use Rattle.journal_model.specs.State.{layer_above}
use Rattle.layer_model.specs.Layers.{IsPlace}
use Rattle.layer_model.specs.Replies.{IsContext, IsReply, Ran, NoLayer, By_miss}
use Rattle.layer_model_tests.proofs.Evaluating.{reply_by, served_by}
use Rattle.layer_model_tests.proofs.Layering.{printing0, printing0_place, first0, first0_place}
use Rattle.layer_model_tests.proofs.Layering.{second0, second0_place}
use Rattle.layer_model_tests.proofs.Layering.{three2, three2_place, unread1, unread1_place}
use Rattle.layer_model_tests.proofs.Layering.{timed0, loop0, short0, short0_place, enough0}
use Rattle.layer_model_tests.proofs.Layering.{enough0_place, timed0_place, loop2, both}
use Rattle.layer_model_tests.proofs.Layering.{spinning_none, resting_none}
use Rattle.layer_model_tests.specs.Evaluated.{run_from, request_after}
use Rattle.layer_model_tests.specs.Plans as plans
use Rattle.layer_model_tests.specs.Plans.{at_loop, layer, given}
use Rattle.machine_model.specs.Machine.{Machine, range_passes, bytes_at, least_failing, low_bytes}
use Rattle.machine_model.specs.Machine.{with_written}
use Rattle.machine_model.specs.declared.stop.Stop.TheVariants.{Budget, Rest, Halt}
use Rattle.plan_model.specs.Outline.{Outline}
use Rattle.plan_model.specs.Stacks.{top_layers}
use Rattle.plan_model.specs.declared.function.PlanFunction.{PlanFunction}

abbrev function_on : ℕ → PlanFunction
function_on layer = record { name = codes "f"; layer = layer }

abbrev second_on : ℕ → PlanFunction
second_on layer = record { name = codes "g"; layer = layer }

-- a context that served no request
new_at : {plan : Outline} {start : ℕ} {place : Option ℕ} (m : Machine)
    → IsPlace plan start place m → IsContext plan start place [] m
new_at m stands = record { base = m; stands = stands; serves = refl }

pub first_reply : IsReply plans.three 0 (Some 2) [] (given 3 0) (record {
  ending = Ran Rest;
  number = 17;
  packets = (6 ∷ []) ∷ [];
  console = [];
})
unfolding run_from range_passes bytes_at least_failing low_bytes with_written top_layers
first_reply = reply_by plans.three 0 (function_on 2) loop2 [] (given 3 0) three2
    (record { function_is = refl; layer_is = refl })
    (new_at three2 three2_place) refl

abbrev served3 : Machine
served3 = request_after plans.three three2 (given 3 0)

after_first : IsContext plans.three 0 (Some 2) (given 3 0 ∷ []) served3
unfolding run_from range_passes bytes_at least_failing low_bytes with_written top_layers
after_first = record {
  base = three2;
  stands = three2_place;
  serves = (served3, served_by plans.three three2 (given 3 0) refl refl, refl);
}

pub second_reply : IsReply plans.three 0 (Some 2) (given 3 0 ∷ []) (given 4 0) (record {
  ending = Ran Rest;
  number = 15;
  packets = (10 ∷ []) ∷ [];
  console = [];
})
unfolding run_from range_passes bytes_at least_failing low_bytes with_written top_layers
second_reply = reply_by plans.three 0 (function_on 2) loop2 (given 3 0 ∷ []) (given 4 0) served3
    (record { function_is = refl; layer_is = refl }) after_first refl

pub unread_reply : IsReply plans.unread 0 (Some 1) [] (given 3 0) (record {
  ending = Ran Rest;
  number = 17;
  packets = (4 ∷ []) ∷ [];
  console = [];
})
unfolding run_from range_passes bytes_at least_failing low_bytes with_written top_layers
unread_reply = reply_by plans.unread 0 (function_on 1) both [] (given 3 0) unread1
    (record { function_is = refl; layer_is = refl })
    (new_at unread1 unread1_place) refl

pub clock_reply : IsReply plans.timed 0 (Some 0) [] (given 3 5) (record {
  ending = Ran (Halt 5);
  number = 4;
  packets = [];
  console = [];
})
unfolding run_from range_passes bytes_at least_failing low_bytes with_written top_layers
clock_reply = reply_by plans.timed 0 (function_on 0) (layer None 65540 []) [] (given 3 5) timed0
    (record { function_is = refl; layer_is = refl })
    (new_at timed0 timed0_place) refl

pub short_reply : IsReply plans.short 0 (Some 0) [] (given 1 0) (record {
  ending = Ran Budget;
  number = 16;
  packets = (1 ∷ []) ∷ [];
  console = [];
})
unfolding run_from range_passes bytes_at least_failing low_bytes with_written top_layers
short_reply = reply_by plans.short 0 (function_on 0) loop0 [] (given 1 0) short0
    (record { function_is = refl; layer_is = refl })
    (new_at short0 short0_place) refl

pub enough_reply : IsReply plans.enough 0 (Some 0) [] (given 1 0) (record {
  ending = Ran Rest;
  number = 17;
  packets = (1 ∷ []) ∷ [];
  console = [];
})
unfolding run_from range_passes bytes_at least_failing low_bytes with_written top_layers
enough_reply = reply_by plans.enough 0 (function_on 0) loop0 [] (given 1 0) enough0
    (record { function_is = refl; layer_is = refl })
    (new_at enough0 enough0_place) refl

pub console_reply : IsReply plans.printing 0 (Some 0) [] (given 3 0) (record {
  ending = Ran (Halt 0);
  number = 6;
  packets = [];
  console = 19 ∷ 0 ∷ [];
})
unfolding run_from range_passes bytes_at least_failing low_bytes with_written top_layers
console_reply =
    reply_by plans.printing 0 (function_on 0) (layer None 65540 []) [] (given 3 0) printing0
    (record { function_is = refl; layer_is = refl })
    (new_at printing0 printing0_place) refl

pub lower_reply : IsReply plans.two 0 (Some 0) [] (given 1 0) (record {
  ending = Ran Rest;
  number = 17;
  packets = (1 ∷ []) ∷ [];
  console = [];
})
unfolding run_from range_passes bytes_at least_failing low_bytes with_written top_layers
lower_reply = reply_by plans.two 0 (function_on 0) loop0 [] (given 1 0) first0
    (record { function_is = refl; layer_is = refl })
    (new_at first0 first0_place) refl

pub upper_reply : IsReply plans.two 1 (Some 1) [] (given 1 0) (record {
  ending = Ran Budget;
  number = 100;
  packets = [];
  console = [];
})
unfolding run_from range_passes bytes_at least_failing low_bytes with_written top_layers
upper_reply = reply_by plans.two 1 (second_on 1) plans.on_second [] (given 1 0) second0
    (record { function_is = refl; layer_is = refl })
    (new_at second0 second0_place) refl

pub missed_reply : IsReply plans.spinning 0 None [] (given 3 0) (record {
  ending = NoLayer 0 Budget;
  number = 0;
  packets = [];
  console = [];
})
unfolding layer_above top_layers
missed_reply = By_miss (record {
  function = function_on 0;
  layer = layer None 65540 [];
  function_is = record { function_is = refl; layer_is = refl };
  place_is = λ e. cc;
  above = 0;
  above_is = refl;
  why = Budget;
  no_layer = spinning_none.no_layer;
  reply_is = refl;
})

pub missed_above_reply : IsReply plans.resting 0 (Some 0) (given 3 0 ∷ []) (given 3 0) (record {
  ending = NoLayer 1 Rest;
  number = 0;
  packets = [];
  console = [];
})
unfolding layer_above top_layers
missed_above_reply = By_miss (record {
  function = function_on 1;
  layer = layer (Some 0) 65604 ((1 ∷ []) ∷ []);
  function_is = record { function_is = refl; layer_is = refl };
  place_is = λ e. cc;
  above = 1;
  above_is = refl;
  why = Rest;
  no_layer = resting_none.no_layer;
  reply_is = refl;
})
