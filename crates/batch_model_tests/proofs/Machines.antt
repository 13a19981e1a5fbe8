-- The machines of worked batches, computed: their layers with the pages that were written, and
-- their replies.
use Rattle.std.proofs.Common.{◌≡◌, ℕ, zero, suc, ◌<◌, ◌≤◌, ◌==◌, ◌||◌, Bool, true, false, [], ◌∷◌}
use Rattle.std.proofs.Common.{List, Option, Some, None, is_some, slice_get, refl, sym, ◌∙◌, ap}
use Rattle.std.proofs.Common.{subst, arith, inl, inr}
use Rattle.std.proofs.lemmas.Bool.{cases_eq}
use Rattle.std.proofs.lemmas.Bool.Decides.{nat_tests}
use Rattle.std.specs.Prelude.{codes}
use Rattle.batch_model.specs.Events.{IsBuilt}
use Rattle.batch_model.specs.Replies.{Shown, Shows, end_of_ending}
use Rattle.batch_model_tests.specs.Plans as plans
use Rattle.batch_model_tests.specs.Rows.{byte}
use Rattle.image_model.specs.Pages.{page_limit}
use Rattle.journal_model.specs.State.{layer_above}
use Rattle.layer_model.specs.Layers.{IsStep, IsPlace, IsLayerRun}
use Rattle.layer_model.specs.Replies.{IsContext, IsReply, Reply, Ran, NoLayer, By_miss}
use Rattle.layer_model_tests.proofs.Evaluating.{layer_ends, no_layer_by, reply_by, served_by}
use Rattle.layer_model_tests.specs.Evaluated.{run_from, end_of, layer_end, layer_after}
use Rattle.layer_model_tests.specs.Evaluated.{request_after}
use Rattle.layer_model_tests.specs.Plans.{at_loop, layer, given, count, spin}
use Rattle.layer_model_tests.specs.Shown.{NoLayerShows}
use Rattle.machine_model.specs.Loaded.{loaded}
use Rattle.machine_model.specs.Machine.{Machine, count_below, written_count, range_passes, bytes_at}
use Rattle.machine_model.specs.Machine.{least_failing, low_bytes, with_written}
use Rattle.machine_model.specs.declared.stop.Stop.TheVariants.{Trigger, Budget, Rest, Exception}
use Rattle.plan_model.specs.Outline.{Outline}
use Rattle.plan_model.specs.Stacks.{top_layers}
use Rattle.plan_model.specs.declared.function.PlanFunction.{PlanFunction}
use Rattle.plan_model.specs.declared.layer.PlanLayer.{PlanLayer}
use Rattle.space_api.specs.declared.given.Given.{Given}

-- ---- sets of one page

none_below : (set : ℕ → Bool) → ((p : ℕ) → set p ≡ false) → (n : ℕ) → count_below set n ≡ 0
unfolding count_below
none_below set h zero = refl
none_below set h (suc n) = rw (h n) (none_below set h n)

module _ (set : ℕ → Bool) (page : ℕ) (is : (p : ℕ) → set p ≡ (p == page)) where
  none_up_to : (n : ℕ) → n ≤ page → count_below set n ≡ 0
  unfolding count_below
  none_up_to zero le = refl
  none_up_to (suc n) le =
      let h = none_up_to n (omega arith) in
      let e = is n in
      grind (arith, nat_tests)

  one_beyond : (n : ℕ) → page < n → count_below set n ≡ 1
  unfolding count_below
  one_beyond zero lt = absurd (omega arith)
  one_beyond (suc n) lt =
      elim (cases_eq n page) [
        | inl same ↦ (
            let h = none_up_to n (omega arith) in
            let e = is n in
            grind (arith, nat_tests))
        | inr other ↦ (
            let h = one_beyond n (omega arith) in
            let e = is n in
            grind (arith, nat_tests))
      ]

-- eight bytes on one page, and nine
eight_same : (b : Bool) → ((((((((false || b) || b) || b) || b) || b) || b) || b) || b) ≡ b
eight_same true = refl
eight_same false = refl

nine_same : (b : Bool) → (((((((((false || b) || b) || b) || b) || b) || b) || b) || b) || b) ≡ b
nine_same true = refl
nine_same false = refl

-- ---- layers

-- the layer's run was computed to end at its trigger, with these pages written
step_to : (plan : Outline) (k : ℕ) (layer : PlanLayer) (below : Machine)
    → slice_get plan.layers k ≡ Some layer → is_some (layer_end plan layer below) ≡ true
    → (end_of below (layer_end plan layer below)).stop ≡ Trigger
    → (step : IsStep plan k below (layer_after plan layer below))
    × (step.reached ≡ (end_of below (layer_end plan layer below)).machine)
step_to plan k layer below found some there =
    let end = end_of below (layer_end plan layer below) in
    let step : IsStep plan k below (layer_after plan layer below) = record {
      layer = layer;
      layer_is = found;
      counted = end.number;
      reached = end.machine;
      run = subst (λ stop. IsLayerRun plan layer below
          (record { stop = stop; number = end.number; machine = end.machine })) there
          (layer_ends plan layer below some);
      after_is = refl;
    } in
    (step, refl)

built_by : (plan : Outline) (k : ℕ) (layer : PlanLayer) (below : Machine) (pages : ℕ)
    → slice_get plan.layers k ≡ Some layer → IsPlace plan layer.start layer.below below
    → (step : (step : IsStep plan k below (layer_after plan layer below))
    × (step.reached ≡ (end_of below (layer_end plan layer below)).machine))
    → written_count (end_of below (layer_end plan layer below)).machine ≡ pages
    → IsBuilt plan k pages
built_by plan k layer below pages found stands step counted = record {
  layer = layer;
  layer_is = found;
  below = below;
  place = stands;
  after = layer_after plan layer below;
  step = step.0;
  pages_are = sym (ap written_count step.1 ∙ counted);
}

-- ---- replies

-- what a reply shows
pub shows_by : (plan : Outline) (function : ℕ) (place : Option ℕ) (served : List Given)
    (given : Given) (reply : Reply) (shown : Shown) → IsReply plan function place served given reply
    → end_of_ending reply.ending ≡ Some shown.end → shown.steps ≡ reply.number
    → shown.net ≡ reply.packets → shown.console ≡ reply.console
    → Shows plan function place served given shown
shows_by plan function place served given reply shown replied end steps net console = record {
  reply = reply;
  replied = replied;
  end_is = end;
  steps_are = steps;
  net_is = net;
  console_is = console;
}

-- a request that rested, after so many instructions and with one packet of one byte
abbrev pub rested : (number b : ℕ) → Reply
rested number b = record {
  ending = Ran Rest;
  number = number;
  packets = byte b;
  console = [];
}

abbrev named : List ℕ → ℕ → PlanFunction
named name layer = record { name = name; layer = layer }

-- a context that served no request
new_at : {plan : Outline} {start : ℕ} {place : Option ℕ} (m : Machine)
    → IsPlace plan start place m → IsContext plan start place [] m
new_at m stands = record { base = m; stands = stands; serves = refl }

-- ---- one layer, with any room for idle contexts and any limit of uses

abbrev loop0 : PlanLayer
loop0 = at_loop None []

module _ (idle uses : ℕ) where
  abbrev count0 : Machine
  count0 = layer_after (plans.counting idle uses) loop0 (loaded count)

  abbrev count0_end : Machine
  count0_end = (end_of (loaded count)
      (layer_end (plans.counting idle uses) loop0 (loaded count))).machine

  count0_step : (step : IsStep (plans.counting idle uses) 0 (loaded count) count0)
      × (step.reached ≡ count0_end)
  unfolding run_from range_passes bytes_at least_failing low_bytes with_written top_layers
  count0_step = step_to (plans.counting idle uses) 0 loop0 (loaded count) refl refl refl

  count0_place : IsPlace (plans.counting idle uses) 0 (Some 0) count0
  unfolding top_layers
  count0_place = (count0, count0_step.0, refl)

  count0_pages : (p : ℕ) → count0_end.written p ≡ (p == 32)
  unfolding run_from range_passes bytes_at least_failing low_bytes with_written top_layers
  count0_pages p = eight_same (p == 32)

  pub counting_built : IsBuilt (plans.counting idle uses) 0 1
  counting_built = built_by (plans.counting idle uses) 0 loop0 (loaded count) 1 refl refl
      count0_step (one_beyond count0_end.written 32 count0_pages page_limit (omega arith))

  pub counting_first : IsReply (plans.counting idle uses) 0 (Some 0) [] (given 1 0) (rested 17 1)
  unfolding run_from range_passes bytes_at least_failing low_bytes with_written top_layers
  counting_first = reply_by (plans.counting idle uses) 0 (named (codes "f") 0) loop0 [] (given 1 0)
      count0 (record { function_is = refl; layer_is = refl }) (new_at count0 count0_place) refl

  abbrev count1 : Machine
  count1 = request_after (plans.counting idle uses) count0 (given 1 0)

  count1_served : IsContext (plans.counting idle uses) 0 (Some 0) (given 1 0 ∷ []) count1
  unfolding run_from range_passes bytes_at least_failing low_bytes with_written top_layers
  count1_served = record {
    base = count0;
    stands = count0_place;
    serves = (count1, served_by (plans.counting idle uses) count0 (given 1 0) refl refl, refl);
  }

  pub counting_second : IsReply (plans.counting idle uses) 0 (Some 0) (given 1 0 ∷ []) (given 1 0)
      (rested 15 2)
  unfolding run_from range_passes bytes_at least_failing low_bytes with_written top_layers
  counting_second = reply_by (plans.counting idle uses) 0 (named (codes "f") 0) loop0
      (given 1 0 ∷ []) (given 1 0) count1 (record { function_is = refl; layer_is = refl })
      count1_served refl

  abbrev count2 : Machine
  count2 = request_after (plans.counting idle uses) count1 (given 1 0)

  count2_served : IsContext (plans.counting idle uses) 0 (Some 0) (given 1 0 ∷ given 1 0 ∷ [])
      count2
  unfolding run_from range_passes bytes_at least_failing low_bytes with_written top_layers
  count2_served = record {
    base = count0;
    stands = count0_place;
    serves = (
      count1,
      served_by (plans.counting idle uses) count0 (given 1 0) refl refl,
      (count2, served_by (plans.counting idle uses) count1 (given 1 0) refl refl, refl),
    );
  }

  pub counting_third : IsReply (plans.counting idle uses) 0 (Some 0) (given 1 0 ∷ given 1 0 ∷ [])
      (given 1 0) (rested 15 3)
  unfolding run_from range_passes bytes_at least_failing low_bytes with_written top_layers
  counting_third = reply_by (plans.counting idle uses) 0 (named (codes "f") 0) loop0
      (given 1 0 ∷ given 1 0 ∷ []) (given 1 0) count2
      (record { function_is = refl; layer_is = refl }) count2_served refl

-- ---- three layers

abbrev loop1 : PlanLayer
loop1 = at_loop (Some 0) ((1 ∷ []) ∷ [])

abbrev loop2 : PlanLayer
loop2 = at_loop (Some 1) ((2 ∷ []) ∷ [])

abbrev three0 : Machine
three0 = layer_after plans.three loop0 (loaded count)

abbrev three0_end : Machine
three0_end = (end_of (loaded count) (layer_end plans.three loop0 (loaded count))).machine

three0_step : (step : IsStep plans.three 0 (loaded count) three0) × (step.reached ≡ three0_end)
unfolding run_from range_passes bytes_at least_failing low_bytes with_written top_layers
three0_step = step_to plans.three 0 loop0 (loaded count) refl refl refl

three0_place : IsPlace plans.three 0 (Some 0) three0
unfolding top_layers
three0_place = (three0, three0_step.0, refl)

three0_pages : (p : ℕ) → three0_end.written p ≡ (p == 32)
unfolding run_from range_passes bytes_at least_failing low_bytes with_written top_layers
three0_pages p = eight_same (p == 32)

pub three0_built : IsBuilt plans.three 0 1
three0_built = built_by plans.three 0 loop0 (loaded count) 1 refl refl three0_step
    (one_beyond three0_end.written 32 three0_pages page_limit (omega arith))

abbrev three1 : Machine
three1 = layer_after plans.three loop1 three0

abbrev three1_end : Machine
three1_end = (end_of three0 (layer_end plans.three loop1 three0)).machine

three1_step : (step : IsStep plans.three 1 three0 three1) × (step.reached ≡ three1_end)
unfolding run_from range_passes bytes_at least_failing low_bytes with_written top_layers
three1_step = step_to plans.three 1 loop1 three0 refl refl refl

three1_place : IsPlace plans.three 0 (Some 1) three1
unfolding top_layers
three1_place = (three0, three0_step.0, (three1, three1_step.0, refl))

three1_pages : (p : ℕ) → three1_end.written p ≡ (p == 32)
unfolding run_from range_passes bytes_at least_failing low_bytes with_written top_layers
three1_pages p = nine_same (p == 32)

pub three1_built : IsBuilt plans.three 1 1
three1_built = built_by plans.three 1 loop1 three0 1 refl three0_place three1_step
    (one_beyond three1_end.written 32 three1_pages page_limit (omega arith))

abbrev three2 : Machine
three2 = layer_after plans.three loop2 three1

abbrev three2_end : Machine
three2_end = (end_of three1 (layer_end plans.three loop2 three1)).machine

three2_step : (step : IsStep plans.three 2 three1 three2) × (step.reached ≡ three2_end)
unfolding run_from range_passes bytes_at least_failing low_bytes with_written top_layers
three2_step = step_to plans.three 2 loop2 three1 refl refl refl

three2_place : IsPlace plans.three 0 (Some 2) three2
unfolding top_layers
three2_place = (three0, three0_step.0, (three1, three1_step.0, (three2, three2_step.0, refl)))

three2_pages : (p : ℕ) → three2_end.written p ≡ (p == 32)
unfolding run_from range_passes bytes_at least_failing low_bytes with_written top_layers
three2_pages p = nine_same (p == 32)

pub three2_built : IsBuilt plans.three 2 1
three2_built = built_by plans.three 2 loop2 three1 1 refl three1_place three2_step
    (one_beyond three2_end.written 32 three2_pages page_limit (omega arith))

pub three_first : IsReply plans.three 0 (Some 2) [] (given 3 0) (rested 17 6)
unfolding run_from range_passes bytes_at least_failing low_bytes with_written top_layers
three_first = reply_by plans.three 0 (named (codes "f") 2) loop2 [] (given 3 0) three2
    (record { function_is = refl; layer_is = refl }) (new_at three2 three2_place) refl

-- ---- a layer that isn't there

abbrev spins : PlanLayer
spins = layer None 65540 []

spinning_none : NoLayerShows plans.spinning 0 100 Budget
unfolding run_from range_passes bytes_at least_failing low_bytes with_written top_layers
spinning_none = no_layer_by plans.spinning 0 spins (loaded spin) Budget refl refl refl refl
    (λ e. cc)

abbrev pub empty : Given
empty = record { packet = []; clock = 0 }

pub spinning_miss : IsReply plans.spinning 0 None [] empty (record {
  ending = NoLayer 0 Budget;
  number = 0;
  packets = [];
  console = [];
})
unfolding layer_above top_layers
spinning_miss = By_miss (record {
  function = named (codes "f") 0;
  layer = spins;
  function_is = record { function_is = refl; layer_is = refl };
  place_is = λ e. cc;
  above = 0;
  above_is = refl;
  why = Budget;
  no_layer = spinning_none.no_layer;
  reply_is = refl;
})

-- ---- a fault

abbrev breaking0 : Machine
breaking0 = layer_after plans.breaking spins (loaded plans.breaks)

abbrev breaking0_end : Machine
breaking0_end = (end_of (loaded plans.breaks)
    (layer_end plans.breaking spins (loaded plans.breaks))).machine

breaking0_step : (step : IsStep plans.breaking 0 (loaded plans.breaks) breaking0)
    × (step.reached ≡ breaking0_end)
unfolding run_from range_passes bytes_at least_failing low_bytes with_written top_layers
breaking0_step = step_to plans.breaking 0 spins (loaded plans.breaks) refl refl refl

breaking0_place : IsPlace plans.breaking 0 (Some 0) breaking0
unfolding top_layers
breaking0_place = (breaking0, breaking0_step.0, refl)

breaking0_pages : (p : ℕ) → breaking0_end.written p ≡ false
unfolding run_from range_passes bytes_at least_failing low_bytes with_written top_layers
breaking0_pages p = refl

pub breaking0_built : IsBuilt plans.breaking 0 0
breaking0_built = built_by plans.breaking 0 spins (loaded plans.breaks) 0 refl refl breaking0_step
    (none_below breaking0_end.written breaking0_pages page_limit)

pub breaking_first : IsReply plans.breaking 0 (Some 0) [] (given 1 0) (record {
  ending = Ran (Exception 3 65540 65540);
  number = 0;
  packets = [];
  console = [];
})
unfolding run_from range_passes bytes_at least_failing low_bytes with_written top_layers
breaking_first = reply_by plans.breaking 0 (named (codes "f") 0) spins [] (given 1 0) breaking0
    (record { function_is = refl; layer_is = refl }) (new_at breaking0 breaking0_place) refl

-- ---- two functions on two images

abbrev first0 : Machine
first0 = layer_after plans.two loop0 (loaded count)

abbrev first0_end : Machine
first0_end = (end_of (loaded count) (layer_end plans.two loop0 (loaded count))).machine

first0_step : (step : IsStep plans.two 0 (loaded count) first0) × (step.reached ≡ first0_end)
unfolding run_from range_passes bytes_at least_failing low_bytes with_written top_layers
first0_step = step_to plans.two 0 loop0 (loaded count) refl refl refl

first0_place : IsPlace plans.two 0 (Some 0) first0
unfolding top_layers
first0_place = (first0, first0_step.0, refl)

first0_pages : (p : ℕ) → first0_end.written p ≡ (p == 32)
unfolding run_from range_passes bytes_at least_failing low_bytes with_written top_layers
first0_pages p = eight_same (p == 32)

pub first0_built : IsBuilt plans.two 0 1
first0_built = built_by plans.two 0 loop0 (loaded count) 1 refl refl first0_step
    (one_beyond first0_end.written 32 first0_pages page_limit (omega arith))

abbrev second0 : Machine
second0 = layer_after plans.two plans.on_second (loaded count)

abbrev second0_end : Machine
second0_end = (end_of (loaded count) (layer_end plans.two plans.on_second (loaded count))).machine

second0_step : (step : IsStep plans.two 1 (loaded count) second0) × (step.reached ≡ second0_end)
unfolding run_from range_passes bytes_at least_failing low_bytes with_written top_layers
second0_step = step_to plans.two 1 plans.on_second (loaded count) refl refl refl

second0_place : IsPlace plans.two 1 (Some 1) second0
unfolding top_layers
second0_place = (second0, second0_step.0, refl)

second0_pages : (p : ℕ) → second0_end.written p ≡ (p == 32)
unfolding run_from range_passes bytes_at least_failing low_bytes with_written top_layers
second0_pages p = eight_same (p == 32)

pub second0_built : IsBuilt plans.two 1 1
second0_built = built_by plans.two 1 plans.on_second (loaded count) 1 refl refl second0_step
    (one_beyond second0_end.written 32 second0_pages page_limit (omega arith))

pub two_first : IsReply plans.two 0 (Some 0) [] (given 1 0) (rested 17 1)
unfolding run_from range_passes bytes_at least_failing low_bytes with_written top_layers
two_first = reply_by plans.two 0 (named (codes "a") 0) loop0 [] (given 1 0) first0
    (record { function_is = refl; layer_is = refl }) (new_at first0 first0_place) refl

pub two_other : IsReply plans.two 1 (Some 1) [] (given 5 0) (rested 17 5)
unfolding run_from range_passes bytes_at least_failing low_bytes with_written top_layers
two_other = reply_by plans.two 1 (named (codes "b") 1) plans.on_second [] (given 5 0) second0
    (record { function_is = refl; layer_is = refl }) (new_at second0 second0_place) refl

abbrev first1 : Machine
first1 = request_after plans.two first0 (given 1 0)

first1_served : IsContext plans.two 0 (Some 0) (given 1 0 ∷ []) first1
unfolding run_from range_passes bytes_at least_failing low_bytes with_written top_layers
first1_served = record {
  base = first0;
  stands = first0_place;
  serves = (first1, served_by plans.two first0 (given 1 0) refl refl, refl);
}

pub two_again : IsReply plans.two 0 (Some 0) (given 1 0 ∷ []) (given 2 0) (rested 15 3)
unfolding run_from range_passes bytes_at least_failing low_bytes with_written top_layers
two_again = reply_by plans.two 0 (named (codes "a") 0) loop0 (given 1 0 ∷ []) (given 2 0) first1
    (record { function_is = refl; layer_is = refl }) first1_served refl
