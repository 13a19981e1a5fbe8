-- Layers, computed.
use Rattle.std.proofs.Common.{◌≡◌, [], ◌∷◌, Some, None, refl}
use Rattle.layer_model.specs.Layers.{IsStep, IsPlace}
use Rattle.layer_model_tests.proofs.Evaluating.{step_by, no_layer_by}
use Rattle.layer_model_tests.specs.Evaluated.{run_from, layer_after}
use Rattle.layer_model_tests.specs.Plans as plans
use Rattle.layer_model_tests.specs.Plans.{at_loop, layer}
use Rattle.layer_model_tests.specs.Shown.{LayerShows, NoLayerShows}
use Rattle.machine_model.specs.Loaded.{loaded}
use Rattle.machine_model.specs.Machine.{Machine, range_passes, bytes_at, least_failing, low_bytes}
use Rattle.machine_model.specs.Machine.{with_written}
use Rattle.machine_model.specs.declared.stop.Stop.TheVariants.{Budget, Exception, Rest, Halt}
use Rattle.plan_model.specs.Stacks.{top_layers}
use Rattle.plan_model.specs.declared.layer.PlanLayer.{PlanLayer}

-- ---- the layers of the plan of three

abbrev pub loop0 : PlanLayer
loop0 = at_loop None []

abbrev pub loop1 : PlanLayer
loop1 = at_loop (Some 0) ((1 ∷ []) ∷ [])

abbrev pub loop2 : PlanLayer
loop2 = at_loop (Some 1) ((2 ∷ []) ∷ [])

abbrev pub three0 : Machine
three0 = layer_after plans.three loop0 (loaded plans.count)

three0_step : (step : IsStep plans.three 0 (loaded plans.count) three0) × (step.counted ≡ 2)
unfolding run_from range_passes bytes_at least_failing low_bytes with_written top_layers
three0_step = step_by plans.three 0 loop0 (loaded plans.count) refl refl refl

pub three0_place : IsPlace plans.three 0 (Some 0) three0
unfolding run_from range_passes bytes_at least_failing low_bytes with_written top_layers
three0_place = (three0, three0_step.0, refl)

pub three0_shows : LayerShows plans.three 0 2 65544 (0 ∷ 0 ∷ 0 ∷ 0 ∷ 0 ∷ 0 ∷ 0 ∷ 0 ∷ [])
unfolding run_from range_passes bytes_at least_failing low_bytes with_written top_layers
three0_shows = record {
  below = (loaded plans.count);
  machine = three0;
  layer = record { layer = loop0; layer_is = refl; place = three0_place };
  stands = refl;
  step = three0_step.0;
  counted_is = three0_step.1;
  pc_is = refl;
  bytes_are = refl;
  written_is = refl;
  queue_is = refl;
  sent_is = refl;
  console_is = refl;
}

abbrev pub three1 : Machine
three1 = layer_after plans.three loop1 three0

three1_step : (step : IsStep plans.three 1 three0 three1) × (step.counted ≡ 15)
unfolding run_from range_passes bytes_at least_failing low_bytes with_written top_layers
three1_step = step_by plans.three 1 loop1 three0 refl refl refl

pub three1_place : IsPlace plans.three 0 (Some 1) three1
unfolding run_from range_passes bytes_at least_failing low_bytes with_written top_layers
three1_place = (three0, three0_step.0, (three1, three1_step.0, refl))

pub three1_shows : LayerShows plans.three 1 15 65544 (1 ∷ 0 ∷ 0 ∷ 0 ∷ 0 ∷ 0 ∷ 0 ∷ 0 ∷ [])
unfolding run_from range_passes bytes_at least_failing low_bytes with_written top_layers
three1_shows = record {
  below = three0;
  machine = three1;
  layer = record { layer = loop1; layer_is = refl; place = three1_place };
  stands = three0_place;
  step = three1_step.0;
  counted_is = three1_step.1;
  pc_is = refl;
  bytes_are = refl;
  written_is = refl;
  queue_is = refl;
  sent_is = refl;
  console_is = refl;
}

abbrev pub three2 : Machine
three2 = layer_after plans.three loop2 three1

three2_step : (step : IsStep plans.three 2 three1 three2) × (step.counted ≡ 15)
unfolding run_from range_passes bytes_at least_failing low_bytes with_written top_layers
three2_step = step_by plans.three 2 loop2 three1 refl refl refl

pub three2_place : IsPlace plans.three 0 (Some 2) three2
unfolding run_from range_passes bytes_at least_failing low_bytes with_written top_layers
three2_place = (three0, three0_step.0, (three1, three1_step.0, (three2, three2_step.0, refl)))

pub three2_shows : LayerShows plans.three 2 15 65544 (3 ∷ 0 ∷ 0 ∷ 0 ∷ 0 ∷ 0 ∷ 0 ∷ 0 ∷ [])
unfolding run_from range_passes bytes_at least_failing low_bytes with_written top_layers
three2_shows = record {
  below = three1;
  machine = three2;
  layer = record { layer = loop2; layer_is = refl; place = three2_place };
  stands = three1_place;
  step = three2_step.0;
  counted_is = three2_step.1;
  pc_is = refl;
  bytes_are = refl;
  written_is = refl;
  queue_is = refl;
  sent_is = refl;
  console_is = refl;
}

-- ---- other layers

abbrev pub both : PlanLayer
both = at_loop (Some 0) ((1 ∷ []) ∷ (2 ∷ []) ∷ [])

abbrev pub unread0 : Machine
unread0 = layer_after plans.unread loop0 (loaded plans.count)

unread0_step : (step : IsStep plans.unread 0 (loaded plans.count) unread0) × (step.counted ≡ 2)
unfolding run_from range_passes bytes_at least_failing low_bytes with_written top_layers
unread0_step = step_by plans.unread 0 loop0 (loaded plans.count) refl refl refl

abbrev pub unread1 : Machine
unread1 = layer_after plans.unread both unread0

unread1_step : (step : IsStep plans.unread 1 unread0 unread1) × (step.counted ≡ 15)
unfolding run_from range_passes bytes_at least_failing low_bytes with_written top_layers
unread1_step = step_by plans.unread 1 both unread0 refl refl refl

pub unread1_place : IsPlace plans.unread 0 (Some 1) unread1
unfolding run_from range_passes bytes_at least_failing low_bytes with_written top_layers
unread1_place = (unread0, unread0_step.0, (unread1, unread1_step.0, refl))

pub unread1_shows : LayerShows plans.unread 1 15 65544 (1 ∷ 0 ∷ 0 ∷ 0 ∷ 0 ∷ 0 ∷ 0 ∷ 0 ∷ [])
unfolding run_from range_passes bytes_at least_failing low_bytes with_written top_layers
unread1_shows = record {
  below = unread0;
  machine = unread1;
  layer = record { layer = both; layer_is = refl; place = unread1_place };
  stands = (unread0, unread0_step.0, refl);
  step = unread1_step.0;
  counted_is = unread1_step.1;
  pc_is = refl;
  bytes_are = refl;
  written_is = refl;
  queue_is = refl;
  sent_is = refl;
  console_is = refl;
}

abbrev pub round0 : Machine
round0 = layer_after plans.round (layer None 65536 []) (loaded plans.spin)

round0_step : (step : IsStep plans.round 0 (loaded plans.spin) round0) × (step.counted ≡ 1)
unfolding run_from range_passes bytes_at least_failing low_bytes with_written top_layers
round0_step = step_by plans.round 0 (layer None 65536 []) (loaded plans.spin) refl refl refl

pub round0_place : IsPlace plans.round 0 (Some 0) round0
unfolding run_from range_passes bytes_at least_failing low_bytes with_written top_layers
round0_place = (round0, round0_step.0, refl)

pub round0_shows : LayerShows plans.round 0 1 65536 (0 ∷ 0 ∷ 0 ∷ 0 ∷ 0 ∷ 0 ∷ 0 ∷ 0 ∷ [])
unfolding run_from range_passes bytes_at least_failing low_bytes with_written top_layers
round0_shows = record {
  below = (loaded plans.spin);
  machine = round0;
  layer = record { layer = (layer None 65536 []); layer_is = refl; place = round0_place };
  stands = refl;
  step = round0_step.0;
  counted_is = round0_step.1;
  pc_is = refl;
  bytes_are = refl;
  written_is = refl;
  queue_is = refl;
  sent_is = refl;
  console_is = refl;
}

abbrev pub timed0 : Machine
timed0 = layer_after plans.timed (layer None 65540 []) (loaded plans.clocked)

timed0_step : (step : IsStep plans.timed 0 (loaded plans.clocked) timed0) × (step.counted ≡ 1)
unfolding run_from range_passes bytes_at least_failing low_bytes with_written top_layers
timed0_step = step_by plans.timed 0 (layer None 65540 []) (loaded plans.clocked) refl refl refl

pub timed0_place : IsPlace plans.timed 0 (Some 0) timed0
unfolding run_from range_passes bytes_at least_failing low_bytes with_written top_layers
timed0_place = (timed0, timed0_step.0, refl)

pub timed0_shows : LayerShows plans.timed 0 1 65540 (0 ∷ 0 ∷ 0 ∷ 0 ∷ 0 ∷ 0 ∷ 0 ∷ 0 ∷ [])
unfolding run_from range_passes bytes_at least_failing low_bytes with_written top_layers
timed0_shows = record {
  below = (loaded plans.clocked);
  machine = timed0;
  layer = record { layer = (layer None 65540 []); layer_is = refl; place = timed0_place };
  stands = refl;
  step = timed0_step.0;
  counted_is = timed0_step.1;
  pc_is = refl;
  bytes_are = refl;
  written_is = refl;
  queue_is = refl;
  sent_is = refl;
  console_is = refl;
}

abbrev pub short0 : Machine
short0 = layer_after plans.short loop0 (loaded plans.count)

short0_step : (step : IsStep plans.short 0 (loaded plans.count) short0) × (step.counted ≡ 2)
unfolding run_from range_passes bytes_at least_failing low_bytes with_written top_layers
short0_step = step_by plans.short 0 loop0 (loaded plans.count) refl refl refl

pub short0_place : IsPlace plans.short 0 (Some 0) short0
unfolding run_from range_passes bytes_at least_failing low_bytes with_written top_layers
short0_place = (short0, short0_step.0, refl)

abbrev pub enough0 : Machine
enough0 = layer_after plans.enough loop0 (loaded plans.count)

enough0_step : (step : IsStep plans.enough 0 (loaded plans.count) enough0) × (step.counted ≡ 2)
unfolding run_from range_passes bytes_at least_failing low_bytes with_written top_layers
enough0_step = step_by plans.enough 0 loop0 (loaded plans.count) refl refl refl

pub enough0_place : IsPlace plans.enough 0 (Some 0) enough0
unfolding run_from range_passes bytes_at least_failing low_bytes with_written top_layers
enough0_place = (enough0, enough0_step.0, refl)

abbrev pub printing0 : Machine
printing0 = layer_after plans.printing (layer None 65540 []) (loaded plans.printer)

printing0_step : (step : IsStep plans.printing 0 (loaded plans.printer) printing0)
    × (step.counted ≡ 1)
unfolding run_from range_passes bytes_at least_failing low_bytes with_written top_layers
printing0_step =
    step_by plans.printing 0 (layer None 65540 []) (loaded plans.printer) refl refl refl

pub printing0_place : IsPlace plans.printing 0 (Some 0) printing0
unfolding run_from range_passes bytes_at least_failing low_bytes with_written top_layers
printing0_place = (printing0, printing0_step.0, refl)

abbrev pub printed0 : Machine
printed0 = layer_after plans.printed (layer None 65556 []) (loaded plans.printer)

printed0_step : (step : IsStep plans.printed 0 (loaded plans.printer) printed0) × (step.counted ≡ 5)
unfolding run_from range_passes bytes_at least_failing low_bytes with_written top_layers
printed0_step = step_by plans.printed 0 (layer None 65556 []) (loaded plans.printer) refl refl refl

pub printed0_place : IsPlace plans.printed 0 (Some 0) printed0
unfolding run_from range_passes bytes_at least_failing low_bytes with_written top_layers
printed0_place = (printed0, printed0_step.0, refl)

pub printed0_shows : LayerShows plans.printed 0 5 65556
    (0 ∷ 0 ∷ 0 ∷ 0 ∷ 0 ∷ 0 ∷ 0 ∷ 0 ∷ [])
unfolding run_from range_passes bytes_at least_failing low_bytes with_written top_layers
printed0_shows = record {
  below = (loaded plans.printer);
  machine = printed0;
  layer = record { layer = layer None 65556 []; layer_is = refl; place = printed0_place };
  stands = refl;
  step = printed0_step.0;
  counted_is = printed0_step.1;
  pc_is = refl;
  bytes_are = refl;
  written_is = refl;
  queue_is = refl;
  sent_is = refl;
  console_is = refl;
}

abbrev pub first0 : Machine
first0 = layer_after plans.two loop0 (loaded plans.count)

first0_step : (step : IsStep plans.two 0 (loaded plans.count) first0) × (step.counted ≡ 2)
unfolding run_from range_passes bytes_at least_failing low_bytes with_written top_layers
first0_step = step_by plans.two 0 loop0 (loaded plans.count) refl refl refl

pub first0_place : IsPlace plans.two 0 (Some 0) first0
unfolding run_from range_passes bytes_at least_failing low_bytes with_written top_layers
first0_place = (first0, first0_step.0, refl)

abbrev pub second0 : Machine
second0 = layer_after plans.two plans.on_second (loaded plans.spin)

second0_step : (step : IsStep plans.two 1 (loaded plans.spin) second0) × (step.counted ≡ 1)
unfolding run_from range_passes bytes_at least_failing low_bytes with_written top_layers
second0_step = step_by plans.two 1 plans.on_second (loaded plans.spin) refl refl refl

pub second0_place : IsPlace plans.two 1 (Some 1) second0
unfolding run_from range_passes bytes_at least_failing low_bytes with_written top_layers
second0_place = (second0, second0_step.0, refl)

pub second0_shows : LayerShows plans.two 1 1 65536
    (0 ∷ 0 ∷ 0 ∷ 0 ∷ 0 ∷ 0 ∷ 0 ∷ 0 ∷ [])
unfolding run_from range_passes bytes_at least_failing low_bytes with_written top_layers
second0_shows = record {
  below = (loaded plans.spin);
  machine = second0;
  layer = record { layer = plans.on_second; layer_is = refl; place = second0_place };
  stands = refl;
  step = second0_step.0;
  counted_is = second0_step.1;
  pc_is = refl;
  bytes_are = refl;
  written_is = refl;
  queue_is = refl;
  sent_is = refl;
  console_is = refl;
}

-- ---- no layers

abbrev pub resting0 : Machine
resting0 = layer_after plans.resting loop0 (loaded plans.count)

resting0_step : (step : IsStep plans.resting 0 (loaded plans.count) resting0) × (step.counted ≡ 2)
unfolding run_from range_passes bytes_at least_failing low_bytes with_written top_layers
resting0_step = step_by plans.resting 0 loop0 (loaded plans.count) refl refl refl

pub resting_none : NoLayerShows plans.resting 1 17 Rest
unfolding run_from range_passes bytes_at least_failing low_bytes with_written top_layers
resting_none =
    no_layer_by plans.resting 1 (layer (Some 0) 65604 ((1 ∷ []) ∷ [])) resting0 Rest refl
    (resting0, resting0_step.0, refl) refl refl (λ e. cc)

pub spinning_none : NoLayerShows plans.spinning 0 100 Budget
unfolding run_from range_passes bytes_at least_failing low_bytes with_written top_layers
spinning_none =
    no_layer_by plans.spinning 0 (layer None 65540 []) (loaded plans.spin) Budget refl
    refl refl refl (λ e. cc)

pub halting_none : NoLayerShows plans.halting 0 3 (Halt 0)
unfolding run_from range_passes bytes_at least_failing low_bytes with_written top_layers
halting_none =
    no_layer_by plans.halting 0 (layer None 65552 []) (loaded plans.tiny) (Halt 0) refl
    refl refl refl (λ e. cc)

pub breaking_none : NoLayerShows plans.breaking 0 0 (Exception 2 65536 0)
unfolding run_from range_passes bytes_at least_failing low_bytes with_written top_layers
breaking_none =
    no_layer_by plans.breaking 0 (layer None 65552 []) (loaded plans.broken) (Exception 2 65536 0)
    refl refl refl refl (λ e. cc)

pub clocked_none : NoLayerShows plans.halting_timed 0 5 (Halt 0)
unfolding run_from range_passes bytes_at least_failing low_bytes with_written top_layers
clocked_none =
    no_layer_by plans.halting_timed 0 (layer None 65556 []) (loaded plans.clocked) (Halt 0) refl
    refl refl refl (λ e. cc)
