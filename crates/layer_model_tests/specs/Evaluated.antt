-- What a run comes to, computed. The definition of runs is a relation, and no value.
use Rattle.std.specs.Prelude.{ℕ, zero, suc, ◌+◌, ◌^◌, ◌==◌, ◌&&◌, Bool, true, false, nat_lt, []}
use Rattle.std.specs.Prelude.{◌∷◌, Option, Some, None}
use Rattle.instruction_model.specs.Reading.{reading}
use Rattle.layer_model.specs.Layers.{quiet, settled, layer_limits}
use Rattle.layer_model.specs.Replies.{request_limits}
use Rattle.machine_model.specs.Instruction.{Next, Raises, can_fetch, word_at_pc, effect}
use Rattle.machine_model.specs.Instruction.{instruction_page_fault}
use Rattle.machine_model.specs.Machine.{Machine}
use Rattle.machine_model.specs.Run.{Limits, End, Turn, Goes, Stops, turn_of, at_trigger, is_empty}
use Rattle.machine_model.specs.Run.{give}
use Rattle.machine_model.specs.declared.stop.Stop.TheVariants.{Trigger, Budget, Rest}
use Rattle.plan_model.specs.Outline.{Outline}
use Rattle.plan_model.specs.declared.layer.PlanLayer.{PlanLayer}
use Rattle.space_api.specs.declared.given.Given.{Given}

-- either of two values, of which only that one is computed
abbrev pub pick : {A : Type 0} → Bool → (Unit {0} → A) → (Unit {0} → A) → A
pick true x y = x tt
pick false x y = y tt

-- ---- a turn

abbrev pub next_by_word : Machine → (w : ℕ) → Option Next
next_by_word m w =
    pick (nat_lt w (2 ^ 32)) (λ _. Some (effect m w (reading w))) (λ _. None)

-- what the next instruction does
abbrev pub some_next : Machine → Option Next
some_next m = pick (can_fetch m) (λ _. next_by_word m (word_at_pc m))
    (λ _. Some (Raises instruction_page_fault m.pc))

abbrev pub after_turn : (Machine → Option End) → (number : ℕ) → Turn → Option End
after_turn on number (Goes after) = on after
after_turn on number (Stops stop counted after) =
    Some (record { stop = stop; number = number + counted; machine = after })

abbrev pub after_next : (Machine → Option End) → (number clock : ℕ) → Machine → Option Next
    → Option End
after_next on number clock m None = None
after_next on number clock m (Some next) = after_turn on number (turn_of m clock next)

-- ---- a run

-- the end of a run where so many instructions were counted, if it comes within so many turns
unfoldable pub run_from : (turns clock : ℕ) → Limits → (number : ℕ) → Machine → Option End
run_from zero clock limits number m = None
run_from (suc turns) clock limits number m = pick (at_trigger limits.trigger number m)
    (λ _. Some (record { stop = Trigger; number = number; machine = m }))
    (λ _. pick (number == limits.budget)
    (λ _. Some (record { stop = Budget; number = number; machine = m }))
    (λ _. after_next (run_from turns clock limits (suc number)) number clock m (some_next m)))

abbrev pub run_of : (turns clock : ℕ) → Limits → Machine → Option End
run_of turns clock limits m = pick (m.resting && is_empty m.queue)
    (λ _. Some (record { stop = Rest; number = 0; machine = m }))
    (λ _. run_from turns clock limits 0 m)

-- the end, or one at the machine where there is none
abbrev pub end_of : Machine → Option End → End
end_of m None = record { stop = Budget; number = 0; machine = m }
end_of m (Some end) = end

-- ---- runs of layers and requests, of at most 200 turns

abbrev pub layer_end : Outline → PlanLayer → (below : Machine) → Option End
layer_end plan layer below = run_of 200 0 (layer_limits plan layer) (give below layer.packets)

abbrev pub layer_after : Outline → PlanLayer → (below : Machine) → Machine
layer_after plan layer below = quiet (end_of below (layer_end plan layer below)).machine

abbrev pub request_end : Outline → Machine → Given → Option End
request_end plan m given =
    run_of 200 given.clock (request_limits plan) (give m (given.packet ∷ []))

abbrev pub request_after : Outline → Machine → Given → Machine
request_after plan m given = settled (end_of m (request_end plan m given)).machine
