-- A run of a context from where it stands is the plan's.
use Rattle.std.proofs.Common.{◌≡◌, ℕ, true, false, List, [], ◌∷◌, Option, Some, slice_get, ap}
use Rattle.std.proofs.Common.{sym, ◌∙◌, subst}
use Rattle.machine_model.specs.Machine.{Machine}
use Rattle.machine_model.specs.Run.{Limits, IsRun, give}
use Rattle.machine_model.specs.declared.stop.Stop.{Stop}
use Rattle.machine_model.specs.declared.stop.Stop.TheVariants as stop
use Rattle.machine_run.specs.Continued.{stop_of}
use Rattle.machine_run.specs.declared.limits.RunEnd.{RunEnd}
use Rattle.machine_run.specs.declared.limits.RunEnd.TheVariants.{Rest, Trigger}
use Rattle.layer_model.specs.Layers.{IsPlace, layer_limits}
use Rattle.layer_model.specs.Replies.{IsContext, IsFunction, Serves, request_limits}
use Rattle.plan_model.specs.Outline.{Outline}
use Rattle.plan_model.specs.declared.function.PlanFunction.{PlanFunction}
use Rattle.plan_model.specs.declared.layer.PlanLayer.{PlanLayer}
use Rattle.space_api.specs.Flat.{Flat, Traffic, machine_of}
use Rattle.space_api.specs.declared.given.Given.{Given}
use Rattle.context_uc.specs.Runs.{HasRested, HasReached}
use Rattle.context_uc.specs.Views.{ContextView, IsModel, silent}
use Rattle.context_uc_tests.specs.Standing.{StandsBelow}

-- what is known of the run of a context, by how it ended
abbrev pub Ran : {S : Type 0} → (clock : ℕ) → Limits → (packets : List (List ℕ)) → RunEnd →
    (done : ℕ) → (old new : ContextView S) → (flat new_flat : Flat) → Traffic → Type 0
Ran clock limits packets end done old new flat new_flat traffic = (s : Stop)
    → stop_of end ≡ Some s → IsRun clock limits (give (machine_of old.hart flat silent) packets)
    (record { stop = s; number = done; machine = machine_of new.hart new_flat traffic })

pub rested_by : {S : Type 0} (old new : ContextView S) (flat new_flat : Flat) (given : Given)
    (limits : Limits) (packets : List (List ℕ)) (end : RunEnd) (done : ℕ) (traffic : Traffic)
    → (old.still ≡ true
    → IsModel old.plan old.function old.layer old.served (machine_of old.hart flat silent))
    → old.still ≡ true → limits ≡ request_limits old.plan → packets ≡ given.packet ∷ []
    → end ≡ Rest → Ran given.clock limits packets end done old new flat new_flat traffic
    → new ≡ record old { still = false; hart = new.hart; space = new.space }
    → HasRested new new_flat given
rested_by {S} old new flat new_flat given limits packets end done traffic model still limits_are
    packets_are end_is ran same =
    let m = model still in
    let begins = machine_of old.hart flat silent in
    let after = machine_of new.hart new_flat traffic in
    let run = ran stop.Rest (ap stop_of end_is) in
    let limited = subst (λ l. IsRun given.clock l (give begins packets)
    (record { stop = stop.Rest; number = done; machine = after })) limits_are run in
    let given_one = subst (λ ps. IsRun given.clock (request_limits old.plan) (give begins ps)
    (record { stop = stop.Rest; number = done; machine = after })) packets_are limited in
    subst (λ (c : ContextView S). HasRested c new_flat given) (sym same) (record {
      function = m.function;
      layer = m.layer;
      function_is = m.function_is;
      context = begins;
      context_is = m.context_is;
      counted = done;
      traffic = traffic;
      run = given_one;
    })

one_of : {A : Type 0} (o : Option A) (a b : A) → o ≡ Some a → o ≡ Some b → a ≡ b
one_of o a b is also = cc

one_layer : (plan : Outline) (n : ℕ) (f g : PlanFunction) (l k : PlanLayer)
    → IsFunction plan n f l → IsFunction plan n g k → l ≡ k
one_layer plan n f g l k a b =
    one_of (slice_get plan.layers g.layer) l k
    (subst (λ (h : PlanFunction). slice_get plan.layers h.layer ≡ Some l)
    (one_of (slice_get plan.functions n) f g a.function_is b.function_is) a.layer_is) b.layer_is

-- a context that served nothing stands at its place
stands_still : (plan : Outline) (start : ℕ) (place : Option ℕ) (served : List Given) (m : Machine)
    → IsContext plan start place served m → served ≡ [] → IsPlace plan start place m
stands_still plan start place served m context unused =
    subst (IsPlace plan start place)
    (subst (λ s. Serves plan s context.base m) unused context.serves) context.stands

pub reached_by : {S : Type 0} (old new : ContextView S) (flat new_flat : Flat) (number : ℕ)
    (layer : PlanLayer) (limits : Limits) (packets : List (List ℕ)) (end : RunEnd) (done : ℕ)
    (traffic : Traffic)
    → (old.still ≡ true
    → IsModel old.plan old.function old.layer old.served (machine_of old.hart flat silent))
    → StandsBelow old number layer → limits ≡ layer_limits old.plan layer
    → packets ≡ layer.packets → end ≡ Trigger
    → Ran 0 limits packets end done old new flat new_flat traffic
    → new ≡ record old { still = false; hart = new.hart; space = new.space }
    → HasReached new new_flat number
reached_by {S} old new flat new_flat number layer limits packets end done traffic model below
    limits_are packets_are end_is ran same =
    let m = model below.still in
    let begins = machine_of old.hart flat silent in
    let after = machine_of new.hart new_flat traffic in
    let run = ran stop.Trigger (ap stop_of end_is) in
    let limited = subst (λ l. IsRun 0 l (give begins packets)
    (record { stop = stop.Trigger; number = done; machine = after })) limits_are run in
    let given_all = subst (λ ps. IsRun 0 (layer_limits old.plan layer) (give begins ps)
    (record { stop = stop.Trigger; number = done; machine = after })) packets_are limited in
    let start_is = ap (λ (l : PlanLayer). l.start) (one_layer old.plan old.function m.function
    below.function m.layer below.top m.function_is below.function_is) ∙ sym below.start_is in
    let place = subst (λ start. IsPlace old.plan start old.layer begins) start_is
    (stands_still old.plan m.layer.start old.layer old.served begins m.context_is below.unused) in
    subst (λ (c : ContextView S). HasReached c new_flat number) (sym same) (record {
      function = below.function;
      top = below.top;
      function_is = below.function_is;
      layer = layer;
      layer_is = below.layer_is;
      start_is = below.start_is;
      below_is = below.below_is;
      unused = below.unused;
      place = begins;
      place_is = place;
      counted = done;
      traffic = traffic;
      run = given_all;
    })
