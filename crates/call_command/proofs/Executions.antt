-- The machine before a run, by its parts.
use Rattle.std.proofs.Common.{◌≡◌, ℕ, List, subst}
use Rattle.hyper_calls.specs.Exchange.{Exchange, starting}
use Rattle.image_model.specs.Layout.{Layout}
use Rattle.machine_model.specs.Loaded.{loaded}
use Rattle.machine_model.specs.Machine.{Machine}
use Rattle.machine_model.specs.Run.{Limits}
use Rattle.machine_model.specs.declared.hart.Hart.{Hart}
use Rattle.machine_run.specs.Continued.{RunsOn, given}
use Rattle.machine_run.specs.declared.limits.RunEnd.{RunEnd}
use Rattle.space_api.specs.Flat.{Flat, Traffic, machine_of, flat_of}

-- a run of its hart, space and ports is a run of the machine that was loaded and given packets
pub runs_loaded : (limits : Limits) (end : RunEnd) (done : ℕ) (after : Machine)
    (packets : List (List ℕ)) (ports : Exchange) (hart : Hart) (space : Flat) (start is : Layout) →
    ports ≡ starting 0 packets → space ≡ flat_of start →
    ((traffic : Traffic) → machine_of hart (flat_of start) traffic ≡ record (loaded start) {
      queue = traffic.queue;
      sent = traffic.sent;
      console = traffic.console;
    }) →
    start ≡ is → RunsOn ports.clock limits 0 (machine_of hart space ports.traffic) end done after →
    RunsOn 0 limits 0 (given (loaded is) packets) end done after
runs_loaded limits end done after packets ports hart space start is began flat loads starts runs =
    let R : ℕ → Machine → Type 0 = λ clock m. RunsOn clock limits 0 m end done after in
    let begun = subst (λ p. R p.clock (machine_of hart space p.traffic)) began runs in
    let of_start = subst (λ f. R 0 (machine_of hart f (starting 0 packets).traffic)) flat begun in
    let of_loaded = subst (R 0) (loads (starting 0 packets).traffic) of_start in
    subst (λ s. R 0 (given (loaded s) packets)) starts of_loaded
