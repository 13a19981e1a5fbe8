use Rattle.std.proofs.Common.{refl, sym, ◌∙◌}
use Rattle.image_model.specs.StartOf.{start_of}
use Rattle.machine_model.specs.Loaded.{loaded}
use Rattle.plain_space.specs.PlainSpace.{flat}
use Rattle.space_api.specs.Flat.{machine_of}
use Rattle.call_command.proofs.Executions.{runs_loaded}
use Rattle.call_command.specs.Call.{call_stack, call_limits}
use Rattle.call_command.proofs.execution.execute.Goals as goal

pub returns-in-Some : goal.returns-in-Some
returns-in-Some g c =
    let after = machine_of c.run-end.new.hart (flat c.run-end.new.space)
    c.run-end.new.ports.traffic in
    let start = start_of c.args.image.now call_stack in
    let end = c.run-end.result in
    let done = c.run-end.new.progress.done in
    record {
      machine = after;
      run = c.parts_are_the_run.ensures.whole 0 call_limits (loaded start) c.args.packets.now end
          c.in-Some.stop done after (sym c.stop_of.ensures ∙ c.in-Some.is)
          (runs_loaded call_limits end done after c.args.packets.now c.begin.new.self
          c.first_hart-hart.result (flat c.in_ok-space.space) c.in_ok-start.start start
          c.in_ok-begin.ensures.ok c.in_ok-space.ensures.flat c.first_hart-hart.ensures
          c.in_ok-start.ensures c.run-end.ensures.runs);
      packets_are = refl;
      console_is = refl;
    }
