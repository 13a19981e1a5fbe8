use Rattle.machine_run.proofs.Turns.{unknown_turn}
use Rattle.machine_run.proofs.turn.turn_of.Goals as goal

pub returns-in-BadCall-clause-does : goal.returns-in-BadCall-clause-does
returns-in-BadCall-clause-does c clock old new at calls comes =
    let unknown = rw c.in-BadCall.is at comes in
    unknown_turn clock c.in-BadCall.number c.args.pc old new at calls unknown.0 unknown.1
