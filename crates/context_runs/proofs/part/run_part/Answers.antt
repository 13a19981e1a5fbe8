use Rattle.machine_run.specs.Continued.{limits_of}
use Rattle.context_runs.proofs.Parting.{ends_part}
use Rattle.context_runs.proofs.part.run_part.Goals as goal

-- src/part.rt:46:1
pub returns-clause-ends : goal.returns-clause-ends
returns-clause-ends g c m packets so_far =
    ends_part c.args.ports.now.clock (limits_of c.args.limits.now) m packets
    c.args.progress.now.done _ c.go-end.result c.part_end.result _ _ c.part_end.ensures
    c.go-end.ensures.awake c.go-end.ensures.runs so_far
