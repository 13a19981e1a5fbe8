use Rattle.service_runs.proofs.Owning.{copied_own, is_within, some_number}
use Rattle.service_runs.proofs.setting_out.own_given.Goals as goal

pub overflow_sub-i : goal.overflow_sub-i
overflow_sub-i c = some_number c.args.started.now c.args.i c.requires.there

pub bounds-started-i : goal.bounds-started-i
bounds-started-i c = is_within c.args.started.now c.args.i c.requires.there

pub returns : goal.returns
returns c = copied_own c.args.started.now c.args.i _ c.copy.result c.requires.there
    c.copy.ensures
