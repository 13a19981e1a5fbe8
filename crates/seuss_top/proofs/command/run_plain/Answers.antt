use Rattle.command_parts.specs.Outside.{outside, see}
use Rattle.seuss_top.proofs.Statuses.{no_form}
use Rattle.seuss_top.specs.Arguments.{texts}
use Rattle.seuss_top.proofs.command.run_plain.Goals as goal

pub returns-clause-no_form : goal.returns-clause-no_form
returns-clause-no_form g c =
    let F = g.F.Files in
    let S = g.S.Source in
    let K = g.K.Sink in
    let E = g.E.Sink in
    let given = c.over-given.result in
    let new = c.perform-status.new.given in
    let o = outside (see F.contents F.faults given.files.now new.files.now)
    (see S.remaining S.faults given.source.now new.source.now)
    (see K.contents K.faults given.sink.now new.sink.now)
    (see E.contents E.faults given.errs.now new.errs.now) in
    no_form (texts c.args.arguments.now) o c.perform-status.result c.perform-status.ensures.performs
