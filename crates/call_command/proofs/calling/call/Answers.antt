use Rattle.command_parts.specs.Outside.{no_sink, outside, see}
use Rattle.call_command.proofs.Ends.{ends}
use Rattle.call_command.proofs.calling.call.Goals as goal

pub returns-clause-ends : goal.returns-clause-ends
returns-clause-ends g c =
    let F = g.F.Files in
    let S = g.S.Source in
    let K = g.K.Sink in
    let E = g.E.Sink in
    let given = c.args.given.now in
    let new = c.perform-outcome.new in
    let o = outside (see F.contents F.faults given.files.now new.files)
    (see S.remaining S.faults given.source.now new.source)
    (see K.contents K.faults given.sink.now new.sink) no_sink in
    let errs = see E.contents E.faults given.errs.now c.finish.new.errs in
    ends o errs c.args.name.now c.perform-outcome.result c.finish.result
    c.perform-outcome.ensures.does c.perform-outcome.ensures.untouched c.finish.ensures.ended
