use Rattle.asm_commands.proofs.Ends.{ends, own_is}
use Rattle.asm_commands.proofs.Once.{assembles_once}
use Rattle.asm_commands.specs.Asm.{Assembles}
use Rattle.asm_commands.specs.Causes.{asm_line, asm_status}
use Rattle.command_parts.proofs.Endings.{leaves}
use Rattle.command_parts.specs.Outside.{no_sink, outside, see}
use Rattle.asm_commands.proofs.converting.asm.Goals as goal

pub returns-clause-ends : goal.returns-clause-ends
returns-clause-ends g c =
    let F = g.F.Files in
    let S = g.S.Source in
    let K = g.K.Sink in
    let E = g.E.Sink in
    let given = c.args.given.now in
    let new = c.convert-outcome.new in
    let o = outside (see F.contents F.faults given.files.now given.files.now)
    (see S.remaining S.faults given.source.now new.source)
    (see K.contents K.faults given.sink.now new.sink)
    (see E.contents E.faults given.errs.now c.finish.new.errs) in
    ends Assembles assembles_once o c.convert-outcome.result c.finish.result
    c.convert-outcome.ensures.does c.finish.ensures.ended

pub returns-clause-leaves : goal.returns-clause-leaves
returns-clause-leaves g c =
    let F = g.F.Files in
    let S = g.S.Source in
    let K = g.K.Sink in
    let E = g.E.Sink in
    let given = c.args.given.now in
    let new = c.convert-outcome.new in
    let told = F.contents given.files.now in
    let count = F.faults given.files.now in
    let o = outside (see F.contents F.faults given.files.now given.files.now)
    (see S.remaining S.faults given.source.now new.source)
    (see K.contents K.faults given.sink.now new.sink) no_sink in
    leaves asm_status own_is asm_line o (see E.contents E.faults given.errs.now c.finish.new.errs)
    c.convert-outcome.result c.finish.result (c.convert-outcome.ensures.keeps told count)
    c.finish.ensures.ended c.finish.ensures.monotone
