use Rattle.std.proofs.Common.{Err, refl, subst, sym}
use Rattle.std.proofs.lemmas.Result.{IfErr-weaker, err_from_is_err_and}
use Rattle.command_parts.proofs.Inputs.{input_taken}
use Rattle.command_parts.specs.Outside.{no_sink, outside, see}
use Rattle.machine_model.specs.Hypercall.{packet_limit}
use Rattle.call_command.proofs.Kept.{call_line, not_told, of_line, of_packet, of_program}
use Rattle.call_command.proofs.Kept.{refused_packet, refused_program}
use Rattle.call_command.specs.Call.{CallRefusal, Refuses}
use Rattle.call_command.proofs.calling.answer.Goals as goal

-- no image was had

pub returns-in_err-image-clause-keeps : goal.returns-in_err-image-clause-keeps
returns-in_err-image-clause-keeps g c =
    let F = g.F.Files in
    let p = err_from_is_err_and c.from_residual.result c.from_residual.ensures.1 in
    let had = c.read_program.ensures in
    let files = see F.contents F.faults c.args.files.now c.read_program.new.files in
    let refusal = c.in_err-image.field-0.0 in
    rw (p.1, p.2)
    (of_program (Err refusal) c.read_program.result refusal files _ _ refl c.in_err-image.was
    had.counted had.monotone)

pub returns-in_err-image-clause-refused : goal.returns-in_err-image-clause-refused
returns-in_err-image-clause-refused g c =
    let F = g.F.Files in
    let S = g.S.Source in
    let p = err_from_is_err_and c.from_residual.result c.from_residual.ensures.1 in
    let files = see F.contents F.faults c.args.files.now c.read_program.new.files in
    let source = see S.remaining S.faults c.args.source.now c.args.source.now in
    rw (p.1, p.2)
    (refused_program files source c.args.name.now refl c.in_err-image.field-0.0
    c.in_err-image.ensures.refused)

-- no packet was had

pub returns-in_err-packet-clause-keeps : goal.returns-in_err-packet-clause-keeps
returns-in_err-packet-clause-keeps g c =
    let F = g.F.Files in
    let S = g.S.Source in
    let residual = c.from_residual-in_err-packet in
    let p = err_from_is_err_and residual.result residual.ensures.1 in
    let image = c.read_program.ensures in
    let had = c.read_packet.ensures in
    let files = see F.contents F.faults c.args.files.now c.read_program.new.files in
    let source = see S.remaining S.faults c.args.source.now c.read_packet.new.source in
    let refusal = c.in_err-packet.field-0.0 in
    rw (p.1, p.2)
    (of_packet (Err refusal) c.read_packet.result refusal files source refl c.in_err-packet.was
    (c.in_ok-image.ensures.counted (λ same. cc)) image.monotone c.in_err-packet.ensures.refused
    had.counted had.monotone)

pub returns-in_err-packet-clause-refused : goal.returns-in_err-packet-clause-refused
returns-in_err-packet-clause-refused g c =
    let F = g.F.Files in
    let S = g.S.Source in
    let residual = c.from_residual-in_err-packet in
    let p = err_from_is_err_and residual.result residual.ensures.1 in
    let image = c.in_ok-image.ensures.image in
    let files = see F.contents F.faults c.args.files.now c.read_program.new.files in
    let source = see S.remaining S.faults c.args.source.now c.read_packet.new.source in
    rw (p.1, p.2)
    (refused_packet files source c.args.name.now image.0 _ image.1 image.2
    c.in_err-packet.field-0.0 c.in_err-packet.ensures.refused)

pub returns-in_err-packet-clause-untouched : goal.returns-in_err-packet-clause-untouched
returns-in_err-packet-clause-untouched g c = λ none.
    let image = c.in_ok-image.ensures.image in
    absurd
    (not_told (g.F.Files.contents c.args.files.now) c.args.name.now image.0 _ image.1 image.2 none)

-- both were had

pub returns-clause-untouched : goal.returns-clause-untouched
returns-clause-untouched g c = λ none.
    let image = c.in_ok-image.ensures.image in
    absurd
    (not_told (g.F.Files.contents c.args.files.now) c.args.name.now image.0 _ image.1 image.2 none)

pub returns-clause-refused : goal.returns-clause-refused
returns-clause-refused g c =
    let F = g.F.Files in
    let S = g.S.Source in
    let files = see F.contents F.faults c.args.files.now c.read_program.new.files in
    let source = see S.remaining S.faults c.args.source.now c.read_packet.new.source in
    let packet = c.in_ok-packet.packet in
    let taken = input_taken packet_limit source packet c.in_ok-packet.ensures.packet in
    let P : CallRefusal → Type 0 =
    Refuses (outside files source no_sink no_sink) c.args.name.now in
    IfErr-weaker c.run_line.result _ P (λ refusal memory. subst P (sym memory) taken)
    c.run_line.ensures.refused

pub returns-clause-keeps : goal.returns-clause-keeps
returns-clause-keeps g c =
    let F = g.F.Files in
    let S = g.S.Source in
    let files = see F.contents F.faults c.args.files.now c.read_program.new.files in
    let source = see S.remaining S.faults c.args.source.now c.read_packet.new.source in
    of_line c.run_line.result files source c.run_line.ensures.refused
    (c.in_ok-image.ensures.counted (λ same. cc)) c.read_program.ensures.monotone
    (c.in_ok-packet.ensures.counted (λ same. cc)) c.read_packet.ensures.monotone

pub returns-clause-line : goal.returns-clause-line
returns-clause-line g c =
    let S = g.S.Source in
    let image = c.in_ok-image.ensures.image in
    let source = see S.remaining S.faults c.args.source.now c.read_packet.new.source in
    call_line c.run_line.result (g.F.Files.contents c.args.files.now) source c.args.name.now
    image.0 _ _ image.1 image.2 c.in_ok-packet.ensures.packet c.run_line.ensures.line
