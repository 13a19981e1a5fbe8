use Rattle.output_buffer.proofs.Ways.{both, sends_as}
use Rattle.output_buffer.specs.Sent.{way}
use Rattle.asm_commands.proofs.lines.push_word.Goals as goal

pub returns : goal.returns
returns g c =
    let K = g.K.Sink in
    let old = way K.contents K.faults c.args.sink.now c.args.buffer.now in
    let one = way K.contents K.faults c.push_prefix.new.sink c.push_prefix.new.buffer in
    let two = way K.contents K.faults c.push_text.new.sink c.push_text.new.buffer in
    let new = way K.contents K.faults c.push.new.sink c.push.new.buffer in
    both _ _ old two new
    (both _ _ old one two c.push_prefix.ensures
    (sends_as _ _ one two c.word_line-line.ensures c.push_text.ensures))
    c.push.ensures
