use Rattle.std.proofs.Common.{rules, ◌+◌, ◌-◌, ◌<◌, ◌≤◌, length, drop, arith, length-drop}
use Rattle.std.proofs.lemmas.List.{take_rest}
use Rattle.asm_commands.proofs.Steps.{from_front, rest_left, word_more}
use Rattle.output_buffer.specs.Sent.{way}
use Rattle.asm_commands.proofs.lines.push_bytes.Goals as goal

pub words-init : goal.words-init
words-init g c =
    let K = g.K.Sink in
    let old = way K.contents K.faults c.args.sink.now c.args.buffer.now in
    record {
      within = omega arith;
      lines = λ end h. from_front c.args.at c.args.bytes.now old end h;
    }

pub words-preserved : goal.words-preserved
words-preserved g c =
    let K = g.K.Sink in
    let bytes = c.args.bytes.now in
    let done = c.words.done in
    let four : 4 ≤ length bytes - done = search rules in
    let old = way K.contents K.faults c.words.sink c.words.buffer in
    let between = way K.contents K.faults c.push_word.new.sink c.push_word.new.buffer in
    record {
      within = omega arith;
      lines = λ end h. c.words.invariant.lines end
          (word_more c.args.at done c.word_at.result bytes old between end four
          c.word_at.ensures c.push_word.ensures h);
    }

pub returns : goal.returns
returns g c =
    let K = g.K.Sink in
    let bytes = c.args.bytes.now in
    let done = c.words.done in
    let few : length bytes - done < 4 = search rules in
    let old = way K.contents K.faults c.words.sink c.words.buffer in
    let new = way K.contents K.faults c.push_rest.new.sink c.push_rest.new.buffer in
    c.words.invariant.lines new
    (rest_left (c.args.at + done) (drop done bytes) _ old new (take_rest bytes done)
    (rw (length-drop done bytes) few) c.push_rest.ensures)
