use Rattle.std.proofs.lemmas.Result.{on_ok_weaker, on_err_weaker}
use Rattle.asm_commands.specs.Listing.{listing}
use Rattle.elf64.specs.Segments.{segments_of}
use Rattle.output_buffer.proofs.Ways.{sent_since}
use Rattle.output_buffer.specs.Sent.{way}
use Rattle.asm_commands.proofs.listing.write_listing.Goals as goal

pub returns-clause-written : goal.returns-clause-written
returns-clause-written g c =
    let K = g.K.Sink in
    let lines = listing (segments_of c.args.file.now c.args.loads.now) in
    let told = K.contents c.args.sink.now in
    let count = K.faults c.args.sink.now in
    let now = way K.contents K.faults c.push_loads.new.sink c.push_loads.new.buffer in
    let sent = sent_since lines told count c.new-buffer.result now c.new-buffer.ensures
    c.push_loads.ensures in
    on_ok_weaker c.flush.result (λ all. (all lines told count sent).1) c.flush.ensures.written

pub returns-clause-counted : goal.returns-clause-counted
returns-clause-counted g c =
    let K = g.K.Sink in
    let lines = listing (segments_of c.args.file.now c.args.loads.now) in
    let told = K.contents c.args.sink.now in
    let count = K.faults c.args.sink.now in
    let now = way K.contents K.faults c.push_loads.new.sink c.push_loads.new.buffer in
    let sent = sent_since lines told count c.new-buffer.result now c.new-buffer.ensures
    c.push_loads.ensures in
    on_ok_weaker c.flush.result (λ all. (all lines told count sent).0) c.flush.ensures.written

pub returns-clause-cut : goal.returns-clause-cut
returns-clause-cut g c =
    let K = g.K.Sink in
    let lines = listing (segments_of c.args.file.now c.args.loads.now) in
    let told = K.contents c.args.sink.now in
    let count = K.faults c.args.sink.now in
    let now = way K.contents K.faults c.push_loads.new.sink c.push_loads.new.buffer in
    let sent = sent_since lines told count c.new-buffer.result now c.new-buffer.ensures
    c.push_loads.ensures in
    on_err_weaker c.flush.result (λ all. (all lines told count sent).1) c.flush.ensures.cut

pub returns-clause-failed : goal.returns-clause-failed
returns-clause-failed g c =
    let K = g.K.Sink in
    let lines = listing (segments_of c.args.file.now c.args.loads.now) in
    let told = K.contents c.args.sink.now in
    let count = K.faults c.args.sink.now in
    let now = way K.contents K.faults c.push_loads.new.sink c.push_loads.new.buffer in
    let sent = sent_since lines told count c.new-buffer.result now c.new-buffer.ensures
    c.push_loads.ensures in
    on_err_weaker c.flush.result (λ all. (all lines told count sent).0) c.flush.ensures.cut
