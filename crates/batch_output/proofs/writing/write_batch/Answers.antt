use Rattle.std.proofs.Common.{arith}
use Rattle.std.proofs.lemmas.Result.{on_ok_weaker, on_err_weaker}
use Rattle.batch_output.specs.Outcomes.{outcome_text}
use Rattle.output_buffer.proofs.Ways.{sent_since}
use Rattle.output_buffer.specs.Sent.{way}
use Rattle.batch_output.proofs.writing.write_batch.Goals as goal

pub returns-clause-written : goal.returns-clause-written
returns-clause-written g c =
    let K = g.K.Sink in
    let text = outcome_text c.args.outcome.now in
    let told = K.contents c.args.sink.now in
    let count = K.faults c.args.sink.now in
    let now = way K.contents K.faults c.push_outcome.new.sink c.push_outcome.new.buffer in
    let sent = sent_since text told count c.new-buffer.result now c.new-buffer.ensures
    c.push_outcome.ensures in
    on_ok_weaker c.flush.result (λ all. (all text told count sent).1) c.flush.ensures.written

pub returns-clause-counted : goal.returns-clause-counted
returns-clause-counted g c =
    let K = g.K.Sink in
    let text = outcome_text c.args.outcome.now in
    let told = K.contents c.args.sink.now in
    let count = K.faults c.args.sink.now in
    let now = way K.contents K.faults c.push_outcome.new.sink c.push_outcome.new.buffer in
    let sent = sent_since text told count c.new-buffer.result now c.new-buffer.ensures
    c.push_outcome.ensures in
    on_ok_weaker c.flush.result (λ all. (all text told count sent).0) c.flush.ensures.written

pub returns-clause-cut : goal.returns-clause-cut
returns-clause-cut g c =
    let K = g.K.Sink in
    let text = outcome_text c.args.outcome.now in
    let told = K.contents c.args.sink.now in
    let count = K.faults c.args.sink.now in
    let now = way K.contents K.faults c.push_outcome.new.sink c.push_outcome.new.buffer in
    let sent = sent_since text told count c.new-buffer.result now c.new-buffer.ensures
    c.push_outcome.ensures in
    on_err_weaker c.flush.result (λ all. (all text told count sent).1) c.flush.ensures.cut

pub returns-clause-failed : goal.returns-clause-failed
returns-clause-failed g c =
    let K = g.K.Sink in
    let text = outcome_text c.args.outcome.now in
    let told = K.contents c.args.sink.now in
    let count = K.faults c.args.sink.now in
    let now = way K.contents K.faults c.push_outcome.new.sink c.push_outcome.new.buffer in
    let sent = sent_since text told count c.new-buffer.result now c.new-buffer.ensures
    c.push_outcome.ensures in
    on_err_weaker c.flush.result (λ all. (all text told count sent).0) c.flush.ensures.cut

pub returns-clause-never_falls : goal.returns-clause-never_falls
returns-clause-never_falls g c =
    let K = g.K.Sink in
    let told = K.contents c.args.sink.now in
    let count = K.faults c.args.sink.now in
    let now = way K.contents K.faults c.push_outcome.new.sink c.push_outcome.new.buffer in
    let sent = sent_since (outcome_text c.args.outcome.now) told count c.new-buffer.result now
    c.new-buffer.ensures c.push_outcome.ensures in
    omega (arith, sent.never_falls, c.flush.ensures.never_falls)
