use Rattle.std.proofs.Common.{◌<◌, length, ap, sym, ◌∙◌, arith}
use Rattle.std.proofs.lemmas.Bool.Decides.{nat_tests}
use Rattle.request_lines.proofs.Reading.{put_all_before, too_many, further, stopped}
use Rattle.request_lines.proofs.read.read_requests.Goals as goal

pub returns-then-number-gt-MOST_LINES-clause-fault :
    goal.returns-then-number-gt-MOST_LINES-clause-fault
returns-then-number-gt-MOST_LINES-clause-fault c = λ _. (
    let some : 0 < length c.lines.rest.now = grind (arith, nat_tests) in
    sym c.lines.invariant.same
    ∙ ap (put_all_before c.lines.requests.items)
    (too_many c.args.names.now c.lines.number c.lines.rest.now some c.if-number-gt-MOST_LINES.true)
    )

pub returns-in-Err-clause-fault : goal.returns-in-Err-clause-fault
returns-in-Err-clause-fault c = λ _.
    stopped c.args.names.now c.lines.number c.lines.requests.items c.in-Err.kind
    c.lines.rest.now c.split_line.result.0.now c.split_line.result.1.now _
    c.if-number-gt-MOST_LINES.false c.split_line.ensures.lines
    (sym c.in_ok-request.ensures ∙ c.in-Err.is) c.lines.invariant.same

pub lines-preserved : goal.lines-preserved
lines-preserved c = record {
  same = further c.args.names.now c.lines.number c.lines.requests.items
      c.push.new.self.items c.in-Ok.request c.lines.rest.now
      c.split_line.result.0.now c.split_line.result.1.now _
      c.if-number-gt-MOST_LINES.false c.split_line.ensures.lines
      (sym c.in_ok-request.ensures ∙ c.in-Ok.is) c.in_ok-push-in-Ok.ensures.items
      c.lines.invariant.same;
  few = omega arith;
}
