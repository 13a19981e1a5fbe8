use Rattle.std.proofs.Common.{◌≡◌, ◌∙◌, sym, get_or, rules}
use Rattle.std.proofs.lemmas.Result.{err_from_is_err_and}
use Rattle.plan_text.proofs.Started.{started_stop, started_more, started_whole}
use Rattle.plan_text.proofs.Started.{started_before}
use Rattle.plan_text.proofs.images.starts.Goals as goal

pub returns-in_err-start-clause-refused : goal.returns-in_err-start-clause-refused
returns-in_err-start-clause-refused g c =
    let names = c.args.names.now in
    let i = c.names.name-index in
    let item = c.name-item.result in
    let inv = c.names.invariant in
    let at : get_or names i item ≡ c.as_str.result.now = sym (c.as_str.ensures ∙ c.name-item.is) in
    let p = err_from_is_err_and c.from_residual-in_err-start.result
    c.from_residual-in_err-start.ensures.1 in
    rw (p.1, p.2) (λ named other.
    started_stop (g.F.Files.contents c.args.files.now) c.args.stack names i item
    c.names.starts.items c.names.totals _ c.names-test.true inv.0
    (rw (at, ← inv.1) (c.in_err-start.ensures.refused named other)))

pub names-preserved : goal.names-preserved
names-preserved g c =
    let names = c.args.names.now in
    let i = c.names.name-index in
    let item = c.name-item.result in
    let inv = c.names.invariant in
    let at : get_or names i item ≡ c.as_str.result.now = sym (c.as_str.ensures ∙ c.name-item.is) in (
      rw c.in_ok-push.ensures.items (started_more (g.F.Files.contents c.args.files.now) c.args.stack
          names i item c.names.starts.items c.names.totals c.start.new.totals c.in_ok-start.field-0
          c.names-test.true inv.0 (rw (at, ← inv.1) c.in_ok-start.ensures.start)
          c.in_ok-start.ensures.small),
      c.in_ok-start.ensures.kept ∙ inv.1,
      c.in_ok-start.ensures.counted (search rules) ∙ inv.2,
    )

pub returns-clause-starts : goal.returns-clause-starts
returns-clause-starts g c =
    started_whole (g.F.Files.contents c.args.files.now) c.args.stack c.args.names.now
    c.names.name-index c.names.starts.items c.names.totals c.names-test.false c.names.invariant.0

pub returns-in_err-start-clause-place : goal.returns-in_err-start-clause-place
returns-in_err-start-clause-place g c = λ failed.
    started_before (g.F.Files.contents c.args.files.now) c.args.stack c.args.names.now
    c.names.name-index c.names.starts.items c.names.totals c.names-test.true c.names.invariant.0
