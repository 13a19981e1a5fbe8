use Rattle.std.proofs.Common.{◌≡◌, ◌∙◌, ◌+◌, sym, ap, arith, length, drop}
use Rattle.journal_model.specs.Legal.{judged_from}
use Rattle.journal_model.specs.declared.event.Event.TheVariants.{Start}
use Rattle.journal_model.specs.declared.state.Judged.TheVariants.{Broken, Legal}
use Rattle.run_journal.proofs.Verdicts.{judged_next, judged_stop, judged_legal, judged_owing}
use Rattle.run_journal.proofs.Verdicts.{stepped, stuck}
use Rattle.run_journal.proofs.verdict.judge.Goals as goal

-- an event that may not stand is the answer
pub returns-then-not-branch : goal.returns-then-not-branch
returns-then-not-branch c =
    sym (c.loop-at.invariant ∙ judged_stop c.loop-at.journal.sizes c.loop-at.journal.state
    c.loop-at.at (Start 0 0 0) c.args.events.now (omega arith)
    (stuck c.in_ok-step.field-0 _ _ _ c.if-not-branch.true c.in_ok-step.ensures.state))

-- one that may leads to what is left
pub loop-at-preserved : goal.loop-at-preserved
loop-at-preserved c =
    c.loop-at.invariant ∙ (judged_next c.loop-at.journal.sizes c.loop-at.journal.state
    c.step.new.self.state c.loop-at.at (Start 0 0 0) c.args.events.now (omega arith)
    (stepped c.in_ok-step.field-0 _ _ _ c.if-not-branch.false c.in_ok-step.ensures.state)
    ∙ ap (λ z. judged_from z c.step.new.self.state (c.loop-at.at + 1)
    (drop (c.loop-at.at + 1) c.args.events.now)) (sym c.in_ok-step.ensures.sizes))

-- at the end nothing may be owed
pub returns-then-owes_nothing : goal.returns-then-owes_nothing
returns-then-owes_nothing c =
    let j = c.loop-at.journal in
    sym (c.loop-at.invariant ∙ (judged_legal j.sizes j.state c.loop-at.at
    c.args.events.now (omega arith) (sym c.owes_nothing.ensures ∙ c.if-owes_nothing.true)
    ∙ ap Legal (sym c.totals.ensures)))

pub returns : goal.returns
returns c =
    let j = c.loop-at.journal in
    let e : c.loop-at.at ≡ length c.args.events.now = omega arith in
    sym (c.loop-at.invariant ∙ (judged_owing j.sizes j.state c.loop-at.at
    c.args.events.now (omega arith) (sym c.owes_nothing.ensures ∙ c.if-owes_nothing.false)
    ∙ ap (λ n. Broken n) e))
