use Rattle.std.proofs.Common.{◌∙◌}
use Rattle.book_core_tests.proofs.Serving.{answers_more, answers_end, answers_served}
use Rattle.book_core_tests.proofs.answers.answered_by.Goals as goal

pub events-preserved : goal.events-preserved
events-preserved c = answers_more c.args.c c.args.events.now c.events.event-index _
    c.events.numbers.items _ _ c.events-test.true c.in_ok-note_answer.ensures c.events.invariant

pub returns-clause-events : goal.returns-clause-events
returns-clause-events c = answers_end c.args.c c.args.events.now c.events.event-index
    c.events.numbers.items _ c.events-test.false c.events.invariant

pub returns-clause-served : goal.returns-clause-served
returns-clause-served c = λ sizes s h. answers_end c.args.c c.args.events.now
    c.events.event-index c.events.numbers.items _ c.events-test.false c.events.invariant
    ∙ answers_served c.args.c sizes c.args.events.now s h
