-- The text of what a batch came to, and room for each of its lines.
use Rattle.std.specs.Prelude.{ℕ, List, ◌++◌}
use Rattle.batch_model.specs.Text.{answers_text, events_text, totals_text}
use Rattle.batch_output.specs.Lines.{AllFit, Fits}
use Rattle.batch_output.specs.declared.outcome.Outcome.{Outcome}
use Rattle.journal_model.specs.Line.{event_line}
use Rattle.reply_lines.specs.Line.{reply_line, totals_line}

-- the lines of the answers, those of the journal, and the totals, as `batch_text`, whose totals are
-- those of a state
abbrev pub outcome_text : Outcome → List ℕ
outcome_text outcome =
    answers_text outcome.answers.items
    ++ (events_text outcome.events.items ++ totals_text outcome.totals)

-- so many bytes hold any of the lines and its end
pub record IsRoomFor (room : ℕ) (outcome : Outcome) : Type 0 where
  pub answers : AllFit reply_line room outcome.answers.items
  pub events : AllFit event_line room outcome.events.items
  pub totals : Fits room (totals_line outcome.totals)
