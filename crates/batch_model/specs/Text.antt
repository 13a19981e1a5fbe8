-- The text of a batch. Line feed is byte 10.
use Rattle.std.specs.Prelude.{ℕ, List, [], ◌∷◌, ◌++◌}
use Rattle.std.specs.List.{flat_map}
use Rattle.journal_model.specs.State.{State}
use Rattle.journal_model.specs.Legal.{totals}
use Rattle.journal_model.specs.Line.{event_line}
use Rattle.journal_model.specs.declared.answer.Answer.{Answer}
use Rattle.journal_model.specs.declared.event.Event.{Event}
use Rattle.journal_model.specs.declared.state.Totals.{Totals}
use Rattle.reply_lines.specs.Line.{reply_line, totals_line}

-- a line with its end
abbrev pub ended : List ℕ → List ℕ
ended line = line ++ 10 ∷ []

abbrev pub answers_text : List Answer → List ℕ
answers_text answers = flat_map (λ (answer : Answer). ended (reply_line answer)) answers

abbrev pub events_text : List Event → List ℕ
events_text events = flat_map (λ (event : Event). ended (event_line event)) events

abbrev pub totals_text : Totals → List ℕ
totals_text totals = ended (totals_line totals)

-- the lines of the requests, those of the journal, and the totals of the state to which it leads
abbrev pub batch_text : List Answer → List Event → State → List ℕ
batch_text answers events s =
    answers_text answers ++ (events_text events ++ totals_text (totals s))
