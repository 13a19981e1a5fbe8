-- How many instructions a batch has ticked.
use Rattle.std.specs.Prelude.{◌≡◌, ℕ, ◌+◌, zero, suc, Option, None, Some}
use Rattle.journal_model.specs.declared.answer.Answer.{Answer}
use Rattle.request_service.specs.Turns.{EndsByRun}

-- each line is that of a request that ended by a run of its own
abbrev pub EachByRun : (answers : ℕ → Option Answer) → Type 0
EachByRun answers = (i : ℕ) (answer : Answer) → answers i ≡ Some answer → EndsByRun answer.end

abbrev pub steps_in : Option Answer → ℕ
steps_in None = 0
steps_in (Some answer) = answer.steps

-- the instructions that the lines of requests 1 to n count together
unfoldable pub steps_of : (answers : ℕ → Option Answer) → (n : ℕ) → ℕ
steps_of answers zero = 0
steps_of answers (suc n) = steps_of answers n + steps_in (answers (suc n))

-- Where each line is that of a request that ended by a run, so many were ticked since a moment:
-- what the layers took that were built, what the lines of requests 1 to n count, and what the runs
-- have counted that are under way. A line of another end says nothing of what was ticked for it.
abbrev pub HasTicked : (answers : ℕ → Option Answer) → (n took counted from ticks : ℕ) → Type 0
HasTicked answers n took counted from ticks =
    EachByRun answers → ticks ≡ from + (took + (steps_of answers n + counted))
