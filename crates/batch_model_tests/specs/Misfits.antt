-- Lines and journals that aren't right, each for one cause.
use Rattle.std.specs.Prelude.{◌≡◌, ℕ, List, [], ◌∷◌, ◌++◌, Some, None, codes}
use Rattle.batch_model.specs.Fits.{IsRight}
use Rattle.batch_model.specs.Setting.{Setting}
use Rattle.batch_model.specs.Text.{batch_text, answers_text, events_text}
use Rattle.journal_model.specs.State.{State}
use Rattle.journal_model.specs.declared.answer.Answer.{Answer as AnswerLine}
use Rattle.journal_model.specs.declared.answer.End.TheVariants as ends
use Rattle.journal_model.specs.declared.answer.How.TheVariants as how
use Rattle.journal_model.specs.declared.event.Event.{Event}
use Rattle.journal_model.specs.declared.event.Event.TheVariants.{Start, Take, Deploy, Built, Keep}
use Rattle.journal_model.specs.declared.event.Event.TheVariants.{Park, Answer}
use Rattle.journal_model.specs.declared.state.Duty.TheVariants.{Idle, Over}
use Rattle.request_lines.specs.declared.request.Request.{Request}
use Rattle.batch_model_tests.specs.Rows.{reply, byte, lines, hot_first, hot_third, hot_answers}
use Rattle.batch_model_tests.specs.Rows.{hot_events, state, answered, context}

-- these lines with this journal aren't those of a right batch, whatever its state
abbrev pub AreWrong : Setting → List Request → List AnswerLine → List Event → Type 0
AreWrong setting requests answers events =
    (s : State) → IsRight setting requests answers events s → ⊥

-- of these lines with this journal the text isn't that
abbrev pub IsMisspelled : Setting → List Request → List AnswerLine → List Event → List ℕ → Type 0
IsMisspelled setting requests answers events text =
    (s : State) → IsRight setting requests answers events s → text ≡ batch_text answers events s → ⊥

-- ---- lines

-- three requests of which the second has this line, which should be `2 hot c1 u1 ok 15 02 -`
abbrev pub with_second : AnswerLine → List AnswerLine
with_second second = hot_first ∷ second ∷ hot_third ∷ []

-- `2 warm c1 u1 ok 15 02 -`
abbrev pub said_warm : AnswerLine
said_warm = reply 2 how.Warm 1 1 ends.Ok 15 (byte 2)

-- `2 hot c2 u1 ok 15 02 -`
abbrev pub of_another : AnswerLine
of_another = reply 2 how.Hot 2 1 ends.Ok 15 (byte 2)

-- `2 hot c1 u2 ok 15 02 -`
abbrev pub used_once_more : AnswerLine
used_once_more = reply 2 how.Hot 1 2 ends.Ok 15 (byte 2)

-- `2 hot c1 u1 ok 17 02 -`
abbrev pub stepped_more : AnswerLine
stepped_more = reply 2 how.Hot 1 1 ends.Ok 17 (byte 2)

-- `2 hot c1 u1 ok 15 01 -`
abbrev pub packets_before : AnswerLine
packets_before = reply 2 how.Hot 1 1 ends.Ok 15 (byte 1)

-- `2 hot c1 u1 memory 0 none -`
abbrev pub said_memory : AnswerLine
said_memory = reply 2 how.Hot 1 1 ends.Memory 0 []

-- `2 hot c1 u1 frames 0 none -`
abbrev pub said_frames : AnswerLine
said_frames = reply 2 how.Hot 1 1 ends.Frames 0 []

-- two requests of which the first has this line, which should be `1 none c0 u0 memory 0 none -`
abbrev pub with_first : AnswerLine → List AnswerLine
with_first first = first ∷ reply 2 how.Cold 1 0 ends.Memory 0 [] ∷ []

-- `1 none c0 u0 ok 17 01 -`
abbrev pub said_ok : AnswerLine
said_ok = reply 1 how.None 0 0 ends.Ok 17 (byte 1)

-- ---- journals

-- the layer was built with so many pages, where its run wrote one
abbrev pub built_with : (pages : ℕ) → List Event
built_with pages = Start 1 0 0 ∷ Deploy 1 None 1 0 ∷ Built 1 0 pages ∷ Keep 0 ∷ Answer 1 1 0
    ∷ Park 1
    ∷ Start 2 0 0 ∷ Take 1 2 ∷ Answer 2 1 1 ∷ Park 1
    ∷ Start 3 0 0 ∷ Take 1 3 ∷ Answer 3 1 2 ∷ Park 1 ∷ []

-- what stands at the end in place of the last `park 1`
abbrev pub ended_with : List Event → List Event
ended_with last = Start 1 0 0 ∷ Deploy 1 None 1 0 ∷ Built 1 0 1 ∷ Keep 0 ∷ Answer 1 1 0 ∷ Park 1
    ∷ Start 2 0 0 ∷ Take 1 2 ∷ Answer 2 1 1 ∷ Park 1
    ∷ Start 3 0 0 ∷ Take 1 3 ∷ Answer 3 1 2 ∷ last

-- a context is parked after a request that faulted
abbrev pub parked_events : List Event
parked_events = Start 1 0 0 ∷ Deploy 1 None 1 0 ∷ Built 1 0 0 ∷ Keep 0 ∷ Answer 1 1 0 ∷ Park 1
    ∷ []

-- where these lead: all of them are legal, but one that ends with the answer
abbrev pub ended_state : State
ended_state = state [] (0 ∷ [])
    (answered 0 how.Cold 1 0 (Some 0) ∷ answered 0 how.Hot 1 1 (Some 0)
    ∷ answered 0 how.Hot 1 2 (Some 0) ∷ [])
    (context 0 (Some 0) 3 Over ∷ [])

abbrev pub parked_state : State
parked_state = state (1 ∷ []) (0 ∷ []) (answered 0 how.Cold 1 0 (Some 0) ∷ [])
    (context 0 (Some 0) 1 Idle ∷ [])

-- ---- totals

-- three requests that were answered rightly, with these totals
abbrev pub hot_with : (totals : List ℕ) → List ℕ
hot_with totals =
    answers_text hot_answers ++ (events_text hot_events ++ lines (totals ∷ []))

-- one of the hot requests is counted as warm
abbrev pub counted_warm : List ℕ
counted_warm = hot_with (codes "total 3 cold 1 warm 1 hot 1 none 0 free 64")

-- a frame is missing
abbrev pub fewer_free : List ℕ
fewer_free = hot_with (codes "total 3 cold 1 warm 0 hot 2 none 0 free 63")
