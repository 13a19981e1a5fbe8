-- Worked batches: requests, the lines and events that were worked out, the states to which the
-- events lead, and the texts.
use Rattle.std.specs.Prelude.{ℕ, List, [], ◌∷◌, Option, None, Some, codes}
use Rattle.std.specs.List.{flat_map}
use Rattle.batch_model.specs.Text.{ended}
use Rattle.journal_model.specs.State.{State}
use Rattle.journal_model.specs.declared.answer.Answer.{Answer as AnswerLine}
use Rattle.journal_model.specs.declared.answer.End.{End as Ending}
use Rattle.journal_model.specs.declared.answer.End.TheVariants as ends
use Rattle.journal_model.specs.declared.answer.How.{How}
use Rattle.journal_model.specs.declared.answer.How.TheVariants as how
use Rattle.journal_model.specs.declared.answer.Why.TheVariants as whys
use Rattle.journal_model.specs.declared.event.Event.{Event}
use Rattle.journal_model.specs.declared.event.Event.TheVariants.{Start, Take, Deploy, Built, Keep}
use Rattle.journal_model.specs.declared.event.Event.TheVariants.{Drop, Park, End, Want, Answer}
use Rattle.journal_model.specs.declared.state.ContextState.{ContextState}
use Rattle.journal_model.specs.declared.state.Duty.{Duty}
use Rattle.journal_model.specs.declared.state.Duty.TheVariants.{Idle, Over}
use Rattle.journal_model.specs.declared.state.Owed.TheVariants as owed
use Rattle.journal_model.specs.declared.state.RequestState.{RequestState}
use Rattle.journal_model.specs.declared.state.Standing.TheVariants.{Answered, Wanted}
use Rattle.request_lines.specs.declared.request.Request.{Request}
use Rattle.batch_model_tests.specs.Plans.{request}

-- ---- parts

abbrev pub lines : List (List ℕ) → List ℕ
lines texts = flat_map ended texts

-- a reply that wrote these packets and nothing to the console
abbrev pub reply : (i : ℕ) → How → (context used : ℕ) → Ending → (steps : ℕ) → List (List ℕ)
    → AnswerLine
reply i how context used end steps net = record {
  i = i;
  how = how;
  context = context;
  used = used;
  end = end;
  steps = steps;
  net = net;
  console = [];
}

-- one packet of one byte
abbrev pub byte : ℕ → List (List ℕ)
byte b = (b ∷ []) ∷ []

-- a request that was answered by a context at the place
abbrev pub answered : (function : ℕ) → How → (context used : ℕ) → (place : Option ℕ) → RequestState
answered function how context used place = record {
  function = function;
  clock = 0;
  standing = Answered;
  how = how;
  context = Some context;
  used = used;
  place = place;
}

-- a request that found no memory, with a context or without one
abbrev pub wanting : How → (context : Option ℕ) → RequestState
wanting how context = record {
  function = 0;
  clock = 0;
  standing = Wanted;
  how = how;
  context = context;
  used = 0;
  place = None;
}

-- 64 frames are free, and nothing is owed
abbrev pub state : (idle kept : List ℕ) → List RequestState → List ContextState → State
state idle kept requests contexts = record {
  idle = idle;
  kept = kept;
  requests = requests;
  contexts = contexts;
  free = 64;
  owed = owed.Nothing;
}

abbrev pub context : (function : ℕ) → (layer : Option ℕ) → (used : ℕ) → Duty → ContextState
context function layer used duty =
    record { function = function; layer = layer; used = used; duty = duty }

-- ---- three requests, with room for an idle context

abbrev pub thrice : List Request
thrice = request 0 1 ∷ request 0 1 ∷ request 0 1 ∷ []

abbrev pub hot_first : AnswerLine
hot_first = reply 1 how.Cold 1 0 ends.Ok 17 (byte 1)

abbrev pub hot_second : AnswerLine
hot_second = reply 2 how.Hot 1 1 ends.Ok 15 (byte 2)

abbrev pub hot_third : AnswerLine
hot_third = reply 3 how.Hot 1 2 ends.Ok 15 (byte 3)

abbrev pub hot_answers : List AnswerLine
hot_answers = hot_first ∷ hot_second ∷ hot_third ∷ []

abbrev pub hot_events : List Event
hot_events = Start 1 0 0 ∷ Deploy 1 None 1 0 ∷ Built 1 0 1 ∷ Keep 0 ∷ Answer 1 1 0 ∷ Park 1
    ∷ Start 2 0 0 ∷ Take 1 2 ∷ Answer 2 1 1 ∷ Park 1
    ∷ Start 3 0 0 ∷ Take 1 3 ∷ Answer 3 1 2 ∷ Park 1 ∷ []

abbrev pub hot_state : State
hot_state = state (1 ∷ []) (0 ∷ [])
    (answered 0 how.Cold 1 0 (Some 0) ∷ answered 0 how.Hot 1 1 (Some 0)
    ∷ answered 0 how.Hot 1 2 (Some 0) ∷ [])
    (context 0 (Some 0) 3 Idle ∷ [])

abbrev pub hot_text : List ℕ
hot_text = lines (
    codes "1 cold c1 u0 ok 17 01 -" ∷ codes "2 hot c1 u1 ok 15 02 -"
    ∷ codes "3 hot c1 u2 ok 15 03 -"
    ∷ codes "start 1 0 0" ∷ codes "deploy 1 image 1 0" ∷ codes "built 1 0 1" ∷ codes "keep 0"
    ∷ codes "answer 1 1 0" ∷ codes "park 1"
    ∷ codes "start 2 0 0" ∷ codes "take 1 2" ∷ codes "answer 2 1 1" ∷ codes "park 1"
    ∷ codes "start 3 0 0" ∷ codes "take 1 3" ∷ codes "answer 3 1 2" ∷ codes "park 1"
    ∷ codes "total 3 cold 1 warm 0 hot 2 none 0 free 64" ∷ []
    )

-- ---- the same, with no room for idle contexts

abbrev pub warm_second : AnswerLine
warm_second = reply 2 how.Warm 2 0 ends.Ok 17 (byte 1)

abbrev pub warm_third : AnswerLine
warm_third = reply 3 how.Warm 3 0 ends.Ok 17 (byte 1)

abbrev pub warm_answers : List AnswerLine
warm_answers = hot_first ∷ warm_second ∷ warm_third ∷ []

abbrev pub warm_events : List Event
warm_events = Start 1 0 0 ∷ Deploy 1 None 1 0 ∷ Built 1 0 1 ∷ Keep 0 ∷ Answer 1 1 0 ∷ End 1
    ∷ Start 2 0 0 ∷ Deploy 2 (Some 0) 2 0 ∷ Answer 2 2 0 ∷ End 2
    ∷ Start 3 0 0 ∷ Deploy 3 (Some 0) 3 0 ∷ Answer 3 3 0 ∷ End 3 ∷ []

abbrev pub warm_state : State
warm_state = state [] (0 ∷ [])
    (answered 0 how.Cold 1 0 (Some 0) ∷ answered 0 how.Warm 2 0 (Some 0)
    ∷ answered 0 how.Warm 3 0 (Some 0) ∷ [])
    (context 0 (Some 0) 1 Over ∷ context 0 (Some 0) 1 Over ∷ context 0 (Some 0) 1 Over ∷ [])

abbrev pub warm_text : List ℕ
warm_text = lines (
    codes "1 cold c1 u0 ok 17 01 -" ∷ codes "2 warm c2 u0 ok 17 01 -"
    ∷ codes "3 warm c3 u0 ok 17 01 -"
    ∷ codes "start 1 0 0" ∷ codes "deploy 1 image 1 0" ∷ codes "built 1 0 1" ∷ codes "keep 0"
    ∷ codes "answer 1 1 0" ∷ codes "end 1"
    ∷ codes "start 2 0 0" ∷ codes "deploy 2 0 2 0" ∷ codes "answer 2 2 0" ∷ codes "end 2"
    ∷ codes "start 3 0 0" ∷ codes "deploy 3 0 3 0" ∷ codes "answer 3 3 0" ∷ codes "end 3"
    ∷ codes "total 3 cold 1 warm 2 hot 0 none 0 free 64" ∷ []
    )

-- ---- the same, where a context may answer two requests

abbrev pub worn_third : AnswerLine
worn_third = reply 3 how.Warm 2 0 ends.Ok 17 (byte 1)

abbrev pub worn_answers : List AnswerLine
worn_answers = hot_first ∷ hot_second ∷ worn_third ∷ []

abbrev pub worn_events : List Event
worn_events = Start 1 0 0 ∷ Deploy 1 None 1 0 ∷ Built 1 0 1 ∷ Keep 0 ∷ Answer 1 1 0 ∷ Park 1
    ∷ Start 2 0 0 ∷ Take 1 2 ∷ Answer 2 1 1 ∷ End 1
    ∷ Start 3 0 0 ∷ Deploy 2 (Some 0) 3 0 ∷ Answer 3 2 0 ∷ Park 2 ∷ []

abbrev pub worn_state : State
worn_state = state (2 ∷ []) (0 ∷ [])
    (answered 0 how.Cold 1 0 (Some 0) ∷ answered 0 how.Hot 1 1 (Some 0)
    ∷ answered 0 how.Warm 2 0 (Some 0) ∷ [])
    (context 0 (Some 0) 2 Over ∷ context 0 (Some 0) 1 Idle ∷ [])

abbrev pub worn_text : List ℕ
worn_text = lines (
    codes "1 cold c1 u0 ok 17 01 -" ∷ codes "2 hot c1 u1 ok 15 02 -"
    ∷ codes "3 warm c2 u0 ok 17 01 -"
    ∷ codes "start 1 0 0" ∷ codes "deploy 1 image 1 0" ∷ codes "built 1 0 1" ∷ codes "keep 0"
    ∷ codes "answer 1 1 0" ∷ codes "park 1"
    ∷ codes "start 2 0 0" ∷ codes "take 1 2" ∷ codes "answer 2 1 1" ∷ codes "end 1"
    ∷ codes "start 3 0 0" ∷ codes "deploy 2 0 3 0" ∷ codes "answer 3 2 0" ∷ codes "park 2"
    ∷ codes "total 3 cold 1 warm 1 hot 1 none 0 free 64" ∷ []
    )

-- ---- one request through three layers

abbrev pub one_three : List Request
one_three = request 0 3 ∷ []

abbrev pub three_first : AnswerLine
three_first = reply 1 how.Cold 1 0 ends.Ok 17 (byte 6)

abbrev pub three_answers : List AnswerLine
three_answers = three_first ∷ []

abbrev pub three_events : List Event
three_events = Start 1 0 0 ∷ Deploy 1 None 1 0 ∷ Built 1 0 1 ∷ Keep 0 ∷ Built 1 1 1 ∷ Keep 1
    ∷ Built 1 2 1 ∷ Keep 2 ∷ Answer 1 1 0 ∷ Park 1 ∷ []

abbrev pub three_state : State
three_state = state (1 ∷ []) (2 ∷ 1 ∷ 0 ∷ []) (answered 0 how.Cold 1 0 (Some 2) ∷ [])
    (context 0 (Some 2) 1 Idle ∷ [])

abbrev pub three_text : List ℕ
three_text = lines (
    codes "1 cold c1 u0 ok 17 06 -"
    ∷ codes "start 1 0 0" ∷ codes "deploy 1 image 1 0" ∷ codes "built 1 0 1" ∷ codes "keep 0"
    ∷ codes "built 1 1 1" ∷ codes "keep 1" ∷ codes "built 1 2 1" ∷ codes "keep 2"
    ∷ codes "answer 1 1 0" ∷ codes "park 1"
    ∷ codes "total 1 cold 1 warm 0 hot 0 none 0 free 64" ∷ []
    )

-- ---- two requests with the empty packet, for a function whose layer isn't there

abbrev pub empty_request : Request
empty_request = record { function = 0; packet = [] }

abbrev pub empty_twice : List Request
empty_twice = empty_request ∷ empty_request ∷ []

abbrev pub spinning_first : AnswerLine
spinning_first = reply 1 how.Cold 1 0 (ends.NoLayer 0 whys.Budget) 0 []

abbrev pub spinning_second : AnswerLine
spinning_second = reply 2 how.Cold 2 0 (ends.NoLayer 0 whys.Budget) 0 []

abbrev pub spinning_answers : List AnswerLine
spinning_answers = spinning_first ∷ spinning_second ∷ []

abbrev pub spinning_events : List Event
spinning_events = Start 1 0 0 ∷ Deploy 1 None 1 0 ∷ Answer 1 1 0 ∷ End 1
    ∷ Start 2 0 0 ∷ Deploy 2 None 2 0 ∷ Answer 2 2 0 ∷ End 2 ∷ []

abbrev pub spinning_state : State
spinning_state = state [] [] (answered 0 how.Cold 1 0 None ∷ answered 0 how.Cold 2 0 None ∷ [])
    (context 0 None 1 Over ∷ context 0 None 1 Over ∷ [])

abbrev pub spinning_text : List ℕ
spinning_text = lines (
    codes "1 cold c1 u0 nolayer:0:budget 0 none -"
    ∷ codes "2 cold c2 u0 nolayer:0:budget 0 none -"
    ∷ codes "start 1 0 0" ∷ codes "deploy 1 image 1 0" ∷ codes "answer 1 1 0" ∷ codes "end 1"
    ∷ codes "start 2 0 0" ∷ codes "deploy 2 image 2 0" ∷ codes "answer 2 2 0" ∷ codes "end 2"
    ∷ codes "total 2 cold 2 warm 0 hot 0 none 0 free 64" ∷ []
    )

-- ---- two functions, with room for one layer

abbrev pub mixed : List Request
mixed = request 0 1 ∷ request 1 5 ∷ request 0 2 ∷ []

abbrev pub two_second : AnswerLine
two_second = reply 2 how.Cold 2 0 ends.Ok 17 (byte 5)

abbrev pub two_third : AnswerLine
two_third = reply 3 how.Hot 1 1 ends.Ok 15 (byte 3)

abbrev pub two_answers : List AnswerLine
two_answers = hot_first ∷ two_second ∷ two_third ∷ []

abbrev pub two_events : List Event
two_events = Start 1 0 0 ∷ Deploy 1 None 1 0 ∷ Built 1 0 1 ∷ Keep 0 ∷ Answer 1 1 0 ∷ Park 1
    ∷ Start 2 1 0 ∷ Deploy 2 None 2 0 ∷ Built 2 1 1 ∷ Drop 0 ∷ Keep 1 ∷ Answer 2 2 0 ∷ Park 2
    ∷ Start 3 0 0 ∷ Take 1 3 ∷ Answer 3 1 1 ∷ Park 1 ∷ []

abbrev pub two_state : State
two_state = state (1 ∷ 2 ∷ []) (1 ∷ [])
    (answered 0 how.Cold 1 0 (Some 0) ∷ answered 1 how.Cold 2 0 (Some 1)
    ∷ answered 0 how.Hot 1 1 (Some 0) ∷ [])
    (context 0 (Some 0) 2 Idle ∷ context 1 (Some 1) 1 Idle ∷ [])

abbrev pub two_text : List ℕ
two_text = lines (
    codes "1 cold c1 u0 ok 17 01 -" ∷ codes "2 cold c2 u0 ok 17 05 -"
    ∷ codes "3 hot c1 u1 ok 15 03 -"
    ∷ codes "start 1 0 0" ∷ codes "deploy 1 image 1 0" ∷ codes "built 1 0 1" ∷ codes "keep 0"
    ∷ codes "answer 1 1 0" ∷ codes "park 1"
    ∷ codes "start 2 1 0" ∷ codes "deploy 2 image 2 0" ∷ codes "built 2 1 1" ∷ codes "drop 0"
    ∷ codes "keep 1" ∷ codes "answer 2 2 0" ∷ codes "park 2"
    ∷ codes "start 3 0 0" ∷ codes "take 1 3" ∷ codes "answer 3 1 1" ∷ codes "park 1"
    ∷ codes "total 3 cold 2 warm 0 hot 1 none 0 free 64" ∷ []
    )

-- ---- a request that faults

abbrev pub once : List Request
once = request 0 1 ∷ []

abbrev pub breaking_first : AnswerLine
breaking_first = reply 1 how.Cold 1 0 (ends.Fault 3 65540 65540) 0 []

abbrev pub breaking_answers : List AnswerLine
breaking_answers = breaking_first ∷ []

abbrev pub breaking_events : List Event
breaking_events = Start 1 0 0 ∷ Deploy 1 None 1 0 ∷ Built 1 0 0 ∷ Keep 0 ∷ Answer 1 1 0 ∷ End 1
    ∷ []

abbrev pub breaking_state : State
breaking_state = state [] (0 ∷ []) (answered 0 how.Cold 1 0 (Some 0) ∷ [])
    (context 0 (Some 0) 1 Over ∷ [])

abbrev pub breaking_text : List ℕ
breaking_text = lines (
    codes "1 cold c1 u0 fault:3:10004:10004 0 none -"
    ∷ codes "start 1 0 0" ∷ codes "deploy 1 image 1 0" ∷ codes "built 1 0 0" ∷ codes "keep 0"
    ∷ codes "answer 1 1 0" ∷ codes "end 1"
    ∷ codes "total 1 cold 1 warm 0 hot 0 none 0 free 64" ∷ []
    )

-- ---- requests that find no memory, without a context and with one

abbrev pub twice : List Request
twice = request 0 1 ∷ request 0 1 ∷ []

abbrev pub wanted_first : AnswerLine
wanted_first = reply 1 how.None 0 0 ends.Memory 0 []

abbrev pub wanted_second : AnswerLine
wanted_second = reply 2 how.Cold 1 0 ends.Memory 0 []

abbrev pub wanted_answers : List AnswerLine
wanted_answers = wanted_first ∷ wanted_second ∷ []

abbrev pub wanted_events : List Event
wanted_events = Start 1 0 0 ∷ Want 1 ∷ Start 2 0 0 ∷ Deploy 1 None 2 0 ∷ Want 2 ∷ End 1 ∷ []

abbrev pub wanted_state : State
wanted_state = state [] [] (wanting how.None None ∷ wanting how.Cold (Some 1) ∷ [])
    (context 0 None 0 Over ∷ [])

abbrev pub wanted_text : List ℕ
wanted_text = lines (
    codes "1 none c0 u0 memory 0 none -" ∷ codes "2 cold c1 u0 memory 0 none -"
    ∷ codes "start 1 0 0" ∷ codes "want 1"
    ∷ codes "start 2 0 0" ∷ codes "deploy 1 image 2 0" ∷ codes "want 2" ∷ codes "end 1"
    ∷ codes "total 2 cold 1 warm 0 hot 0 none 1 free 64" ∷ []
    )
