-- Worked batches fit.
use Rattle.std.proofs.Common.{◌≡◌, ℕ, [], ◌∷◌, List, Option, Some, None, refl}
use Rattle.batch_model.specs.Events.{BuildsRightly}
use Rattle.batch_model.specs.Fits.{IsRight, Fits}
use Rattle.batch_model.specs.Replies.{end_of_ending, IsLineOf, AreLinesOf, AreGiven, shown_in}
use Rattle.batch_model.specs.Setting.{given_of}
use Rattle.batch_model_tests.proofs.Journals as journals
use Rattle.batch_model_tests.proofs.Machines as machines
use Rattle.batch_model_tests.proofs.Machines.{shows_by, rested}
use Rattle.batch_model_tests.specs.Plans as plans
use Rattle.batch_model_tests.specs.Plans.{copied}
use Rattle.batch_model_tests.specs.Rows as rows
use Rattle.journal_model.specs.Reads.{service_of, earlier, answers_below, answer_from}
use Rattle.journal_model.specs.State.{State, numbered}
use Rattle.journal_model.specs.declared.answer.Answer.{Answer}
use Rattle.journal_model.specs.declared.answer.How.{How}
use Rattle.journal_model.specs.declared.answer.How.TheVariants as how
use Rattle.layer_model.specs.Replies.{Reply, IsReply, Ran, NoLayer}
use Rattle.layer_model_tests.specs.Plans.{given}
use Rattle.machine_model.specs.declared.stop.Stop.TheVariants.{Budget, Exception}
use Rattle.plan_model.specs.Outline.{Outline}
use Rattle.space_api.specs.declared.given.Given.{Given}

-- the line of an answered request, by what is computed of the state and of the machine
answered_line : (plan : Outline) (given : ℕ → Option Given) (s : State) (i : ℕ) (answer : Answer)
    (f : ℕ) (h : How) (c u : ℕ) (place : Option ℕ) (before : List Given) (own : Given)
    (reply : Reply) → IsReply plan f place before own reply
    → end_of_ending reply.ending ≡ Some answer.end → answer.steps ≡ reply.number
    → answer.net ≡ reply.packets → answer.console ≡ reply.console
    → numbered s.requests i ≡ Some (rows.answered f h c u place) → answer.i ≡ i
    → answer.how ≡ (service_of s i).how → answer.context ≡ (service_of s i).context
    → answer.used ≡ (service_of s i).used → AreGiven given (earlier s i) before
    → given i ≡ Some own → IsLineOf plan given s i answer
answered_line plan given s i answer f h c u place before own reply replied end steps net console
    request number how_is context used before_are own_is = record {
      number_is = number;
      request = rows.answered f h c u place;
      request_is = request;
      how_is = how_is;
      context_is = context;
      used_is = used;
      shows = record {
        before = before;
        before_are = before_are;
        own = own;
        own_is = own_is;
        shows = shows_by plan f place before own reply (shown_in answer) replied end steps net
            console;
      };
    }

-- ---- three requests, with room for an idle context

hot_line1 : IsLineOf (plans.counting 1 64) (given_of rows.thrice rows.hot_state) rows.hot_state 1
    rows.hot_first
unfolding numbered service_of earlier answers_below answer_from
hot_line1 = answered_line (plans.counting 1 64) (given_of rows.thrice rows.hot_state)
    rows.hot_state 1 rows.hot_first 0 how.Cold 1 0 (Some 0) [] (given 1 0)
    (rested 17 1)
    (machines.counting_first 1 64) refl refl refl refl refl refl refl refl refl refl refl

pub hot_line2 : IsLineOf (plans.counting 1 64) (given_of rows.thrice rows.hot_state)
    rows.hot_state 2 rows.hot_second
unfolding numbered service_of earlier answers_below answer_from
hot_line2 = answered_line (plans.counting 1 64) (given_of rows.thrice rows.hot_state)
    rows.hot_state 2 rows.hot_second 0 how.Hot 1 1 (Some 0) (given 1 0 ∷ []) (given 1 0)
    (rested 15 2)
    (machines.counting_second 1 64) refl refl refl refl refl refl refl refl refl refl refl

hot_line3 : IsLineOf (plans.counting 1 64) (given_of rows.thrice rows.hot_state) rows.hot_state 3
    rows.hot_third
unfolding numbered service_of earlier answers_below answer_from
hot_line3 = answered_line (plans.counting 1 64) (given_of rows.thrice rows.hot_state)
    rows.hot_state 3 rows.hot_third 0 how.Hot 1 2 (Some 0) (given 1 0 ∷ given 1 0 ∷ []) (given 1 0)
    (rested 15 3)
    (machines.counting_third 1 64) refl refl refl refl refl refl refl refl refl refl refl

hot_lines : AreLinesOf (plans.counting 1 64) (given_of rows.thrice rows.hot_state) rows.hot_state
    rows.hot_answers
hot_lines = record { count = refl; lines = (hot_line1, (hot_line2, (hot_line3, tt))) }

hot_builds : BuildsRightly (plans.counting 1 64) rows.hot_events
hot_builds = (machines.counting_built 1 64, tt)

hot_right : IsRight (copied (plans.counting 1 64)) rows.thrice rows.hot_answers rows.hot_events
    rows.hot_state
hot_right = record {
  journal = journals.hot_journal;
  lines = hot_lines;
  parks = journals.hot_parks;
  builds = hot_builds;
  frames = refl;
}

pub hot_fits : Fits (copied (plans.counting 1 64)) rows.thrice rows.hot_text
hot_fits = record {
  answers = rows.hot_answers;
  events = rows.hot_events;
  state = rows.hot_state;
  right = hot_right;
  spelled = journals.hot_spelled;
}

-- ---- with no room for one

warm_line1 : IsLineOf (plans.counting 0 64) (given_of rows.thrice rows.warm_state) rows.warm_state
    1 rows.hot_first
unfolding numbered service_of earlier answers_below answer_from
warm_line1 = answered_line (plans.counting 0 64) (given_of rows.thrice rows.warm_state)
    rows.warm_state 1 rows.hot_first 0 how.Cold 1 0 (Some 0) [] (given 1 0)
    (rested 17 1)
    (machines.counting_first 0 64) refl refl refl refl refl refl refl refl refl refl refl

warm_line2 : IsLineOf (plans.counting 0 64) (given_of rows.thrice rows.warm_state) rows.warm_state
    2 rows.warm_second
unfolding numbered service_of earlier answers_below answer_from
warm_line2 = answered_line (plans.counting 0 64) (given_of rows.thrice rows.warm_state)
    rows.warm_state 2 rows.warm_second 0 how.Warm 2 0 (Some 0) [] (given 1 0)
    (rested 17 1)
    (machines.counting_first 0 64) refl refl refl refl refl refl refl refl refl refl refl

warm_line3 : IsLineOf (plans.counting 0 64) (given_of rows.thrice rows.warm_state) rows.warm_state
    3 rows.warm_third
unfolding numbered service_of earlier answers_below answer_from
warm_line3 = answered_line (plans.counting 0 64) (given_of rows.thrice rows.warm_state)
    rows.warm_state 3 rows.warm_third 0 how.Warm 3 0 (Some 0) [] (given 1 0)
    (rested 17 1)
    (machines.counting_first 0 64) refl refl refl refl refl refl refl refl refl refl refl

warm_lines : AreLinesOf (plans.counting 0 64) (given_of rows.thrice rows.warm_state) rows.warm_state
    rows.warm_answers
warm_lines = record { count = refl; lines = (warm_line1, (warm_line2, (warm_line3, tt))) }

warm_builds : BuildsRightly (plans.counting 0 64) rows.warm_events
warm_builds = (machines.counting_built 0 64, tt)

warm_right : IsRight (copied (plans.counting 0 64)) rows.thrice rows.warm_answers rows.warm_events
    rows.warm_state
warm_right = record {
  journal = journals.warm_journal;
  lines = warm_lines;
  parks = journals.warm_parks;
  builds = warm_builds;
  frames = refl;
}

pub warm_fits : Fits (copied (plans.counting 0 64)) rows.thrice rows.warm_text
warm_fits = record {
  answers = rows.warm_answers;
  events = rows.warm_events;
  state = rows.warm_state;
  right = warm_right;
  spelled = journals.warm_spelled;
}

-- ---- where a context may answer two requests

worn_line1 : IsLineOf (plans.counting 1 2) (given_of rows.thrice rows.worn_state) rows.worn_state
    1 rows.hot_first
unfolding numbered service_of earlier answers_below answer_from
worn_line1 = answered_line (plans.counting 1 2) (given_of rows.thrice rows.worn_state)
    rows.worn_state 1 rows.hot_first 0 how.Cold 1 0 (Some 0) [] (given 1 0)
    (rested 17 1)
    (machines.counting_first 1 2) refl refl refl refl refl refl refl refl refl refl refl

worn_line2 : IsLineOf (plans.counting 1 2) (given_of rows.thrice rows.worn_state) rows.worn_state
    2 rows.hot_second
unfolding numbered service_of earlier answers_below answer_from
worn_line2 = answered_line (plans.counting 1 2) (given_of rows.thrice rows.worn_state)
    rows.worn_state 2 rows.hot_second 0 how.Hot 1 1 (Some 0) (given 1 0 ∷ []) (given 1 0)
    (rested 15 2)
    (machines.counting_second 1 2) refl refl refl refl refl refl refl refl refl refl refl

worn_line3 : IsLineOf (plans.counting 1 2) (given_of rows.thrice rows.worn_state) rows.worn_state
    3 rows.worn_third
unfolding numbered service_of earlier answers_below answer_from
worn_line3 = answered_line (plans.counting 1 2) (given_of rows.thrice rows.worn_state)
    rows.worn_state 3 rows.worn_third 0 how.Warm 2 0 (Some 0) [] (given 1 0)
    (rested 17 1)
    (machines.counting_first 1 2) refl refl refl refl refl refl refl refl refl refl refl

worn_lines : AreLinesOf (plans.counting 1 2) (given_of rows.thrice rows.worn_state) rows.worn_state
    rows.worn_answers
worn_lines = record { count = refl; lines = (worn_line1, (worn_line2, (worn_line3, tt))) }

worn_builds : BuildsRightly (plans.counting 1 2) rows.worn_events
worn_builds = (machines.counting_built 1 2, tt)

worn_right : IsRight (copied (plans.counting 1 2)) rows.thrice rows.worn_answers rows.worn_events
    rows.worn_state
worn_right = record {
  journal = journals.worn_journal;
  lines = worn_lines;
  parks = journals.worn_parks;
  builds = worn_builds;
  frames = refl;
}

pub worn_fits : Fits (copied (plans.counting 1 2)) rows.thrice rows.worn_text
worn_fits = record {
  answers = rows.worn_answers;
  events = rows.worn_events;
  state = rows.worn_state;
  right = worn_right;
  spelled = journals.worn_spelled;
}

-- ---- through three layers

three_line1 : IsLineOf plans.three (given_of rows.one_three rows.three_state) rows.three_state 1
    rows.three_first
unfolding numbered service_of earlier answers_below answer_from
three_line1 = answered_line plans.three (given_of rows.one_three rows.three_state)
    rows.three_state 1 rows.three_first 0 how.Cold 1 0 (Some 2) [] (given 3 0)
    (rested 17 6) machines.three_first refl refl refl refl refl refl refl refl refl refl refl

three_lines : AreLinesOf plans.three (given_of rows.one_three rows.three_state) rows.three_state
    rows.three_answers
three_lines = record { count = refl; lines = (three_line1, tt) }

three_builds : BuildsRightly plans.three rows.three_events
three_builds = (machines.three0_built, (machines.three1_built, (machines.three2_built, tt)))

three_right : IsRight (copied plans.three) rows.one_three rows.three_answers rows.three_events
    rows.three_state
three_right = record {
  journal = journals.three_journal;
  lines = three_lines;
  parks = journals.three_parks;
  builds = three_builds;
  frames = refl;
}

pub three_fits : Fits (copied plans.three) rows.one_three rows.three_text
three_fits = record {
  answers = rows.three_answers;
  events = rows.three_events;
  state = rows.three_state;
  right = three_right;
  spelled = journals.three_spelled;
}

-- ---- a layer that isn't there

spinning_line1 : IsLineOf plans.spinning (given_of rows.empty_twice rows.spinning_state)
    rows.spinning_state 1 rows.spinning_first
unfolding numbered service_of earlier answers_below answer_from
spinning_line1 = answered_line plans.spinning (given_of rows.empty_twice rows.spinning_state)
    rows.spinning_state 1 rows.spinning_first 0 how.Cold 1 0 None [] machines.empty
    (record { ending = NoLayer 0 Budget; number = 0; packets = []; console = [] })
    machines.spinning_miss refl refl refl refl refl refl refl refl refl refl refl

spinning_line2 : IsLineOf plans.spinning (given_of rows.empty_twice rows.spinning_state)
    rows.spinning_state 2 rows.spinning_second
unfolding numbered service_of earlier answers_below answer_from
spinning_line2 = answered_line plans.spinning (given_of rows.empty_twice rows.spinning_state)
    rows.spinning_state 2 rows.spinning_second 0 how.Cold 2 0 None [] machines.empty
    (record { ending = NoLayer 0 Budget; number = 0; packets = []; console = [] })
    machines.spinning_miss refl refl refl refl refl refl refl refl refl refl refl

spinning_lines : AreLinesOf plans.spinning (given_of rows.empty_twice rows.spinning_state)
    rows.spinning_state
    rows.spinning_answers
spinning_lines = record { count = refl; lines = (spinning_line1, (spinning_line2, tt)) }

spinning_builds : BuildsRightly plans.spinning rows.spinning_events
spinning_builds = tt

spinning_right : IsRight (copied plans.spinning) rows.empty_twice rows.spinning_answers
    rows.spinning_events
    rows.spinning_state
spinning_right = record {
  journal = journals.spinning_journal;
  lines = spinning_lines;
  parks = journals.spinning_parks;
  builds = spinning_builds;
  frames = refl;
}

pub spinning_fits : Fits (copied plans.spinning) rows.empty_twice rows.spinning_text
spinning_fits = record {
  answers = rows.spinning_answers;
  events = rows.spinning_events;
  state = rows.spinning_state;
  right = spinning_right;
  spelled = journals.spinning_spelled;
}

-- ---- two functions

two_line1 : IsLineOf plans.two (given_of rows.mixed rows.two_state) rows.two_state 1 rows.hot_first
unfolding numbered service_of earlier answers_below answer_from
two_line1 = answered_line plans.two (given_of rows.mixed rows.two_state) rows.two_state 1
    rows.hot_first 0 how.Cold 1 0 (Some 0) [] (given 1 0)
    (rested 17 1) machines.two_first refl refl refl refl refl refl refl refl refl refl refl

two_line2 : IsLineOf plans.two (given_of rows.mixed rows.two_state) rows.two_state 2 rows.two_second
unfolding numbered service_of earlier answers_below answer_from
two_line2 = answered_line plans.two (given_of rows.mixed rows.two_state) rows.two_state 2
    rows.two_second 1 how.Cold 2 0 (Some 1) [] (given 5 0)
    (rested 17 5) machines.two_other refl refl refl refl refl refl refl refl refl refl refl

two_line3 : IsLineOf plans.two (given_of rows.mixed rows.two_state) rows.two_state 3 rows.two_third
unfolding numbered service_of earlier answers_below answer_from
two_line3 = answered_line plans.two (given_of rows.mixed rows.two_state) rows.two_state 3
    rows.two_third 0 how.Hot 1 1 (Some 0) (given 1 0 ∷ []) (given 2 0)
    (rested 15 3) machines.two_again refl refl refl refl refl refl refl refl refl refl refl

two_lines : AreLinesOf plans.two (given_of rows.mixed rows.two_state) rows.two_state
    rows.two_answers
two_lines = record { count = refl; lines = (two_line1, (two_line2, (two_line3, tt))) }

two_builds : BuildsRightly plans.two rows.two_events
two_builds = (machines.first0_built, (machines.second0_built, tt))

two_right : IsRight (copied plans.two) rows.mixed rows.two_answers rows.two_events
    rows.two_state
two_right = record {
  journal = journals.two_journal;
  lines = two_lines;
  parks = journals.two_parks;
  builds = two_builds;
  frames = refl;
}

pub two_fits : Fits (copied plans.two) rows.mixed rows.two_text
two_fits = record {
  answers = rows.two_answers;
  events = rows.two_events;
  state = rows.two_state;
  right = two_right;
  spelled = journals.two_spelled;
}

-- ---- a fault

breaking_line1 : IsLineOf plans.breaking (given_of rows.once rows.breaking_state)
    rows.breaking_state 1 rows.breaking_first
unfolding numbered service_of earlier answers_below answer_from
breaking_line1 = answered_line plans.breaking (given_of rows.once rows.breaking_state)
    rows.breaking_state 1 rows.breaking_first 0 how.Cold 1 0 (Some 0) [] (given 1 0)
    (record { ending = Ran (Exception 3 65540 65540); number = 0; packets = []; console = [] })
    machines.breaking_first refl refl refl refl refl refl refl refl refl refl refl

breaking_lines : AreLinesOf plans.breaking (given_of rows.once rows.breaking_state)
    rows.breaking_state
    rows.breaking_answers
breaking_lines = record { count = refl; lines = (breaking_line1, tt) }

breaking_builds : BuildsRightly plans.breaking rows.breaking_events
breaking_builds = (machines.breaking0_built, tt)

breaking_right : IsRight (copied plans.breaking) rows.once rows.breaking_answers
    rows.breaking_events
    rows.breaking_state
breaking_right = record {
  journal = journals.breaking_journal;
  lines = breaking_lines;
  parks = journals.breaking_parks;
  builds = breaking_builds;
  frames = refl;
}

pub breaking_fits : Fits (copied plans.breaking) rows.once rows.breaking_text
breaking_fits = record {
  answers = rows.breaking_answers;
  events = rows.breaking_events;
  state = rows.breaking_state;
  right = breaking_right;
  spelled = journals.breaking_spelled;
}

-- ---- no memory

pub wanted_line1 : IsLineOf (plans.counting 1 64) (given_of rows.twice rows.wanted_state)
    rows.wanted_state 1 rows.wanted_first
unfolding numbered service_of earlier answers_below answer_from
wanted_line1 = record {
  number_is = refl;
  request = rows.wanting how.None None;
  request_is = refl;
  how_is = refl;
  context_is = refl;
  used_is = refl;
  shows = refl;
}

wanted_line2 : IsLineOf (plans.counting 1 64) (given_of rows.twice rows.wanted_state)
    rows.wanted_state 2 rows.wanted_second
unfolding numbered service_of earlier answers_below answer_from
wanted_line2 = record {
  number_is = refl;
  request = rows.wanting how.Cold (Some 1);
  request_is = refl;
  how_is = refl;
  context_is = refl;
  used_is = refl;
  shows = refl;
}

wanted_lines : AreLinesOf (plans.counting 1 64) (given_of rows.twice rows.wanted_state)
    rows.wanted_state
    rows.wanted_answers
wanted_lines = record { count = refl; lines = (wanted_line1, (wanted_line2, tt)) }

wanted_builds : BuildsRightly (plans.counting 1 64) rows.wanted_events
wanted_builds = tt

wanted_right : IsRight (copied (plans.counting 1 64)) rows.twice rows.wanted_answers
    rows.wanted_events
    rows.wanted_state
wanted_right = record {
  journal = journals.wanted_journal;
  lines = wanted_lines;
  parks = journals.wanted_parks;
  builds = wanted_builds;
  frames = refl;
}

pub wanted_fits : Fits (copied (plans.counting 1 64)) rows.twice rows.wanted_text
wanted_fits = record {
  answers = rows.wanted_answers;
  events = rows.wanted_events;
  state = rows.wanted_state;
  right = wanted_right;
  spelled = journals.wanted_spelled;
}
