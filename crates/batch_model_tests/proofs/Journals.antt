-- The journals of worked batches, computed: that each is legal and whole, and started its requests;
-- which contexts are parked; and how it is spelled, with its lines.
use Rattle.std.proofs.Common.{◌≡◌, false, Some, List, [], ◌∷◌, refl}
use Rattle.std.proofs.lemmas.List.Elements.{All-from_recursion}
use Rattle.std.specs.Fmt.{digits}
use Rattle.batch_model.specs.Events.{ParksRightly, ok_in, is_parked_by}
use Rattle.batch_model.specs.Fits.{IsWholeJournal}
use Rattle.batch_model.specs.Setting.{Setting, sizes_of}
use Rattle.batch_model.specs.Text.{batch_text}
use Rattle.batch_model_tests.specs.Misfits as misfits
use Rattle.batch_model_tests.specs.Plans as plans
use Rattle.batch_model_tests.specs.Plans.{copied}
use Rattle.batch_model_tests.specs.Rows as rows
use Rattle.journal_model.specs.Legal.{after_all, at_first, totals, IsWhole, is_open_standing}
use Rattle.journal_model.specs.Legal.{is_busy_duty}
use Rattle.journal_model.specs.Legal as legal
use Rattle.journal_model.specs.State.{State}
use Rattle.journal_model.specs.State as states
use Rattle.journal_model.specs.declared.event.Event.{Event}
use Rattle.journal_model.specs.declared.event.Event.TheVariants.{End}
use Rattle.journal_model.specs.declared.state.ContextState.{ContextState}
use Rattle.journal_model.specs.declared.state.RequestState.{RequestState}
use Rattle.plan_model.specs.Stacks.{top_layers}
use Rattle.request_lines.specs.declared.request.Request.{Request}

abbrev pub Reaches : Setting → List Request → List Event → State → Type 0
Reaches setting requests events s =
    after_all (sizes_of setting requests) (at_first (sizes_of setting requests)) events ≡ Some s

-- ---- three requests, with room for an idle context

pub hot_reached : Reaches (copied (plans.counting 1 64)) rows.thrice rows.hot_events rows.hot_state
unfolding after_all top_layers legal.may_start legal.may_take legal.may_deploy legal.may_build
    legal.may_drop legal.may_answer legal.may_end legal.may_want legal.after_start legal.after_take
    legal.after_deploy legal.after_built legal.after_keep legal.after_drop legal.after_answer
    legal.after_park legal.after_end legal.after_standing legal.is_open legal.is_failed
    legal.is_waiting legal.request_function legal.first_for legal.serves legal.served_by
    legal.has_answered legal.above legal.place_of legal.answered_by legal.given_to
    legal.owed_after_built legal.owed_after_answer legal.with_numbered legal.with_duty
    legal.with_layer legal.with_used legal.with_standing legal.with_service states.numbered
    states.contains states.without states.stack_of states.layer_above states.highest_kept
hot_reached = refl

pub hot_journal : IsWholeJournal (copied (plans.counting 1 64)) rows.thrice rows.hot_events
    rows.hot_state
hot_journal = record {
  reached = hot_reached;
  nothing_owed = refl;
  whole = record {
    requests = All-from_recursion (λ (r : RequestState). is_open_standing r.standing ≡ false)
        rows.hot_state.requests (refl, (refl, (refl, tt)));
    contexts = All-from_recursion (λ (x : ContextState). is_busy_duty x.duty ≡ false)
        rows.hot_state.contexts (refl, tt);
  };
  started = refl;
}

pub hot_parks : ParksRightly (plans.counting 1 64).numbers (ok_in rows.hot_answers) rows.hot_events
unfolding is_parked_by states.numbered
hot_parks = (refl, (refl, (refl, tt)))

pub hot_spelled : rows.hot_text ≡ batch_text rows.hot_answers rows.hot_events rows.hot_state
unfolding totals digits
hot_spelled = refl

-- ---- with no room for one

warm_reached : Reaches (copied (plans.counting 0 64)) rows.thrice rows.warm_events rows.warm_state
unfolding after_all top_layers legal.may_start legal.may_take legal.may_deploy legal.may_build
    legal.may_drop legal.may_answer legal.may_end legal.may_want legal.after_start legal.after_take
    legal.after_deploy legal.after_built legal.after_keep legal.after_drop legal.after_answer
    legal.after_park legal.after_end legal.after_standing legal.is_open legal.is_failed
    legal.is_waiting legal.request_function legal.first_for legal.serves legal.served_by
    legal.has_answered legal.above legal.place_of legal.answered_by legal.given_to
    legal.owed_after_built legal.owed_after_answer legal.with_numbered legal.with_duty
    legal.with_layer legal.with_used legal.with_standing legal.with_service states.numbered
    states.contains states.without states.stack_of states.layer_above states.highest_kept
warm_reached = refl

pub warm_journal : IsWholeJournal (copied (plans.counting 0 64)) rows.thrice rows.warm_events
    rows.warm_state
warm_journal = record {
  reached = warm_reached;
  nothing_owed = refl;
  whole = record {
    requests = All-from_recursion (λ (r : RequestState). is_open_standing r.standing ≡ false)
        rows.warm_state.requests (refl, (refl, (refl, tt)));
    contexts = All-from_recursion (λ (x : ContextState). is_busy_duty x.duty ≡ false)
        rows.warm_state.contexts (refl, (refl, (refl, tt)));
  };
  started = refl;
}

pub warm_parks : ParksRightly (plans.counting 0 64).numbers (ok_in rows.warm_answers)
    rows.warm_events
unfolding is_parked_by states.numbered
warm_parks = (refl, (refl, (refl, tt)))

pub warm_spelled : rows.warm_text ≡ batch_text rows.warm_answers rows.warm_events rows.warm_state
unfolding totals digits
warm_spelled = refl

-- ---- where a context may answer two requests

worn_reached : Reaches (copied (plans.counting 1 2)) rows.thrice rows.worn_events rows.worn_state
unfolding after_all top_layers legal.may_start legal.may_take legal.may_deploy legal.may_build
    legal.may_drop legal.may_answer legal.may_end legal.may_want legal.after_start legal.after_take
    legal.after_deploy legal.after_built legal.after_keep legal.after_drop legal.after_answer
    legal.after_park legal.after_end legal.after_standing legal.is_open legal.is_failed
    legal.is_waiting legal.request_function legal.first_for legal.serves legal.served_by
    legal.has_answered legal.above legal.place_of legal.answered_by legal.given_to
    legal.owed_after_built legal.owed_after_answer legal.with_numbered legal.with_duty
    legal.with_layer legal.with_used legal.with_standing legal.with_service states.numbered
    states.contains states.without states.stack_of states.layer_above states.highest_kept
worn_reached = refl

pub worn_journal : IsWholeJournal (copied (plans.counting 1 2)) rows.thrice rows.worn_events
    rows.worn_state
worn_journal = record {
  reached = worn_reached;
  nothing_owed = refl;
  whole = record {
    requests = All-from_recursion (λ (r : RequestState). is_open_standing r.standing ≡ false)
        rows.worn_state.requests (refl, (refl, (refl, tt)));
    contexts = All-from_recursion (λ (x : ContextState). is_busy_duty x.duty ≡ false)
        rows.worn_state.contexts (refl, (refl, tt));
  };
  started = refl;
}

pub worn_parks : ParksRightly (plans.counting 1 2).numbers (ok_in rows.worn_answers)
    rows.worn_events
unfolding is_parked_by states.numbered
worn_parks = (refl, (refl, (refl, tt)))

pub worn_spelled : rows.worn_text ≡ batch_text rows.worn_answers rows.worn_events rows.worn_state
unfolding totals digits
worn_spelled = refl

-- ---- through three layers

three_reached : Reaches (copied plans.three) rows.one_three rows.three_events rows.three_state
unfolding after_all top_layers legal.may_start legal.may_take legal.may_deploy legal.may_build
    legal.may_drop legal.may_answer legal.may_end legal.may_want legal.after_start legal.after_take
    legal.after_deploy legal.after_built legal.after_keep legal.after_drop legal.after_answer
    legal.after_park legal.after_end legal.after_standing legal.is_open legal.is_failed
    legal.is_waiting legal.request_function legal.first_for legal.serves legal.served_by
    legal.has_answered legal.above legal.place_of legal.answered_by legal.given_to
    legal.owed_after_built legal.owed_after_answer legal.with_numbered legal.with_duty
    legal.with_layer legal.with_used legal.with_standing legal.with_service states.numbered
    states.contains states.without states.stack_of states.layer_above states.highest_kept
three_reached = refl

pub three_journal : IsWholeJournal (copied plans.three) rows.one_three rows.three_events
    rows.three_state
three_journal = record {
  reached = three_reached;
  nothing_owed = refl;
  whole = record {
    requests = All-from_recursion (λ (r : RequestState). is_open_standing r.standing ≡ false)
        rows.three_state.requests (refl, tt);
    contexts = All-from_recursion (λ (x : ContextState). is_busy_duty x.duty ≡ false)
        rows.three_state.contexts (refl, tt);
  };
  started = refl;
}

pub three_parks : ParksRightly plans.three.numbers (ok_in rows.three_answers) rows.three_events
unfolding is_parked_by states.numbered
three_parks = (refl, tt)

pub three_spelled : rows.three_text ≡ batch_text rows.three_answers rows.three_events
    rows.three_state
unfolding totals digits
three_spelled = refl

-- ---- a layer that isn't there

spinning_reached : Reaches (copied plans.spinning) rows.empty_twice rows.spinning_events
    rows.spinning_state
unfolding after_all top_layers legal.may_start legal.may_take legal.may_deploy legal.may_build
    legal.may_drop legal.may_answer legal.may_end legal.may_want legal.after_start legal.after_take
    legal.after_deploy legal.after_built legal.after_keep legal.after_drop legal.after_answer
    legal.after_park legal.after_end legal.after_standing legal.is_open legal.is_failed
    legal.is_waiting legal.request_function legal.first_for legal.serves legal.served_by
    legal.has_answered legal.above legal.place_of legal.answered_by legal.given_to
    legal.owed_after_built legal.owed_after_answer legal.with_numbered legal.with_duty
    legal.with_layer legal.with_used legal.with_standing legal.with_service states.numbered
    states.contains states.without states.stack_of states.layer_above states.highest_kept
spinning_reached = refl

pub spinning_journal : IsWholeJournal (copied plans.spinning) rows.empty_twice
    rows.spinning_events rows.spinning_state
spinning_journal = record {
  reached = spinning_reached;
  nothing_owed = refl;
  whole = record {
    requests = All-from_recursion (λ (r : RequestState). is_open_standing r.standing ≡ false)
        rows.spinning_state.requests (refl, (refl, tt));
    contexts = All-from_recursion (λ (x : ContextState). is_busy_duty x.duty ≡ false)
        rows.spinning_state.contexts (refl, (refl, tt));
  };
  started = refl;
}

pub spinning_parks : ParksRightly plans.spinning.numbers (ok_in rows.spinning_answers)
    rows.spinning_events
unfolding is_parked_by states.numbered
spinning_parks = (refl, (refl, tt))

pub spinning_spelled : rows.spinning_text ≡ batch_text rows.spinning_answers rows.spinning_events
    rows.spinning_state
unfolding totals digits
spinning_spelled = refl

-- ---- two functions

two_reached : Reaches (copied plans.two) rows.mixed rows.two_events rows.two_state
unfolding after_all top_layers legal.may_start legal.may_take legal.may_deploy legal.may_build
    legal.may_drop legal.may_answer legal.may_end legal.may_want legal.after_start legal.after_take
    legal.after_deploy legal.after_built legal.after_keep legal.after_drop legal.after_answer
    legal.after_park legal.after_end legal.after_standing legal.is_open legal.is_failed
    legal.is_waiting legal.request_function legal.first_for legal.serves legal.served_by
    legal.has_answered legal.above legal.place_of legal.answered_by legal.given_to
    legal.owed_after_built legal.owed_after_answer legal.with_numbered legal.with_duty
    legal.with_layer legal.with_used legal.with_standing legal.with_service states.numbered
    states.contains states.without states.stack_of states.layer_above states.highest_kept
two_reached = refl

pub two_journal : IsWholeJournal (copied plans.two) rows.mixed rows.two_events rows.two_state
two_journal = record {
  reached = two_reached;
  nothing_owed = refl;
  whole = record {
    requests = All-from_recursion (λ (r : RequestState). is_open_standing r.standing ≡ false)
        rows.two_state.requests (refl, (refl, (refl, tt)));
    contexts = All-from_recursion (λ (x : ContextState). is_busy_duty x.duty ≡ false)
        rows.two_state.contexts (refl, (refl, tt));
  };
  started = refl;
}

pub two_parks : ParksRightly plans.two.numbers (ok_in rows.two_answers) rows.two_events
unfolding is_parked_by states.numbered
two_parks = (refl, (refl, (refl, tt)))

pub two_spelled : rows.two_text ≡ batch_text rows.two_answers rows.two_events rows.two_state
unfolding totals digits
two_spelled = refl

-- ---- a fault

breaking_reached : Reaches (copied plans.breaking) rows.once rows.breaking_events
    rows.breaking_state
unfolding after_all top_layers legal.may_start legal.may_take legal.may_deploy legal.may_build
    legal.may_drop legal.may_answer legal.may_end legal.may_want legal.after_start legal.after_take
    legal.after_deploy legal.after_built legal.after_keep legal.after_drop legal.after_answer
    legal.after_park legal.after_end legal.after_standing legal.is_open legal.is_failed
    legal.is_waiting legal.request_function legal.first_for legal.serves legal.served_by
    legal.has_answered legal.above legal.place_of legal.answered_by legal.given_to
    legal.owed_after_built legal.owed_after_answer legal.with_numbered legal.with_duty
    legal.with_layer legal.with_used legal.with_standing legal.with_service states.numbered
    states.contains states.without states.stack_of states.layer_above states.highest_kept
breaking_reached = refl

pub breaking_journal : IsWholeJournal (copied plans.breaking) rows.once rows.breaking_events
    rows.breaking_state
breaking_journal = record {
  reached = breaking_reached;
  nothing_owed = refl;
  whole = record {
    requests = All-from_recursion (λ (r : RequestState). is_open_standing r.standing ≡ false)
        rows.breaking_state.requests (refl, tt);
    contexts = All-from_recursion (λ (x : ContextState). is_busy_duty x.duty ≡ false)
        rows.breaking_state.contexts (refl, tt);
  };
  started = refl;
}

pub breaking_parks : ParksRightly plans.breaking.numbers (ok_in rows.breaking_answers)
    rows.breaking_events
unfolding is_parked_by states.numbered
breaking_parks = (refl, tt)

pub breaking_spelled : rows.breaking_text ≡ batch_text rows.breaking_answers rows.breaking_events
    rows.breaking_state
unfolding totals digits
breaking_spelled = refl

-- ---- no memory

pub wanted_reached : Reaches (copied (plans.counting 1 64)) rows.twice rows.wanted_events
    rows.wanted_state
unfolding after_all top_layers legal.may_start legal.may_take legal.may_deploy legal.may_build
    legal.may_drop legal.may_answer legal.may_end legal.may_want legal.after_start legal.after_take
    legal.after_deploy legal.after_built legal.after_keep legal.after_drop legal.after_answer
    legal.after_park legal.after_end legal.after_standing legal.is_open legal.is_failed
    legal.is_waiting legal.request_function legal.first_for legal.serves legal.served_by
    legal.has_answered legal.above legal.place_of legal.answered_by legal.given_to
    legal.owed_after_built legal.owed_after_answer legal.with_numbered legal.with_duty
    legal.with_layer legal.with_used legal.with_standing legal.with_service states.numbered
    states.contains states.without states.stack_of states.layer_above states.highest_kept
wanted_reached = refl

pub wanted_journal : IsWholeJournal (copied (plans.counting 1 64)) rows.twice rows.wanted_events
    rows.wanted_state
wanted_journal = record {
  reached = wanted_reached;
  nothing_owed = refl;
  whole = record {
    requests = All-from_recursion (λ (r : RequestState). is_open_standing r.standing ≡ false)
        rows.wanted_state.requests (refl, (refl, tt));
    contexts = All-from_recursion (λ (x : ContextState). is_busy_duty x.duty ≡ false)
        rows.wanted_state.contexts (refl, tt);
  };
  started = refl;
}

pub wanted_parks : ParksRightly (plans.counting 1 64).numbers (ok_in rows.wanted_answers)
    rows.wanted_events
unfolding is_parked_by states.numbered
wanted_parks = tt

pub wanted_spelled : rows.wanted_text ≡ batch_text rows.wanted_answers rows.wanted_events
    rows.wanted_state
unfolding totals digits
wanted_spelled = refl

-- ---- journals that are legal, and not right

ended_reached : Reaches (copied (plans.counting 1 64)) rows.thrice
    (misfits.ended_with (End 1 ∷ [])) misfits.ended_state
unfolding after_all top_layers legal.may_start legal.may_take legal.may_deploy legal.may_build
    legal.may_drop legal.may_answer legal.may_end legal.may_want legal.after_start legal.after_take
    legal.after_deploy legal.after_built legal.after_keep legal.after_drop legal.after_answer
    legal.after_park legal.after_end legal.after_standing legal.is_open legal.is_failed
    legal.is_waiting legal.request_function legal.first_for legal.serves legal.served_by
    legal.has_answered legal.above legal.place_of legal.answered_by legal.given_to
    legal.owed_after_built legal.owed_after_answer legal.with_numbered legal.with_duty
    legal.with_layer legal.with_used legal.with_standing legal.with_service states.numbered
    states.contains states.without states.stack_of states.layer_above states.highest_kept
ended_reached = refl

pub ended_journal : IsWholeJournal (copied (plans.counting 1 64)) rows.thrice
    (misfits.ended_with (End 1 ∷ [])) misfits.ended_state
ended_journal = record {
  reached = ended_reached;
  nothing_owed = refl;
  whole = record {
    requests = All-from_recursion (λ (r : RequestState). is_open_standing r.standing ≡ false)
        misfits.ended_state.requests (refl, (refl, (refl, tt)));
    contexts = All-from_recursion (λ (x : ContextState). is_busy_duty x.duty ≡ false)
        misfits.ended_state.contexts (refl, tt);
  };
  started = refl;
}

parked_reached : Reaches (copied plans.breaking) rows.once misfits.parked_events
    misfits.parked_state
unfolding after_all top_layers legal.may_start legal.may_take legal.may_deploy legal.may_build
    legal.may_drop legal.may_answer legal.may_end legal.may_want legal.after_start legal.after_take
    legal.after_deploy legal.after_built legal.after_keep legal.after_drop legal.after_answer
    legal.after_park legal.after_end legal.after_standing legal.is_open legal.is_failed
    legal.is_waiting legal.request_function legal.first_for legal.serves legal.served_by
    legal.has_answered legal.above legal.place_of legal.answered_by legal.given_to
    legal.owed_after_built legal.owed_after_answer legal.with_numbered legal.with_duty
    legal.with_layer legal.with_used legal.with_standing legal.with_service states.numbered
    states.contains states.without states.stack_of states.layer_above states.highest_kept
parked_reached = refl

pub parked_journal : IsWholeJournal (copied plans.breaking) rows.once misfits.parked_events
    misfits.parked_state
parked_journal = record {
  reached = parked_reached;
  nothing_owed = refl;
  whole = record {
    requests = All-from_recursion (λ (r : RequestState). is_open_standing r.standing ≡ false)
        misfits.parked_state.requests (refl, tt);
    contexts = All-from_recursion (λ (x : ContextState). is_busy_duty x.duty ≡ false)
        misfits.parked_state.contexts (refl, tt);
  };
  started = refl;
}

fewer_reached : Reaches (copied (plans.counting 1 64)) rows.thrice (misfits.built_with 0)
    rows.hot_state
unfolding after_all top_layers legal.may_start legal.may_take legal.may_deploy legal.may_build
    legal.may_drop legal.may_answer legal.may_end legal.may_want legal.after_start legal.after_take
    legal.after_deploy legal.after_built legal.after_keep legal.after_drop legal.after_answer
    legal.after_park legal.after_end legal.after_standing legal.is_open legal.is_failed
    legal.is_waiting legal.request_function legal.first_for legal.serves legal.served_by
    legal.has_answered legal.above legal.place_of legal.answered_by legal.given_to
    legal.owed_after_built legal.owed_after_answer legal.with_numbered legal.with_duty
    legal.with_layer legal.with_used legal.with_standing legal.with_service states.numbered
    states.contains states.without states.stack_of states.layer_above states.highest_kept
fewer_reached = refl

pub fewer_journal : IsWholeJournal (copied (plans.counting 1 64)) rows.thrice
    (misfits.built_with 0) rows.hot_state
fewer_journal = record {
  reached = fewer_reached;
  nothing_owed = refl;
  whole = record {
    requests = All-from_recursion (λ (r : RequestState). is_open_standing r.standing ≡ false)
        rows.hot_state.requests (refl, (refl, (refl, tt)));
    contexts = All-from_recursion (λ (x : ContextState). is_busy_duty x.duty ≡ false)
        rows.hot_state.contexts (refl, tt);
  };
  started = refl;
}

more_reached : Reaches (copied (plans.counting 1 64)) rows.thrice (misfits.built_with 2)
    rows.hot_state
unfolding after_all top_layers legal.may_start legal.may_take legal.may_deploy legal.may_build
    legal.may_drop legal.may_answer legal.may_end legal.may_want legal.after_start legal.after_take
    legal.after_deploy legal.after_built legal.after_keep legal.after_drop legal.after_answer
    legal.after_park legal.after_end legal.after_standing legal.is_open legal.is_failed
    legal.is_waiting legal.request_function legal.first_for legal.serves legal.served_by
    legal.has_answered legal.above legal.place_of legal.answered_by legal.given_to
    legal.owed_after_built legal.owed_after_answer legal.with_numbered legal.with_duty
    legal.with_layer legal.with_used legal.with_standing legal.with_service states.numbered
    states.contains states.without states.stack_of states.layer_above states.highest_kept
more_reached = refl

pub more_journal : IsWholeJournal (copied (plans.counting 1 64)) rows.thrice
    (misfits.built_with 2) rows.hot_state
more_journal = record {
  reached = more_reached;
  nothing_owed = refl;
  whole = record {
    requests = All-from_recursion (λ (r : RequestState). is_open_standing r.standing ≡ false)
        rows.hot_state.requests (refl, (refl, (refl, tt)));
    contexts = All-from_recursion (λ (x : ContextState). is_busy_duty x.duty ≡ false)
        rows.hot_state.contexts (refl, tt);
  };
  started = refl;
}
