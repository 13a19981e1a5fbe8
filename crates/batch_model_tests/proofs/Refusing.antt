-- Lines and journals that aren't right: each breaks one fact.
use Rattle.std.proofs.Common.{◌≡◌, ℕ, false, true, List, [], ◌∷◌, refl, sym, ◌∙◌, ap}
use Rattle.std.proofs.Common.{subst, arith}
use Rattle.std.proofs.lemmas.Option.{same_Some}
use Rattle.std.specs.Fmt.{digits}
use Rattle.std.specs.Str.{bytes_eq}
use Rattle.batch_model.proofs.Fixed.{one_line, one_count}
use Rattle.batch_model.specs.Events.{is_parked_by}
use Rattle.batch_model.specs.Fits.{IsRight}
use Rattle.batch_model.specs.Setting.{Setting, given_of}
use Rattle.batch_model.specs.Text.{batch_text}
use Rattle.batch_model_tests.proofs.Fitting.{hot_line2, wanted_line1}
use Rattle.batch_model_tests.proofs.Journals.{Reaches, hot_reached, wanted_reached, hot_spelled}
use Rattle.batch_model_tests.proofs.Machines.{counting_built}
use Rattle.batch_model_tests.specs.Misfits as misfits
use Rattle.batch_model_tests.specs.Misfits.{AreWrong, IsMisspelled, with_second, with_first}
use Rattle.batch_model_tests.specs.Plans as plans
use Rattle.batch_model_tests.specs.Plans.{copied}
use Rattle.batch_model_tests.specs.Rows as rows
use Rattle.journal_model.specs.State.{State, numbered}
use Rattle.journal_model.specs.declared.answer.Answer.{Answer}
use Rattle.journal_model.specs.declared.event.Event.{Event}
use Rattle.journal_model.specs.declared.event.Event.TheVariants as event
use Rattle.plan_model.specs.Outline.{Outline}
use Rattle.request_lines.specs.declared.request.Request.{Request}

abbrev plan : Outline
plan = plans.counting 1 64

-- the state of a right batch is that to which its events were computed to lead
right_there : (setting : Setting) (requests : List Request) (answers : List Answer)
    (events : List Event) (s there : State) → Reaches setting requests events there
    → IsRight setting requests answers events s → IsRight setting requests answers events there
right_there setting requests answers events s there reaches right =
    subst (IsRight setting requests answers events)
    (same_Some s there (sym right.journal.reached ∙ reaches)) right

-- ---- lines

-- the second of three requests has one line
other_second : (second : Answer) → (second ≡ rows.hot_second → ⊥)
    → AreWrong (copied plan) rows.thrice (with_second second) rows.hot_events
other_second second differs s right =
    let there = right_there (copied plan) rows.thrice (with_second second) rows.hot_events s
    rows.hot_state hot_reached right in
    differs (one_line plan (given_of rows.thrice rows.hot_state) rows.hot_state 2 second
    rows.hot_second there.lines.lines.1.0 hot_line2)

pub said_warm_wrong : AreWrong (copied plan) rows.thrice (with_second misfits.said_warm)
    rows.hot_events
said_warm_wrong =
    other_second misfits.said_warm (λ e. let h = ap (λ (a : Answer). a.how) e in cc)

pub of_another_wrong : AreWrong (copied plan) rows.thrice (with_second misfits.of_another)
    rows.hot_events
of_another_wrong =
    other_second misfits.of_another (λ e. let h = ap (λ (a : Answer). a.context) e in omega arith)

pub used_wrong : AreWrong (copied plan) rows.thrice (with_second misfits.used_once_more)
    rows.hot_events
used_wrong = other_second misfits.used_once_more
    (λ e. let h = ap (λ (a : Answer). a.used) e in omega arith)

pub stepped_wrong : AreWrong (copied plan) rows.thrice (with_second misfits.stepped_more)
    rows.hot_events
stepped_wrong = other_second misfits.stepped_more
    (λ e. let h = ap (λ (a : Answer). a.steps) e in omega arith)

pub packets_wrong : AreWrong (copied plan) rows.thrice (with_second misfits.packets_before)
    rows.hot_events
packets_wrong =
    other_second misfits.packets_before (λ e. let h = ap (λ (a : Answer). a.net) e in cc)

pub memory_wrong : AreWrong (copied plan) rows.thrice (with_second misfits.said_memory)
    rows.hot_events
memory_wrong =
    other_second misfits.said_memory (λ e. let h = ap (λ (a : Answer). a.end) e in cc)

pub frames_wrong : AreWrong (copied plan) rows.thrice (with_second misfits.said_frames)
    rows.hot_events
frames_wrong =
    other_second misfits.said_frames (λ e. let h = ap (λ (a : Answer). a.end) e in cc)

-- the first of two that were wanted has one line
other_first : (first : Answer) → (first ≡ rows.wanted_first → ⊥)
    → AreWrong (copied plan) rows.twice (with_first first) rows.wanted_events
other_first first differs s right =
    let there = right_there (copied plan) rows.twice (with_first first) rows.wanted_events s
    rows.wanted_state wanted_reached right in
    differs (one_line plan (given_of rows.twice rows.wanted_state) rows.wanted_state 1 first
    rows.wanted_first there.lines.lines.0 wanted_line1)

pub ok_wrong : AreWrong (copied plan) rows.twice (with_first misfits.said_ok) rows.wanted_events
ok_wrong = other_first misfits.said_ok (λ e. let h = ap (λ (a : Answer). a.end) e in cc)

-- ---- journals

-- a layer was built with one number of pages
other_count : (pages : ℕ) → (pages ≡ 1 → ⊥)
    → AreWrong (copied plan) rows.thrice rows.hot_answers (misfits.built_with pages)
other_count pages differs s right =
    differs (one_count plan 0 pages 1 right.builds.0 (counting_built 1 64))

pub fewer_wrong : AreWrong (copied plan) rows.thrice rows.hot_answers (misfits.built_with 0)
fewer_wrong = other_count 0 (λ e. omega arith)

pub more_wrong : AreWrong (copied plan) rows.thrice rows.hot_answers (misfits.built_with 2)
more_wrong = other_count 2 (λ e. omega arith)

pub parked_wrong : AreWrong (copied plans.breaking) rows.once rows.breaking_answers
    misfits.parked_events
unfolding is_parked_by numbered
parked_wrong s right = let h = right.parks.0 in cc

pub ended_wrong : AreWrong (copied plan) rows.thrice rows.hot_answers
    (misfits.ended_with (event.End 1 ∷ []))
unfolding is_parked_by numbered
ended_wrong s right = let h = right.parks.1.1.0 in cc

pub unparked_wrong : AreWrong (copied plan) rows.thrice rows.hot_answers (misfits.ended_with [])
unfolding is_parked_by numbered
unparked_wrong s right = let h = right.parks.1.1.0 in cc

-- ---- totals

-- three requests that were answered rightly have one text
other_text : (text : List ℕ) → bytes_eq text rows.hot_text ≡ false
    → bytes_eq rows.hot_text rows.hot_text ≡ true
    → IsMisspelled (copied plan) rows.thrice rows.hot_answers rows.hot_events text
other_text text differs same s right spelled =
    let there = same_Some s rows.hot_state (sym right.journal.reached ∙ hot_reached) in
    let text_is = spelled ∙ ap (batch_text rows.hot_answers rows.hot_events) there
    ∙ sym hot_spelled in
    let h = sym differs ∙ ap (λ t. bytes_eq t rows.hot_text) text_is ∙ same in
    cc

pub counted_wrong : IsMisspelled (copied plan) rows.thrice rows.hot_answers rows.hot_events
    misfits.counted_warm
unfolding digits
counted_wrong = other_text misfits.counted_warm refl refl

pub free_wrong : IsMisspelled (copied plan) rows.thrice rows.hot_answers rows.hot_events
    misfits.fewer_free
unfolding digits
free_wrong = other_text misfits.fewer_free refl refl
