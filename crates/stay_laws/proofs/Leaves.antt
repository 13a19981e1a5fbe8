-- A step of one service leaves the others.
use Rattle.std.proofs.Common.{◌≡◌, ◌≢◌, ℕ, Bool, true, false, List, [], ◌∷◌}
use Rattle.std.proofs.Common.{Option, None, Some, refl, ◌∙◌, ap, IfSome}
use Rattle.std.specs.List.{list_any}
use Rattle.book_model.specs.Steps.{built_events, parked_events, ended}
use Rattle.journal_model.specs.Extents.{Extents}
use Rattle.journal_model.specs.State.{State, numbered}
use Rattle.journal_model.specs.Names.{names_request, names_context}
use Rattle.journal_model.specs.Legal as legal
use Rattle.journal_model.specs.Legal.{after, after_all, at_first, owes_nothing}
use Rattle.journal_model.specs.Reads.{service_of, service_of_one}
use Rattle.journal_model.specs.declared.event.Event.{Event}
use Rattle.journal_model.specs.declared.event.Event.TheVariants.{Start, Take, Deploy, Built}
use Rattle.journal_model.specs.declared.event.Event.TheVariants.{Keep, Dup, Drop, Evict, Park}
use Rattle.journal_model.specs.declared.event.Event.TheVariants.{End, Want, Answer}
use Rattle.journal_model.specs.declared.state.ContextState.{ContextState}
use Rattle.journal_model.specs.declared.state.Duty.TheVariants.{Serves}
use Rattle.journal_model.proofs.Folds.{parted}
use Rattle.journal_model.proofs.Sound.{duty_of}
use Rattle.service_laws.specs.Serving.{IsServing}
use Rattle.service_laws.proofs.Starting.{next_is_started}
use Rattle.service_laws.proofs.Staying.{serving_stays, served_stays, no_answers_by}
use Rattle.service_laws.proofs.Staying.{function_stays, requests_stay}
use Rattle.service_model.specs.Going.{wanted_events}
use Rattle.service_model.specs.Staying.{Stays, LeavesOthers}
use Rattle.stay_laws.proofs.Others.{one_event, as_one, ends_by, start_quiet, take_quiet}
use Rattle.stay_laws.proofs.Others.{deploys_quiet, keep_quiet, dup_quiet, park_quiet, end_quiet}
use Rattle.stay_laws.proofs.Others.{want_quiet, or_none, only, differs, serving_duty}
use Rattle.stay_laws.proofs.Others.{two_services, answering_duty, taken_duty, not_idle}
use Rattle.stay_laws.proofs.Others.{not_deployed, not_evicted}

service_same : (s t : State) (j : ℕ) → numbered t.requests j ≡ numbered s.requests j →
    service_of t j ≡ service_of s j
unfolding service_of
service_same s t j h = ap service_of_one h

-- events that name neither a request nor the context that serves it leave both
pub unnamed_stays : (sizes : Extents) (first : List Event) (s : State) (es : List Event)
    (t : State) (j c : ℕ) (x : ContextState) → after_all sizes (at_first sizes) first ≡ Some s →
    after_all sizes s es ≡ Some t → list_any (names_request j) es ≡ false →
    list_any (names_context c) es ≡ false → owes_nothing t.owed ≡ true → IsServing s j c x →
    Stays j c x s t
unnamed_stays sizes first s es t j c x h k n m o w = record {
  serving = serving_stays sizes s es t j c x k n m o w;
  served = served_stays sizes first s es t c h k (no_answers_by c es m);
  function = function_stays sizes s es t j k n;
  service = service_same s t j (requests_stay sizes s es t j k n);
}

-- these events name no request but this one
abbrev pub NamesOnly : (i : ℕ) → List Event → Type 0
NamesOnly i es = (j : ℕ) → j ≢ i → list_any (names_request j) es ≡ false

-- nor a context that serves another
abbrev pub SparesOthers : (i : ℕ) → (s : State) → List Event → Type 0
SparesOthers i s es = (j d : ℕ) → j ≢ i → duty_of s.contexts d ≡ Some (Serves j) →
    list_any (names_context d) es ≡ false

leaves : (sizes : Extents) (first : List Event) (s : State) (es : List Event) (t : State)
    (i : ℕ) → after_all sizes (at_first sizes) first ≡ Some s → after_all sizes s es ≡ Some t →
    NamesOnly i es → SparesOthers i s es → owes_nothing t.owed ≡ true → LeavesOthers i s t
leaves sizes first s es t i h k n m o = λ j c x d w.
    unnamed_stays sizes first s es t j c x h k (n j d) (m j c d (serving_duty s j c x w)) o w

-- # No step, and one after another

pub nothing_leaves : (i : ℕ) (s : State) → LeavesOthers i s s
nothing_leaves i s = λ j c x d w.
    record { serving = w; served = refl; function = refl; service = refl }

pub joined_leave : (i : ℕ) (s t u : State) → LeavesOthers i s t → LeavesOthers i t u →
    LeavesOthers i s u
joined_leave i s t u f g = λ j c x d w.
    (let a = f j c x d w in
    let b = g j c x d a.serving in
    record {
      serving = b.serving;
      served = b.served ∙ a.served;
      function = b.function ∙ a.function;
      service = b.service ∙ a.service;
    })

-- # A request starts, and is given a context

pub started_leaves : (sizes : Extents) (first : List Event) (s : State) (i f k : ℕ) →
    after_all sizes (at_first sizes) first ≡ Some s → legal.may_start sizes s i f k ≡ true →
    LeavesOthers i s (legal.after_start s f k)
started_leaves sizes first s i f k h m =
    let a = next_is_started sizes s i f k m in
    leaves sizes first s (Start i f k ∷ []) (legal.after_start s f k) i h (as_one sizes s _ _ a)
    (λ j n. only _ (differs i j n)) (λ j d n w. refl) (start_quiet sizes s i f k _ a)

pub taken_leaves : (sizes : Extents) (first : List Event) (s : State) (c i : ℕ) (t : State) →
    after_all sizes (at_first sizes) first ≡ Some s →
    after_all sizes s (Take c i ∷ []) ≡ Some t → LeavesOthers i s t
taken_leaves sizes first s c i t h k =
    let a = one_event sizes s (Take c i) t k in
    leaves sizes first s (Take c i ∷ []) t i h k (λ j n. only _ (differs i j n))
    (λ j d n w. only _ (differs c d (not_idle s j c d (taken_duty sizes first s c i t h a) w)))
    (take_quiet sizes s c i t a)

pub deployed_leaves : (sizes : Extents) (first : List Event) (s : State) (c : ℕ) (l : Option ℕ)
    (i n : ℕ) (t : State) → after_all sizes (at_first sizes) first ≡ Some s →
    after_all sizes s (Deploy c l i n ∷ []) ≡ Some t → LeavesOthers i s t
deployed_leaves sizes first s c l i n t h k =
    let a = one_event sizes s (Deploy c l i n) t k in
    leaves sizes first s (Deploy c l i n ∷ []) t i h k (λ j m. only _ (differs i j m))
    (λ j d m w. only _ (differs c d (not_deployed sizes s c l i n t d j a w)))
    (deploys_quiet sizes s c l i n t a)

-- # A layer is built

pub built_names : (i c k d : ℕ) (twice : Bool) (last : Option ℕ) →
    NamesOnly i (built_events c k d twice last)
built_names i c k d true last = λ j n. refl
built_names i c k d false None = λ j n. refl
built_names i c k d false (Some l) = λ j n. refl

pub built_names_one : (c k d : ℕ) (twice : Bool) (last : Option ℕ) (m : ℕ) → m ≢ c →
    list_any (names_context m) (built_events c k d twice last) ≡ false
built_names_one c k d true last m n = only _ (differs c m n)
built_names_one c k d false None m n = only _ (differs c m n)
built_names_one c k d false (Some l) m n = only _ (differs c m n)

pub built_quiet : (sizes : Extents) (s : State) (c k d : ℕ) (twice : Bool) (last : Option ℕ)
    (t : State) → after_all sizes s (built_events c k d twice last) ≡ Some t →
    owes_nothing t.owed ≡ true
built_quiet sizes s c k d true last t h =
    let p = ends_by sizes s (Built c k d ∷ []) (Dup k) t h in
    dup_quiet sizes p.before k t p.last
built_quiet sizes s c k d false None t h =
    let p = ends_by sizes s (Built c k d ∷ []) (Keep k) t h in
    keep_quiet sizes p.before k t p.last
built_quiet sizes s c k d false (Some l) t h =
    let p = ends_by sizes s (Built c k d ∷ Drop l ∷ []) (Keep k) t h in
    keep_quiet sizes p.before k t p.last

pub built_leaves : (sizes : Extents) (first : List Event) (s : State) (c k d : ℕ)
    (twice : Bool) (last : Option ℕ) (t : State) (i : ℕ) (x : ContextState) →
    after_all sizes (at_first sizes) first ≡ Some s →
    after_all sizes s (built_events c k d twice last) ≡ Some t → IsServing s i c x →
    LeavesOthers i s t
built_leaves sizes first s c k d twice last t i x h a w =
    leaves sizes first s (built_events c k d twice last) t i h a
    (built_names i c k d twice last)
    (λ j m n v. built_names_one c k d twice last m
    (two_services s i j c m n (serving_duty s i c x w) v))
    (built_quiet sizes s c k d twice last t a)

-- # A context answers, and is parked or over

pub parked_names : (i c u : ℕ) (last : Option ℕ) → NamesOnly i (parked_events i c u 0 last)
parked_names i c u None = λ j n. only _ (differs i j n)
parked_names i c u (Some e) = λ j n. only _ (differs i j n)

pub parked_quiet : (sizes : Extents) (s : State) (i c u : ℕ) (last : Option ℕ) (t : State) →
    after_all sizes s (parked_events i c u 0 last) ≡ Some t → owes_nothing t.owed ≡ true
parked_quiet sizes s i c u None t h =
    let p = ends_by sizes s (Answer i c u ∷ []) (Park c) t h in
    park_quiet sizes p.before c t p.last
parked_quiet sizes s i c u (Some e) t h =
    let p = ends_by sizes s (Answer i c u ∷ Evict e ∷ []) (Park c) t h in
    park_quiet sizes p.before c t p.last

pub parked_spares : (sizes : Extents) (first : List Event) (s : State) (i c u : ℕ)
    (last : Option ℕ) (t : State) → after_all sizes (at_first sizes) first ≡ Some s →
    after_all sizes s (parked_events i c u 0 last) ≡ Some t →
    SparesOthers i s (parked_events i c u 0 last)
parked_spares sizes first s i c u None t h k = λ j d n w.
    (let p = parted sizes s (Answer i c u ∷ []) (Park c ∷ []) t k in
    let a = one_event sizes s (Answer i c u) p.between p.first in
    let m = differs c d (two_services s i j c d n
    (answering_duty sizes s i c u p.between a) w) in
    or_none _ _ m (only _ m))
parked_spares sizes first s i c u (Some e) t h k = λ j d n w.
    (let p = parted sizes s (Answer i c u ∷ []) (Evict e ∷ Park c ∷ []) t k in
    let q = parted sizes p.between (Evict e ∷ []) (Park c ∷ []) t p.second in
    let a = one_event sizes s (Answer i c u) p.between p.first in
    let z = two_services s i j c d n (answering_duty sizes s i c u p.between a) w in
    let m = differs c d z in
    let v = not_evicted sizes first s i c u e p.between q.between d j h a
    (one_event sizes p.between (Evict e) q.between q.first) z w in
    or_none _ _ m (or_none _ _ (differs e d v) (only _ m)))

pub parked_leaves : (sizes : Extents) (first : List Event) (s : State) (i c u : ℕ)
    (last : Option ℕ) (t : State) → after_all sizes (at_first sizes) first ≡ Some s →
    after_all sizes s (parked_events i c u 0 last) ≡ Some t → LeavesOthers i s t
parked_leaves sizes first s i c u last t h k =
    leaves sizes first s (parked_events i c u 0 last) t i h k (parked_names i c u last)
    (parked_spares sizes first s i c u last t h k) (parked_quiet sizes s i c u last t k)

pub ended_leaves : (sizes : Extents) (first : List Event) (s : State) (i c u : ℕ) (t : State) →
    after_all sizes (at_first sizes) first ≡ Some s →
    after_all sizes s (ended i c (Some u)) ≡ Some t → LeavesOthers i s t
ended_leaves sizes first s i c u t h k =
    let p = ends_by sizes s (Answer i c u ∷ []) (End c) t k in
    let a = one_event sizes s (Answer i c u) p.before p.first in
    leaves sizes first s (Answer i c u ∷ End c ∷ []) t i h k
    (λ j n. only _ (differs i j n))
    (λ j d n w. (let m = differs c d (two_services s i j c d n
    (answering_duty sizes s i c u p.before a) w) in or_none _ _ m (only _ m)))
    (end_quiet sizes p.before c t p.last)

-- # A request finds no memory

pub wanted_leaves : (sizes : Extents) (first : List Event) (s : State) (i : ℕ)
    (context : Option ℕ) (t : State) → after_all sizes (at_first sizes) first ≡ Some s →
    after_all sizes s (wanted_events i context) ≡ Some t →
    IfSome context (λ (c : ℕ). (x : ContextState) × IsServing s i c x) → LeavesOthers i s t
wanted_leaves sizes first s i None t h k w =
    leaves sizes first s (Want i ∷ []) t i h k (λ j n. only _ (differs i j n))
    (λ j d n v. refl) (want_quiet sizes s i t (one_event sizes s (Want i) t k))
wanted_leaves sizes first s i (Some c) t h k w =
    let p = ends_by sizes s (Want i ∷ []) (End c) t k in
    leaves sizes first s (Want i ∷ End c ∷ []) t i h k
    (λ j n. only _ (differs i j n))
    (λ j d n v. only _ (differs c d (two_services s i j c d n (serving_duty s i c w.0 w.1) v)))
    (end_quiet sizes p.before c t p.last)
