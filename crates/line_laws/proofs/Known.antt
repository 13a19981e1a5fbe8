-- What a line says of the context that serves its request.
use Rattle.std.proofs.Common.{◌≡◌, ℕ, true, List, [], ◌∷◌, Option, None, Some, refl, sym, ◌∙◌, ap}
use Rattle.std.proofs.Common.{◌++◌}
use Rattle.journal_laws.proofs.Early.{line_context, line_used}
use Rattle.journal_laws.proofs.Naming.{next_request}
use Rattle.journal_laws.proofs.Numbers.{pushed_here}
use Rattle.journal_laws.proofs.Serving.{earlier_so, given_so, take_waits}
use Rattle.journal_laws.proofs.Ties.{IsWaitingAt, answer_is, deploy_quiet, reached_tied}
use Rattle.journal_laws.proofs.Ties.{waiting_is}
use Rattle.journal_model.specs.Extents.{Extents}
use Rattle.journal_model.specs.Legal as legal
use Rattle.journal_model.specs.Legal.{after, after_all, at_first, deployed_how, with_service}
use Rattle.journal_model.specs.Reads.{Service, earlier, service_of, service_of_one, served}
use Rattle.journal_model.specs.State.{State, numbered, stack_of}
use Rattle.journal_model.specs.declared.answer.How.{How}
use Rattle.journal_model.specs.declared.answer.How.TheVariants as how
use Rattle.journal_model.specs.declared.event.Event.{Event}
use Rattle.journal_model.specs.declared.event.Event.TheVariants.{Deploy, Take}
use Rattle.journal_model.specs.declared.state.ContextState.{ContextState}
use Rattle.journal_model.specs.declared.state.RequestState.{RequestState}
use Rattle.journal_model.specs.declared.state.Standing.TheVariants.{Open}
use Rattle.journal_model.proofs.Frames.{stood}
use Rattle.journal_model.proofs.Sound.{reached_sound}
use Rattle.service_laws.specs.Serving.{IsServing}
use Rattle.service_laws.proofs.Looking.{answered_by_so, service_here}
use Rattle.service_laws.proofs.Staying.{serving_answers, work_serves}
use Rattle.line_laws.proofs.Closing.{one_event}

pub serving_is_known : (sizes : Extents) (first : List Event) (s : State) (i c : ℕ)
    (x : ContextState) → after_all sizes (at_first sizes) first ≡ Some s → IsServing s i c x
    → ((service_of s i).context ≡ c) × ((service_of s i).used ≡ x.used)
    × (earlier s i ≡ served s c)
serving_is_known sizes first s i c x reached w =
    let is = answer_is sizes s i c x.used (serving_answers s i c x w)
    (reached_sound sizes first s reached) (reached_tied sizes first s reached) in (
      line_context sizes s i c x.used is,
      line_used sizes s i c x.used is,
      earlier_so sizes first s i c reached w.work.open_one
          (given_so sizes first s i c reached (work_serves s i c x w.work)),
    )

-- ---- a request that is given a context

service_so : (s : State) (i : ℕ) (o : Option RequestState) → numbered s.requests i ≡ o
    → service_of s i ≡ service_of_one o
unfolding service_of
service_so s i o is = ap service_of_one is

abbrev service_with : How → ℕ → ℕ → Service
service_with way c u = record { how = way; context = c; used = u }

given_is_so : (s t : State) (i : ℕ) (way : How) (c u : ℕ) → IsWaitingAt s.requests i
    → t.requests ≡ with_service i way c u s.requests → service_of t i ≡ service_with way c u
given_is_so s t i way c u w is = service_so t i _ (ap (λ rs. numbered rs i) is
    ∙ service_here i way c u s.requests w.open_at.one w.open_at.entry)

take_requests : (s : State) (c i : ℕ) → (legal.after_take s c i).requests
    ≡ with_service i how.Hot c (legal.answered_by s c) s.requests
unfolding legal.after_take
take_requests s c i = refl

pub taken_is_known : (sizes : Extents) (s : State) (c i : ℕ) (t : State) (x : ContextState)
    → after_all sizes s (Take c i ∷ []) ≡ Some t → numbered s.contexts c ≡ Some x
    → service_of t i ≡ record { how = how.Hot; context = c; used = x.used }
taken_is_known sizes s c i t x on is =
    let p = stood _ _ t (one_event sizes s (Take c i) t on) in
    given_is_so s t i how.Hot c (legal.answered_by s c)
    (waiting_is s i (take_waits s c i p.0))
    (ap (λ (z : State). z.requests) (sym p.1) ∙ take_requests s c i)
    ∙ ap (λ u. service_with how.Hot c u) (answered_by_so s c x is)

deploy_requests : (sizes : Extents) (s : State) (c : ℕ) (k : Option ℕ) (i n : ℕ)
    → (legal.after_deploy sizes s c k i n).requests
    ≡ with_service i (deployed_how (stack_of sizes (legal.request_function s i)) k) c 0
    s.requests
unfolding legal.after_deploy
deploy_requests sizes s c k i n = refl

pub deployed_is_known : (sizes : Extents) (s : State) (c : ℕ) (k : Option ℕ) (i n : ℕ)
    (t : State) → after_all sizes s (Deploy c k i n ∷ []) ≡ Some t
    → service_of t i ≡ record {
      how = deployed_how (stack_of sizes (legal.request_function s i)) k;
      context = c;
      used = 0;
    }
deployed_is_known sizes s c k i n t on =
    let p = stood _ _ t (one_event sizes s (Deploy c k i n) t on) in
    given_is_so s t i (deployed_how (stack_of sizes (legal.request_function s i)) k) c 0
    (waiting_is s i (deploy_quiet sizes s c k i n p.0).1)
    (ap (λ (z : State). z.requests) (sym p.1) ∙ deploy_requests sizes s c k i n)

-- ---- a request that is started

abbrev new_request : ℕ → ℕ → RequestState
new_request f t = record {
  function = f;
  clock = t;
  standing = Open;
  how = how.None;
  context = None;
  used = 0;
  place = None;
}

start_requests : (s : State) (f t : ℕ)
    → (legal.after_start s f t).requests ≡ s.requests ++ new_request f t ∷ []
unfolding legal.after_start
start_requests s f t = refl

pub started_is_known : (sizes : Extents) (s : State) (i f t : ℕ)
    → legal.may_start sizes s i f t ≡ true
    → service_of (legal.after_start s f t) i ≡ record { how = how.None; context = 0; used = 0 }
started_is_known sizes s i f t may = service_so (legal.after_start s f t) i _
    (ap (λ rs. numbered rs i) (start_requests s f t)
    ∙ (ap (λ n. numbered (s.requests ++ new_request f t ∷ []) n) (next_request sizes s i f t may)
    ∙ pushed_here s.requests (new_request f t)))
