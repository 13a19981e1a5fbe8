-- A layer that isn't there closes its request without a run.
use Rattle.std.proofs.Common.{◌≡◌, ℕ, true, false, Some, map, refl, sym, ap, subst}
use Rattle.book_log.specs.Logged.{key_of_request, key_of_started}
use Rattle.book_model.specs.Shared.{Shared}
use Rattle.book_model.specs.Steps.{ended}
use Rattle.context_runs.specs.OfRequests.{Replies, ending_of}
use Rattle.context_runs.specs.declared.replying.RunReply.{RunReply}
use Rattle.context_uc.specs.Views.{ContextView}
use Rattle.deployer.specs.Hosting.{Telling}
use Rattle.journal_model.specs.Legal.{after_all, at_first}
use Rattle.journal_model.specs.declared.answer.Answer.{Answer}
use Rattle.journal_model.specs.declared.answer.End.{End}
use Rattle.journal_model.specs.declared.answer.End.TheVariants as end
use Rattle.layer_model.specs.Replies.{NoLayer}
use Rattle.line_laws.proofs.Shown.{reply_is_shown}
use Rattle.machine_model.specs.declared.stop.Stop.{Stop}
use Rattle.plan_model.specs.Outline.{Outline}
use Rattle.plan_model.specs.declared.numbers.Numbers.{Numbers}
use Rattle.request_service.specs.Climbing.{IsLost}
use Rattle.request_service.specs.Ending.{IsDue, line_of, to_park}
use Rattle.request_service.specs.Turns.{Closes, EndsByRun}
use Rattle.request_service.specs.UnderWay.{HostsInRun, IsKnownAs}
use Rattle.request_service.specs.declared.service.Origin.{Origin}
use Rattle.service_ends.proofs.Due.{due}
use Rattle.service_ends.proofs.Given.{own_there}
use Rattle.space_api.specs.declared.given.Given.{Given}

-- a request that had no layer isn't parked
pub not_parked : (numbers : Numbers) (e : End) (used k : ℕ) (s : Stop) →
    ending_of e ≡ Some (NoLayer k s) → to_park numbers e used ≡ false
not_parked numbers end.Ok used k s h = cc
not_parked numbers (end.Halt code) used k s h = refl
not_parked numbers (end.Fault cause pc tval) used k s h = refl
not_parked numbers end.Budget used k s h = refl
not_parked numbers (end.NoLayer j why) used k s h = refl
not_parked numbers end.Frames used k s h = refl
not_parked numbers end.Memory used k s h = refl

-- and had no run of its own
pub no_run : (e : End) (k : ℕ) (s : Stop) → ending_of e ≡ Some (NoLayer k s) → EndsByRun e → ⊥
no_run end.Ok k s h r = cc
no_run (end.Halt code) k s h r = cc
no_run (end.Fault cause pc tval) k s h r = cc
no_run end.Budget k s h r = cc
no_run (end.NoLayer j why) k s h r = r
no_run end.Frames k s h r = r
no_run end.Memory k s h r = r

module _ {S L H : Type 0} (telling : Telling S) (o : Origin) (c : ContextView S)
    (book new : Shared (ContextView S) L H) (r : RunReply) (a : Answer) (k : ℕ) (s : Stop) where
  -- the line that is due to such a reply closes the request
  pub missed : after_all book.sizes (at_first book.sizes) book.events ≡ Some book.state →
      map key_of_started book.started ≡ map key_of_request book.state.requests →
      IsKnownAs o book.state → HostsInRun c.plan telling o.i c book →
      ((given : Given) → Replies c given (NoLayer k s) r) → a ≡ line_of o r →
      ((plan : Outline) → IsDue plan a book → to_park plan.numbers a.end a.used ≡ false →
      Closes plan a.i a (ended a.i a.context (Some a.used)) book new) →
      IsLost c.plan o.i a book new
  missed reached keys known hosts replies e closes =
      let own = own_there book.started book.state o.i keys hosts.serving.work.open_one in
      let reply = replies own.0 in
      let is_due = due c.plan telling o (record c { still = true }) book reached known hosts r own.0
      (reply_is_shown c own.0 (NoLayer k s) r reply) own.1 in record {
        events = ended a.i a.context (Some a.used);
        closes = subst (λ n. Closes c.plan n a (ended a.i a.context (Some a.used)) book new)
            (ap (λ x. x.i) e) (closes c.plan (subst (λ x. IsDue c.plan x book) (sym e) is_due)
            (subst (λ x. to_park c.plan.numbers x.end x.used ≡ false) (sym e)
            (not_parked c.plan.numbers r.end o.used k s reply.ending_is)));
        no_run = λ h. no_run r.end k s reply.ending_is (subst (λ x. EndsByRun x.end) e h);
      }
