-- A request whose run ended is answered with the line of that run.
use Rattle.std.proofs.Common.{◌≡◌, ℕ, ◌≤◌, true, List, length, Some, Result, Ok, Err}
use Rattle.std.proofs.Common.{IfOk, sym, ◌∙◌, ap, subst}
use Rattle.book_model.specs.Shared.{Shared}
use Rattle.context_runs.specs.OfLayers.{IsTop}
use Rattle.context_runs.specs.OfRequests.{Replies, after_stop}
use Rattle.context_runs.specs.declared.replying.RunReply.{RunReply}
use Rattle.context_uc.specs.Views.{ContextView}
use Rattle.deployer.specs.Hosting.{Telling}
use Rattle.journal_model.specs.Legal.{after_all, at_first}
use Rattle.journal_model.specs.declared.answer.Answer.{Answer}
use Rattle.journal_model.specs.declared.answer.End.TheVariants as ends
use Rattle.journal_model.specs.declared.event.Event.{Event}
use Rattle.layer_model.specs.Replies.{Ran}
use Rattle.line_laws.proofs.Shown.{reply_is_shown}
use Rattle.machine_model.specs.declared.stop.Stop.{Stop}
use Rattle.request_service.specs.Ending.{IsDue, MayIdle, line_of, to_park}
use Rattle.plan_model.specs.Outline.{Outline}
use Rattle.request_service.specs.Turns.{Closes, EndsByRun}
use Rattle.request_service.specs.UnderWay.{HostsInRun, IsKnownAs}
use Rattle.request_service.specs.declared.service.Origin.{Origin}
use Rattle.service_ends.proofs.Due.{due}
use Rattle.service_model.specs.Going.{given_in}
use Rattle.service_requests.proofs.Idling.{idles, same_plan, same_space}
use Rattle.service_requests.specs.Requesting.{IsAnswered, IsClosed, MayClose}
use Rattle.space_api.specs.declared.given.Given.{Given}

-- the plan of a context stays at the end of its run
pub plan_after : {S : Type 0} (stop : Stop) (given : Given) (c d : ContextView S) →
    d ≡ after_stop stop given c → d.plan ≡ c.plan
plan_after stop given c d is = ap (λ (x : ContextView _). x.plan) is ∙ same_plan stop given c

module _ {S L H : Type 0} (telling : Telling S) (o : Origin) (c : ContextView S)
    (book : Shared (ContextView S) L H)
    (reached : after_all book.sizes (at_first book.sizes) book.events ≡ Some book.state)
    (known : IsKnownAs o book.state) (hosts : HostsInRun c.plan telling o.i c book)
    (given : Given) (own : given_in book.started o.i ≡ Some given) (r : RunReply) (stop : Stop)
    (replies : Replies c given (Ran stop) r) (d : ContextView S)
    (d_is : d ≡ after_stop stop given c) (a : Answer) (a_is : a ≡ line_of o r) where
  due_after : IsDue d.plan a book
  due_after = subst (λ x. IsDue d.plan x book) (sym a_is)
      (subst (λ p. IsDue p (line_of o r) book) (sym (plan_after stop given c d d_is))
      (due c.plan telling o (record c { still = true }) book reached known hosts r given
      (reply_is_shown c given (Ran stop) r replies) own))

  idle_after : IsTop c.plan c.function c.layer → c.stripped ≤ length c.served →
      to_park d.plan.numbers a.end a.used ≡ true → MayIdle telling a d book
  idle_after top few is = subst (λ x. MayIdle telling x d book) (sym a_is)
      (idles telling o c book reached known hosts given own r top few stop replies.ending_is d d_is
      (subst (λ x. to_park d.plan.numbers x.end x.used ≡ true) a_is is))

  -- its line is due, and its context may be idle, where it is to be parked
  pub may_close : IsTop c.plan c.function c.layer → c.stripped ≤ length c.served →
      MayClose telling a d book
  may_close top few = record {
    loose = ap (λ (x : ContextView S). telling.pin x.space) d_is
        ∙ (ap telling.pin (same_space stop given c) ∙ hosts.loose);
    due = due_after;
    idle = idle_after top few;
  }

  -- it is closed with that line
  pub answered : (done : ℕ) → r.steps ≡ done → (new : Shared (ContextView S) L H) (b : Answer) →
      b ≡ a → IsClosed d.plan b book new → IsAnswered c.plan o.i done b book new
  answered done counted new b same closed = record {
    events = closed.events;
    closes = subst (λ p. Closes p o.i b closed.events book new) (plan_after stop given c d d_is)
        (subst (λ n. Closes d.plan n b closed.events book new)
        (ap (λ (x : Answer). x.i) (same ∙ a_is)) closed.closes);
    steps_are = λ by. ap (λ (x : Answer). x.steps) (same ∙ a_is) ∙ counted;
  }

-- two facts of what came, where it came
pub ok_both : {T E : Type 0} (r : Result T E) (P Q R : T → Type 0) →
    ((x : T) → P x → Q x → R x) → IfOk r P → IfOk r Q → IfOk r R
ok_both (Ok x) P Q R f p q = f x p q
ok_both (Err e) P Q R f p q = tt

-- a request that found no memory is answered without a run
pub lost_is : {C L H : Type 0} (plan : Outline) (i done : ℕ) (a : Answer) (old new : Shared C L H)
    (events : List Event) → Closes plan i a events old new → a.end ≡ ends.Memory →
    IsAnswered plan i done a old new
lost_is plan i done a old new events closes is = record {
  events = events;
  closes = closes;
  steps_are = λ by. absurd (subst EndsByRun is by);
}
