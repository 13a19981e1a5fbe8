-- The line that is due to a reply.
use Rattle.std.proofs.Common.{◌≡◌, ℕ, Some, sym, subst}
use Rattle.batch_model.specs.Replies.{AreGiven, Shows, shown_in}
use Rattle.book_model.specs.Kept.{givens}
use Rattle.book_model.specs.Shared.{Shared}
use Rattle.context_runs.specs.declared.replying.RunReply.{RunReply}
use Rattle.context_uc.specs.Views.{ContextView}
use Rattle.deployer.specs.Hosting.{Hosts, Telling}
use Rattle.journal_model.specs.Legal.{after_all, at_first}
use Rattle.journal_model.specs.Reads.{served}
use Rattle.plan_model.specs.Outline.{Outline}
use Rattle.request_service.specs.Ending.{IsDue, IsHeldBy, IsServedBy, line_of}
use Rattle.request_service.specs.UnderWay.{IsKnownAs}
use Rattle.request_service.specs.declared.service.Origin.{Origin}
use Rattle.service_ends.proofs.Closes.{context_is, used_is}
use Rattle.service_laws.specs.Serving.{IsServing}
use Rattle.service_model.specs.Going.{given_in}
use Rattle.space_api.specs.declared.given.Given.{Given}

module _ {S L H : Type 0} (plan : Outline) (telling : Telling S) (o : Origin) (c : ContextView S)
    (book : Shared (ContextView S) L H)
    (reached : after_all book.sizes (at_first book.sizes) book.events ≡ Some book.state)
    (known : IsKnownAs o book.state) (hosts : Hosts plan telling o.i c book) where
  -- the journal says of the request that this context serves it
  abbrev pub held_by : IsHeldBy o c.id book
  held_by = record { known = known; state = hosts.state; serving = hosts.serving }

  -- the context of the request's line serves it
  abbrev pub served_by : (r : RunReply) → IsServedBy (line_of o r) book
  served_by r = record {
    state = hosts.state;
    serving = subst (λ (d : ℕ). IsServing book.state o.i d hosts.state)
        (context_is o c.id book reached held_by) hosts.serving;
    used_is = used_is o c.id book reached held_by;
  }

  before_are : AreGiven (given_in book.started) (served book.state o.context) c.served
  unfolding givens
  before_are = subst (λ (d : ℕ). AreGiven (given_in book.started) (served book.state d) c.served)
      (context_is o c.id book reached held_by) hosts.noted.in_order

  -- what the context replies is due to the request
  pub due : (r : RunReply) (own : Given) (shows : Shows plan c.function c.layer c.served own
      (shown_in (line_of o r))) → given_in book.started o.i ≡ Some own →
      IsDue plan (line_of o r) book
  due r own shows own_is = record {
    known = known;
    by = served_by r;
    before = c.served;
    before_are = before_are;
    own = own;
    own_is = own_is;
    shows = subst (λ f. Shows plan f hosts.state.layer c.served own (shown_in (line_of o r)))
        (sym hosts.function_is) (subst (λ p. Shows plan c.function p c.served own
        (shown_in (line_of o r))) hosts.noted.place shows);
  }
