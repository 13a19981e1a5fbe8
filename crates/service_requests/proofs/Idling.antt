-- A context that served its request as the last one is noted so, and may be idle.
use Rattle.std.proofs.Common.{◌≡◌, ℕ, ◌+◌, ◌≤◌, ◌<◌, ◌&&◌, ◌++◌, ◌∷◌, [], true, List, Some, length}
use Rattle.std.proofs.Common.{nat_le, nat_lt, arith, refl, sym, ◌∙◌, ap, subst}
use Rattle.std.proofs.lemmas.Bool.{ltb-true}
use Rattle.std.proofs.lemmas.List.{length-append, length-map, map-append}
use Rattle.std.proofs.lemmas.Option.{same_Some}
use Rattle.batch_model.specs.Events.{is_ok}
use Rattle.book_log.specs.declared.started.Started.{Started}
use Rattle.book_model.specs.Kept.{givens}
use Rattle.book_model.specs.Shared.{Shared}
use Rattle.context_runs.specs.OfRequests.{after_stop, ending_of}
use Rattle.context_runs.specs.declared.replying.RunReply.{RunReply}
use Rattle.context_runs.specs.OfLayers.{IsTop}
use Rattle.context_uc.specs.Views.{ContextView}
use Rattle.deployer.specs.Hosting.{Telling}
use Rattle.journal_model.proofs.Frames.{and_first, and_second}
use Rattle.journal_model.specs.Legal.{after_all, at_first}
use Rattle.journal_model.specs.Reads.{served}
use Rattle.journal_model.specs.declared.answer.End.{End}
use Rattle.journal_model.specs.declared.answer.End.TheVariants as end
use Rattle.layer_model.specs.Replies.{Ran}
use Rattle.machine_model.specs.declared.stop.Stop.{Stop}
use Rattle.machine_model.specs.declared.stop.Stop.TheVariants as stops
use Rattle.plan_model.specs.declared.numbers.Numbers.{Numbers}
use Rattle.request_service.specs.Ending.{MayIdle, line_of, to_park}
use Rattle.request_service.specs.UnderWay.{HostsInRun, IsKnownAs}
use Rattle.request_service.specs.declared.service.Origin.{Origin}
use Rattle.service_ends.proofs.Closes.{context_is, used_is}
use Rattle.service_ends.proofs.Due.{held_by, served_by}
use Rattle.service_laws.proofs.Counting.{served_count}
use Rattle.service_model.specs.Going.{given_in}
use Rattle.space_api.specs.declared.given.Given.{Given}

-- ---- a request that ended with `ok` rested

same_stop : (a b : Stop) → Ran a ≡ Ran b → a ≡ b
same_stop a b e = cc

rests : (e : End) (stop : Stop) → ending_of e ≡ Some (Ran stop) → is_ok e ≡ true →
    stop ≡ stops.Rest
rests end.Ok stop is ok = sym (same_stop stops.Rest stop (same_Some (Ran stops.Rest) (Ran stop) is))
rests (end.Halt code) stop is ok = cc
rests (end.Fault cause pc tval) stop is ok = cc
rests end.Budget stop is ok = cc
rests (end.NoLayer k why) stop is ok = cc
rests end.Frames stop is ok = cc
rests end.Memory stop is ok = cc

parks_ok : (numbers : Numbers) (e : End) (used : ℕ) → to_park numbers e used ≡ true →
    is_ok e ≡ true
parks_ok numbers e used h = and_first (is_ok e) (nat_le 1 numbers.idle)
    (and_first (is_ok e && nat_le 1 numbers.idle) (nat_lt (used + 1) numbers.uses) h)

parks_used : (numbers : Numbers) (e : End) (used : ℕ) → to_park numbers e used ≡ true →
    used + 1 < numbers.uses
parks_used numbers e used h = ltb-true (used + 1) numbers.uses
    (and_second (is_ok e && nat_le 1 numbers.idle) (nat_lt (used + 1) numbers.uses) h)

-- ---- what a run's end leaves of the context

pub same_plan : {S : Type 0} (stop : Stop) (given : Given) (c : ContextView S) →
    (after_stop stop given c).plan ≡ c.plan
same_plan stops.Rest given c = refl
same_plan stops.Trigger given c = refl
same_plan stops.Budget given c = refl
same_plan (stops.Exception cause pc tval) given c = refl
same_plan (stops.Halt code) given c = refl

pub same_space : {S : Type 0} (stop : Stop) (given : Given) (c : ContextView S) →
    (after_stop stop given c).space ≡ c.space
same_space stops.Rest given c = refl
same_space stops.Trigger given c = refl
same_space stops.Budget given c = refl
same_space (stops.Exception cause pc tval) given c = refl
same_space (stops.Halt code) given c = refl

-- ---- what it was given, with the last one

givens_count : (started : List Started) (numbers : List ℕ) →
    length (givens started numbers) ≡ length numbers
unfolding givens
givens_count started numbers = length-map numbers _

givens_push : (started : List Started) (numbers : List ℕ) (i : ℕ) (given : Given) →
    given_in started i ≡ Some given →
    givens started (numbers ++ i ∷ []) ≡ givens started numbers ++ Some given ∷ []
unfolding givens
givens_push started numbers i given is = map-append _ numbers (i ∷ [])
    ∙ ap (λ o. givens started numbers ++ o ∷ []) is

-- ---- the context

module _ {S L H : Type 0} (telling : Telling S) (o : Origin) (c : ContextView S)
    (book : Shared (ContextView S) L H)
    (reached : after_all book.sizes (at_first book.sizes) book.events ≡ Some book.state)
    (known : IsKnownAs o book.state) (hosts : HostsInRun c.plan telling o.i c book) where
  abbrev still_one : ContextView S
  still_one = record c { still = true }

  -- it served as often as its line says
  served_used : length c.served ≡ o.used
  served_used = sym (length-map c.served Some)
      ∙ (ap length hosts.noted.in_order
      ∙ (givens_count book.started (served book.state c.id)
      ∙ (served_count book.sizes book.events book.state c.id hosts.state reached
      hosts.serving.work.context
      ∙ used_is o c.id book reached (held_by c.plan telling o still_one book reached known hosts))))

  module _ (given : Given) (own : given_in book.started o.i ≡ Some given) (r : RunReply) where
    abbrev served_one : ContextView S
    served_one = record c { served = c.served ++ given ∷ []; still = true }

    rested_idles : IsTop c.plan c.function c.layer → c.stripped ≤ length c.served →
        to_park c.plan.numbers r.end o.used ≡ true →
        MayIdle telling (line_of o r) served_one book
    rested_idles top few is = record {
      by = served_by c.plan telling o still_one book reached known hosts r;
      id_is = context_is o c.id book reached
          (held_by c.plan telling o still_one book reached known hosts);
      count = length-append c.served (given ∷ []) ∙ ap (λ n. n + 1) served_used;
      of_plan = record {
        is_usable = record {
          plan_is = refl;
          still = refl;
          uses_are = hosts.in_service.is_usable.uses_are;
          usable = subst (λ n. length (c.served ++ given ∷ []) < n)
              (sym hosts.in_service.is_usable.uses_are)
              (subst (λ n. n < c.plan.numbers.uses)
              (sym (length-append c.served (given ∷ []) ∙ ap (λ n. n + 1) served_used))
              (parks_used c.plan.numbers r.end o.used is));
        };
        at_top = top;
      };
      noted = record {
        number = hosts.noted.number;
        for_function = hosts.noted.for_function;
        place = hosts.noted.place;
        bare = hosts.noted.bare;
        in_order = map-append Some c.served (given ∷ [])
            ∙ (ap (λ gs. gs ++ Some given ∷ []) hosts.noted.in_order
            ∙ sym (givens_push book.started (served book.state c.id) o.i given own));
      };
      loose = hosts.loose;
      stripped_few = subst (λ n. c.stripped < n) (sym (length-append c.served (given ∷ [])))
          (omega (arith, few));
    }

    -- what it is after its run may be idle, where it is to be parked
    pub idles : IsTop c.plan c.function c.layer → c.stripped ≤ length c.served → (stop : Stop) →
        ending_of r.end ≡ Some (Ran stop) → (d : ContextView S) → d ≡ after_stop stop given c →
        to_park d.plan.numbers r.end o.used ≡ true → MayIdle telling (line_of o r) d book
    idles top few stop ends d d_is is =
        let rested = rests r.end stop ends (parks_ok d.plan.numbers r.end o.used is) in
        subst (λ x. to_park x.plan.numbers r.end o.used ≡ true →
        MayIdle telling (line_of o r) x book)
        (sym (d_is ∙ ap (λ s. after_stop s given c) rested)) (rested_idles top few) is
