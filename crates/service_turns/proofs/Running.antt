-- A context that ran on still serves its request; what comes of its run is a turn.
use Rattle.std.proofs.Common.{◌≡◌, ℕ, ◌+◌, ◌-◌, ◌≤◌, [], false, true, Option, None, Some, refl}
use Rattle.std.proofs.Common.{sym, ◌∙◌, subst, arith, Result, Ok, Err, IfOk}
use Rattle.std.proofs.lemmas.List.{append-nil}
use Rattle.book_model.specs.Shared.{Shared}
use Rattle.context_uc.specs.Views.{ContextView}
use Rattle.deployer.specs.Hosting.{Telling}
use Rattle.hyper_calls.specs.Exchange.{Exchange}
use Rattle.journal_model.specs.Legal.{after_all, is_open}
use Rattle.journal_model.specs.declared.answer.Answer.{Answer}
use Rattle.machine_model.specs.declared.hart.Hart.{Hart}
use Rattle.plan_model.specs.Outline.{Outline}
use Rattle.request_service.specs.Climbing.{IsLost}
use Rattle.request_service.specs.Turns.{Goes, GoesOn, TurnsTo}
use Rattle.request_service.specs.UnderWay.{HostsInRun, IsUnderWay, counted_in}
use Rattle.request_service.specs.declared.service.Service.{Service}
use Rattle.request_service.specs.declared.service.Turned.TheVariants.{Answered}
use Rattle.request_service.specs.declared.service.Work.{Work}
use Rattle.stay_laws.proofs.Turning as turning

-- ---- the context

module _ {S L H : Type 0} (plan : Outline) (telling : Telling S) (i : ℕ) (c : ContextView S)
    (book : Shared (ContextView S) L H) (hosts : HostsInRun plan telling i c book) where
  hosts_at : (hart : Hart) (s : S) → telling.spares s ≡ telling.spares c.space →
      telling.pin s ≡ None → HostsInRun plan telling i
      (record c { still = false; hart = hart; space = s }) book
  hosts_at hart s spares loose = record {
    in_service = record {
      is_usable = record {
        plan_is = hosts.in_service.is_usable.plan_is;
        still = refl;
        uses_are = hosts.in_service.is_usable.uses_are;
        usable = hosts.in_service.is_usable.usable;
      };
      stands = hosts.in_service.stands;
    };
    state = hosts.state;
    serving = hosts.serving;
    function_is = hosts.function_is;
    noted = record {
      number = hosts.noted.number;
      for_function = hosts.noted.for_function;
      place = hosts.noted.place;
      bare = spares ∙ hosts.noted.bare;
      in_order = hosts.noted.in_order;
    };
    loose = loose;
  }

  -- it serves its request on, after a part of its run
  pub hosts_after : (d : ContextView S) →
      d ≡ record c { still = false; hart = d.hart; space = d.space } →
      telling.spares d.space ≡ telling.spares c.space → telling.pin d.space ≡ None →
      HostsInRun plan telling i d book
  hosts_after d same spares loose = subst (λ x. HostsInRun plan telling i x book) (sym same)
      (hosts_at d.hart d.space spares loose)

-- ---- the book, where nothing happens

module _ {C L H : Type 0} (plan : Outline) (i : ℕ) (book : Shared C L H) where
  pub goes_nowhere : is_open book.state i ≡ true → Goes plan i [] 0 book book
  unfolding after_all
  goes_nowhere open_one = record {
    went = record {
      sizes_stay = refl;
      started_stay = refl;
      legal = refl;
      events_are = sym (append-nil book.events);
    };
    others = λ j c x ne serving. record {
      serving = serving;
      served = refl;
      function = refl;
      service = refl;
    };
    settled = λ h. h;
    parks = λ ok. tt;
    took_is = refl;
    turns = turning.stays_open i book.state book.state open_one refl;
  }

-- ---- the ticks

moved : (ticks from done more : ℕ) → ticks + done ≡ from + more → done ≤ more →
    ticks ≡ from + (more - done)
moved ticks from done more e l = omega (arith, e, l)

none_built : (ticks from done more : ℕ) → ticks + done ≡ from + more →
    ticks + done ≡ from + (0 + more)
none_built ticks from done more e = omega (arith, e)

module _ {S L H : Type 0} (plan : Outline) (telling : Telling S) (pause : Option ℕ) (i : ℕ)
    (work : Work (ContextView S) S) (from ticks : ℕ) (ports : Exchange)
    (old new : Shared (ContextView S) L H) where
  -- it paused after as many instructions as it might take
  pub pauses : (next : Service (ContextView S) S) → new ≡ old → is_open old.state i ≡ true →
      next.origin.i ≡ i → IsUnderWay plan telling ports next new →
      ticks + counted_in work ≡ from + counted_in next.work →
      counted_in work ≤ counted_in next.work →
      pause ≡ Some (counted_in next.work - counted_in work) →
      GoesOn plan telling pause i work from next ports ticks old new
  pauses next same open_one number under_way ticked rose paused = record {
    events = [];
    took = 0;
    goes = subst (λ b. Goes plan i [] 0 old b) (sym same) (goes_nowhere plan i old open_one);
    number_is = number;
    under_way = under_way;
    ticks_are = none_built ticks from (counted_in work) (counted_in next.work) ticked;
    progress = λ e. (
      counted_in next.work - counted_in work,
      paused,
      moved ticks from (counted_in work) (counted_in next.work) ticked rose,
    );
    climbs = λ ne. absurd (ne refl);
  }

  -- it found no memory
  pub loses : (answer : Answer) → IsLost plan i answer old new →
      TurnsTo plan telling pause i work from (Answered answer) ports ticks old new
  loses answer lost = record {
    events = lost.events;
    closes = lost.closes;
    ticks_are = λ r. absurd (lost.no_run r);
  }

pub none_more : (ticks from done more rest : ℕ) → ticks + done ≡ from + more → rest ≡ 0 →
    ticks + done ≡ from + (more + rest)
none_more ticks from done more rest e z = omega (arith, e, z)

-- what came of one came of the other, where it came
pub ok_so : {T E : Type 0} (r : Result T E) (P Q : T → Type 0) → ((x : T) → P x → Q x) →
    IfOk r P → IfOk r Q
ok_so (Ok x) P Q f p = f x p
ok_so (Err e) P Q f p = tt
