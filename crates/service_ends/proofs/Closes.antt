-- The end of a service closes its request, with its line.
use Rattle.std.proofs.Common.{◌≡◌, ℕ, ◌+◌, ◌&&◌, ◌++◌, ◌∷◌, [], true, false, Option}
use Rattle.std.proofs.Common.{None, Some, IfSome, IsSome, nat_le, nat_lt, refl, sym, ◌∙◌, ap, subst}
use Rattle.batch_model.specs.Replies.{IsLineOf, nothing_but, shown_in}
use Rattle.book_model.specs.Shared.{Shared}
use Rattle.book_model.specs.Steps.{backs, ended, evicts, parked_events}
use Rattle.journal_model.specs.Legal.{after_all, at_first, is_open, is_waiting}
use Rattle.journal_model.specs.State.{State}
use Rattle.journal_model.specs.declared.answer.Answer.{Answer as AnswerLine}
use Rattle.journal_model.specs.declared.answer.End.TheVariants as ends
use Rattle.journal_model.specs.declared.event.Event.TheVariants.{Answer, End, Park}
use Rattle.journal_model.specs.declared.state.ContextState.{ContextState}
use Rattle.journal_model.specs.declared.state.Standing.TheVariants.{Answered, Wanted}
use Rattle.journal_laws.proofs.Ties.{waiting_is}
use Rattle.line_laws.proofs.Closing.{answer_makes_line, want_makes_line}
use Rattle.line_laws.proofs.Known.{serving_is_known}
use Rattle.plan_model.specs.Outline.{Outline}
use Rattle.request_service.specs.Ending.{IsDue, IsHeldBy, IsServedBy, to_park}
use Rattle.request_service.specs.Turns.{Closes}
use Rattle.request_service.specs.UnderWay.{IsKnownAs}
use Rattle.request_service.specs.declared.service.Origin.{Origin}
use Rattle.service_laws.proofs.Ending.{serving_ends}
use Rattle.service_laws.proofs.Looking.{open_so}
use Rattle.service_laws.specs.Serving.{IsServing}
use Rattle.service_model.specs.Going.{WentBy, given_in, wanted_events}
use Rattle.service_model.specs.Staying.{IsSettled}
use Rattle.stay_laws.proofs.Leaves.{ended_leaves, parked_leaves, wanted_leaves}
use Rattle.stay_laws.proofs.Parks.{parks_others, parks_over, parks_parked, took_none}
use Rattle.stay_laws.proofs.Settled.{settled_over, settled_parked}
use Rattle.stay_laws.proofs.Turning.{ended_closes, parked_closes, wanted_closes}

-- a request that waits is open
pub waiting_open : (s : State) (i : ℕ) → is_waiting s i ≡ true → is_open s i ≡ true
waiting_open s i h = let o = (waiting_is s i h).open_at in open_so s i o.one o.entry ∙ o.stands

module _ {C L H : Type 0} where
  -- the context that serves a request is the one of which the journal says so
  pub context_is : (o : Origin) (c : ℕ) (book : Shared C L H) →
      after_all book.sizes (at_first book.sizes) book.events ≡ Some book.state →
      IsHeldBy o c book → c ≡ o.context
  context_is o c book reached h = sym (serving_is_known book.sizes book.events book.state o.i c
      h.state reached h.serving).0 ∙ ap (λ z. z.context) h.known

  -- and it was used so often
  pub used_is : (o : Origin) (c : ℕ) (book : Shared C L H) →
      after_all book.sizes (at_first book.sizes) book.events ≡ Some book.state →
      (h : IsHeldBy o c book) → h.state.used ≡ o.used
  used_is o c book reached h = sym (serving_is_known book.sizes book.events book.state o.i c
      h.state reached h.serving).1 ∙ ap (λ z. z.used) h.known

  -- what serves a request may answer it and be over
  pub may_be_over : (a : AnswerLine) (book : Shared C L H) → IsServedBy a book →
      IsSome (after_all book.sizes book.state (ended a.i a.context (Some a.used)))
  may_be_over a book by = let e = serving_ends book.sizes book.state a.i a.context by.state
      by.serving in
      subst (λ u. IsSome (after_all book.sizes book.state (ended a.i a.context (Some u))))
      by.used_is (rw e.1 refl)

  pub closes_over : (plan : Outline) (a : AnswerLine) (old new : Shared C L H) →
      after_all old.sizes (at_first old.sizes) old.events ≡ Some old.state → IsDue plan a old →
      to_park plan.numbers a.end a.used ≡ false →
      WentBy (ended a.i a.context (Some a.used)) old new →
      Closes plan a.i a (ended a.i a.context (Some a.used)) old new
  closes_over plan a old new reached due over w = record {
    went = w;
    others = ended_leaves old.sizes old.events old.state a.i a.context a.used new.state reached
        w.legal;
    settled = λ h. settled_over old.sizes old.events old.state a.i a.context a.used new.state
        reached h w.legal;
    parks = λ ok is. parks_over plan.numbers ok a.i a.context a.used
        (subst (λ b. (b && nat_le 1 plan.numbers.idle && nat_lt (a.used + 1) plan.numbers.uses)
        ≡ false) (sym is) over);
    none_built = refl;
    line = answer_makes_line plan old.sizes old.events (End a.context ∷ []) old.state new.state
        a.i a.context due.by.state (given_in old.started) due.before due.own a reached
        (subst (λ u. after_all old.sizes old.state (Answer a.i a.context u ∷ End a.context ∷ [])
        ≡ Some new.state) (sym due.by.used_is) w.legal) due.by.serving due.own_is due.before_are
        due.shows refl (ap (λ z. z.how) (sym due.known)) (ap (λ z. z.context) (sym due.known))
        (ap (λ z. z.used) (sym due.known));
    now = Answered;
    closed = refl;
    turns = ended_closes old.sizes old.state a.i a.context a.used new.state w.legal;
  }

  pub closes_parked : (plan : Outline) (a : AnswerLine) (last : Option ℕ)
      (old new : Shared C L H) →
      after_all old.sizes (at_first old.sizes) old.events ≡ Some old.state → IsDue plan a old →
      to_park plan.numbers a.end a.used ≡ true →
      WentBy (parked_events a.i a.context a.used 0 last) old new →
      Closes plan a.i a (parked_events a.i a.context a.used 0 last) old new
  closes_parked plan a last old new reached due is_parked w = record {
    went = w;
    others = parked_leaves old.sizes old.events old.state a.i a.context a.used last new.state
        reached w.legal;
    settled = λ h. settled_parked old.sizes old.events old.state a.i a.context a.used last
        new.state reached h w.legal;
    parks = λ ok is. parks_parked plan.numbers ok a.i a.context a.used last
        (subst (λ b. (b && nat_le 1 plan.numbers.idle && nat_lt (a.used + 1) plan.numbers.uses)
        ≡ true) (sym is) is_parked);
    none_built = (took_none plan a.i 0 0 a.context a.used 0 None last None).3;
    line = answer_makes_line plan old.sizes old.events (evicts last ++ Park a.context ∷ backs 0)
        old.state new.state a.i a.context due.by.state (given_in old.started) due.before due.own a
        reached (subst (λ u. after_all old.sizes old.state
        (Answer a.i a.context u ∷ (evicts last ++ Park a.context ∷ backs 0)) ≡ Some new.state)
        (sym due.by.used_is) w.legal) due.by.serving due.own_is due.before_are due.shows refl
        (ap (λ z. z.how) (sym due.known)) (ap (λ z. z.context) (sym due.known))
        (ap (λ z. z.used) (sym due.known));
    now = Answered;
    closed = refl;
    turns = parked_closes old.sizes old.state a.i a.context a.used last new.state w.legal;
  }

  -- the line of a request that found no memory
  wanted_line : (plan : Outline) (o : Origin) (a : AnswerLine) (context : Option ℕ)
      (old new : Shared C L H) →
      after_all old.sizes (at_first old.sizes) old.events ≡ Some old.state →
      IsKnownAs o old.state → is_open old.state o.i ≡ true → a.i ≡ o.i → a.how ≡ o.how →
      a.context ≡ o.context → a.used ≡ o.used → shown_in a ≡ nothing_but ends.Memory →
      after_all old.sizes old.state (wanted_events o.i context) ≡ Some new.state →
      IsLineOf plan (given_in old.started) new.state o.i a
  wanted_line plan o a None old new reached known open_one n h c u shows on =
      want_makes_line plan old.sizes old.events [] old.state new.state o.i
      (given_in old.started) a reached on open_one n (h ∙ ap (λ z. z.how) (sym known))
      (c ∙ ap (λ z. z.context) (sym known)) (u ∙ ap (λ z. z.used) (sym known)) shows
  wanted_line plan o a (Some d) old new reached known open_one n h c u shows on =
      want_makes_line plan old.sizes old.events (End d ∷ []) old.state new.state o.i
      (given_in old.started) a reached on open_one n (h ∙ ap (λ z. z.how) (sym known))
      (c ∙ ap (λ z. z.context) (sym known)) (u ∙ ap (λ z. z.used) (sym known)) shows

  pub closes_wanted : (plan : Outline) (o : Origin) (a : AnswerLine) (context : Option ℕ)
      (old new : Shared C L H) →
      after_all old.sizes (at_first old.sizes) old.events ≡ Some old.state →
      IsKnownAs o old.state → is_open old.state o.i ≡ true →
      IfSome context (λ (c : ℕ). (x : ContextState) × IsServing old.state o.i c x) →
      (IsSettled old.state → IsSettled new.state) → a.i ≡ o.i → a.how ≡ o.how →
      a.context ≡ o.context → a.used ≡ o.used → shown_in a ≡ nothing_but ends.Memory →
      WentBy (wanted_events o.i context) old new →
      Closes plan o.i a (wanted_events o.i context) old new
  closes_wanted plan o a context old new reached known open_one serving settled n h c u shows w =
      record {
        went = w;
        others = wanted_leaves old.sizes old.events old.state o.i context new.state reached
            w.legal serving;
        settled = settled;
        parks = λ ok is. (parks_others plan.numbers ok o.i 0 0 0 0 0 None false None context).4;
        none_built = (took_none plan o.i 0 0 0 0 0 None None context).5;
        line = wanted_line plan o a context old new reached known open_one n h c u shows w.legal;
        now = Wanted;
        closed = refl;
        turns = wanted_closes old.sizes old.state o.i context new.state w.legal;
      }
