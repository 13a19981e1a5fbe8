-- How a book goes on, by several calls.
use Rattle.std.proofs.Common.{◌≡◌, ℕ, List, [], ◌∷◌, ◌++◌, Option, None, Some, Result, Ok, Err}
use Rattle.std.proofs.Common.{OnOk}
use Rattle.std.proofs.Common.{IsSome, refl, sym, ◌∙◌, ap, subst}
use Rattle.std.proofs.lemmas.List.{append_assoc, append-nil}
use Rattle.book_model.specs.Shared.{Shared}
use Rattle.book_model.specs.Steps.{Appends, backs, ended}
use Rattle.deployer.specs.Closing.{MayWant}
use Rattle.journal_laws.proofs.Folding.{joined_after}
use Rattle.journal_model.specs.Extents.{Extents}
use Rattle.journal_model.specs.State.{State}
use Rattle.journal_model.specs.Legal.{after, after_all}
use Rattle.journal_model.specs.declared.event.Event.{Event}
use Rattle.journal_model.specs.declared.event.Event.TheVariants.{Want, End}
use Rattle.journal_model.proofs.Folds.{none_first}
use Rattle.service_laws.proofs.Ending.{wanted_ends}
use Rattle.service_model.specs.Going.{WentBy}
use Rattle.book_model.proofs.Results.{one_all}

module _ {T E : Type 0} where
  pub ok_then : (r : Result T E) (P Q : Type 0) → (P → Q) → OnOk r P → OnOk r Q
  ok_then (Ok x) P Q f h = f h
  ok_then (Err x) P Q f h = tt

module _ {C L H : Type 0} where
  -- one event leads the book on
  pub went_one : (e : Event) (old new : Shared C L H) → new.sizes ≡ old.sizes →
      new.started ≡ old.started → after old.sizes old.state e ≡ Some new.state →
      new.events ≡ old.events ++ e ∷ [] → WentBy (e ∷ []) old new
  went_one e old new z s l v = record {
    sizes_stay = z;
    started_stay = s;
    legal = one_all old.sizes old.state e ∙ l;
    events_are = v;
  }

  pub went_appends : (es : List Event) (old new : Shared C L H) → Appends es old new →
      WentBy es old new
  went_appends es old new a = record {
    sizes_stay = ap (λ (b : Shared C L H). b.sizes) a.new_is;
    started_stay = ap (λ (b : Shared C L H). b.started) a.new_is;
    legal = a.legal;
    events_are = ap (λ (b : Shared C L H). b.events) a.new_is;
  }

  -- one list of events after another
  pub went_on : (es fs : List Event) (a b c : Shared C L H) → WentBy es a b → WentBy fs b c →
      WentBy (es ++ fs) a c
  went_on es fs a b c g h = record {
    sizes_stay = h.sizes_stay ∙ g.sizes_stay;
    started_stay = h.started_stay ∙ g.started_stay;
    legal = joined_after a.sizes a.state b.state es fs g.legal
        ∙ (ap (λ (s : Extents). after_all s b.state fs) (sym g.sizes_stay) ∙ h.legal);
    events_are = h.events_are ∙ (ap (λ xs. xs ++ fs) g.events_are
        ∙ append_assoc a.events es fs);
  }

  -- and then no more
  pub went_so : (es : List Event) (a b c : Shared C L H) → WentBy es a b → WentBy [] b c →
      WentBy es a c
  went_so es a b c g h =
      subst (λ xs. WentBy xs a c) (append-nil es) (went_on es [] a b c g h)

  -- nothing came back
  pub went_back : (old new : Shared C L H) (n : ℕ) → n ≡ 0 → new.sizes ≡ old.sizes →
      new.started ≡ old.started → after_all old.sizes old.state (backs n) ≡ Some new.state →
      new.events ≡ old.events ++ backs n → WentBy [] old new
  went_back old new n z s t l e = record {
    sizes_stay = s;
    started_stay = t;
    legal = subst (λ m. after_all old.sizes old.state (backs m) ≡ Some new.state) z l;
    events_are = subst (λ m. new.events ≡ old.events ++ backs m) z e;
  }

  -- nothing happened
  pub went_nowhere : (old new : Shared C L H) → new.sizes ≡ old.sizes →
      new.started ≡ old.started → new.state ≡ old.state → new.events ≡ old.events →
      WentBy [] old new
  went_nowhere old new z s t e = record {
    sizes_stay = z;
    started_stay = s;
    legal = none_first old.sizes old.state ∙ ap (λ (x : State). Some x) (sym t);
    events_are = e ∙ sym (append-nil old.events);
  }

  pub went_same : (old new : Shared C L H) → new ≡ old → WentBy [] old new
  went_same old new e = went_nowhere old new (ap (λ (b : Shared C L H). b.sizes) e)
      (ap (λ (b : Shared C L H). b.started) e) (ap (λ (b : Shared C L H). b.state) e)
      (ap (λ (b : Shared C L H). b.events) e)

  -- a context whose request was wanted may be over
  pub wanted_may : (i c : ℕ) (old new : Shared C L H) → MayWant i (Some c) old →
      Appends (Want i ∷ []) old new →
      IsSome (after_all new.sizes new.state (ended i c None))
  wanted_may i c old new may a =
      let e = wanted_ends old.sizes old.state i c may.0 new.state may.1
      (sym (one_all old.sizes old.state (Want i)) ∙ a.legal) in
      subst (λ (s : Extents). IsSome (after_all s new.state (End c ∷ [])))
      (sym (ap (λ (b : Shared C L H). b.sizes) a.new_is))
      (subst (λ (o : Option State). IsSome o) (sym e.1) (Some_is e.0)) where
        Some_is : (s : State) → IsSome (Some s)
        Some_is s = refl
