-- Events that are stepped one after the other.
use Rattle.std.proofs.Common.{◌≡◌, ℕ, ◌+◌, ◌<◌, ◌≤◌, Bool, true, false, List, [], ◌∷◌, length, drop}
use Rattle.std.proofs.Common.{Option, None, Some, Result, Ok, Err, get_or, refl, sym, ◌∙◌, ap}
use Rattle.std.proofs.Common.{IsSome, IfOk, subst}
use Rattle.std.proofs.lemmas.List.{at_drop_more, at_drop_all}
use Rattle.std.proofs.lemmas.Option.{none-some, same_Some}
use Rattle.journal_model.specs.Extents.{Extents}
use Rattle.journal_model.specs.State.{State, Replay}
use Rattle.journal_model.specs.Legal.{after, after_all, at_first}
use Rattle.journal_model.specs.declared.event.Event.{Event}
use Rattle.journal_model.proofs.Folds.{all_more, go_on, none_first}
use Rattle.machine_model.specs.declared.packet.Memory.{Memory}
use Rattle.run_journal.specs.Steps.{Steps}

pub some_of : (o : Option State) (s : State) → o ≡ Some s → IsSome o
some_of None s h = absurd (none-some s h)
some_of (Some t) s h = refl

-- an event that may stand leads from the state before it to the one after it
pub goes : (b : Bool) (old new : State) (next : Option State) → b ≡ true →
    Steps (Ok b) old new next → next ≡ Some new
goes true old new next e h = h
goes false old new next e h = absurd (cc)

-- one that may not leads to none, and the state stays
pub stays : (b : Bool) (old new : State) (next : Option State) → b ≡ false →
    Steps (Ok b) old new next → (next ≡ None) × (new ≡ old)
stays true old new next e h = absurd (cc)
stays false old new next e h = h

first_at : (sizes : Extents) (s : State) (es : List Event) (i : ℕ) (d : Event) → i < length es →
    after_all sizes s (drop i es) ≡ go_on sizes (drop (i + 1) es) (after sizes s (get_or es i d))
first_at sizes s es i d b = at_drop_more (after_all sizes s) es i d b
    ∙ all_more sizes s (get_or es i d) (drop (i + 1) es)

-- the rest leads where it led, after one event more
pub step_on : (sizes : Extents) (s t : State) (es : List Event) (i : ℕ) (d : Event)
    (w : Option State) → i < length es → after sizes s (get_or es i d) ≡ Some t →
    after_all sizes s (drop i es) ≡ w → after_all sizes t (drop (i + 1) es) ≡ w
step_on sizes s t es i d w b a h = sym (first_at sizes s es i d b
    ∙ ap (go_on sizes (drop (i + 1) es)) a) ∙ h

-- where an event may not stand, all lead to none
pub stops_at : (sizes : Extents) (s : State) (es : List Event) (i : ℕ) (d : Event)
    (w : Option State) → i < length es → after sizes s (get_or es i d) ≡ None →
    after_all sizes s (drop i es) ≡ w → w ≡ None
stops_at sizes s es i d w b a h = sym h ∙ (first_at sizes s es i d b
    ∙ ap (go_on sizes (drop (i + 1) es)) a)

-- at the end the state is the one to which all lead
pub ends_at : (sizes : Extents) (s : State) (es : List Event) (i : ℕ) (w : Option State) →
    length es ≤ i → after_all sizes s (drop i es) ≡ w → w ≡ Some s
ends_at sizes s es i w b h = sym h ∙ (at_drop_all (after_all sizes s) es i b
    ∙ none_first sizes s)

-- it isn't none
pub not_none : (w : Option State) → IsSome w → w ≡ None → ⊥
not_none None h e = cc
not_none (Some s) h e = none-some s (sym e)

-- an event of a legal journal can't be one that may not stand
pub replay_stops : (b : Bool) (sizes now : Extents) (s new : State) (es : List Event) (i : ℕ)
    (d : Event) (w : Option State) → now ≡ sizes → i < length es → b ≡ false →
    Steps (Ok b) s new (after now s (get_or es i d)) → after_all sizes s (drop i es) ≡ w →
    w ≡ None
replay_stops b sizes now s new es i d w n l e h r = stops_at sizes s es i d w l
    (subst (λ (z : Extents). after z s (get_or es i d) ≡ None) n (stays b s new _ e h).0) r

-- after an event that may stand the rest leads where it led
pub replay_goes : (b : Bool) (sizes now : Extents) (s new : State) (es : List Event) (i : ℕ)
    (d : Event) (w : Option State) → now ≡ sizes → i < length es → b ≡ true →
    Steps (Ok b) s new (after now s (get_or es i d)) → after_all sizes s (drop i es) ≡ w →
    after_all sizes new (drop (i + 1) es) ≡ w
replay_goes b sizes now s new es i d w n l e h r = step_on sizes s new es i d w l
    (subst (λ (z : Extents). after z s (get_or es i d) ≡ Some new) n (goes b s new _ e h)) r

-- the events of a book lead somewhere
pub replay_may : (sizes now : Extents) (es these : List Event) (s : State) → now ≡ sizes →
    these ≡ es → after_all sizes (at_first sizes) es ≡ Some s →
    IsSome (after_all now (at_first now) these)
replay_may sizes now es these s n e h = some_of _ s
    (ap (λ (z : Extents). after_all z (at_first z) these) n
    ∙ (ap (λ (l : List Event). after_all sizes (at_first sizes) l) e ∙ h))

-- the journal's sizes are the book's
pub journal_sizes : (r : Result Replay Memory) (sizes now : Extents) → now ≡ sizes →
    IfOk r (λ j. j.sizes ≡ now) → IfOk r (λ j. j.sizes ≡ sizes)
journal_sizes (Ok j) sizes now n h = h ∙ n
journal_sizes (Err e) sizes now n h = tt

-- the journal's state is the book's
pub journal_state : (r : Result Replay Memory) (sizes now : Extents) (es these : List Event)
    (s : State) → now ≡ sizes → these ≡ es → after_all sizes (at_first sizes) es ≡ Some s →
    IfOk r (λ j. after_all now (at_first now) these ≡ Some j.state) →
    IfOk r (λ j. j.state ≡ s)
journal_state (Ok j) sizes now es these s n e k h = sym (same_Some s j.state
    (sym (ap (λ (z : Extents). after_all z (at_first z) these) n
    ∙ (ap (λ (l : List Event). after_all sizes (at_first sizes) l) e ∙ k)) ∙ h))
journal_state (Err x) sizes now es these s n e k h = tt
