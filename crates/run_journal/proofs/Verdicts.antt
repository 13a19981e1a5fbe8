-- One event of a journal after another.
use Rattle.std.proofs.Common.{◌≡◌, ℕ, ◌+◌, ◌<◌, List, ◌∷◌, length, drop, get_or, suc, Option}
use Rattle.std.proofs.Common.{Some, None}
use Rattle.std.proofs.Common.{refl, sym, ◌∙◌, ap, add-one}
use Rattle.std.proofs.Math.Seq.{drop-cons}
use Rattle.journal_model.specs.Extents.{Extents}
use Rattle.journal_model.specs.State.{State}
use Rattle.std.proofs.Common.{[], ◌≤◌, Bool, true, false, Ok}
use Rattle.std.proofs.lemmas.List.{drop_all}
use Rattle.run_journal.specs.Steps.{Steps}
use Rattle.journal_model.specs.Legal.{after, judged_from, owes_nothing, totals}
use Rattle.journal_model.specs.declared.event.Event.{Event}
use Rattle.journal_model.specs.declared.state.Judged.TheVariants.{Broken, Legal}

at_next : (sizes : Extents) (s t : State) (at : ℕ) (e : Event) (es : List Event) →
    after sizes s e ≡ Some t → judged_from sizes s at (e ∷ es) ≡ judged_from sizes t (at + 1) es
unfolding judged_from
at_next sizes s t at e es h = rw (h, judged_from) refl

at_stop : (sizes : Extents) (s : State) (at : ℕ) (e : Event) (es : List Event) →
    after sizes s e ≡ None → judged_from sizes s at (e ∷ es) ≡ Broken at
unfolding judged_from
at_stop sizes s at e es h = rw (h, judged_from) refl

at_end : (sizes : Extents) (s : State) (at : ℕ) → owes_nothing s.owed ≡ true →
    judged_from sizes s at [] ≡ Legal (totals s)
unfolding judged_from
at_end sizes s at h = rw (h, judged_from) refl

at_debt : (sizes : Extents) (s : State) (at : ℕ) → owes_nothing s.owed ≡ false →
    judged_from sizes s at [] ≡ Broken at
unfolding judged_from
at_debt sizes s at h = rw (h, judged_from) refl

-- an event that may stand leads to the next
pub judged_next : (sizes : Extents) (s t : State) (at : ℕ) (d : Event) (es : List Event) →
    at < length es → after sizes s (get_or es at d) ≡ Some t →
    judged_from sizes s at (drop at es) ≡ judged_from sizes t (at + 1) (drop (at + 1) es)
judged_next sizes s t at d es below h =
    rw (drop-cons es at d) (at_next sizes s t at (get_or es at d) (drop (suc at) es) h
    ∙ ap (λ n. judged_from sizes t (at + 1) (drop n es)) (sym (add-one at)))

-- one that may not is the answer
pub judged_stop : (sizes : Extents) (s : State) (at : ℕ) (d : Event) (es : List Event) →
    at < length es → after sizes s (get_or es at d) ≡ None →
    judged_from sizes s at (drop at es) ≡ Broken at
judged_stop sizes s at d es below h =
    rw (drop-cons es at d) (at_stop sizes s at (get_or es at d) (drop (suc at) es) h)

-- at the end nothing may be owed
pub judged_legal : (sizes : Extents) (s : State) (at : ℕ) (es : List Event) → length es ≤ at →
    owes_nothing s.owed ≡ true → judged_from sizes s at (drop at es) ≡ Legal (totals s)
judged_legal sizes s at es end h = rw (drop_all at es end) (at_end sizes s at h)

pub judged_owing : (sizes : Extents) (s : State) (at : ℕ) (es : List Event) → length es ≤ at →
    owes_nothing s.owed ≡ false → judged_from sizes s at (drop at es) ≡ Broken at
judged_owing sizes s at es end h = rw (drop_all at es end) (at_debt sizes s at h)

-- what a step says of the event
pub stepped : (b : Bool) (old new : State) (next : Option State) → b ≡ true →
    Steps (Ok b) old new next → next ≡ Some new
stepped true old new next e h = h
stepped false old new next e h = absurd (cc)

pub stuck : (b : Bool) (old new : State) (next : Option State) → b ≡ false →
    Steps (Ok b) old new next → next ≡ None
stuck true old new next e h = absurd (cc)
stuck false old new next e h = h.0
