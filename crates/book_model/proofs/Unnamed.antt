-- No event names a context that is idle before and after it.
use Rattle.std.proofs.Common.{◌≡◌, ℕ, ◌==◌, ◌&&◌, Bool, true, false, List}
use Rattle.std.proofs.Common.{Option, None, Some, refl, sym, ◌∙◌, ap}
use Rattle.std.proofs.lemmas.Option.{none-some, same_Some}
use Rattle.journal_model.specs.Extents.{Extents}
use Rattle.journal_model.specs.State.{State, numbered, is_just}
use Rattle.journal_model.specs.Legal as legal
use Rattle.journal_model.specs.Legal.{after, at_first, after_all, with_duty}
use Rattle.journal_model.specs.Names.{names_context}
use Rattle.journal_model.specs.declared.event.Event.{Event}
use Rattle.journal_model.specs.declared.event.Event.TheVariants.{Start, Take, Deploy, Refill}
use Rattle.journal_model.specs.declared.event.Event.TheVariants.{Built, Keep, Dup, Drop, Evict}
use Rattle.journal_model.specs.declared.event.Event.TheVariants.{Park, End, Back, Refuse, Want}
use Rattle.journal_model.specs.declared.event.Event.TheVariants.{Answer}
use Rattle.journal_model.specs.declared.state.ContextState.{ContextState}
use Rattle.journal_model.specs.declared.state.Duty.{Duty}
use Rattle.journal_model.specs.declared.state.Duty.TheVariants.{Idle, Serves, Over}
use Rattle.journal_model.specs.declared.state.Owed.{Owed}
use Rattle.journal_model.specs.declared.state.Owed.TheVariants as owed
use Rattle.journal_model.proofs.Frames.{and_first, and_second, stood}
use Rattle.journal_model.proofs.Recents.{same}
use Rattle.journal_model.proofs.Sound.{CanDo, IsBusy, duty_of, reached_sound}
use Rattle.journal_laws.proofs.Naming.{apart, next_context}
use Rattle.journal_laws.proofs.Numbers.{changed_here, next_none}
use Rattle.journal_laws.proofs.Ties.{duty_at}

-- the duty is none of serving, and not to be over
abbrev IsIdleAt : List ContextState → ℕ → Type 0
IsIdleAt xs c = duty_of xs c ≡ Some Idle

serves_differs : (i : ℕ) → Some (Serves i) ≡ Some Idle → ⊥
serves_differs i h = absurd (cc)

over_differs : Some Over ≡ Some Idle → ⊥
over_differs h = absurd (cc)

drawn_at : (xs : List ContextState) (c : ℕ) (o : Option ContextState) → numbered xs c ≡ o →
    duty_at o ≡ Some Idle → (x : ContextState) × (numbered xs c ≡ Some x)
drawn_at xs c None e h = absurd (none-some Idle h)
drawn_at xs c (Some x) e h = (x, e)

duty_now : (c : ℕ) (d : Duty) (xs : List ContextState) → IsIdleAt xs c →
    duty_of (with_duty c d xs) c ≡ Some d
unfolding with_duty
duty_now c d xs h = let p = drawn_at xs c (numbered xs c) refl h in
    ap duty_at (changed_here (λ (x : ContextState). record x { duty = d }) c xs p.0 p.1)

serves_none : (o : Option ContextState) → duty_at o ≡ Some Idle → legal.served_by_one o ≡ 0
serves_none None h = absurd (none-some Idle h)
serves_none (Some x) h = ap legal.served_by_duty (same_Some x.duty Idle h)

none_open : (s : State) → legal.is_open s 0 ≡ false
unfolding legal.is_open numbered
none_open s = refl

-- an idle context serves no open request
idle_serves_none : (s : State) (c : ℕ) → IsIdleAt s.contexts c →
    legal.is_open s (legal.served_by s c) ≡ false
unfolding legal.served_by
idle_serves_none s c h =
    ap (λ i. legal.is_open s i) (serves_none (numbered s.contexts c) h) ∙ none_open s

serves_no_one : (i : ℕ) (o : Option ContextState) → duty_at o ≡ Some Idle →
    legal.serves_one i o ≡ false
serves_no_one i None h = absurd (none-some Idle h)
serves_no_one i (Some x) h = ap (λ d. legal.is_duty i d) (same_Some x.duty Idle h)

idle_serves_not : (s : State) (c i : ℕ) → IsIdleAt s.contexts c → legal.serves s c i ≡ false
unfolding legal.serves
idle_serves_not s c i h = serves_no_one i (numbered s.contexts c) h

no_both : {P : Type 0} (b : Bool) → b ≡ true → b ≡ false → P
no_both true h k = absurd (cc)
no_both false h k = absurd (cc)

-- what is owed to be parked is busy
parks_busy : (sizes : Extents) (s : State) (o : Owed) (c : ℕ) →
    CanDo sizes s.idle s.kept s.contexts o → legal.owes_park o c ≡ true →
    IsBusy s.contexts c
parks_busy sizes s owed.Nothing c h k = absurd (cc)
parks_busy sizes s (owed.Dup j) c h k = absurd (cc)
parks_busy sizes s (owed.Keep j) c h k = absurd (cc)
parks_busy sizes s (owed.DropThenKeep j) c h k = absurd (cc)
parks_busy sizes s (owed.End d) c h k = absurd (cc)
parks_busy sizes s (owed.EndOrPark d) c h k =
    (h.0.0, ap (λ n. duty_of s.contexts n) (sym (same d c k)) ∙ h.0.1)
parks_busy sizes s (owed.EndOrEvict d) c h k = absurd (cc)
parks_busy sizes s (owed.Park d) c h k =
    (h.0.0, ap (λ n. duty_of s.contexts n) (sym (same d c k)) ∙ h.0.1)

build_open : (sizes : Extents) (s : State) (c k : ℕ) → legal.may_build sizes s c k ≡ true →
    legal.is_open s (legal.served_by s c) ≡ true
unfolding legal.may_build
build_open sizes s c k h = let p : ((legal.owes_nothing s.owed
    && legal.is_open s (legal.served_by s c)) && is_just (legal.above sizes s c) k) ≡ true = h in
    and_second (legal.owes_nothing s.owed) _ (and_first _ _ p)

refill_open : (sizes : Extents) (s : State) (c h n : ℕ) → legal.may_refill sizes s c h n ≡ true →
    legal.is_open s (legal.served_by s c) ≡ true
unfolding legal.may_refill
refill_open sizes s c h n k =
    let p = and_first _ _ (and_first _ _ (and_first _ _ k)) in
    and_second (legal.owes_nothing s.owed && (sizes.root == 1)) _ p

pub answer_serves : (s : State) (i c u : ℕ) → legal.may_answer s i c u ≡ true →
    legal.serves s c i ≡ true
unfolding legal.may_answer
answer_serves s i c u h = let p = and_first _ _ h in
    and_second (legal.owes_nothing s.owed && legal.is_open s i) _ p

abbrev duty_in : ℕ → State → Option Duty
duty_in c s = duty_of s.contexts c

-- an event doesn't name a context that is idle before and after it
pub idle_unnamed : (sizes : Extents) (es : List Event) (s : State) (e : Event) (t : State) (c : ℕ) →
    after_all sizes (at_first sizes) es ≡ Some s → after sizes s e ≡ Some t →
    duty_of s.contexts c ≡ Some Idle → duty_of t.contexts c ≡ Some Idle →
    names_context c e ≡ false
unfolding legal.after_start legal.after_take legal.after_deploy legal.after_refill
    legal.after_built legal.after_keep legal.after_dup legal.after_drop legal.after_evict
    legal.after_park legal.after_end legal.after_back legal.after_standing legal.after_answer
idle_unnamed sizes es s (Start i f z) t c r h a b = refl
idle_unnamed sizes es s (Take d i) t c r h a b = apart d c (λ x. let w = stood _ _ t h in
    let q : IsIdleAt s.contexts d = ap (λ n. duty_of s.contexts n) x ∙ a in
    serves_differs i (sym (duty_now d (Serves i) s.contexts q) ∙ (ap (duty_in d) w.1
    ∙ (ap (λ n. duty_of t.contexts n) x ∙ b))))
idle_unnamed sizes es s (Deploy d k i n) t c r h a b = apart d c (λ x. let w = stood _ _ t h in
    let y = next_context sizes s d k i n w.0 in
    none-some Idle (sym (ap duty_at (next_none s.contexts))
    ∙ (ap (λ m. duty_of s.contexts m) (sym y ∙ x) ∙ a)))
idle_unnamed sizes es s (Refill d m q) t c r h a b = apart d c (λ x. let w = stood _ _ t h in
    no_both _ (refill_open sizes s d m q w.0)
    (idle_serves_none s d (ap (λ n. duty_of s.contexts n) x ∙ a)))
idle_unnamed sizes es s (Built d k w) t c r h a b = apart d c (λ x. let v = stood _ _ t h in
    no_both _ (build_open sizes s d k v.0)
    (idle_serves_none s d (ap (λ n. duty_of s.contexts n) x ∙ a)))
idle_unnamed sizes es s (Keep k) t c r h a b = refl
idle_unnamed sizes es s (Dup k) t c r h a b = refl
idle_unnamed sizes es s (Drop k) t c r h a b = refl
idle_unnamed sizes es s (Evict d) t c r h a b = apart d c (λ x. let w = stood _ _ t h in
    let q : IsIdleAt s.contexts d = ap (λ n. duty_of s.contexts n) x ∙ a in
    over_differs (sym (duty_now d Over s.contexts q) ∙ (ap (duty_in d) w.1
    ∙ (ap (λ n. duty_of t.contexts n) x ∙ b))))
idle_unnamed sizes es s (Park d) t c r h a b = apart d c (λ x. let w = stood _ _ t h in
    let busy = parks_busy sizes s s.owed d ((reached_sound sizes es s r).owed) w.0 in
    serves_differs busy.0 (sym busy.1 ∙ (ap (λ n. duty_of s.contexts n) x ∙ a)))
idle_unnamed sizes es s (End d) t c r h a b = apart d c (λ x. let w = stood _ _ t h in
    let q : IsIdleAt s.contexts d = ap (λ n. duty_of s.contexts n) x ∙ a in
    over_differs (sym (duty_now d Over s.contexts q) ∙ (ap (duty_in d) w.1
    ∙ (ap (λ n. duty_of t.contexts n) x ∙ b))))
idle_unnamed sizes es s (Back m) t c r h a b = refl
idle_unnamed sizes es s (Refuse j) t c r h a b = refl
idle_unnamed sizes es s (Want j) t c r h a b = refl
idle_unnamed sizes es s (Answer i d u) t c r h a b = apart d c (λ x. let w = stood _ _ t h in
    no_both _ (answer_serves s i d u w.0)
    (idle_serves_not s d i (ap (λ n. duty_of s.contexts n) x ∙ a)))
