-- What every state that is reached keeps.
use Rattle.std.proofs.Common.{◌≡◌, ◌≢◌, ℕ, ◌+◌, ◌<◌, ◌≤◌, ◌==◌, ◌&&◌, ◌||◌, Bool, true, false}
use Rattle.std.proofs.Common.{cond, ◌⊎◌, inl, inr}
use Rattle.std.proofs.Common.{List, [], ◌∷◌, ◌++◌, length, Option, None, Some, refl, sym, ◌∙◌, ap}
use Rattle.std.proofs.Common.{arith, subst}
use Rattle.std.proofs.Common.{nat_le, nat_lt, is_none}
use Rattle.std.specs.Prelude.{option_and_then}
use Rattle.std.proofs.lemmas.Bool.Decides.{nat_tests}
use Rattle.std.proofs.lemmas.Option.{none-some, same_Some}
use Rattle.journal_model.specs.Extents.{Extents}
use Rattle.journal_model.specs.State.{State, numbered, contains, without, is_full}
use Rattle.journal_model.specs.State.{highest_kept, stack_of}
use Rattle.journal_model.specs.Bounds.{HasRooms, ServesOnce}
use Rattle.journal_model.proofs.Apart.{Has, IsApart, apart_distinct}
use Rattle.journal_model.specs.Legal as legal
use Rattle.journal_model.specs.Legal.{after, step_if, with_duty, with_layer, with_used}
use Rattle.journal_model.specs.Legal.{with_standing}
use Rattle.journal_model.specs.Legal.{with_service, owes_nothing, owed_after_built}
use Rattle.journal_model.specs.Legal.{owed_after_answer}
use Rattle.std.specs.List.{slice_get}
use Rattle.journal_model.proofs.Folds.{go_on, all_more, none_first}
use Rattle.journal_model.specs.declared.event.Event.{Event}
use Rattle.journal_model.specs.declared.event.Event.TheVariants.{Start, Take, Deploy, Refill}
use Rattle.journal_model.specs.declared.event.Event.TheVariants.{Built, Keep, Dup, Drop, Evict}
use Rattle.journal_model.specs.declared.event.Event.TheVariants.{Park, End, Back, Refuse, Want}
use Rattle.journal_model.specs.declared.event.Event.TheVariants.{Answer}
use Rattle.journal_model.specs.declared.answer.How.TheVariants as how
use Rattle.journal_model.specs.declared.state.Standing.TheVariants.{Answered, Refused, Wanted}
use Rattle.journal_model.specs.declared.answer.How.{How}
use Rattle.journal_model.specs.declared.state.RequestState.{RequestState}
use Rattle.journal_model.specs.declared.state.Standing.{Standing}
use Rattle.journal_model.specs.declared.state.ContextState.{ContextState}
use Rattle.journal_model.specs.declared.state.Duty.{Duty}
use Rattle.journal_model.specs.declared.state.Duty.TheVariants.{Idle, Serves, Over}
use Rattle.journal_model.specs.declared.state.Owed.{Owed}
use Rattle.journal_model.specs.declared.state.Owed.TheVariants as owed
use Rattle.journal_model.proofs.Recents.{same, absent, without_less, without_gone}
use Rattle.journal_model.proofs.Recents.{without_distinct, without_most, without_fewer, last_has}
use Rattle.journal_model.proofs.Recents.{highest_has}
use Rattle.journal_model.proofs.Looks.{look, look_other, look_set, set_some, look_kept, decide}
use Rattle.journal_model.proofs.Looks.{look_only, look_push, look_pushed}
use Rattle.journal_model.proofs.Frames.{and_first, and_second, stood}

abbrev duty_one : ContextState → Option Duty
duty_one x = Some x.duty

abbrev given_one : RequestState → Option ℕ
given_one r = r.context

abbrev pub duty_of : List ContextState → ℕ → Option Duty
duty_of xs c = look duty_one xs c

abbrev pub given_of : List RequestState → ℕ → Option ℕ
given_of rs i = look given_one rs i

-- the context serves a request
abbrev pub IsBusy : List ContextState → ℕ → Type 0
IsBusy xs c = (i : ℕ) × (duty_of xs c ≡ Some (Serves i))

-- the idle contexts are idle
abbrev pub AreIdle : List ContextState → List ℕ → Type 0
AreIdle xs idle = (c : ℕ) → Has c idle → duty_of xs c ≡ Some Idle

-- a context that serves a request is the one that the request was given
abbrev pub AreGiven : List ContextState → List RequestState → Type 0
AreGiven xs rs = (c i : ℕ) → duty_of xs c ≡ Some (Serves i) → given_of rs i ≡ Some c

-- what is owed can be done
abbrev pub CanDo : Extents → (idle kept : List ℕ) → List ContextState → Owed → Type 0
CanDo sizes idle kept xs owed.Nothing = Unit {0}
CanDo sizes idle kept xs (owed.Dup k) = Unit {0}
CanDo sizes idle kept xs (owed.Keep k) = (Has k kept → ⊥) × (length kept < sizes.layers)
CanDo sizes idle kept xs (owed.DropThenKeep k) = Has k kept → ⊥
CanDo sizes idle kept xs (owed.End c) = IsBusy xs c
CanDo sizes idle kept xs (owed.EndOrPark c) = IsBusy xs c × (length idle < sizes.idle)
CanDo sizes idle kept xs (owed.EndOrEvict c) = IsBusy xs c
CanDo sizes idle kept xs (owed.Park c) = IsBusy xs c × (length idle < sizes.idle)

pub record Sound (sizes : Extents) (s : State) : Type 0 where
  pub idle_distinct : IsApart s.idle
  pub idle_room : length s.idle ≤ sizes.idle
  pub kept_distinct : IsApart s.kept
  pub kept_room : length s.kept ≤ sizes.layers
  pub idle : AreIdle s.contexts s.idle
  pub given : AreGiven s.contexts s.requests
  pub owed : CanDo sizes s.idle s.kept s.contexts s.owed

-- # Parts

nothing : (sizes : Extents) (idle kept : List ℕ) (xs : List ContextState) (o : Owed) →
    owes_nothing o ≡ true → CanDo sizes idle kept xs o
nothing sizes idle kept xs owed.Nothing h = tt
nothing sizes idle kept xs (owed.Dup k) h = tt
nothing sizes idle kept xs (owed.Keep k) h = absurd (cc)
nothing sizes idle kept xs (owed.DropThenKeep k) h = absurd (cc)
nothing sizes idle kept xs (owed.End c) h = absurd (cc)
nothing sizes idle kept xs (owed.EndOrPark c) h = absurd (cc)
nothing sizes idle kept xs (owed.EndOrEvict c) h = absurd (cc)
nothing sizes idle kept xs (owed.Park c) h = absurd (cc)

-- a busy context isn't idle
not_idle : (xs : List ContextState) (idle : List ℕ) (c i : ℕ) → AreIdle xs idle →
    duty_of xs c ≡ Some (Serves i) → Has c idle → ⊥
not_idle xs idle c i a h k = let e : Some Idle ≡ Some (Serves i) = sym (a c k) ∙ h in cc

duty_other : (c m : ℕ) (d : Duty) (xs : List ContextState) → m ≢ c →
    duty_of (with_duty c d xs) m ≡ duty_of xs m
unfolding with_duty
duty_other c m d xs h = look_other duty_one (λ (x : ContextState). record x { duty = d }) c m xs h

duty_set : (c : ℕ) (d e : Duty) (xs : List ContextState) → duty_of xs c ≡ Some e →
    duty_of (with_duty c d xs) c ≡ Some d
unfolding with_duty
duty_set c d e xs h =
    look_set duty_one (λ (x : ContextState). record x { duty = d }) (Some d) c xs e (λ x. refl) h

-- the idle contexts stay idle where another gets a duty
idle_stay : (xs : List ContextState) (idle : List ℕ) (c : ℕ) (d : Duty) → AreIdle xs idle →
    (Has c idle → ⊥) → AreIdle (with_duty c d xs) idle
idle_stay xs idle c d a f m h = elim (decide m c) [
  | inl e ↦ absurd (let P : ℕ → Type 0 = λ n. Has n idle in f (subst P e h))
  | inr n ↦ duty_other c m d xs n ∙ a m h
]

duty_only : (c : ℕ) (d e : Duty) (xs : List ContextState) →
    duty_of (with_duty c d xs) c ≡ Some e → e ≡ d
unfolding with_duty
duty_only c d e xs h =
    look_only duty_one (λ (x : ContextState). record x { duty = d }) d e c xs (λ x. refl) h

-- what is given stays so where a context gets a duty that is none
given_idle : (xs : List ContextState) (rs : List RequestState) (c : ℕ) (d : Duty) →
    ((i : ℕ) → d ≡ Serves i → ⊥) → AreGiven xs rs → AreGiven (with_duty c d xs) rs
given_idle xs rs c d never g m i h = elim (decide m c) [
  | inl e ↦ (let P : ℕ → Type 0 = λ n. duty_of (with_duty c d xs) n ≡ Some (Serves i) in
      absurd (never i (sym (duty_only c d (Serves i) xs (subst P e h)))))
  | inr n ↦ g m i (sym (duty_other c m d xs n) ∙ h)
]

-- a waiting request was started, and was given no context
record Waits (rs : List RequestState) (i : ℕ) : Type 0 where
  one : RequestState
  started : numbered rs i ≡ Some one
  without_context : given_of rs i ≡ None

none_is : {A : Type 0} (o : Option A) → is_none o ≡ true → o ≡ None
none_is None h = refl
none_is (Some x) h = absurd (cc)

waits_at : (rs : List RequestState) (i : ℕ) (o : Option RequestState) → numbered rs i ≡ o →
    legal.is_waiting_one o ≡ true → Waits rs i
waits_at rs i None e h = absurd (cc)
waits_at rs i (Some r) e h = record {
  one = r;
  started = e;
  without_context = ap (option_and_then given_one) e ∙ none_is r.context (and_second _ _ h);
}

waits : (s : State) (i : ℕ) → legal.is_waiting s i ≡ true → Waits s.requests i
unfolding legal.is_waiting
waits s i h = waits_at s.requests i (numbered s.requests i) refl h

service_set : (i : ℕ) (h : How) (c u : ℕ) (rs : List RequestState) (r : RequestState) →
    numbered rs i ≡ Some r → given_of (with_service i h c u rs) i ≡ Some c
unfolding with_service
service_set i h c u rs r e = set_some given_one
    (λ (r : RequestState). record r { how = h; context = Some c; used = u }) (Some c) i rs r
    (numbered rs i) (λ x. refl) refl e

service_other : (i : ℕ) (h : How) (c u j : ℕ) (rs : List RequestState) → j ≢ i →
    given_of (with_service i h c u rs) j ≡ given_of rs j
unfolding with_service
service_other i h c u j rs n = look_other given_one
    (λ (r : RequestState). record r { how = h; context = Some c; used = u }) i j rs n

-- what was given stays, where a waiting request is given a context
given_after : (rs : List RequestState) (i : ℕ) (h : How) (c u m j : ℕ) → Waits rs i →
    (given_of rs j ≡ Some m) ⊎ ((m ≡ c) × (j ≡ i)) → given_of (with_service i h c u rs) j ≡ Some m
given_after rs i h c u m j w k = elim k [
  | inl g ↦ elim (decide j i) [
    | inl e ↦ (let P : ℕ → Type 0 = λ n. given_of rs n ≡ Some m in
        absurd (none-some m (sym w.without_context ∙ subst P e g)))
    | inr n ↦ service_other i h c u j rs n ∙ g
  ]
  | inr p ↦ (let P : ℕ → Type 0 = λ n. given_of (with_service i h c u rs) n ≡ Some c in
      subst P (sym p.1) (service_set i h c u rs w.one w.started) ∙ ap Some (sym p.0))
]

serves_is : (i j : ℕ) → Serves i ≡ Serves j → i ≡ j
serves_is i j h = cc

given_taken : (xs : List ContextState) (rs : List RequestState) (i : ℕ) (h : How) (c u : ℕ) →
    Waits rs i → AreGiven xs rs → AreGiven (with_duty c (Serves i) xs) (with_service i h c u rs)
given_taken xs rs i h c u w g m j k = given_after rs i h c u m j w (elim (decide m c) [
  | inl e ↦ (let P : ℕ → Type 0 = λ n. duty_of (with_duty c (Serves i) xs) n ≡ Some (Serves j) in
      inr (e, serves_is j i (duty_only c (Serves i) (Serves j) xs (subst P e k))))
  | inr n ↦ inl (g m j (sym (duty_other c m (Serves i) xs n) ∙ k))
])

given_deployed : (xs : List ContextState) (x : ContextState) (rs : List RequestState) (i : ℕ)
    (h : How) (c u : ℕ) → c ≡ length xs + 1 → x.duty ≡ Serves i → Waits rs i → AreGiven xs rs →
    AreGiven (xs ++ x ∷ []) (with_service i h c u rs)
given_deployed xs x rs i h c u n d w g m j k = given_after rs i h c u m j w
    (elim (look_pushed duty_one xs m x (Serves j) k) [
      | inl o ↦ inl (g m j o)
      | inr p ↦ inr (p.0 ∙ sym n, serves_is j i (sym (same_Some x.duty (Serves j) p.1) ∙ d))
    ])

-- # What is owed

room_left : (room : ℕ) (xs : List ℕ) → is_full room xs ≡ false → length xs < room
room_left room xs h = grind (arith, nat_tests)

built_can : (sizes : Extents) (idle kept : List ℕ) (xs : List ContextState) (k : ℕ) (b f : Bool) →
    (b ≡ false → Has k kept → ⊥) → (f ≡ false → length kept < sizes.layers) →
    CanDo sizes idle kept xs (cond b (owed.Dup k) (cond f (owed.DropThenKeep k) (owed.Keep k)))
built_can sizes idle kept xs k true f a r = tt
built_can sizes idle kept xs k false true a r = a refl
built_can sizes idle kept xs k false false a r = (a refl, r refl)

answer_can : (sizes : Extents) (idle kept : List ℕ) (xs : List ContextState) (c : ℕ) (b f : Bool) →
    IsBusy xs c → (f ≡ false → length idle < sizes.idle) → CanDo sizes idle kept xs
    (cond b (cond f (owed.EndOrEvict c) (owed.EndOrPark c)) (owed.End c))
answer_can sizes idle kept xs c false f i r = i
answer_can sizes idle kept xs c true true i r = i
answer_can sizes idle kept xs c true false i r = (i, r refl)

keep_can : (sizes : Extents) (idle kept : List ℕ) (xs : List ContextState) (o : Owed) (k : ℕ) →
    legal.owes_keep o k ≡ true → CanDo sizes idle kept xs o →
    (Has k kept → ⊥) × (length kept < sizes.layers)
keep_can sizes idle kept xs owed.Nothing k h d = absurd (cc)
keep_can sizes idle kept xs (owed.Dup j) k h d = absurd (cc)
keep_can sizes idle kept xs (owed.Keep j) k h d =
    let P : ℕ → Type 0 = λ n. (Has n kept → ⊥) × (length kept < sizes.layers) in
    subst P (same j k h) d
keep_can sizes idle kept xs (owed.DropThenKeep j) k h d = absurd (cc)
keep_can sizes idle kept xs (owed.End c) k h d = absurd (cc)
keep_can sizes idle kept xs (owed.EndOrPark c) k h d = absurd (cc)
keep_can sizes idle kept xs (owed.EndOrEvict c) k h d = absurd (cc)
keep_can sizes idle kept xs (owed.Park c) k h d = absurd (cc)

drop_can : (sizes : Extents) (idle kept : List ℕ) (xs : List ContextState) (o : Owed) (j : ℕ) →
    Has j kept → length kept ≤ sizes.layers → CanDo sizes idle kept xs o →
    CanDo sizes idle (without j kept) xs (legal.owed_after_drop o)
drop_can sizes idle kept xs owed.Nothing j h r d = tt
drop_can sizes idle kept xs (owed.Dup k) j h r d = tt
drop_can sizes idle kept xs (owed.Keep k) j h r d = tt
drop_can sizes idle kept xs (owed.DropThenKeep k) j h r d =
    let l : length (without j kept) + 1 ≡ length kept = without_fewer j kept h in
    (λ m. d (without_less j k kept m), omega arith)
drop_can sizes idle kept xs (owed.End c) j h r d = tt
drop_can sizes idle kept xs (owed.EndOrPark c) j h r d = tt
drop_can sizes idle kept xs (owed.EndOrEvict c) j h r d = tt
drop_can sizes idle kept xs (owed.Park c) j h r d = tt

still_busy : (xs : List ContextState) (idle : List ℕ) (c e : ℕ) (d : Duty) → AreIdle xs idle →
    Has e idle → IsBusy xs c → IsBusy (with_duty e d xs) c
still_busy xs idle c e d a h b = (
  b.0,
  elim (decide c e) [
    | inl n ↦ absurd (let P : ℕ → Type 0 = λ m. Has m idle in
        not_idle xs idle c b.0 a b.1 (subst P (sym n) h))
    | inr n ↦ duty_other e c d xs n ∙ b.1
  ],
)

evict_can : (sizes : Extents) (idle kept : List ℕ) (xs : List ContextState) (o : Owed) (e : ℕ) →
    AreIdle xs idle → Has e idle → length idle ≤ sizes.idle → CanDo sizes idle kept xs o →
    CanDo sizes (without e idle) kept (with_duty e Over xs) (legal.owed_after_evict o)
evict_can sizes idle kept xs owed.Nothing e a h r d = tt
evict_can sizes idle kept xs (owed.Dup k) e a h r d = tt
evict_can sizes idle kept xs (owed.Keep k) e a h r d = tt
evict_can sizes idle kept xs (owed.DropThenKeep k) e a h r d = tt
evict_can sizes idle kept xs (owed.End c) e a h r d = tt
evict_can sizes idle kept xs (owed.EndOrPark c) e a h r d = tt
evict_can sizes idle kept xs (owed.EndOrEvict c) e a h r d =
    let l : length (without e idle) + 1 ≡ length idle = without_fewer e idle h in
    (still_busy xs idle c e Over a h d, omega arith)
evict_can sizes idle kept xs (owed.Park c) e a h r d = tt

park_can : (sizes : Extents) (idle kept : List ℕ) (xs : List ContextState) (o : Owed) (c : ℕ) →
    legal.owes_park o c ≡ true → CanDo sizes idle kept xs o →
    IsBusy xs c × (length idle < sizes.idle)
park_can sizes idle kept xs owed.Nothing c h d = absurd (cc)
park_can sizes idle kept xs (owed.Dup k) c h d = absurd (cc)
park_can sizes idle kept xs (owed.Keep k) c h d = absurd (cc)
park_can sizes idle kept xs (owed.DropThenKeep k) c h d = absurd (cc)
park_can sizes idle kept xs (owed.End e) c h d = absurd (cc)
park_can sizes idle kept xs (owed.EndOrPark e) c h d =
    let P : ℕ → Type 0 = λ n. IsBusy xs n × (length idle < sizes.idle) in subst P (same e c h) d
park_can sizes idle kept xs (owed.EndOrEvict e) c h d = absurd (cc)
park_can sizes idle kept xs (owed.Park e) c h d =
    let P : ℕ → Type 0 = λ n. IsBusy xs n × (length idle < sizes.idle) in subst P (same e c h) d

end_can : (sizes : Extents) (idle kept : List ℕ) (xs : List ContextState) (o : Owed) (c : ℕ) →
    legal.owes_end o c ≡ true → CanDo sizes idle kept xs o → IsBusy xs c
end_can sizes idle kept xs owed.Nothing c h d = absurd (cc)
end_can sizes idle kept xs (owed.Dup k) c h d = absurd (cc)
end_can sizes idle kept xs (owed.Keep k) c h d = absurd (cc)
end_can sizes idle kept xs (owed.DropThenKeep k) c h d = absurd (cc)
end_can sizes idle kept xs (owed.End e) c h d =
    let P : ℕ → Type 0 = IsBusy xs in subst P (same e c h) d
end_can sizes idle kept xs (owed.EndOrPark e) c h d =
    let P : ℕ → Type 0 = IsBusy xs in subst P (same e c h) d.0
end_can sizes idle kept xs (owed.EndOrEvict e) c h d =
    let P : ℕ → Type 0 = IsBusy xs in subst P (same e c h) d
end_can sizes idle kept xs (owed.Park e) c h d = absurd (cc)

duty_is : (i : ℕ) (d : Duty) → legal.is_duty i d ≡ true → d ≡ Serves i
duty_is i Idle h = absurd (cc)
duty_is i (Serves j) h = ap (λ n. Serves n) (same j i h)
duty_is i Over h = absurd (cc)

serves_at : (i : ℕ) (o : Option ContextState) → legal.serves_one i o ≡ true →
    option_and_then duty_one o ≡ Some (Serves i)
serves_at i None h = absurd (cc)
serves_at i (Some x) h = ap Some (duty_is i x.duty h)

pub serves_duty : (s : State) (c i : ℕ) → legal.serves s c i ≡ true →
    duty_of s.contexts c ≡ Some (Serves i)
unfolding legal.serves
serves_duty s c i h = serves_at i (numbered s.contexts c) h

nobody : (s : State) → legal.is_failed s 0 ≡ true → ⊥
unfolding legal.is_failed numbered
nobody s h = cc

failed_duty : (s : State) (c : ℕ) (x : ContextState) (d : Duty) → numbered s.contexts c ≡ Some x →
    x.duty ≡ d → legal.is_failed s (legal.served_by_duty d) ≡ true → IsBusy s.contexts c
failed_duty s c x Idle e k h = absurd (nobody s h)
failed_duty s c x (Serves i) e k h = (i, ap (option_and_then duty_one) e ∙ ap Some k)
failed_duty s c x Over e k h = absurd (nobody s h)

failed_at : (s : State) (c : ℕ) (o : Option ContextState) → numbered s.contexts c ≡ o →
    legal.is_failed s (legal.served_by_one o) ≡ true → IsBusy s.contexts c
failed_at s c None e h = absurd (nobody s h)
failed_at s c (Some x) e h = failed_duty s c x x.duty e refl h

-- a context whose request was refused or wanted serves it
failed_busy : (s : State) (c : ℕ) → legal.is_failed s (legal.served_by s c) ≡ true →
    IsBusy s.contexts c
unfolding legal.served_by
failed_busy s c h = failed_at s c (numbered s.contexts c) refl h

-- # Events

sound_start : (sizes : Extents) (s : State) (f t : ℕ) → Sound sizes s →
    Sound sizes (legal.after_start s f t)
unfolding legal.after_start
sound_start sizes s f t k = record {
  idle_distinct = k.idle_distinct;
  idle_room = k.idle_room;
  kept_distinct = k.kept_distinct;
  kept_room = k.kept_room;
  idle = k.idle;
  given = λ c i h. look_push given_one s.requests i _ c (k.given c i h);
  owed = k.owed;
}

sound_take : (sizes : Extents) (s : State) (c i : ℕ) → legal.may_take s c i ≡ true →
    Sound sizes s → Sound sizes (legal.after_take s c i)
unfolding legal.after_take legal.may_take
sound_take sizes s c i m k = record {
  idle_distinct = without_distinct c s.idle k.idle_distinct;
  idle_room = (let l : length (without c s.idle) ≤ length s.idle = without_most c s.idle in
      let r : length s.idle ≤ sizes.idle = k.idle_room in omega arith);
  kept_distinct = k.kept_distinct;
  kept_room = k.kept_room;
  idle = idle_stay s.contexts (without c s.idle) c (Serves i)
      (λ n h. k.idle n (without_less c n s.idle h)) (without_gone c s.idle k.idle_distinct);
  given = given_taken s.contexts s.requests i how.Hot c (legal.answered_by s c)
      (waits s i (and_second _ _ (and_first _ _ m))) k.given;
  owed = nothing sizes _ _ _ s.owed (and_first _ _ (and_first _ _ m));
}

place_has : (o : Option ℕ) (k : ℕ) (kept : List ℕ) → ((j : ℕ) → o ≡ Some j → Has j kept) →
    legal.same_place o (Some k) ≡ true → Has k kept
place_has None k kept f h = absurd (cc)
place_has (Some j) k kept f h =
    let P : ℕ → Type 0 = λ n. Has n kept in subst P (same j k h) (f j refl)

front_distinct : (k : Option ℕ) (kept stack : List ℕ) →
    legal.same_place (highest_kept kept stack) k ≡ true →
    IsApart kept → (room : ℕ) → length kept ≤ room →
    IsApart (legal.to_front k kept) × (length (legal.to_front k kept) ≤ room)
front_distinct None kept stack h d room r = (d, r)
front_distinct (Some k) kept stack h d room r =
    let m : Has k kept = place_has (highest_kept kept stack) k kept (highest_has kept stack) h in
    let l : length (without k kept) + 1 ≡ length kept = without_fewer k kept m in
    ((without_gone k kept d, without_distinct k kept d), omega arith)

sound_deploy : (sizes : Extents) (s : State) (c : ℕ) (k : Option ℕ) (i n : ℕ) →
    legal.may_deploy sizes s c k i n ≡ true → Sound sizes s →
    Sound sizes (legal.after_deploy sizes s c k i n)
unfolding legal.after_deploy legal.may_deploy
sound_deploy sizes s c k i n m z =
    let a = and_first _ _ (and_first _ _ m) in
    let place = and_second _ _ a in
    let b = and_first _ _ a in
    let next = same c (length s.contexts + 1) (and_second _ _ b) in
    let w = and_first _ _ (and_first _ _ b) in
    let f = front_distinct k s.kept (stack_of sizes (legal.request_function s i)) place
    z.kept_distinct sizes.layers z.kept_room in
    record {
      idle_distinct = z.idle_distinct;
      idle_room = z.idle_room;
      kept_distinct = f.0;
      kept_room = f.1;
      idle = λ j h. look_push duty_one s.contexts j _ Idle (z.idle j h);
      given = given_deployed s.contexts _ s.requests i _ c 0 next refl
          (waits s i (and_second _ _ w)) z.given;
      owed = nothing sizes _ _ _ s.owed (and_first _ _ w);
    }

-- free frames and the clock are no matter here
sound_refill : (sizes : Extents) (s : State) (n : ℕ) → Sound sizes s →
    Sound sizes (legal.after_refill s n)
unfolding legal.after_refill
sound_refill sizes s n k = record {
  idle_distinct = k.idle_distinct;
  idle_room = k.idle_room;
  kept_distinct = k.kept_distinct;
  kept_room = k.kept_room;
  idle = k.idle;
  given = k.given;
  owed = k.owed;
}

sound_back : (sizes : Extents) (s : State) (n : ℕ) → Sound sizes s →
    Sound sizes (legal.after_back s n)
unfolding legal.after_back
sound_back sizes s n k = record {
  idle_distinct = k.idle_distinct;
  idle_room = k.idle_room;
  kept_distinct = k.kept_distinct;
  kept_room = k.kept_room;
  idle = k.idle;
  given = k.given;
  owed = k.owed;
}

layer_duty : (c k m : ℕ) (xs : List ContextState) → duty_of (with_layer c k xs) m ≡ duty_of xs m
unfolding with_layer
layer_duty c k m xs =
    look_kept duty_one (λ (x : ContextState). record x { layer = Some k }) c m xs (λ x. refl)

used_duty : (c n m : ℕ) (xs : List ContextState) → duty_of (with_used c n xs) m ≡ duty_of xs m
unfolding with_used
used_duty c n m xs =
    look_kept duty_one (λ (x : ContextState). record x { used = n }) c m xs (λ x. refl)

standing_given : (i : ℕ) (t : Standing) (p : Option ℕ) (j : ℕ) (rs : List RequestState) →
    given_of (with_standing i t p rs) j ≡ given_of rs j
unfolding with_standing
standing_given i t p j rs =
    look_kept given_one (λ (r : RequestState). record r { standing = t; place = p }) i j rs
    (λ r. refl)

sound_built : (sizes : Extents) (s : State) (c k : ℕ) → Sound sizes s →
    Sound sizes (legal.after_built sizes s c k)
unfolding legal.after_built owed_after_built
sound_built sizes s c k z = record {
  idle_distinct = z.idle_distinct;
  idle_room = z.idle_room;
  kept_distinct = z.kept_distinct;
  kept_room = z.kept_room;
  idle = λ m h. layer_duty c k m s.contexts ∙ z.idle m h;
  given = λ m i h. z.given m i (sym (layer_duty c k m s.contexts) ∙ h);
  owed = built_can sizes s.idle s.kept (with_layer c k s.contexts) k (contains k s.kept)
      (is_full sizes.layers s.kept) (absent k s.kept) (room_left sizes.layers s.kept);
}

sound_keep : (sizes : Extents) (s : State) (k : ℕ) → legal.owes_keep s.owed k ≡ true →
    Sound sizes s → Sound sizes (legal.after_keep s k)
unfolding legal.after_keep
sound_keep sizes s k m z =
    let f = keep_can sizes s.idle s.kept s.contexts s.owed k m z.owed in
    let l : length s.kept < sizes.layers = f.1 in
    record {
      idle_distinct = z.idle_distinct;
      idle_room = z.idle_room;
      kept_distinct = (f.0, z.kept_distinct);
      kept_room = omega arith;
      idle = z.idle;
      given = z.given;
      owed = tt;
    }

sound_dup : (sizes : Extents) (s : State) → Sound sizes s → Sound sizes (legal.after_dup s)
unfolding legal.after_dup
sound_dup sizes s z = record {
  idle_distinct = z.idle_distinct;
  idle_room = z.idle_room;
  kept_distinct = z.kept_distinct;
  kept_room = z.kept_room;
  idle = z.idle;
  given = z.given;
  owed = tt;
}

sound_drop : (sizes : Extents) (s : State) (j : ℕ) → legal.may_drop sizes s j ≡ true →
    Sound sizes s → Sound sizes (legal.after_drop s j)
unfolding legal.after_drop legal.may_drop
sound_drop sizes s j m z =
    let l = last_has s.kept j (and_second _ _ m) in
    record {
      idle_distinct = z.idle_distinct;
      idle_room = z.idle_room;
      kept_distinct = without_distinct j s.kept z.kept_distinct;
      kept_room = (let f : length (without j s.kept) ≤ length s.kept = without_most j s.kept in
          let r : length s.kept ≤ sizes.layers = z.kept_room in omega arith);
      idle = z.idle;
      given = z.given;
      owed = drop_can sizes s.idle s.kept s.contexts s.owed j l z.kept_room z.owed;
    }

sound_evict : (sizes : Extents) (s : State) (e : ℕ) → legal.may_evict sizes s e ≡ true →
    Sound sizes s → Sound sizes (legal.after_evict s e)
unfolding legal.after_evict legal.may_evict
sound_evict sizes s e m z =
    let l = last_has s.idle e (and_second _ _ m) in
    record {
      idle_distinct = without_distinct e s.idle z.idle_distinct;
      idle_room = (let f : length (without e s.idle) ≤ length s.idle = without_most e s.idle in
          let r : length s.idle ≤ sizes.idle = z.idle_room in omega arith);
      kept_distinct = z.kept_distinct;
      kept_room = z.kept_room;
      idle = idle_stay s.contexts (without e s.idle) e Over
          (λ n h. z.idle n (without_less e n s.idle h)) (without_gone e s.idle z.idle_distinct);
      given = given_idle s.contexts s.requests e Over (λ i h. cc) z.given;
      owed = evict_can sizes s.idle s.kept s.contexts s.owed e z.idle l z.idle_room z.owed;
    }

parked_idle : (xs : List ContextState) (idle : List ℕ) (c : ℕ) → AreIdle xs idle → IsBusy xs c →
    AreIdle (with_duty c Idle xs) (c ∷ idle)
parked_idle xs idle c a b m h = elim h [
  | inl e ↦ (let P : ℕ → Type 0 = λ n. duty_of (with_duty c Idle xs) n ≡ Some Idle in
      subst P e (duty_set c Idle (Serves b.0) xs b.1))
  | inr k ↦ idle_stay xs idle c Idle a (not_idle xs idle c b.0 a b.1) m k
]

sound_park : (sizes : Extents) (s : State) (c : ℕ) → legal.owes_park s.owed c ≡ true →
    Sound sizes s → Sound sizes (legal.after_park s c)
unfolding legal.after_park
sound_park sizes s c m z =
    let f = park_can sizes s.idle s.kept s.contexts s.owed c m z.owed in
    let l : length s.idle < sizes.idle = f.1 in
    record {
      idle_distinct = (not_idle s.contexts s.idle c f.0.0 z.idle f.0.1, z.idle_distinct);
      idle_room = omega arith;
      kept_distinct = z.kept_distinct;
      kept_room = z.kept_room;
      idle = parked_idle s.contexts s.idle c z.idle f.0;
      given = given_idle s.contexts s.requests c Idle (λ i h. cc) z.given;
      owed = tt;
    }

or_either : (a b : Bool) (P : Type 0) → (a || b) ≡ true → (a ≡ true → P) → (b ≡ true → P) → P
or_either true b P h f g = f refl
or_either false b P h f g = g h

sound_end : (sizes : Extents) (s : State) (c : ℕ) → legal.may_end s c ≡ true →
    Sound sizes s → Sound sizes (legal.after_end s c)
unfolding legal.after_end legal.may_end
sound_end sizes s c m z =
    let b : IsBusy s.contexts c = or_either (legal.owes_end s.owed c) _ (IsBusy s.contexts c) m
    (λ h. end_can sizes s.idle s.kept s.contexts s.owed c h z.owed)
    (λ h. failed_busy s c (and_second _ _ h)) in
    record {
      idle_distinct = z.idle_distinct;
      idle_room = z.idle_room;
      kept_distinct = z.kept_distinct;
      kept_room = z.kept_room;
      idle = idle_stay s.contexts s.idle c Over z.idle
          (not_idle s.contexts s.idle c b.0 z.idle b.1);
      given = given_idle s.contexts s.requests c Over (λ i h. cc) z.given;
      owed = tt;
    }

sound_standing : (sizes : Extents) (s : State) (i : ℕ) (t : Standing) → Sound sizes s →
    Sound sizes (legal.after_standing s i t)
unfolding legal.after_standing
sound_standing sizes s i t z = record {
  idle_distinct = z.idle_distinct;
  idle_room = z.idle_room;
  kept_distinct = z.kept_distinct;
  kept_room = z.kept_room;
  idle = z.idle;
  given = λ c j h. standing_given i t _ j s.requests ∙ z.given c j h;
  owed = z.owed;
}

sound_answer : (sizes : Extents) (s : State) (i c u : ℕ) → legal.may_answer s i c u ≡ true →
    Sound sizes s → Sound sizes (legal.after_answer sizes s i c u)
unfolding legal.after_answer legal.may_answer owed_after_answer
sound_answer sizes s i c u m z =
    let d = serves_duty s c i (and_second _ _ (and_first _ _ m)) in
    let xs = with_used c (u + 1) s.contexts in
    record {
      idle_distinct = z.idle_distinct;
      idle_room = z.idle_room;
      kept_distinct = z.kept_distinct;
      kept_room = z.kept_room;
      idle = λ n h. used_duty c (u + 1) n s.contexts ∙ z.idle n h;
      given = λ n j h. standing_given i Answered _ j s.requests
          ∙ z.given n j (sym (used_duty c (u + 1) n s.contexts) ∙ h);
      owed = answer_can sizes s.idle s.kept xs c (nat_le 1 sizes.idle && nat_lt (u + 1) sizes.uses)
          (is_full sizes.idle s.idle) (i, used_duty c (u + 1) c s.contexts ∙ d)
          (room_left sizes.idle s.idle);
    }

sound_after : (sizes : Extents) (s : State) (e : Event) (t : State) → after sizes s e ≡ Some t →
    Sound sizes s → Sound sizes t
sound_after sizes s (Start i f t) z h k = let r = stood _ _ z h in
    let P : State → Type 0 = Sound sizes in subst P r.1 (sound_start sizes s f t k)
sound_after sizes s (Take c i) z h k = let r = stood _ _ z h in
    let P : State → Type 0 = Sound sizes in subst P r.1 (sound_take sizes s c i r.0 k)
sound_after sizes s (Deploy c l i n) z h k = let r = stood _ _ z h in
    let P : State → Type 0 = Sound sizes in subst P r.1 (sound_deploy sizes s c l i n r.0 k)
sound_after sizes s (Refill c m n) z h k = let r = stood _ _ z h in
    let P : State → Type 0 = Sound sizes in subst P r.1 (sound_refill sizes s n k)
sound_after sizes s (Built c l d) z h k = let r = stood _ _ z h in
    let P : State → Type 0 = Sound sizes in subst P r.1 (sound_built sizes s c l k)
sound_after sizes s (Keep l) z h k = let r = stood _ _ z h in
    let P : State → Type 0 = Sound sizes in subst P r.1 (sound_keep sizes s l r.0 k)
sound_after sizes s (Dup l) z h k = let r = stood _ _ z h in
    let P : State → Type 0 = Sound sizes in subst P r.1 (sound_dup sizes s k)
sound_after sizes s (Drop j) z h k = let r = stood _ _ z h in
    let P : State → Type 0 = Sound sizes in subst P r.1 (sound_drop sizes s j r.0 k)
sound_after sizes s (Evict c) z h k = let r = stood _ _ z h in
    let P : State → Type 0 = Sound sizes in subst P r.1 (sound_evict sizes s c r.0 k)
sound_after sizes s (Park c) z h k = let r = stood _ _ z h in
    let P : State → Type 0 = Sound sizes in subst P r.1 (sound_park sizes s c r.0 k)
sound_after sizes s (End c) z h k = let r = stood _ _ z h in
    let P : State → Type 0 = Sound sizes in subst P r.1 (sound_end sizes s c r.0 k)
sound_after sizes s (Back n) z h k = let r = stood _ _ z h in
    let P : State → Type 0 = Sound sizes in subst P r.1 (sound_back sizes s n k)
sound_after sizes s (Refuse i) z h k = let r = stood _ _ z h in
    let P : State → Type 0 = Sound sizes in subst P r.1 (sound_standing sizes s i Refused k)
sound_after sizes s (Want i) z h k = let r = stood _ _ z h in
    let P : State → Type 0 = Sound sizes in subst P r.1 (sound_standing sizes s i Wanted k)
sound_after sizes s (Answer i c u) z h k = let r = stood _ _ z h in
    let P : State → Type 0 = Sound sizes in subst P r.1 (sound_answer sizes s i c u r.0 k)

none_at : (b : Bool) (i : ℕ) →
    option_and_then duty_one (cond b None (slice_get [] 0)) ≡ Some (Serves i) → ⊥
none_at true i h = none-some (Serves i) h
none_at false i h = none-some (Serves i) h

none_busy : (c i : ℕ) → duty_of [] c ≡ Some (Serves i) → ⊥
unfolding numbered
none_busy c i h = none_at (c == 0) i h

sound_first : (sizes : Extents) → Sound sizes (legal.at_first sizes)
sound_first sizes = record {
  idle_distinct = tt;
  idle_room = omega arith;
  kept_distinct = tt;
  kept_room = omega arith;
  idle = λ c h. absurd h;
  given = λ c i h. absurd (none_busy c i h);
  owed = tt;
}

sound_on : (sizes : Extents) (es : List Event) (next : Option State) (t : State) →
    ((m : State) → next ≡ Some m → Sound sizes m) →
    ((m : State) → Sound sizes m → legal.after_all sizes m es ≡ Some t → Sound sizes t) →
    go_on sizes es next ≡ Some t → Sound sizes t
sound_on sizes es None t f g h = absurd (none-some t h)
sound_on sizes es (Some m) t f g h = g m (f m refl) h

sound_all : (sizes : Extents) (s : State) (es : List Event) (t : State) → Sound sizes s →
    legal.after_all sizes s es ≡ Some t → Sound sizes t
sound_all sizes s [] t k h =
    let P : State → Type 0 = Sound sizes in
    subst P (same_Some s t (sym (none_first sizes s) ∙ h)) k
sound_all sizes s (e ∷ es) t k h = sound_on sizes es (after sizes s e) t
    (λ m l. sound_after sizes s e m l k) (λ m l q. sound_all sizes m es t l q)
    (sym (all_more sizes s e es) ∙ h)

-- each state that is reached is sound
pub reached_sound : (sizes : Extents) (es : List Event) (t : State) →
    legal.after_all sizes (legal.at_first sizes) es ≡ Some t → Sound sizes t
reached_sound sizes es t h = sound_all sizes (legal.at_first sizes) es t (sound_first sizes) h

pub reached_rooms : (sizes : Extents) (es : List Event) (t : State) →
    legal.after_all sizes (legal.at_first sizes) es ≡ Some t → HasRooms sizes t
reached_rooms sizes es t h = let k = reached_sound sizes es t h in record {
  idle_distinct = apart_distinct t.idle k.idle_distinct;
  idle_room = k.idle_room;
  kept_distinct = apart_distinct t.kept k.kept_distinct;
  kept_room = k.kept_room;
}

pub reached_once : (sizes : Extents) (es : List Event) (t : State) →
    legal.after_all sizes (legal.at_first sizes) es ≡ Some t → ServesOnce t
reached_once sizes es t h = let k = reached_sound sizes es t h in record {
  contexts = λ c d i a b. same_Some c d
      (sym (k.given c i (serves_duty t c i a)) ∙ k.given d i (serves_duty t d i b));
  requests = λ c i j a b. serves_is i j (same_Some (Serves i) (Serves j)
      (sym (serves_duty t c i a) ∙ serves_duty t c j b));
}
