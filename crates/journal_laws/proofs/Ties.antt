-- What ties requests, contexts and the idle list together in every state that is reached.
use Rattle.std.proofs.Common.{◌≡◌, ◌≢◌, ℕ, ◌+◌, ◌-◌, ◌<◌, ◌≤◌, ◌==◌, ◌&&◌, ◌||◌, Bool, true, false}
use Rattle.std.proofs.Common.{cond, suc, zero, inl, inr, ◌⊎◌, nat_le, nat_lt, is_none}
use Rattle.std.proofs.Common.{List, [], ◌∷◌, ◌++◌, length, Option, None, Some, refl, sym, ◌∙◌, ap}
use Rattle.std.proofs.Common.{arith, subst}
use Rattle.std.specs.Prelude.{option_and_then, slice_set}
use Rattle.std.proofs.lemmas.Bool.Decides.{nat_tests}
use Rattle.std.proofs.lemmas.Option.{none-some, same_Some}
use Rattle.journal_model.specs.Extents.{Extents}
use Rattle.journal_model.specs.State.{State, numbered, is_just, without, contains, is_full}
use Rattle.journal_model.specs.State.{stack_of}
use Rattle.journal_model.proofs.Apart.{Has}
use Rattle.journal_model.specs.Reads.{answer_from, is_answer_of}
use Rattle.journal_model.specs.Legal as legal
use Rattle.journal_model.specs.Legal.{after, is_open_standing, with_change, with_duty, with_layer}
use Rattle.journal_model.specs.Legal.{with_used, with_standing, with_service, owes_nothing}
use Rattle.journal_model.specs.Legal.{owed_after_built, owed_after_answer, with_numbered}
use Rattle.journal_model.specs.declared.event.Event.{Event}
use Rattle.journal_model.specs.declared.event.Event.TheVariants.{Start, Take, Deploy, Refill}
use Rattle.journal_model.specs.declared.event.Event.TheVariants.{Built, Keep, Dup, Drop, Evict}
use Rattle.journal_model.specs.declared.event.Event.TheVariants.{Park, End, Back, Refuse, Want}
use Rattle.journal_model.specs.declared.event.Event.TheVariants.{Answer}
use Rattle.journal_model.specs.declared.answer.How.{How}
use Rattle.journal_model.specs.declared.answer.How.TheVariants as how
use Rattle.journal_model.specs.declared.state.Standing.{Standing}
use Rattle.journal_model.specs.declared.state.Standing.TheVariants.{Open, Answered, Refused}
use Rattle.journal_model.specs.declared.state.Standing.TheVariants.{Wanted}
use Rattle.journal_model.specs.declared.state.RequestState.{RequestState}
use Rattle.journal_model.specs.declared.state.ContextState.{ContextState}
use Rattle.journal_model.specs.declared.state.Duty.{Duty}
use Rattle.journal_model.specs.declared.state.Duty.TheVariants.{Idle, Serves, Over}
use Rattle.journal_model.specs.declared.state.Owed.{Owed}
use Rattle.journal_model.specs.declared.state.Owed.TheVariants as owed
use Rattle.journal_model.proofs.Recents.{same, just, found_has}
use Rattle.journal_model.proofs.Looks.{changed, decide, look_only, look_pushed}
use Rattle.journal_model.proofs.Looks.{number_pushed}
use Rattle.journal_model.proofs.Frames.{and_first, and_second, stood}
use Rattle.journal_model.proofs.Sound.{Sound, duty_of, serves_duty}
use Rattle.journal_laws.specs.Rests.{used_in, layer_in, IsRested}
use Rattle.journal_laws.specs.Sums.{sum_from}
use Rattle.journal_laws.proofs.Summing.{sum_added, sum_changed}
use Rattle.journal_laws.proofs.Numbers.{changed_other, changed_here, changed_at, pushed_other}
use Rattle.journal_laws.proofs.Numbers.{pushed_here, next_none}
use Rattle.journal_laws.proofs.Naming as naming
use Rattle.journal_laws.proofs.Naming.{IsOpenAt, open_is, next_context}
use Rattle.journal_laws.proofs.Answering.{IsStill, still_same, still_push, still_change}
use Rattle.journal_laws.proofs.Answering.{answer_same, answer_found, open_no_answer, no_and, and_no}
use Rattle.journal_laws.proofs.Answering.{and_and_no}
use Rattle.journal_laws.proofs.Folding.{joined_one}
use Rattle.journal_model.specs.Legal.{after_all, at_first}
use Rattle.journal_model.specs.Reads.{is_answered_standing}
use Rattle.std.specs.List.{slice_get}
use Rattle.journal_model.proofs.Folds.{go_on, all_more, none_first}
use Rattle.journal_model.proofs.Recents.{differ, last_has}
use Rattle.journal_model.proofs.Sound.{reached_sound}

-- # What holds

abbrev pub one_if_given : Option ℕ → ℕ
one_if_given None = 0
one_if_given (Some c) = 1

abbrev pub given_one : ℕ → RequestState → ℕ
given_one n r = one_if_given r.context

abbrev pub given_count : List RequestState → ℕ
given_count rs = sum_from given_one 1 rs

-- an open request with a context is served by it, and was given it as often used as it is
abbrev pub AreServed : List RequestState → List ContextState → Type 0
AreServed rs xs = (i c : ℕ) (r : RequestState) → numbered rs i ≡ Some r →
    is_open_standing r.standing ≡ true → r.context ≡ Some c →
    (duty_of xs c ≡ Some (Serves i)) × (r.used ≡ used_in xs c)

abbrev pub AreListed : List ContextState → List ℕ → Type 0
AreListed xs idle = (c : ℕ) → duty_of xs c ≡ Some Idle → Has c idle

abbrev pub HaveAnswers : List RequestState → List ContextState → Type 0
HaveAnswers rs xs = (c v : ℕ) → v < used_in xs c → (j : ℕ) × (answer_from c v 1 rs ≡ Some j)

abbrev pub HaveNoMore : List RequestState → List ContextState → Type 0
HaveNoMore rs xs = (c v : ℕ) → used_in xs c ≤ v → answer_from c v 1 rs ≡ None

abbrev pub AreRested : (uses : ℕ) → List RequestState → List ContextState → Type 0
AreRested uses rs xs = (c : ℕ) → duty_of xs c ≡ Some Idle → IsRested uses rs xs c

pub record Ties (uses : ℕ) (idle : List ℕ) (rs : List RequestState) (xs : List ContextState)
    : Type 0 where
  pub few : length xs ≤ given_count rs
  pub open_served : AreServed rs xs
  pub listed : AreListed xs idle
  pub answers : HaveAnswers rs xs
  pub no_more : HaveNoMore rs xs
  pub rested : AreRested uses rs xs

-- no open request has the context
abbrev pub IsDone : List RequestState → ℕ → Type 0
IsDone rs c = (i : ℕ) (r : RequestState) → numbered rs i ≡ Some r →
    is_open_standing r.standing ≡ true → r.context ≡ Some c → ⊥

abbrev pub Debt : ℕ → List RequestState → List ContextState → Owed → Type 0
Debt uses rs xs owed.Nothing = Unit {0}
Debt uses rs xs (owed.Dup k) = Unit {0}
Debt uses rs xs (owed.Keep k) = Unit {0}
Debt uses rs xs (owed.DropThenKeep k) = Unit {0}
Debt uses rs xs (owed.End c) = IsDone rs c
Debt uses rs xs (owed.EndOrPark c) = IsDone rs c × IsRested uses rs xs c
Debt uses rs xs (owed.EndOrEvict c) = IsDone rs c × IsRested uses rs xs c
Debt uses rs xs (owed.Park c) = IsDone rs c × IsRested uses rs xs c

pub record Tied (sizes : Extents) (s : State) : Type 0 where
  pub ties : Ties sizes.uses s.idle s.requests s.contexts
  pub debt : Debt sizes.uses s.requests s.contexts s.owed

-- # Parts

debt_none : (uses : ℕ) (rs : List RequestState) (xs : List ContextState) (o : Owed) →
    owes_nothing o ≡ true → Debt uses rs xs o
debt_none uses rs xs owed.Nothing h = tt
debt_none uses rs xs (owed.Dup k) h = tt
debt_none uses rs xs (owed.Keep k) h = tt
debt_none uses rs xs (owed.DropThenKeep k) h = tt
debt_none uses rs xs (owed.End c) h = absurd (cc)
debt_none uses rs xs (owed.EndOrPark c) h = absurd (cc)
debt_none uses rs xs (owed.EndOrEvict c) h = absurd (cc)
debt_none uses rs xs (owed.Park c) h = absurd (cc)

abbrev pub SameUses : List ContextState → List ContextState → Type 0
SameUses xs ys = (m : ℕ) → used_in ys m ≡ used_in xs m

answers_move : (rs qs : List RequestState) (xs ys : List ContextState) → IsStill rs qs →
    SameUses xs ys → HaveAnswers rs xs → HaveAnswers qs ys
answers_move rs qs xs ys k u a c v l =
    let e : used_in ys c ≡ used_in xs c = u c in
    let p = a c v (omega arith) in (p.0, k.answer c v ∙ p.1)

no_more_move : (rs qs : List RequestState) (xs ys : List ContextState) → IsStill rs qs →
    SameUses xs ys → HaveNoMore rs xs → HaveNoMore qs ys
no_more_move rs qs xs ys k u a c v l =
    let e : used_in ys c ≡ used_in xs c = u c in k.answer c v ∙ a c v (omega arith)

rested_move : (uses : ℕ) (rs qs : List RequestState) (xs ys : List ContextState) (c : ℕ) →
    IsStill rs qs → used_in ys c ≡ used_in xs c → layer_in ys c ≡ layer_in xs c →
    IsRested uses rs xs c → IsRested uses qs ys c
rested_move uses rs qs xs ys c k u l z = record {
  before = z.before;
  used = u ∙ z.used;
  below = z.below;
  number = z.number;
  found = k.answer c z.before ∙ z.found;
  one = z.one;
  entry = k.closed z.number z.one z.entry z.closed;
  closed = z.closed;
  place = z.place ∙ sym l;
}

-- # Changes of contexts

kept_at : {A B : Type 0} (g : Option A → B) (f : A → A) (n : ℕ) (xs : List A) (o : Option A) →
    ((x : A) → g (Some (f x)) ≡ g (Some x)) → numbered xs n ≡ o →
    g (numbered (with_change f n xs o) n) ≡ g (numbered xs n)
kept_at g f n xs None s e = refl
kept_at g f n xs (Some x) s e = ap g (changed_at f n xs x (Some x) e refl) ∙ (s x ∙ sym (ap g e))

pub kept_field : {A B : Type 0} (g : Option A → B) (f : A → A) (n m : ℕ) (xs : List A) →
    ((x : A) → g (Some (f x)) ≡ g (Some x)) →
    g (numbered (changed f n xs) m) ≡ g (numbered xs m)
kept_field g f n m xs s = elim (decide m n) [
  | inl e ↦ (let P : ℕ → Type 0 = λ k. g (numbered (changed f n xs) k) ≡ g (numbered xs k) in
      subst P (sym e) (kept_at g f n xs (numbered xs n) s refl))
  | inr d ↦ ap g (changed_other f n m xs d)
]

pub duty_uses : (c : ℕ) (d : Duty) (xs : List ContextState) → SameUses xs (with_duty c d xs)
unfolding with_duty
duty_uses c d xs m = kept_field legal.answered_by_one
    (λ (x : ContextState). record x { duty = d }) c m xs (λ x. refl)

duty_layer : (c : ℕ) (d : Duty) (xs : List ContextState) (m : ℕ) →
    layer_in (with_duty c d xs) m ≡ layer_in xs m
unfolding with_duty
duty_layer c d xs m = kept_field legal.place_of_one
    (λ (x : ContextState). record x { duty = d }) c m xs (λ x. refl)

pub layer_uses : (c k : ℕ) (xs : List ContextState) → SameUses xs (with_layer c k xs)
unfolding with_layer
layer_uses c k xs m = kept_field legal.answered_by_one
    (λ (x : ContextState). record x { layer = Some k }) c m xs (λ x. refl)

used_layer : (c u : ℕ) (xs : List ContextState) (m : ℕ) →
    layer_in (with_used c u xs) m ≡ layer_in xs m
unfolding with_used
used_layer c u xs m = kept_field legal.place_of_one
    (λ (x : ContextState). record x { used = u }) c m xs (λ x. refl)

abbrev pub duty_at : Option ContextState → Option Duty
duty_at o = option_and_then (λ (x : ContextState). Some x.duty) o

layer_duty : (c k m : ℕ) (xs : List ContextState) → duty_of (with_layer c k xs) m ≡ duty_of xs m
unfolding with_layer
layer_duty c k m xs =
    kept_field duty_at (λ (x : ContextState). record x { layer = Some k }) c m xs (λ x. refl)

used_duty : (c u m : ℕ) (xs : List ContextState) → duty_of (with_used c u xs) m ≡ duty_of xs m
unfolding with_used
used_duty c u m xs =
    kept_field duty_at (λ (x : ContextState). record x { used = u }) c m xs (λ x. refl)

duty_other : (c m : ℕ) (d : Duty) (xs : List ContextState) → m ≢ c →
    duty_of (with_duty c d xs) m ≡ duty_of xs m
duty_other c m d xs h = ap duty_at (naming.duty_other c m d xs h)

drawn_at : (xs : List ContextState) (c : ℕ) (d : Duty) (o : Option ContextState) →
    numbered xs c ≡ o → duty_at o ≡ Some d → (x : ContextState) × (numbered xs c ≡ Some x)
drawn_at xs c d None e h = absurd (none-some d h)
drawn_at xs c d (Some x) e h = (x, e)

-- a context that has a duty was drawn
drawn : (xs : List ContextState) (c : ℕ) (d : Duty) → duty_of xs c ≡ Some d →
    (x : ContextState) × (numbered xs c ≡ Some x)
drawn xs c d h = drawn_at xs c d (numbered xs c) refl h

duty_here : (c : ℕ) (d e : Duty) (xs : List ContextState) → duty_of xs c ≡ Some e →
    duty_of (with_duty c d xs) c ≡ Some d
unfolding with_duty
duty_here c d e xs h = let p = drawn xs c e h in
    ap duty_at (changed_here (λ (x : ContextState). record x { duty = d }) c xs p.0 p.1)

duty_only : (c : ℕ) (d e : Duty) (xs : List ContextState) →
    duty_of (with_duty c d xs) c ≡ Some e → e ≡ d
unfolding with_duty
duty_only c d e xs h = look_only (λ (x : ContextState). Some x.duty)
    (λ (x : ContextState). record x { duty = d }) d e c xs (λ x. refl) h

pub used_here : (c u : ℕ) (e : Duty) (xs : List ContextState) → duty_of xs c ≡ Some e →
    used_in (with_used c u xs) c ≡ u
unfolding with_used
used_here c u e xs h = let p = drawn xs c e h in ap legal.answered_by_one
    (changed_here (λ (x : ContextState). record x { used = u }) c xs p.0 p.1)

pub push_uses : (xs : List ContextState) (x : ContextState) → x.used ≡ 0 →
    SameUses xs (xs ++ x ∷ [])
push_uses xs x z m = elim (decide m (length xs + 1)) [
  | inl e ↦ (let P : ℕ → Type 0 = λ n. used_in (xs ++ x ∷ []) n ≡ used_in xs n in
      subst P (sym e) (ap legal.answered_by_one (pushed_here xs x)
      ∙ (z ∙ sym (ap legal.answered_by_one (next_none xs)))))
  | inr d ↦ ap legal.answered_by_one (pushed_other xs m x d)
]

not_next : (xs : List ContextState) (m : ℕ) (d : Duty) → duty_of xs m ≡ Some d →
    m ≢ length xs + 1
not_next xs m d h e = none-some d (sym (ap duty_at (next_none xs))
    ∙ (ap (λ n. duty_at (numbered xs n)) (sym e) ∙ h))

push_layer : (xs : List ContextState) (x : ContextState) (m : ℕ) (d : Duty) →
    duty_of xs m ≡ Some d → layer_in (xs ++ x ∷ []) m ≡ layer_in xs m
push_layer xs x m d h = ap legal.place_of_one (pushed_other xs m x (not_next xs m d h))

serves_not_idle : (i : ℕ) → Serves i ≡ Idle → ⊥
serves_not_idle i h = cc

over_not_idle : Over ≡ Idle → ⊥
over_not_idle h = cc

serves_same : (i j : ℕ) → Serves i ≡ Serves j → i ≡ j
serves_same i j h = cc

busy_differs : (xs : List ContextState) (m c i : ℕ) → duty_of xs m ≡ Some Idle →
    duty_of xs c ≡ Some (Serves i) → m ≢ c
busy_differs xs m c i h k e = serves_not_idle i (same_Some (Serves i) Idle
    (sym k ∙ (ap (λ n. duty_of xs n) (sym e) ∙ h)))

serving_differs : (xs : List ContextState) (m c i : ℕ) (d : Duty) → (Serves i ≡ d → ⊥) →
    duty_of xs m ≡ Some (Serves i) → duty_of xs c ≡ Some d → m ≢ c
serving_differs xs m c i d n h k e = n (same_Some (Serves i) d
    (sym h ∙ (ap (λ q. duty_of xs q) e ∙ k)))

set_length : {A : Type 0} (xs : List A) (k : ℕ) (x : A) → length (slice_set xs k x) ≡ length xs
set_length [] k x = refl
set_length (y ∷ ys) zero x = refl
set_length (y ∷ ys) (suc k) x = ap suc (set_length ys k x)

put_length : {A : Type 0} (b : Bool) (xs : List A) (k : ℕ) (x : A) →
    length (cond b xs (slice_set xs k x)) ≡ length xs
put_length true xs k x = refl
put_length false xs k x = set_length xs k x

change_length : {A : Type 0} (f : A → A) (n : ℕ) (xs : List A) (o : Option A) →
    length (with_change f n xs o) ≡ length xs
unfolding with_numbered
change_length f n xs None = refl
change_length f n xs (Some x) = put_length (n == 0) xs (n - 1) (f x)

duty_length : (c : ℕ) (d : Duty) (xs : List ContextState) →
    length (with_duty c d xs) ≡ length xs
unfolding with_duty
duty_length c d xs = change_length _ c xs (numbered xs c)

layer_length : (c k : ℕ) (xs : List ContextState) → length (with_layer c k xs) ≡ length xs
unfolding with_layer
layer_length c k xs = change_length _ c xs (numbered xs c)

used_length : (c u : ℕ) (xs : List ContextState) → length (with_used c u xs) ≡ length xs
unfolding with_used
used_length c u xs = change_length _ c xs (numbered xs c)

-- # The list of idle contexts

rest_at : (b : Bool) (x z y : ℕ) (ys w : List ℕ) → (b ≡ true → y ≡ x) → z ≢ x →
    (Has z ys → Has z w) → Has z (y ∷ ys) → Has z (cond b ys (y ∷ w))
rest_at true x z y ys w f n g h =
    elim h [ inl e ↦ absurd (n (sym e ∙ f refl)) | inr k ↦ k ]
rest_at false x z y ys w f n g h = elim h [ inl e ↦ inl e | inr k ↦ inr (g k) ]

-- the others stay where one is taken out
pub without_rest : (x z : ℕ) (ys : List ℕ) → z ≢ x → Has z ys → Has z (without x ys)
unfolding without
without_rest x z [] n h = absurd h
without_rest x z (y ∷ ys) n h =
    rest_at (y == x) x z y ys (without x ys) (same y x) n (without_rest x z ys n) h

-- # Counts

pub sum_change : {A : Type 0} (g : ℕ → A → ℕ) (f : A → A) (n : ℕ) (xs : List A) (y : A)
    (o : Option A) → numbered xs n ≡ o → o ≡ Some y →
    sum_from g 1 (with_change f n xs o) + g n y ≡ sum_from g 1 xs + g n (f y)
sum_change g f n xs y None e h = absurd (none-some y h)
sum_change g f n xs y (Some z) e h = let P : _ → Type 0 =
    λ x. sum_from g 1 (with_change f n xs (Some z)) + g n x ≡ sum_from g 1 xs + g n (f x) in
    subst P (same_Some z y h) (sum_changed g n xs (f z) z e)

most_one : {A : Type 0} (g : ℕ → A → ℕ) (n : ℕ) (xs : List A) → ((k : ℕ) (x : A) → g k x ≤ 1) →
    sum_from g n xs ≤ length xs
unfolding sum_from
most_one g n [] h = omega arith
most_one g n (x ∷ xs) h =
    let a = h n x in let b = most_one g (n + 1) xs h in omega arith

given_at_most : (o : Option ℕ) → one_if_given o ≤ 1
given_at_most None = omega arith
given_at_most (Some c) = omega arith

pub given_most : (rs : List RequestState) → given_count rs ≤ length rs
given_most rs = most_one given_one 1 rs (λ k x. given_at_most x.context)

-- # Requests that wait, and that are answered

pub record IsWaitingAt (rs : List RequestState) (i : ℕ) : Type 0 where
  pub open_at : IsOpenAt rs i
  pub none : open_at.one.context ≡ None

none_is : {A : Type 0} (o : Option A) → is_none o ≡ true → o ≡ None
none_is None h = refl
none_is (Some x) h = absurd (cc)

waiting_at : (rs : List RequestState) (i : ℕ) (o : Option RequestState) → numbered rs i ≡ o →
    legal.is_waiting_one o ≡ true → IsWaitingAt rs i
waiting_at rs i None e h = absurd (cc)
waiting_at rs i (Some r) e h = record {
  open_at = record { one = r; entry = e; stands = and_first _ _ h };
  none = none_is r.context (and_second _ _ h);
}

pub waiting_is : (s : State) (i : ℕ) → legal.is_waiting s i ≡ true → IsWaitingAt s.requests i
unfolding legal.is_waiting
waiting_is s i h = waiting_at s.requests i (numbered s.requests i) refl h

take_idle : (s : State) (c i : ℕ) → legal.may_take s c i ≡ true → Has c s.idle
unfolding legal.may_take legal.first_for
take_idle s c i h = found_has _ s.idle c (just _ c (and_second _ _ h))

abbrev given : How → ℕ → ℕ → RequestState → RequestState
given w c u r = record r { how = w; context = Some c; used = u }

pub service_still : (w : How) (c u i : ℕ) (rs : List RequestState) → IsOpenAt rs i →
    IsStill rs (with_service i w c u rs)
unfolding with_service
service_still w c u i rs o = still_change (given w c u) i rs o
    (λ d v. open_no_answer d v (given w c u o.one) o.stands)

service_count : (w : How) (c u i : ℕ) (rs : List RequestState) → IsWaitingAt rs i →
    given_count (with_service i w c u rs) ≡ given_count rs + 1
unfolding with_service
service_count w c u i rs z =
    let e = sum_change given_one (given w c u) i rs z.open_at.one (numbered rs i) refl
    z.open_at.entry in
    let n : one_if_given z.open_at.one.context ≡ 0 = ap one_if_given z.none in
    omega (arith, e)

-- the open requests after a waiting one was given a context: that one, and those from before
pub given_cases : (w : How) (c u i j m : ℕ) (rs : List RequestState) (r : RequestState) →
    IsWaitingAt rs i → numbered (with_service i w c u rs) j ≡ Some r → r.context ≡ Some m →
    ((j ≡ i) × (m ≡ c) × (r.used ≡ u)) ⊎ (numbered rs j ≡ Some r)
unfolding with_service
given_cases w c u i j m rs r z h k = elim (decide j i) [
  | inl e ↦ (let q : given w c u z.open_at.one ≡ r = same_Some (given w c u z.open_at.one) r
      (sym (changed_here (given w c u) i rs z.open_at.one z.open_at.entry)
      ∙ (ap (λ n. numbered (changed (given w c u) i rs) n) (sym e) ∙ h)) in
      inl (
        e,
        same_Some m c (sym k ∙ sym (ap (λ (x : RequestState). x.context) q)),
        sym (ap (λ (x : RequestState). x.used) q),
      ))
  | inr n ↦ inr (sym (changed_other (given w c u) i j rs n) ∙ h)
]

-- # Events

abbrev new_request : ℕ → ℕ → RequestState
new_request f z = record {
  function = f;
  clock = z;
  standing = Open;
  how = how.None;
  context = None;
  used = 0;
  place = None;
}

tied_start : (sizes : Extents) (s : State) (f z : ℕ) → owes_nothing s.owed ≡ true →
    Tied sizes s → Tied sizes (legal.after_start s f z)
unfolding legal.after_start
tied_start sizes s f z n t =
    let k = still_push s.requests _ refl in
    record {
      ties = record {
        few = (let a = t.ties.few in let b = sum_added given_one s.requests (new_request f z) in
            omega (arith, a, b));
        open_served = λ i c r e o q. elim (number_pushed s.requests i _ r e) [
          | inl h ↦ t.ties.open_served i c r h o q
          | inr p ↦ absurd (none-some c (ap (λ (x : RequestState). x.context) p.1 ∙ q))
        ];
        listed = t.ties.listed;
        answers = answers_move s.requests _ s.contexts s.contexts k (λ m. refl) t.ties.answers;
        no_more = no_more_move s.requests _ s.contexts s.contexts k (λ m. refl) t.ties.no_more;
        rested = λ c h. rested_move sizes.uses s.requests _ s.contexts s.contexts c k refl refl
            (t.ties.rested c h);
      };
      debt = debt_none sizes.uses _ s.contexts s.owed n;
    }

taken_served : (w : How) (c u i : ℕ) (rs : List RequestState) (xs : List ContextState) →
    IsWaitingAt rs i → duty_of xs c ≡ Some Idle → u ≡ used_in xs c → AreServed rs xs →
    AreServed (with_service i w c u rs) (with_duty c (Serves i) xs)
taken_served w c u i rs xs z d n a j m r e o k = elim (given_cases w c u i j m rs r z e k) [
  | inl p ↦ (let P : ℕ → ℕ → Type 0 = λ x y.
      (duty_of (with_duty c (Serves i) xs) y ≡ Some (Serves x))
      × (r.used ≡ used_in (with_duty c (Serves i) xs) y) in
      subst (λ x. P x m) (sym p.0) (subst (λ y. P i y) (sym p.1)
      (duty_here c (Serves i) Idle xs d, p.2 ∙ (n ∙ sym (duty_uses c (Serves i) xs c)))))
  | inr h ↦ (let q = a j m r h o k in (
    duty_other c m (Serves i) xs (serving_differs xs m c j Idle (serves_not_idle j) q.0 d)
        ∙ q.0,
    q.1 ∙ sym (duty_uses c (Serves i) xs m),
  ))
]

-- the idle ones among contexts of which one got a duty that isn't idle
still_idle : (xs : List ContextState) (c m : ℕ) (d : Duty) → (d ≡ Idle → ⊥) →
    duty_of (with_duty c d xs) m ≡ Some Idle → (m ≢ c) × (duty_of xs m ≡ Some Idle)
still_idle xs c m d n h = elim (decide m c) [
  | inl e ↦ absurd (let P : ℕ → Type 0 = λ q. duty_of (with_duty c d xs) q ≡ Some Idle in
      n (sym (duty_only c d Idle xs (subst P e h))))
  | inr k ↦ (k, sym (duty_other c m d xs k) ∙ h)
]

tied_take : (sizes : Extents) (s : State) (c i : ℕ) → legal.may_take s c i ≡ true →
    Sound sizes s → Tied sizes s → Tied sizes (legal.after_take s c i)
unfolding legal.after_take legal.may_take legal.answered_by
tied_take sizes s c i m q t =
    let w = waiting_is s i (and_second _ _ (and_first _ _ m)) in
    let d = q.idle c (take_idle s c i m) in
    let k = service_still _ c (used_in s.contexts c) i s.requests w.open_at in
    let u = duty_uses c (Serves i) s.contexts in
    record {
      ties = record {
        few = (let a = t.ties.few in
            let b = service_count how.Hot c (used_in s.contexts c) i s.requests w in
            let l : length (with_duty c (Serves i) s.contexts) ≡ length s.contexts =
            duty_length c (Serves i) s.contexts in omega (arith, a, b, l));
        open_served = taken_served _ c (used_in s.contexts c) i s.requests s.contexts w d refl
            t.ties.open_served;
        listed = λ n h. (let p = still_idle s.contexts c n (Serves i) (serves_not_idle i) h in
            without_rest c n s.idle p.0 (t.ties.listed n p.1));
        answers = answers_move s.requests _ s.contexts _ k u t.ties.answers;
        no_more = no_more_move s.requests _ s.contexts _ k u t.ties.no_more;
        rested = λ n h. (let p = still_idle s.contexts c n (Serves i) (serves_not_idle i) h in
            rested_move sizes.uses s.requests _ s.contexts _ n k (u n)
            (duty_layer c (Serves i) s.contexts n) (t.ties.rested n p.1));
      };
      debt = debt_none sizes.uses _ _ s.owed (and_first _ _ (and_first _ _ m));
    }

pushed_served : (w : How) (c i : ℕ) (rs : List RequestState) (xs : List ContextState)
    (x : ContextState) → IsWaitingAt rs i → c ≡ length xs + 1 → x.duty ≡ Serves i →
    x.used ≡ 0 → AreServed rs xs → AreServed (with_service i w c 0 rs) (xs ++ x ∷ [])
pushed_served w c i rs xs x z n d u a j m r e o k = elim (given_cases w c 0 i j m rs r z e k) [
  | inl p ↦ (let P : ℕ → ℕ → Type 0 = λ y v.
      (duty_of (xs ++ x ∷ []) v ≡ Some (Serves y)) × (r.used ≡ used_in (xs ++ x ∷ []) v) in
      subst (λ y. P y m) (sym p.0) (subst (λ v. P i v) (sym (p.1 ∙ n)) (
        ap duty_at (pushed_here xs x) ∙ ap (λ y. Some y) d,
        p.2 ∙ sym (ap legal.answered_by_one (pushed_here xs x) ∙ u),
      )))
  | inr h ↦ (let q = a j m r h o k in (
    ap duty_at (pushed_other xs m x (not_next xs m (Serves j) q.0)) ∙ q.0,
    q.1 ∙ sym (push_uses xs x u m),
  ))
]

pushed_idle : (xs : List ContextState) (x : ContextState) (m i : ℕ) → x.duty ≡ Serves i →
    duty_of (xs ++ x ∷ []) m ≡ Some Idle → duty_of xs m ≡ Some Idle
pushed_idle xs x m i d h = elim (look_pushed (λ (y : ContextState). Some y.duty) xs m x Idle h) [
  | inl o ↦ o
  | inr p ↦ absurd (serves_not_idle i (sym d ∙ same_Some x.duty Idle p.1))
]

push_length : {A : Type 0} (xs : List A) (x : A) → length (xs ++ x ∷ []) ≡ length xs + 1
push_length [] x = omega arith
push_length (y ∷ ys) x = let e = push_length ys x in omega (arith, e)

tied_deploy : (sizes : Extents) (s : State) (c : ℕ) (k : Option ℕ) (i n : ℕ) →
    legal.may_deploy sizes s c k i n ≡ true → legal.is_waiting s i ≡ true →
    owes_nothing s.owed ≡ true → Tied sizes s → Tied sizes (legal.after_deploy sizes s c k i n)
unfolding legal.after_deploy
tied_deploy sizes s c k i n m w o t =
    let z = waiting_is s i w in
    let how_it = legal.deployed_how (stack_of sizes (legal.request_function s i)) k in
    let l = service_still how_it c 0 i s.requests z.open_at in
    let x : ContextState = record {
      function = legal.request_function s i;
      layer = k;
      used = 0;
      duty = Serves i;
    } in
    let u = push_uses s.contexts x refl in
    record {
      ties = record {
        few = (let a = t.ties.few in let b = service_count how_it c 0 i s.requests z in
            let e : length (s.contexts ++ x ∷ []) ≡ length s.contexts + 1 =
            push_length s.contexts x in omega (arith, a, b, e));
        open_served = pushed_served how_it c i s.requests s.contexts x z
            (next_context sizes s c k i n m) refl refl t.ties.open_served;
        listed = λ q h. t.ties.listed q (pushed_idle s.contexts x q i refl h);
        answers = answers_move s.requests _ s.contexts _ l u t.ties.answers;
        no_more = no_more_move s.requests _ s.contexts _ l u t.ties.no_more;
        rested = λ q h. (let d = pushed_idle s.contexts x q i refl h in
            rested_move sizes.uses s.requests _ s.contexts _ q l (u q)
            (push_layer s.contexts x q Idle d) (t.ties.rested q d));
      };
      debt = debt_none sizes.uses _ _ s.owed o;
    }

nobody_open : (s : State) → legal.is_open s 0 ≡ true → ⊥
unfolding legal.is_open numbered
nobody_open s h = cc

nobody_failed : (s : State) → legal.is_failed s 0 ≡ true → ⊥
unfolding legal.is_failed numbered
nobody_failed s h = cc

idle_serves_none : (o : Option ContextState) → duty_at o ≡ Some Idle → legal.served_by_one o ≡ 0
idle_serves_none None h = absurd (none-some Idle h)
idle_serves_none (Some x) h = ap legal.served_by_duty (same_Some x.duty Idle h)

serving : (s : State) (c : ℕ) → legal.is_open s (legal.served_by s c) ≡ true →
    duty_of s.contexts c ≡ Some Idle → ⊥
unfolding legal.served_by
serving s c h d = let P : ℕ → Type 0 = λ n. legal.is_open s n ≡ true in
    nobody_open s (subst P (idle_serves_none (numbered s.contexts c) d) h)

built_debt : (uses : ℕ) (rs : List RequestState) (xs : List ContextState) (k : ℕ) (b f : Bool) →
    Debt uses rs xs (cond b (owed.Dup k) (cond f (owed.DropThenKeep k) (owed.Keep k)))
built_debt uses rs xs k true f = tt
built_debt uses rs xs k false true = tt
built_debt uses rs xs k false false = tt

tied_built : (sizes : Extents) (s : State) (c k : ℕ) → legal.may_build sizes s c k ≡ true →
    Tied sizes s → Tied sizes (legal.after_built sizes s c k)
unfolding legal.after_built owed_after_built legal.may_build
tied_built sizes s c k m t =
    let l = still_same s.requests in
    let u = layer_uses c k s.contexts in
    let b = serving s c (and_second _ _ (and_first _ _ m)) in
    record {
      ties = record {
        few = (let a = t.ties.few in
            let e : length (with_layer c k s.contexts) ≡ length s.contexts =
            layer_length c k s.contexts in omega (arith, a, e));
        open_served = λ j n r e o q. (let p = t.ties.open_served j n r e o q in
            (layer_duty c k n s.contexts ∙ p.0, p.1 ∙ sym (u n)));
        listed = λ n h. t.ties.listed n (sym (layer_duty c k n s.contexts) ∙ h);
        answers = answers_move s.requests _ s.contexts _ l u t.ties.answers;
        no_more = no_more_move s.requests _ s.contexts _ l u t.ties.no_more;
        rested = λ n h. (let d = sym (layer_duty c k n s.contexts) ∙ h in
            rested_move sizes.uses s.requests _ s.contexts _ n l (u n)
            (ap legal.place_of_one (naming.layer_other c k n s.contexts
            (λ e. b (ap (λ q. duty_of s.contexts q) (sym e) ∙ d)))) (t.ties.rested n d));
      };
      debt = built_debt sizes.uses _ _ k (contains k s.kept) (is_full sizes.layers s.kept);
    }

-- a context gets a duty that isn't idle, which serves no open request
over_ties : (uses : ℕ) (idle rest : List ℕ) (rs : List RequestState) (xs : List ContextState)
    (c : ℕ) → IsDone rs c → ((n : ℕ) → n ≢ c → Has n idle → Has n rest) →
    Ties uses idle rs xs → Ties uses rest rs (with_duty c Over xs)
over_ties uses idle rest rs xs c g f t =
    let l = still_same rs in
    let u = duty_uses c Over xs in
    record {
      few = (let a = t.few in
          let e : length (with_duty c Over xs) ≡ length xs = duty_length c Over xs in
          omega (arith, a, e));
      open_served = λ j n r e o q. (let p = t.open_served j n r e o q in (
        duty_other c n Over xs (λ h. g j r e o (q ∙ ap (λ y. Some y) h)) ∙ p.0,
        p.1 ∙ sym (u n),
      ));
      listed = λ n h. (let p = still_idle xs c n Over over_not_idle h in f n p.0 (t.listed n p.1));
      answers = answers_move rs rs xs _ l u t.answers;
      no_more = no_more_move rs rs xs _ l u t.no_more;
      rested = λ n h. (let p = still_idle xs c n Over over_not_idle h in
          rested_move uses rs rs xs _ n l (u n) (duty_layer c Over xs n) (t.rested n p.1));
    }

evict_debt : (uses : ℕ) (rs : List RequestState) (xs : List ContextState) (e : ℕ) (o : Owed) →
    Debt uses rs xs o → Debt uses rs (with_duty e Over xs) (legal.owed_after_evict o)
evict_debt uses rs xs e owed.Nothing d = tt
evict_debt uses rs xs e (owed.Dup k) d = tt
evict_debt uses rs xs e (owed.Keep k) d = tt
evict_debt uses rs xs e (owed.DropThenKeep k) d = tt
evict_debt uses rs xs e (owed.End c) d = tt
evict_debt uses rs xs e (owed.EndOrPark c) d = tt
evict_debt uses rs xs e (owed.EndOrEvict c) d = (
  d.0,
  rested_move uses rs rs xs _ c
      (still_same rs) (duty_uses e Over xs c) (duty_layer e Over xs c) d.1,
)
evict_debt uses rs xs e (owed.Park c) d = tt

-- no open request has an idle context
idle_done : (uses : ℕ) (idle : List ℕ) (rs : List RequestState) (xs : List ContextState) (c : ℕ) →
    duty_of xs c ≡ Some Idle → Ties uses idle rs xs → IsDone rs c
idle_done uses idle rs xs c d t i r e o k = serves_not_idle i
    (same_Some (Serves i) Idle (sym (t.open_served i c r e o k).0 ∙ d))

tied_evict : (sizes : Extents) (s : State) (e : ℕ) → Has e s.idle → Sound sizes s →
    Tied sizes s → Tied sizes (legal.after_evict s e)
unfolding legal.after_evict
tied_evict sizes s e h q t = record {
  ties = over_ties sizes.uses s.idle (without e s.idle) s.requests s.contexts e
      (idle_done sizes.uses s.idle s.requests s.contexts e (q.idle e h) t.ties)
      (λ n k. without_rest e n s.idle k) t.ties;
  debt = evict_debt sizes.uses s.requests s.contexts e s.owed t.debt;
}

park_debt : (uses : ℕ) (rs : List RequestState) (xs : List ContextState) (o : Owed) (c : ℕ) →
    legal.owes_park o c ≡ true → Debt uses rs xs o → IsDone rs c × IsRested uses rs xs c
park_debt uses rs xs owed.Nothing c h d = absurd (cc)
park_debt uses rs xs (owed.Dup k) c h d = absurd (cc)
park_debt uses rs xs (owed.Keep k) c h d = absurd (cc)
park_debt uses rs xs (owed.DropThenKeep k) c h d = absurd (cc)
park_debt uses rs xs (owed.End e) c h d = absurd (cc)
park_debt uses rs xs (owed.EndOrPark e) c h d =
    let P : ℕ → Type 0 = λ n. IsDone rs n × IsRested uses rs xs n in subst P (same e c h) d
park_debt uses rs xs (owed.EndOrEvict e) c h d = absurd (cc)
park_debt uses rs xs (owed.Park e) c h d =
    let P : ℕ → Type 0 = λ n. IsDone rs n × IsRested uses rs xs n in subst P (same e c h) d

end_debt : (uses : ℕ) (rs : List RequestState) (xs : List ContextState) (o : Owed) (c : ℕ) →
    legal.owes_end o c ≡ true → Debt uses rs xs o → IsDone rs c
end_debt uses rs xs owed.Nothing c h d = absurd (cc)
end_debt uses rs xs (owed.Dup k) c h d = absurd (cc)
end_debt uses rs xs (owed.Keep k) c h d = absurd (cc)
end_debt uses rs xs (owed.DropThenKeep k) c h d = absurd (cc)
end_debt uses rs xs (owed.End e) c h d =
    let P : ℕ → Type 0 = λ n. IsDone rs n in subst P (same e c h) d
end_debt uses rs xs (owed.EndOrPark e) c h d =
    let P : ℕ → Type 0 = λ n. IsDone rs n in subst P (same e c h) d.0
end_debt uses rs xs (owed.EndOrEvict e) c h d =
    let P : ℕ → Type 0 = λ n. IsDone rs n in subst P (same e c h) d.0
end_debt uses rs xs (owed.Park e) c h d = absurd (cc)

tied_park : (sizes : Extents) (s : State) (c : ℕ) → legal.owes_park s.owed c ≡ true →
    Tied sizes s → Tied sizes (legal.after_park s c)
unfolding legal.after_park
tied_park sizes s c m t =
    let g = park_debt sizes.uses s.requests s.contexts s.owed c m t.debt in
    let l = still_same s.requests in
    let u = duty_uses c Idle s.contexts in
    record {
      ties = record {
        few = (let a = t.ties.few in
            let e : length (with_duty c Idle s.contexts) ≡ length s.contexts =
            duty_length c Idle s.contexts in omega (arith, a, e));
        open_served = λ j n r e o q. (let p = t.ties.open_served j n r e o q in (
          duty_other c n Idle s.contexts (λ h. g.0 j r e o (q ∙ ap (λ y. Some y) h)) ∙ p.0,
          p.1 ∙ sym (u n),
        ));
        listed = λ n h. elim (decide n c) [
          | inl e ↦ inl (sym e)
          | inr k ↦ inr (t.ties.listed n (sym (duty_other c n Idle s.contexts k) ∙ h))
        ];
        answers = answers_move s.requests _ s.contexts _ l u t.ties.answers;
        no_more = no_more_move s.requests _ s.contexts _ l u t.ties.no_more;
        rested = λ n h. rested_move sizes.uses s.requests _ s.contexts _ n l (u n)
            (duty_layer c Idle s.contexts n) (elim (decide n c) [
              | inl e ↦ (let P : ℕ → Type 0 =
                  λ y. IsRested sizes.uses s.requests s.contexts y in subst P (sym e) g.1)
              | inr k ↦ t.ties.rested n (sym (duty_other c n Idle s.contexts k) ∙ h)
            ]);
      };
      debt = tt;
    }

served_number : (o : Option ContextState) (i : ℕ) → duty_at o ≡ Some (Serves i) →
    legal.served_by_one o ≡ i
served_number None i h = absurd (none-some (Serves i) h)
served_number (Some x) i h = ap legal.served_by_duty (same_Some x.duty (Serves i) h)

failed_closed : (t : Standing) → legal.is_failed_standing t ≡ true →
    is_open_standing t ≡ true → ⊥
failed_closed Open h k = cc
failed_closed Answered h k = cc
failed_closed Refused h k = cc
failed_closed Wanted h k = cc

failed_not_open : (s : State) (i : ℕ) (r : RequestState) → legal.is_failed s i ≡ true →
    numbered s.requests i ≡ Some r → is_open_standing r.standing ≡ true → ⊥
unfolding legal.is_failed
failed_not_open s i r h e o =
    failed_closed r.standing (sym (ap legal.is_failed_one e) ∙ h) o

failed_done : (uses : ℕ) (s : State) (c : ℕ) → legal.is_failed s (legal.served_by s c) ≡ true →
    Ties uses s.idle s.requests s.contexts → IsDone s.requests c
unfolding legal.served_by
failed_done uses s c h t i r e o k =
    let d = (t.open_served i c r e o k).0 in
    let P : ℕ → Type 0 = λ n. legal.is_failed s n ≡ true in
    failed_not_open s i r (subst P (served_number (numbered s.contexts c) i d) h) e o

or_either : (a b : Bool) (P : Type 0) → (a || b) ≡ true → (a ≡ true → P) → (b ≡ true → P) → P
or_either true b P h f g = f refl
or_either false b P h f g = g h

tied_end : (sizes : Extents) (s : State) (c : ℕ) → legal.may_end s c ≡ true →
    Tied sizes s → Tied sizes (legal.after_end s c)
unfolding legal.after_end legal.may_end
tied_end sizes s c m t = record {
  ties = over_ties sizes.uses s.idle s.idle s.requests s.contexts c
      (or_either (legal.owes_end s.owed c) _ (IsDone s.requests c) m
      (λ h. end_debt sizes.uses s.requests s.contexts s.owed c h t.debt)
      (λ h. failed_done sizes.uses s c (and_second _ _ h) t.ties)) (λ n k h. h) t.ties;
  debt = tt;
}

-- # Requests that are closed

abbrev pub closing : Standing → Option ℕ → RequestState → RequestState
closing t p r = record r { standing = t; place = p }

-- the open requests after an open one was closed were open before
closed_cases : (t : Standing) (p : Option ℕ) (i j : ℕ) (rs : List RequestState)
    (r : RequestState) → is_open_standing t ≡ false → IsOpenAt rs i →
    numbered (with_standing i t p rs) j ≡ Some r → is_open_standing r.standing ≡ true →
    (j ≢ i) × (numbered rs j ≡ Some r)
unfolding with_standing
closed_cases t p i j rs r k o h v = elim (decide j i) [
  | inl e ↦ absurd (let q : closing t p o.one ≡ r = same_Some (closing t p o.one) r
      (sym (changed_here (closing t p) i rs o.one o.entry)
      ∙ (ap (λ n. numbered (changed (closing t p) i rs) n) (sym e) ∙ h)) in
      let f : true ≡ false =
      sym v ∙ (sym (ap (λ (x : RequestState). is_open_standing x.standing) q) ∙ k) in cc)
  | inr n ↦ (n, sym (changed_other (closing t p) i j rs n) ∙ h)
]

standing_count : (t : Standing) (p : Option ℕ) (i : ℕ) (rs : List RequestState) →
    IsOpenAt rs i → given_count (with_standing i t p rs) ≡ given_count rs
unfolding with_standing
standing_count t p i rs o =
    let e = sum_change given_one (closing t p) i rs o.one (numbered rs i) refl o.entry in
    omega (arith, e)

pub standing_still : (t : Standing) (p : Option ℕ) (i : ℕ) (rs : List RequestState) →
    is_answered_standing t ≡ false → IsOpenAt rs i → IsStill rs (with_standing i t p rs)
unfolding with_standing
standing_still t p i rs h o =
    still_change (closing t p) i rs o (λ c v. no_and _ _ _ h)

tied_standing : (sizes : Extents) (s : State) (i : ℕ) (z : Standing) →
    is_open_standing z ≡ false → is_answered_standing z ≡ false →
    legal.is_open s i ≡ true → owes_nothing s.owed ≡ true →
    Tied sizes s → Tied sizes (legal.after_standing s i z)
unfolding legal.after_standing
tied_standing sizes s i z a b m n t =
    let p = legal.place_of_given s (legal.given_to s i) in
    let o = open_is s i m in
    let l = standing_still z p i s.requests b o in
    record {
      ties = record {
        few = (let x = t.ties.few in let y = standing_count z p i s.requests o in
            omega (arith, x, y));
        open_served = λ j c r e v q. (let k = closed_cases z p i j s.requests r a o e v in
            t.ties.open_served j c r k.1 v q);
        listed = t.ties.listed;
        answers = answers_move s.requests _ s.contexts s.contexts l (λ m. refl) t.ties.answers;
        no_more = no_more_move s.requests _ s.contexts s.contexts l (λ m. refl) t.ties.no_more;
        rested = λ c h. rested_move sizes.uses s.requests _ s.contexts s.contexts c l refl refl
            (t.ties.rested c h);
      };
      debt = debt_none sizes.uses _ _ s.owed n;
    }

-- # An answer

self_at : (b : Bool) (n : ℕ) → (n == n) ≡ b → b ≡ true
self_at true n h = refl
self_at false n h = absurd (differ n n h refl)

pub self : (n : ℕ) → (n == n) ≡ true
self n = self_at (n == n) n refl

answer_yes : (o : Option ℕ) (a c u : ℕ) → o ≡ Some c → a ≡ u →
    ((true && is_just o c) && (a == u)) ≡ true
answer_yes o a c u e k = ap (λ z. (true && is_just z c) && (a == u)) e
    ∙ (ap (λ b. b && (a == u)) (self c) ∙ (ap (λ y. y == u) k ∙ self u))

used_is_one : (o : Option ContextState) (u : ℕ) → legal.used_one u o ≡ true →
    legal.answered_by_one o ≡ u
used_is_one None u h = absurd (cc)
used_is_one (Some x) u h = same x.used u h

used_is : (s : State) (c u : ℕ) → legal.has_answered s c u ≡ true → used_in s.contexts c ≡ u
unfolding legal.has_answered
used_is s c u h = used_is_one (numbered s.contexts c) u h

-- the answer of a request by its context
pub record IsAnswer (rs : List RequestState) (xs : List ContextState) (i c u : ℕ) : Type 0 where
  pub open_one : IsOpenAt rs i
  pub context : open_one.one.context ≡ Some c
  pub times : open_one.one.used ≡ u
  pub count : used_in xs c ≡ u
  pub duty : duty_of xs c ≡ Some (Serves i)

pub answer_is : (sizes : Extents) (s : State) (i c u : ℕ) → legal.may_answer s i c u ≡ true →
    Sound sizes s → Tied sizes s → IsAnswer s.requests s.contexts i c u
unfolding legal.may_answer
answer_is sizes s i c u m q t =
    let o = open_is s i (and_second _ _ (and_first _ _ (and_first _ _ m))) in
    let d = serves_duty s c i (and_second _ _ (and_first _ _ m)) in
    let n = used_is s c u (and_second _ _ m) in
    let x : o.one.context ≡ Some c = sym (ap (λ z. option_and_then
    (λ (r : RequestState). r.context) z) o.entry) ∙ q.given c i d in
    record {
      open_one = o;
      context = x;
      times = (t.ties.open_served i c o.one o.entry o.stands x).1 ∙ n;
      count = n;
      duty = d;
    }

pub new_answer : (p : Option ℕ) (rs : List RequestState) (xs : List ContextState) (i c u : ℕ) →
    IsAnswer rs xs i c u → HaveNoMore rs xs →
    answer_from c u 1 (with_standing i Answered p rs) ≡ Some i
unfolding with_standing
new_answer p rs xs i c u a n = answer_found (closing Answered p) c u i rs a.open_one.one
    a.open_one.entry (answer_yes a.open_one.one.context a.open_one.one.used c u a.context a.times)
    (let e : used_in xs c ≡ u = a.count in n c u (omega arith))

other_no : (p : Option ℕ) (rs : List RequestState) (xs : List ContextState) (i c u d v : ℕ) →
    (a : IsAnswer rs xs i c u) → (d ≡ c → v ≡ u → ⊥) →
    is_answer_of d v (closing Answered p a.open_one.one) ≡ false
other_no p rs xs i c u d v a h = elim (decide d c) [
  | inl e ↦ and_and_no _ (a.open_one.one.used == v)
      (naming.apart a.open_one.one.used v (λ k. h e (sym k ∙ a.times)))
  | inr n ↦ and_no true (is_just a.open_one.one.context d) _
      (ap (λ z. is_just z d) a.context ∙ naming.apart c d (λ k. n (sym k)))
]

pub other_answer : (p : Option ℕ) (rs : List RequestState) (xs : List ContextState)
    (i c u d v : ℕ) → IsAnswer rs xs i c u → (d ≡ c → v ≡ u → ⊥) →
    answer_from d v 1 (with_standing i Answered p rs) ≡ answer_from d v 1 rs
unfolding with_standing
other_answer p rs xs i c u d v a h =
    answer_same (closing Answered p) d v i rs a.open_one.one a.open_one.entry
    (other_no p rs xs i c u d v a h ∙ sym (open_no_answer d v a.open_one.one a.open_one.stands))

pub used_other : (c u m : ℕ) (xs : List ContextState) → m ≢ c →
    used_in (with_used c u xs) m ≡ used_in xs m
used_other c u m xs h = ap legal.answered_by_one (naming.used_other c u m xs h)

answered_here : (p : Option ℕ) (rs : List RequestState) (xs : List ContextState)
    (i c u v : ℕ) → IsAnswer rs xs i c u → HaveAnswers rs xs → HaveNoMore rs xs →
    v < used_in (with_used c (u + 1) xs) c →
    (j : ℕ) × (answer_from c v 1 (with_standing i Answered p rs) ≡ Some j)
answered_here p rs xs i c u v a t n l = elim (decide v u) [
  | inl k ↦ (
    i,
    (let P : ℕ → Type 0 =
        λ w. answer_from c w 1 (with_standing i Answered p rs) ≡ Some i in
        subst P (sym k) (new_answer p rs xs i c u a n)),
  )
  | inr k ↦ (let e : used_in (with_used c (u + 1) xs) c ≡ u + 1 =
      used_here c (u + 1) (Serves i) xs a.duty in
      let f : used_in xs c ≡ u = a.count in
      let z = t c v (omega arith) in
      (z.0, other_answer p rs xs i c u c v a (λ g h. k h) ∙ z.1))
]

answered_more : (p : Option ℕ) (rs : List RequestState) (xs : List ContextState)
    (i c u : ℕ) → IsAnswer rs xs i c u → HaveAnswers rs xs → HaveNoMore rs xs →
    HaveAnswers (with_standing i Answered p rs) (with_used c (u + 1) xs)
answered_more p rs xs i c u a t n d v l = elim (decide d c) [
  | inl e ↦ (let P : ℕ → Type 0 = λ y. v < used_in (with_used c (u + 1) xs) y →
      (j : ℕ) × (answer_from y v 1 (with_standing i Answered p rs) ≡ Some j) in
      subst P (sym e) (answered_here p rs xs i c u v a t n) l)
  | inr k ↦ (let f : used_in (with_used c (u + 1) xs) d ≡ used_in xs d =
      used_other c (u + 1) d xs k in
      let z = t d v (omega arith) in
      (z.0, other_answer p rs xs i c u d v a (λ g h. k g) ∙ z.1))
]

none_here : (p : Option ℕ) (rs : List RequestState) (xs : List ContextState)
    (i c u v : ℕ) → IsAnswer rs xs i c u → HaveNoMore rs xs →
    used_in (with_used c (u + 1) xs) c ≤ v →
    answer_from c v 1 (with_standing i Answered p rs) ≡ None
none_here p rs xs i c u v a n l =
    let e : used_in (with_used c (u + 1) xs) c ≡ u + 1 =
    used_here c (u + 1) (Serves i) xs a.duty in
    let f : used_in xs c ≡ u = a.count in
    other_answer p rs xs i c u c v a (λ g h. omega arith) ∙ n c v (omega arith)

none_more : (p : Option ℕ) (rs : List RequestState) (xs : List ContextState)
    (i c u : ℕ) → IsAnswer rs xs i c u → HaveNoMore rs xs →
    HaveNoMore (with_standing i Answered p rs) (with_used c (u + 1) xs)
none_more p rs xs i c u a n d v l = elim (decide d c) [
  | inl e ↦ (let P : ℕ → Type 0 = λ y. used_in (with_used c (u + 1) xs) y ≤ v →
      answer_from y v 1 (with_standing i Answered p rs) ≡ None in
      subst P (sym e) (none_here p rs xs i c u v a n) l)
  | inr k ↦ (let f : used_in (with_used c (u + 1) xs) d ≡ used_in xs d =
      used_other c (u + 1) d xs k in
      other_answer p rs xs i c u d v a (λ g h. k g) ∙ n d v (omega arith))
]

answer_closed : (p : Option ℕ) (rs : List RequestState) (i j : ℕ) (r : RequestState) →
    IsOpenAt rs i → numbered rs j ≡ Some r → is_open_standing r.standing ≡ false →
    numbered (with_standing i Answered p rs) j ≡ Some r
unfolding with_standing
answer_closed p rs i j r o e k = changed_other (closing Answered p) i j rs
    (λ q. naming.not_open rs j i r o e k (sym q)) ∙ e

pub answer_entry : (p : Option ℕ) (rs : List RequestState) (i : ℕ) → (o : IsOpenAt rs i) →
    numbered (with_standing i Answered p rs) i ≡ Some (closing Answered p o.one)
unfolding with_standing
answer_entry p rs i o = changed_here (closing Answered p) i rs o.one o.entry

may_more : (u uses : ℕ) → nat_lt (u + 1) uses ≡ true → suc u < uses
may_more u uses h = grind (arith, nat_tests)

answer_debt : (uses : ℕ) (rs : List RequestState) (xs : List ContextState) (c : ℕ) (b f : Bool) →
    IsDone rs c → (b ≡ true → IsRested uses rs xs c) →
    Debt uses rs xs (cond b (cond f (owed.EndOrEvict c) (owed.EndOrPark c)) (owed.End c))
answer_debt uses rs xs c false f d r = d
answer_debt uses rs xs c true true d r = (d, r refl)
answer_debt uses rs xs c true false d r = (d, r refl)

answer_done : (p : Option ℕ) (rs : List RequestState) (xs : List ContextState) (i c u : ℕ) →
    IsAnswer rs xs i c u → AreServed rs xs → IsDone (with_standing i Answered p rs) c
answer_done p rs xs i c u a t j r e o k =
    let z = closed_cases Answered p i j rs r refl a.open_one e o in
    z.0 (serves_same j i (same_Some (Serves j) (Serves i)
    (sym (t j c r z.1 o k).0 ∙ a.duty)))

answer_served : (p : Option ℕ) (rs : List RequestState) (xs : List ContextState) (i c u : ℕ) →
    IsAnswer rs xs i c u → AreServed rs xs →
    AreServed (with_standing i Answered p rs) (with_used c (u + 1) xs)
answer_served p rs xs i c u a t j m r e o k =
    let z = closed_cases Answered p i j rs r refl a.open_one e o in
    let w = t j m r z.1 o k in (
      used_duty c (u + 1) m xs ∙ w.0,
      w.1 ∙ sym (used_other c (u + 1) m xs
          (λ g. z.0 (serves_same j i (same_Some (Serves j) (Serves i)
          (sym w.0 ∙ (ap (λ n. duty_of xs n) g ∙ a.duty)))))),
    )

answer_rested : (uses : ℕ) (rs : List RequestState) (xs : List ContextState) (i c u m : ℕ)
    (p : Option ℕ) → IsAnswer rs xs i c u → m ≢ c → IsRested uses rs xs m →
    IsRested uses (with_standing i Answered p rs) (with_used c (u + 1) xs) m
answer_rested uses rs xs i c u m p a n z = record {
  before = z.before;
  used = used_other c (u + 1) m xs n ∙ z.used;
  below = z.below;
  number = z.number;
  found = other_answer p rs xs i c u m z.before a (λ g h. n g) ∙ z.found;
  one = z.one;
  entry = answer_closed p rs i z.number z.one a.open_one z.entry z.closed;
  closed = z.closed;
  place = z.place ∙ sym (used_layer c (u + 1) xs m);
}

answer_rests : (uses : ℕ) (rs : List RequestState) (xs : List ContextState) (i c u : ℕ) →
    IsAnswer rs xs i c u → HaveNoMore rs xs → suc u < uses →
    IsRested uses (with_standing i Answered (layer_in xs c) rs) (with_used c (u + 1) xs) c
answer_rests uses rs xs i c u a n l = record {
  before = u;
  used = (let e = used_here c (u + 1) (Serves i) xs a.duty in e ∙ omega arith);
  below = l;
  number = i;
  found = new_answer (layer_in xs c) rs xs i c u a n;
  one = closing Answered (layer_in xs c) a.open_one.one;
  entry = answer_entry (layer_in xs c) rs i a.open_one;
  closed = refl;
  place = sym (used_layer c (u + 1) xs c);
}

tied_answer : (sizes : Extents) (s : State) (i c u : ℕ) → legal.may_answer s i c u ≡ true →
    Sound sizes s → Tied sizes s → Tied sizes (legal.after_answer sizes s i c u)
unfolding legal.after_answer owed_after_answer legal.place_of
tied_answer sizes s i c u m q t =
    let a = answer_is sizes s i c u m q t in
    let p = layer_in s.contexts c in
    record {
      ties = record {
        few = (let x = t.ties.few in
            let y = standing_count Answered p i s.requests a.open_one in
            let e : length (with_used c (u + 1) s.contexts) ≡ length s.contexts =
            used_length c (u + 1) s.contexts in omega (arith, x, y, e));
        open_served = answer_served p s.requests s.contexts i c u a t.ties.open_served;
        listed = λ n h. t.ties.listed n (sym (used_duty c (u + 1) n s.contexts) ∙ h);
        answers = answered_more p s.requests s.contexts i c u a t.ties.answers t.ties.no_more;
        no_more = none_more p s.requests s.contexts i c u a t.ties.no_more;
        rested = λ n h. (let d = sym (used_duty c (u + 1) n s.contexts) ∙ h in
            answer_rested sizes.uses s.requests s.contexts i c u n p a
            (busy_differs s.contexts n c i d a.duty) (t.ties.rested n d));
      };
      debt = answer_debt sizes.uses _ _ c
          (nat_le 1 sizes.idle && nat_lt (u + 1) sizes.uses) (is_full sizes.idle s.idle)
          (answer_done p s.requests s.contexts i c u a t.ties.open_served)
          (λ h. answer_rests sizes.uses s.requests s.contexts i c u a t.ties.no_more
          (may_more u sizes.uses (and_second _ _ h)));
    }

-- # All events

drop_debt : (uses : ℕ) (rs : List RequestState) (xs : List ContextState) (o : Owed) →
    Debt uses rs xs (legal.owed_after_drop o)
drop_debt uses rs xs owed.Nothing = tt
drop_debt uses rs xs (owed.Dup k) = tt
drop_debt uses rs xs (owed.Keep k) = tt
drop_debt uses rs xs (owed.DropThenKeep k) = tt
drop_debt uses rs xs (owed.End c) = tt
drop_debt uses rs xs (owed.EndOrPark c) = tt
drop_debt uses rs xs (owed.EndOrEvict c) = tt
drop_debt uses rs xs (owed.Park c) = tt

start_quiet : (sizes : Extents) (s : State) (i f z : ℕ) →
    legal.may_start sizes s i f z ≡ true → owes_nothing s.owed ≡ true
unfolding legal.may_start
start_quiet sizes s i f z h =
    and_first _ _ (and_first _ _ (and_first _ _ (and_first _ _ h)))

pub deploy_quiet : (sizes : Extents) (s : State) (c : ℕ) (k : Option ℕ) (i n : ℕ) →
    legal.may_deploy sizes s c k i n ≡ true →
    (owes_nothing s.owed ≡ true) × (legal.is_waiting s i ≡ true)
unfolding legal.may_deploy
deploy_quiet sizes s c k i n h =
    let w = and_first _ _ (and_first _ _ (and_first _ _ (and_first _ _ (and_first _ _ h)))) in
    (and_first _ _ w, and_second _ _ w)

evict_idle : (sizes : Extents) (s : State) (e : ℕ) → legal.may_evict sizes s e ≡ true →
    Has e s.idle
unfolding legal.may_evict
evict_idle sizes s e h = last_has s.idle e (and_second _ _ h)

pub refuse_parts : (s : State) (i : ℕ) → legal.may_refuse s i ≡ true →
    (owes_nothing s.owed ≡ true) × (legal.is_open s i ≡ true)
unfolding legal.may_refuse
refuse_parts s i h = let w = and_first _ _ (and_first _ _ (and_first _ _ h)) in
    (and_first _ _ w, and_second _ _ w)

pub want_parts : (s : State) (i : ℕ) → legal.may_want s i ≡ true →
    (owes_nothing s.owed ≡ true) × (legal.is_open s i ≡ true)
unfolding legal.may_want
want_parts s i h = (and_first _ _ h, and_second _ _ h)

tied_refill : (sizes : Extents) (s : State) (n : ℕ) → Tied sizes s →
    Tied sizes (legal.after_refill s n)
unfolding legal.after_refill
tied_refill sizes s n t = record { ties = t.ties; debt = t.debt }

tied_back : (sizes : Extents) (s : State) (n : ℕ) → Tied sizes s →
    Tied sizes (legal.after_back s n)
unfolding legal.after_back
tied_back sizes s n t = record { ties = t.ties; debt = t.debt }

tied_keep : (sizes : Extents) (s : State) (k : ℕ) → Tied sizes s →
    Tied sizes (legal.after_keep s k)
unfolding legal.after_keep
tied_keep sizes s k t = record { ties = t.ties; debt = tt }

tied_dup : (sizes : Extents) (s : State) → Tied sizes s → Tied sizes (legal.after_dup s)
unfolding legal.after_dup
tied_dup sizes s t = record { ties = t.ties; debt = tt }

tied_drop : (sizes : Extents) (s : State) (j : ℕ) → Tied sizes s →
    Tied sizes (legal.after_drop s j)
unfolding legal.after_drop
tied_drop sizes s j t =
    record { ties = t.ties; debt = drop_debt sizes.uses s.requests s.contexts s.owed }

pub tied_after : (sizes : Extents) (s : State) (e : Event) (t : State) →
    after sizes s e ≡ Some t → Sound sizes s → Tied sizes s → Tied sizes t
tied_after sizes s (Start i f z) t h q k = let r = stood _ _ t h in
    let P : State → Type 0 = Tied sizes in
    subst P r.1 (tied_start sizes s f z (start_quiet sizes s i f z r.0) k)
tied_after sizes s (Take c i) t h q k = let r = stood _ _ t h in
    let P : State → Type 0 = Tied sizes in subst P r.1 (tied_take sizes s c i r.0 q k)
tied_after sizes s (Deploy c l i n) t h q k = let r = stood _ _ t h in
    let P : State → Type 0 = Tied sizes in let w = deploy_quiet sizes s c l i n r.0 in
    subst P r.1 (tied_deploy sizes s c l i n r.0 w.1 w.0 k)
tied_after sizes s (Refill c m n) t h q k = let r = stood _ _ t h in
    let P : State → Type 0 = Tied sizes in subst P r.1 (tied_refill sizes s n k)
tied_after sizes s (Built c l d) t h q k = let r = stood _ _ t h in
    let P : State → Type 0 = Tied sizes in subst P r.1 (tied_built sizes s c l r.0 k)
tied_after sizes s (Keep l) t h q k = let r = stood _ _ t h in
    let P : State → Type 0 = Tied sizes in subst P r.1 (tied_keep sizes s l k)
tied_after sizes s (Dup l) t h q k = let r = stood _ _ t h in
    let P : State → Type 0 = Tied sizes in subst P r.1 (tied_dup sizes s k)
tied_after sizes s (Drop j) t h q k = let r = stood _ _ t h in
    let P : State → Type 0 = Tied sizes in subst P r.1 (tied_drop sizes s j k)
tied_after sizes s (Evict c) t h q k = let r = stood _ _ t h in
    let P : State → Type 0 = Tied sizes in
    subst P r.1 (tied_evict sizes s c (evict_idle sizes s c r.0) q k)
tied_after sizes s (Park c) t h q k = let r = stood _ _ t h in
    let P : State → Type 0 = Tied sizes in subst P r.1 (tied_park sizes s c r.0 k)
tied_after sizes s (End c) t h q k = let r = stood _ _ t h in
    let P : State → Type 0 = Tied sizes in subst P r.1 (tied_end sizes s c r.0 k)
tied_after sizes s (Back n) t h q k = let r = stood _ _ t h in
    let P : State → Type 0 = Tied sizes in subst P r.1 (tied_back sizes s n k)
tied_after sizes s (Refuse i) t h q k = let r = stood _ _ t h in
    let P : State → Type 0 = Tied sizes in let w = refuse_parts s i r.0 in
    subst P r.1 (tied_standing sizes s i Refused refl refl w.1 w.0 k)
tied_after sizes s (Want i) t h q k = let r = stood _ _ t h in
    let P : State → Type 0 = Tied sizes in let w = want_parts s i r.0 in
    subst P r.1 (tied_standing sizes s i Wanted refl refl w.1 w.0 k)
tied_after sizes s (Answer i c u) t h q k = let r = stood _ _ t h in
    let P : State → Type 0 = Tied sizes in subst P r.1 (tied_answer sizes s i c u r.0 q k)

none_at : {A : Type 0} (b : Bool) (n : ℕ) → cond {A = Option A} b None (slice_get [] n) ≡ None
none_at true n = refl
none_at false n = refl

pub none_drawn : {A : Type 0} (n : ℕ) → numbered {A = A} [] n ≡ None
unfolding numbered
none_drawn n = none_at (n == 0) (n - 1)

first_answers : HaveAnswers [] []
first_answers c v l = let e : used_in [] c ≡ 0 = ap legal.answered_by_one (none_drawn c) in
    absurd (omega arith)

first_no_more : HaveNoMore [] []
unfolding answer_from
first_no_more c v l = refl

first_few : length {A = ContextState} [] ≤ given_count []
first_few = omega arith

tied_first : (sizes : Extents) → Tied sizes (at_first sizes)
tied_first sizes = record {
  ties = record {
    few = first_few;
    open_served = λ i c r e o k. absurd (none-some r (sym (none_drawn i) ∙ e));
    listed = λ c h. absurd (none-some Idle (sym (ap duty_at (none_drawn c)) ∙ h));
    answers = first_answers;
    no_more = first_no_more;
    rested = λ c h. absurd (none-some Idle (sym (ap duty_at (none_drawn c)) ∙ h));
  };
  debt = tt;
}

tied_on : (sizes : Extents) (a : List Event) (s : State) (e : Event) (es : List Event)
    (next : Option State) (t : State) → after sizes s e ≡ next →
    after_all sizes (at_first sizes) a ≡ Some s → Tied sizes s →
    ((m : State) → after_all sizes (at_first sizes) (a ++ e ∷ []) ≡ Some m → Tied sizes m →
    after_all sizes m es ≡ Some t → Tied sizes t) →
    go_on sizes es next ≡ Some t → Tied sizes t
tied_on sizes a s e es None t is h k rest g = absurd (none-some t g)
tied_on sizes a s e es (Some m) t is h k rest g =
    rest m (joined_one sizes (at_first sizes) s a e h ∙ is)
    (tied_after sizes s e m is (reached_sound sizes a s h) k) g

tied_all : (sizes : Extents) (a : List Event) (s : State) (es : List Event) (t : State) →
    after_all sizes (at_first sizes) a ≡ Some s → Tied sizes s →
    after_all sizes s es ≡ Some t → Tied sizes t
tied_all sizes a s [] t h k g = let P : State → Type 0 = Tied sizes in
    subst P (same_Some s t (sym (none_first sizes s) ∙ g)) k
tied_all sizes a s (e ∷ es) t h k g = tied_on sizes a s e es (after sizes s e) t refl h k
    (λ m l n w. tied_all sizes (a ++ e ∷ []) m es t l n w) (sym (all_more sizes s e es) ∙ g)

-- each state that is reached is tied
pub reached_tied : (sizes : Extents) (es : List Event) (t : State) →
    after_all sizes (at_first sizes) es ≡ Some t → Tied sizes t
reached_tied sizes es t h = tied_all sizes [] (at_first sizes) es t
    (none_first sizes (at_first sizes)) (tied_first sizes) h
