-- What an answer, an evict and a park make of a state, and of the context that is parked.
use Rattle.std.proofs.Common.{◌≡◌, ◌≢◌, ℕ, ◌+◌, ◌-◌, ◌<◌, ◌≤◌, ◌==◌, Bool, true, false, cond, suc}
use Rattle.std.proofs.Common.{zero, List, [], ◌∷◌, ◌++◌, length, take, Option, None, Some, IsSome}
use Rattle.std.proofs.Common.{refl, sym, ◌∙◌, ap, subst, arith, nat_eq, nat_le, nat_lt, inl, inr}
use Rattle.std.proofs.lemmas.Bool.Decides.{nat_tests}
use Rattle.std.proofs.lemmas.List.{length-map, length-append}
use Rattle.std.specs.Prelude.{option_map}
use Rattle.std.specs.List.{slice_get}
use Rattle.std.specs.Map.{keys_of, lookup}
use Rattle.journal_model.specs.Extents.{Extents}
use Rattle.journal_model.specs.State.{State, numbered, without, is_full, last_of}
use Rattle.journal_model.specs.Legal as legal
use Rattle.journal_model.specs.Legal.{after, after_all, at_first, owes_nothing}
use Rattle.journal_model.specs.Legal.{with_used, with_duty, owed_after_answer, owed_after_evict}
use Rattle.journal_model.specs.Reads.{served}
use Rattle.journal_model.specs.declared.event.Event.{Event}
use Rattle.journal_model.specs.declared.event.Event.TheVariants.{Answer, Evict, Park, Back}
use Rattle.journal_model.specs.declared.state.ContextState.{ContextState}
use Rattle.journal_model.specs.declared.state.Duty.{Duty}
use Rattle.journal_model.specs.declared.state.Duty.TheVariants.{Idle, Serves}
use Rattle.journal_model.specs.declared.state.Owed.TheVariants as owed
use Rattle.journal_model.proofs.Apart.{Has}
use Rattle.journal_model.proofs.Folds.{go_on, all_more}
use Rattle.journal_model.proofs.Frames.{stood}
use Rattle.journal_model.proofs.Recents.{same}
use Rattle.journal_model.proofs.Sound.{Sound, serves_duty}
use Rattle.journal_laws.specs.Served.{with_answer}
use Rattle.journal_laws.proofs.Naming.{apart, context_stays}
use Rattle.journal_laws.proofs.Numbers.{changed_here}
use Rattle.journal_laws.proofs.Serving.{grows}
use Rattle.journal_laws.proofs.Ties.{self}
use Rattle.space_api.specs.Holding.{Pin}
use Rattle.space_api.specs.Told.{ParkedContext}
use Rattle.space_api.specs.declared.given.Given.{Given}
use Rattle.book_log.specs.declared.started.Started.{Started}
use Rattle.book_model.specs.Kept.{IsNoted, IsWaiting, givens}
use Rattle.book_model.specs.Steps.{backs}
use Rattle.book_model.proofs.Unnamed.{answer_serves}

-- ---- lists

pub take_keys : {V : Type 0} (n : ℕ) (es : List (ℕ × V)) →
    keys_of (take n es) ≡ take n (keys_of es)
take_keys zero [] = refl
take_keys (suc n) [] = refl
take_keys zero (e ∷ es) = refl
take_keys (suc n) (e ∷ es) = ap (λ ks. e.0 ∷ ks) (take_keys n es)

-- what isn't among the keys isn't found
pub not_found : {V : Type 0} (k : ℕ) (es : List (ℕ × V)) → (Has k (keys_of es) → ⊥) →
    lookup (nat_eq k) es ≡ None
not_found k [] h = refl
not_found k (e ∷ es) h = (elim (nat_eq k e.0) as (λ b. nat_eq k e.0 ≡ b →
    lookup (nat_eq k) (e ∷ es) ≡ None) [
      | true ↦ λ t. absurd (h (inl (sym (same k e.0 t))))
      | false ↦ λ t. (let r = not_found k es (λ d. h (inr d)) in rw t r)
    ]) refl

last_at : {A : Type 0} (n : ℕ) (xs : List A) → length xs ≡ suc n →
    (x : A) × (slice_get xs n ≡ Some x)
last_at n [] l = absurd (omega arith)
last_at zero (x ∷ xs) l = (x, refl)
last_at (suc n) (x ∷ xs) l = last_at n xs (omega arith)

-- a full list has a last item, where there is any room
pub last_there : {A : Type 0} (room : ℕ) (xs : List A) → 1 ≤ room → length xs ≡ room →
    (x : A) × (slice_get xs (length xs - 1) ≡ Some x)
last_there room xs some l =
    let p = last_at (room - 1) xs (omega arith) in
    let i : length xs - 1 ≡ room - 1 = omega arith in
    (p.0, ap (λ n. slice_get xs n) i ∙ p.1)

take_all : {A : Type 0} (n : ℕ) (xs : List A) → length xs ≤ n → take n xs ≡ xs
take_all zero [] h = refl
take_all (suc n) [] h = refl
take_all zero (x ∷ xs) h = absurd (omega arith)
take_all (suc n) (x ∷ xs) h = ap (λ w. x ∷ w) (take_all n xs (omega arith))

-- a list that isn't full keeps all its items
pub take_fits : {A : Type 0} (room : ℕ) (xs : List A) → length xs ≤ room →
    (length xs == room) ≡ false → take (room - 1) xs ≡ xs
take_fits room xs h n =
    let l : length xs < room = grind (arith, nat_tests) in take_all (room - 1) xs (omega arith)

-- ---- what each event changes

pub record Answers (sizes : Extents) (s t : State) (c u : ℕ) : Type 0 where
  pub idle : s.idle ≡ t.idle
  pub free : s.free ≡ t.free
  pub contexts : with_used c (u + 1) s.contexts ≡ t.contexts
  pub owed : owed_after_answer sizes s.idle c u ≡ t.owed

pub answer_lists : (sizes : Extents) (s t : State) (i c u : ℕ) →
    after sizes s (Answer i c u) ≡ Some t → Answers sizes s t c u
unfolding legal.after_answer
answer_lists sizes s t i c u h = let w = stood _ _ t h in record {
  idle = ap (λ (x : State). x.idle) w.1;
  free = ap (λ (x : State). x.free) w.1;
  contexts = ap (λ (x : State). x.contexts) w.1;
  owed = ap (λ (x : State). x.owed) w.1;
}

pub record EvictsOut (s t : State) (e : ℕ) : Type 0 where
  pub idle : without e s.idle ≡ t.idle
  pub kept : s.kept ≡ t.kept
  pub free : s.free ≡ t.free
  pub owed : owed_after_evict s.owed ≡ t.owed

pub evict_lists : (sizes : Extents) (s t : State) (e : ℕ) → after sizes s (Evict e) ≡ Some t →
    EvictsOut s t e
unfolding legal.after_evict
evict_lists sizes s t e h = let w = stood _ _ t h in record {
  idle = ap (λ (x : State). x.idle) w.1;
  kept = ap (λ (x : State). x.kept) w.1;
  free = ap (λ (x : State). x.free) w.1;
  owed = ap (λ (x : State). x.owed) w.1;
}

pub record ParksIn (s t : State) (c : ℕ) : Type 0 where
  pub idle : c ∷ s.idle ≡ t.idle
  pub kept : s.kept ≡ t.kept
  pub free : s.free ≡ t.free
  pub contexts : with_duty c Idle s.contexts ≡ t.contexts
  pub owes : owes_nothing t.owed ≡ true

pub park_lists : (sizes : Extents) (s t : State) (c : ℕ) → after sizes s (Park c) ≡ Some t →
    ParksIn s t c
unfolding legal.after_park
park_lists sizes s t c h = let w = stood _ _ t h in record {
  idle = ap (λ (x : State). x.idle) w.1;
  kept = ap (λ (x : State). x.kept) w.1;
  free = ap (λ (x : State). x.free) w.1;
  contexts = ap (λ (x : State). x.contexts) w.1;
  owes = ap (λ (x : State). owes_nothing x.owed) (sym w.1);
}

-- ---- which event may stand

none_stands : (sizes : Extents) (es : List Event) (o : Option State) → IsSome (go_on sizes es o) →
    IsSome o
none_stands sizes es None h = absurd (cc)
none_stands sizes es (Some t) h = refl

-- the first of some events
pub first_may : (sizes : Extents) (s : State) (e : Event) (es : List Event) →
    IsSome (after_all sizes s (e ∷ es)) → IsSome (after sizes s e)
first_may sizes s e es h = none_stands sizes es (after sizes s e)
    (subst (λ o. IsSome o) (all_more sizes s e es) h)

-- no event tells of frames where none come back
pub backs_none : (n : ℕ) → n ≡ 0 → backs n ≡ []
backs_none n z = ap (λ m. backs m) z

backs_at : (n : ℕ) (b : Bool) → n ≢ 0 → (n == 0) ≡ b → cond b [] (Back n ∷ []) ≡ Back n ∷ []
backs_at n true p e = absurd (p (same n 0 e))
backs_at n false p e = refl

pub backs_some : (n : ℕ) → n ≢ 0 → backs n ≡ Back n ∷ []
backs_some n p = backs_at n (n == 0) p refl

pub answer_may : (sizes : Extents) (s : State) (i c u : ℕ) → legal.may_answer s i c u ≡ true →
    after sizes s (Answer i c u) ≡ Some (legal.after_answer sizes s i c u)
answer_may sizes s i c u h = rw h refl

-- what is owed after an answer of a context that may be used again, by whether there is no room
pub answer_owes : (sizes : Extents) (idle : List ℕ) (c u : ℕ) (full : Bool) → 1 ≤ sizes.idle →
    u + 1 < sizes.uses → is_full sizes.idle idle ≡ full →
    owed_after_answer sizes idle c u ≡ cond full (owed.EndOrEvict c) (owed.EndOrPark c)
unfolding owed_after_answer
answer_owes sizes idle c u full some usable f =
    let p : nat_le 1 sizes.idle ≡ true = grind (arith, nat_tests) in
    let q : nat_lt (u + 1) sizes.uses ≡ true = grind (arith, nat_tests) in
    rw (p, q, f) refl

pub evict_may : (sizes : Extents) (s : State) (e : ℕ) → legal.owes_evict s.owed ≡ true →
    last_of s.idle ≡ Some e → after sizes s (Evict e) ≡ Some (legal.after_evict s e)
unfolding legal.may_evict
evict_may sizes s e o l = rw (o, l, self e) refl

pub park_may : (sizes : Extents) (s : State) (c : ℕ) → legal.owes_park s.owed c ≡ true →
    after sizes s (Park c) ≡ Some (legal.after_park s c)
park_may sizes s c h = rw h refl

-- ---- a context that serves

-- it isn't idle
pub serves_not_idle : (sizes : Extents) (s : State) (i c u : ℕ) → Sound sizes s →
    legal.may_answer s i c u ≡ true → Has c s.idle → ⊥
serves_not_idle sizes s i c u z m h =
    let d = serves_duty s c i (answer_serves s i c u m) in
    let e : Some Idle ≡ Some (Serves i) = sym (z.idle c h) ∙ d in cc

with_answer_more : (c i u : ℕ) (xs : List ℕ) → with_answer c (Answer i c u) xs ≡ xs ++ i ∷ []
with_answer_more c i u xs = rw (self c) refl

used_at : (c n : ℕ) (xs : List ContextState) (x : ContextState) → numbered xs c ≡ Some x →
    numbered (with_used c n xs) c ≡ Some (record x { used = n })
unfolding with_used
used_at c n xs x h = changed_here (λ (y : ContextState). record y { used = n }) c xs x h

duty_at : (c : ℕ) (d : Duty) (xs : List ContextState) (x : ContextState) →
    numbered xs c ≡ Some x → numbered (with_duty c d xs) c ≡ Some (record x { duty = d })
unfolding with_duty
duty_at c d xs x h = changed_here (λ (y : ContextState). record y { duty = d }) c xs x h

-- once it answered, the journal has of it what it tells
pub answered_waits : (sizes : Extents) (es : List Event) (s t : State) (started : List Started)
    (i c u : ℕ) (told : ParkedContext) (pin : Option Pin) (x : ContextState) →
    after_all sizes (at_first sizes) es ≡ Some s → after sizes s (Answer i c u) ≡ Some t →
    numbered s.contexts c ≡ Some x →
    IsNoted x c (givens started (served s c ++ i ∷ [])) told → pin ≡ None →
    IsWaiting t started c told.function told pin
answered_waits sizes es s t started i c u told pin x r a n w l =
    let same : served t c ≡ served s c ++ i ∷ [] = grows sizes es s t (Answer i c u) c r a
    ∙ with_answer_more c i u (served s c) in
    record {
      state = record x { used = u + 1 };
      state_is = ap (λ xs. numbered xs c) (sym (answer_lists sizes s t i c u a).contexts)
          ∙ used_at c (u + 1) s.contexts x n;
      function_is = refl;
      noted = record {
        number = w.number;
        for_function = w.for_function;
        place = w.place;
        bare = w.bare;
        in_order = w.in_order ∙ ap (givens started) (sym same);
      };
      loose = l;
    }

-- it stays so where another goes
pub evicted_waits : (sizes : Extents) (es : List Event) (s t : State) (started : List Started)
    (e c function : ℕ) (told : ParkedContext) (pin : Option Pin) →
    after_all sizes (at_first sizes) es ≡ Some s → after sizes s (Evict e) ≡ Some t → e ≢ c →
    IsWaiting s started c function told pin → IsWaiting t started c function told pin
evicted_waits sizes es s t started e c function told pin r a n w =
    let same : served t c ≡ served s c = grows sizes es s t (Evict e) c r a in
    record {
      state = w.state;
      state_is = context_stays sizes s (Evict e) t c a (apart e c n) ∙ w.state_is;
      function_is = w.function_is;
      noted = record {
        number = w.noted.number;
        for_function = w.noted.for_function;
        place = w.noted.place;
        bare = w.noted.bare;
        in_order = w.noted.in_order ∙ ap (givens started) (sym same);
      };
      loose = w.loose;
    }

-- and where it is parked
pub parked_waits : (sizes : Extents) (es : List Event) (s t : State) (started : List Started)
    (c function : ℕ) (told : ParkedContext) (pin : Option Pin) →
    after_all sizes (at_first sizes) es ≡ Some s → after sizes s (Park c) ≡ Some t →
    IsWaiting s started c function told pin → IsWaiting t started c function told pin
parked_waits sizes es s t started c function told pin r a w =
    let same : served t c ≡ served s c = grows sizes es s t (Park c) c r a in
    record {
      state = record w.state { duty = Idle };
      state_is = ap (λ xs. numbered xs c) (sym (park_lists sizes s t c a).contexts)
          ∙ duty_at c Idle s.contexts w.state w.state_is;
      function_is = w.function_is;
      noted = record {
        number = w.noted.number;
        for_function = w.noted.for_function;
        place = w.noted.place;
        bare = w.noted.bare;
        in_order = w.noted.in_order ∙ ap (givens started) (sym same);
      };
      loose = w.loose;
    }

-- a context that answered tells of one request more than it had served
pub served_some : (x : ContextState) (c i : ℕ) (started : List Started) (before : List ℕ)
    (told : ParkedContext) → IsNoted x c (givens started (before ++ i ∷ [])) told →
    1 ≤ length told.served
unfolding givens
served_some x c i started before told w =
    let a = length-map told.served (λ (g : Given). Some g) in
    let b = ap (λ (gs : List (Option Given)). length gs) w.in_order in
    let d = length-map (before ++ i ∷ []) (λ (j : ℕ). option_map (λ (one : Started). one.given)
    (numbered started j)) in
    let e = length-append before (i ∷ []) in
    omega (arith, a, b, d, e)
