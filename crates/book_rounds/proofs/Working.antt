-- What a round owes the calls of a book.
use Rattle.std.proofs.Common.{◌≡◌, ℕ, ◌+◌, ◌-◌, ◌<◌, ◌≤◌, Bool, true, false, List, [], ◌∷◌, ◌++◌}
use Rattle.std.proofs.Common.{length, map, nat_lt, Option, None, Some, refl, sym, ◌∙◌, ap, subst}
use Rattle.std.proofs.Common.{arith, if◌then◌else◌, option_map, IfSome}
use Rattle.std.specs.Prelude.{MatchOption}
use Rattle.std.proofs.lemmas.Bool.Decides.{nat_tests}
use Rattle.std.proofs.lemmas.List.{length-append, length-map, map-append}
use Rattle.std.proofs.lemmas.Option.{none-some}
use Rattle.journal_model.specs.Extents.{Extents}
use Rattle.journal_model.specs.State.{State, numbered}
use Rattle.journal_model.specs.Legal as legal
use Rattle.journal_model.specs.Legal.{after, owes_nothing, is_clock}
use Rattle.journal_model.specs.Reads.{served}
use Rattle.journal_model.specs.declared.event.Event.{Event}
use Rattle.journal_model.specs.declared.event.Event.TheVariants.{Take, Deploy}
use Rattle.journal_model.specs.declared.state.Duty.TheVariants.{Serves}
use Rattle.journal_laws.proofs.Numbers.{pushed_here}
use Rattle.space_api.specs.Holding.{Pin}
use Rattle.space_api.specs.Told.{ParkedContext}
use Rattle.space_api.specs.declared.given.Given.{Given}
use Rattle.book_log.specs.Logged.{IsLogged}
use Rattle.book_log.specs.declared.started.Started.{Started}
use Rattle.book_log.proofs.Logging.{counted}
use Rattle.book_model.specs.Kept.{IsWaiting, givens}
use Rattle.book_model.specs.Shared.{Shared}
use Rattle.book_model.specs.Steps.{MayPark, with_below, used_before}
use Rattle.service_laws.specs.Serving.{deployed_context}
use Rattle.service_laws.proofs.Counting.{served_count}
use Rattle.service_laws.proofs.Giving.{taken_serves, taken_served}
use Rattle.service_laws.proofs.Giving.{deployed_serves, deployed_served}
use Rattle.service_laws.proofs.Starting.{next_starts, started_waits}
use Rattle.service_laws.proofs.Staying.{serving_answers}
use Rattle.book_core_tests.specs.Told.{parked_of}
use Rattle.book_rounds.specs.Served.{IsServed}

-- ---- a request is started

below : (n m : ℕ) → nat_lt n m ≡ true → n + 1 ≤ m
below n m h = grind (arith, nat_tests)

room_at : (n m i : ℕ) (b : Bool) → nat_lt n m ≡ b →
    Some i ≡ (if b then Some (n + 1) else None) → n + 1 ≤ m
room_at n m i true e h = below n m e
room_at n m i false e h = absurd (none-some i (sym h))

-- the next request may be started
pub next_may : (sizes : Extents) (es : List Event) (s : State) (started : List Started)
    (i f t : ℕ) → IsLogged sizes es s started → owes_nothing s.owed ≡ true →
    Some i ≡ (if nat_lt (length started) sizes.requests then Some (length started + 1) else None) →
    f < length sizes.stacks → is_clock sizes.clock t ≡ true →
    legal.may_start sizes s (length started + 1) f t ≡ true
next_may sizes es s started i f t h o n l k =
    next_starts sizes s (length started + 1) f t o
    (ap (λ (m : ℕ). m + 1) (counted sizes es s started h))
    (room_at (length started) sizes.requests i _ refl n) l k

module _ {C L H : Type 0} where
  -- what was started waits, for its function, and is there
  pub started_is : (b new : Shared C L H) (one : Started) (i : ℕ) →
      legal.may_start b.sizes b.state (length b.started + 1) one.function one.given.clock ≡ true →
      i ≡ length b.started + 1 →
      new.state ≡ legal.after_start b.state one.function one.given.clock →
      new.started ≡ b.started ++ one ∷ [] → (legal.is_waiting new.state i ≡ true)
      × (legal.request_function new.state i ≡ one.function)
      × (numbered new.started i ≡ Some one)
  started_is b new one i m n s l =
      let w = started_waits b.sizes b.state (length b.started + 1) one.function one.given.clock m in
      let waits = subst (λ (x : State). legal.is_waiting x (length b.started + 1) ≡ true)
      (sym s) w.0 in
      let is_for = subst
      (λ (x : State). legal.request_function x (length b.started + 1) ≡ one.function) (sym s)
      w.1 in
      let there = subst (λ (x : List Started). numbered x (length b.started + 1) ≡ Some one)
      (sym l) (pushed_here b.started one) in
      subst (λ (k : ℕ). (legal.is_waiting new.state k ≡ true)
      × (legal.request_function new.state k ≡ one.function)
      × (numbered new.started k ≡ Some one)) (sym n) (waits, is_for, there)

-- ---- a context serves it

no_givens : (started : List Started) → [] ≡ givens started []
unfolding givens
no_givens started = refl

-- one that was deployed
pub deployed_is : (sizes : Extents) (s : State) (c : ℕ) (k : Option ℕ) (i n f : ℕ) (t : State)
    (started : List Started) (told : ParkedContext) → after sizes s (Deploy c k i n) ≡ Some t →
    legal.request_function s i ≡ f → told ≡ parked_of c f k [] 0 → IsServed i told t started
deployed_is sizes s c k i n f t started told h e d =
    subst (λ (x : ParkedContext). IsServed i x t started) (sym d) (record {
      context = deployed_context s k i;
      serving = deployed_serves sizes s c k i n t h;
      for_function = sym e;
      place = refl;
      bare = refl;
      in_order = no_givens started
          ∙ ap (givens started) (sym (deployed_served sizes s c k i n t h));
    })

-- one that was taken
pub taken_is : (sizes : Extents) (es : List Event) (s : State) (i f : ℕ) (t : State)
    (started : List Started) (told : ParkedContext) (pin : Option Pin) →
    IsLogged sizes es s started → IsWaiting s started told.id f told pin →
    after sizes s (Take told.id i) ≡ Some t → IsServed i told t started
taken_is sizes es s i f t started told pin l w h = record {
  context = record w.state { duty = Serves i };
  serving = taken_serves sizes s told.id i t w.state h w.state_is;
  for_function = w.noted.for_function;
  place = w.noted.place;
  bare = w.noted.bare;
  in_order = w.noted.in_order
      ∙ ap (givens started) (sym (taken_served sizes es s told.id i t l.reached h));
}

-- what is said of the one that was found
pub matched : {C : Type 0} (found : Option C) (x : C) (N : Type 0) (P : C → Type 0) →
    found ≡ Some x → MatchOption found N P → P x
matched found x N P e h = subst (λ (o : Option _). MatchOption o N P) e h

pub so_found : {C : Type 0} (found : Option C) (x : C) (P : C → Type 0) → found ≡ Some x →
    IfSome found P → P x
so_found found x P e h = subst (λ (o : Option _). IfSome o P) e h

-- the requests that were started are the same
pub served_there : (i : ℕ) (told : ParkedContext) (s : State) (old new : List Started) →
    new ≡ old → IsServed i told s old → IsServed i told s new
served_there i told s old new e w = subst (λ (l : List Started). IsServed i told s l) (sym e) w

-- a deploy starts no request
pub below_started : {C L H : Type 0} (i : ℕ) (from : Option ℕ) (deployed : Bool) (layer : L)
    (book : Shared C L H) → (with_below i from deployed layer book).started ≡ book.started
below_started i None deployed layer book = refl
below_started i (Some k) deployed layer book = refl

-- ---- it is parked

abbrev given_of : List Started → (i : ℕ) → Option Given
given_of started i = option_map (λ (one : Started). one.given) (numbered started i)

givens_more : (started : List Started) (xs : List ℕ) (i : ℕ) →
    givens started (xs ++ i ∷ []) ≡ givens started xs ++ given_of started i ∷ []
unfolding givens
givens_more started xs i = map-append _ xs (i ∷ [])

givens_count : (started : List Started) (xs : List ℕ) → length (givens started xs) ≡ length xs
unfolding givens
givens_count started xs = length-map xs _

-- one request more, in order
in_order_more : (started : List Started) (xs : List ℕ) (list : List Given) (i : ℕ)
    (one : Started) → numbered started i ≡ Some one → map Some list ≡ givens started xs →
    map Some (list ++ one.given ∷ []) ≡ givens started (xs ++ i ∷ [])
in_order_more started xs list i one n h = map-append Some list (one.given ∷ [])
    ∙ (ap (λ ys. ys ++ Some one.given ∷ []) h
    ∙ (ap (λ o. givens started xs ++ o ∷ [])
    (sym (ap (option_map (λ (x : Started). x.given)) n))
    ∙ sym (givens_more started xs i)))

before_last : (list : List Given) (given : Given) →
    length (list ++ given ∷ []) - 1 ≡ length list
before_last list given = let e : length (list ++ given ∷ []) ≡ length list + 1 =
    length-append list (given ∷ []) in omega (arith, e)

module _ {C L H : Type 0} where
  uses_are : (b : Shared C L H) (i : ℕ) (told : ParkedContext) →
      IsLogged b.sizes b.events b.state b.started →
      (w : IsServed i told b.state b.started) → length told.served ≡ w.context.used
  uses_are b i told l w = sym (length-map told.served Some)
      ∙ (ap length w.in_order
      ∙ (givens_count b.started (served b.state told.id)
      ∙ served_count b.sizes b.events b.state told.id w.context l.reached
      w.serving.work.context))

  -- what serves a request, and may be used once more, may be parked
  pub park_may : (b : Shared C L H) (i : ℕ) (told more : ParkedContext) (one : Started)
      (given : Given) → IsLogged b.sizes b.events b.state b.started →
      IsServed i told b.state b.started → numbered b.started i ≡ Some one →
      given ≡ one.given →
      more ≡ parked_of told.id told.function told.layer (told.served ++ given ∷ []) 0 →
      1 ≤ b.sizes.idle → length told.served + 1 < b.sizes.uses → MayPark i more None b
  park_may b i told more one given l w n g m r u =
      let e : length (told.served ++ one.given ∷ []) - 1 ≡ length told.served =
      before_last told.served one.given in
      let a : legal.may_answer b.state i told.id
      (length (told.served ++ one.given ∷ []) - 1) ≡ true =
      subst (λ (k : ℕ). legal.may_answer b.state i told.id k ≡ true)
      (sym (e ∙ uses_are b i told l w)) (serving_answers b.state i told.id w.context w.serving) in
      let known : MayPark i (parked_of told.id told.function told.layer
      (told.served ++ one.given ∷ []) 0) None b = record {
        state = w.context;
        state_is = w.serving.work.context;
        answers = a;
        some_room = r;
        is_usable = subst (λ (k : ℕ). k + 1 < b.sizes.uses) (sym e) u;
        noted = record {
          number = refl;
          for_function = w.for_function;
          place = w.place;
          bare = refl;
          in_order = in_order_more b.started (served b.state told.id) told.served i one n
              w.in_order;
        };
        loose = refl;
      } in
      subst (λ (x : ParkedContext). MayPark i x None b)
      (ap (λ (v : Given). parked_of told.id told.function told.layer (told.served ++ v ∷ []) 0)
      (sym g) ∙ sym m) known

  -- and it isn't pinned
  pub unpinned : (b : Shared C L H) (i : ℕ) (more : ParkedContext) (pin : Option Pin) →
      pin ≡ None → MayPark i more None b → MayPark i more pin b
  unpinned b i more pin e w = subst (λ (o : Option Pin). MayPark i more o b) (sym e) w
