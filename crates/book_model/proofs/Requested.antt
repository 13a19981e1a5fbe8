-- What stands in a log of a request that waits.
use Rattle.std.proofs.Common.{◌≡◌, ℕ, ◌-◌, ◌<◌, ◌≤◌, ◌==◌, zero, suc, Bool, true, false}
use Rattle.std.proofs.Common.{List, [], ◌∷◌, ◌++◌, length, map, Option, None, Some, refl, sym, ◌∙◌}
use Rattle.std.proofs.Common.{ap, subst, arith, cond, nat_lt, get_or}
use Rattle.std.specs.Prelude.{option_map}
use Rattle.std.specs.List.{slice_get, AllByRecursion}
use Rattle.std.proofs.lemmas.Bool.Decides.{nat_tests}
use Rattle.std.proofs.lemmas.List.{map-append}
use Rattle.std.proofs.lemmas.Option.{none-some, same_Some, slice_get_within}
use Rattle.std.proofs.lemmas.Option.{get_or_from_slice_get, slice_get-get_or}
use Rattle.journal_model.specs.Extents.{Extents, Stack}
use Rattle.journal_model.specs.State.{State, numbered}
use Rattle.journal_model.specs.Legal as legal
use Rattle.journal_model.specs.Legal.{after, after_all, at_first}
use Rattle.journal_model.specs.declared.event.Event.{Event}
use Rattle.journal_model.specs.declared.event.Event.TheVariants.{Start, Take, Deploy, Refill}
use Rattle.journal_model.specs.declared.event.Event.TheVariants.{Built, Keep, Dup, Drop, Evict}
use Rattle.journal_model.specs.declared.event.Event.TheVariants.{Park, End, Back, Refuse, Want}
use Rattle.journal_model.specs.declared.event.Event.TheVariants.{Answer}
use Rattle.journal_model.specs.declared.state.RequestState.{RequestState}
use Rattle.journal_model.proofs.Folds.{none_first}
use Rattle.journal_model.proofs.Frames.{and_first, and_second, stood}
use Rattle.journal_model.proofs.Recents.{differ}
use Rattle.journal_laws.proofs.Early.{kept_always}
use Rattle.journal_laws.proofs.Naming.{waiting_is}
use Rattle.book_log.specs.Logged.{IsLogged, key_of_started, key_of_request}
use Rattle.book_log.specs.declared.started.Started.{Started}
use Rattle.book_log.proofs.Keys.{keys_at, keys_stay}
use Rattle.book_model.specs.Steps.{start_of}

-- ---- each request is for a function

abbrev AreFunctions : Extents → List (ℕ × ℕ) → Type 0
AreFunctions sizes keys = AllByRecursion (λ (k : ℕ × ℕ). k.0 < length sizes.stacks) keys

all_pushed : {A : Type 0} (P : A → Type 0) (xs : List A) (x : A) → AllByRecursion P xs → P x →
    AllByRecursion P (xs ++ x ∷ [])
all_pushed P [] x h k = (k, tt)
all_pushed P (y ∷ ys) x h k = (h.0, all_pushed P ys x h.1 k)

all_at : {A : Type 0} (P : A → Type 0) (xs : List A) (n : ℕ) (x : A) → AllByRecursion P xs →
    slice_get xs n ≡ Some x → P x
all_at P [] n x h k = absurd (none-some x k)
all_at P (y ∷ ys) zero x h k = subst P (same_Some y x k) h.0
all_at P (y ∷ ys) (suc n) x h k = all_at P ys n x h.1 k

below : (n m : ℕ) → nat_lt n m ≡ true → n < m
below n m h = grind (arith, nat_tests)

start_function : (sizes : Extents) (s : State) (i f t : ℕ) →
    legal.may_start sizes s i f t ≡ true → f < length sizes.stacks
unfolding legal.may_start
start_function sizes s i f t h = below f (length sizes.stacks) (and_second _ _ (and_first _ _ h))

start_keys : (s : State) (f t : ℕ) →
    keys_at (legal.after_start s f t) ≡ keys_at s ++ (f, t) ∷ []
unfolding legal.after_start
start_keys s f t = map-append key_of_request s.requests _

abbrev Functions : Extents → State → Type 0
Functions sizes s = AreFunctions sizes (keys_at s)

stay : (sizes : Extents) (s t : State) → keys_at t ≡ keys_at s → Functions sizes s →
    Functions sizes t
stay sizes s t h k = subst (λ (keys : List (ℕ × ℕ)). AreFunctions sizes keys) (sym h) k

functions_after : (sizes : Extents) (s : State) (e : Event) (t : State) →
    after sizes s e ≡ Some t → Functions sizes s → Functions sizes t
functions_after sizes s (Start i f z) t h k = let w = stood _ _ t h in
    subst (λ (x : State). Functions sizes x) w.1
    (subst (λ (keys : List (ℕ × ℕ)). AreFunctions sizes keys) (sym (start_keys s f z))
    (all_pushed (λ (k : ℕ × ℕ). k.0 < length sizes.stacks) (keys_at s) (f, z) k
    (start_function sizes s i f z w.0)))
functions_after sizes s (Take c i) t h k = stay sizes s t (keys_stay sizes s (Take c i) t h refl) k
functions_after sizes s (Deploy c l i n) t h k =
    stay sizes s t (keys_stay sizes s (Deploy c l i n) t h refl) k
functions_after sizes s (Refill c m n) t h k =
    stay sizes s t (keys_stay sizes s (Refill c m n) t h refl) k
functions_after sizes s (Built c l d) t h k =
    stay sizes s t (keys_stay sizes s (Built c l d) t h refl) k
functions_after sizes s (Keep l) t h k = stay sizes s t (keys_stay sizes s (Keep l) t h refl) k
functions_after sizes s (Dup l) t h k = stay sizes s t (keys_stay sizes s (Dup l) t h refl) k
functions_after sizes s (Drop l) t h k = stay sizes s t (keys_stay sizes s (Drop l) t h refl) k
functions_after sizes s (Evict c) t h k = stay sizes s t (keys_stay sizes s (Evict c) t h refl) k
functions_after sizes s (Park c) t h k = stay sizes s t (keys_stay sizes s (Park c) t h refl) k
functions_after sizes s (End c) t h k = stay sizes s t (keys_stay sizes s (End c) t h refl) k
functions_after sizes s (Back n) t h k = stay sizes s t (keys_stay sizes s (Back n) t h refl) k
functions_after sizes s (Refuse i) t h k = stay sizes s t (keys_stay sizes s (Refuse i) t h refl) k
functions_after sizes s (Want i) t h k = stay sizes s t (keys_stay sizes s (Want i) t h refl) k
functions_after sizes s (Answer i c u) t h k =
    stay sizes s t (keys_stay sizes s (Answer i c u) t h refl) k

reached_functions : (sizes : Extents) (es : List Event) (s : State) →
    after_all sizes (at_first sizes) es ≡ Some s → Functions sizes s
reached_functions sizes es s h = kept_always sizes (Functions sizes)
    (λ s e t q k g w. functions_after sizes s e t g w) [] (at_first sizes) es s
    (none_first sizes (at_first sizes)) tt h

-- ---- the request as it was started

-- a request that waits stands in the log, and has its function's stack
pub record IsRequested (sizes : Extents) (s : State) (started : List Started) (i : ℕ)
    : Type 0 where
  pub one : Started
  pub some : 1 ≤ i
  pub entry : slice_get started (i - 1) ≡ Some one
  pub function_is : one.function ≡ legal.request_function s i
  pub within : one.function < length sizes.stacks

numbered_at : {A : Type 0} (xs : List A) (i : ℕ) (x : A) (b : Bool) → (i == 0) ≡ b →
    cond b None (slice_get xs (i - 1)) ≡ Some x → (1 ≤ i) × (slice_get xs (i - 1) ≡ Some x)
numbered_at xs i x true e h = absurd (none-some x h)
numbered_at xs i x false e h = let d = differ i 0 e in (omega (arith, d), h)

number_at : {A : Type 0} (xs : List A) (i : ℕ) (x : A) → numbered xs i ≡ Some x →
    (1 ≤ i) × (slice_get xs (i - 1) ≡ Some x)
unfolding numbered
number_at xs i x h = numbered_at xs i x (i == 0) refl h

get_map : {A B : Type 0} (f : A → B) (xs : List A) (n : ℕ) →
    slice_get (map f xs) n ≡ option_map f (slice_get xs n)
get_map f [] n = refl
get_map f (x ∷ xs) zero = refl
get_map f (x ∷ xs) (suc n) = get_map f xs n

map_back : {A B : Type 0} (f : A → B) (o : Option A) (y : B) → option_map f o ≡ Some y →
    (x : A) × (o ≡ Some x) × (f x ≡ y)
map_back f None y h = absurd (none-some y h)
map_back f (Some x) y h = (x, refl, same_Some (f x) y h)

function_at : (s : State) (i : ℕ) (r : RequestState) → numbered s.requests i ≡ Some r →
    legal.request_function s i ≡ r.function
unfolding legal.request_function
function_at s i r h = ap legal.function_of_one h

pub requested : (sizes : Extents) (es : List Event) (s : State) (started : List Started) (i : ℕ) →
    IsLogged sizes es s started → legal.is_waiting s i ≡ true → IsRequested sizes s started i
requested sizes es s started i h w =
    let o = waiting_is s i w in
    let n = number_at s.requests i o.one o.entry in
    let key : slice_get (map key_of_request s.requests) (i - 1) ≡ Some (key_of_request o.one)
    = get_map key_of_request s.requests (i - 1) ∙ ap (option_map key_of_request) n.1 in
    let m = map_back key_of_started (slice_get started (i - 1)) (key_of_request o.one)
    (sym (get_map key_of_started started (i - 1))
    ∙ (ap (λ ks. slice_get ks (i - 1)) h.keys ∙ key)) in
    let f : m.0.function ≡ o.one.function = ap (λ (k : ℕ × ℕ). k.0) m.2 in
    let l : o.one.function < length sizes.stacks
    = all_at (λ (k : ℕ × ℕ). k.0 < length sizes.stacks) (keys_at s) (i - 1)
    (key_of_request o.one) (reached_functions sizes es s h.reached) key in
    record {
      one = m.0;
      some = n.0;
      entry = m.1;
      function_is = f ∙ sym (function_at s i o.one o.entry);
      within = omega (arith, f, l);
    }

module _ (sizes : Extents) (s : State) (started : List Started) (i : ℕ)
    (r : IsRequested sizes s started i) where
  pub stands_within : (now : List Started) → now ≡ started → i - 1 < length now
  stands_within now e =
      let w = slice_get_within started (i - 1) r.one r.entry in
      let l = ap (λ (xs : List Started). length xs) e in omega (arith, w, l)

  function_here : (now : List Started) (x : Started) → now ≡ started →
      (get_or now (i - 1) x).function ≡ r.one.function
  function_here now x e = ap (λ (xs : List Started). (get_or xs (i - 1) x).function) e
      ∙ ap (λ (y : Started). y.function)
      (get_or_from_slice_get started (i - 1) r.one x r.entry)

  pub function_within : (now : List Started) (x : Started) (stacks : List Stack) →
      now ≡ started → stacks ≡ sizes.stacks → (get_or now (i - 1) x).function < length stacks
  function_within now x stacks e k =
      let f = function_here now x e in let w = r.within in
      let l = ap (λ (xs : List Stack). length xs) k in omega (arith, f, w, l)

  -- where its image stands
  pub starts_at : (now : List Started) (x : Started) (stacks : List Stack) (y z : Stack) →
      now ≡ started → stacks ≡ sizes.stacks → z ≡ y →
      y ≡ get_or stacks (get_or now (i - 1) x).function y →
      z.start ≡ start_of (slice_get sizes.stacks (legal.request_function s i))
  starts_at now x stacks y z e k v h =
      let f = function_here now x e in
      ap (λ (w : Stack). w.start) (v ∙ h)
      ∙ (ap (λ (o : Option Stack). start_of o)
      (sym (slice_get-get_or stacks (get_or now (i - 1) x).function y
      (function_within now x stacks e k)))
      ∙ (ap (λ (xs : List Stack). start_of (slice_get xs (get_or now (i - 1) x).function)) k
      ∙ ap (λ (n : ℕ). start_of (slice_get sizes.stacks n)) (f ∙ r.function_is)))
