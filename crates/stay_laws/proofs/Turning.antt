-- How requests stand after a step.
use Rattle.std.proofs.Common.{◌≡◌, ℕ, ◌+◌, ◌-◌, ◌==◌, Bool, true, false, cond, List, []}
use Rattle.std.proofs.Common.{◌∷◌, ◌++◌, length, Option, None, Some, refl, sym, ◌∙◌, ap}
use Rattle.std.proofs.Common.{zero, suc, arith, slice_set}
use Rattle.std.proofs.lemmas.Option.{none-some}
use Rattle.book_model.specs.Steps.{built_events, ended, parked_events}
use Rattle.journal_model.specs.Extents.{Extents}
use Rattle.journal_model.specs.Legal as legal
use Rattle.journal_model.specs.Legal.{after, after_all, is_open_standing, with_change}
use Rattle.journal_model.specs.Legal.{with_numbered, with_service, with_standing}
use Rattle.journal_model.specs.State.{State, numbered}
use Rattle.journal_model.specs.declared.answer.How.{How}
use Rattle.journal_model.specs.declared.event.Event.{Event}
use Rattle.journal_model.specs.declared.event.Event.TheVariants.{Start, Take, Deploy, Refill}
use Rattle.journal_model.specs.declared.event.Event.TheVariants.{Built, Keep, Dup, Drop, Evict}
use Rattle.journal_model.specs.declared.event.Event.TheVariants.{Park, End, Back, Refuse, Want}
use Rattle.journal_model.specs.declared.event.Event.TheVariants.{Answer}
use Rattle.journal_model.specs.declared.state.RequestState.{RequestState}
use Rattle.journal_model.specs.declared.state.Standing.{Standing}
use Rattle.journal_model.specs.declared.state.Standing.TheVariants.{Open, Answered, Refused}
use Rattle.journal_model.specs.declared.state.Standing.TheVariants.{Wanted}
use Rattle.journal_model.proofs.Folds.{all_more, go_on}
use Rattle.journal_model.proofs.Frames.{and_first, and_second, stood}
use Rattle.journal_laws.proofs.Naming.{IsOpenAt, next_request, open_is, service_other}
use Rattle.journal_laws.proofs.Naming.{standing_other, waiting_is}
use Rattle.journal_laws.proofs.Numbers.{pushed_here, pushed_other}
use Rattle.service_laws.proofs.Looking.{service_here, standing_here}
use Rattle.service_model.specs.Going.{wanted_events}
use Rattle.service_model.specs.Staying.{TurnsOnly, WasStarted}

-- ---- as many requests

set_length : {A : Type 0} (xs : List A) (k : ℕ) (x : A) → length (slice_set xs k x) ≡ length xs
set_length [] k x = refl
set_length (y ∷ ys) zero x = refl
set_length (y ∷ ys) (suc k) x = ap suc (set_length ys k x)

put_length : {A : Type 0} (b : Bool) (xs : List A) (k : ℕ) (x : A) →
    length (cond b xs (slice_set xs k x)) ≡ length xs
put_length true xs k x = refl
put_length false xs k x = set_length xs k x

change_length : {A : Type 0} (f : A → A) (n : ℕ) (xs : List A) (o : Option A) →
    length (with_change f n xs o) ≡ length xs
unfolding with_numbered
change_length f n xs None = refl
change_length f n xs (Some x) = put_length (n == 0) xs (n - 1) (f x)

standing_length : (i : ℕ) (z : Standing) (p : Option ℕ) (rs : List RequestState) →
    length (with_standing i z p rs) ≡ length rs
unfolding with_standing
standing_length i z p rs = change_length _ i rs (numbered rs i)

service_length : (i : ℕ) (w : How) (c u : ℕ) (rs : List RequestState) →
    length (with_service i w c u rs) ≡ length rs
unfolding with_service
service_length i w c u rs = change_length _ i rs (numbered rs i)

-- ---- one changed

open_stands : (z : Standing) → is_open_standing z ≡ true → z ≡ Open
open_stands Open h = refl
open_stands Answered h = absurd (cc)
open_stands Refused h = absurd (cc)
open_stands Wanted h = absurd (cc)

closes : (i : ℕ) (z : Standing) (p : Option ℕ) (s t : State) → IsOpenAt s.requests i →
    t.requests ≡ with_standing i z p s.requests → TurnsOnly i z s t
closes i z p s t o e = record {
  count = ap length e ∙ standing_length i z p s.requests;
  others = λ j h. ap (λ rs. numbered rs j) e ∙ standing_other i j z p s.requests h;
  before = o.one;
  before_is = o.entry;
  after = record o.one { standing = z; place = p };
  after_is = ap (λ rs. numbered rs i) e ∙ standing_here i z p s.requests o.one o.entry;
  standing = refl;
  function = refl;
  clock = refl;
}

serves_open : (i : ℕ) (w : How) (c u : ℕ) (s t : State) → IsOpenAt s.requests i →
    t.requests ≡ with_service i w c u s.requests → TurnsOnly i Open s t
serves_open i w c u s t o e = record {
  count = ap length e ∙ service_length i w c u s.requests;
  others = λ j h. ap (λ rs. numbered rs j) e ∙ service_other i j w c u s.requests h;
  before = o.one;
  before_is = o.entry;
  after = record o.one { how = w; context = Some c; used = u };
  after_is = ap (λ rs. numbered rs i) e ∙ service_here i w c u s.requests o.one o.entry;
  standing = open_stands o.one.standing o.stands;
  function = refl;
  clock = refl;
}

pub stays_open : (i : ℕ) (s t : State) → legal.is_open s i ≡ true → t.requests ≡ s.requests →
    TurnsOnly i Open s t
stays_open i s t h e = let o = open_is s i h in record {
  count = ap length e;
  others = λ j n. ap (λ rs. numbered rs j) e;
  before = o.one;
  before_is = o.entry;
  after = o.one;
  after_is = ap (λ rs. numbered rs i) e ∙ o.entry;
  standing = open_stands o.one.standing o.stands;
  function = refl;
  clock = refl;
}

-- ---- events

-- an event that leaves all requests
abbrev is_quiet : Event → Bool
is_quiet (Start i f t) = false
is_quiet (Take c i) = false
is_quiet (Deploy c k i n) = false
is_quiet (Refill c h n) = false
is_quiet (Built c k d) = true
is_quiet (Keep k) = true
is_quiet (Dup k) = true
is_quiet (Drop j) = true
is_quiet (Evict e) = true
is_quiet (Park c) = true
is_quiet (End c) = true
is_quiet (Back n) = false
is_quiet (Refuse i) = false
is_quiet (Want i) = false
is_quiet (Answer i c u) = false

kept_by : (b : Bool) (x t : State) (rs : List RequestState) → x.requests ≡ rs →
    legal.step_if b x ≡ Some t → t.requests ≡ rs
kept_by b x t rs e h = ap (λ (z : State). z.requests) (sym (stood b x t h).1) ∙ e

quiet_one : (sizes : Extents) (s t : State) (e : Event) → is_quiet e ≡ true →
    after sizes s e ≡ Some t → t.requests ≡ s.requests
unfolding legal.after_built legal.after_keep legal.after_dup legal.after_drop
    legal.after_evict legal.after_park legal.after_end
quiet_one sizes s t (Start i f k) q h = absurd (cc)
quiet_one sizes s t (Take c i) q h = absurd (cc)
quiet_one sizes s t (Deploy c k i n) q h = absurd (cc)
quiet_one sizes s t (Refill c m n) q h = absurd (cc)
quiet_one sizes s t (Built c k d) q h = kept_by _ _ t _ refl h
quiet_one sizes s t (Keep k) q h = kept_by _ _ t _ refl h
quiet_one sizes s t (Dup k) q h = kept_by _ _ t _ refl h
quiet_one sizes s t (Drop j) q h = kept_by _ _ t _ refl h
quiet_one sizes s t (Evict e) q h = kept_by _ _ t _ refl h
quiet_one sizes s t (Park c) q h = kept_by _ _ t _ refl h
quiet_one sizes s t (End c) q h = kept_by _ _ t _ refl h
quiet_one sizes s t (Back n) q h = absurd (cc)
quiet_one sizes s t (Refuse i) q h = absurd (cc)
quiet_one sizes s t (Want i) q h = absurd (cc)
quiet_one sizes s t (Answer i c u) q h = absurd (cc)

abbrev are_quiet : List Event → Type 0
are_quiet [] = Unit {0}
are_quiet (e ∷ es) = (is_quiet e ≡ true) × are_quiet es

-- what comes first, and where it leads
pub first_of : (sizes : Extents) (s t : State) (e : Event) (es : List Event) →
    after_all sizes s (e ∷ es) ≡ Some t →
    (m : State) × (after sizes s e ≡ Some m) × (after_all sizes m es ≡ Some t)
first_of sizes s t e es h = found (after sizes s e) refl (sym (all_more sizes s e es) ∙ h) where
  found : (o : Option State) → after sizes s e ≡ o → go_on sizes es o ≡ Some t →
      (m : State) × (after sizes s e ≡ Some m) × (after_all sizes m es ≡ Some t)
  found None is k = absurd (none-some t k)
  found (Some m) is k = (m, is, k)

quiet_all : (sizes : Extents) (s t : State) (es : List Event) → are_quiet es →
    after_all sizes s es ≡ Some t → t.requests ≡ s.requests
unfolding after_all
quiet_all sizes s t [] q h = search
quiet_all sizes s t (e ∷ es) (q, qs) h = let p = first_of sizes s t e es h in
    quiet_all sizes p.0 t es qs p.2 ∙ quiet_one sizes s p.0 e q p.1

-- ---- what one event makes of the requests

answers_one : (sizes : Extents) (s t : State) (i c u : ℕ) →
    after sizes s (Answer i c u) ≡ Some t →
    (legal.may_answer s i c u ≡ true)
    × (t.requests ≡ with_standing i Answered (legal.place_of s c) s.requests)
unfolding legal.after_answer
answers_one sizes s t i c u h = let r = stood _ _ t h in
    (r.0, kept_by _ _ t _ refl h)

wants_one : (sizes : Extents) (s t : State) (i : ℕ) → after sizes s (Want i) ≡ Some t →
    (legal.may_want s i ≡ true) × (t.requests ≡ with_standing i Wanted
    (legal.place_of_given s (legal.given_to s i)) s.requests)
unfolding legal.after_standing
wants_one sizes s t i h = let r = stood _ _ t h in (r.0, kept_by _ _ t _ refl h)

answer_opens : (s : State) (i c u : ℕ) → legal.may_answer s i c u ≡ true →
    legal.is_open s i ≡ true
unfolding legal.may_answer
answer_opens s i c u h = and_second _ _ (and_first _ _ (and_first _ _ h))

want_opens : (s : State) (i : ℕ) → legal.may_want s i ≡ true → legal.is_open s i ≡ true
unfolding legal.may_want
want_opens s i h = and_second _ _ h

pub take_waits : (s : State) (c i : ℕ) → legal.may_take s c i ≡ true →
    legal.is_waiting s i ≡ true
unfolding legal.may_take
take_waits s c i h = and_second _ _ (and_first _ _ h)

deploy_waits : (sizes : Extents) (s : State) (c : ℕ) (k : Option ℕ) (i n : ℕ) →
    legal.may_deploy sizes s c k i n ≡ true → legal.is_waiting s i ≡ true
unfolding legal.may_deploy
deploy_waits sizes s c k i n h = and_second _ _ (and_first _ _ (and_first _ _ (and_first _ _
    (and_first _ _ (and_first _ _ h)))))

-- ---- the steps

after_answer : (sizes : Extents) (s t : State) (i c u : ℕ) (es : List Event) → are_quiet es →
    after_all sizes s (Answer i c u ∷ es) ≡ Some t → TurnsOnly i Answered s t
after_answer sizes s t i c u es q h = let p = first_of sizes s t _ es h in
    let r = answers_one sizes s p.0 i c u p.1 in
    closes i Answered _ s t (open_is s i (answer_opens s i c u r.0))
    (quiet_all sizes p.0 t es q p.2 ∙ r.1)

pub parked_closes : (sizes : Extents) (s : State) (i c u : ℕ) (last : Option ℕ) (t : State) →
    after_all sizes s (parked_events i c u 0 last) ≡ Some t → TurnsOnly i Answered s t
parked_closes sizes s i c u None t h = after_answer sizes s t i c u _ (refl, tt) h
parked_closes sizes s i c u (Some e) t h = after_answer sizes s t i c u _
    (refl, (refl, tt)) h

pub ended_closes : (sizes : Extents) (s : State) (i c u : ℕ) (t : State) →
    after_all sizes s (ended i c (Some u)) ≡ Some t → TurnsOnly i Answered s t
ended_closes sizes s i c u t h = after_answer sizes s t i c u _ (refl, tt) h

after_want : (sizes : Extents) (s t : State) (i : ℕ) (es : List Event) → are_quiet es →
    after_all sizes s (Want i ∷ es) ≡ Some t → TurnsOnly i Wanted s t
after_want sizes s t i es q h = let p = first_of sizes s t _ es h in
    let r = wants_one sizes s p.0 i p.1 in
    closes i Wanted _ s t (open_is s i (want_opens s i r.0))
    (quiet_all sizes p.0 t es q p.2 ∙ r.1)

pub wanted_closes : (sizes : Extents) (s : State) (i : ℕ) (context : Option ℕ) (t : State) →
    after_all sizes s (wanted_events i context) ≡ Some t → TurnsOnly i Wanted s t
wanted_closes sizes s i None t h = after_want sizes s t i [] tt h
wanted_closes sizes s i (Some c) t h = after_want sizes s t i _ (refl, tt) h

pub ends_there : (sizes : Extents) (s t : State) → after_all sizes s [] ≡ Some t → s ≡ t
unfolding after_all
ends_there sizes s t h = search

pub taken_opens : (sizes : Extents) (s : State) (c i : ℕ) (t : State) →
    after_all sizes s (Take c i ∷ []) ≡ Some t → TurnsOnly i Open s t
unfolding legal.after_take
taken_opens sizes s c i t h = let p = first_of sizes s t _ [] h in
    let e = after_one sizes s c i t p.0 p.1 (ends_there sizes p.0 t p.2) in
    serves_open i _ c _ s t (waiting_is s i (take_waits s c i e.0)) e.1 where
      after_one : (sizes : Extents) (s : State) (c i : ℕ) (t m : State) →
          after sizes s (Take c i) ≡ Some m → m ≡ t → (legal.may_take s c i ≡ true)
          × (t.requests ≡ (legal.after_take s c i).requests)
      after_one sizes s c i t m a b = let r = stood _ _ m a in
          (r.0, ap (λ (z : State). z.requests) (sym (r.1 ∙ b)))

pub deployed_opens : (sizes : Extents) (s : State) (c : ℕ) (from : Option ℕ) (i n : ℕ)
    (t : State) → after_all sizes s (Deploy c from i n ∷ []) ≡ Some t → TurnsOnly i Open s t
unfolding legal.after_deploy
deployed_opens sizes s c from i n t h = let p = first_of sizes s t _ [] h in
    let r = stood _ _ p.0 p.1 in
    serves_open i _ c 0 s t (waiting_is s i (deploy_waits sizes s c from i n r.0))
    (ap (λ (z : State). z.requests) (sym (r.1 ∙ ends_there sizes p.0 t p.2)))

pub built_leaves : (sizes : Extents) (s : State) (c k d : ℕ) (twice : Bool) (last : Option ℕ)
    (t : State) → after_all sizes s (built_events c k d twice last) ≡ Some t →
    t.requests ≡ s.requests
built_leaves sizes s c k d true last t h = quiet_all sizes s t _ (refl, (refl, tt)) h
built_leaves sizes s c k d false None t h = quiet_all sizes s t _ (refl, (refl, tt)) h
built_leaves sizes s c k d false (Some j) t h =
    quiet_all sizes s t _ (refl, (refl, (refl, tt))) h

pub start_adds : (sizes : Extents) (s : State) (i f k : ℕ) →
    legal.may_start sizes s i f k ≡ true → WasStarted i f k s (legal.after_start s f k)
unfolding legal.after_start
start_adds sizes s i f k h = let n = next_request sizes s i f k h in record {
  number_is = n;
  count = length_more s.requests _ ∙ sym n;
  others = λ j d. pushed_other s.requests j _ (λ e. d (e ∙ sym n));
  one = _;
  one_is = ap (λ m. numbered (legal.after_start s f k).requests m) n ∙ pushed_here s.requests _;
  stands = refl;
  function = refl;
  clock = refl;
} where
  length_more : (xs : List RequestState) (x : RequestState) →
      length (xs ++ x ∷ []) ≡ length xs + 1
  length_more [] x = refl
  length_more (y ∷ ys) x = ap suc (length_more ys x) ∙ omega arith
