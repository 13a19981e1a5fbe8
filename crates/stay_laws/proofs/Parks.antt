-- What a batch asks of the events of a step.
use Rattle.std.proofs.Common.{◌≡◌, ℕ, ◌+◌, Bool, true, false, List, [], ◌∷◌, ◌++◌, Option, None}
use Rattle.std.proofs.Common.{Some, refl, sym, ◌∙◌, ap, subst, arith, ◌==◌, if◌then◌else◌}
use Rattle.batch_model.specs.Events.{BuildsRightly, IsBuilt, ParksRightly, is_parked_by}
use Rattle.batch_model.specs.Events.{is_to_park}
use Rattle.book_model.specs.Steps.{built_events, ended, evicts, parked_events}
use Rattle.journal_laws.proofs.Ties.{self}
use Rattle.journal_model.specs.declared.event.Event.{Event}
use Rattle.journal_model.specs.declared.event.Event.TheVariants.{Start, Take, Deploy, Refill}
use Rattle.journal_model.specs.declared.event.Event.TheVariants.{Built, Keep, Dup, Drop, Evict}
use Rattle.journal_model.specs.declared.event.Event.TheVariants.{Park, End, Back, Refuse, Want}
use Rattle.journal_model.specs.declared.event.Event.TheVariants.{Answer}
use Rattle.plan_model.specs.Outline.{Outline}
use Rattle.plan_model.specs.declared.numbers.Numbers.{Numbers}
use Rattle.service_model.specs.Going.{wanted_events}
use Rattle.service_model.specs.Ticking.{BuildsTook, IsTaking, TookWith}

-- a choice by what is true, and so by a number that equals itself
chosen : {A : Type 0} (b : Bool) (x y : A) → b ≡ true → (if b then x else y) ≡ x
chosen true x y is = refl
chosen false x y is = absurd (cc)

itself : {A : Type 0} (c : ℕ) (x y : A) → (if c == c then x else y) ≡ x
itself c x y = chosen (c == c) x y (self c)

-- a context that answered is parked directly behind the one that makes room, or over
park_next : (c : ℕ) (last : Option ℕ) → is_parked_by c (evicts last ++ Park c ∷ []) ≡ Some true
unfolding is_parked_by
park_next c None = itself c _ _
park_next c (Some e) = itself c _ _

end_next : (c : ℕ) → is_parked_by c (End c ∷ []) ≡ Some false
unfolding is_parked_by
end_next c = itself c _ _

pub parks_parked : (numbers : Numbers) (ok : ℕ → Bool) (i c u : ℕ) (last : Option ℕ) →
    is_to_park numbers ok i u ≡ true → ParksRightly numbers ok (parked_events i c u 0 last)
parks_parked numbers ok i c u None is = (park_next c None ∙ ap (λ b. Some b) (sym is), tt)
parks_parked numbers ok i c u (Some e) is =
    (park_next c (Some e) ∙ ap (λ b. Some b) (sym is), tt)

pub parks_over : (numbers : Numbers) (ok : ℕ → Bool) (i c u : ℕ) →
    is_to_park numbers ok i u ≡ false → ParksRightly numbers ok (ended i c (Some u))
parks_over numbers ok i c u is = (end_next c ∙ ap (λ b. Some b) (sym is), tt)

parks_built : (numbers : Numbers) (ok : ℕ → Bool) (c k d : ℕ) (twice : Bool)
    (last : Option ℕ) → ParksRightly numbers ok (built_events c k d twice last)
parks_built numbers ok c k d true last = tt
parks_built numbers ok c k d false None = tt
parks_built numbers ok c k d false (Some j) = tt

parks_wanted : (numbers : Numbers) (ok : ℕ → Bool) (i : ℕ) (context : Option ℕ) →
    ParksRightly numbers ok (wanted_events i context)
parks_wanted numbers ok i None = tt
parks_wanted numbers ok i (Some c) = tt

pub parks_others : (numbers : Numbers) (ok : ℕ → Bool) (i f k c n d : ℕ) (from : Option ℕ)
    (twice : Bool) (last context : Option ℕ) → ParksRightly numbers ok (Start i f k ∷ [])
    × ParksRightly numbers ok (Take c i ∷ []) × ParksRightly numbers ok (Deploy c from i n ∷ [])
    × ParksRightly numbers ok (built_events c k d twice last)
    × ParksRightly numbers ok (wanted_events i context)
parks_others numbers ok i f k c n d from twice last context =
    (tt, tt, tt, parks_built numbers ok c k d twice last, parks_wanted numbers ok i context)

-- ---- layers

built_of : (plan : Outline) (k d count : ℕ) → IsTaking plan k d count → IsBuilt plan k d
built_of plan k d count t = record {
  layer = t.layer;
  layer_is = t.layer_is;
  below = t.below;
  place = t.place;
  after = t.after;
  step = t.step;
  pages_are = t.pages_are;
}

took_one : (plan : Outline) (k d count : ℕ) → IsTaking plan k d count →
    TookWith plan k d (λ total. total ≡ 0) count
took_one plan k d count t = record {
  count = count;
  rest = 0;
  took = t;
  others = refl;
  total_is = omega arith;
}

took_built : (plan : Outline) (c k d count : ℕ) (twice : Bool) (last : Option ℕ) →
    IsTaking plan k d count → BuildsTook plan (built_events c k d twice last) count
took_built plan c k d count true last t = took_one plan k d count t
took_built plan c k d count false None t = took_one plan k d count t
took_built plan c k d count false (Some j) t = took_one plan k d count t

pub takes : (plan : Outline) (k d count c : ℕ) (twice : Bool) (last : Option ℕ) →
    IsTaking plan k d count →
    IsBuilt plan k d × BuildsTook plan (built_events c k d twice last) count
takes plan k d count c twice last t =
    (built_of plan k d count t, took_built plan c k d count twice last t)

took_parked : (plan : Outline) (i c u : ℕ) (last : Option ℕ) →
    BuildsTook plan (parked_events i c u 0 last) 0
took_parked plan i c u None = refl
took_parked plan i c u (Some e) = refl

took_wanted : (plan : Outline) (i : ℕ) (context : Option ℕ) →
    BuildsTook plan (wanted_events i context) 0
took_wanted plan i None = refl
took_wanted plan i (Some c) = refl

pub took_none : (plan : Outline) (i f k c u n : ℕ) (from last context : Option ℕ) →
    BuildsTook plan (Start i f k ∷ []) 0 × BuildsTook plan (Take c i ∷ []) 0
    × BuildsTook plan (Deploy c from i n ∷ []) 0
    × BuildsTook plan (parked_events i c u 0 last) 0 × BuildsTook plan (ended i c (Some u)) 0
    × BuildsTook plan (wanted_events i context) 0
took_none plan i f k c u n from last context =
    (refl, refl, refl, took_parked plan i c u last, refl, took_wanted plan i context)

pub took_rightly : (plan : Outline) (events : List Event) (total : ℕ) →
    BuildsTook plan events total → BuildsRightly plan events
took_rightly plan [] total t = tt
took_rightly plan (Start i f k ∷ es) total t = took_rightly plan es total t
took_rightly plan (Take c i ∷ es) total t = took_rightly plan es total t
took_rightly plan (Deploy c k i n ∷ es) total t = took_rightly plan es total t
took_rightly plan (Refill c h n ∷ es) total t = took_rightly plan es total t
took_rightly plan (Built c k d ∷ es) total t =
    (built_of plan k d t.count t.took, took_rightly plan es t.rest t.others)
took_rightly plan (Keep k ∷ es) total t = took_rightly plan es total t
took_rightly plan (Dup k ∷ es) total t = took_rightly plan es total t
took_rightly plan (Drop k ∷ es) total t = took_rightly plan es total t
took_rightly plan (Evict c ∷ es) total t = took_rightly plan es total t
took_rightly plan (Park c ∷ es) total t = took_rightly plan es total t
took_rightly plan (End c ∷ es) total t = took_rightly plan es total t
took_rightly plan (Back n ∷ es) total t = took_rightly plan es total t
took_rightly plan (Refuse i ∷ es) total t = took_rightly plan es total t
took_rightly plan (Want i ∷ es) total t = took_rightly plan es total t
took_rightly plan (Answer i c u ∷ es) total t = took_rightly plan es total t

pub took_both : (plan : Outline) (first later : List Event) (m n : ℕ) →
    BuildsTook plan first m → BuildsTook plan later n → BuildsTook plan (first ++ later) (m + n)
took_both plan [] later m n t r = subst (λ k. BuildsTook plan later k)
    (sym (ap (λ k. k + n) t ∙ omega arith)) r
took_both plan (Start i f k ∷ es) later m n t r = took_both plan es later m n t r
took_both plan (Take c i ∷ es) later m n t r = took_both plan es later m n t r
took_both plan (Deploy c k i o ∷ es) later m n t r = took_both plan es later m n t r
took_both plan (Refill c h o ∷ es) later m n t r = took_both plan es later m n t r
took_both plan (Built c k d ∷ es) later m n t r = record {
  count = t.count;
  rest = t.rest + n;
  took = t.took;
  others = took_both plan es later t.rest n t.others r;
  total_is = ap (λ k. k + n) t.total_is ∙ omega arith;
}
took_both plan (Keep k ∷ es) later m n t r = took_both plan es later m n t r
took_both plan (Dup k ∷ es) later m n t r = took_both plan es later m n t r
took_both plan (Drop k ∷ es) later m n t r = took_both plan es later m n t r
took_both plan (Evict c ∷ es) later m n t r = took_both plan es later m n t r
took_both plan (Park c ∷ es) later m n t r = took_both plan es later m n t r
took_both plan (End c ∷ es) later m n t r = took_both plan es later m n t r
took_both plan (Back o ∷ es) later m n t r = took_both plan es later m n t r
took_both plan (Refuse i ∷ es) later m n t r = took_both plan es later m n t r
took_both plan (Want i ∷ es) later m n t r = took_both plan es later m n t r
took_both plan (Answer i c u ∷ es) later m n t r = took_both plan es later m n t r
