-- Frames are taken only where they are free.
use Rattle.std.proofs.Common.{◌≡◌, ℕ, ◌+◌, ◌-◌, ◌≤◌, Bool, true, false, ◌&&◌, nat_le, min}
use Rattle.std.proofs.Common.{Option, Some, refl, sym, ap, arith, ◌==◌}
use Rattle.std.proofs.lemmas.Bool.Decides.{nat_tests}
use Rattle.std.proofs.lemmas.Option.{none-some, same_Some}
use Rattle.journal_model.specs.Extents.{Extents}
use Rattle.journal_model.specs.State.{State}
use Rattle.journal_model.specs.Frames.{frames_taken, frames_back}
use Rattle.journal_model.specs.Legal as legal
use Rattle.journal_model.specs.Legal.{after, step_if, may_deploy, may_refill, after_start}
use Rattle.journal_model.specs.Legal.{after_take}
use Rattle.journal_model.specs.Legal.{after_deploy, after_refill, after_built, after_keep}
use Rattle.journal_model.specs.Legal.{after_dup}
use Rattle.journal_model.specs.Legal.{after_drop, after_evict, after_park, after_end, after_back}
use Rattle.journal_model.specs.Legal.{after_standing, after_answer}
use Rattle.journal_model.specs.declared.event.Event.{Event}
use Rattle.journal_model.specs.declared.event.Event.TheVariants.{Start, Take, Deploy, Refill}
use Rattle.journal_model.specs.declared.event.Event.TheVariants.{Built, Keep, Dup, Drop, Evict}
use Rattle.journal_model.specs.declared.event.Event.TheVariants.{Park, End, Back, Refuse, Want}
use Rattle.journal_model.specs.declared.event.Event.TheVariants.{Answer}

-- an event stood: its condition, and the state after it
pub stood : (b : Bool) (x t : State) → step_if b x ≡ Some t → (b ≡ true) × (x ≡ t)
stood true x t h = (refl, same_Some x t h)
stood false x t h = absurd (none-some t h)

pub and_first : (a b : Bool) → (a && b) ≡ true → a ≡ true
and_first true b h = refl
and_first false b h = absurd (cc)

pub and_second : (a b : Bool) → (a && b) ≡ true → b ≡ true
and_second true b h = h
and_second false b h = absurd (cc)

within : (n m : ℕ) → nat_le n m ≡ true → n ≤ m
within n m h = grind (arith, nat_tests)

least : (n a b : ℕ) → (n == min a b) ≡ true → n ≤ b
least n a b h = let e : n ≡ min a b = grind (arith, nat_tests) in omega arith

deploy_within : (sizes : Extents) (s : State) (c : ℕ) (k : Option ℕ) (i n : ℕ) →
    may_deploy sizes s c k i n ≡ true → n ≤ s.free
unfolding may_deploy
deploy_within sizes s c k i n h = within n s.free (and_second _ _ h)

refill_within : (sizes : Extents) (s : State) (c h n : ℕ) → may_refill sizes s c h n ≡ true →
    n ≤ s.free
unfolding may_refill
refill_within sizes s c h n k =
    least n (legal.most_spares - h) s.free (and_second _ _ (and_first _ _ k))

abbrev Moves : State → Event → State → Type 0
Moves s e t = t.free + frames_taken e ≡ s.free + frames_back e

-- the free number falls by what an event takes, and rises by what comes back
pub moves : (sizes : Extents) (s : State) (e : Event) (t : State) → after sizes s e ≡ Some t →
    Moves s e t
unfolding after_start after_take after_deploy after_refill after_built after_keep after_dup
    after_drop after_evict after_park after_end after_back after_standing after_answer
moves sizes s (Start i f t) z h = let r = stood _ _ z h in ap (λ (x : State). x.free + 0) (sym r.1)
moves sizes s (Take c i) z h = let r = stood _ _ z h in ap (λ (x : State). x.free + 0) (sym r.1)
moves sizes s (Deploy c k i n) z h =
    let r = stood _ _ z h in
    let l : n ≤ s.free = deploy_within sizes s c k i n r.0 in
    let e : s.free - n ≡ z.free = ap (λ (x : State). x.free) r.1 in omega arith
moves sizes s (Refill c m n) z h =
    let r = stood _ _ z h in
    let l : n ≤ s.free = refill_within sizes s c m n r.0 in
    let e : s.free - n ≡ z.free = ap (λ (x : State). x.free) r.1 in omega arith
moves sizes s (Built c k d) z h = let r = stood _ _ z h in ap (λ (x : State). x.free + 0) (sym r.1)
moves sizes s (Keep k) z h = let r = stood _ _ z h in ap (λ (x : State). x.free + 0) (sym r.1)
moves sizes s (Dup k) z h = let r = stood _ _ z h in ap (λ (x : State). x.free + 0) (sym r.1)
moves sizes s (Drop k) z h = let r = stood _ _ z h in ap (λ (x : State). x.free + 0) (sym r.1)
moves sizes s (Evict c) z h = let r = stood _ _ z h in ap (λ (x : State). x.free + 0) (sym r.1)
moves sizes s (Park c) z h = let r = stood _ _ z h in ap (λ (x : State). x.free + 0) (sym r.1)
moves sizes s (End c) z h = let r = stood _ _ z h in ap (λ (x : State). x.free + 0) (sym r.1)
moves sizes s (Back n) z h =
    let r = stood _ _ z h in
    let e : s.free + n ≡ z.free = ap (λ (x : State). x.free) r.1 in omega arith
moves sizes s (Refuse i) z h = let r = stood _ _ z h in ap (λ (x : State). x.free + 0) (sym r.1)
moves sizes s (Want i) z h = let r = stood _ _ z h in ap (λ (x : State). x.free + 0) (sym r.1)
moves sizes s (Answer i c u) z h = let r = stood _ _ z h in ap (λ (x : State). x.free + 0) (sym r.1)
