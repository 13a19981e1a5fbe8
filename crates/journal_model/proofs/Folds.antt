-- One event after another.
use Rattle.std.proofs.Common.{◌≡◌, ℕ, ◌+◌, ◌<◌, ◌≤◌, Bool, true, false, cond, List, [], ◌∷◌, ◌++◌}
use Rattle.std.proofs.Common.{Option, None, Some, length, take, get_or, refl, sym, ◌∙◌, ap, subst}
use Rattle.std.proofs.Common.{suc, arith}
use Rattle.std.proofs.lemmas.Option.{none-some}
use Rattle.journal_model.specs.Extents.{Extents}
use Rattle.journal_model.specs.State.{State}
use Rattle.journal_model.specs.Legal.{after, after_all, at_first, owes_nothing}
use Rattle.journal_model.specs.Legal.{judged_from, totals}
use Rattle.journal_model.specs.declared.event.Event.{Event}
use Rattle.journal_model.specs.declared.state.Judged.{Judged}
use Rattle.journal_model.specs.declared.state.Judged.TheVariants.{Legal, Broken}

-- a state between two parts of a journal
pub record IsParted (sizes : Extents) (s : State) (a b : List Event) (t : State) : Type 0 where
  pub between : State
  pub first : after_all sizes s a ≡ Some between
  pub second : after_all sizes between b ≡ Some t

abbrev pub go_on : Extents → List Event → Option State → Option State
go_on sizes es None = None
go_on sizes es (Some t) = after_all sizes t es

pub all_more : (sizes : Extents) (s : State) (e : Event) (es : List Event) →
    after_all sizes s (e ∷ es) ≡ go_on sizes es (after sizes s e)
unfolding after_all
all_more sizes s e es = refl

parted_more : (sizes : Extents) (s : State) (e : Event) (a b : List Event) (t : State)
    (next : Option State) → after sizes s e ≡ next →
    ((m : State) → after_all sizes m (a ++ b) ≡ Some t → IsParted sizes m a b t) →
    go_on sizes (a ++ b) next ≡ Some t → IsParted sizes s (e ∷ a) b t
parted_more sizes s e a b t None is rest h = absurd (none-some t h)
parted_more sizes s e a b t (Some m) is rest h =
    let p = rest m h in
    record {
      between = p.between;
      first = all_more sizes s e a ∙ (ap (go_on sizes a) is ∙ p.first);
      second = p.second;
    }

pub none_first : (sizes : Extents) (s : State) → after_all sizes s [] ≡ Some s
unfolding after_all
none_first sizes s = refl

pub parted : (sizes : Extents) (s : State) (a b : List Event) (t : State) →
    after_all sizes s (a ++ b) ≡ Some t → IsParted sizes s a b t
parted sizes s [] b t h = record { between = s; first = none_first sizes s; second = h }
parted sizes s (e ∷ a) b t h = parted_more sizes s e a b t (after sizes s e) refl
    (λ m. parted sizes m a b t) (sym (all_more sizes s e (a ++ b)) ∙ h)

-- what a verdict says of the events that are left
abbrev pub Says : Extents → State → (at : ℕ) → List Event → Judged → Type 0
Says sizes s at es (Legal t) = (end : State) × (after_all sizes s es ≡ Some end)
    × (owes_nothing end.owed ≡ true) × (totals end ≡ t)
Says sizes s at es (Broken place) = (n : ℕ) × (stuck : State) × (place ≡ at + n)
    × (n ≤ length es) × (after_all sizes s (take n es) ≡ Some stuck)
    × ((d : Event) → n < length es → after sizes stuck (get_or es n d) ≡ None)
    × (n ≡ length es → owes_nothing stuck.owed ≡ false)

abbrev judged_on : Extents → (at : ℕ) → List Event → Option State → Judged
judged_on sizes at es None = Broken at
judged_on sizes at es (Some t) = judged_from sizes t (at + 1) es

judged_more : (sizes : Extents) (s : State) (at : ℕ) (e : Event) (es : List Event) →
    judged_from sizes s at (e ∷ es) ≡ judged_on sizes at es (after sizes s e)
unfolding judged_from
judged_more sizes s at e es = refl

judged_none : (sizes : Extents) (s : State) (at : ℕ) →
    judged_from sizes s at [] ≡ cond (owes_nothing s.owed) (Legal (totals s)) (Broken at)
unfolding judged_from
judged_none sizes s at = refl

says_end : (sizes : Extents) (s : State) (at : ℕ) (b : Bool) → owes_nothing s.owed ≡ b →
    Says sizes s at [] (cond b (Legal (totals s)) (Broken at))
says_end sizes s at true h = (s, none_first sizes s, h, refl)
says_end sizes s at false h =
    (0, s, omega arith, omega arith, none_first sizes s, λ d k. absurd (omega arith), λ k. h)

says_stuck : (sizes : Extents) (s : State) (at : ℕ) (e : Event) (es : List Event) →
    after sizes s e ≡ None → Says sizes s at (e ∷ es) (Broken at)
says_stuck sizes s at e es h =
    (0, s, omega arith, omega arith, none_first sizes s, λ d k. h, λ k. absurd (omega arith))

says_later : (sizes : Extents) (s t : State) (at : ℕ) (e : Event) (es : List Event) (j : Judged) →
    after sizes s e ≡ Some t → Says sizes t (at + 1) es j → Says sizes s at (e ∷ es) j
says_later sizes s t at e es (Legal totals) h k =
    (k.0, all_more sizes s e es ∙ (ap (go_on sizes es) h ∙ k.1), k.2, k.3)
says_later sizes s t at e es (Broken place) h k = (
  suc k.0,
  k.1,
  omega (arith, k.2),
  omega (arith, k.3),
  all_more sizes s e (take k.0 es) ∙ (ap (go_on sizes (take k.0 es)) h ∙ k.4),
  λ d l. k.5 d (omega arith),
  λ l. k.6 (omega arith),
)

says_on : (sizes : Extents) (s : State) (at : ℕ) (e : Event) (es : List Event)
    (next : Option State) → after sizes s e ≡ next →
    ((t : State) → Says sizes t (at + 1) es (judged_from sizes t (at + 1) es)) →
    Says sizes s at (e ∷ es) (judged_on sizes at es next)
says_on sizes s at e es None is rest = says_stuck sizes s at e es is
says_on sizes s at e es (Some t) is rest = says_later sizes s t at e es _ is (rest t)

pub says : (sizes : Extents) (s : State) (at : ℕ) (es : List Event) →
    Says sizes s at es (judged_from sizes s at es)
says sizes s at [] = let P : Judged → Type 0 = Says sizes s at [] in
    subst P (sym (judged_none sizes s at)) (says_end sizes s at (owes_nothing s.owed) refl)
says sizes s at (e ∷ es) = let P : Judged → Type 0 = Says sizes s at (e ∷ es) in
    subst P (sym (judged_more sizes s at e es))
    (says_on sizes s at e es (after sizes s e) refl (λ t. says sizes t (at + 1) es))

-- where a journal is broken
pub record IsBroken (sizes : Extents) (events : List Event) (at : ℕ) : Type 0 where
  pub state : State
  pub place : at ≤ length events
  pub reached : after_all sizes (at_first sizes) (take at events) ≡ Some state
  pub refused : (d : Event) → at < length events → after sizes state (get_or events at d) ≡ None
  pub owed : at ≡ length events → owes_nothing state.owed ≡ false

pub broken_at : (sizes : Extents) (events : List Event) (at : ℕ) →
    Says sizes (at_first sizes) 0 events (Broken at) → IsBroken sizes events at
broken_at sizes events at k =
    let e : k.0 ≡ at = omega (arith, k.2) in
    let P : ℕ → Type 0 = λ n. (n ≤ length events)
    × (after_all sizes (at_first sizes) (take n events) ≡ Some k.1)
    × ((d : Event) → n < length events → after sizes k.1 (get_or events n d) ≡ None)
    × (n ≡ length events → owes_nothing k.1.owed ≡ false) in
    let q = subst P e (k.3, k.4, k.5, k.6) in
    record { state = k.1; place = q.0; reached = q.1; refused = q.2; owed = q.3 }
