-- A settled state in which no request is open is whole.
use Rattle.std.proofs.Common.{◌≡◌, ℕ, ◌+◌, ◌-◌, ◌==◌, Bool, true, false, cond, List}
use Rattle.std.proofs.Common.{None, Some, refl, sym, ◌∙◌, ap, arith}
use Rattle.std.specs.List.{All, slice_get}
use Rattle.std.proofs.Common.{get_or}
use Rattle.std.proofs.lemmas.Option.{slice_get-get_or}
use Rattle.journal_laws.proofs.Naming.{open_is}
use Rattle.journal_model.specs.Legal.{IsWhole, is_busy_duty, is_open, is_open_standing}
use Rattle.journal_model.specs.State.{State, numbered}
use Rattle.journal_model.specs.declared.state.ContextState.{ContextState}
use Rattle.journal_model.specs.declared.state.Duty.{Duty}
use Rattle.journal_model.specs.declared.state.Duty.TheVariants.{Idle, Serves, Over}
use Rattle.journal_model.specs.declared.state.RequestState.{RequestState}
use Rattle.journal_model.proofs.Recents.{same}
use Rattle.service_model.specs.Staying.{IsSettled}

-- ---- what holds of all that stand under a number

next_at : {A : Type 0} (b : Bool) (xs : List A) (k : ℕ) → ((k + 1) == 0) ≡ b
    → cond b None (slice_get xs (k + 1 - 1)) ≡ slice_get xs k
next_at true xs k e = let h : k + 1 ≡ 0 = same (k + 1) 0 e in absurd (omega arith)
next_at false xs k e = ap (λ n. slice_get xs n) (omega arith)

pub number_next : {A : Type 0} (xs : List A) (k : ℕ) → numbered xs (k + 1) ≡ slice_get xs k
unfolding numbered
number_next xs k = next_at ((k + 1) == 0) xs k refl

pub all_numbered : {A : Type 0} (P : A → Type 0) (xs : List A)
    → ((i : ℕ) (x : A) → numbered xs i ≡ Some x → P x) → All P xs
all_numbered P xs f = λ k d within. f (k + 1) (get_or xs k d)
    (number_next xs k ∙ slice_get-get_or xs k d within)

-- ---- no context serves

not_busy : (d : Duty) → ((j : ℕ) → d ≡ Serves j → ⊥) → is_busy_duty d ≡ false
not_busy Idle h = refl
not_busy (Serves j) h = absurd (h j refl)
not_busy Over h = refl

no_open : (s : State) (j : ℕ) → ((i : ℕ) (r : RequestState) → numbered s.requests i ≡ Some r
    → is_open_standing r.standing ≡ false) → is_open s j ≡ true → ⊥
no_open s j closed is = let o = open_is s j is in
    let f : true ≡ false = sym o.stands ∙ closed j o.one o.entry in cc

pub settled_is_whole : (s : State) → IsSettled s
    → ((i : ℕ) (r : RequestState) → numbered s.requests i ≡ Some r
    → is_open_standing r.standing ≡ false) → IsWhole s
settled_is_whole s settled closed = record {
  requests = all_numbered (λ (r : RequestState). is_open_standing r.standing ≡ false) s.requests
      closed;
  contexts = all_numbered (λ (x : ContextState). is_busy_duty x.duty ≡ false) s.contexts
      (λ c x is. not_busy x.duty (λ j serves. no_open s j closed
      (settled.are_open c j x is serves)));
}
