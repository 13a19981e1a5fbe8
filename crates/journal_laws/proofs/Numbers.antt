-- What stands under a number of a list to which one was added, or of which one was changed.
use Rattle.std.proofs.Common.{◌≡◌, ◌≢◌, ℕ, ◌+◌, ◌-◌, ◌==◌, Bool, true, false, cond, suc, zero}
use Rattle.std.proofs.Common.{List, [], ◌∷◌, ◌++◌, length, Option, None, Some, refl, sym, ◌∙◌, ap}
use Rattle.std.proofs.Common.{arith}
use Rattle.std.specs.List.{slice_get}
use Rattle.std.proofs.lemmas.Option.{none-some, same_Some}
use Rattle.journal_model.specs.State.{numbered}
use Rattle.journal_model.specs.Legal.{with_change}
use Rattle.journal_model.proofs.Recents.{same, differ}
use Rattle.std.specs.Prelude.{option_and_then}
use Rattle.journal_model.proofs.Looks.{changed, look_other, set_some}

all_of : {A : Type 0} (o : Option A) → option_and_then (λ x. Some x) o ≡ o
all_of None = refl
all_of (Some x) = refl

-- under another number all is as before
pub changed_other : {A : Type 0} (f : A → A) (n m : ℕ) (xs : List A) → m ≢ n →
    numbered (changed f n xs) m ≡ numbered xs m
changed_other f n m xs h = sym (all_of (numbered (changed f n xs) m))
    ∙ (look_other (λ x. Some x) f n m xs h ∙ all_of (numbered xs m))

pub changed_at : {A : Type 0} (f : A → A) (n : ℕ) (xs : List A) (x : A) (o : Option A) →
    numbered xs n ≡ o → o ≡ Some x → numbered (with_change f n xs o) n ≡ Some (f x)
changed_at f n xs x None e h = absurd (none-some x h)
changed_at f n xs x (Some y) e h =
    sym (all_of (numbered (with_change f n xs (Some y)) n))
    ∙ (set_some (λ x. Some x) (λ _. f y) (Some (f y)) n xs y (Some y) (λ x. refl) e refl
    ∙ ap (λ z. Some (f z)) (same_Some y x h))

-- under the number stands what was changed
pub changed_here : {A : Type 0} (f : A → A) (n : ℕ) (xs : List A) (x : A) →
    numbered xs n ≡ Some x → numbered (changed f n xs) n ≡ Some (f x)
changed_here f n xs x h = changed_at f n xs x (numbered xs n) refl h

get_other : {A : Type 0} (xs : List A) (k : ℕ) (x : A) → k ≢ length xs →
    slice_get (xs ++ x ∷ []) k ≡ slice_get xs k
get_other [] zero x h = absurd (h refl)
get_other [] (suc k) x h = refl
get_other (y ∷ ys) zero x h = refl
get_other (y ∷ ys) (suc k) x h = get_other ys k x (λ e. h (ap suc e))

other_push : {A : Type 0} (b : Bool) (xs : List A) (n : ℕ) (x : A) → (n == 0) ≡ b →
    n ≢ length xs + 1 →
    cond b None (slice_get (xs ++ x ∷ []) (n - 1)) ≡ cond b None (slice_get xs (n - 1))
other_push true xs n x e h = refl
other_push false xs n x e h =
    let d : n ≢ 0 = differ n 0 e in get_other xs (n - 1) x (λ k. h (omega arith))

-- where one is added, all is as before under another number
pub pushed_other : {A : Type 0} (xs : List A) (n : ℕ) (x : A) → n ≢ length xs + 1 →
    numbered (xs ++ x ∷ []) n ≡ numbered xs n
unfolding numbered
pushed_other xs n x h = other_push (n == 0) xs n x refl h

get_last : {A : Type 0} (xs : List A) (x : A) → slice_get (xs ++ x ∷ []) (length xs) ≡ Some x
get_last [] x = refl
get_last (y ∷ ys) x = get_last ys x

last_push : {A : Type 0} (b : Bool) (xs : List A) (x : A) → ((length xs + 1) == 0) ≡ b →
    cond b None (slice_get (xs ++ x ∷ []) (length xs + 1 - 1)) ≡ Some x
last_push true xs x e =
    let h : length xs + 1 ≡ 0 = same (length xs + 1) 0 e in absurd (omega arith)
last_push false xs x e =
    ap (λ k. slice_get (xs ++ x ∷ []) k) (omega arith) ∙ get_last xs x

-- and what was added stands under the next number
pub pushed_here : {A : Type 0} (xs : List A) (x : A) →
    numbered (xs ++ x ∷ []) (length xs + 1) ≡ Some x
unfolding numbered
pushed_here xs x = last_push ((length xs + 1) == 0) xs x refl

get_past : {A : Type 0} (xs : List A) → slice_get xs (length xs) ≡ None
get_past [] = refl
get_past (x ∷ xs) = get_past xs

past_at : {A : Type 0} (b : Bool) (xs : List A) →
    cond b None (slice_get xs (length xs + 1 - 1)) ≡ None
past_at true xs = refl
past_at false xs = ap (λ k. slice_get xs k) (omega arith) ∙ get_past xs

-- nothing stands under the next number before
pub next_none : {A : Type 0} (xs : List A) → numbered xs (length xs + 1) ≡ None
unfolding numbered
next_none xs = past_at ((length xs + 1) == 0) xs
