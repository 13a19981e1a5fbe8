-- What is found under a number of a list that was changed.
use Rattle.std.proofs.Common.{◌≡◌, ◌≢◌, ℕ, ◌+◌, ◌-◌, ◌==◌, Bool, true, false, cond, suc, zero}
use Rattle.std.proofs.Common.{◌⊎◌, inl, inr}
use Rattle.std.proofs.Common.{List, [], ◌∷◌, ◌++◌, length, Option, None, Some, refl, sym, ◌∙◌, ap}
use Rattle.std.proofs.Common.{arith, subst}
use Rattle.std.proofs.lemmas.Option.{none-some, same_Some, option_and_then_some}
use Rattle.std.specs.Prelude.{option_and_then, slice_set}
use Rattle.std.specs.List.{slice_get}
use Rattle.journal_model.specs.State.{numbered}
use Rattle.journal_model.specs.Legal.{with_numbered, with_change}
use Rattle.journal_model.proofs.Recents.{same, differ}

get_set_same : {A : Type 0} (xs : List A) (k : ℕ) (x y : A) → slice_get xs k ≡ Some y →
    slice_get (slice_set xs k x) k ≡ Some x
get_set_same [] k x y h = absurd (none-some y h)
get_set_same (z ∷ zs) zero x y h = refl
get_set_same (z ∷ zs) (suc k) x y h = get_set_same zs k x y h

get_set_other : {A : Type 0} (xs : List A) (k j : ℕ) (x : A) → j ≢ k →
    slice_get (slice_set xs k x) j ≡ slice_get xs j
get_set_other [] k j x h = refl
get_set_other (z ∷ zs) zero zero x h = absurd (h refl)
get_set_other (z ∷ zs) zero (suc j) x h = refl
get_set_other (z ∷ zs) (suc k) zero x h = refl
get_set_other (z ∷ zs) (suc k) (suc j) x h = get_set_other zs k j x (λ e. h (ap suc e))

put_same_at : {A : Type 0} (b : Bool) (xs : List A) (k : ℕ) (x y : A) →
    cond b None (slice_get xs k) ≡ Some y →
    cond b None (slice_get (cond b xs (slice_set xs k x)) k) ≡ Some x
put_same_at true xs k x y h = absurd (none-some y h)
put_same_at false xs k x y h = get_set_same xs k x y h

put_same : {A : Type 0} (xs : List A) (n : ℕ) (x y : A) → numbered xs n ≡ Some y →
    numbered (with_numbered n x xs) n ≡ Some x
unfolding numbered with_numbered
put_same xs n x y h = put_same_at (n == 0) xs (n - 1) x y h

put_other_at : {A : Type 0} (a b : Bool) (xs : List A) (k j : ℕ) (x : A) →
    (a ≡ false → b ≡ false → j ≢ k) →
    cond b None (slice_get (cond a xs (slice_set xs k x)) j) ≡ cond b None (slice_get xs j)
put_other_at true true xs k j x h = refl
put_other_at false true xs k j x h = refl
put_other_at true false xs k j x h = refl
put_other_at false false xs k j x h = get_set_other xs k j x (h refl refl)

apart : (n m : ℕ) → m ≢ n → (n == 0) ≡ false → (m == 0) ≡ false → m - 1 ≡ n - 1 → ⊥
apart n m h a b e =
    let p : n ≢ 0 = differ n 0 a in let q : m ≢ 0 = differ m 0 b in h (omega arith)

put_other : {A : Type 0} (xs : List A) (n m : ℕ) (x : A) → m ≢ n →
    numbered (with_numbered n x xs) m ≡ numbered xs m
unfolding numbered with_numbered
put_other xs n m x h = put_other_at (n == 0) (m == 0) xs (n - 1) (m - 1) x (apart n m h)

abbrev pub look : {A B : Type 0} → (A → Option B) → List A → ℕ → Option B
look g xs n = option_and_then g (numbered xs n)

abbrev pub changed : {A : Type 0} → (A → A) → ℕ → List A → List A
changed f n xs = with_change f n xs (numbered xs n)

other_at : {A : Type 0} (f : A → A) (n m : ℕ) (xs : List A) (o : Option A) → m ≢ n →
    numbered (with_change f n xs o) m ≡ numbered xs m
other_at f n m xs None h = refl
other_at f n m xs (Some x) h = put_other xs n m (f x) h

-- under another number all is as before
pub look_other : {A B : Type 0} (g : A → Option B) (f : A → A) (n m : ℕ) (xs : List A) → m ≢ n →
    look g (changed f n xs) m ≡ look g xs m
look_other g f n m xs h = ap (option_and_then g) (other_at f n m xs (numbered xs n) h)

set_at : {A B : Type 0} (g : A → Option B) (f : A → A) (v : Option B) (n : ℕ) (xs : List A)
    (o : Option A) (b : B) → ((x : A) → g (f x) ≡ v) → numbered xs n ≡ o →
    option_and_then g o ≡ Some b → look g (with_change f n xs o) n ≡ v
set_at g f v n xs None b s e h = absurd (none-some b h)
set_at g f v n xs (Some x) b s e h = ap (option_and_then g) (put_same xs n (f x) x e) ∙ s x

-- under the number stands what was put there, if anything stood there
pub look_set : {A B : Type 0} (g : A → Option B) (f : A → A) (v : Option B) (n : ℕ) (xs : List A)
    (b : B) → ((x : A) → g (f x) ≡ v) → look g xs n ≡ Some b → look g (changed f n xs) n ≡ v
look_set g f v n xs b s h = set_at g f v n xs (numbered xs n) b s refl h

pub set_some : {A B : Type 0} (g : A → Option B) (f : A → A) (v : Option B) (n : ℕ) (xs : List A)
    (y : A) (o : Option A) → ((x : A) → g (f x) ≡ v) → numbered xs n ≡ o → o ≡ Some y →
    look g (with_change f n xs o) n ≡ v
set_some g f v n xs y None s e h = absurd (none-some y h)
set_some g f v n xs y (Some x) s e h = ap (option_and_then g) (put_same xs n (f x) x e) ∙ s x

decide_at : (b : Bool) (m n : ℕ) → (m == n) ≡ b → (m ≡ n) ⊎ (m ≢ n)
decide_at true m n h = inl (same m n h)
decide_at false m n h = inr (differ m n h)

pub decide : (m n : ℕ) → (m ≡ n) ⊎ (m ≢ n)
decide m n = decide_at (m == n) m n refl

kept_here : {A B : Type 0} (g : A → Option B) (f : A → A) (n : ℕ) (xs : List A) (o : Option A) →
    ((x : A) → g (f x) ≡ g x) → numbered xs n ≡ o →
    look g (with_change f n xs o) n ≡ look g xs n
kept_here g f n xs None s e = refl
kept_here g f n xs (Some x) s e =
    ap (option_and_then g) (put_same xs n (f x) x e) ∙ (s x ∙ sym (ap (option_and_then g) e))

-- a change that keeps what is looked at
pub look_kept : {A B : Type 0} (g : A → Option B) (f : A → A) (n m : ℕ) (xs : List A) →
    ((x : A) → g (f x) ≡ g x) → look g (changed f n xs) m ≡ look g xs m
look_kept g f n m xs s = elim (decide m n) [
  | inl e ↦ (let P : ℕ → Type 0 = λ k. look g (changed f n xs) k ≡ look g xs k in
      subst P (sym e) (kept_here g f n xs (numbered xs n) s refl))
  | inr d ↦ look_other g f n m xs d
]

get_push : {A : Type 0} (xs : List A) (k : ℕ) (x y : A) → slice_get xs k ≡ Some y →
    slice_get (xs ++ x ∷ []) k ≡ Some y
get_push [] k x y h = absurd (none-some y h)
get_push (z ∷ zs) zero x y h = h
get_push (z ∷ zs) (suc k) x y h = get_push zs k x y h

get_pushed : {A : Type 0} (xs : List A) (k : ℕ) (x y : A) → slice_get (xs ++ x ∷ []) k ≡ Some y →
    (slice_get xs k ≡ Some y) ⊎ ((k ≡ length xs) × (x ≡ y))
get_pushed [] zero x y h = inr (refl, same_Some x y h)
get_pushed [] (suc k) x y h = absurd (none-some y h)
get_pushed (z ∷ zs) zero x y h = inl h
get_pushed (z ∷ zs) (suc k) x y h = elim (get_pushed zs k x y h)
    [ inl e ↦ inl e | inr p ↦ inr (ap suc p.0, p.1) ]

push_at : {A : Type 0} (b : Bool) (xs : List A) (k : ℕ) (x y : A) →
    cond b None (slice_get xs k) ≡ Some y → cond b None (slice_get (xs ++ x ∷ []) k) ≡ Some y
push_at true xs k x y h = h
push_at false xs k x y h = get_push xs k x y h

pub number_push : {A : Type 0} (xs : List A) (n : ℕ) (x y : A) → numbered xs n ≡ Some y →
    numbered (xs ++ x ∷ []) n ≡ Some y
unfolding numbered
number_push xs n x y h = push_at (n == 0) xs (n - 1) x y h

pushed_at : {A : Type 0} (b : Bool) (xs : List A) (n : ℕ) (x y : A) → (n == 0) ≡ b →
    cond b None (slice_get (xs ++ x ∷ []) (n - 1)) ≡ Some y →
    (cond b None (slice_get xs (n - 1)) ≡ Some y) ⊎ ((n ≡ length xs + 1) × (x ≡ y))
pushed_at true xs n x y e h = absurd (none-some y h)
pushed_at false xs n x y e h = elim (get_pushed xs (n - 1) x y h) [
  | inl k ↦ inl k
  | inr p ↦ (let d : n ≢ 0 = differ n 0 e in let q : n - 1 ≡ length xs = p.0 in
      inr (omega arith, p.1))
]

pub number_pushed : {A : Type 0} (xs : List A) (n : ℕ) (x y : A) →
    numbered (xs ++ x ∷ []) n ≡ Some y → (numbered xs n ≡ Some y) ⊎ ((n ≡ length xs + 1) × (x ≡ y))
unfolding numbered
number_pushed xs n x y h = pushed_at (n == 0) xs n x y refl h

only_at : {A B : Type 0} (g : A → Option B) (f : A → A) (v e : B) (n : ℕ) (xs : List A)
    (o : Option A) → ((x : A) → g (f x) ≡ Some v) → numbered xs n ≡ o →
    look g (with_change f n xs o) n ≡ Some e → e ≡ v
only_at g f v e n xs None s k h =
    let q : look g xs n ≡ None = ap (option_and_then g) k in absurd (none-some e (sym q ∙ h))
only_at g f v e n xs (Some x) s k h =
    same_Some e v (sym h ∙ (ap (option_and_then g) (put_same xs n (f x) x k) ∙ s x))

-- nothing else stands under the number
pub look_only : {A B : Type 0} (g : A → Option B) (f : A → A) (v e : B) (n : ℕ) (xs : List A) →
    ((x : A) → g (f x) ≡ Some v) → look g (changed f n xs) n ≡ Some e → e ≡ v
look_only g f v e n xs s h = only_at g f v e n xs (numbered xs n) s refl h

pub look_push : {A B : Type 0} (g : A → Option B) (xs : List A) (m : ℕ) (x : A) (b : B) →
    look g xs m ≡ Some b → look g (xs ++ x ∷ []) m ≡ Some b
look_push g xs m x b h = option_and_then_some g (numbered xs m) b h
    (λ y e f. ap (option_and_then g) (number_push xs m x y e) ∙ f)

pub look_pushed : {A B : Type 0} (g : A → Option B) (xs : List A) (m : ℕ) (x : A) (b : B) →
    look g (xs ++ x ∷ []) m ≡ Some b →
    (look g xs m ≡ Some b) ⊎ ((m ≡ length xs + 1) × (g x ≡ Some b))
look_pushed g xs m x b h = option_and_then_some g (numbered (xs ++ x ∷ []) m) b h
    (λ y e f. elim (number_pushed xs m x y e)
    [ inl k ↦ inl (ap (option_and_then g) k ∙ f) | inr p ↦ inr (p.0, ap g p.1 ∙ f) ])
