-- Lists, by the numbers of their items from 1.
use Rattle.std.proofs.Common.{◌≡◌, ◌≢◌, ℕ, ◌+◌, ◌-◌, ◌<◌, ◌==◌, ◌⊎◌, inl, inr, Bool, true}
use Rattle.std.proofs.Common.{false, cond, suc, List, [], ◌∷◌, ◌++◌, length, map, Option}
use Rattle.std.proofs.Common.{None, Some, refl, sym, ◌∙◌, ap, arith}
use Rattle.std.proofs.Math.Path.{fun_ext}
use Rattle.std.proofs.lemmas.Option.{none-some, same_Some, slice_get_within}
use Rattle.std.specs.List.{slice_get}
use Rattle.std.specs.Prelude.{option_map}
use Rattle.journal_laws.proofs.Naming.{apart}
use Rattle.journal_laws.proofs.Numbers.{pushed_here, pushed_other}
use Rattle.journal_model.specs.State.{numbered}
use Rattle.journal_model.specs.declared.answer.Answer.{Answer}
use Rattle.journal_model.proofs.Looks.{decide}
use Rattle.journal_model.proofs.Recents.{differ}
use Rattle.line_laws.proofs.Settled.{number_next}
use Rattle.service_laws.proofs.Looking.{is_same}
use Rattle.batch_laws.specs.SoFar.{with_line}

-- ---- what stands there

pub record IsWithin {A : Type 0} (xs : List A) (i : ℕ) : Type 0 where
  pub k : ℕ
  pub next : i ≡ k + 1
  pub there : k < length xs

within_at : {A : Type 0} (b : Bool) (xs : List A) (i : ℕ) (x : A) → (i == 0) ≡ b
    → cond b None (slice_get xs (i - 1)) ≡ Some x → IsWithin xs i
within_at true xs i x e h = absurd (none-some x h)
within_at false xs i x e h = let d : i ≢ 0 = differ i 0 e in record {
  k = i - 1;
  next = omega arith;
  there = slice_get_within xs (i - 1) x h;
}

-- a number under which something stands is from 1 to the length
pub within : {A : Type 0} (xs : List A) (i : ℕ) (x : A) → numbered xs i ≡ Some x → IsWithin xs i
unfolding numbered
within xs i x h = within_at (i == 0) xs i x refl h

-- ---- lists of the same keys

pub heads : {A : Type 0} (x y : A) (xs ys : List A) → x ≡ y → xs ≡ ys → x ∷ xs ≡ y ∷ ys
heads x y xs ys p q = ap (λ z. z ∷ xs) p ∙ ap (λ zs. y ∷ zs) q

same_map : {A B : Type 0} (g : A → B) (xs ys : List A) → length xs ≡ length ys
    → ((k : ℕ) → option_map g (slice_get xs k) ≡ option_map g (slice_get ys k))
    → map g xs ≡ map g ys
same_map g [] [] n h = refl
same_map g [] (y ∷ ys) n h = absurd (omega (arith, n))
same_map g (x ∷ xs) [] n h = absurd (omega (arith, n))
same_map g (x ∷ xs) (y ∷ ys) n h =
    heads (g x) (g y) (map g xs) (map g ys) (same_Some (g x) (g y) (h 0))
    (same_map g xs ys (omega (arith, n)) (λ k. h (suc k)))

-- two lists of one length have the same keys where each number has the same key in both
pub same_keys : {A B : Type 0} (g : A → B) (xs ys : List A) → length xs ≡ length ys
    → ((i : ℕ) → option_map g (numbered xs i) ≡ option_map g (numbered ys i))
    → map g xs ≡ map g ys
same_keys g xs ys n h = same_map g xs ys n (λ k. ap (option_map g) (sym (number_next xs k))
    ∙ (h (k + 1) ∙ ap (option_map g) (number_next ys k)))

-- ---- lines

choose_here : {A : Type 0} (b : Bool) (x y : A) → b ≡ true → cond b x y ≡ x
choose_here true x y h = refl
choose_here false x y h = cc

choose_other : {A : Type 0} (b : Bool) (x y : A) → b ≡ false → cond b x y ≡ y
choose_other true x y h = cc
choose_other false x y h = refl

pub line_here : (i : ℕ) (answer : Answer) (answers : ℕ → Option Answer) (j : ℕ) → j ≡ i
    → with_line i answer answers j ≡ Some answer
line_here i answer answers j e = choose_here (j == i) (Some answer) (answers j) (is_same j i e)

pub line_other : (i : ℕ) (answer : Answer) (answers : ℕ → Option Answer) (j : ℕ) → j ≢ i
    → with_line i answer answers j ≡ answers j
line_other i answer answers j d = choose_other (j == i) (Some answer) (answers j) (apart j i d)

pushed_at : (lines : List Answer) (answer : Answer) (j : ℕ)
    → (j ≡ length lines + 1) ⊎ (j ≢ length lines + 1)
    → with_line (length lines + 1) answer (numbered lines) j ≡ numbered (lines ++ answer ∷ []) j
pushed_at lines answer j (inl e) = line_here (length lines + 1) answer (numbered lines) j e
    ∙ sym (ap (λ n. numbered (lines ++ answer ∷ []) n) e ∙ pushed_here lines answer)
pushed_at lines answer j (inr d) = line_other (length lines + 1) answer (numbered lines) j d
    ∙ sym (pushed_other lines j answer d)

-- the next line, and the list to which it was added
pub line_pushed : (lines : List Answer) (answer : Answer)
    → with_line (length lines + 1) answer (numbered lines) ≡ numbered (lines ++ answer ∷ [])
line_pushed lines answer =
    fun_ext (λ j. pushed_at lines answer j (decide j (length lines + 1)))
