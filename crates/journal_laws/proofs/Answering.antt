-- Which request a context answered after so many others, where one request is added or changed.
use Rattle.std.proofs.Common.{◌≡◌, ℕ, ◌+◌, ◌-◌, ◌<◌, ◌==◌, ◌&&◌, Bool, true, false, cond}
use Rattle.std.proofs.Common.{suc, zero}
use Rattle.std.proofs.Common.{List, [], ◌∷◌, ◌++◌, Option, None, Some, refl, sym, ◌∙◌, ap}
use Rattle.std.proofs.Common.{arith, subst}
use Rattle.std.specs.Prelude.{slice_set}
use Rattle.std.specs.List.{slice_get}
use Rattle.std.proofs.lemmas.Option.{none-some, same_Some}
use Rattle.journal_model.specs.State.{numbered}
use Rattle.journal_model.specs.Legal.{with_change, with_numbered, is_open_standing}
use Rattle.journal_model.specs.Reads.{answer_from, is_answer_of, is_answered_standing}
use Rattle.journal_model.specs.Reads.{answers_below, with_last}
use Rattle.journal_model.specs.declared.state.RequestState.{RequestState}
use Rattle.journal_model.specs.declared.state.Standing.{Standing}
use Rattle.journal_model.specs.declared.state.Standing.TheVariants.{Open, Answered, Refused}
use Rattle.journal_model.specs.declared.state.Standing.TheVariants.{Wanted}
use Rattle.journal_model.proofs.Recents.{differ}
use Rattle.journal_model.proofs.Looks.{changed, number_push}
use Rattle.journal_laws.proofs.Numbers.{changed_other}
use Rattle.journal_laws.proofs.Naming.{IsOpenAt, not_open}

pub no_and : (a b c : Bool) → a ≡ false → ((a && b) && c) ≡ false
no_and true b c h = absurd (cc)
no_and false b c h = refl

no_first : (b c : Bool) → b ≡ false → (b && c) ≡ false
no_first true c h = absurd (cc)
no_first false c h = refl

pub and_no : (a b c : Bool) → b ≡ false → ((a && b) && c) ≡ false
and_no true b c h = no_first b c h
and_no false b c h = refl

pub and_and_no : (a c : Bool) → c ≡ false → (a && c) ≡ false
and_and_no true c h = h
and_and_no false c h = refl

open_standing : (t : Standing) → is_open_standing t ≡ true → is_answered_standing t ≡ false
open_standing Open h = refl
open_standing Answered h = absurd (cc)
open_standing Refused h = refl
open_standing Wanted h = refl

-- an open request is nobody's answer
pub open_no_answer : (c v : ℕ) (r : RequestState) → is_open_standing r.standing ≡ true →
    is_answer_of c v r ≡ false
open_no_answer c v r h = no_and _ _ _ (open_standing r.standing h)

pub push_none : (c v n : ℕ) (rs : List RequestState) (r : RequestState) →
    is_answer_of c v r ≡ false → answer_from c v n (rs ++ r ∷ []) ≡ answer_from c v n rs
unfolding answer_from
push_none c v n [] r h = rw h refl
push_none c v n (x ∷ xs) r h =
    ap (λ z. cond (is_answer_of c v x) (Some n) z) (push_none c v (n + 1) xs r h)

set_same : (c v n k : ℕ) (rs : List RequestState) (q r : RequestState) →
    slice_get rs k ≡ Some r → is_answer_of c v q ≡ is_answer_of c v r →
    answer_from c v n (slice_set rs k q) ≡ answer_from c v n rs
unfolding answer_from
set_same c v n k [] q r h e = absurd (none-some r h)
set_same c v n zero (x ∷ xs) q r h e =
    ap (λ b. cond b (Some n) (answer_from c v (n + 1) xs))
    (e ∙ ap (λ z. is_answer_of c v z) (sym (same_Some x r h)))
set_same c v n (suc k) (x ∷ xs) q r h e =
    ap (λ z. cond (is_answer_of c v x) (Some n) z) (set_same c v (n + 1) k xs q r h e)

first_none : {B : Type 0} (b : Bool) (x : B) (o : Option B) → cond b (Some x) o ≡ None →
    (b ≡ false) × (o ≡ None)
first_none true x o h = absurd (none-some x (sym h))
first_none false x o h = (refl, h)

set_found : (c v n k : ℕ) (rs : List RequestState) (q r : RequestState) →
    slice_get rs k ≡ Some r → is_answer_of c v q ≡ true → answer_from c v n rs ≡ None →
    answer_from c v n (slice_set rs k q) ≡ Some (n + k)
unfolding answer_from
set_found c v n k [] q r h e m = absurd (none-some r h)
set_found c v n zero (x ∷ xs) q r h e m = rw e (ap (λ z. Some z) (omega arith))
set_found c v n (suc k) (x ∷ xs) q r h e m =
    let p = first_none (is_answer_of c v x) n (answer_from c v (n + 1) xs) m in
    rw p.0 (set_found c v (n + 1) k xs q r h e p.1 ∙ ap (λ z. Some z) (omega arith))

same_put : (b : Bool) (c v i : ℕ) (rs : List RequestState) (q r : RequestState) →
    cond b None (slice_get rs (i - 1)) ≡ Some r → is_answer_of c v q ≡ is_answer_of c v r →
    answer_from c v 1 (cond b rs (slice_set rs (i - 1) q)) ≡ answer_from c v 1 rs
same_put true c v i rs q r h e = refl
same_put false c v i rs q r h e = set_same c v 1 (i - 1) rs q r h e

put_same : (c v i : ℕ) (rs : List RequestState) (q r : RequestState) → numbered rs i ≡ Some r →
    is_answer_of c v q ≡ is_answer_of c v r →
    answer_from c v 1 (with_numbered i q rs) ≡ answer_from c v 1 rs
unfolding numbered with_numbered
put_same c v i rs q r h e = same_put (i == 0) c v i rs q r h e

change_same : (f : RequestState → RequestState) (c v i : ℕ) (rs : List RequestState)
    (r : RequestState) (o : Option RequestState) → numbered rs i ≡ o → o ≡ Some r →
    is_answer_of c v (f r) ≡ is_answer_of c v r →
    answer_from c v 1 (with_change f i rs o) ≡ answer_from c v 1 rs
change_same f c v i rs r None h k e = absurd (none-some r k)
change_same f c v i rs r (Some y) h k e =
    put_same c v i rs (f y) y h (let P : RequestState → Type 0 =
    λ z. is_answer_of c v (f z) ≡ is_answer_of c v z in subst P (sym (same_Some y r k)) e)

-- a change of a request that makes it no other answer
pub answer_same : (f : RequestState → RequestState) (c v i : ℕ) (rs : List RequestState)
    (r : RequestState) → numbered rs i ≡ Some r →
    is_answer_of c v (f r) ≡ is_answer_of c v r →
    answer_from c v 1 (changed f i rs) ≡ answer_from c v 1 rs
answer_same f c v i rs r h e = change_same f c v i rs r (numbered rs i) refl h e

number_back : (i : ℕ) → (i == 0) ≡ false → 1 + (i - 1) ≡ i
number_back i h = let d : i ≡ 0 → ⊥ = differ i 0 h in grind arith

found_put : (b : Bool) (c v i : ℕ) (rs : List RequestState) (q r : RequestState) →
    (i == 0) ≡ b → cond b None (slice_get rs (i - 1)) ≡ Some r → is_answer_of c v q ≡ true →
    answer_from c v 1 rs ≡ None →
    answer_from c v 1 (cond b rs (slice_set rs (i - 1) q)) ≡ Some i
found_put true c v i rs q r z h e m = absurd (none-some r h)
found_put false c v i rs q r z h e m =
    set_found c v 1 (i - 1) rs q r h e m ∙ ap (λ n. Some n) (number_back i z)

put_found : (c v i : ℕ) (rs : List RequestState) (q r : RequestState) → numbered rs i ≡ Some r →
    is_answer_of c v q ≡ true → answer_from c v 1 rs ≡ None →
    answer_from c v 1 (with_numbered i q rs) ≡ Some i
unfolding numbered with_numbered
put_found c v i rs q r h e m = found_put (i == 0) c v i rs q r refl h e m

change_found : (f : RequestState → RequestState) (c v i : ℕ) (rs : List RequestState)
    (r : RequestState) (o : Option RequestState) → numbered rs i ≡ o → o ≡ Some r →
    is_answer_of c v (f r) ≡ true → answer_from c v 1 rs ≡ None →
    answer_from c v 1 (with_change f i rs o) ≡ Some i
change_found f c v i rs r None h k e m = absurd (none-some r k)
change_found f c v i rs r (Some y) h k e m =
    put_found c v i rs (f y) y h (let P : RequestState → Type 0 =
    λ z. is_answer_of c v (f z) ≡ true in subst P (sym (same_Some y r k)) e) m

-- a change of a request that makes it the answer
pub answer_found : (f : RequestState → RequestState) (c v i : ℕ) (rs : List RequestState)
    (r : RequestState) → numbered rs i ≡ Some r → is_answer_of c v (f r) ≡ true →
    answer_from c v 1 rs ≡ None → answer_from c v 1 (changed f i rs) ≡ Some i
answer_found f c v i rs r h e m = change_found f c v i rs r (numbered rs i) refl h e m

-- closed requests stay, and so does what was answered
pub record IsStill (rs qs : List RequestState) : Type 0 where
  pub closed : (j : ℕ) (r : RequestState) → numbered rs j ≡ Some r →
      is_open_standing r.standing ≡ false → numbered qs j ≡ Some r
  pub answer : (c v : ℕ) → answer_from c v 1 qs ≡ answer_from c v 1 rs

pub still_same : (rs : List RequestState) → IsStill rs rs
still_same rs = record { closed = λ j r h k. h; answer = λ c v. refl }

pub still_push : (rs : List RequestState) (r : RequestState) →
    is_open_standing r.standing ≡ true → IsStill rs (rs ++ r ∷ [])
still_push rs r h = record {
  closed = λ j q e k. number_push rs j r q e;
  answer = λ c v. push_none c v 1 rs r (open_no_answer c v r h);
}

pub still_change : (f : RequestState → RequestState) (i : ℕ) (rs : List RequestState) →
    (o : IsOpenAt rs i) → ((c v : ℕ) → is_answer_of c v (f o.one) ≡ false) →
    IsStill rs (changed f i rs)
still_change f i rs o h = record {
  closed = λ j r e k. changed_other f i j rs (λ q. not_open rs j i r o e k (sym q)) ∙ e;
  answer = λ c v. answer_same f c v i rs o.one o.entry
      (h c v ∙ sym (open_no_answer c v o.one o.stands));
}

-- # What a context answered, in order

pub below_same : (c u : ℕ) (rs qs : List RequestState) →
    ((v : ℕ) → v < u → answer_from c v 1 qs ≡ answer_from c v 1 rs) →
    answers_below c u qs ≡ answers_below c u rs
unfolding answers_below
below_same c zero rs qs h = refl
below_same c (suc u) rs qs h =
    ap (λ o. with_last (answers_below c u qs) o) (h u (omega arith))
    ∙ ap (λ xs. with_last xs (answer_from c u 1 rs))
    (below_same c u rs qs (λ v l. h v (omega arith)))

pub below_more : (c u i : ℕ) (rs : List RequestState) → answer_from c u 1 rs ≡ Some i →
    answers_below c (suc u) rs ≡ answers_below c u rs ++ i ∷ []
unfolding answers_below
below_more c u i rs h = ap (λ o. with_last (answers_below c u rs) o) h
