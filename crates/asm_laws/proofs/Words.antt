-- Words and operands that were put together are found again.
use Rattle.std.proofs.Common.{◌≡◌, ℕ, suc, ◌+◌, Bool, true, false, ◌&&◌, List, [], ◌∷◌, ◌++◌, length, take, drop}
use Rattle.std.proofs.Common.{Option, Some, None, refl, ap, sym, ◌∙◌, add-one, arith}
use Rattle.std.specs.Prelude.{not, ◌==◌, ◌||◌, if◌then◌else◌}
use Rattle.std.specs.List.{list_all, list_any, prefix_len, before_first, after_first}
use Rattle.asm_words.specs.Text.{is_space, is_blank, from_word, one_word}
use Rattle.asm_words.specs.Text.{is_comma, last_operand, first_operand, behind_comma}
use Rattle.asm_words.specs.Text.{has_parenthesis, plain, both, before_both, two_operands, three_operands, address_operands}

-- ---- tests of lists

pub and_left : (a b : Bool) → (a && b) ≡ true → a ≡ true
and_left true b e = refl
and_left false b e = e

pub and_right : (a b : Bool) → (a && b) ≡ true → b ≡ true
and_right true b e = e
and_right false b e = cc

pub and_both : (a b : Bool) → a ≡ true → b ≡ true → (a && b) ≡ true
and_both true b e f = f
and_both false b e f = e

pub all_append : (p : ℕ → Bool) (xs ys : List ℕ) → list_all p xs ≡ true → list_all p ys ≡ true → list_all p (xs ++ ys) ≡ true
all_append p [] ys h k = k
all_append p (x ∷ xs) ys h k =
    and_both (p x) (list_all p (xs ++ ys)) (and_left (p x) (list_all p xs) h)
    (all_append p xs ys (and_right (p x) (list_all p xs) h) k)

pub all_weaker : (p q : ℕ → Bool) → ((x : ℕ) → p x ≡ true → q x ≡ true) → (xs : List ℕ) → list_all p xs ≡ true → list_all q xs ≡ true
all_weaker p q f [] h = refl
all_weaker p q f (x ∷ xs) h =
    and_both (q x) (list_all q xs) (f x (and_left (p x) (list_all p xs) h))
    (all_weaker p q f xs (and_right (p x) (list_all p xs) h))

not_true : (b : Bool) → not b ≡ true → b ≡ false
not_true true e = sym e
not_true false e = refl

or_false : (a b : Bool) → a ≡ false → b ≡ false → (a || b) ≡ false
or_false true b e f = e
or_false false b e f = f

or_true : (a b : Bool) → b ≡ true → (a || b) ≡ true
or_true true b e = refl
or_true false b e = e

pub none_any : (p : ℕ → Bool) (xs : List ℕ) → list_all (λ x. not (p x)) xs ≡ true → list_any p xs ≡ false
none_any p [] h = refl
none_any p (x ∷ xs) h =
    or_false (p x) (list_any p xs) (not_true (p x) (and_left (not (p x)) (list_all (λ y. not (p y)) xs) h))
    (none_any p xs (and_right (not (p x)) (list_all (λ y. not (p y)) xs) h))

pub any_at : (p : ℕ → Bool) (xs : List ℕ) (c : ℕ) (ys : List ℕ) → p c ≡ true → list_any p (xs ++ (c ∷ ys)) ≡ true
any_at p [] c ys stops = ap (λ b. b || list_any p ys) stops
any_at p (x ∷ xs) c ys stops = or_true (p x) (list_any p (xs ++ (c ∷ ys))) (any_at p xs c ys stops)

-- ---- the first element that passes

cond_prefix : (b : Bool) (n m : ℕ) → b ≡ true → n ≡ m → (if b then 1 + n else 0) ≡ suc m
cond_prefix true n m e f = omega arith
cond_prefix false n m e f = cc

prefix_stop : (p : ℕ → Bool) (xs : List ℕ) (c : ℕ) (ys : List ℕ) → list_all p xs ≡ true → p c ≡ false → prefix_len p (xs ++ (c ∷ ys)) ≡ length xs
prefix_stop p [] c ys h free = ap (λ b. if b then 1 + prefix_len p ys else 0) free
prefix_stop p (x ∷ xs) c ys h free =
    cond_prefix (p x) (prefix_len p (xs ++ (c ∷ ys))) (length xs) (and_left (p x) (list_all p xs) h)
    (prefix_stop p xs c ys (and_right (p x) (list_all p xs) h) free)

prefix_all : (p : ℕ → Bool) (xs : List ℕ) → list_all p xs ≡ true → prefix_len p xs ≡ length xs
prefix_all p [] h = refl
prefix_all p (x ∷ xs) h =
    cond_prefix (p x) (prefix_len p xs) (length xs) (and_left (p x) (list_all p xs) h)
    (prefix_all p xs (and_right (p x) (list_all p xs) h))

take_front : (xs ys : List ℕ) → take (length xs) (xs ++ ys) ≡ xs
take_front [] ys = refl
take_front (x ∷ xs) ys = ap (λ l. x ∷ l) (take_front xs ys)

take_whole : (xs : List ℕ) → take (length xs) xs ≡ xs
take_whole [] = refl
take_whole (x ∷ xs) = ap (λ l. x ∷ l) (take_whole xs)

drop_front : (xs : List ℕ) (c : ℕ) (ys : List ℕ) → drop (suc (length xs)) (xs ++ (c ∷ ys)) ≡ ys
drop_front [] c ys = refl
drop_front (x ∷ xs) c ys = drop_front xs c ys

drop_whole : (xs : List ℕ) → drop (suc (length xs)) xs ≡ []
drop_whole [] = refl
drop_whole (x ∷ xs) = drop_whole xs

pub before_at : (p : ℕ → Bool) (xs : List ℕ) (c : ℕ) (ys : List ℕ) → list_all (λ x. not (p x)) xs ≡ true → p c ≡ true → before_first p (xs ++ (c ∷ ys)) ≡ xs
before_at p xs c ys h stops =
    ap (λ n. take n (xs ++ (c ∷ ys))) (prefix_stop (λ x. not (p x)) xs c ys h (ap not stops))
    ∙ take_front xs (c ∷ ys)

pub after_at : (p : ℕ → Bool) (xs : List ℕ) (c : ℕ) (ys : List ℕ) → list_all (λ x. not (p x)) xs ≡ true → p c ≡ true → after_first p (xs ++ (c ∷ ys)) ≡ ys
after_at p xs c ys h stops =
    ap (λ n. drop (n + 1) (xs ++ (c ∷ ys))) (prefix_stop (λ x. not (p x)) xs c ys h (ap not stops))
    ∙ (ap (λ n. drop n (xs ++ (c ∷ ys))) (add-one (length xs)) ∙ drop_front xs c ys)

pub before_none : (p : ℕ → Bool) (xs : List ℕ) → list_all (λ x. not (p x)) xs ≡ true → before_first p xs ≡ xs
before_none p xs h = ap (λ n. take n xs) (prefix_all (λ x. not (p x)) xs h) ∙ take_whole xs

pub after_none : (p : ℕ → Bool) (xs : List ℕ) → list_all (λ x. not (p x)) xs ≡ true → after_first p xs ≡ []
after_none p xs h =
    ap (λ n. drop (n + 1) xs) (prefix_all (λ x. not (p x)) xs h)
    ∙ (ap (λ n. drop n xs) (add-one (length xs)) ∙ drop_whole xs)

-- ---- one word

abbrev pub NoSpace : List ℕ → Type 0
NoSpace w = list_all (λ b. not (b == 32)) w ≡ true

abbrev pub NoComma : List ℕ → Type 0
NoComma w = list_all (λ b. not (b == 44)) w ≡ true

blank_not : (c : ℕ) (cs : List ℕ) → NoSpace (c ∷ cs) → is_blank (c ∷ cs) ≡ false
blank_not c cs h = ap (λ b. b && is_blank cs) (not_true (c == 32) (and_left (not (c == 32)) (list_all (λ b. not (b == 32)) cs) h))

from_itself : (c : ℕ) (cs : List ℕ) → NoSpace (c ∷ cs) → from_word (c ∷ cs) ≡ c ∷ cs
from_itself c cs h =
    ap (λ b. drop (if b then 1 + prefix_len is_space cs else 0) (c ∷ cs))
    (not_true (c == 32) (and_left (not (c == 32)) (list_all (λ b. not (b == 32)) cs) h))

drop_one : (n c : ℕ) (cs : List ℕ) → drop (1 + n) (c ∷ cs) ≡ drop n cs
drop_one n c cs = let e : 1 + n ≡ suc n = omega arith in ap (λ k. drop k (c ∷ cs)) e

abbrev word_of_rest : Bool → List ℕ → Option (List ℕ)
word_of_rest blank rest =
    if blank then None else if is_blank (after_first is_space rest) then Some (before_first is_space rest) else None

word_of_itself : (w : List ℕ) → NoSpace w → word_of_rest false w ≡ Some w
word_of_itself w h =
    ap (λ l. if is_blank l then Some (before_first is_space w) else None) (after_none is_space w h)
    ∙ ap Some (before_none is_space w h)

pub one_word_is : (c : ℕ) (cs : List ℕ) → NoSpace (c ∷ cs) → one_word (c ∷ cs) ≡ Some (c ∷ cs)
one_word_is c cs h =
    ap (λ b. word_of_rest b (from_word (c ∷ cs))) (blank_not c cs h)
    ∙ (ap (λ l. word_of_rest false l) (from_itself c cs h) ∙ word_of_itself (c ∷ cs) h)

-- behind a space
pub one_word_behind : (c : ℕ) (cs : List ℕ) → NoSpace (c ∷ cs) → one_word (32 ∷ (c ∷ cs)) ≡ Some (c ∷ cs)
one_word_behind c cs h =
    ap (λ b. word_of_rest b (from_word (32 ∷ (c ∷ cs)))) (blank_not c cs h)
    ∙ (ap (λ l. word_of_rest false l) (drop_one (prefix_len is_space (c ∷ cs)) 32 (c ∷ cs) ∙ from_itself c cs h)
    ∙ word_of_itself (c ∷ cs) h)

-- ---- operands

pub plain_is : (w : List ℕ) → has_parenthesis w ≡ false → plain (Some w) ≡ Some w
plain_is w h = ap (λ b. if b then None else Some w) h

pub first_at : (text rest w : List ℕ) → NoComma text → one_word text ≡ Some w → first_operand (text ++ (44 ∷ rest)) ≡ Some w
first_at text rest w free is =
    ap (λ b. if b then one_word (before_first is_comma (text ++ (44 ∷ rest))) else None) (any_at is_comma text 44 rest refl)
    ∙ (ap one_word (before_at is_comma text 44 rest free refl) ∙ is)

pub behind_at : (text rest : List ℕ) → NoComma text → behind_comma (text ++ (44 ∷ rest)) ≡ rest
behind_at text rest free = after_at is_comma text 44 rest free refl

pub last_at : (text w : List ℕ) → NoComma text → one_word text ≡ Some w → last_operand text ≡ Some w
last_at text w free is = ap (λ b. if b then None else one_word text) (none_any is_comma text free) ∙ is

-- a text that is one operand
pub record IsOperand (text w : List ℕ) : Type 0 where
  pub no_comma : NoComma text
  pub word : one_word text ≡ Some w

pub record IsPlain (text w : List ℕ) : Type 0 where
  pub no_comma : NoComma text
  pub word : one_word text ≡ Some w
  pub no_parenthesis : has_parenthesis w ≡ false

plain_first : (t rest v : List ℕ) → IsPlain t v → plain (first_operand (t ++ (44 ∷ rest))) ≡ Some v
plain_first t rest v p = ap plain (first_at t rest v p.no_comma p.word) ∙ plain_is v p.no_parenthesis

plain_last : (t v : List ℕ) → IsPlain t v → plain (last_operand t) ≡ Some v
plain_last t v p = ap plain (last_at t v p.no_comma p.word) ∙ plain_is v p.no_parenthesis

pub two_found : (t u v w : List ℕ) → IsPlain t v → IsPlain u w → two_operands (t ++ (44 ∷ u)) ≡ Some (v, w)
two_found t u v w p q =
    ap (λ o. both o (plain (last_operand (behind_comma (t ++ (44 ∷ u)))))) (plain_first t u v p)
    ∙ ap (both (Some v)) (ap (λ l. plain (last_operand l)) (behind_at t u p.no_comma) ∙ plain_last u w q)

pub three_found : (t u s v w x : List ℕ) → IsPlain t v → IsPlain u w → IsPlain s x → three_operands (t ++ (44 ∷ (u ++ (44 ∷ s)))) ≡ Some (v, w, x)
three_found t u s v w x p q r =
    let rest = u ++ (44 ∷ s) in
    ap (λ o. before_both o (two_operands (behind_comma (t ++ (44 ∷ rest))))) (plain_first t rest v p)
    ∙ ap (before_both (Some v)) (ap two_operands (behind_at t rest p.no_comma) ∙ two_found u s w x q r)

pub address_found : (t u v w : List ℕ) → IsPlain t v → IsOperand u w → address_operands (t ++ (44 ∷ u)) ≡ Some (v, w)
address_found t u v w p q =
    ap (λ o. both o (last_operand (behind_comma (t ++ (44 ∷ u))))) (plain_first t u v p)
    ∙ ap (both (Some v)) (ap last_operand (behind_at t u p.no_comma) ∙ last_at u w q.no_comma q.word)
