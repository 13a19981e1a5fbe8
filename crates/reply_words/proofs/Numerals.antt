-- Numbers in a base, spelled and read: what is spelled is read, and only that.
use Rattle.std.proofs.Common.{◌≡◌, ◌≢◌, ℕ, zero, suc, ◌≤◌, ◌<◌, ◌+◌, ◌-◌, ◌*◌, ◌/◌, ◌%◌, ◌^◌}
use Rattle.std.proofs.Common.{List, [], ◌∷◌, ◌++◌, length, Bool, true, false, Option, None, Some}
use Rattle.std.proofs.Common.{arith, refl, sym, ap, ◌∙◌, subst, cond, nat_lt, nat_le, nat_eq, ◌==◌}
use Rattle.std.proofs.Common.{eq-eqb, ne_eqb, inl, inr, append_assoc}
use Rattle.std.proofs.lemmas.Bool.{cases_lt, eqb-true}
use Rattle.std.proofs.lemmas.Bool.Decides.{nat_tests}
use Rattle.std.proofs.lemmas.Fmt.{digits_is_IsNumeral, hex_one_digit}
use Rattle.std.proofs.lemmas.List.{append-nil}
use Rattle.std.proofs.lemmas.Option.{none-some, same_Some}
use Rattle.std.proofs.Math.Nat.{mul-le-mul_left, pow-suc}
use Rattle.std.proofs.Math.Pow.{pow-lt}
use Rattle.std.specs.Char.{digit_value}
use Rattle.std.specs.Fmt.{digit_glyph, digits, digits_onto}
use Rattle.std.specs.Str.Parse.{digits_value_after}
use Rattle.reply_words.specs.Reading.{low_digit, digits_of, fitting, is_plain, at_most, number_of}

-- ---- tests and options

-- a choice of something or nothing gave something
pub gave : {A : Type 0} (b : Bool) (o : Option A) (x : A) → cond b o None ≡ Some x →
    (b ≡ true) × (o ≡ Some x)
gave true o x h = (refl, h)
gave false o x h = absurd (none-some x h)

pub chosen : {A : Type 0} (b : Bool) (o p : Option A) → b ≡ true → o ≡ p → cond b o None ≡ p
chosen true o p e h = h
chosen false o p e h = absurd (cc)

pub below : (n m : ℕ) → n < m → nat_lt n m ≡ true
below n m h = grind (arith, nat_tests)

pub below_is : (n m : ℕ) → nat_lt n m ≡ true → n < m
below_is n m h = grind (arith, nat_tests)

pub within : (n m : ℕ) → n ≤ m → nat_le n m ≡ true
within n m h = grind (arith, nat_tests)

pub within_is : (n m : ℕ) → nat_le n m ≡ true → n ≤ m
within_is n m h = grind (arith, nat_tests)

-- ---- numbers that grow too large

at_digit : (b : Bool) (o : Option ℕ) → fitting o ≡ None → fitting (cond b o None) ≡ None
at_digit true o h = h
at_digit false o h = refl

-- what is too large stays so with more digits
pub too_large : (base n : ℕ) (cs : List ℕ) → 0 < base → 2 ^ 64 ≤ n →
    fitting (digits_of base n cs) ≡ None
too_large base n [] b h = grind (arith, nat_tests)
too_large base n (c ∷ cs) b h = at_digit (nat_lt (low_digit c) base) _
    (too_large base (n * base + low_digit c) cs b
    (let one : 1 ≤ base = omega arith in omega (arith, mul-le-mul_left n one)))

-- ---- bases

-- what is used of a base
pub record IsBase (b : ℕ) : Type 0 where
  pub some : 0 < b
  pub few : b ≤ 16
  pub doubles : (n : ℕ) → n * 2 ≤ n * b
  pub joined : (n d : ℕ) → d < b → ((n * b + d) / b ≡ n) × ((n * b + d) % b ≡ d)
  pub last : (n : ℕ) → n % b < b
  pub alone : (n : ℕ) → n < b → (n / b ≡ 0) × (n % b ≡ n)
  pub one : (n : ℕ) → n / b ≡ 0 → n % b ≡ n
  pub less : (n k : ℕ) → n < 2 * k → n / b < k
  pub room : (n : ℕ) → n < 2 ^ 64 → n < b ^ 64
  pub two : 2 ≤ b

pub ten : IsBase 10
ten = record {
  some = omega arith;
  few = omega arith;
  doubles = λ n. omega arith;
  joined = λ n d h. (omega arith, omega arith);
  last = λ n. omega arith;
  alone = λ n h. (omega arith, omega arith);
  one = λ n h. omega arith;
  less = λ n k h. omega arith;
  room = λ n h. omega arith;
  two = omega arith;
}

pub sixteen : IsBase 16
sixteen = record {
  some = omega arith;
  few = omega arith;
  doubles = λ n. omega arith;
  joined = λ n d h. (omega arith, omega arith);
  last = λ n. omega arith;
  alone = λ n h. (omega arith, omega arith);
  one = λ n h. omega arith;
  less = λ n k h. omega arith;
  room = λ n h. omega arith;
  two = omega arith;
}

-- ---- digits

pub glyph_is : (c : ℕ) → low_digit c < 16 → digit_glyph false (low_digit c) ≡ c
glyph_is c h = grind (arith, nat_tests)

pub digit_is : (d : ℕ) → d < 16 → low_digit (digit_glyph false d) ≡ d
digit_is d h = grind (arith, nat_tests)

value_is : (c : ℕ) → low_digit c < 16 → low_digit c ≡ digit_value c
value_is c h = grind (arith, nat_tests)

abbrev pub AreDigits : (b : ℕ) → List ℕ → Type 0
AreDigits b [] = Unit {0}
AreDigits b (c ∷ cs) = (low_digit c < b) × AreDigits b cs

-- the number that digits write after those of n
abbrev after : (b n : ℕ) → List ℕ → ℕ
after b n [] = n
after b n (c ∷ cs) = after b (n * b + low_digit c) cs

digits_read : (b n : ℕ) (ds : List ℕ) → AreDigits b ds → digits_of b n ds ≡ Some (after b n ds)
digits_read b n [] h = refl
digits_read b n (c ∷ cs) h =
    chosen (nat_lt (low_digit c) b) _ _ (below (low_digit c) b h.0)
    (digits_read b (n * b + low_digit c) cs h.1)

read_digits : (b n : ℕ) (ds : List ℕ) (v : ℕ) → digits_of b n ds ≡ Some v →
    AreDigits b ds × (after b n ds ≡ v)
read_digits b n [] v h = (tt, same_Some n v h)
read_digits b n (c ∷ cs) v h =
    let s = gave (nat_lt (low_digit c) b) (digits_of b (n * b + low_digit c) cs) v h in
    let r = read_digits b (n * b + low_digit c) cs v s.1 in
    ((below_is (low_digit c) b s.0, r.0), r.1)

same_value : (b n : ℕ) (ds : List ℕ) → b ≤ 16 → AreDigits b ds →
    after b n ds ≡ digits_value_after b n ds
same_value b n [] few h = refl
same_value b n (c ∷ cs) few h =
    same_value b (n * b + low_digit c) cs few h.1
    ∙ ap (λ x. digits_value_after b (n * b + x) cs) (value_is c (omega (arith, h.0, few)))

-- ---- how digits are spelled, at a room that is a variable

last_digit : (b k n : ℕ) (acc : List ℕ) → n / b ≡ 0 →
    digits_onto (suc k) b false n acc ≡ digit_glyph false (n % b) ∷ acc
last_digit b k n acc e =
    let t : nat_eq (n / b) 0 ≡ true = eq-eqb (n / b) 0 e in
    ap (λ v. cond v (digit_glyph false (n % b) ∷ acc)
    (digits_onto k b false (n / b) (digit_glyph false (n % b) ∷ acc))) t

next_digit : (b k n : ℕ) (acc : List ℕ) → n / b ≢ 0 →
    digits_onto (suc k) b false n acc
    ≡ digits_onto k b false (n / b) (digit_glyph false (n % b) ∷ acc)
next_digit b k n acc h =
    let t : nat_eq (n / b) 0 ≡ false = ne_eqb (n / b) 0 h in
    ap (λ v. cond v (digit_glyph false (n % b) ∷ acc)
    (digits_onto k b false (n / b) (digit_glyph false (n % b) ∷ acc))) t

-- the digits behind those of n are spelled again
onto_after : (b : ℕ) → IsBase b → (ds : List ℕ) (k n : ℕ) (acc : List ℕ) → 0 < n →
    AreDigits b ds →
    digits_onto (length ds + k) b false (after b n ds) acc ≡ digits_onto k b false n (ds ++ acc)
onto_after b i [] k n acc some d =
    let e : 0 + k ≡ k = omega arith in ap (λ j. digits_onto j b false n acc) e
onto_after b i (c ∷ cs) k n acc some d =
    let x = low_digit c in
    let m = n * b + x in
    let count : length (c ∷ cs) + k ≡ length cs + suc k = omega arith in
    let j = i.joined n x d.0 in
    let large : m / b ≢ 0 = λ z. omega (arith, j.0, z, some) in
    let more : 0 < m = omega (arith, i.doubles n, some) in
    let few : x < 16 = omega (arith, d.0, i.few) in
    ap (λ r. digits_onto r b false (after b m cs) acc) count
    ∙ (onto_after b i cs (suc k) m acc more d.1
    ∙ (next_digit b k m (cs ++ acc) large
    ∙ (ap (λ r. digits_onto k b false r (digit_glyph false (m % b) ∷ (cs ++ acc))) j.0
    ∙ (ap (λ r. digits_onto k b false n (digit_glyph false r ∷ (cs ++ acc))) j.1
    ∙ ap (λ r. digits_onto k b false n (r ∷ (cs ++ acc))) (glyph_is c few)))))

power_below : (j k : ℕ) → 2 ^ j < 2 ^ k → j < k
power_below j k h =
    elim (cases_lt j k) [
      | inl less ↦ less
      | inr more ↦ elim (cases_lt k j) [
        | inl above ↦ let p : 2 ^ k < 2 ^ j = pow-lt above in absurd (omega (arith, p, h))
        | inr same ↦
            let e : j ≡ k = omega arith in
            let q : 2 ^ j ≡ 2 ^ k = ap (λ r. 2 ^ r) e in absurd (omega (arith, q, h))
      ]
    ]

-- there are no more digits than bits
few_digits : (b : ℕ) → IsBase b → (cs : List ℕ) (n j k : ℕ) → 2 ^ j ≤ n →
    after b n cs < 2 ^ k → length cs + j < k
few_digits b i [] n j k h l =
    let p : j < k = power_below j k (omega (arith, h, l)) in omega (arith, p)
few_digits b i (c ∷ cs) n j k h l =
    let m : 2 ^ suc j ≤ n * b + low_digit c = omega (arith, pow-suc 2 j, i.doubles n, h) in
    let r : length cs + suc j < k =
    few_digits b i cs (n * b + low_digit c) (suc j) k m l in omega (arith, r)

spelled_in : (b : ℕ) → IsBase b → (room : ℕ) (c : ℕ) (cs : List ℕ) → AreDigits b (c ∷ cs) →
    0 < low_digit c → length cs < room →
    digits_onto room b false (after b (low_digit c) cs) [] ≡ c ∷ cs
spelled_in b i room c cs d some few =
    let x = low_digit c in
    let k = room - length cs - 1 in
    let count : room ≡ length cs + suc k = omega arith in
    let a = i.alone x d.0 in
    ap (λ r. digits_onto r b false (after b x cs) []) count
    ∙ (onto_after b i cs (suc k) x [] some d.1
    ∙ (last_digit b k x (cs ++ []) a.0
    ∙ (ap (λ r. digit_glyph false r ∷ (cs ++ [])) a.1
    ∙ (ap (λ r. r ∷ (cs ++ [])) (glyph_is c (omega (arith, d.0, i.few)))
    ∙ ap (λ l. c ∷ l) (append-nil cs)))))

zero_in : (b : ℕ) → IsBase b → (room : ℕ) → 0 < room → digits_onto room b false 0 [] ≡ 48 ∷ []
zero_in b i zero h = absurd (omega arith)
zero_in b i (suc k) h =
    let a = i.alone 0 i.some in
    last_digit b k 0 [] a.0 ∙ ap (λ d. digit_glyph false d ∷ []) a.1

lower : (x y b : ℕ) → x ≡ y → y < b → x < b
lower x y b e h = omega arith

either_digits : (b : ℕ) (t : Bool) (xs ys : List ℕ) → AreDigits b xs → AreDigits b ys →
    AreDigits b (cond t xs ys)
either_digits b true xs ys h k = h
either_digits b false xs ys h k = k

onto_digits : (b : ℕ) → IsBase b → (room n : ℕ) (acc : List ℕ) → AreDigits b acc →
    AreDigits b (digits_onto room b false n acc)
onto_digits b i zero n acc h = h
onto_digits b i (suc k) n acc h =
    let g = digit_glyph false (n % b) in
    let d : low_digit g < b =
    lower (low_digit g) (n % b) b (digit_is (n % b) (omega (arith, i.last n, i.few))) (i.last n) in
    either_digits b (nat_eq (n / b) 0) (g ∷ acc) (digits_onto k b false (n / b) (g ∷ acc))
    (d, h) (onto_digits b i k (n / b) (g ∷ acc) (d, h))

-- the first digit isn't 0
abbrev IsLed : List ℕ → Type 0
IsLed [] = ⊥
IsLed (c ∷ cs) = 0 < low_digit c

higher : (x y : ℕ) → x ≡ y → 0 < y → 0 < x
higher x y e h = omega arith

above_zero : (x : ℕ) → nat_eq x 0 ≡ false → 0 < x
above_zero x h = grind (arith, nat_tests)

either_led : (t : Bool) (xs ys : List ℕ) → (t ≡ true → IsLed xs) → (t ≡ false → IsLed ys) →
    IsLed (cond t xs ys)
either_led true xs ys h k = h refl
either_led false xs ys h k = k refl

onto_led : (b : ℕ) → IsBase b → (room n : ℕ) (acc : List ℕ) → 0 < n → n < 2 ^ room →
    IsLed (digits_onto room b false n acc)
onto_led b i zero n acc some h = absurd (omega arith)
onto_led b i (suc k) n acc some h =
    let g = digit_glyph false (n % b) in
    let small : n < 2 * 2 ^ k = omega (arith, pow-suc 2 k, h) in
    either_led (nat_eq (n / b) 0) (g ∷ acc) (digits_onto k b false (n / b) (g ∷ acc))
    (λ t. let e : n % b ≡ n = i.one n (eqb-true (n / b) 0 t) in
    higher (low_digit g) n (digit_is (n % b) (omega (arith, i.last n, i.few)) ∙ e) some)
    (λ t. onto_led b i k (n / b) (g ∷ acc) (above_zero (n / b) t) (i.less n (2 ^ k) small))

plain_led : (ds : List ℕ) → IsLed ds → is_plain ds ≡ true
plain_led [] h = absurd h
plain_led (c ∷ []) h = refl
plain_led (c ∷ d ∷ cs) h =
    let t : (c == 48) ≡ false = ne_eqb c 48 (λ e. omega (arith, ap low_digit e, h)) in rw t refl

-- ---- numbers

zero_digits : (b : ℕ) → IsBase b → digits b false 0 ≡ 48 ∷ []
unfolding digits
zero_digits b i = zero_in b i 64 (omega arith)

spelled : (b : ℕ) → IsBase b → (c : ℕ) (cs : List ℕ) → AreDigits b (c ∷ cs) → 0 < low_digit c →
    after b (low_digit c) cs < 2 ^ 64 → digits b false (after b (low_digit c) cs) ≡ c ∷ cs
unfolding digits
spelled b i c cs d some small =
    let few = few_digits b i cs (low_digit c) 0 64 (omega (arith, some)) small in
    spelled_in b i 64 c cs d some (omega (arith, few))

pub number_digits : (b : ℕ) → IsBase b → (n : ℕ) → AreDigits b (digits b false n)
unfolding digits
number_digits b i n = onto_digits b i 64 n [] tt

led : (b : ℕ) → IsBase b → (n : ℕ) → 0 < n → n < 2 ^ 64 → IsLed (digits b false n)
unfolding digits
led b i n some small = onto_led b i 64 n [] some small

plain : (b : ℕ) → IsBase b → (n : ℕ) → n < 2 ^ 64 → is_plain (digits b false n) ≡ true
plain b i zero h = ap is_plain (zero_digits b i)
plain b i (suc n) h = plain_led (digits b false (suc n)) (led b i (suc n) (omega arith) h)

value : (b : ℕ) → IsBase b → (n : ℕ) → n < 2 ^ 64 → digits_of b 0 (digits b false n) ≡ Some n
value b i n h =
    let ds = digits b false n in
    let d : AreDigits b ds = number_digits b i n in
    let numeral = digits_is_IsNumeral b false i.two i.few n (i.room n h) in
    digits_read b 0 ds d ∙ ap Some (same_value b 0 ds i.few d ∙ numeral.1)

zero_word : (b : ℕ) → IsBase b → (c : ℕ) (cs : List ℕ) (n : ℕ) → low_digit c ≡ 0 →
    is_plain (c ∷ cs) ≡ true → after b (low_digit c) cs ≡ n → c ∷ cs ≡ digits b false n
zero_word b i c [] n z p v =
    let e : c ≡ 48 = sym (glyph_is c (omega (arith, z))) ∙ ap (digit_glyph false) z in
    ap (λ x. x ∷ []) e ∙ (sym (zero_digits b i) ∙ ap (λ x. digits b false x) (sym z ∙ v))
zero_word b i c (d ∷ cs) n z p v =
    let e : c ≡ 48 = sym (glyph_is c (omega (arith, z))) ∙ ap (digit_glyph false) z in
    let t : (c == 48) ≡ true = eq-eqb c 48 e in
    let q : false ≡ true = sym (ap (λ s. cond s false true) t) ∙ p in absurd (cc)

word_is : (b : ℕ) → IsBase b → (w : List ℕ) (n : ℕ) → is_plain w ≡ true → AreDigits b w →
    after b 0 w ≡ n → n < 2 ^ 64 → w ≡ digits b false n
word_is b i [] n p d v s = absurd (cc)
word_is b i (c ∷ cs) n p d v s =
    let first : 0 * b + low_digit c ≡ low_digit c = omega arith in
    let same : after b (low_digit c) cs ≡ n = ap (λ x. after b x cs) (sym first) ∙ v in
    elim (cases_lt 0 (low_digit c)) [
      | inl some ↦
          sym (spelled b i c cs d some (lower _ n (2 ^ 64) same s))
          ∙ ap (λ x. digits b false x) same
      | inr none ↦ zero_word b i c cs n (omega (arith, none)) p same
    ]

fitting_is : (o : Option ℕ) (n : ℕ) → fitting o ≡ Some n → (o ≡ Some n) × (n < 2 ^ 64)
fitting_is None n h = absurd (none-some n h)
fitting_is (Some m) n h =
    let s = gave (nat_lt m (2 ^ 64)) (Some m) n h in
    let e : m ≡ n = same_Some m n s.1 in
    let P : ℕ → Type 0 = λ k. k < 2 ^ 64 in
    (s.1, subst P e (below_is m (2 ^ 64) s.0))

at_most_is : (most : ℕ) (o : Option ℕ) (n : ℕ) → at_most most o ≡ Some n →
    (o ≡ Some n) × (n ≤ most)
at_most_is most None n h = absurd (none-some n h)
at_most_is most (Some m) n h =
    let s = gave (nat_le m most) (Some m) n h in
    let e : m ≡ n = same_Some m n s.1 in
    let P : ℕ → Type 0 = λ k. k ≤ most in
    (s.1, subst P e (within_is m most s.0))

-- what is spelled is read
pub number_read : (b : ℕ) → IsBase b → (most n : ℕ) → n ≤ most → most < 2 ^ 64 →
    number_of b most (digits b false n) ≡ Some n
unfolding number_of
number_read b i most n h small =
    let fits : n < 2 ^ 64 = omega arith in
    chosen (is_plain (digits b false n)) _ (Some n) (plain b i n fits)
    (ap (λ o. at_most most (fitting o)) (value b i n fits)
    ∙ (ap (at_most most) (chosen (nat_lt n (2 ^ 64)) (Some n) (Some n) (below n (2 ^ 64) fits) refl)
    ∙ chosen (nat_le n most) (Some n) (Some n) (within n most h) refl))

-- and nothing else
pub read_is : (b : ℕ) → IsBase b → (most : ℕ) (w : List ℕ) (n : ℕ) →
    number_of b most w ≡ Some n → (w ≡ digits b false n) × (n ≤ most)
unfolding number_of
read_is b i most w n h =
    let s = gave (is_plain w) (at_most most (fitting (digits_of b 0 w))) n h in
    let a = at_most_is most (fitting (digits_of b 0 w)) n s.1 in
    let f = fitting_is (digits_of b 0 w) n a.0 in
    let d = read_digits b 0 w n f.0 in
    (word_is b i w n s.0 d.0 d.1 f.1, a.1)

-- ---- the last digit apart, in hexadecimal

joins_step : (b : Bool) (g : ℕ) (acc front more : List ℕ) → more ≡ front ++ acc →
    cond b (g ∷ acc) more ≡ cond b (g ∷ []) front ++ acc
joins_step true g acc front more e = refl
joins_step false g acc front more e = e

-- digits before others
onto_joins : (k n : ℕ) (acc : List ℕ) →
    digits_onto k 16 false n acc ≡ digits_onto k 16 false n [] ++ acc
onto_joins zero n acc = refl
onto_joins (suc k) n acc =
    let g = digit_glyph false (n % 16) in
    let front = digits_onto k 16 false (n / 16) [] in
    joins_step (nat_eq (n / 16) 0) g acc (digits_onto k 16 false (n / 16) (g ∷ []))
    (digits_onto k 16 false (n / 16) (g ∷ acc))
    (onto_joins k (n / 16) (g ∷ acc) ∙ sym (append_assoc front (g ∷ []) acc)
    ∙ ap (λ l. l ++ acc) (sym (onto_joins k (n / 16) (g ∷ []))))

room_step : (b : Bool) (xs ys zs : List ℕ) → ys ≡ zs → cond b xs ys ≡ cond b xs zs
room_step true xs ys zs e = refl
room_step false xs ys zs e = e

-- room for more digits than there are changes nothing
more_room : (k n : ℕ) (acc : List ℕ) → n < 2 ^ k →
    digits_onto (suc k) 16 false n acc ≡ digits_onto (suc (suc k)) 16 false n acc
more_room zero n acc few =
    let e : n / 16 ≡ 0 = omega arith in
    let t : nat_eq (n / 16) 0 ≡ true = eq-eqb (n / 16) 0 e in rw t refl
more_room (suc k) n acc few =
    room_step (nat_eq (n / 16) 0) (digit_glyph false (n % 16) ∷ acc) _ _
    (more_room k (n / 16) (digit_glyph false (n % 16) ∷ acc) (omega (arith, pow-suc 2 k)))

in_room : (room k n : ℕ) → room ≡ suc (suc k) → 16 ≤ n → n / 16 < 2 ^ k →
    digits_onto room 16 false n []
    ≡ digits_onto room 16 false (n / 16) [] ++ (digit_glyph false (n % 16) ∷ [])
in_room room k n e large few =
    let g = digit_glyph false (n % 16) in
    let P : ℕ → Type 0 =
    λ r. digits_onto r 16 false n [] ≡ digits_onto r 16 false (n / 16) [] ++ (g ∷ []) in
    subst P (sym e)
    (next_digit 16 (suc k) n [] (λ none. omega (arith, none))
    ∙ (onto_joins (suc k) (n / 16) (g ∷ [])
    ∙ ap (λ l. l ++ (g ∷ [])) (more_room k (n / 16) [] few)))

-- the last digit behind the others
hex_more : (n : ℕ) → 16 ≤ n → n < 2 ^ 64 →
    digits 16 false (n / 16) ++ (digit_glyph false (n % 16) ∷ []) ≡ digits 16 false n
unfolding digits
hex_more n large small = sym (in_room 64 62 n (omega arith) large (omega arith))

pub hex_behind : (n d : ℕ) → d ≡ digit_glyph false (n % 16) → 16 ≤ n → n < 2 ^ 64 →
    digits 16 false (n / 16) ++ (d ∷ []) ≡ digits 16 false n
hex_behind n d e large small =
    ap (λ x. digits 16 false (n / 16) ++ (x ∷ [])) e ∙ hex_more n large small

pub hex_alone : (n d : ℕ) → d ≡ digit_glyph false (n % 16) → n < 16 → d ∷ [] ≡ digits 16 false n
hex_alone n d e small =
    let same : n % 16 ≡ n = omega arith in
    ap (λ x. x ∷ []) (e ∙ ap (digit_glyph false) same) ∙ sym (hex_one_digit false n small)
