-- Numbers in decimal, read back; and only they are read.
use Rattle.std.proofs.Common.{◌≡◌, ℕ, ◌+◌, ◌-◌, ◌*◌, ◌^◌, ◌<◌, Bool, true, false, cond}
use Rattle.std.proofs.Common.{List, [], ◌∷◌, ◌++◌, length, take, drop, get_or, Option, None, Some}
use Rattle.std.proofs.Common.{arith, rules, refl, sym, ap, subst, ◌∙◌, ◌==◌, ◌&&◌, nat_lt, nat_le}
use Rattle.std.proofs.Common.{◌≢◌, zero, suc}
use Rattle.std.proofs.lemmas.Bool.Decides.{nat_tests}
use Rattle.std.proofs.lemmas.Option.{none-some, same_Some, option_and_then_some}
use Rattle.std.proofs.lemmas.List.{take-append-drop, append-nil}
use Rattle.std.proofs.lemmas.Fmt.{decimal_is_IsNumeral, decimal_digit, first_decimal}
use Rattle.std.proofs.lemmas.Fmt.{decimal_nonempty, decimal-digits_value}
use Rattle.std.proofs.lemmas.Str.Parse.{digit_from_value, numerals_by_value, tells_digits}
use Rattle.std.proofs.Math.Seq.{take-append_seam, drop-append_seam, take-length, drop-length}
use Rattle.std.specs.Fmt.{decimal}
use Rattle.std.specs.Char.{is_ascii_digit, digit_value}
use Rattle.std.specs.Str.Parse.{AllDigits, digits_value, digits_value_after}
use Rattle.std.specs.Int.{IsInRange}
use Rattle.journal_model.specs.Line.{one_number, two_numbers, three_numbers}
use Rattle.event_text.specs.Reading.{Taken, is_in, IsIn, digits_of, fitting, is_plain, in_field}
use Rattle.event_text.specs.Reading.{decimal_of, word_size, number_of, one_of, two_of, three_of}
use Rattle.event_text.specs.Reading.{with_rest, only_if, before_one, before_two}
use Rattle.event_text.specs.declared.field.Field.{Field}
use Rattle.event_text.specs.declared.field.Field.TheVariants.{Short, Count, Positive, Long}

-- # Tests and options

-- a choice of something or nothing gave something
pub gave : {A : Type 0} (b : Bool) (o : Option A) (x : A) → cond b o None ≡ Some x →
    (b ≡ true) × (o ≡ Some x)
gave true o x h = (refl, h)
gave false o x h = absurd (none-some x h)

same : (c n : ℕ) → (c == n) ≡ true → c ≡ n
same c n h = grind (arith, nat_tests)

below : (n m : ℕ) → n < m → nat_lt n m ≡ true
below n m h = grind (arith, nat_tests)

below_is : (n m : ℕ) → nat_lt n m ≡ true → n < m
below_is n m h = grind (arith, nat_tests)

-- # Fields

pub in_test : (field : Field) (n : ℕ) → IsIn field n → is_in field n ≡ true
in_test Short n h = below n (2 ^ 16) h
in_test Count n h = below n (2 ^ 32) h
in_test Positive n h = rw (below n (2 ^ 32) h.1) (grind (arith, nat_tests))
in_test Long n h = below n (2 ^ 64) h

positive_is : (n m : ℕ) → (nat_le 1 n && nat_lt n m) ≡ true → (0 < n) × (n < m)
positive_is n m h = grind (arith, nat_tests)

pub test_in : (field : Field) (n : ℕ) → is_in field n ≡ true → IsIn field n
test_in Short n h = below_is n (2 ^ 16) h
test_in Count n h = below_is n (2 ^ 32) h
test_in Positive n h = positive_is n (2 ^ 32) h
test_in Long n h = below_is n (2 ^ 64) h

fits : (field : Field) (n : ℕ) → IsIn field n → n < 2 ^ 64
fits Short n h = omega arith
fits Count n h = omega arith
fits Positive n h = omega (arith, h.1)
fits Long n h = h

-- # Digits

digit_test : (c : ℕ) → digit_value c < 10 → is_ascii_digit c ≡ true
digit_test c h = let r : IsInRange 48 57 c = digit_from_value c h in grind (arith, nat_tests)

digit_is : (c : ℕ) → digit_value c < 10 → c - 48 ≡ digit_value c
digit_is c h = let r : IsInRange 48 57 c = digit_from_value c h in grind (arith, nat_tests)

test_digit : (c : ℕ) → is_ascii_digit c ≡ true → digit_value c < 10
test_digit c h = grind (arith, nat_tests)

no_space : (c : ℕ) → digit_value c < 10 → (c == 32) ≡ false
no_space c h = let r : IsInRange 48 57 c = digit_from_value c h in grind (arith, nat_tests)

step_read : (cs : List ℕ) (b : Bool) (k m : ℕ) → b ≡ true → k ≡ m →
    digits_of k cs ≡ Some (digits_value_after 10 k cs) →
    cond b (digits_of k cs) None ≡ Some (digits_value_after 10 m cs)
step_read cs b k m t e h = rw (t, ← e) h

-- the digits of a numeral are read to its value
digits_read : (n : ℕ) (ds : List ℕ) → AllDigits 10 ds →
    digits_of n ds ≡ Some (digits_value_after 10 n ds)
digits_read n [] h = refl
digits_read n (c ∷ cs) h =
    step_read cs (is_ascii_digit c) (n * 10 + (c - 48)) (n * 10 + digit_value c)
    (digit_test c h.0) (ap (λ x. n * 10 + x) (digit_is c h.0))
    (digits_read (n * 10 + (c - 48)) cs h.1)

-- what is read are digits, and their value
read_digits : (n : ℕ) (ds : List ℕ) (v : ℕ) → digits_of n ds ≡ Some v →
    AllDigits 10 ds × (digits_value_after 10 n ds ≡ v)
read_digits n [] v h = (search rules, same_Some n v h)
read_digits n (c ∷ cs) v h =
    let s = gave (is_ascii_digit c) (digits_of (n * 10 + (c - 48)) cs) v h in
    let d : digit_value c < 10 = test_digit c s.0 in
    let r = read_digits (n * 10 + (c - 48)) cs v s.1 in
    ((d, r.0), ap (λ x. digits_value_after 10 (n * 10 + x) cs) (sym (digit_is c d)) ∙ r.1)

-- # Words

plain_of : (ds : List ℕ) → 0 < length ds → get_or ds 0 0 ≢ 48 → is_plain ds ≡ true
plain_of [] some first = absurd (omega arith)
plain_of (c ∷ []) some first = refl
plain_of (c ∷ d ∷ cs) some first = grind (arith, nat_tests)

decimal_plain : (n : ℕ) → n < 2 ^ 64 → is_plain (decimal n) ≡ true
decimal_plain zero h = rw (decimal_digit 0 (omega arith)) refl
decimal_plain (suc n) h = plain_of (decimal (suc n)) (decimal_nonempty (suc n) h)
    (let first = first_decimal (suc n) (omega arith) h in λ e. omega (arith, first, e))

plain_parts : (ds : List ℕ) → is_plain ds ≡ true →
    (0 < length ds) × (get_or ds 0 0 ≡ 48 → length ds ≡ 1)
plain_parts [] h = absurd (cc)
plain_parts (c ∷ []) h = (omega arith, λ e. refl)
plain_parts (c ∷ d ∷ cs) h = (omega arith, λ e. absurd (grind (arith, nat_tests)))

fitting_some : (o : Option ℕ) (n : ℕ) → o ≡ Some n → n < 2 ^ 64 → fitting o ≡ Some n
fitting_some o n e h = rw (e, below n (2 ^ 64) h) refl

fitting_is : (o : Option ℕ) (n : ℕ) → fitting o ≡ Some n → (o ≡ Some n) × (n < 2 ^ 64)
fitting_is None n h = absurd (none-some n h)
fitting_is (Some m) n h =
    let s = gave (nat_lt m (2 ^ 64)) (Some m) n h in
    let e : m ≡ n = same_Some m n s.1 in
    (s.1, rw (← e) (below_is m (2 ^ 64) s.0))

in_field_is : (field : Field) (o : Option ℕ) (n : ℕ) → in_field field o ≡ Some n →
    (o ≡ Some n) × (is_in field n ≡ true)
in_field_is field None n h = absurd (none-some n h)
in_field_is field (Some m) n h =
    let s = gave (is_in field m) (Some m) n h in
    let e : m ≡ n = same_Some m n s.1 in
    let P : ℕ → Type 0 = λ k. is_in field k ≡ true in
    (s.1, subst P e s.0)

digits_of_decimal : (n : ℕ) → n < 2 ^ 64 → AllDigits 10 (decimal n)
digits_of_decimal n h = let d = decimal_is_IsNumeral n h in d.0.1

-- a number of a field is read
decimal_read : (field : Field) (n : ℕ) → IsIn field n → decimal_of field (decimal n) ≡ Some n
unfolding decimal_of
decimal_read field n h =
    let small : n < 2 ^ 64 = fits field n h in
    let d = decimal_is_IsNumeral n small in
    let e : digits_of 0 (decimal n) ≡ Some n =
    digits_read 0 (decimal n) d.0.1 ∙ ap Some d.1 in
    rw (
      decimal_plain n small,
      fitting_some (digits_of 0 (decimal n)) n e small,
      in_test field n h,
    ) refl

-- and nothing else
read_decimal : (field : Field) (w : List ℕ) (n : ℕ) → decimal_of field w ≡ Some n →
    (w ≡ decimal n) × IsIn field n
unfolding decimal_of
read_decimal field w n h =
    let s = gave (is_plain w) (in_field field (fitting (digits_of 0 w))) n h in
    let i = in_field_is field (fitting (digits_of 0 w)) n s.1 in
    let f = fitting_is (digits_of 0 w) n i.0 in
    let d = read_digits 0 w n f.0 in
    let p = plain_parts w s.0 in
    let v : digits_value 10 w ≡ n = d.1 in
    let e : decimal (digits_value 10 w) ≡ w = decimal-digits_value {P = AllDigits 10}
    {v = digits_value 10} (numerals_by_value (AllDigits 10) tells_digits) w d.0 p.0 p.1
    (rw v f.1) in
    (sym e ∙ ap decimal v, test_in field n i.1)

-- # Texts

size_before : (ds t : List ℕ) → AllDigits 10 ds → word_size (ds ++ 32 ∷ t) ≡ length ds
unfolding word_size
size_before [] t h = refl
size_before (c ∷ cs) t h = rw (no_space c h.0, size_before cs t h.1) (omega arith)

size_all : (ds : List ℕ) → AllDigits 10 ds → word_size ds ≡ length ds
unfolding word_size
size_all [] h = refl
size_all (c ∷ cs) h = rw (no_space c h.0, size_all cs h.1) (omega arith)

pub number_before : (field : Field) (n : ℕ) (t : List ℕ) → IsIn field n →
    number_of field (32 ∷ (decimal n ++ 32 ∷ t)) ≡ Some (record { value = n; rest = 32 ∷ t })
unfolding number_of
number_before field n t h =
    let d = digits_of_decimal n (fits field n h) in
    rw (
      size_before (decimal n) t d,
      take-append_seam (decimal n) (32 ∷ t),
      drop-append_seam (decimal n) (32 ∷ t),
      decimal_read field n h,
    ) refl

number_last : (field : Field) (n : ℕ) → IsIn field n →
    number_of field (32 ∷ decimal n) ≡ Some (record { value = n; rest = [] })
unfolding number_of
number_last field n h =
    let d = digits_of_decimal n (fits field n h) in
    rw (
      size_all (decimal n) d,
      take-length (decimal n),
      drop-length (decimal n),
      decimal_read field n h,
    ) refl

pub one_read : (a : Field) (x : ℕ) → IsIn a x → one_of a (one_number x) ≡ Some x
unfolding one_of
one_read a x h = rw (number_last a x h) refl

pub two_read : (a b : Field) (x y : ℕ) → IsIn a x → IsIn b y →
    two_of a b (two_numbers x y) ≡ Some (x, y)
unfolding two_of
two_read a b x y h k = rw (number_before a x (decimal y) h, one_read b y k) refl

pub three_read : (a b c : Field) (x y z : ℕ) → IsIn a x → IsIn b y → IsIn c z →
    three_of a b c (three_numbers x y z) ≡ Some (x, y, z)
unfolding three_of
three_read a b c x y z h k l =
    rw (number_before a x (decimal y ++ one_number z) h, two_read b c y z k l) refl

with_rest_is : (rest : List ℕ) (o : Option ℕ) (t : Taken) → with_rest rest o ≡ Some t →
    (o ≡ Some t.value) × (rest ≡ t.rest)
with_rest_is rest None t h = absurd (none-some t h)
with_rest_is rest (Some n) t h =
    let e : ◌≡◌ {A = Taken} (record { value = n; rest = rest }) t = same_Some _ t h in
    (ap (λ (s : Taken). Some s.value) e, ap (λ (s : Taken). s.rest) e)

-- what was read of a text
pub record IsTaken (field : Field) (text : List ℕ) (t : Taken) : Type 0 where
  pub spelled : text ≡ 32 ∷ (decimal t.value ++ t.rest)
  pub allowed : IsIn field t.value

pub number_taken : (field : Field) (text : List ℕ) (t : Taken) → number_of field text ≡ Some t →
    IsTaken field text t
unfolding number_of
number_taken field [] t h = absurd (none-some t h)
number_taken field (c ∷ text) t h =
    let k = word_size text in
    let s = gave (c == 32) (with_rest (drop k text) (decimal_of field (take k text))) t h in
    let w = with_rest_is (drop k text) (decimal_of field (take k text)) t s.1 in
    let d = read_decimal field (take k text) t.value w.0 in
    let e : c ≡ 32 = same c 32 s.0 in
    record {
      spelled = rw (e, ← d.0, ← w.1, take-append-drop k text) refl;
      allowed = d.1;
    }

only_is : (rest : List ℕ) (n x : ℕ) → only_if rest n ≡ Some x → (rest ≡ []) × (n ≡ x)
only_is [] n x h = (refl, same_Some n x h)
only_is (c ∷ cs) n x h = absurd (none-some x h)

-- # Numbers and nothing else

pub record IsOne (a : Field) (text : List ℕ) (x : ℕ) : Type 0 where
  pub spelled : text ≡ one_number x
  pub first : IsIn a x

pub record IsTwo (a b : Field) (text : List ℕ) (p : ℕ × ℕ) : Type 0 where
  pub spelled : text ≡ two_numbers p.0 p.1
  pub first : IsIn a p.0
  pub second : IsIn b p.1

pub record IsThree (a b c : Field) (text : List ℕ) (p : ℕ × ℕ × ℕ) : Type 0 where
  pub spelled : text ≡ three_numbers p.0 p.1 p.2
  pub first : IsIn a p.0
  pub second : IsIn b p.1
  pub third : IsIn c p.2

one_after : (a : Field) (text : List ℕ) (t : Taken) (x : ℕ) → IsTaken a text t →
    only_if t.rest t.value ≡ Some x → IsOne a text x
one_after a text t x k h =
    let o = only_is t.rest t.value x h in
    record {
      spelled = rw (k.spelled, o.0, append-nil (decimal t.value), o.1) refl;
      first = let P : ℕ → Type 0 = IsIn a in subst P o.1 k.allowed;
    }

pub one_taken : (a : Field) (text : List ℕ) (x : ℕ) → one_of a text ≡ Some x → IsOne a text x
unfolding one_of
one_taken a text x h = option_and_then_some (λ (t : Taken). only_if t.rest t.value)
    (number_of a text) x h (λ t e f. one_after a text t x (number_taken a text t e) f)

before_one_is : (m : ℕ) (o : Option ℕ) (p : ℕ × ℕ) → before_one m o ≡ Some p →
    (m ≡ p.0) × (o ≡ Some p.1)
before_one_is m None p h = absurd (none-some p h)
before_one_is m (Some n) p h =
    let e : ◌≡◌ {A = ℕ × ℕ} (m, n) p = same_Some _ p h in
    (ap (λ (q : ℕ × ℕ). q.0) e, ap (λ (q : ℕ × ℕ). Some q.1) e)

two_after : (a b : Field) (text : List ℕ) (t : Taken) (p : ℕ × ℕ) → IsTaken a text t →
    before_one t.value (one_of b t.rest) ≡ Some p → IsTwo a b text p
two_after a b text t p k h =
    let o = before_one_is t.value (one_of b t.rest) p h in
    let l = one_taken b t.rest p.1 o.1 in
    record {
      spelled = rw (k.spelled, l.spelled, o.0) refl;
      first = let P : ℕ → Type 0 = IsIn a in subst P o.0 k.allowed;
      second = l.first;
    }

pub two_taken : (a b : Field) (text : List ℕ) (p : ℕ × ℕ) → two_of a b text ≡ Some p →
    IsTwo a b text p
unfolding two_of
two_taken a b text p h =
    option_and_then_some (λ (t : Taken). before_one t.value (one_of b t.rest))
    (number_of a text) p h (λ t e f. two_after a b text t p (number_taken a text t e) f)

before_two_is : (m : ℕ) (o : Option (ℕ × ℕ)) (p : ℕ × ℕ × ℕ) → before_two m o ≡ Some p →
    (m ≡ p.0) × (o ≡ Some (p.1, p.2))
before_two_is m None p h = absurd (none-some p h)
before_two_is m (Some n) p h =
    let e : ◌≡◌ {A = ℕ × ℕ × ℕ} (m, n.0, n.1) p = same_Some _ p h in
    (ap (λ (q : ℕ × ℕ × ℕ). q.0) e, ap (λ (q : ℕ × ℕ × ℕ). Some (q.1, q.2)) e)

three_after : (a b c : Field) (text : List ℕ) (t : Taken) (p : ℕ × ℕ × ℕ) → IsTaken a text t →
    before_two t.value (two_of b c t.rest) ≡ Some p → IsThree a b c text p
three_after a b c text t p k h =
    let o = before_two_is t.value (two_of b c t.rest) p h in
    let l = two_taken b c t.rest (p.1, p.2) o.1 in
    record {
      spelled = rw (k.spelled, l.spelled, o.0) refl;
      first = let P : ℕ → Type 0 = IsIn a in subst P o.0 k.allowed;
      second = l.first;
      third = l.second;
    }

pub three_taken : (a b c : Field) (text : List ℕ) (p : ℕ × ℕ × ℕ) →
    three_of a b c text ≡ Some p → IsThree a b c text p
unfolding three_of
three_taken a b c text p h =
    option_and_then_some (λ (t : Taken). before_two t.value (two_of b c t.rest))
    (number_of a text) p h (λ t e f. three_after a b c text t p (number_taken a text t e) f)
