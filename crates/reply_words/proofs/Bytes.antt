-- Bytes in hexadecimal: what is spelled is read, and only that; and which marks aren't in a word.
use Rattle.std.proofs.Common.{◌≡◌, ℕ, ◌≤◌, ◌<◌, ◌+◌, ◌*◌, ◌/◌, ◌%◌, ◌==◌, ◌&&◌}
use Rattle.std.proofs.Common.{List, [], ◌∷◌, ◌++◌, length, codes, Bool, true, false, Option, None}
use Rattle.std.proofs.Common.{Some, arith, refl, sym, ap, ◌∙◌, subst, cond, nat_lt, nat_le}
use Rattle.std.proofs.Common.{ne_eqb}
use Rattle.std.proofs.lemmas.Bool.{and_parts, and_from, and_right}
use Rattle.std.proofs.lemmas.Option.{none-some, same_Some}
use Rattle.std.proofs.lemmas.Slice.Eq.{bytes_eq-Decides}
use Rattle.std.specs.Fmt.{digit_glyph}
use Rattle.std.specs.List.{flat_map, AllByRecursion}
use Rattle.std.specs.Prelude.{IfSome, IsNone, ◌↔◌}
use Rattle.std.specs.Str.{bytes_eq}
use Rattle.machine_model.specs.Hypercall.{packet_limit}
use Rattle.reply_words.specs.Spelling.{byte_text, bytes_text, IsPacket}
use Rattle.reply_words.specs.Reading.{low_digit, with_first, pair_of, pairs_of, bytes_of}
use Rattle.reply_words.proofs.Numerals.{gave, chosen, below, below_is, within, within_is, digit_is}
use Rattle.reply_words.proofs.Numerals.{glyph_is, AreDigits}

abbrev pub AreBytes : List ℕ → Type 0
AreBytes bytes = AllByRecursion (λ b. b < 256) bytes

-- ---- pairs of digits

pub pair_some : (h l : ℕ) → low_digit h < 16 → low_digit l < 16 →
    pair_of h l ≡ Some (low_digit h * 16 + low_digit l)
pair_some h l high low =
    chosen (nat_lt (low_digit h) 16 && nat_lt (low_digit l) 16) _ _
    (and_from _ _ (below (low_digit h) 16 high) (below (low_digit l) 16 low)) refl

pair_glyphs : (b : ℕ) → b < 256 →
    pair_of (digit_glyph false (b / 16)) (digit_glyph false (b % 16)) ≡ Some b
pair_glyphs b small =
    let h = digit_glyph false (b / 16) in
    let l = digit_glyph false (b % 16) in
    let high : low_digit h ≡ b / 16 = digit_is (b / 16) (omega arith) in
    let low : low_digit l ≡ b % 16 = digit_is (b % 16) (omega arith) in
    let whole : low_digit h * 16 + low_digit l ≡ b = omega (arith, high, low) in
    pair_some h l (omega (arith, high)) (omega (arith, low)) ∙ ap Some whole

pairs_read : (bytes : List ℕ) → AreBytes bytes → pairs_of (flat_map byte_text bytes) ≡ Some bytes
pairs_read [] h = refl
pairs_read (b ∷ bs) h =
    ap (λ o. with_first o (pairs_of (flat_map byte_text bs))) (pair_glyphs b h.0)
    ∙ ap (λ o. with_first (Some b) o) (pairs_read bs h.1)

-- what was read of pairs
pub record IsPairs (word bytes : List ℕ) : Type 0 where
  pub spelled : word ≡ flat_map byte_text bytes
  pub allowed : AreBytes bytes
  pub size : length word ≡ 2 * length bytes

pub first_is : {A : Type 0} (o : Option A) (p : Option (List A)) (xs : List A) →
    with_first o p ≡ Some xs →
    (x : A) × (ys : List A) × (o ≡ Some x) × (p ≡ Some ys) × (x ∷ ys ≡ xs)
first_is None p xs h = absurd (none-some xs h)
first_is (Some x) None xs h = absurd (none-some xs h)
first_is (Some x) (Some ys) xs h = (x, ys, refl, refl, same_Some (x ∷ ys) xs h)

pair_is : (h l x : ℕ) → pair_of h l ≡ Some x → (byte_text x ≡ h ∷ (l ∷ [])) × (x < 256)
pair_is h l x e =
    let s = gave (nat_lt (low_digit h) 16 && nat_lt (low_digit l) 16)
    (Some (low_digit h * 16 + low_digit l)) x e in
    let both = and_parts (nat_lt (low_digit h) 16) (nat_lt (low_digit l) 16) s.0 in
    let high : low_digit h < 16 = below_is (low_digit h) 16 both.0 in
    let low : low_digit l < 16 = below_is (low_digit l) 16 both.1 in
    let v : low_digit h * 16 + low_digit l ≡ x = same_Some _ x s.1 in
    let front : x / 16 ≡ low_digit h = omega (arith, v, low) in
    let back : x % 16 ≡ low_digit l = omega (arith, v, low) in (
      ap (λ d. digit_glyph false d ∷ (digit_glyph false (x % 16) ∷ [])) front
          ∙ (ap (λ d. digit_glyph false (low_digit h) ∷ (digit_glyph false d ∷ [])) back
          ∙ (ap (λ c. c ∷ (digit_glyph false (low_digit l) ∷ [])) (glyph_is h high)
          ∙ ap (λ c. h ∷ (c ∷ [])) (glyph_is l low))),
      omega (arith, v, high, low),
    )

pub pairs_is : (word bytes : List ℕ) → pairs_of word ≡ Some bytes → IsPairs word bytes
pairs_is [] bytes h =
    let P : List ℕ → Type 0 = λ bs. IsPairs [] bs in
    subst P (same_Some [] bytes h) (record { spelled = refl; allowed = tt; size = refl })
pairs_is (d ∷ []) bytes h = absurd (none-some bytes h)
pairs_is (h ∷ l ∷ rest) bytes e =
    let f = first_is (pair_of h l) (pairs_of rest) bytes e in
    let p = pair_is h l f.0 f.2 in
    let r = pairs_is rest f.1 f.3 in
    let P : List ℕ → Type 0 = λ bs. IsPairs (h ∷ (l ∷ rest)) bs in
    subst P f.4 (record {
      spelled = ap (λ t. h ∷ (l ∷ t)) r.spelled
          ∙ ap (λ t. t ++ flat_map byte_text f.1) (sym p.0);
      allowed = (p.1, r.allowed);
      size = omega (arith, r.size);
    })

-- ---- bytes

pub bytes_of_pairs : (word bytes : List ℕ) → bytes_eq word (codes "-") ≡ false →
    1 ≤ length word → length word ≤ 65536 → pairs_of word ≡ Some bytes →
    bytes_of word ≡ Some bytes
unfolding bytes_of
bytes_of_pairs word bytes dash some few h =
    ap (λ t. cond t (Some []) (cond (nat_le 1 (length word) && nat_le (length word) 65536)
    (pairs_of word) None)) dash
    ∙ chosen (nat_le 1 (length word) && nat_le (length word) 65536) (pairs_of word) (Some bytes)
    (and_from _ _ (within 1 (length word) some) (within (length word) 65536 few)) h

pub new_packet : (o : Option (List ℕ)) (bytes : List ℕ) → IfSome o (λ p. p ≡ bytes) →
    (IsNone o ↔ (packet_limit < length bytes)) → length bytes ≤ packet_limit → o ≡ Some bytes
new_packet None bytes same none short =
    let long : packet_limit < length bytes = none.0 refl in absurd (omega (arith, long, short))
new_packet (Some p) bytes same none short = ap Some same

text_size : (bytes : List ℕ) → length (flat_map byte_text bytes) ≡ 2 * length bytes
text_size [] = refl
text_size (b ∷ bs) = let r = text_size bs in omega (arith, r)

pub bytes_read : (bytes : List ℕ) → IsPacket bytes → bytes_of (bytes_text bytes) ≡ Some bytes
unfolding bytes_of
bytes_read [] h = refl
bytes_read (b ∷ bs) h =
    let size = text_size (b ∷ bs) in
    let short : length (b ∷ bs) ≤ packet_limit = h.short in
    bytes_of_pairs (flat_map byte_text (b ∷ bs)) (b ∷ bs)
    (and_right (digit_glyph false (b / 16) == 45) false refl)
    (omega (arith, size)) (omega (arith, size, short)) (pairs_read (b ∷ bs) h.bytes)

text_some : (bytes : List ℕ) → 0 < length bytes → flat_map byte_text bytes ≡ bytes_text bytes
text_some [] h = absurd (omega arith)
text_some (b ∷ bs) h = refl

pub record IsBytesWord (word bytes : List ℕ) : Type 0 where
  pub spelled : word ≡ bytes_text bytes
  pub allowed : IsPacket bytes

dash_or : (word bytes : List ℕ) (t : Bool) → (t ≡ true → word ≡ codes "-") →
    cond t (Some []) (cond (nat_le 1 (length word) && nat_le (length word) 65536)
    (pairs_of word) None) ≡ Some bytes → IsBytesWord word bytes
dash_or word bytes true is h =
    let P : List ℕ → Type 0 = λ bs. IsBytesWord word bs in
    subst P (same_Some [] bytes h)
    (record { spelled = is refl; allowed = record { short = omega arith; bytes = tt } })
dash_or word bytes false is h =
    let s = gave (nat_le 1 (length word) && nat_le (length word) 65536) (pairs_of word) bytes h in
    let both = and_parts (nat_le 1 (length word)) (nat_le (length word) 65536) s.0 in
    let some : 1 ≤ length word = within_is 1 (length word) both.0 in
    let few : length word ≤ 65536 = within_is (length word) 65536 both.1 in
    let p = pairs_is word bytes s.1 in
    record {
      spelled = p.spelled ∙ text_some bytes (omega (arith, p.size, some));
      allowed = record { short = omega (arith, p.size, few); bytes = p.allowed };
    }

pub bytes_is : (word bytes : List ℕ) → bytes_of word ≡ Some bytes → IsBytesWord word bytes
unfolding bytes_of
bytes_is word bytes h =
    dash_or word bytes (bytes_eq word (codes "-")) (bytes_eq-Decides word (codes "-")).0 h

-- ---- marks

-- the word has no such mark
abbrev pub HasNo : (mark : ℕ) → List ℕ → Type 0
HasNo mark [] = Unit {0}
HasNo mark (c ∷ cs) = ((c == mark) ≡ false) × HasNo mark cs

pub no_append : (mark : ℕ) (xs ys : List ℕ) → HasNo mark xs → HasNo mark ys →
    HasNo mark (xs ++ ys)
no_append mark [] ys h k = k
no_append mark (x ∷ xs) ys h k = (h.0, no_append mark xs ys h.1 k)

pub digits_no : (mark b : ℕ) (ds : List ℕ) → b ≤ low_digit mark → AreDigits b ds → HasNo mark ds
digits_no mark b [] h d = tt
digits_no mark b (c ∷ cs) h d =
    (ne_eqb c mark (λ e. omega (arith, ap low_digit e, d.0, h)), digits_no mark b cs h d.1)

byte_digits : (bytes : List ℕ) → AreBytes bytes → AreDigits 16 (flat_map byte_text bytes)
byte_digits [] h = tt
byte_digits (b ∷ bs) h =
    let small : b < 256 = h.0 in
    let high = digit_is (b / 16) (omega arith) in
    let low = digit_is (b % 16) (omega arith) in
    (omega (arith, high), (omega (arith, low), byte_digits bs h.1))

pub bytes_no : (mark : ℕ) → 16 ≤ low_digit mark → (45 == mark) ≡ false → (bytes : List ℕ) →
    AreBytes bytes → HasNo mark (bytes_text bytes)
bytes_no mark h dash [] b = (dash, tt)
bytes_no mark h dash (c ∷ cs) b =
    digits_no mark 16 (flat_map byte_text (c ∷ cs)) h (byte_digits (c ∷ cs) b)
