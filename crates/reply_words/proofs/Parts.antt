-- Texts that are cut at marks, and what is read of their parts.
use Rattle.std.proofs.Common.{◌≡◌, ℕ, zero, suc, ◌<◌, ◌+◌, ◌-◌, ◌*◌, ◌/◌, ◌==◌, Bool}
use Rattle.std.proofs.Common.{true, false, List, [], ◌∷◌, ◌++◌, length, take, drop, get_or, codes}
use Rattle.std.proofs.Common.{Option, None, Some, arith, refl, sym, ap, ◌∙◌, subst, cond, eq-eqb}
use Rattle.std.proofs.Common.{map, ne_eqb}
use Rattle.std.proofs.lemmas.Bool.{and_left, eqb-true}
use Rattle.std.proofs.lemmas.List.{append_assoc, append-nil, take_rest, drop_more, length-drop}
use Rattle.std.proofs.lemmas.List.{length-append}
use Rattle.std.proofs.lemmas.List.Splits.{length-slice_split, join_with_byte-slice_split}
use Rattle.std.proofs.lemmas.Option.{none-some, same_Some}
use Rattle.std.proofs.lemmas.Slice.Eq.{bytes_eq-Decides}
use Rattle.std.specs.Fmt.{digit_glyph}
use Rattle.std.specs.List.{slice_split, onto_first, flat_map, join_with_byte}
use Rattle.std.specs.Str.{bytes_eq}
use Rattle.reply_words.specs.Spelling.{bytes_text, packets_text, packet_behind_slash, IsPacket}
use Rattle.reply_words.specs.Spelling.{ArePackets}
use Rattle.reply_words.specs.Reading.{Cut, cut_of, with_byte, with_first, bytes_of, pairs_of}
use Rattle.reply_words.specs.Reading.{pair_of, low_digit, each_bytes_of, parts_of, is_slash}
use Rattle.reply_words.specs.Reading.{packets_of}
use Rattle.reply_words.proofs.Numerals.{digit_is}
use Rattle.reply_words.proofs.Bytes.{HasNo, no_append, bytes_no, bytes_read, bytes_is, first_is}
use Rattle.reply_words.proofs.Bytes.{pair_some}

-- ---- cuts

-- the first mark is met
cut_found : (mark : ℕ) (text : List ℕ) (i : ℕ) →
    ((k : ℕ) → k < i → (get_or text k 0 == mark) ≡ false) → i < length text →
    (get_or text i 0 == mark) ≡ true →
    cut_of mark text ≡ Some (record { word = take i text; rest = drop (suc i) text })
cut_found mark [] i none within here = absurd (omega arith)
cut_found mark (c ∷ cs) zero none within here = rw here refl
cut_found mark (c ∷ cs) (suc i) none within here =
    let first : (c == mark) ≡ false = none 0 (omega arith) in
    let rest : cut_of mark cs ≡ Some (record { word = take i cs; rest = drop (suc i) cs }) =
    cut_found mark cs i (λ k h. none (suc k) (omega arith)) (omega arith) here in
    rw (first, rest) refl

abbrev cut_to : (word rest : List ℕ) → Option Cut
cut_to word rest = Some (record { word = word; rest = rest })

pub cut_here : (mark : ℕ) (text : List ℕ) (i : ℕ) →
    ((k : ℕ) → k < i → (get_or text k 0 == mark) ≡ false) → i < length text →
    get_or text i 0 ≡ mark →
    cut_of mark text ≡ Some (record {
      word = take i text;
      rest = take (length text - (i + 1)) (drop (i + 1) text);
    })
cut_here mark text i none within here =
    let more : suc i ≡ i + 1 = omega arith in
    cut_found mark text i none within (eq-eqb (get_or text i 0) mark here)
    ∙ (ap (λ k. cut_to (take i text) (drop k text)) more
    ∙ ap (cut_to (take i text)) (sym (take_rest text (i + 1))))

-- no mark is met
pub cut_none : (mark : ℕ) (text : List ℕ) →
    ((k : ℕ) → k < length text → (get_or text k 0 == mark) ≡ false) → cut_of mark text ≡ None
cut_none mark [] none = refl
cut_none mark (c ∷ cs) none =
    let first : (c == mark) ≡ false = none 0 (omega arith) in
    let rest : cut_of mark cs ≡ None =
    cut_none mark cs (λ k h. none (suc k) (omega arith)) in
    rw (first, rest) refl

pub cut_at : (mark : ℕ) (word text : List ℕ) → HasNo mark word →
    cut_of mark (word ++ (mark ∷ text)) ≡ Some (record { word = word; rest = text })
cut_at mark [] text h = let t : (mark == mark) ≡ true = eq-eqb mark mark refl in rw t refl
cut_at mark (c ∷ cs) text h = rw (h.0, cut_at mark cs text h.1) refl

with_byte_is : (c : ℕ) (o : Option Cut) (cut : Cut) → with_byte c o ≡ Some cut →
    (d : Cut) × (o ≡ Some d) × (◌≡◌ {A = Cut} (record { word = c ∷ d.word; rest = d.rest }) cut)
with_byte_is c None cut h = absurd (none-some cut h)
with_byte_is c (Some d) cut h = (d, refl, same_Some _ cut h)

with_byte_none : (c : ℕ) (o : Option Cut) → with_byte c o ≡ None → o ≡ None
with_byte_none c None h = refl
with_byte_none c (Some d) h = absurd (cc)

at_mark : (c mark : ℕ) (cs : List ℕ) (t : Bool) (cut : Cut) → (t ≡ true → c ≡ mark) →
    cond t (Some (record { word = []; rest = cs })) (with_byte c (cut_of mark cs)) ≡ Some cut →
    ((d : Cut) → cut_of mark cs ≡ Some d → cs ≡ d.word ++ (mark ∷ d.rest)) →
    c ∷ cs ≡ cut.word ++ (mark ∷ cut.rest)
at_mark c mark cs true cut is h more =
    let P : Cut → Type 0 = λ d. c ∷ cs ≡ d.word ++ (mark ∷ d.rest) in
    subst P (same_Some _ cut h) (ap (λ x. x ∷ cs) (is refl))
at_mark c mark cs false cut is h more =
    let w = with_byte_is c (cut_of mark cs) cut h in
    let P : Cut → Type 0 = λ d. c ∷ cs ≡ d.word ++ (mark ∷ d.rest) in
    subst P w.2 (ap (λ l. c ∷ l) (more w.0 w.1))

same_byte : (c mark : ℕ) → (c == mark) ≡ true → c ≡ mark
same_byte c mark h = eqb-true c mark h

-- a text is what it was cut to
pub cut_is : (mark : ℕ) (text : List ℕ) (cut : Cut) → cut_of mark text ≡ Some cut →
    text ≡ cut.word ++ (mark ∷ cut.rest)
cut_is mark [] cut h = absurd (none-some cut h)
cut_is mark (c ∷ cs) cut h =
    at_mark c mark cs (c == mark) cut (same_byte c mark) h (cut_is mark cs)

pub cut_shorter : (mark : ℕ) (text : List ℕ) (cut : Cut) → cut_of mark text ≡ Some cut →
    length cut.rest < length text
cut_shorter mark text cut h =
    let e = cut_is mark text cut h in
    let size = ap length e ∙ length-append cut.word (mark ∷ cut.rest) in omega (arith, size)

-- ---- what was read stands before what is left

abbrev pub behind : {A : Type 0} → List A → Option (List A) → Option (List A)
behind xs None = None
behind xs (Some ys) = Some (xs ++ ys)

behind_more : {A : Type 0} (xs : List A) (x : A) (o : Option (List A)) →
    behind xs (with_first (Some x) o) ≡ behind (xs ++ (x ∷ [])) o
behind_more xs x None = refl
behind_more xs x (Some ys) = ap Some (sym (append_assoc xs (x ∷ []) ys))

-- ---- pairs

two_more : (word : List ℕ) (n : ℕ) → 2 * n + 1 < length word →
    pairs_of (drop (2 * n) word)
    ≡ with_first (pair_of (get_or word (2 * n) 0) (get_or word (2 * n + 1) 0))
    (pairs_of (drop (2 * (n + 1)) word))
two_more word n within =
    let e : 2 * n + 1 + 1 ≡ 2 * (n + 1) = omega arith in
    ap pairs_of (drop_more word (2 * n) 0 (omega arith)
    ∙ ap (λ l. get_or word (2 * n) 0 ∷ l) (drop_more word (2 * n + 1) 0 within))
    ∙ ap (λ k. with_first (pair_of (get_or word (2 * n) 0) (get_or word (2 * n + 1) 0))
    (pairs_of (drop k word))) e

-- one pair more was read
pub pairs_step : (word : List ℕ) (n : ℕ) (bytes new : List ℕ) (high low : ℕ) →
    2 * n + 1 < length word → high ≡ low_digit (get_or word (2 * n) 0) →
    low ≡ low_digit (get_or word (2 * n + 1) 0) → high < 16 → low < 16 →
    new ≡ bytes ++ ((high * 16 + low) ∷ []) →
    pairs_of word ≡ behind bytes (pairs_of (drop (2 * n) word)) →
    pairs_of word ≡ behind new (pairs_of (drop (2 * (n + 1)) word))
pairs_step word n bytes new high low within h l small few e read =
    let a = get_or word (2 * n) 0 in
    let b = get_or word (2 * n + 1) 0 in
    let rest = pairs_of (drop (2 * (n + 1)) word) in
    let value : low_digit a * 16 + low_digit b ≡ high * 16 + low = omega (arith, h, l) in
    let pair : pair_of a b ≡ Some (high * 16 + low) =
    pair_some a b (omega (arith, h, small)) (omega (arith, l, few)) ∙ ap Some value in
    read ∙ (ap (behind bytes) (two_more word n within)
    ∙ (ap (λ o. behind bytes (with_first o rest)) pair
    ∙ (behind_more bytes (high * 16 + low) rest ∙ ap (λ x. behind x rest) (sym e))))

one_alone : (word : List ℕ) → length word ≡ 1 → pairs_of word ≡ None
one_alone [] h = absurd (omega (arith, h))
one_alone (c ∷ []) h = refl
one_alone (c ∷ d ∷ cs) h = absurd (omega (arith, h))

-- a digit alone is left
pub pairs_odd : (word : List ℕ) (n : ℕ) (bytes : List ℕ) → length word ≡ 2 * n + 1 →
    pairs_of word ≡ behind bytes (pairs_of (drop (2 * n) word)) → pairs_of word ≡ None
pairs_odd word n bytes size read =
    read ∙ ap (behind bytes)
    (one_alone (drop (2 * n) word) (length-drop (2 * n) word ∙ omega (arith, size)))

-- ---- packets, as they are read

split_at_mark : (x : ℕ) (xs : List ℕ) (t : Bool) (cut : Cut) →
    cond t (Some (record { word = []; rest = xs })) (with_byte x (cut_of 47 xs)) ≡ Some cut →
    ((d : Cut) → cut_of 47 xs ≡ Some d →
    slice_split is_slash xs ≡ d.word ∷ slice_split is_slash d.rest) →
    cond t ([] ∷ slice_split is_slash xs) (onto_first x (slice_split is_slash xs))
    ≡ cut.word ∷ slice_split is_slash cut.rest
split_at_mark x xs true cut h more =
    let P : Cut → Type 0 =
    λ d. [] ∷ slice_split is_slash xs ≡ d.word ∷ slice_split is_slash d.rest in
    subst P (same_Some _ cut h) refl
split_at_mark x xs false cut h more =
    let w = with_byte_is x (cut_of 47 xs) cut h in
    let P : Cut → Type 0 = λ d.
    onto_first x (slice_split is_slash xs) ≡ d.word ∷ slice_split is_slash d.rest in
    subst P w.2 (ap (onto_first x) (more w.0 w.1))

split_cut : (text : List ℕ) (cut : Cut) → cut_of 47 text ≡ Some cut →
    slice_split is_slash text ≡ cut.word ∷ slice_split is_slash cut.rest
split_cut [] cut h = absurd (none-some cut h)
split_cut (x ∷ xs) cut h = split_at_mark x xs (x == 47) cut h (split_cut xs)

split_past : (x : ℕ) (xs : List ℕ) (t : Bool) →
    cond t (Some (record { word = []; rest = xs })) (with_byte x (cut_of 47 xs)) ≡ None →
    (cut_of 47 xs ≡ None → slice_split is_slash xs ≡ xs ∷ []) →
    cond t ([] ∷ slice_split is_slash xs) (onto_first x (slice_split is_slash xs)) ≡ (x ∷ xs) ∷ []
split_past x xs true h more = absurd (cc)
split_past x xs false h more =
    ap (onto_first x) (more (with_byte_none x (cut_of 47 xs) h))

split_none : (text : List ℕ) → cut_of 47 text ≡ None → slice_split is_slash text ≡ text ∷ []
split_none [] h = refl
split_none (x ∷ xs) h = split_past x xs (x == 47) h (split_none xs)

parts_cut : (text : List ℕ) (cut : Cut) → cut_of 47 text ≡ Some cut →
    parts_of text ≡ with_first (bytes_of cut.word) (parts_of cut.rest)
parts_cut text cut h = ap each_bytes_of (split_cut text cut h)

parts_whole : (text : List ℕ) → cut_of 47 text ≡ None →
    parts_of text ≡ with_first (bytes_of text) (Some [])
parts_whole text h = ap each_bytes_of (split_none text h)

packets_parts : (word : List ℕ) → bytes_eq word (codes "none") ≡ false →
    packets_of word ≡ parts_of word
unfolding packets_of
packets_parts word h = ap (λ t. cond t (Some []) (parts_of word)) h

-- one packet more was read
pub packet_more : (word text : List ℕ) (cut : Cut) (packets new : List (List ℕ))
    (o : Option (List ℕ)) (packet : List ℕ) → parts_of word ≡ behind packets (parts_of text) →
    cut_of 47 text ≡ Some cut → o ≡ bytes_of cut.word → o ≡ Some packet →
    new ≡ packets ++ (packet ∷ []) → parts_of word ≡ behind new (parts_of cut.rest)
packet_more word text cut packets new o packet read h e is more =
    read ∙ (ap (behind packets) (parts_cut text cut h)
    ∙ (ap (λ p. behind packets (with_first p (parts_of cut.rest))) (sym e ∙ is)
    ∙ (behind_more packets packet (parts_of cut.rest)
    ∙ ap (λ l. behind l (parts_of cut.rest)) (sym more))))

-- a part is no packet
pub packet_none : (word text : List ℕ) (cut : Cut) (packets : List (List ℕ))
    (o : Option (List ℕ)) → bytes_eq word (codes "none") ≡ false →
    parts_of word ≡ behind packets (parts_of text) → cut_of 47 text ≡ Some cut →
    o ≡ bytes_of cut.word → o ≡ None → None ≡ packets_of word
packet_none word text cut packets o some read h e is =
    sym (packets_parts word some ∙ (read ∙ (ap (behind packets) (parts_cut text cut h)
    ∙ ap (λ p. behind packets (with_first p (parts_of cut.rest))) (sym e ∙ is))))

-- the last part is no packet
pub last_none : (word text : List ℕ) (packets : List (List ℕ)) (o : Option (List ℕ)) →
    bytes_eq word (codes "none") ≡ false → parts_of word ≡ behind packets (parts_of text) →
    cut_of 47 text ≡ None → o ≡ bytes_of text → o ≡ None → None ≡ packets_of word
last_none word text packets o some read h e is =
    sym (packets_parts word some ∙ (read ∙ (ap (behind packets) (parts_whole text h)
    ∙ ap (λ p. behind packets (with_first p (Some []))) (sym e ∙ is))))

-- the last part is one
pub last_packet : (word text : List ℕ) (packets new : List (List ℕ)) (o : Option (List ℕ))
    (packet : List ℕ) → bytes_eq word (codes "none") ≡ false →
    parts_of word ≡ behind packets (parts_of text) → cut_of 47 text ≡ None →
    o ≡ bytes_of text → o ≡ Some packet → new ≡ packets ++ (packet ∷ []) →
    Some new ≡ packets_of word
last_packet word text packets new o packet some read h e is more =
    ap Some more ∙ sym (packets_parts word some ∙ (read
    ∙ (ap (behind packets) (parts_whole text h)
    ∙ ap (λ p. behind packets (with_first p (Some []))) (sym e ∙ is))))

-- ---- packets, as they are spelled

split_word : (word text : List ℕ) → HasNo 47 word →
    slice_split is_slash (word ++ (47 ∷ text)) ≡ word ∷ slice_split is_slash text
split_word [] text h = refl
split_word (c ∷ cs) text h = rw (h.0, split_word cs text h.1) refl

split_last : (word : List ℕ) → HasNo 47 word → slice_split is_slash word ≡ word ∷ []
split_last [] h = refl
split_last (c ∷ cs) h = rw (h.0, split_last cs h.1) refl

parts_read : (packet : List ℕ) (packets : List (List ℕ)) → IsPacket packet →
    ArePackets packets →
    parts_of (bytes_text packet ++ flat_map packet_behind_slash packets) ≡ Some (packet ∷ packets)
parts_read p [] h k =
    let none = bytes_no 47 (omega arith) refl p h.bytes in
    ap parts_of (append-nil (bytes_text p))
    ∙ (ap each_bytes_of (split_last (bytes_text p) none)
    ∙ ap (λ o. with_first o (Some [])) (bytes_read p h))
parts_read p (q ∷ qs) h k =
    let none = bytes_no 47 (omega arith) refl p h.bytes in
    let rest = bytes_text q ++ flat_map packet_behind_slash qs in
    ap each_bytes_of (split_word (bytes_text p) rest none)
    ∙ (ap (λ o. with_first o (parts_of rest)) (bytes_read p h)
    ∙ ap (λ o. with_first (Some p) o) (parts_read q qs k.0 k.1))

-- digits don't begin as `none` does
not_none : (packet rest : List ℕ) → IsPacket packet →
    bytes_eq (bytes_text packet ++ rest) (codes "none") ≡ false
not_none [] rest h = refl
not_none (b ∷ bs) rest h =
    let byte = h.bytes in
    let small : b < 256 = byte.0 in
    let d = digit_is (b / 16) (omega arith) in
    let n : (digit_glyph false (b / 16) == 110) ≡ false =
    ne_eqb (digit_glyph false (b / 16)) 110 (λ e. omega (arith, d, ap low_digit e)) in
    and_left _ _ n

pub packets_read : (packets : List (List ℕ)) → ArePackets packets →
    packets_of (packets_text packets) ≡ Some packets
unfolding packets_of
packets_read [] h = refl
packets_read (p ∷ ps) h =
    packets_parts (packets_text (p ∷ ps))
    (not_none p (flat_map packet_behind_slash ps) h.0)
    ∙ parts_read p ps h.0 h.1

each_is : (words : List (List ℕ)) (packets : List (List ℕ)) →
    each_bytes_of words ≡ Some packets → (words ≡ map bytes_text packets) × ArePackets packets
each_is [] packets h =
    let P : List (List ℕ) → Type 0 = λ ps. ([] ≡ map bytes_text ps) × ArePackets ps in
    subst P (same_Some [] packets h) (refl, tt)
each_is (w ∷ ws) packets h =
    let f = first_is (bytes_of w) (each_bytes_of ws) packets h in
    let b = bytes_is w f.0 f.2 in
    let r = each_is ws f.1 f.3 in
    let P : List (List ℕ) → Type 0 = λ ps. (w ∷ ws ≡ map bytes_text ps) × ArePackets ps in
    subst P f.4 (ap (λ x. x ∷ ws) b.spelled ∙ ap (λ l. bytes_text f.0 ∷ l) r.0, (b.allowed, r.1))

joined_is : (packet : List ℕ) (packets : List (List ℕ)) →
    join_with_byte 47 (map bytes_text (packet ∷ packets)) ≡ packets_text (packet ∷ packets)
joined_is p [] = sym (append-nil (bytes_text p))
joined_is p (q ∷ qs) = ap (λ l. bytes_text p ++ (47 ∷ l)) (joined_is q qs)

joined_some : (packets : List (List ℕ)) → 0 < length (map bytes_text packets) →
    join_with_byte 47 (map bytes_text packets) ≡ packets_text packets
joined_some [] h = absurd (omega arith)
joined_some (p ∷ ps) h = joined_is p ps

pub record IsPacketsWord (word : List ℕ) (packets : List (List ℕ)) : Type 0 where
  pub spelled : word ≡ packets_text packets
  pub allowed : ArePackets packets

parts_is : (word : List ℕ) (packets : List (List ℕ)) → parts_of word ≡ Some packets →
    IsPacketsWord word packets
parts_is word packets h =
    let e = each_is (slice_split is_slash word) packets h in
    let size : length (map bytes_text packets) ≡ length (slice_split is_slash word) =
    ap length (sym e.0) in
    let count = length-slice_split is_slash word in
    record {
      spelled = sym (join_with_byte-slice_split 47 word) ∙ (ap (join_with_byte 47) e.0
          ∙ joined_some packets (omega (arith, size, count)));
      allowed = e.1;
    }

none_or : (word : List ℕ) (packets : List (List ℕ)) (t : Bool) →
    (t ≡ true → word ≡ codes "none") → cond t (Some []) (parts_of word) ≡ Some packets →
    IsPacketsWord word packets
none_or word packets true is h =
    let P : List (List ℕ) → Type 0 = λ ps. IsPacketsWord word ps in
    subst P (same_Some [] packets h) (record { spelled = is refl; allowed = tt })
none_or word packets false is h = parts_is word packets h

pub packets_is : (word : List ℕ) (packets : List (List ℕ)) → packets_of word ≡ Some packets →
    IsPacketsWord word packets
unfolding packets_of
packets_is word packets h =
    none_or word packets (bytes_eq word (codes "none"))
    (bytes_eq-Decides word (codes "none")).0 h

-- no packets have a mark that is no digit, no dash and no slash
others_no : (packets : List (List ℕ)) → ArePackets packets →
    HasNo 32 (flat_map packet_behind_slash packets)
others_no [] h = tt
others_no (p ∷ ps) h = (
  refl,
  no_append 32 (bytes_text p) (flat_map packet_behind_slash ps)
      (bytes_no 32 (omega arith) refl p (h.0).bytes) (others_no ps h.1),
)

pub packets_no : (packets : List (List ℕ)) → ArePackets packets → HasNo 32 (packets_text packets)
packets_no [] h = (refl, (refl, (refl, (refl, tt))))
packets_no (p ∷ ps) h =
    no_append 32 (bytes_text p) (flat_map packet_behind_slash ps)
    (bytes_no 32 (omega arith) refl p (h.0).bytes) (others_no ps h.1)
