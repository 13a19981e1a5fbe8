-- The first line of a text.
use Rattle.std.proofs.Common.{◌≡◌, ℕ, suc, ◌+◌, ◌-◌, ◌<◌, ◌==◌, ◌&&◌, List, [], ◌∷◌, length}
use Rattle.std.proofs.Common.{take, drop, get_or, nat_lt, Bool, true, false, cond, not}
use Rattle.std.proofs.Common.{arith, refl, ap, sym, ◌∙◌}
use Rattle.std.proofs.lemmas.Bool.Decides.{nat_tests}
use Rattle.std.specs.List.{position_or_len, onto_first}
use Rattle.request_lines.specs.LineEnd.{line_end}
use Rattle.request_lines.specs.Requests.{is_feed, lines_of}

-- ---- a text without line feed

first_is_none : (test : Bool) (place size : ℕ) → cond (not test) (1 + place) 0 ≡ suc size
    → test ≡ false
first_is_none true place size e = absurd (omega arith)
first_is_none false place size e = refl

one_byte : (feed back : Bool) (b : ℕ) → cond (not feed) (1 + 0) 0 ≡ 1
    → cond feed ([] ∷ []) (cond (back && false) [] ((b ∷ []) ∷ [])) ≡ (b ∷ []) ∷ []
one_byte true back b e = absurd (omega arith)
one_byte false true b e = refl
one_byte false false b e = refl

byte_in_front : (feed back next : Bool) (b : ℕ) (rest : List ℕ) (place size : ℕ)
    → cond (not feed) (1 + place) 0 ≡ suc size
    → (place ≡ size → lines_of rest ≡ rest ∷ []) → (place ≡ size → next ≡ false)
    → cond feed ([] ∷ lines_of rest) (cond (back && next) (lines_of rest)
    (onto_first b (lines_of rest)))
    ≡ (b ∷ rest) ∷ []
byte_in_front true back next b rest place size e one none = absurd (omega arith)
byte_in_front false true next b rest place size e one none =
    let same : place ≡ size = omega arith in rw (none same) (ap (onto_first b) (one same))
byte_in_front false false next b rest place size e one none =
    let same : place ≡ size = omega arith in ap (onto_first b) (one same)

-- a text without line feed is one line
pub one_line : (text : List ℕ) → 0 < length text → position_or_len is_feed text ≡ length text
    → lines_of text ≡ text ∷ []
one_line [] some none = absurd (omega arith)
one_line (b ∷ []) some none = one_byte (is_feed b) (b == 13) b none
one_line (b ∷ (c ∷ cs)) some none =
    byte_in_front (is_feed b) (b == 13) (is_feed c) b (c ∷ cs) (position_or_len is_feed (c ∷ cs))
    (length (c ∷ cs)) none (one_line (c ∷ cs) (omega arith))
    (first_is_none (is_feed c) (position_or_len is_feed cs) (length cs))

-- ---- the line before a line feed

end_shown : (some : Bool) (less k : ℕ) (text : List ℕ) → some ≡ true → less ≡ k
    → cond (some && get_or text less 0 == 13) less (1 + k)
    ≡ cond (get_or text k 0 == 13) k (1 + k)
end_shown some less k text e f = rw (e, f) refl

-- the end of a line before a line feed that isn't the first byte
end_behind : (text : List ℕ) (k : ℕ)
    → line_end text (1 + k) ≡ cond (get_or text k 0 == 13) k (1 + k)
end_behind text k =
    let some : nat_lt 0 (1 + k) ≡ true = grind (arith, nat_tests) in
    let less : 1 + k - 1 ≡ k = omega arith in
    end_shown (nat_lt 0 (1 + k)) (1 + k - 1) k text some less

one_further : (test : Bool) (k : ℕ) → cond test (1 + k) (1 + (1 + k)) ≡ suc (cond test k (1 + k))
one_further true k = omega arith
one_further false k = omega arith

-- a line that isn't empty ends one byte further behind a byte more
end_further : (b : ℕ) (rest : List ℕ) (k : ℕ)
    → line_end (b ∷ rest) (1 + (1 + k)) ≡ suc (line_end rest (1 + k))
end_further b rest k =
    let one : 1 + k ≡ suc k = omega arith in
    let same : get_or (b ∷ rest) (1 + k) 0 ≡ get_or rest k 0 = rw one refl in
    end_behind (b ∷ rest) (1 + k)
    ∙ ap (λ c. cond (c == 13) (1 + k) (1 + (1 + k))) same
    ∙ one_further (get_or rest k 0 == 13) k
    ∙ ap suc (sym (end_behind rest k))

-- a byte directly before the line feed, a carriage return or not
at_feed : (back : Bool) (b : ℕ) (rest : List ℕ) → lines_of rest ≡ [] ∷ lines_of (drop 1 rest)
    → cond (back && true) (lines_of rest) (onto_first b (lines_of rest))
    ≡ take (cond back 0 1) (b ∷ rest) ∷ lines_of (drop 1 rest)
at_feed true b rest more = more
at_feed false b rest more = ap (onto_first b) more

before_more : (b : ℕ) (rest : List ℕ) (k : ℕ)
    → lines_of rest ≡ take (line_end rest (1 + k)) rest ∷ lines_of (drop (1 + k + 1) rest)
    → onto_first b (lines_of rest)
    ≡ take (line_end (b ∷ rest) (1 + (1 + k))) (b ∷ rest)
    ∷ lines_of (drop (1 + (1 + k) + 1) (b ∷ rest))
before_more b rest k more =
    let two : 1 + (1 + k) + 1 ≡ suc (1 + k + 1) = omega arith in
    ap (onto_first b) more
    ∙ ap (λ n. take n (b ∷ rest) ∷ lines_of (drop (1 + k + 1) rest)) (sym (end_further b rest k))
    ∙ ap (λ n. take (line_end (b ∷ rest) (1 + (1 + k))) (b ∷ rest) ∷ lines_of (drop n (b ∷ rest)))
    (sym two)

-- a byte further before the line feed
before_feed : (back : Bool) (b : ℕ) (rest : List ℕ) (k : ℕ)
    → lines_of rest ≡ take (line_end rest (1 + k)) rest ∷ lines_of (drop (1 + k + 1) rest)
    → cond (back && false) (lines_of rest) (onto_first b (lines_of rest))
    ≡ take (line_end (b ∷ rest) (1 + (1 + k))) (b ∷ rest)
    ∷ lines_of (drop (1 + (1 + k) + 1) (b ∷ rest))
before_feed true b rest k more = before_more b rest k more
before_feed false b rest k more = before_more b rest k more

in_front : (feed next : Bool) (b : ℕ) (rest : List ℕ) (k : ℕ)
    → (feed ≡ false → lines_of rest
    ≡ take (line_end rest (cond (not next) (1 + k) 0)) rest
    ∷ lines_of (drop (cond (not next) (1 + k) 0 + 1) rest))
    → cond feed ([] ∷ lines_of rest) (cond (b == 13 && next) (lines_of rest)
    (onto_first b (lines_of rest)))
    ≡ take (line_end (b ∷ rest) (cond (not feed) (1 + cond (not next) (1 + k) 0) 0)) (b ∷ rest)
    ∷ lines_of (drop (cond (not feed) (1 + cond (not next) (1 + k) 0) 0 + 1) (b ∷ rest))
in_front true next b rest k more = refl
in_front false true b rest k more = at_feed (b == 13) b rest (more refl)
in_front false false b rest k more = before_feed (b == 13) b rest k (more refl)

only_feed : (feed back : Bool) (b : ℕ) → cond (not feed) (1 + 0) 0 < 1
    → cond feed ([] ∷ []) (cond (back && false) [] (onto_first b []))
    ≡ take (line_end (b ∷ []) (cond (not feed) (1 + 0) 0)) (b ∷ [])
    ∷ lines_of (drop (cond (not feed) (1 + 0) 0 + 1) (b ∷ []))
only_feed true back b some = refl
only_feed false back b some = absurd (omega arith)

further_on : (feed : Bool) (place size : ℕ) → cond (not feed) (1 + place) 0 < suc size
    → feed ≡ false → place < size
further_on true place size some none = absurd (cc)
further_on false place size some none = omega arith

-- a text is the line before its first line feed, and the lines behind that
pub first_line : (text : List ℕ) → position_or_len is_feed text < length text
    → lines_of text ≡ take (line_end text (position_or_len is_feed text)) text
    ∷ lines_of (drop (position_or_len is_feed text + 1) text)
first_line [] some = absurd (omega arith)
first_line (b ∷ []) some = only_feed (is_feed b) (b == 13) b some
first_line (b ∷ (c ∷ cs)) some =
    in_front (is_feed b) (is_feed c) b (c ∷ cs) (position_or_len is_feed cs)
    (λ none. first_line (c ∷ cs)
    (further_on (is_feed b) (position_or_len is_feed (c ∷ cs)) (length (c ∷ cs)) some none))

-- ---- as the code finds it

pub cut : (text : List ℕ) (feed size : ℕ) → feed ≡ position_or_len is_feed text
    → feed < length text → size ≡ line_end text feed
    → lines_of text ≡ take size text ∷ lines_of (drop (feed + 1) text)
cut text feed size at some end =
    let here : position_or_len is_feed text < length text = omega arith in
    rw (end, at) (first_line text here)
