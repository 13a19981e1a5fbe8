-- Pieces that stand in bytes one after another.
use Rattle.std.proofs.Common.{◌≡◌, ℕ, zero, suc, ◌+◌, ◌-◌, ◌<◌, ◌≤◌, Bool, true, false, not, nat_le, nat_lt, ◌&&◌, slice_set, List, [], ◌∷◌, ◌++◌, length, take, drop, sum, sum_by, refl, sym, ◌∙◌, ap, arith}
use Rattle.std.proofs.lemmas.List.{length-drop, take-take, drop-take, drop-drop, length-take-le, take_at, drop_at, take_more_set}
use Rattle.std.proofs.lemmas.List.Sums.{sum_by-cons}
use Rattle.std.proofs.lemmas.Bool.Decides.{nat_tests}
use Rattle.machine_model.specs.Hypercall.{packet_limit, sent_limit, sent_bytes_limit}
use Rattle.machine_model.specs.Run.{is_empty}
use Rattle.hyper_calls.specs.Exchange.{Exchange, pieces}

pub length-pieces : (sizes bytes : List ℕ) → length (pieces sizes bytes) ≡ length sizes
length-pieces [] bytes = refl
length-pieces (n ∷ ns) bytes = ap suc (length-pieces ns (drop n bytes))

-- what is left of a list is empty where all of it was passed
pub not_empty : (n : ℕ) (xs : List (List ℕ)) → nat_lt n (length xs) ≡ not (is_empty (drop n xs))
not_empty zero [] = refl
not_empty (suc n) [] = grind (arith, nat_tests)
not_empty zero (x ∷ xs) = grind (arith, nat_tests)
not_empty (suc n) (x ∷ xs) =
    let h = not_empty n xs in
    grind (arith, nat_tests)

pub sum-pieces : (sizes bytes : List ℕ) → sum sizes ≤ length bytes →
    sum_by length (pieces sizes bytes) ≡ sum sizes
sum-pieces [] bytes le = refl
sum-pieces (n ∷ ns) bytes le =
    let s : sum (n ∷ ns) ≡ n + sum ns = sum_by-cons (λ x. x) n ns in
    let d : length (drop n bytes) ≡ length bytes - n = length-drop n bytes in
    let t : length (take n bytes) ≡ n = length-take-le n bytes (omega arith) in
    let h = sum-pieces ns (drop n bytes) (omega arith) in
    let p : sum_by length (take n bytes ∷ pieces ns (drop n bytes))
    ≡ length (take n bytes) + sum_by length (pieces ns (drop n bytes)) =
    sum_by-cons length (take n bytes) (pieces ns (drop n bytes)) in
    omega arith

-- one piece more
pub pieces-more : (sizes bytes : List ℕ) (n : ℕ) →
    pieces (sizes ++ n ∷ []) bytes ≡ pieces sizes bytes ++ take n (drop (sum sizes) bytes) ∷ []
pieces-more [] bytes n = refl
pieces-more (m ∷ ms) bytes n =
    let s : sum (m ∷ ms) ≡ m + sum ms = sum_by-cons (λ x. x) m ms in
    let h = pieces-more ms (drop m bytes) n in
    let d : drop (sum ms) (drop m bytes) ≡ drop (m + sum ms) bytes = drop-drop (sum ms) m bytes in
    rw s (ap (λ ps. take m bytes ∷ ps) (h ∙ ap (λ xs. pieces ms (drop m bytes) ++ take n xs ∷ []) d))

-- pieces are of the bytes that they take
pub pieces-kept : (sizes a b : List ℕ) → take (sum sizes) a ≡ take (sum sizes) b →
    pieces sizes a ≡ pieces sizes b
pieces-kept [] a b e = refl
pieces-kept (n ∷ ns) a b e =
    let s : sum (n ∷ ns) ≡ n + sum ns = sum_by-cons (λ x. x) n ns in
    let f : take (n + sum ns) a ≡ take (n + sum ns) b = rw s at e in
    let x : take n a ≡ take n b =
    sym (take-take n (n + sum ns) a (omega arith)) ∙ ap (take n) f
    ∙ take-take n (n + sum ns) b (omega arith) in
    let y : take (sum ns) (drop n a) ≡ take (sum ns) (drop n b) =
    sym (drop-take n (sum ns) a) ∙ ap (drop n) f ∙ drop-take n (sum ns) b in
    let h = pieces-kept ns (drop n a) (drop n b) y in
    cc

pub count-pieces : (count : ℕ) (sizes bytes : List ℕ) → count ≤ length sizes →
    length (pieces (take count sizes) bytes) ≡ count
count-pieces count sizes bytes le =
    length-pieces (take count sizes) bytes ∙ length-take-le count sizes le

-- ---- a packet in the room after so many bytes

pub sent_more : (sizes bytes after buf : List ℕ) (count used size : ℕ) → count < length sizes →
    sum (take count sizes) ≡ used → used ≤ length bytes → length buf ≡ size →
    take (used + size) after ≡ take used bytes ++ buf →
    pieces (take (count + 1) (slice_set sizes count size)) after
    ≡ pieces (take count sizes) bytes ++ buf ∷ []
sent_more sizes bytes after buf count used size lt s le e whole =
    let small = length-take-le used bytes le in
    let front : take used after ≡ take used bytes =
    sym (take-take used (used + size) after (omega arith)) ∙ ap (take used) whole
    ∙ take_at (take used bytes) buf used small in
    let kept : pieces (take count sizes) after ≡ pieces (take count sizes) bytes =
    pieces-kept (take count sizes) after bytes (rw s front) in
    let last : take size (drop used after) ≡ buf =
    sym (drop-take used size after) ∙ ap (drop used) whole
    ∙ drop_at (take used bytes) buf used small in
    let here : take size (drop (sum (take count sizes)) after) ≡ buf = rw s last in
    rw (take_more_set sizes count size lt) (pieces-more (take count sizes) after size
    ∙ ap (λ ps. ps ++ take size (drop (sum (take count sizes)) after) ∷ []) kept
    ∙ ap (λ p. pieces (take count sizes) bytes ++ p ∷ []) here)

-- ---- whether it fits

pub net_refused : (size count used : ℕ) (may readable : Bool) →
    may ≡ (nat_le size packet_limit && nat_lt count sent_limit
    && nat_le (used + size) sent_bytes_limit) → may ≡ false →
    (nat_le size packet_limit && nat_lt count sent_limit
    && nat_le (used + size) sent_bytes_limit && readable) ≡ false
net_refused size count used may readable e refused = grind (arith, nat_tests)

pub net_readable : (size count used : ℕ) (may readable : Bool) →
    may ≡ (nat_le size packet_limit && nat_lt count sent_limit
    && nat_le (used + size) sent_bytes_limit) → may ≡ true →
    (nat_le size packet_limit && nat_lt count sent_limit
    && nat_le (used + size) sent_bytes_limit && readable) ≡ readable
net_readable size count used may readable e fits = grind (arith, nat_tests)

-- ---- how much was written, from what the fields of ports mean

pub sent_count : (sizes bytes : List ℕ) (count : ℕ) {clock : ℕ} {queue : List (List ℕ)}
    {console : List ℕ} (now : Exchange) →
    record {
      clock = clock;
      traffic = record {
        queue = queue;
        sent = pieces (take count sizes) bytes;
        console = console;
      };
    } ≡ now → count ≤ length sizes → length now.traffic.sent ≡ count
sent_count sizes bytes count now e le =
    sym (ap (λ ports. length ports.traffic.sent) e) ∙ count-pieces count sizes bytes le

pub sent_sum : (sizes bytes : List ℕ) (count used : ℕ) {clock : ℕ} {queue : List (List ℕ)}
    {console : List ℕ} (now : Exchange) →
    record {
      clock = clock;
      traffic = record {
        queue = queue;
        sent = pieces (take count sizes) bytes;
        console = console;
      };
    } ≡ now → sum (take count sizes) ≡ used → used ≤ length bytes →
    sum_by length now.traffic.sent ≡ used
sent_sum sizes bytes count used now e u le =
    sym (ap (λ ports. sum_by length ports.traffic.sent) e)
    ∙ sum-pieces (take count sizes) bytes (omega arith) ∙ u
