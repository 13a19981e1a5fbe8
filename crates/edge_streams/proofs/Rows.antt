-- Reads and writes in a row.
use Rattle.std.proofs.Common.{◌≡◌, ℕ, ◌+◌, ◌≤◌, List, [], ◌++◌, length, take, drop}
use Rattle.std.proofs.Common.{Option, Some, None, IfSome, sym, ◌∙◌, ap, subst, arith}
use Rattle.std.proofs.Common.{append_assoc, length-take, length-drop, length-append}
use Rattle.std.proofs.lemmas.List.{take_all, take-take, drop-drop}
use Rattle.std.proofs.Math.Seq.{take-add, take-append-add}
use Rattle.edge_streams.specs.Content.{Reads, Adds}

-- a read after other reads
reads_more : (before between after : Option (List ℕ)) (bytes buffer : List ℕ) (n : ℕ)
    → Reads (length bytes) bytes before between → Reads n buffer between after
    → Reads (length bytes + n) (bytes ++ take n buffer) before after
reads_more None between after bytes buffer n h r = tt
reads_more (Some left) between after bytes buffer n h r =
    let P : Option (List ℕ) → Type 0 = λ o. Reads n buffer o after in
    let s = subst P h.2 r in
    let whole : take (length bytes) bytes ≡ bytes = take_all (length bytes) bytes (omega arith) in
    let twice : take n (take n buffer) ≡ take n buffer = take-take n n buffer (omega arith) in
    let parts = take-add (length bytes) n left in
    let joined = take-append-add bytes (take n buffer) n in
    let rest = drop-drop n (length bytes) left in
    let h1 = h.1 in
    let s1 = s.1 in
    let s2 = s.2 in
    let l = length-drop (length bytes) left in
    (omega arith, cc, cc)

-- the length of some bytes and the first n of others
length_joined : (bytes buffer : List ℕ) (n : ℕ) → n ≤ length buffer
    → length bytes + n ≡ length (bytes ++ take n buffer)
length_joined bytes buffer n within = simp (length-append, length-take) (omega arith)

-- the same, by what the bytes are then
pub reads_next : (before between after : Option (List ℕ)) (bytes buffer more : List ℕ) (n : ℕ)
    → more ≡ bytes ++ take n buffer → n ≤ length buffer
    → Reads (length bytes) bytes before between → Reads n buffer between after
    → Reads (length more) more before after
reads_next before between after bytes buffer more n e within h r =
    let P : List ℕ → Type 0 = λ xs. Reads (length xs) xs before after in
    let Q : ℕ → Type 0 = λ m. Reads m (bytes ++ take n buffer) before after in
    let l = length_joined bytes buffer n within in
    subst P (sym e) (subst Q l (reads_more before between after bytes buffer n h r))

-- a source that came to its end gave all of its bytes
pub reads_all : (before between after : Option (List ℕ)) (bytes buffer : List ℕ) (n : ℕ)
    → n ≡ 0 → Reads (length bytes) bytes before between → Reads n buffer between after
    → IfSome between (λ left. left ≡ [])
    → IfSome before (λ left. (bytes ≡ left) × (after ≡ Some []))
reads_all None between after bytes buffer n z h r e = tt
reads_all (Some left) between after bytes buffer n z h r e =
    let Z : ℕ → Type 0 = λ m. Reads m buffer between after in
    let P : Option (List ℕ) → Type 0 = λ o. Reads 0 buffer o after in
    let E : Option (List ℕ) → Type 0 = λ o. IfSome o (λ rest. rest ≡ []) in
    let s = subst P h.2 (subst Z z r) in
    let none : drop (length bytes) left ≡ [] = subst E h.2 e in
    let l = sym (length-drop (length bytes) left) ∙ ap length none in
    let fits = h.0 in
    let all : take (length bytes) left ≡ left = take_all (length bytes) left (omega arith) in
    let whole : take (length bytes) bytes ≡ bytes = take_all (length bytes) bytes (omega arith) in
    let h1 = h.1 in
    let s2 = s.2 in
    (cc, cc)

-- a write after other writes
pub adds_more : (before between after : Option (List ℕ)) (bytes : List ℕ) (written n : ℕ)
    → Adds (take written bytes) before between
    → Adds (take n (drop written bytes)) between after
    → Adds (take (written + n) bytes) before after
adds_more None between after bytes written n h a = tt
adds_more (Some held) between after bytes written n h a =
    let P : Option (List ℕ) → Type 0 = λ o. Adds (take n (drop written bytes)) o after in
    let s = subst P h a in
    let parts = take-add written n bytes in
    let joined = append_assoc held (take written bytes) (take n (drop written bytes)) in
    cc
