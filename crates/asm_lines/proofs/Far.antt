-- Numbers that are far from 0, which are in no range.
use Rattle.std.proofs.Common.{◌≡◌, ℕ, ◌-◌, ◌^◌, ◌<◌, ◌≤◌, Bool, true, false, ◌&&◌, Result, Ok, Err, ℤ, pos, negsuc, ◌<ℤ◌}
use Rattle.std.proofs.Common.{Option, Some, None, ok_or, option_map, refl, ap, sym, ◌∙◌, ◌⊎◌, inl, inr, arith}
use Rattle.std.specs.Prelude.{int_le}
use Rattle.std.proofs.lemmas.Bool.{cases_lt}
use Rattle.std.proofs.lemmas.Int.{ints}
use Rattle.asm_words.specs.Near.{near}
use Rattle.asm_lines.specs.Ranges.{near_of, IsNearRange}
use Rattle.asm_lines.specs.Statement.{ranged, and_then, segment_at}
use Rattle.asm_lines.specs.declared.fault.AsmKind.{AsmKind}
use Rattle.asm_lines.specs.declared.fault.AsmKind.TheVariants.{BadNumber, OutOfRange}

and_false : (b : Bool) → (b && false) ≡ false
and_false true = refl
and_false false = refl

above : (high z : ℤ) → high <ℤ z → int_le z high ≡ false
above high z h = grind (arith, ints)

below : (low z : ℤ) → z <ℤ low → int_le low z ≡ false
below low z h = grind (arith, ints)

out_above : (low high z : ℤ) → high <ℤ z → ranged low high z ≡ Err OutOfRange
out_above low high z h = simp (above high z h, and_false (int_le low z))

out_below : (low high z : ℤ) → z <ℤ low → ranged low high z ≡ Err OutOfRange
out_below low high z h = simp (below low z h)

near_above : (low high : ℤ) (n : ℕ) → IsNearRange low high → (n < 2 ^ 64) ⊎ (2 ^ 64 ≤ n) → ranged low high (near (pos n)) ≡ ranged low high (pos n)
near_above low high n range (inl small) =
    let e : near (pos n) ≡ pos n = omega (arith, ints) in ap (ranged low high) e
near_above low high n range (inr large) =
    let p : high <ℤ near (pos n) = omega (arith, ints, range.1) in
    let q : high <ℤ pos n = omega (arith, ints, range.1) in
    out_above low high (near (pos n)) p ∙ sym (out_above low high (pos n) q)

near_below : (low high : ℤ) (n : ℕ) → IsNearRange low high → (n < 2 ^ 64 - 1) ⊎ (2 ^ 64 - 1 ≤ n) → ranged low high (near (negsuc n)) ≡ ranged low high (negsuc n)
near_below low high n range (inl small) =
    let e : near (negsuc n) ≡ negsuc n = omega (arith, ints) in ap (ranged low high) e
near_below low high n range (inr large) =
    let p : near (negsuc n) <ℤ low = omega (arith, ints, range.0) in
    let q : negsuc n <ℤ low = omega (arith, ints, range.0) in
    out_below low high (near (negsuc n)) p ∙ sym (out_below low high (negsuc n) q)

-- whether a number is in a range can be told from what it is taken to be
pub ranged_near : (low high z : ℤ) → IsNearRange low high → ranged low high (near z) ≡ ranged low high z
ranged_near low high (pos n) range = near_above low high n range (cases_lt n (2 ^ 64))
ranged_near low high (negsuc n) range = near_below low high n range (cases_lt n (2 ^ 64 - 1))

-- the number of a range that was read
pub number_read : (low high : ℤ) (o : Result ℤ AsmKind) (z : ℤ) → IsNearRange low high → Ok z ≡ near_of o → ranged low high z ≡ and_then o (ranged low high)
number_read low high (Ok x) z range e =
    let same : z ≡ near x = cc in rw same (ranged_near low high x range)
number_read low high (Err kind) z range e = cc

-- what was read is a fault where it is one
pub fault_read : {Y : Type 0} (o : Result ℤ AsmKind) (next : ℤ → Result Y AsmKind) (kind : AsmKind) → Err kind ≡ near_of o → Err kind ≡ and_then o next
fault_read (Ok x) next kind e = cc
fault_read (Err k) next kind e = cc

pub second_fault_read : {Y : Type 0} (oa on : Result ℤ AsmKind) (next : ℤ → ℤ → Result Y AsmKind) (a : ℤ) (kind : AsmKind) → Ok a ≡ near_of oa → Err kind ≡ near_of on → Err kind ≡ and_then oa (λ x. and_then on (next x))
second_fault_read (Ok x) on next a kind ea e = fault_read on (next x) kind e
second_fault_read (Err k) on next a kind ea e = cc

-- a word that spells no number
pub near_or : (o : Option ℤ) → ok_or (option_map near o) BadNumber ≡ near_of (ok_or o BadNumber)
near_or None = refl
near_or (Some z) = refl

-- a segment of two numbers that were read
pub segment_read : (f : ℕ) (oa on : Result ℤ AsmKind) (a n : ℤ) → Ok a ≡ near_of oa → Ok n ≡ near_of on → segment_at f a n ≡ and_then oa (λ x. and_then on (λ y. segment_at f x y))
segment_read f (Ok x) (Ok y) a n ea en =
    let sa : a ≡ near x = cc in
    let sn : n ≡ near y = cc in
    let range : IsNearRange (pos 0) (pos (2 ^ 64 - 1)) = (omega (arith, ints), omega (arith, ints)) in
    let sized : IsNearRange (pos 1) (pos (2 ^ 64 - 1)) = (omega (arith, ints), omega (arith, ints)) in
    rw (sa, sn) (simp (ranged_near (pos 0) (pos (2 ^ 64 - 1)) x range, ranged_near (pos 1) (pos (2 ^ 64 - 1)) y sized))
segment_read f (Err k) on a n ea en = cc
segment_read f (Ok x) (Err k) a n ea en = cc
