-- Numbers with a sign, from what digits are worth.
use Rattle.std.proofs.Common.{◌≡◌, ℕ, zero, suc, ◌-◌, ◌^◌, min, refl, ◌∙◌, ◌-ℤ◌, negsuc, Option, Some, None, ℤ, pos, to_z, of_z, ap, arith, option_map}
use Rattle.std.specs.Int.{w128}
use Rattle.std.proofs.lemmas.Int.{ints, to_z-of_z}
use mir.Val.{SFits}
use Rattle.asm_words.specs.Near.{near, near_size}
use Rattle.asm_words.specs.Numbers.{negation}

-- none is none, whatever is made of it
pub none_near : (f : ℕ → ℤ) (o : Option ℕ) → None ≡ option_map near_size o → None ≡ option_map near (option_map f o)
none_near f None e = refl
none_near f (Some n) e = cc

positive_is : (m : ℕ) → to_z w128 (near_size m) ≡ near (pos m)
positive_is m = omega (arith, ints)

zero_less : (k : ℕ) → pos 0 -ℤ pos (suc k) ≡ negsuc k
zero_less k = omega (arith, ints)

negative_is : (m : ℕ) → to_z w128 (of_z w128 (pos 0 -ℤ to_z w128 (near_size m))) ≡ near (negation m)
negative_is zero = refl
negative_is (suc m) =
    let k = min m (2 ^ 64 - 1) in
    let e : to_z w128 (near_size (suc m)) ≡ pos (suc k) = omega (arith, ints) in
    let fits : SFits w128 (negsuc k) = record { sfits = omega arith } in
    ap (λ z. to_z w128 (of_z w128 (pos 0 -ℤ z))) e
    ∙ (ap (λ z. to_z w128 (of_z w128 z)) (zero_less k) ∙ to_z-of_z w128 (negsuc k) fits)

pub some_positive : (o : Option ℕ) (n : ℕ) → Some n ≡ option_map near_size o → Some (to_z w128 n) ≡ option_map near (option_map pos o)
some_positive None n e = cc
some_positive (Some m) n e =
    let same : n ≡ near_size m = cc in
    rw same (ap Some (positive_is m))

pub some_negative : (o : Option ℕ) (n : ℕ) → Some n ≡ option_map near_size o → Some (to_z w128 (of_z w128 (pos 0 -ℤ to_z w128 n))) ≡ option_map near (option_map negation o)
some_negative None n e = cc
some_negative (Some m) n e =
    let same : n ≡ near_size m = cc in
    rw same (ap Some (negative_is m))
