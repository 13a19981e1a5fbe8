-- The operands of each shape of line are read again.
use Rattle.std.proofs.Common.{◌≡◌, ℕ, ◌^◌, ◌<◌, true, List, ◌∷◌, ◌++◌}
use Rattle.std.proofs.Common.{Result, Ok, ℤ, ◌≤ℤ◌, lit≤, ap, ◌∙◌, ok_or, arith}
use Rattle.std.specs.Prelude.{not, ◌==◌}
use Rattle.std.specs.List.{list_all}
use Rattle.std.specs.Fmt.{decimal, signed_decimal}
use lib.Signed.{mag}
use Rattle.asm_lines.specs.Statement.{and_then, register_of, number_in, three_registers, two_registers, one_register}
use Rattle.asm_lines.specs.declared.fault.AsmKind.{AsmKind}
use Rattle.asm_lines.specs.declared.fault.AsmKind.TheVariants.{BadShape}
use Rattle.asm_laws.proofs.Words.{all_append, two_found, three_found, IsPlain}
use Rattle.asm_laws.proofs.Lines.{Above, no_mark, plain_word, plain_behind, register_above, register_read, signed_above, signed_some, number_in_read}

-- a register as it is printed
abbrev pub register_word : ℕ → List ℕ
register_word a = 120 ∷ decimal a

pub first_plain : (a : ℕ) → a < 32 → IsPlain (register_word a) (register_word a)
first_plain a h = plain_word 120 (decimal a) (register_above a h)

pub next_plain : (a : ℕ) → a < 32 → IsPlain (32 ∷ register_word a) (register_word a)
next_plain a h = plain_behind (register_word a) (omega arith) (register_above a h)

pub number_plain : (z : ℤ) → mag z < 2 ^ 63 → IsPlain (32 ∷ signed_decimal z) (signed_decimal z)
number_plain z h = plain_behind (signed_decimal z) (signed_some z h) (signed_above z h)

-- ---- no mark of a comment

abbrev pub NoHash : List ℕ → Type 0
NoHash text = list_all (λ b. not (b == 35)) text ≡ true

pub hash_above : (w : List ℕ) → Above w → NoHash w
hash_above w above = no_mark 35 w (lit≤ tt) above

pub hash_between : (w rest : List ℕ) → Above w → NoHash rest → NoHash (w ++ (44 ∷ (32 ∷ rest)))
hash_between w rest above h = all_append (λ b. not (b == 35)) w (44 ∷ (32 ∷ rest)) (hash_above w above) h

-- ---- results of registers and numbers

abbrev regs3 : Result ℕ AsmKind → Result ℕ AsmKind → Result ℕ AsmKind → Result (ℕ × ℕ × ℕ) AsmKind
regs3 ra rb rc = and_then ra (λ a. and_then rb (λ b. and_then rc (λ c. Ok (a, b, c))))

abbrev pub regs2 : Result ℕ AsmKind → Result ℕ AsmKind → Result ℤ AsmKind → Result (ℕ × ℕ × ℤ) AsmKind
regs2 ra rb rz = and_then ra (λ a. and_then rb (λ b. and_then rz (λ z. Ok (a, b, z))))

abbrev regs1 : Result ℕ AsmKind → Result ℤ AsmKind → Result (ℕ × ℤ) AsmKind
regs1 ra rz = and_then ra (λ a. and_then rz (λ z. Ok (a, z)))

pub three_registers_read : (a b c : ℕ) → a < 32 → b < 32 → c < 32 → three_registers (register_word a ++ (44 ∷ ((32 ∷ register_word b) ++ (44 ∷ (32 ∷ register_word c))))) ≡ Ok (a, b, c)
three_registers_read a b c ha hb hc =
    let v = register_word a in
    let w = register_word b in
    let x = register_word c in
    ap (λ o. and_then (ok_or o BadShape) (λ ws. regs3 (register_of ws.0) (register_of ws.1) (register_of ws.2)))
    (three_found v (32 ∷ w) (32 ∷ x) v w x (first_plain a ha) (next_plain b hb) (next_plain c hc))
    ∙ (ap (λ r. regs3 r (register_of w) (register_of x)) (register_read a ha)
    ∙ (ap (λ r. regs3 (Ok a) r (register_of x)) (register_read b hb)
    ∙ ap (λ r. regs3 (Ok a) (Ok b) r) (register_read c hc)))

pub two_registers_read : (low high : ℤ) (a b : ℕ) (z : ℤ) → a < 32 → b < 32 → mag z < 2 ^ 63 → low ≤ℤ z → z ≤ℤ high → two_registers low high (register_word a ++ (44 ∷ ((32 ∷ register_word b) ++ (44 ∷ (32 ∷ signed_decimal z))))) ≡ Ok (a, b, z)
two_registers_read low high a b z ha hb hz lower upper =
    let v = register_word a in
    let w = register_word b in
    let x = signed_decimal z in
    ap (λ o. and_then (ok_or o BadShape) (λ ws. regs2 (register_of ws.0) (register_of ws.1) (number_in low high ws.2)))
    (three_found v (32 ∷ w) (32 ∷ x) v w x (first_plain a ha) (next_plain b hb) (number_plain z hz))
    ∙ (ap (λ r. regs2 r (register_of w) (number_in low high x)) (register_read a ha)
    ∙ (ap (λ r. regs2 (Ok a) r (number_in low high x)) (register_read b hb)
    ∙ ap (λ r. regs2 (Ok a) (Ok b) r) (number_in_read low high z hz lower upper)))

pub one_register_read : (low high : ℤ) (a : ℕ) (z : ℤ) → a < 32 → mag z < 2 ^ 63 → low ≤ℤ z → z ≤ℤ high → one_register low high (register_word a ++ (44 ∷ (32 ∷ signed_decimal z))) ≡ Ok (a, z)
one_register_read low high a z ha hz lower upper =
    let v = register_word a in
    let x = signed_decimal z in
    ap (λ o. and_then (ok_or o BadShape) (λ ws. regs1 (register_of ws.0) (number_in low high ws.1)))
    (two_found v (32 ∷ x) v x (first_plain a ha) (number_plain z hz))
    ∙ (ap (λ r. regs1 r (number_in low high x)) (register_read a ha)
    ∙ ap (λ r. regs1 (Ok a) r) (number_in_read low high z hz lower upper))
