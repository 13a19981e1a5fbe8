-- The line of a word that is no instruction says the word.
use Rattle.std.proofs.Common.{◌≡◌, ℕ, ◌-◌, ◌^◌, ◌<◌, true, false, List, ◌∷◌, length}
use Rattle.std.proofs.Common.{Some, Ok, pos, negsuc, lit≤, refl, ap, ◌∙◌, ok_or, option_map, codes, arith}
use Rattle.std.specs.Fmt.{digits}
use Rattle.std.proofs.lemmas.Int.{ints}
use Rattle.std.proofs.lemmas.Fmt.{digits_is_IsNumeral}
use Rattle.std.proofs.Math.Nat.{mod-eq_of_lt}
use Rattle.asm_words.specs.Numbers.{hexadecimal_value, number}
use Rattle.asm_lines.specs.Statement.{Word, and_then, statement, number_in, ranged, of_number, only_number}
use Rattle.asm_lines.specs.declared.fault.AsmKind.TheVariants.{BadNumber, BadShape}
use Rattle.instruction_model.specs.Word.{modulo_two_to}
use Rattle.asm_laws.proofs.Lines.{Above, no_mark, line_parts, ranged_is}
use Rattle.asm_laws.proofs.Spelled.{hex_read, zeros_above, digits_above, wide}
use Rattle.asm_laws.proofs.Words.{one_word_is}
use Rattle.rv_asm.specs.Disassembly.{eight_digits, data_text}

eight_read : (w : ℕ) → w < 2 ^ 32 → hexadecimal_value (eight_digits w) ≡ Some w
unfolding eight_digits
eight_read w h = hex_read (8 - length (digits 16 false w)) w h

eight_above : (w : ℕ) → w < 2 ^ 32 → Above (eight_digits w)
unfolding eight_digits
eight_above w h =
    zeros_above (8 - length (digits 16 false w)) (digits 16 false w)
    (digits_above 16 (digits 16 false w) (lit≤ tt) (digits_is_IsNumeral 16 false (lit≤ tt) (lit≤ tt) w (wide w h)).0.1)

abbrev hex_word : ℕ → List ℕ
hex_word w = 48 ∷ (120 ∷ eight_digits w)

number_is : (w : ℕ) → w < 2 ^ 32 → number (hex_word w) ≡ Some (pos w)
number_is w h = ap (option_map pos) (eight_read w h)

in_range : (w : ℕ) → w < 2 ^ 32 → number_in (negsuc (2 ^ 31 - 1)) (pos (2 ^ 32 - 1)) (hex_word w) ≡ Ok (pos w)
in_range w h =
    ap (λ o. and_then (ok_or o BadNumber) (ranged (negsuc (2 ^ 31 - 1)) (pos (2 ^ 32 - 1)))) (number_is w h)
    ∙ ranged_is (negsuc (2 ^ 31 - 1)) (pos (2 ^ 32 - 1)) (pos w) (omega (arith, ints)) (omega (arith, ints))

only_is : (w : ℕ) → w < 2 ^ 32 → only_number (negsuc (2 ^ 31 - 1)) (pos (2 ^ 32 - 1)) (hex_word w) ≡ Ok (pos w)
only_is w h =
    ap (λ o. and_then (ok_or o BadShape) (number_in (negsuc (2 ^ 31 - 1)) (pos (2 ^ 32 - 1))))
    (one_word_is 48 (120 ∷ eight_digits w) (no_mark 32 (hex_word w) (lit≤ tt) (eight_above w h)))
    ∙ in_range w h

pub data_read : (w : ℕ) → w < 2 ^ 32 → statement true (data_text w) ≡ Ok (Word w)
data_read w h =
    line_parts 46 (codes "word") (hex_word w) refl (no_mark 35 (hex_word w) (lit≤ tt) (eight_above w h)) refl
    ∙ (ap (of_number (λ z. Word (modulo_two_to 32 z))) (only_is w h)
    ∙ ap (λ n. Ok (Word n)) (mod-eq_of_lt h))
