-- The first line of pieces in parts.
use Rattle.std.proofs.Common.{◌≡◌, ℕ, zero, suc, ◌+◌, ◌<◌, Bool, true, false, List, [], ◌∷◌, ◌++◌, cond}
use Rattle.std.proofs.Common.{Option, Some, None, length, get_or, drop, map, refl, sym, ap}
use Rattle.std.proofs.Common.{◌∙◌, arith}
use Rattle.std.proofs.lemmas.List.{at_drop_more}
use Rattle.asm_lines.specs.Statement.{or_else}
use Rattle.asm_program.specs.Held.{part_of}
use Rattle.asm_program.specs.Program.{Piece}
use Rattle.asm_program.specs.declared.part.Part.{Part as HeldPart}
use Rattle.asm_image.specs.Uses.{first_line, pieces_of}

none_both : (t : Bool) (n : ℕ) (o : Option ℕ)
    → cond t (Some n) o ≡ None → (t ≡ false) × (o ≡ None)
none_both true n o h = absurd (cc)
none_both false n o h = (refl, h)

or_else_none : (o p : Option ℕ) → or_else o p ≡ None → (o ≡ None) × (p ≡ None)
or_else_none None p h = (refl, h)
or_else_none (Some n) p h = absurd (cc)

-- where no piece passes, none at a place does
pub fails_at : {X : Type 0} (test : Piece → Bool) (g : X → Piece) (xs : List X) (k : ℕ) (x : X)
    → first_line test (map g xs) ≡ None → k < length xs → test (g (get_or xs k x)) ≡ false
fails_at test g [] k x none lt = absurd (omega arith)
fails_at test g (y ∷ ys) zero x none lt = (none_both (test (g y)) _ _ none).0
fails_at test g (y ∷ ys) (suc k) x none lt =
    fails_at test g ys k x (none_both (test (g y)) _ _ none).1 (omega arith)

or_else_cond : (t : Bool) (n : ℕ) (o p : Option ℕ)
    → cond t (Some n) (or_else o p) ≡ or_else (cond t (Some n) o) p
or_else_cond true n o p = refl
or_else_cond false n o p = refl

pub first_line-append : (test : Piece → Bool) (ps qs : List Piece)
    → first_line test (ps ++ qs) ≡ or_else (first_line test ps) (first_line test qs)
first_line-append test [] qs = refl
first_line-append test (p ∷ ps) qs =
    ap (cond (test p) (Some p.line)) (first_line-append test ps qs)
    ∙ or_else_cond (test p) p.line (first_line test ps) (first_line test qs)

abbrev pub line_in : (Piece → Bool) → List HeldPart → Option ℕ
line_in test parts = first_line test (pieces_of (map part_of parts))

-- where no piece of all parts passes, none of a part does
pub none_at : (test : Piece → Bool) (parts : List HeldPart) (k : ℕ) (x : HeldPart)
    → line_in test parts ≡ None → k < length parts
    → first_line test (part_of (get_or parts k x)).pieces ≡ None
none_at test [] k x none lt = absurd (omega arith)
none_at test (p ∷ ps) zero x none lt =
    (or_else_none _ _ (sym (first_line-append test (part_of p).pieces _) ∙ none)).0
none_at test (p ∷ ps) (suc k) x none lt =
    none_at test ps k x
    (or_else_none _ _ (sym (first_line-append test (part_of p).pieces _) ∙ none)).1 (omega arith)

-- what is left of parts begins with a part
pub part_more : (test : Piece → Bool) (parts : List HeldPart) (i : ℕ) (x : HeldPart)
    → x ≡ get_or parts i x → i < length parts
    → line_in test (drop i parts)
    ≡ or_else (first_line test (part_of x).pieces) (line_in test (drop (i + 1) parts))
part_more test parts i x is lt =
    at_drop_more (line_in test) parts i x lt
    ∙ ap (λ y. line_in test (y ∷ drop (i + 1) parts)) (sym is)
    ∙ first_line-append test (part_of x).pieces (pieces_of (map part_of (drop (i + 1) parts)))
