-- Arguments are one command at most.
use Rattle.std.proofs.Common.{◌≡◌, ℕ, List, [], ◌∷◌, codes, get_or, slice_index, ap, sym, ◌∙◌, refl, arith}
use Rattle.seuss_top.specs.Command.{Command, Call, Asm, Dis, IsCall, IsCommand, HaveNoForm}

no_words : (words : List (List ℕ)) (a b c : List ℕ) → words ≡ a ∷ b ∷ [] → words ≡ c ∷ [] → ⊥
no_words words a b c two one = let e : a ∷ b ∷ [] ≡ c ∷ [] = sym two ∙ one in cc

-- `asm` is not `dis`
asm_dis : (words : List (List ℕ)) → words ≡ codes "asm" ∷ [] → words ≡ codes "dis" ∷ [] → ⊥
asm_dis words asm dis =
    let e : 97 ≡ 100 = ap (λ ws. slice_index (get_or ws 0 []) 0) (sym asm ∙ dis) in
    absurd (omega (arith, e))

pub one_command : (words : List (List ℕ)) (c d : Command) → IsCommand words c → IsCommand words d → c ≡ d
one_command words (Call image) (Call other) c d =
    let e : codes "call" ∷ image ∷ [] ≡ codes "call" ∷ other ∷ [] = sym c.arguments_are ∙ d.arguments_are in
    let same : image ≡ other = cc in
    rw same refl
one_command words (Call image) Asm c d = absurd (no_words words _ _ _ c.arguments_are d)
one_command words (Call image) Dis c d = absurd (no_words words _ _ _ c.arguments_are d)
one_command words Asm (Call image) c d = absurd (no_words words _ _ _ d.arguments_are c)
one_command words Asm Asm c d = refl
one_command words Asm Dis c d = absurd (asm_dis words c d)
one_command words Dis (Call image) c d = absurd (no_words words _ _ _ d.arguments_are c)
one_command words Dis Asm c d = absurd (asm_dis words d c)
one_command words Dis Dis c d = refl

-- what is none of them has no form
pub no_form : (words : List (List ℕ)) → (words ≡ codes "asm" ∷ [] → ⊥) → (words ≡ codes "dis" ∷ [] → ⊥) → ((image : List ℕ) → IsCall words image → ⊥) → HaveNoForm words
no_form words asm dis call (Call image) is = call image is
no_form words asm dis call Asm is = asm is
no_form words asm dis call Dis is = dis is
