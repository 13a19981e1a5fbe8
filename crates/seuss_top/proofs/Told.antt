-- What is told by the outside, and what is known.
use Rattle.std.proofs.Common.{◌≡◌, ℕ, ◌↔◌, ◌<◌, ◌≤◌, List, [], ◌∷◌, length, get_or, Option, Some, None, Result, Ok, Err, IfSome, OnOk, Bool, true, nat_eq, refl, sym, ◌∙◌, subst, arith}
use Rattle.std.proofs.lemmas.Slice.Eq.{bytes_eq-Decides}
use Rattle.std.specs.Cmp.Lexicographic.{pointwise}
use Rattle.std.specs.Global.{Global}
use Rattle.std.specs.Prelude.{String, string_bytes}
use Rattle.seuss_top.specs.Arguments.{texts}

-- what holds of the bytes holds of those that are told
pub of_told : (o : Option (List ℕ)) (bytes : List ℕ) (P : List ℕ → Type 0) → IfSome o (λ told. bytes ≡ told) → P bytes → IfSome o P
of_told None bytes P same p = tt
of_told (Some told) bytes P same p = subst P same p

pub told_weaker : (o : Option (List ℕ)) (P Q : List ℕ → Type 0) → ((told : List ℕ) → P told → Q told) → IfSome o P → IfSome o Q
told_weaker None P Q f p = tt
told_weaker (Some told) P Q f p = f told p

-- what holds anyway holds where the call succeeds
pub on_ok_of : {T E : Type 0} (r : Result T E) (P : Type 0) → P → OnOk r P
on_ok_of (Ok x) P p = p
on_ok_of (Err e) P p = tt

-- two words
pub two_texts : (words : List (String Global)) (command image : String Global) → 2 ≤ length words → length words < 3 → command ≡ get_or words 0 command → image ≡ get_or words 1 image → texts words ≡ string_bytes command ∷ string_bytes image ∷ []
two_texts [] command image h k p q = absurd (omega arith)
two_texts (a ∷ []) command image h k p q = absurd (omega arith)
two_texts (a ∷ b ∷ []) command image h k p q = rw (p, q) refl
two_texts (a ∷ b ∷ c ∷ rest) command image h k p q = absurd (omega arith)

-- two texts that compare as equal are
pub same_text : (a b : List ℕ) (r : Bool) → r ≡ pointwise nat_eq a b → r ≡ true → a ≡ b
same_text a b r e t = (bytes_eq-Decides a b).0 (sym e ∙ t)

-- one word
pub one_text : (words : List (String Global)) (only : String Global) → 1 ≤ length words → length words < 2 → only ≡ get_or words 0 only → texts words ≡ string_bytes only ∷ []
one_text [] only h k p = absurd (omega arith)
one_text (a ∷ []) only h k p = rw p refl
one_text (a ∷ b ∷ rest) only h k p = absurd (omega arith)

-- whether one word is another
pub one_is : (words : List (String Global)) (only : String Global) (text word : List ℕ) (r : Bool) → 1 ≤ length words → length words < 2 → only ≡ get_or words 0 only → text ≡ string_bytes only → r ≡ pointwise nat_eq text word → (r ≡ true) ↔ (texts words ≡ word ∷ [])
one_is words only text word r h k p value e =
    let one : texts words ≡ string_bytes only ∷ [] = one_text words only h k p in (
      λ t. let same = same_text text word r e t in rw (one, sym value, same) refl,
      λ is.
          let both : string_bytes only ∷ [] ≡ word ∷ [] = sym one ∙ is in
          let same : string_bytes only ≡ word = cc in
          e ∙ (bytes_eq-Decides text word).1 (value ∙ same),
    )
