-- Room for bytes.
use Rattle.std.proofs.Common.{◌≡◌, ℕ, zero, suc, ◌+◌, ◌<◌, ◌≤◌, List, [], ◌∷◌}
use Rattle.std.proofs.Common.{Option, None, length, get_or, take, map, refl, arith}
use Rattle.std.proofs.Common.{length-append}
use Rattle.std.proofs.lemmas.List.{length-replicate}
use Rattle.std.proofs.lemmas.Bool.Decides.{nat_tests}
use Rattle.std.proofs.lemmas.List.Sums.{sum_by-cons}
use Rattle.std.specs.List.{sum_by, flat_map}
use Rattle.asm_lines.specs.Statement.{Statement, Nothing, Label, Segment, Entry, Word, Byte, Zeros}
use Rattle.asm_lines.specs.Statement.{BranchTo, JumpTo}
use Rattle.asm_program.specs.Program.{Piece, byte_count}
use Rattle.asm_image.specs.ImageOf.{bytes_for, piece_bytes}
use Rattle.asm_image.specs.Sizes.{piece_size, left}

-- the sum so far and what is at the next place are within the sum
pub sum_at : {X Y : Type 0} (f : Y → ℕ) (g : X → Y) (xs : List X) (k : ℕ) (x : X) → k < length xs
    → sum_by f (map g (take k xs)) + f (g (get_or xs k x)) ≤ sum_by f (map g xs)
sum_at f g [] k x lt = absurd (omega arith)
sum_at f g (y ∷ ys) zero x lt = omega (arith, sum_by-cons f (g y) (map g ys))
sum_at f g (y ∷ ys) (suc k) x lt =
    omega (
      arith,
      sum_at f g ys k x (omega arith),
      sum_by-cons f (g y) (map g ys),
      sum_by-cons f (g y) (map g (take k ys)),
    )

pub left_none : (room size : ℕ) → room < size → None ≡ left room size
left_none room size less = grind (arith, nat_tests)

pub too_little : (room size : ℕ) → None ≡ left room size → room < size
too_little room size none = grind (arith, nat_tests)

-- a statement makes as many bytes as it counts
one_size : (labels : List ℕ → Option ℕ) (address : ℕ) (s : Statement)
    → length (bytes_for labels address s) ≡ byte_count s
one_size labels address Nothing = refl
one_size labels address (Label name) = refl
one_size labels address (Segment at flags size) = refl
one_size labels address (Entry name) = refl
one_size labels address (Word w) = refl
one_size labels address (Byte b) = refl
one_size labels address (Zeros n) = length-replicate n 0
one_size labels address (BranchTo op a b name) = refl
one_size labels address (JumpTo rd name) = refl

pub bytes_size : (labels : List ℕ → Option ℕ) (ps : List Piece)
    → length (flat_map (piece_bytes labels) ps) ≡ sum_by piece_size ps
bytes_size labels [] = refl
bytes_size labels (p ∷ ps) =
    omega (
      arith,
      length-append (piece_bytes labels p) (flat_map (piece_bytes labels) ps),
      bytes_size labels ps,
      sum_by-cons piece_size p ps,
      one_size labels p.address p.says,
    )
