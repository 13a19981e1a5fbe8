-- A source that was read to its end.
use Rattle.std.proofs.Common.{◌≡◌, ℕ, ◌+◌, ◌≤◌, List, [], length, Option, Some, None, IfSome}
use Rattle.std.proofs.Common.{sym, ◌∙◌, ap, arith}
use Rattle.std.proofs.Math.Seq.{drop-length}
use Rattle.edge_streams.specs.Content.{TakesAtMost}
use Rattle.command_parts.specs.Outside.{Stream}
use Rattle.command_parts.specs.Sources.{IsInput, IsTaken}

taken : (limit : ℕ) (before after : Option (List ℕ)) (bytes : List ℕ) → length bytes ≤ limit
    → IfSome before (λ left. left ≡ bytes) → IfSome before (λ left. after ≡ Some [])
    → TakesAtMost (limit + 1) before after
taken limit None after bytes within are read = tt
taken limit (Some left) after bytes within are read =
    let size : length left ≡ length bytes = ap length are in
    (length left, omega arith, read ∙ ap Some (sym (drop-length left)))

-- at most one byte more than the limit was taken of it
pub input_taken : (limit : ℕ) (source : Stream) (bytes : List ℕ)
    → IsInput limit source bytes → IsTaken (limit + 1) source
input_taken limit source bytes h =
    taken limit source.before source.after bytes h.within h.bytes_are h.read
