-- A source that is read to its end, with at most so many bytes.
use Rattle.std.specs.Prelude.{◌≡◌, ℕ, ◌+◌, ◌<◌, ◌≤◌, List, [], length, drop, Option, Some, IfSome}
use Rattle.edge_streams.specs.Content.{TakesAtMost}
use Rattle.command_parts.specs.Outside.{Stream, Fails}
use Rattle.command_parts.specs.declared.refusal.Refusal.{Refusal}
use Rattle.command_parts.specs.declared.refusal.Refusal.TheVariants.{Own, Size, Read, Write}
use Rattle.command_parts.specs.declared.refusal.Refusal.TheVariants.{File, Memory}

-- the source was read to its end
abbrev pub IsRead : Stream → Type 0
IsRead source = IfSome source.before (λ left. source.after ≡ Some [])

-- these are the source's bytes, no more than the limit, and it was read to its end
pub record IsInput (limit : ℕ) (source : Stream) (bytes : List ℕ) : Type 0 where
  pub within : length bytes ≤ limit
  pub bytes_are : IfSome source.before (λ left. left ≡ bytes)
  pub read : IsRead source

-- the source has more bytes than the limit; one more than the limit was taken
abbrev pub IsTooLong : (limit : ℕ) → Stream → Type 0
IsTooLong limit source =
    IfSome source.before
    (λ left. (limit < length left) × (source.after ≡ Some (drop (limit + 1) left)))

-- at most so many of its bytes were taken
abbrev pub IsTaken : (most : ℕ) → Stream → Type 0
IsTaken most source = TakesAtMost most source.before source.after

-- why the bytes aren't had
abbrev pub RefusesSource : {C : Type 0} → (limit : ℕ) → Stream → Refusal C → Type 0
RefusesSource limit source (Own cause) = ⊥
RefusesSource limit source Size = IsTooLong limit source
RefusesSource limit source Read = Fails source × IsTaken limit source
RefusesSource limit source Write = ⊥
RefusesSource limit source File = ⊥
RefusesSource limit source Memory = IsTaken (limit + 1) source
