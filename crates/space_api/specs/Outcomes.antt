-- How accesses to a space end.
use Rattle.std.specs.Prelude.{◌≡◌, ℕ, ◌⊎◌, Bool, true, Option, None, Some, Result, IfErr, IsOk, Err}
use Rattle.space_api.specs.declared.access.Access.{Access}
use Rattle.space_api.specs.declared.access.Access.TheVariants.{Fault, NeedFrames, Memory}

-- a read is refused exactly for the address that fails
abbrev pub EndsRead : {T : Type 0} → (cause : ℕ) → Option ℕ → Result T Access → Type 0
EndsRead cause (Some a) result = result ≡ Err (Fault cause a)
EndsRead cause None result = IsOk result

-- A write is refused exactly for the address that fails, and else can only want frames, or memory
-- where the space may lack it.
abbrev pub EndsWrite : {T : Type 0} → (lacks : Bool) → (cause : ℕ) → Option ℕ → Result T Access →
    Type 0
EndsWrite lacks cause (Some a) result = result ≡ Err (Fault cause a)
EndsWrite lacks cause None result =
    IfErr result (λ access. (access ≡ NeedFrames) ⊎ ((access ≡ Memory) × (lacks ≡ true)))
