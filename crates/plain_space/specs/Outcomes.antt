-- How writes of pages that are copied end.
use Rattle.std.specs.Prelude.{◌≡◌, ℕ, Option, None, Some, Result, IfErr, Err}
use Rattle.space_api.specs.declared.access.Access.{Access}
use Rattle.space_api.specs.declared.access.Access.TheVariants.{Fault, Memory}

-- a write is refused exactly for the address that fails, and else can only want memory
abbrev pub EndsCopy : {T : Type 0} → (cause : ℕ) → Option ℕ → Result T Access → Type 0
EndsCopy cause (Some a) result = result ≡ Err (Fault cause a)
EndsCopy cause None result = IfErr result (λ access. access ≡ Memory)
