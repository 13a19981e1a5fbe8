-- What a file that is too big for its limit is.
use Rattle.std.proofs.Common.{◌≡◌, ℕ, ◌^◌, ◌<◌, List, length, Option, Some, None, Err, IfSome, IsSomeAnd, arith}
use Rattle.std.proofs.lemmas.Bool.Decides.{nat_tests}
use Rattle.std.proofs.lemmas.Option.{IfSome_then}
use Rattle.elf64.specs.Elf.{elf, file_checks}
use Rattle.elf64.specs.declared.fault.ElfFault.TheVariants.{TooBig}
use Rattle.call_command.specs.Call.{HasFault}
use Rattle.command_parts.specs.Outside.{Contents}

-- the image fault of a file that is too big
pub elf-too_big : (bytes : List ℕ) → 2 ^ 24 < length bytes → elf bytes ≡ Err TooBig
unfolding file_checks
elf-too_big bytes large = grind (arith, nat_tests)

and_then : (o : Option (List ℕ)) (P Q : List ℕ → Type 0) → ((bytes : List ℕ) → P bytes → Q bytes) → IsSomeAnd o P → IsSomeAnd o Q
and_then None P Q f p = p
and_then (Some bytes) P Q f p = f bytes p

pub too_big : (files : Contents) (name : List ℕ) → IfSome files (λ file_of. IsSomeAnd (file_of name) (λ file. 2 ^ 24 < length file)) → HasFault files name TooBig
too_big files name told = IfSome_then files told (λ file_of large. and_then (file_of name) _ _ elf-too_big large)
