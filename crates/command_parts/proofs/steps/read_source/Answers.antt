use Rattle.std.proofs.Common.{refl}
use Rattle.command_parts.proofs.steps.read_source.Goals as goal

pub returns-in-Err-TooLong-clause-refused : goal.returns-in-Err-TooLong-clause-refused
returns-in-Err-TooLong-clause-refused g c =
    (rw c.in-Err-TooLong.field-0-is at c.in-Err-TooLong.ensures).too_long refl

pub returns-in-Err-TooLong-clause-counted : goal.returns-in-Err-TooLong-clause-counted
returns-in-Err-TooLong-clause-counted g c =
    λ other. (rw c.in-Err-TooLong.field-0-is at c.in-Err-TooLong.ensures).counted (λ same. cc)
