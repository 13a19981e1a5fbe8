use Rattle.std.proofs.Common.{refl}
use Rattle.call_command.proofs.Files.{too_big}
use Rattle.call_command.proofs.calling.read_program.Goals as goal

pub returns-in-Err-TooBig-clause-refused : goal.returns-in-Err-TooBig-clause-refused
returns-in-Err-TooBig-clause-refused g c =
    too_big (g.F.Files.contents c.args.files.now) c.args.name.now ((rw c.in-Err-TooBig.field-0-is at c.in-Err-TooBig.ensures).too_big refl)

pub returns-in-Err-Failed-clause-counted : goal.returns-in-Err-Failed-clause-counted
returns-in-Err-Failed-clause-counted g c = λ other. absurd (other refl)
