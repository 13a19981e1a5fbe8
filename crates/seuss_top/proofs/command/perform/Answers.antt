use Rattle.std.proofs.Common.{inr, rules}
use Rattle.seuss_top.specs.Arguments.{texts}
use Rattle.seuss_top.specs.Command.{Asm, IsCommand}
use Rattle.seuss_top.proofs.command.perform.Goals as goal

pub returns-in-Some-Asm-clause-performs : goal.returns-in-Some-Asm-clause-performs
returns-in-Some-Asm-clause-performs g c =
    let is : IsCommand (texts c.args.arguments.now) Asm = search rules in
    inr (Asm, is, c.asm.ensures.ends, c.asm.ensures.leaves)
