use Rattle.std.proofs.Common.{arith}
use Rattle.frame_model.proofs.Counts.{count_most}
use Rattle.frame_model.proofs.rule_laws.counts_never_wrap.Goals as goal

pub returns : goal.returns
returns c = λ n m views rule f h. let a = count_most n m views rule f h in (omega arith, omega arith)
