use Rattle.seuss_top.proofs.Told.{one_is}
use Rattle.seuss_top.proofs.arguments.is_only.Goals as goal

pub returns-in-len1 : goal.returns-in-len1
returns-in-len1 c = one_is c.args.arguments.now c.only-item.result c.as_str.result.now c.args.word.now c.eq.result c.in-len1.len_at_least c.in-len1.len_below c.only-item.is c.as_str.ensures.value c.eq.ensures
