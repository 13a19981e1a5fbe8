use Rattle.std.proofs.Common.{sym, ◌∙◌, ap, length, arith}
use Rattle.hyper_calls.proofs.Pieces.{count-pieces}
use Rattle.hyper_calls.proofs.ports.Ports.sent.Goals as goal

pub returns : goal.returns
returns c =
    let p = c.self.inside in
    sym (count-pieces p.count p.sizes p.bytes.items (omega arith))
    ∙ ap (λ ports. length ports.traffic.sent) c.self.view_is
