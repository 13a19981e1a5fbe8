use Rattle.std.proofs.Common.{ap, length, take, arith}
use Rattle.hyper_calls.proofs.Pieces.{length-pieces}
use Rattle.hyper_calls.proofs.ports.Ports.packet.Goals as goal

pub piece-requires-clause-within : goal.piece-requires-clause-within
piece-requires-clause-within c =
    let p = c.self.inside in
    let whole = ap (λ ports. length ports.traffic.sent) c.self.view_is in
    let few = length-pieces (take p.count p.sizes) p.bytes.items in
    omega (arith, whole, few, c.requires)
