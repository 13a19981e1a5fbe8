use Rattle.std.proofs.Common.{ap, ◌∙◌, not, nat_lt}
use Rattle.machine_model.specs.Run.{is_empty}
use Rattle.hyper_calls.proofs.Pieces.{not_empty}
use Rattle.hyper_calls.proofs.ports.Ports.is_queued.Goals as goal

pub returns : goal.returns
returns c =
    let p = c.self.inside in
    ap (nat_lt p.read) (c.len.ensures ∙ p.given.ok.0) ∙ not_empty p.read p.given.items
    ∙ ap (λ ports. not (is_empty ports.traffic.queue)) c.self.view_is
