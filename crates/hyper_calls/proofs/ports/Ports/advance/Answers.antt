use Rattle.std.proofs.Common.{ℕ, List, ap, sym, ◌∙◌, drop, take}
use Rattle.std.proofs.lemmas.List.{drop-drop}
use Rattle.hyper_calls.specs.Exchange.{Exchange, pieces}
use Rattle.hyper_calls.proofs.ports.Ports.advance.Goals as goal

-- with these packets queued
abbrev with_queue : Exchange → List (List ℕ) → Exchange
with_queue e queue = record e { traffic = record e.traffic { queue = queue } }

pub returns : goal.returns
returns c =
    let p = c.self.inside in
    let was : Exchange = record {
      clock = p.clock;
      traffic = record {
        queue = drop p.read p.given.items;
        sent = pieces (take p.count p.sizes) p.bytes.items;
        console = take p.shown p.text.items;
      };
    } in
    ap (with_queue was) (sym (drop-drop 1 p.read p.given.items))
    ∙ ap (λ e. with_queue e (drop 1 e.traffic.queue)) c.self.view_is
