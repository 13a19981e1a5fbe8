use Rattle.std.proofs.Common.{◌≡◌, ℕ, List, ◌+◌, ◌∷◌, ◌++◌, [], false, true, take, drop, slice_set, refl, ◌∙◌, ap, arith, rules}
use Rattle.std.proofs.lemmas.List.{with_items_is}
use Rattle.machine_model.specs.Machine.{range_passes, bytes_at}
use Rattle.machine_model.proofs.Ranges.{length-bytes_at}
use Rattle.space_api.specs.Flat.{is_readable}
use Rattle.hyper_calls.specs.Exchange.{Exchange, pieces}
use Rattle.hyper_calls.proofs.Pieces.{sent_count, sent_sum, net_refused, net_readable, pieces-kept, sent_more}
use Rattle.hyper_calls.proofs.ports.Ports.write_packet.Goals as goal

-- with these packets written
abbrev with_sent : Exchange → List (List ℕ) → Exchange
with_sent e sent = record e { traffic = record e.traffic { sent = sent } }

pub returns-then-not-fits_net-clause-reads : goal.returns-then-not-fits_net-clause-reads
returns-then-not-fits_net-clause-reads g c =
    let p = c.self.inside in
    let few = sent_count p.sizes p.bytes.items p.count _ c.self.view_is (omega arith) in
    let short =
    sent_sum p.sizes p.bytes.items p.count p.used _ c.self.view_is (omega arith) (omega arith) in (
      rw (few, short) (net_refused c.args.size p.count p.used c.fits_net.result _
          c.fits_net.ensures.value c.if-not-fits_net.true),
      refl,
    )

pub returns-in-Done-clause-reads : goal.returns-in-Done-clause-reads
returns-in-Done-clause-reads g c =
    let p = c.self.inside in
    let size = c.args.size in
    let flat = g.S.Space.flat c.args.space.now in
    let few = sent_count p.sizes p.bytes.items p.count _ c.self.view_is (omega arith) in
    let short =
    sent_sum p.sizes p.bytes.items p.count p.used _ c.self.view_is (omega arith) (omega arith) in
    let may = net_readable size p.count p.used c.fits_net.result
    (range_passes (is_readable flat) c.args.at size) c.fits_net.ensures.value
    c.if-not-fits_net.false in
    let passes : range_passes (is_readable flat) c.args.at size ≡ true = search rules in
    let written = bytes_at flat.memory c.args.at size in
    let after = c.read_part.new.bytes in
    let read : take (p.used + size) after ≡ take p.used p.bytes.items ++ written = search rules in
    let more = sent_more p.sizes p.bytes.items after written p.count p.used
    size (omega arith) c.self.invariant.used_is (omega arith)
    (length-bytes_at flat.memory c.args.at size) read in
    let was : Exchange = record {
      clock = p.clock;
      traffic = record {
        queue = drop p.read p.given.items;
        sent = pieces (take p.count p.sizes) p.bytes.items;
        console = take p.shown p.text.items;
      };
    } in
    let whole = with_items_is p.bytes after (omega arith) in
    let sizes = take (p.count + 1) (slice_set p.sizes p.count size) in (
      rw (few, short) (may ∙ passes),
      ap (with_sent was) (ap (pieces sizes) whole ∙ more)
          ∙ ap (λ e. with_sent e (e.traffic.sent ++ written ∷ [])) c.self.view_is,
    )

pub returns-in-Refused-clause-reads : goal.returns-in-Refused-clause-reads
returns-in-Refused-clause-reads g c =
    let p = c.self.inside in
    let size = c.args.size in
    let flat = g.S.Space.flat c.args.space.now in
    let sizes = take p.count p.sizes in
    let few = sent_count p.sizes p.bytes.items p.count _ c.self.view_is (omega arith) in
    let short =
    sent_sum p.sizes p.bytes.items p.count p.used _ c.self.view_is (omega arith) (omega arith) in
    let may = net_readable size p.count p.used c.fits_net.result
    (range_passes (is_readable flat) c.args.at size) c.fits_net.ensures.value
    c.if-not-fits_net.false in
    let passes : range_passes (is_readable flat) c.args.at size ≡ false = search rules in
    let after = c.read_part.new.bytes in
    let front : take p.used after ≡ take p.used p.bytes.items = search rules in
    let kept : pieces sizes after ≡ pieces sizes p.bytes.items =
    pieces-kept sizes after p.bytes.items (rw c.self.invariant.used_is front) in
    let was : Exchange = record {
      clock = p.clock;
      traffic = record {
        queue = drop p.read p.given.items;
        sent = pieces (take p.count p.sizes) p.bytes.items;
        console = take p.shown p.text.items;
      };
    } in
    let whole = with_items_is p.bytes after (omega arith) in (
      rw (few, short) (may ∙ passes),
      ap (with_sent was) (ap (pieces sizes) whole ∙ kept) ∙ c.self.view_is,
    )
