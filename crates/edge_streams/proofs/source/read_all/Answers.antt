-- The loop adds what it read to what it read before; at the end of the source this is all.
use Rattle.std.proofs.Common.{◌≡◌, ◌≤◌, length, take, arith, length-take, rules}
use Rattle.edge_streams.proofs.Rows.{reads_next, reads_all}
use Rattle.edge_streams.proofs.source.read_all.Goals as goal

pub returns-then-taken-eq0-clause-all : goal.returns-then-taken-eq0-clause-all
returns-then-taken-eq0-clause-all g c =
    let before = g.S.Source.remaining c.args.source.now in
    let between = g.S.Source.remaining c.loop-chunk.source in
    let after = g.S.Source.remaining c.read_piece.new.source in
    let bytes = c.loop-chunk.bytes.items in
    let buffer = c.read_piece.new.chunk in
    let taken = c.in_ok-taken.taken in
    let empty : taken ≡ 0 = c.if-taken-eq0.true in
    let at_end = c.in_ok-taken.ensures.end in
    reads_all before between after bytes buffer taken empty
    c.loop-chunk.invariant.read c.in_ok-taken.ensures.bytes (at_end cc)

pub loop-chunk-preserved : goal.loop-chunk-preserved
loop-chunk-preserved g c =
    let read = c.in_ok-taken.ensures in
    let added = c.in_ok-extend_from_slice.ensures in
    let before = g.S.Source.remaining c.args.source.now in
    let between = g.S.Source.remaining c.loop-chunk.source in
    let after = g.S.Source.remaining c.read_piece.new.source in
    let bytes = c.loop-chunk.bytes.items in
    let more = c.extend_from_slice.new.self.items in
    let buffer = c.read_piece.new.chunk in
    let taken = c.in_ok-taken.taken in
    let short : length (take taken buffer) ≤ taken = rw length-take (omega arith) in
    let within = read.within in
    let len = added.len in
    record {
      within = omega arith;
      chunk_length = omega arith;
      read = reads_next before between after bytes buffer more taken added.items (omega arith)
          c.loop-chunk.invariant.read read.bytes;
      counted = search rules;
    }
