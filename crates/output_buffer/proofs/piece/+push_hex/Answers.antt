use Rattle.std.proofs.Common.{◌≡◌, ◌-◌, ◌/◌, [], ◌∷◌, ◌++◌, ap, ◌∙◌}
use Rattle.output_buffer.proofs.Hexadecimal.{padded_last, padded_large, padded_wide}
use Rattle.output_buffer.proofs.Ways.{both, sends_as}
use Rattle.output_buffer.specs.Pieces.{padded}
use Rattle.output_buffer.specs.Sent.{way}
use Rattle.output_buffer.proofs.piece.+push_hex.Goals as goal
use Rattle.output_buffer.proofs.piece.+push_hex.Goals.{else-n-lt16-via-else-n-lt16}
use Rattle.output_buffer.proofs.piece.+push_hex.Goals.{else-n-lt16-via-then-n-lt16+else-width-le1}

pub returns-then-width-le1 : goal.returns-then-width-le1
returns-then-width-le1 g less c =
    sends_as _ _ _ _
    (ap (λ d. d ∷ []) c.hexadecimal_digit.ensures
    ∙ padded_last c.args.width c.args.n c.if-n-lt16.true c.if-width-le1.true)
    c.push.ensures

pub returns : goal.returns
returns g less c =
    let K = g.K.Sink in
    let n = c.args.n in
    let width = c.args.width in
    let old = way K.contents K.faults c.args.sink.now c.args.buffer.now in
    let between = way K.contents K.faults c.push_hex.new.sink
    c.push_hex.new.buffer in
    let new = way K.contents K.faults c.push-2.new.sink c.push-2.new.buffer in
    let front = padded (width - 1) (n / 16) in
    let digit = c.hexadecimal_digit in
    let more : front ++ (digit.result ∷ []) ≡ padded width n =
    ap (λ d. front ++ (d ∷ [])) digit.ensures
    ∙ elim c.else-n-lt16.branch [
      | else-n-lt16-via-then-n-lt16+else-width-le1 w ↦
          padded_wide width n w.if-n-lt16.true w.if-width-le1.false
      | else-n-lt16-via-else-n-lt16 w ↦
          padded_large width n w.if-n-lt16.false c.ranges.n.fits
    ] in
    sends_as _ _ old new more
    (both front (digit.result ∷ []) old between new
    (sends_as _ _ old between (ap (λ k. padded k (n / 16)) c.saturating_sub.ensures)
    c.push_hex.ensures)
    c.push-2.ensures)
