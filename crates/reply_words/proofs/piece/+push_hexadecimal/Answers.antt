use Rattle.std.proofs.Common.{◌/◌, [], ◌∷◌, arith}
use Rattle.reply_words.specs.Spelling.{hexadecimal}
use Rattle.reply_words.proofs.Numerals.{hex_alone, hex_behind}
use Rattle.reply_words.proofs.Pushed.{pushes_as, then_pushes, fits_as, first_fits, second_fits}
use Rattle.reply_words.proofs.piece.+push_hexadecimal.Goals as goal

pub returns-then-n-lt16 : goal.returns-then-n-lt16
returns-then-n-lt16 t c =
    let same = hex_alone c.args.n c.digit.result c.digit.ensures c.if-n-lt16.true in record {
      pushed = pushes_as c.push_slice.ensures.pushed same;
      room = λ fits. c.push_slice.ensures.room (fits_as c.args.out.now fits same);
      capacity = c.push_slice.ensures.capacity;
    }

pub returns-in_err-push_hexadecimal-clause-room : goal.returns-in_err-push_hexadecimal-clause-room
returns-in_err-push_hexadecimal-clause-room t c =
    let parts = hex_behind c.args.n c.digit.result c.digit.ensures c.if-n-lt16.false
    c.ranges.n.fits in
    λ fits. let first = first_fits (hexadecimal (c.args.n / 16)) (c.digit.result ∷ [])
    c.args.out.now fits parts in
    let no = c.in_err-push_hexadecimal.ensures.room first in absurd (cc)

pub returns : goal.returns
returns t c =
    let parts = hex_behind c.args.n c.digit.result c.digit.ensures c.if-n-lt16.false
    c.ranges.n.fits in
    let first = c.in_ok-push_hexadecimal.ensures in
    let last = c.push_slice-2.ensures in record {
      pushed = then_pushes (hexadecimal c.args.n) first.pushed last.pushed parts;
      room = λ fits. last.room (second_fits (c.digit.result ∷ []) c.args.out.now
          c.push_hexadecimal.new.out fits first.pushed first.capacity parts);
      capacity = omega (arith, first.capacity, last.capacity);
    }
