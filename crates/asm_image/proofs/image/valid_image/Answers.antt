use Rattle.std.proofs.Common.{sym, ap, ◌∙◌, map}
use Rattle.asm_program.specs.Held.{part_of, reading_of}
use Rattle.asm_image.specs.Sizes.{fits_file}
use Rattle.asm_image.proofs.Invalid.{invalid_if_long, invalid_if_high}
use Rattle.asm_image.proofs.image.valid_image.Goals as goal

pub returns-then-not-fits_file : goal.returns-then-not-fits_file
returns-then-not-fits_file c =
    invalid_if_long (reading_of c.args.reading.now)
    (ap (λ parts. fits_file (map part_of parts)) (sym c.deref.ensures.value)
    ∙ sym c.fits_file.ensures ∙ c.if-not-fits_file.true)

pub returns-in-None : goal.returns-in-None
returns-in-None c = invalid_if_high (reading_of c.args.reading.now) c.in-None.ensures
