use Rattle.std.proofs.Common.{◌∙◌, arith}
use Rattle.std.proofs.lemmas.List.{length-take-le}
use Rattle.plain_space.specs.Space.{flat_in}
use Rattle.plain_space.proofs.Flats.{buffer_bytes}
use Rattle.plain_space.proofs.pages.Pages.load_slowly.Goals as goal

pub returns-in-Ok-clause-value : goal.returns-in-Ok-clause-value
returns-in-Ok-clause-value c =
    c.read_number.ensures (flat_in c.args.self.now).memory c.args.at
    (buffer_bytes (flat_in c.args.self.now).memory c.args.at c.args.n _ c.read_into.new.buf
    c.in-Ok.ensures.bytes
    (length-take-le c.from.result _ (omega (arith, c.from.ensures, c.requires.size))
    ∙ c.from.ensures))
