use Rattle.std.proofs.Common.{refl, arith}
use Rattle.plain_space.specs.PlainSpace as plain
use Rattle.counted_space.proofs.Spaces.{store-marked, on_ok, on_err}
use Rattle.counted_store.proofs.Spaces.{sound-from, sound-stored}
use Rattle.counted_store.proofs.counted.Counted.spend.Goals as goal

pub returns-then-is_err-clause-sound : goal.returns-then-is_err-clause-sound
returns-then-is_err-clause-sound c =
    let kept = on_err c.write_from.result c.write_from.ensures.kept c.if-is_err.ensures.value in
    sound-from c.args.self.now _ c.requires.sound (omega arith) kept.0 refl

pub returns-clause-sound : goal.returns-clause-sound
returns-clause-sound c =
    sound-stored c.args.self.now _ c.args.at c.args.bytes.now c.requires.sound (omega arith)
    c.requires.some c.ends_below.ensures
    (on_ok c.write_from.result c.write_from.ensures.stored c.if-is_err.ensures.value)
    (rw c.deref.ensures.value at c.in-Ok.ensures)

pub returns-clause-stored : goal.returns-clause-stored
returns-clause-stored c =
    store-marked (plain.flat c.args.self.now.plain) (plain.flat c.write_from.new.self)
    c.args.self.now.pages.items c.in-Ok.pages.items c.args.at c.args.bytes.now c.requires.some
    c.ends_below.ensures
    (on_ok c.write_from.result c.write_from.ensures.stored c.if-is_err.ensures.value)
    (rw c.deref.ensures.value at c.in-Ok.ensures)
