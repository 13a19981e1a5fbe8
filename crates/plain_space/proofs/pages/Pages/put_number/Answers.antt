use Rattle.std.proofs.Common.{length, ap, sym, ◌∙◌, refl, arith}
use Rattle.machine_model.specs.Machine.{low_bytes}
use Rattle.machine_model.proofs.Ranges.{length-low_bytes}
use Rattle.plain_space.proofs.Lists.{page_is_whole}
use Rattle.plain_space.proofs.Flats.{items_over, put_flat, put_sound}
use Rattle.plain_space.proofs.pages.Pages.put_number.Goals as goal

pub write_number-requires-clause-within : goal.write_number-requires-clause-within
write_number-requires-clause-within c =
    let page = c.index_mut-page.result.now in
    let pages = c.args.self.now.list.items in
    let whole = page_is_whole _ 0 pages c.args.i page c.requires.sound.ordered
    c.requires.place.within in
    rw (c.deref_mut.ensures.value, c.index_mut-page.ensures.value, whole) c.requires.within

pub returns-clause-sound : goal.returns-clause-sound
returns-clause-sound c =
    let piece = low_bytes c.args.n c.args.v in
    let len = length-low_bytes c.args.n c.args.v in
    record {
      ordered = put_sound _ c.args.self.now.list.items c.args.at c.args.i
          c.index_mut-page.result.now _ piece c.requires.sound.ordered (omega arith)
          (rw len c.requires.within) (rw len (omega (arith, c.requires.size))) c.requires.place
          c.index_mut-page.ensures.value refl
          (items_over _ _ _ _ _ (rw c.deref_mut.ensures.value at c.write_number.ensures)
          (ap length (sym c.deref_mut.ensures.value) ∙ c.deref_mut.ensures.len)) refl;
    }

pub returns-clause-flat : goal.returns-clause-flat
returns-clause-flat c =
    let piece = low_bytes c.args.n c.args.v in
    let len = length-low_bytes c.args.n c.args.v in
    put_flat _ c.args.self.now.list.items c.args.at c.args.i c.index_mut-page.result.now _ piece
    c.requires.sound.ordered (omega arith) (rw len c.requires.within)
    (rw len (omega (arith, c.requires.size))) c.requires.place c.index_mut-page.ensures.value refl
    (items_over _ _ _ _ _ (rw c.deref_mut.ensures.value at c.write_number.ensures)
    (ap length (sym c.deref_mut.ensures.value) ∙ c.deref_mut.ensures.len)) refl
