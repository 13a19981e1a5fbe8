use Rattle.std.proofs.Common.{length, ap, sym, ◌∙◌, refl, arith}
use Rattle.plain_space.proofs.Lists.{page_is_whole}
use Rattle.plain_space.proofs.Flats.{items_over, put_flat, put_sound, put_keeps}
use Rattle.plain_space.proofs.pages.Pages.put_piece.Goals as goal

pub write_piece-requires : goal.write_piece-requires
write_piece-requires c =
    let page = c.index_mut-page.result.now in
    let pages = c.args.self.now.list.items in
    let whole = page_is_whole _ 0 pages c.args.i page c.requires.sound.ordered
    c.requires.place.within in
    rw (c.deref_mut.ensures.value, c.index_mut-page.ensures.value, whole) c.requires.within

pub returns-clause-sound : goal.returns-clause-sound
returns-clause-sound c =
    record {
      ordered = put_sound _ c.args.self.now.list.items c.args.at c.args.i
          c.index_mut-page.result.now _ c.args.piece.now c.requires.sound.ordered (omega arith)
          c.requires.within c.requires.some c.requires.place
          c.index_mut-page.ensures.value refl
          (items_over _ _ _ _ _ (rw c.deref_mut.ensures.value at c.write_piece.ensures)
          (ap length (sym c.deref_mut.ensures.value) ∙ c.deref_mut.ensures.len)) refl;
    }

pub returns-clause-flat : goal.returns-clause-flat
returns-clause-flat c =
    put_flat _ c.args.self.now.list.items c.args.at c.args.i c.index_mut-page.result.now _
    c.args.piece.now c.requires.sound.ordered (omega arith) c.requires.within c.requires.some
    c.requires.place c.index_mut-page.ensures.value refl
    (items_over _ _ _ _ _ (rw c.deref_mut.ensures.value at c.write_piece.ensures)
    (ap length (sym c.deref_mut.ensures.value) ∙ c.deref_mut.ensures.len)) refl

pub returns-clause-kept : goal.returns-clause-kept
returns-clause-kept c =
    put_keeps c.args.self.now.regions.items c.args.self.now.list.items c.args.at c.args.i
    c.index_mut-page.result.now _ c.args.piece.now c.requires.sound.ordered (omega arith)
    c.requires.within c.requires.some c.requires.place c.index_mut-page.ensures.value refl
    (items_over _ _ _ _ _ (rw c.deref_mut.ensures.value at c.write_piece.ensures)
    (ap length (sym c.deref_mut.ensures.value) ∙ c.deref_mut.ensures.len))
