use Rattle.std.proofs.Common.{◌%◌, ◌^◌, length, take, drop, Some}
use Rattle.std.proofs.Common.{sym, ap, ◌∙◌, arith, get_or-take, get_or-drop}
use Rattle.std.proofs.lemmas.List.{length-take-le, length-drop}
use Rattle.plain_space.specs.Space.{flat_in}
use Rattle.plain_space.proofs.Lists.{page_is_whole}
use Rattle.plain_space.proofs.Flats.{bytes_at-of, page_bytes, no_page_bytes}
use Rattle.plain_space.proofs.pages.Pages.read_part.Goals as goal

pub read_piece-requires : goal.read_piece-requires
read_piece-requires c =
    let page = c.index.result.now in
    let whole = page_is_whole _ 0 c.args.self.now.list.items c.in-Some.i page
    c.requires.sound.ordered c.in-Some.ensures.within in
    rw (c.deref.ensures.value, c.index.ensures, whole) c.requires.within

pub returns-in-Some : goal.returns-in-Some
returns-in-Some c =
    let page = c.index.result.now in
    let pages = c.args.self.now.list.items in
    let whole = page_is_whole _ 0 pages c.in-Some.i page c.requires.sound.ordered
    c.in-Some.ensures.within in
    let all = ap (λ p. length p.bytes.items) c.index.ensures ∙ whole in
    let found = c.in-Some.ensures.found page ∙ ap Some (sym c.index.ensures) in
    let n = length c.args.buf.now in
    let at = c.args.at in
    let bytes = page.bytes.items in
    let is = rw c.deref.ensures.value at c.read_piece.ensures in
    let some = length-drop (at % 2 ^ 12) bytes in
    is ∙ bytes_at-of (flat_in c.args.self.now).memory at n (take n (drop (at % 2 ^ 12) bytes))
    (length-take-le n (drop (at % 2 ^ 12) bytes) (omega (arith, all, some, c.requires.within)))
    (λ i lt. page_bytes c.args.self.now.regions.items pages at n page (omega arith)
    c.requires.within found i lt
    ∙ sym (get_or-take n (drop (at % 2 ^ 12) bytes) i 0 lt
    ∙ get_or-drop (at % 2 ^ 12) bytes i 0))

pub returns-in-None : goal.returns-in-None
returns-in-None c =
    bytes_at-of (flat_in c.args.self.now).memory c.args.at (length c.args.buf.now)
    c.clear.new.bytes c.clear.ensures.whole
    (λ i lt. no_page_bytes c.args.self.now.regions.items c.args.self.now.list.items c.args.at
    (length c.args.buf.now) i (omega arith) c.requires.within c.in-None.ensures lt
    ∙ sym (c.clear.ensures.zeros i))
