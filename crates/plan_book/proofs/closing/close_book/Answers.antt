use Rattle.plan_book.proofs.Apart.{contexts_loose, images_loose, layers_loose, same_stakes}
use Rattle.plan_book.proofs.closing.close_book.Goals as goal

pub returns-clause-loose : goal.returns-clause-loose
returns-clause-loose g c = record {
  contexts = contexts_loose g.C.Parked.parked g.C.Held.pin g.G.Grounds.is_context _ _ _ _
      c.is_sound.ensures.held.contexts c.close.ensures.contexts;
  layers = layers_loose g.L.Kept.kept g.L.Held.pin g.G.Grounds.is_layer _ _
      c.is_sound.ensures.held.layers c.close.ensures.layers;
  images = images_loose g.L.Kept.kept g.L.Held.pin g.G.Grounds.is_layer _ _
      c.is_sound.ensures.held.images c.close.ensures.images;
}

pub returns-clause-stakes : goal.returns-clause-stakes
returns-clause-stakes g c = same_stakes g.C.Held.stake g.L.Held.stake c.args.book.idle
    c.args.book.kept c.args.book.images _ _ _ c.close.ensures.contexts c.close.ensures.layers
    c.close.ensures.images

pub returns-clause-started : goal.returns-clause-started
returns-clause-started g c = c.close.ensures.started
