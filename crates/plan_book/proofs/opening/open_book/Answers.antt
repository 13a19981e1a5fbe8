use Rattle.std.proofs.Common.{refl, ap, sym, ◌∙◌}
use Rattle.journal_model.specs.Extents.{Extents}
use Rattle.space_api.specs.Holding.{Stocked}
use Rattle.plan_book.proofs.Openable.{images_stand, may_open}
use Rattle.plan_book.proofs.opening.open_book.Goals as goal

pub book_of-requires : goal.book_of-requires
book_of-requires g c κs = (
  c.type_bounds.send-T-Space,
  (
    c.type_bounds.send-T-Frozen,
    (
      c.type_bounds.send-T-Shelf,
      (
        c.type_bounds.send-T-Spares,
        (
          (refl, tt),
          (
            may_open c.args.plan.now c.args.requests _ _ c.is_sound.ensures
                c.stacks_have_no_layer_twice.ensures c.in_ok-sizes.ensures.starts c.requires.few
                c.in_ok-images.ensures.images.count_is c.in_ok-sizes.ensures.sizes,
            (
              ap (λ (x : Extents). x.root) c.in_ok-sizes.ensures.sizes,
              (
                ap (λ (s : Stocked). s.free) c.in_ok-images.ensures.shelf
                    ∙ (c.requires.free
                    ∙ sym (ap (λ (x : Extents). x.frames) c.in_ok-sizes.ensures.sizes)),
                images_stand g.T.Frozen.FrozenMemory.flat g.T.Frozen.FrozenMemory.image
                    g.T.Frozen.Held.pin g.T.Frozen.Held.stake c.args.plan.now _ _ _
                    c.in_ok-images.images.items c.requires.grounds c.in_ok-images.ensures.images,
              ),
            ),
          ),
        ),
      ),
    ),
  ),
)
