use Rattle.std.proofs.Common.{refl}
use Rattle.service_turns.proofs.turning.answer_request.Goals as goal

pub end_request-requires : goal.end_request-requires
end_request-requires g c κs = (
  c.type_bounds.send-T-Space,
  (
    c.type_bounds.send-T-Frozen,
    (
      c.type_bounds.send-T-Shelf,
      (
        c.type_bounds.send-T-Spares,
        ((refl, tt), (c.requires.copied, c.requires.may)),
      ),
    ),
  ),
)
