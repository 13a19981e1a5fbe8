use Rattle.std.proofs.Common.{refl}
use Rattle.service_runs.proofs.Onward.{is_above, stands_on}
use Rattle.service_runs.proofs.setting_out.set_out_context.Goals as goal

pub next_layer-requires-clause-still : goal.next_layer-requires-clause-still
next_layer-requires-clause-still g c = c.requires.hosts.in_service.is_usable.still

pub next_layer-requires-clause-on_stack : goal.next_layer-requires-clause-on_stack
next_layer-requires-clause-on_stack g c = stands_on c.args.context
    c.requires.hosts.in_service

pub set_out_layer-requires : goal.set_out_layer-requires
set_out_layer-requires g c κs = (
  c.type_bounds.send-T-Space,
  (
    c.type_bounds.send-T-Frozen,
    (
      c.type_bounds.send-T-Shelf,
      (
        c.type_bounds.send-T-Spares,
        (
          (refl, tt),
          (
            c.requires.copied,
            (
              c.requires.root,
              (
                c.requires.known,
                (
                  c.requires.hosts,
                  (
                    is_above c.args.context c.requires.hosts.in_service c.in-Some.run'
                        c.in-Some.ensures.next,
                    c.in-Some.ensures.on_stack,
                  ),
                ),
              ),
            ),
          ),
        ),
      ),
    ),
  ),
)

pub set_out_request-requires : goal.set_out_request-requires
set_out_request-requires g c κs = (
  c.type_bounds.send-T-Space,
  (
    c.type_bounds.send-T-Frozen,
    (
      c.type_bounds.send-T-Shelf,
      (
        c.type_bounds.send-T-Spares,
        (
          (refl, tt),
          (
            c.requires.copied,
            (
              c.requires.root,
              (
                c.requires.known,
                (
                  c.requires.hosts,
                  c.in-None.ensures.next,
                ),
              ),
            ),
          ),
        ),
      ),
    ),
  ),
)
