use Rattle.std.proofs.Common.{refl}
use Rattle.deployer.proofs.Going.{ok_then}
use Rattle.deployer.proofs.Handed.{parked_same}
use Rattle.service_ends.proofs.Closes.{closes_parked}
use Rattle.service_ends.proofs.Parkable.{parkable, used_of}
use Rattle.service_ends.proofs.answering.park_request.Goals as goal

pub park-requires : goal.park-requires
park-requires g c κs = (
  c.type_bounds.send-T-Space,
  (
    c.type_bounds.send-T-Frozen,
    (
      c.type_bounds.send-T-Shelf,
      (
        c.type_bounds.send-T-Spares,
        (
          (refl, tt),
          (
            c.requires.copied,
            (
              c.requires.sizes.root,
              (
                c.requires.grounds,
                (
                  c.requires.idle.of_plan,
                  (
                    parkable _ c.args.answer.now c.args.context c.args.book.now
                        c.requires.sizes c.requires.idle c.requires.parked,
                    c.requires.idle.stripped_few,
                  ),
                ),
              ),
            ),
          ),
        ),
      ),
    ),
  ),
)

pub returns-clause-closes : goal.returns-clause-closes
returns-clause-closes g c = ok_then c.park.result _ _ (λ w due. closes_parked c.args.context.plan
    c.args.answer.now _ c.args.book.now c.park.new.book c.is_sound.ensures.held.log.reached due
    c.requires.parked (parked_same c.args.answer.now.i _ c.args.book.now c.park.new.book _ _ _ _
    0 c.requires.idle.id_is (used_of _ c.args.answer.now c.args.context c.args.book.now
    c.requires.idle) refl w)) c.park.ensures.went
