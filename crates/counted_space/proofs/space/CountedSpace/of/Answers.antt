use Rattle.std.proofs.Common.{ap, ◌∙◌}
use Rattle.counted_space.proofs.Spaces.{start-below}
use Rattle.counted_space.proofs.space.CountedSpace.of.Goals as goal

pub invariant_of-result : goal.invariant_of-result
invariant_of-result c =
    record {
      sound = record {
        few = c.requires;
        below = λ page le.
            ap (λ f. (f.permissions page).writable) c.in_ok-plain.ensures.flat
            ∙ start-below 0 c.args.start.now.regions page c.keeps_layout.ensures.regions le;
        finished = c.in_ok-plain.ensures.finished;
      };
    }
