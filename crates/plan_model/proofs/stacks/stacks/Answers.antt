use Rattle.std.proofs.Common.{sym, ◌∙◌, ap, slice_get, option_and_then, get_or}
use Rattle.plan_model.specs.Stacks.{on_top}
use Rattle.plan_model.proofs.Stacking.{stack_made, one_more, below_read, below_within}
use Rattle.plan_model.proofs.stacks.stacks.Goals as goal

pub stack_on-requires : goal.stack_on-requires
stack_on-requires c =
    let layers = c.args.layers.now in
    let number = c.loop-number.number in
    let layer = c.index-layers-number.result in
    let read = below_read layers number layer c.loop-number-test.true in
    below_within (get_or layers number layer).below number c.deref.result.now
    (λ lower is. c.requires.lower number lower (read ∙ is))
    (rw c.deref.ensures.value c.loop-number.invariant.all)

pub loop-number-preserved : goal.loop-number-preserved
loop-number-preserved c =
    let layers = c.args.layers.now in
    let number = c.loop-number.number in
    let stacks = c.loop-number.stacks.items in
    let layer = c.index-layers-number.result in
    let read = below_read layers number layer c.loop-number-test.true in
    let made = stack_made layers number stacks c.requires.lower c.loop-number.invariant in
    let is = c.in_ok-stack.ensures
    ∙ ap (λ done. on_top (option_and_then (slice_get done) (get_or layers number layer).below)
    number) c.deref.ensures.value
    ∙ ap (λ below. on_top (option_and_then (slice_get stacks) below) number) (sym read) ∙ made in
    rw c.in_ok-push.ensures.items
    (one_more layers number stacks _ c.loop-number.invariant is)
