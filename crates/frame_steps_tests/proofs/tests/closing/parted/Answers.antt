use Rattle.std.proofs.Common.{sym, ap, subst, ◌∙◌}
use Rattle.frame_model.specs.declared.view.View.{View}
use Rattle.frame_words.specs.Steps.{kept_of, given_of, IsThere}
use Rattle.frame_steps_tests.specs.Parted.{last_of, IsParted}
use Rattle.frame_steps_tests.proofs.Closing as closing
use Rattle.frame_steps_tests.proofs.tests.closing.parted.Goals as goal

pub split-requires-clause-there : goal.split-requires-clause-there
split-requires-clause-there c =
    subst (λ (v : View). IsThere (last_of c.args.frames) v) (sym c.requires.whole)
    (closing.last_there c.args.frames c.requires.some)

pub returns-clause-parted : goal.returns-clause-parted
returns-clause-parted c =
    let n = c.args.frames in
    let k = c.split.ensures.kept ∙ ap (λ (v : View). kept_of (last_of n) v) c.requires.whole in
    let g = c.split.ensures.given ∙ ap (λ (v : View). given_of (last_of n) v) c.requires.whole in
    subst (λ (p : View × View). IsParted p.0 p.1) (λ i. (sym k i, sym g i))
    (closing.is_parted n)
