use Rattle.std.proofs.Common.{sym, ap, subst, ◌∙◌}
use Rattle.frame_model.specs.declared.view.View.{View}
use Rattle.frame_words.specs.Rows.{third}
use Rattle.frame_words.specs.Steps.{kept_of, given_of, IsThere}
use Rattle.frame_words.proofs.FourFrames as four
use Rattle.frame_words.proofs.tests.parted.Goals as goal

pub split-requires-clause-there : goal.split-requires-clause-there
split-requires-clause-there c = subst (λ (v : View). IsThere third v) (sym c.requires.whole) four.third_there

pub returns-clause-kept : goal.returns-clause-kept
returns-clause-kept c = c.split.ensures.kept ∙ ap (λ (v : View). kept_of third v) c.requires.whole

pub returns-clause-given : goal.returns-clause-given
returns-clause-given c = c.split.ensures.given ∙ ap (λ (v : View). given_of third v) c.requires.whole
