use Rattle.std.proofs.Common.{◌+◌, ◌≤◌, length, sym, ap, subst, ◌∙◌}
use Rattle.frame_model.specs.declared.view.View.{View}
use Rattle.frame_model.specs.Views.{OwnsDataAlone}
use Rattle.frame_words.specs.Steps.{joined}
use Rattle.frame_words.proofs.FourFrames as four
use Rattle.frame_words.proofs.tests.closed.Goals as goal

pub join-requires-clause-few : goal.join-requires-clause-few
join-requires-clause-few c =
    subst (λ (p : View × View). length p.0.references + length p.1.references ≤ 16) (λ k. (sym c.requires.kept k, sym c.requires.written k)) four.few

pub tell_whole-requires-clause-alone : goal.tell_whole-requires-clause-alone
tell_whole-requires-clause-alone c =
    subst OwnsDataAlone (sym (c.join.ensures.view
    ∙ (λ k. joined (c.requires.kept k) (c.requires.written k)))) four.alone

pub tell_whole-requires-clause-whole : goal.tell_whole-requires-clause-whole
tell_whole-requires-clause-whole c =
    ap (λ (v : View). v.stake)
    (c.join.ensures.view ∙ (λ k. joined (c.requires.kept k) (c.requires.written k)))
    ∙ four.whole
