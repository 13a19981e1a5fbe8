use Rattle.std.proofs.Common.{◌+◌, ◌<◌, ◌≤◌, length, sym, ap, subst, ◌∙◌}
use Rattle.frame_model.specs.declared.view.View.{View}
use Rattle.frame_model.specs.Views.{Has, reach}
use Rattle.frame_words.specs.Steps.{kept_of, given_of, IsThere, joined}
use Rattle.frame_rounds.specs.Rows.{third}
use Rattle.frame_rounds.proofs.Turns as turns
use Rattle.frame_rounds.proofs.steps.cut_round.Goals as goal

pub split-other-requires-clause-there : goal.split-other-requires-clause-there
split-other-requires-clause-there c =
    subst (λ (v : View). IsThere third v) (sym c.requires.view) turns.cut_third

pub split-other-requires-clause-rest : goal.split-other-requires-clause-rest
split-other-requires-clause-rest c =
    subst (λ (v : View). 5 < v.stake) (sym c.requires.view) turns.cut_rest

pub peek_word-seen-requires-clause-reached : goal.peek_word-seen-requires-clause-reached
peek_word-seen-requires-clause-reached c =
    let g = c.split-other.ensures.given ∙ ap (λ (v : View). given_of third v) c.requires.view in
    subst (λ (v : View). Has 3 (reach v)) (sym g) turns.given_reaches

pub join-requires-clause-few : goal.join-requires-clause-few
join-requires-clause-few c =
    let k = c.split-other.ensures.kept ∙ ap (λ (v : View). kept_of third v) c.requires.view in
    let g = c.peek_word-seen.ensures.view ∙ c.split-other.ensures.given
    ∙ ap (λ (v : View). given_of third v) c.requires.view in
    subst (λ (p : View × View). length p.0.references + length p.1.references ≤ 16)
    (λ i. (sym k i, sym g i)) turns.cut_few

pub returns-clause-same : goal.returns-clause-same
returns-clause-same c =
    let k = c.split-other.ensures.kept ∙ ap (λ (v : View). kept_of third v) c.requires.view in
    let g = c.peek_word-seen.ensures.view ∙ c.split-other.ensures.given
    ∙ ap (λ (v : View). given_of third v) c.requires.view in
    c.join.ensures.view ∙ (λ i. joined (k i) (g i)) ∙ turns.cut_again
