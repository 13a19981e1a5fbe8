use Rattle.std.proofs.Common.{◌<◌, length, ◌∷◌, inl, refl, sym, ap, subst, ◌∙◌, arith}
use Rattle.frame_model.specs.declared.view.View.{View}
use Rattle.frame_model.specs.Views.{Has, reach}
use Rattle.frame_steps.specs.Counted.{gained, lost, IsNamedTwice}
use Rattle.frame_steps_tests.specs.Mids.{IsShared, HasReferences}
use Rattle.frame_views.proofs.Giving.{own_reached, referred_reached}
use Rattle.frame_steps_tests.proofs.Visits.{root_own, root_gained, tree_given_up, root_twice, no_reference, seal_shared, seal_one, seal_stake}
use Rattle.frame_steps_tests.proofs.tests.threads.seal.Goals as goal

pub gain-requires-clause-reached : goal.gain-requires-clause-reached
gain-requires-clause-reached c = own_reached c.args.h.now.seat.me.0.view 0 (root_own c.args.h.now.seat.me.0.view c.requires.placed)

pub gain-requires-2-clause-reached : goal.gain-requires-2-clause-reached
gain-requires-2-clause-reached c =
    let v = c.args.h.now.seat.me.0.view in
    let e = c.gain.ensures.view ∙ root_gained v c.requires.placed in
    subst (λ (u : View). Has 0 (reach u)) (sym e) (referred_reached (record v { references = 0 ∷ v.references }) 0 (inl refl))

pub gain-requires-2-clause-few : goal.gain-requires-2-clause-few
gain-requires-2-clause-few c =
    let v = c.args.h.now.seat.me.0.view in
    let e = c.gain.ensures.view ∙ root_gained v c.requires.placed in
    let n = no_reference v c.requires.placed in
    subst (λ (u : View). length u.references < 16) (sym e) (omega arith)

pub lose-requires-clause-referred : goal.lose-requires-clause-referred
lose-requires-clause-referred c =
    let v = c.args.h.now.seat.me.0.view in
    let e = c.gain-2.ensures.view ∙ ap (λ (u : View). gained u 0) (c.gain.ensures.view ∙ root_gained v c.requires.placed) ∙ tree_given_up v c.requires.placed in
    subst (λ (u : View). Has 0 u.references) (sym e) (inl refl)

pub returns-clause-shared : goal.returns-clause-shared
returns-clause-shared c =
    let v = c.args.h.now.seat.me.0.view in
    let e = c.gain-2.ensures.view ∙ ap (λ (u : View). gained u 0) (c.gain.ensures.view ∙ root_gained v c.requires.placed) ∙ tree_given_up v c.requires.placed in
    let o = c.lose.ensures.shared (subst (λ (u : View). IsNamedTwice u 0) (sym e) (root_twice v c.requires.placed)) in
    subst IsShared (sym (c.lose.ensures.view ∙ (λ k. lost (o k) (e k) 0))) (seal_shared v c.requires.placed)

pub returns-clause-one : goal.returns-clause-one
returns-clause-one c =
    let v = c.args.h.now.seat.me.0.view in
    let e = c.gain-2.ensures.view ∙ ap (λ (u : View). gained u 0) (c.gain.ensures.view ∙ root_gained v c.requires.placed) ∙ tree_given_up v c.requires.placed in
    let o = c.lose.ensures.shared (subst (λ (u : View). IsNamedTwice u 0) (sym e) (root_twice v c.requires.placed)) in
    subst (HasReferences 1) (sym (c.lose.ensures.view ∙ (λ k. lost (o k) (e k) 0))) (seal_one v c.requires.placed)

pub returns-clause-stake : goal.returns-clause-stake
returns-clause-stake c =
    let v = c.args.h.now.seat.me.0.view in
    let e = c.gain-2.ensures.view ∙ ap (λ (u : View). gained u 0) (c.gain.ensures.view ∙ root_gained v c.requires.placed) ∙ tree_given_up v c.requires.placed in
    let o = c.lose.ensures.shared (subst (λ (u : View). IsNamedTwice u 0) (sym e) (root_twice v c.requires.placed)) in
    ap (λ (u : View). u.stake) (c.lose.ensures.view ∙ (λ k. lost (o k) (e k) 0)) ∙ seal_stake v c.requires.placed
