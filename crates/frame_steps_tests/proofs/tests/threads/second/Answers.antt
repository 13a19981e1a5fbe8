use Rattle.std.proofs.Common.{◌<◌, ◌-◌, [], ◌∷◌, inl, refl, sym, ap, subst, ◌∙◌, arith}
use Rattle.frame_model.specs.declared.view.View.{View}
use Rattle.frame_words.specs.declared.part.Part.TheVariants.{Root as RootPart}
use Rattle.frame_words.specs.Steps.{kept_of, given_of, IsThere}
use Rattle.frame_steps_tests.specs.Mids.{IsShared, HasReferences}
use Rattle.frame_views.proofs.Giving.{referred_reached}
use Rattle.frame_steps_tests.proofs.Visits.{part_shared, shared_gained, root_part_there, root_kept}
use Rattle.frame_steps_tests.proofs.Visits.{root_given}
use Rattle.frame_steps_tests.proofs.tests.threads.second.Goals as goal

pub gain-requires-clause-reached : goal.gain-requires-clause-reached
gain-requires-clause-reached c = referred_reached c.args.h.now.seat.me.0.view 0 c.requires.shared.refers

pub split-requires-clause-there : goal.split-requires-clause-there
split-requires-clause-there c =
    let v = c.args.h.now.seat.me.0.view in
    let e = c.gain.ensures.view ∙ shared_gained v c.requires.shared 0 in
    subst (λ (u : View). IsThere (RootPart (record { 0 = 0 }) 7) u) (sym e) (root_part_there v c.requires.shared (record { 0 = 0 }) 7 refl)

pub split-requires-clause-rest : goal.split-requires-clause-rest
split-requires-clause-rest c =
    let v = c.args.h.now.seat.me.0.view in
    let e = c.gain.ensures.view ∙ shared_gained v c.requires.shared 0 in
    let s = c.requires.stake in
    subst (λ (u : View). 7 < u.stake) (sym e) (omega arith)

pub returns-clause-shared : goal.returns-clause-shared
returns-clause-shared c =
    let v = c.args.h.now.seat.me.0.view in
    let e = c.gain.ensures.view ∙ shared_gained v c.requires.shared 0 in
    let k = c.split.ensures.kept ∙ ap (λ (u : View). kept_of (RootPart (record { 0 = 0 }) 7) u) e ∙ root_kept v c.requires.shared (record { 0 = 0 }) 7 refl in
    subst IsShared (sym k) (part_shared v c.requires.shared v.owned v.references (v.stake - 7) c.requires.shared.nothing c.requires.shared.refers)

pub returns-clause-one : goal.returns-clause-one
returns-clause-one c =
    let v = c.args.h.now.seat.me.0.view in
    let e = c.gain.ensures.view ∙ shared_gained v c.requires.shared 0 in
    let k = c.split.ensures.kept ∙ ap (λ (u : View). kept_of (RootPart (record { 0 = 0 }) 7) u) e ∙ root_kept v c.requires.shared (record { 0 = 0 }) 7 refl in
    subst (HasReferences 1) (sym k) c.requires.one

pub returns-clause-new_shared : goal.returns-clause-new_shared
returns-clause-new_shared c =
    let v = c.args.h.now.seat.me.0.view in
    let e = c.gain.ensures.view ∙ shared_gained v c.requires.shared 0 in
    let k = c.split.ensures.given ∙ ap (λ (u : View). given_of (RootPart (record { 0 = 0 }) 7) u) e ∙ root_given v c.requires.shared (record { 0 = 0 }) 7 refl in
    subst IsShared (sym k) (part_shared v c.requires.shared [] (0 ∷ []) 7 (λ f h. h) (inl refl))

pub returns-clause-new_one : goal.returns-clause-new_one
returns-clause-new_one c =
    let v = c.args.h.now.seat.me.0.view in
    let e = c.gain.ensures.view ∙ shared_gained v c.requires.shared 0 in
    let k = c.split.ensures.given ∙ ap (λ (u : View). given_of (RootPart (record { 0 = 0 }) 7) u) e ∙ root_given v c.requires.shared (record { 0 = 0 }) 7 refl in
    subst (HasReferences 1) (sym k) refl
