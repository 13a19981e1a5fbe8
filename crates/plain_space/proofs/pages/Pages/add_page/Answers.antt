use Rattle.std.proofs.Common.{refl, sym, ap, ◌∙◌, not}
use Rattle.std.proofs.lemmas.Bool.{cond-true}
use Rattle.plain_space.specs.Pages.{flat_of_pages}
use Rattle.plain_space.proofs.Flats.{added_flat, add_sound, add_keeps, add_made}
use Rattle.plain_space.proofs.pages.Pages.add_page.Goals as goal

pub returns-clause-sound : goal.returns-clause-sound
returns-clause-sound c =
    let ok = c.is_err.ensures.negation ∙ ap not c.if-is_err.false in
    let items = c.insert.ensures.items ∙ cond-true _ _ _ ok in
    record {
      ordered = rw items (add_sound c.args.self.now.regions.items c.args.self.now.list.items
          c.args.number c.place-i.result _ c.requires.sound.ordered c.place-i.ensures
          c.requires.none refl c.in_ok-zeros.ensures.whole
          (sym (rw c.deref.ensures.value at c.flags_in.ensures)));
    }

pub returns-clause-flat : goal.returns-clause-flat
returns-clause-flat c =
    let ok = c.is_err.ensures.negation ∙ ap not c.if-is_err.false in
    let items = c.insert.ensures.items ∙ cond-true _ _ _ ok in
    ap (flat_of_pages c.args.self.now.regions.items) items
    ∙ added_flat c.args.self.now.regions.items c.args.self.now.list.items c.args.number
    c.place-i.result _ c.place-i.ensures c.requires.none refl c.in_ok-zeros.ensures.zeros refl

pub returns-clause-made : goal.returns-clause-made
returns-clause-made c =
    let ok = c.is_err.ensures.negation ∙ ap not c.if-is_err.false in
    let items = c.insert.ensures.items ∙ cond-true _ _ _ ok in
    rw items (add_made c.args.self.now.regions.items c.args.self.now.list.items c.args.number
    c.place-i.result _ c.requires.sound.ordered c.place-i.ensures c.requires.none refl)

pub returns-clause-kept : goal.returns-clause-kept
returns-clause-kept c =
    let ok = c.is_err.ensures.negation ∙ ap not c.if-is_err.false in
    let items = c.insert.ensures.items ∙ cond-true _ _ _ ok in
    λ m has. rw items (add_keeps c.args.self.now.regions.items c.args.self.now.list.items
    c.args.number c.place-i.result _ c.requires.sound.ordered c.place-i.ensures c.requires.none
    refl m has)
