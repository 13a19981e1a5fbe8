use Rattle.std.proofs.lemmas.List.{length-replicate}
use Rattle.std.proofs.Common.{List, length, ℕ, ◌*◌, sym, ap, subst, ◌∙◌}
use Rattle.frame_model.specs.declared.view.View.{View}
use Rattle.frame_model.specs.Views.{IsSound}
use Rattle.frame_words.proofs.Calls.{opens, first_is_sound}
use Rattle.frame_words.proofs.table.FrameTable.open.Goals as goal

pub of_words-requires : goal.of_words-requires
of_words-requires c = opens c.args.frames c.deref.result.now (c.deref.ensures.value ∙ c.in_ok-zeros.ensures) c.requires.most

pub invariant_of-result-2 : goal.invariant_of-result-2
invariant_of-result-2 c =
    let e = c.in_ok-table.ensures in
    let v = ap (λ m. m.0.view) e.4 in
    record {
      sound = subst IsSound (sym v) (first_is_sound c.args.frames c.requires.most);
      sized = ap (λ z. z.words) e.2 ∙ e.0 ∙ ap (λ (xs : List ℕ). length xs) (c.deref.ensures.value ∙ c.in_ok-zeros.ensures) ∙ length-replicate {A = ℕ} (c.args.frames * 513) 0 ∙ sym (ap (λ (u : View). u.frames * 513) v);
      bare = ap (λ m. m.1) e.4;
    }
