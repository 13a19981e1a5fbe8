use Rattle.std.proofs.Common.{ℕ, ◌*◌, sym, ap, ◌∙◌}
use Rattle.frame_model.specs.declared.view.View.{View}
use Rattle.frame_steps.specs.declared.lost.Lost.{Lost}
use Rattle.frame_steps.specs.Counted.{lost, lost_at}
use Rattle.frame_steps.proofs.Calls.{loses}
use Rattle.frame_steps.proofs.Keeps.{lost_frames, owned_is_one, one_is_owned, others_are_shared}
use Rattle.frame_steps.proofs.counts.lose.Goals as goal

pub fetch_sub-found-requires : goal.fetch_sub-found-requires
fetch_sub-found-requires c =
    let h = c.args.h.now in
    let p = loses _ _ _ _ h.seat.me h.sound (sym (ap (λ z. z.words) c.requires.of) ∙ h.sized) _ c.args.f.0 c.meta_place.ensures c.requires.referred in
    (c.requires.of, p.0, p.1)

pub invariant_of-h : goal.invariant_of-h
invariant_of-h c =
    let h = c.args.h.now in
    let e = c.fetch_sub-found.ensures in
    let v = e.2.view c.args.f.0 c.meta_place.ensures in
    record {
      sound = e.2.sound;
      sized = ap (λ z. z.words) e.0 ∙ h.sized ∙ sym (ap (λ (k : ℕ). k * 513) (ap (λ (u : View). u.frames) v ∙ lost_frames (lost_at c.fetch_sub-found.result) h.seat.me.0.view c.args.f.0));
      bare = e.2.slots ∙ h.bare;
    }

pub returns-clause-view : goal.returns-clause-view
returns-clause-view c =
    c.fetch_sub-found.ensures.2.view c.args.f.0 c.meta_place.ensures
    ∙ ap (λ (o : Lost). lost o c.args.h.now.seat.me.0.view c.args.f.0) (sym c.lost_of.ensures)

pub returns-clause-own : goal.returns-clause-own
returns-clause-own c = λ h. c.lost_of.ensures ∙ one_is_owned c.fetch_sub-found.result (c.fetch_sub-found.ensures.2.own c.args.f.0 c.meta_place.ensures h)

pub returns-clause-loose : goal.returns-clause-loose
returns-clause-loose c = λ e. c.fetch_sub-found.ensures.2.loose c.args.f.0 c.meta_place.ensures (owned_is_one c.fetch_sub-found.result (sym c.lost_of.ensures ∙ e))

pub returns-clause-shared : goal.returns-clause-shared
returns-clause-shared c = λ d. c.lost_of.ensures ∙ others_are_shared c.fetch_sub-found.result (c.fetch_sub-found.ensures.2.shared c.args.f.0 c.meta_place.ensures d)
