use Rattle.std.proofs.Common.{◌<◌, ℕ, ap, ◌∙◌, sym, subst, get_or, ◌-◌}
use Rattle.journal_model.specs.Extents.{Extents}
use Rattle.book_model.proofs.Requested.{requested, stands_within, function_within, starts_at}
use Rattle.book_core.proofs.deploying.image_of.Goals as goal

pub overflow_sub-function : goal.overflow_sub-function
overflow_sub-function c = (requested _ _ _ _ c.args.i c.is_sound.ensures.logged
    c.requires.waiting).some

pub bounds-started-i : goal.bounds-started-i
bounds-started-i c = stands_within _ _ _ c.args.i (requested _ _ _ _ c.args.i
    c.is_sound.ensures.logged c.requires.waiting) _ c.started.ensures

pub bounds-started-i-2 : goal.bounds-started-i-2
bounds-started-i-2 c = stands_within _ _ _ c.args.i (requested _ _ _ _ c.args.i
    c.is_sound.ensures.logged c.requires.waiting) _ c.started.ensures

pub index-requires : goal.index-requires
index-requires c = subst (λ (n : ℕ). (get_or c.started.result.now (c.args.i - 1)
    c.index-started-i.result).function < n) (sym c.behind-log.inside.stacks.ok.0)
    (function_within _ _ _ c.args.i (requested _ _ _ _ c.args.i
    c.is_sound.ensures.logged c.requires.waiting) _ c.index-started-i.result _
    c.started.ensures
    (ap (λ (x : Extents). x.stacks) (c.behind-log.view_is ∙ c.sizes.ensures)))

pub returns : goal.returns
returns c = starts_at _ _ _ c.args.i (requested _ _ _ _ c.args.i
    c.is_sound.ensures.logged c.requires.waiting) _ c.index-started-i.result _ _ _
    c.started.ensures
    (ap (λ (x : Extents). x.stacks) (c.behind-log.view_is ∙ c.sizes.ensures))
    c.behind-sizes.view_is c.index.ensures
