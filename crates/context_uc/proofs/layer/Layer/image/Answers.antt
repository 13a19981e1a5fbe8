use Rattle.std.proofs.Common.{◌≡◌, None, IfSome, Option, refl, subst, sym, ℕ}
use Rattle.image_model.specs.Layout.{Layout}
use Rattle.machine_model.specs.Loaded.{loaded}
use Rattle.space_api.specs.Flat.{flat_of, machine_of}
use Rattle.context_uc.specs.Views.{silent}
use Rattle.context_uc.proofs.Images.{image_is_kept, start_found, memory_found}
use Rattle.context_uc.proofs.layer.Layer.image.Goals as goal

-- src/layer.rt:50:5
pub invariant_of-result : goal.invariant_of-result
invariant_of-result g c =
    let found = start_found _ _ _ _ _ c.starts.ensures c.from.ensures c.requires.within
    c.index-starts-from.is in
    image_is_kept c.args.plan.now c.args.start c.index-starts-from.result c.first_hart-hart.result
    (g.Z.FrozenMemory.flat c.args.frozen) found
    (memory_found _ _ _ found c.requires.memory) (c.first_hart-hart.ensures silent)

-- src/layer.rt:50:5
pub returns : goal.returns
returns g c =
    let found = start_found _ _ _ _ _ c.starts.ensures c.from.ensures c.requires.within
    c.index-starts-from.is in
    subst (λ (o : Option Layout). IfSome o (λ layout. (c.args.plan.now ≡ c.args.plan.now)
    × (◌≡◌ {A = Option ℕ} None None) × (c.args.start ≡ c.args.start)
    × (machine_of c.first_hart-hart.result (flat_of layout) silent ≡ loaded layout)
    × (c.args.frozen ≡ c.args.frozen))) (sym found)
    (refl, refl, refl, c.first_hart-hart.ensures silent, refl)
