-- An image's machine stands at its place.
use Rattle.std.proofs.Common.{◌≡◌, ℕ, ◌<◌, true, List, length, Option, None, Some, IfSome}
use Rattle.std.proofs.Common.{slice_get}
use Rattle.std.proofs.Common.{refl, ap, sym, ◌∙◌, subst, IsSomeAnd, slice_index_or}
use Rattle.std.proofs.lemmas.Option.{slice_get_read}
use Rattle.image_model.specs.Layout.{Layout}
use Rattle.machine_model.specs.Loaded.{loaded}
use Rattle.machine_model.specs.declared.hart.Hart.{Hart}
use Rattle.layer_model.specs.Layers.{IsPlace}
use Rattle.plan_model.specs.Outline.{Outline}
use Rattle.space_api.specs.Flat.{Flat, flat_of, machine_of}
use Rattle.space_api.specs.Stores.{Frozen, frozen, frozen_of}
use Rattle.context_uc.specs.Views.{silent}

place_by : (found : Option Layout) (layout : Layout) (hart : Hart) (flat : Flat)
    → found ≡ Some layout → flat ≡ flat_of layout
    → machine_of hart (flat_of layout) silent ≡ loaded layout
    → IsSomeAnd found (λ start. loaded start ≡ machine_of hart (frozen flat) silent)
place_by found layout hart flat found_is flat_is begins =
    subst (λ f. IsSomeAnd f (λ start. loaded start ≡ machine_of hart (frozen flat) silent))
    (sym found_is) (sym begins ∙ ap (λ f. machine_of hart (frozen f) silent) (sym flat_is))

pub image_is_kept : (plan : Outline) (start : ℕ) (layout : Layout) (hart : Hart) (flat : Flat)
    → slice_get plan.starts start ≡ Some layout → flat ≡ flat_of layout
    → machine_of hart (flat_of layout) silent ≡ loaded layout
    → IsPlace plan start None (machine_of hart (frozen flat) silent)
image_is_kept plan start layout hart flat found_is flat_is begins =
    place_by (slice_get plan.starts start) layout hart flat found_is flat_is begins

-- ---- what the code reads

pub start_found : (xs starts : List Layout) (i start : ℕ) (read : Layout) → xs ≡ starts
    → i ≡ start → start < length starts → read ≡ slice_index_or xs i read
    → slice_get starts start ≡ Some read
start_found xs starts i start read xs_are i_is within read_is =
    slice_get_read starts (length starts) start read refl within
    (read_is ∙ rw (xs_are, i_is) refl)

pub memory_found : (found : Option Layout) (read : Layout) (told : Frozen) → found ≡ Some read
    → IfSome found (λ layout. told ≡ frozen_of (flat_of layout) true) → told.flat ≡ flat_of read
memory_found found read told found_is memory =
    ap (λ (f : Frozen). f.flat)
    (subst (λ o. IfSome o (λ layout. told ≡ frozen_of (flat_of layout) true)) found_is memory)
