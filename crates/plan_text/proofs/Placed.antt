-- Layers and functions on what they stand on are those of a plan.
use Rattle.std.proofs.Common.{◌≡◌, ℕ, zero, suc, ◌+◌, ◌<◌, ◌≤◌, true, false}
use Rattle.std.proofs.Common.{List, [], ◌∷◌, ◌++◌, length, map, refl, ap, sym, ◌∙◌, arith, inl, inr}
use Rattle.std.proofs.Common.{Option, Some, None, IfSome, IsSomeAnd, slice_get, option_map}
use Rattle.std.proofs.Common.{length-append, append_assoc}
use Rattle.std.proofs.lemmas.Bool.{cases_Bool, cases_lt}
use Rattle.std.proofs.lemmas.Option.{same_Some, none-some, slice_get_within, option_and_then_some}
use Rattle.std.specs.List.{AllByRecursion}
use Rattle.std.specs.Str.{bytes_eq}
use Rattle.plan_model.specs.Outline.{AreLayers, AreFunctions}
use Rattle.plan_model.specs.declared.function.PlanFunction.{PlanFunction}
use Rattle.plan_model.specs.declared.layer.PlanLayer.{PlanLayer}
use Rattle.plan_tables.specs.Layers.{IsSound}
use Rattle.plan_text.specs.Names.{number_of}
use Rattle.plan_text.specs.Placing.{placed_function, placed_functions, with_function, layer_names}
use Rattle.plan_text.specs.Placing.{footing, lower_footing, placed_layer, placed_layers, layer_on}
use Rattle.std.proofs.Common.{◌≢◌, Result, Ok, Err, IfOk, IfErr}
use Rattle.plan_tables.specs.Faults.{Tells}
use Rattle.plan_text.specs.Placing.{images_of, image_names, are_well_named, names_fault}
use Rattle.plan_text.specs.Placing.{below_fault}
use Rattle.plan_tables.specs.declared.fault.PlanFault.{PlanFault}
use Rattle.plan_tables.specs.declared.fault.PlanFault.TheVariants as faults
use Rattle.plan_tables.proofs.Prepending.{prepended, prepended_all}
use Rattle.plan_tables.specs.declared.function_table.FunctionText.{FunctionText}
use Rattle.plan_tables.specs.declared.layer_table.Base.{Base}
use Rattle.plan_tables.specs.declared.layer_table.Base.TheVariants.{Image, Below}
use Rattle.plan_tables.specs.declared.layer_table.LayerText.{LayerText}

-- ---- numbers of names

pub number_below : (n : ℕ) (name : List ℕ) (names : List (List ℕ)) (k : ℕ)
    → number_of n name names ≡ Some k → k < n + length names
number_below n name [] k is = absurd (none-some k is)
number_below n name (other ∷ names) k is =
    elim (cases_Bool (bytes_eq other name)) [
      | inl same ↦ let here = same_Some n k (rw same at is) in omega arith
      | inr differs ↦
          let more = number_below (n + 1) name names k (rw differs at is) in omega arith
    ]

-- ---- functions

with_function_some : (f : Option PlanFunction) (rest : Option (List PlanFunction))
    (all : List PlanFunction) → with_function f rest ≡ Some all
    → (g : PlanFunction) × (gs : List PlanFunction) × (f ≡ Some g) × (rest ≡ Some gs)
    × (g ∷ gs ≡ all)
with_function_some None rest all is = absurd (none-some all is)
with_function_some (Some f) None all is = absurd (none-some all is)
with_function_some (Some f) (Some rest) all is = (f, rest, refl, refl, same_Some (f ∷ rest) all is)

function_number : (layers : List LayerText) (f : FunctionText) (g : PlanFunction)
    (number : Option ℕ) → ((k : ℕ) → number ≡ Some k → k < length layers)
    → option_map (λ k. record { name = f.name; layer = k }) number ≡ Some g
    → g.layer < length layers
function_number layers f g None below is = absurd (none-some g is)
function_number layers f g (Some k) below is = rw (← same_Some _ g is) (below k refl)

names_length : (layers : List LayerText) → length (layer_names layers) ≡ length layers
names_length [] = refl
names_length (l ∷ ls) = ap suc (names_length ls)

function_below : (layers : List LayerText) (f : FunctionText) (g : PlanFunction)
    → placed_function layers f ≡ Some g → g.layer < length layers
function_below layers f g is = function_number layers f g (number_of 0 f.layer (layer_names layers))
    (λ k found.
    let below = number_below 0 f.layer (layer_names layers) k found in
    omega (arith, names_length layers)) is

next_functions : (g : PlanFunction) (gs : List PlanFunction) (n : ℕ) → g.layer < n
    → AreFunctions gs n → AreFunctions (g ∷ gs) n
next_functions g gs n here more zero f is = rw (← same_Some g f is) here
next_functions g gs n here more (suc k) f is = more k f is

pub functions_placed : (layers : List LayerText) (fs : List FunctionText)
    (all : List PlanFunction) → placed_functions layers fs ≡ Some all
    → AreFunctions all (length layers) × (length all ≡ length fs)
unfolding placed_functions
functions_placed layers [] all is =
    rw (← same_Some [] all is) ((λ k f found. absurd (none-some f found)), refl)
functions_placed layers (f ∷ fs) all is =
    let (g, gs, here, more, both) = with_function_some _ _ all is in
    let (are, count) = functions_placed layers fs gs more in
    rw (← both) (
      next_functions g gs (length layers) (function_below layers f g here) are,
      ap suc count,
    )

-- ---- layers

get_front : {X : Type 0} (xs : List X) (y : X) (i : ℕ) → i < length xs
    → slice_get (xs ++ y ∷ []) i ≡ slice_get xs i
get_front [] y i h = absurd (omega arith)
get_front (x ∷ xs) y zero h = refl
get_front (x ∷ xs) y (suc i) h = get_front xs y i (omega arith)

get_last : {X : Type 0} (xs : List X) (y z : X) (i : ℕ) → length xs ≤ i
    → slice_get (xs ++ y ∷ []) i ≡ Some z → (i ≡ length xs) × (y ≡ z)
get_last [] y z zero h is = (refl, same_Some y z is)
get_last [] y z (suc i) h is = absurd (none-some z is)
get_last (x ∷ xs) y z zero h is = absurd (omega arith)
get_last (x ∷ xs) y z (suc i) h is =
    let (here, same) = get_last xs y z i (omega arith) is in (ap suc here, same)

-- what a layer at a number stands on
abbrev IsFooted : List PlanLayer → (number : ℕ) → (below : Option ℕ) → (start : ℕ) → Type 0
IsFooted layers number below start = IfSome below (λ lower. (lower < number)
    × IsSomeAnd (slice_get layers lower) (λ m. m.start ≡ start))

still_footed : (before : List PlanLayer) (p : PlanLayer) (number : ℕ) (below : Option ℕ) (start : ℕ)
    → number ≤ length before → IsFooted before number below start
    → IsFooted (before ++ p ∷ []) number below start
still_footed before p number None start le footed = tt
still_footed before p number (Some lower) start le footed =
    (footed.0, rw (get_front before p lower (omega (arith, footed.0))) footed.1)

found_footed : (before : List PlanLayer) (images number : ℕ) (place : Option ℕ × ℕ)
    (found : Option PlanLayer) → slice_get before number ≡ found → AreLayers before images
    → option_map (λ lower. (Some number, lower.start)) found ≡ Some place
    → IsFooted before (length before) place.0 place.1 × (place.1 < images)
found_footed before images number place None at are is = absurd (none-some place is)
found_footed before images number place (Some lower) at are is =
    rw (← same_Some _ place is)
    ((slice_get_within before number lower at, rw at refl), (are number lower at).start)

footing_sound : (base : Base) (before : List PlanLayer) (images : ℕ) (place : Option ℕ × ℕ)
    → AreLayers before images → footing base before images ≡ Some place
    → IsFooted before (length before) place.0 place.1
    × (place.1 < images + length (images_of base))
footing_sound (Image file) before images place are is =
    rw (← same_Some _ place is) (tt, omega arith)
footing_sound (Below name) before images place are is =
    option_and_then_some (lower_footing before) (number_of 0 name (map (λ p. p.name) before)) place
    is (λ number at lower.
    let (footed, within) = found_footed before images number place (slice_get before number) refl
    are lower in
    (footed, omega (arith, within)))

-- a layer more on sound ones
layers_more : (before : List PlanLayer) (images more : ℕ) (l : LayerText) (place : Option ℕ × ℕ)
    → AreLayers before images → IsSound l → IsFooted before (length before) place.0 place.1
    → place.1 < images + more
    → AreLayers (before ++ layer_on l place.0 place.1 ∷ []) (images + more)
layers_more before images more l place are sound footed within number m is =
    let p = layer_on l place.0 place.1 in
    elim (cases_lt number (length before)) [
      | inl earlier ↦
          let old = are number m (sym (get_front before p number earlier) ∙ is) in
          record {
            below = still_footed before p number m.below m.start (omega (arith, earlier)) old.below;
            start = omega (arith, old.start);
            trigger = old.trigger;
            aligned = old.aligned;
            packets = old.packets;
          }
      | inr last ↦
          let (here, same) = get_last before p m number last is in
          rw (here, ← same) record {
            below = still_footed before p (length before) place.0 place.1 (omega arith) footed;
            start = within;
            trigger = sound.trigger;
            aligned = sound.aligned;
            packets = sound.packets;
          }
    ]

one_placed : (before : List PlanLayer) (images : ℕ) (l : LayerText) (p : PlanLayer)
    (place : Option (Option ℕ × ℕ)) → footing l.base before images ≡ place
    → AreLayers before images → IsSound l
    → option_map (λ at. layer_on l at.0 at.1) place ≡ Some p
    → AreLayers (before ++ p ∷ []) (images + length (images_of l.base))
one_placed before images l p None at are sound is = absurd (none-some p is)
one_placed before images l p (Some place) at are sound is =
    let (footed, within) = footing_sound l.base before images place are at in
    rw (← same_Some _ p is)
    (layers_more before images (length (images_of l.base)) l place are sound footed within)

plus_none : (n : ℕ) → n + 0 ≡ n
plus_none n = omega arith

names_more : (images : ℕ) (l : LayerText) (ls : List LayerText)
    → images + length (image_names (l ∷ ls))
    ≡ (images + length (images_of l.base)) + length (image_names ls)
names_more images l ls = omega (arith, length-append (images_of l.base) (image_names ls))

pub layers_placed : (ls : List LayerText) (before : List PlanLayer) (images : ℕ)
    (all : List PlanLayer) → AllByRecursion IsSound ls → AreLayers before images
    → placed_layers before images ls ≡ Some all
    → AreLayers all (images + length (image_names ls))
    × (length all ≡ length before + length ls)
unfolding placed_layers
layers_placed [] before images all sound are is =
    rw (← same_Some before all is) ((rw (plus_none images) are), omega arith)
layers_placed (l ∷ ls) before images all sound are is =
    option_and_then_some _ (placed_layer before images l) all is (λ p here more.
    let next = one_placed before images l p (footing l.base before images) refl are sound.0 here in
    let (done, count) = layers_placed ls (before ++ p ∷ []) (images + length (images_of l.base)) all
    sound.1 next more in
    (rw (names_more images l ls) done, omega (arith, count, length-append before (p ∷ []))))

-- ---- what the loops and calls tell

with_function_before : (done : List PlanFunction) (g : PlanFunction)
    (rest : Option (List PlanFunction))
    → prepended done (with_function (Some g) rest) ≡ prepended (done ++ g ∷ []) rest
with_function_before done g None = refl
with_function_before done g (Some rest) = ap Some (sym (append_assoc done (g ∷ []) rest))

pub functions_more : (layers : List LayerText) (done : List PlanFunction) (f : FunctionText)
    (g : PlanFunction) (fs : List FunctionText) → placed_function layers f ≡ Some g
    → prepended done (placed_functions layers (f ∷ fs))
    ≡ prepended (done ++ g ∷ []) (placed_functions layers fs)
unfolding placed_functions
functions_more layers done f g fs some =
    rw some (with_function_before done g (placed_functions layers fs))

pub functions_unknown : (layers : List LayerText) (done : List PlanFunction) (f : FunctionText)
    (fs : List FunctionText) → placed_function layers f ≡ None
    → prepended done (placed_functions layers (f ∷ fs)) ≡ None
unfolding placed_functions
functions_unknown layers done f fs none = rw none refl

pub functions_done : (layers : List LayerText) (done : List PlanFunction)
    → prepended done (placed_functions layers []) ≡ Some done
unfolding placed_functions
functions_done layers done = prepended_all done

pub names_told : {T : Type 0} (items : T → List PlanFunction) (layers : List LayerText)
    (fs : List FunctionText) → are_well_named layers fs ≡ true → (result : Result T PlanFault)
    → IfOk result (λ all. placed_functions layers fs ≡ Some (items all))
    → IfErr result (λ fault. fault ≢ faults.Memory
    → (placed_functions layers fs ≡ None) × (fault ≡ faults.Name))
    → Tells (names_fault layers fs) result
unfolding names_fault
names_told items layers fs named (Ok all) value fault = rw (named, value) refl
names_told items layers fs named (Err told) value fault =
    λ other. let (none, is) = fault other in rw (named, none, is) refl

pub names_wrong : (layers : List LayerText) (fs : List FunctionText) → are_well_named layers fs
    ≡ false
    → names_fault layers fs ≡ Some faults.Name
unfolding names_fault
names_wrong layers fs wrong = rw wrong refl

-- some of the layers are placed, and the rest is to be placed on them
pub record ArePlaced (all rest : List LayerText) (before : List PlanLayer)
    (images : List (List ℕ)) : Type 0 where
  pub layers : placed_layers before (length images) rest ≡ placed_layers [] 0 all
  pub images_are : images ++ image_names rest ≡ image_names all
  pub count : length before + length rest ≡ length all
  pub image_count : length images ≤ length before

one_image : (base : Base) → length (images_of base) ≤ 1
one_image (Image file) = omega arith
one_image (Below name) = omega arith

more_images : (l : LayerText) (rest : List LayerText) (before : List PlanLayer)
    (images : List (List ℕ)) (p : PlanLayer) → placed_layer before (length images) l ≡ Some p
    → placed_layers before (length images) (l ∷ rest)
    ≡ placed_layers (before ++ p ∷ []) (length (images ++ images_of l.base)) rest
unfolding placed_layers
more_images l rest before images p some =
    rw (some, length-append images (images_of l.base)) refl

pub placed_more : (all rest : List LayerText) (l : LayerText) (before : List PlanLayer)
    (images : List (List ℕ)) (p : PlanLayer) → ArePlaced all (l ∷ rest) before images
    → placed_layer before (length images) l ≡ Some p
    → ArePlaced all rest (before ++ p ∷ []) (images ++ images_of l.base)
placed_more all rest l before images p placed some = record {
  layers = sym (more_images l rest before images p some) ∙ placed.layers;
  images_are = append_assoc images (images_of l.base) (image_names rest) ∙ placed.images_are;
  count = omega (arith, placed.count, length-append before (p ∷ []));
  image_count = omega (
    arith,
    placed.image_count,
    one_image l.base,
    length-append images (images_of l.base),
    length-append before (p ∷ []),
  );
}

pub placed_nowhere : (all rest : List LayerText) (l : LayerText) (before : List PlanLayer)
    (images : List (List ℕ)) → ArePlaced all (l ∷ rest) before images
    → placed_layer before (length images) l ≡ None → below_fault all ≡ Some faults.Below
unfolding below_fault placed_layers
placed_nowhere all rest l before images placed none =
    rw (← placed.layers, none) refl

pub placed_whole : (all : List LayerText) (before : List PlanLayer) (images : List (List ℕ))
    → ArePlaced all [] before images → placed_layers [] 0 all ≡ Some before
unfolding placed_layers
placed_whole all before images placed = sym placed.layers

pub placed_right : (all : List LayerText) (before : List PlanLayer) (images : List (List ℕ))
    → ArePlaced all [] before images → below_fault all ≡ None
unfolding below_fault
placed_right all before images placed = rw (placed_whole all before images placed) refl
