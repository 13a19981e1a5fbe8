use Rattle.std.proofs.Common.{◌≡◌, ℕ, ◌<◌, true, List, Some, length, slice_get, slice_index_or}
use Rattle.std.proofs.Common.{rules, refl, ap, sym, ◌∙◌, subst}
use Rattle.std.proofs.lemmas.Bool.{eqb-true}
use Rattle.std.proofs.lemmas.List.{nil_from_length}
use Rattle.std.proofs.lemmas.Option.{slice_get_read}
use Rattle.plan_model.specs.Outline.{Outline}
use Rattle.context_uc_tests.proofs.driving.layer_above.Goals as goal

-- what was read at a number of a list
found_at : {X : Type 0} (xs ys : List X) (i n : ℕ) (x : X) → i < length xs
    → x ≡ slice_index_or xs i x → xs ≡ ys → i ≡ n → slice_get ys n ≡ Some x
found_at xs ys i n x within read xs_are i_is =
    subst (λ zs. slice_get zs n ≡ Some x) xs_are
    (subst (λ k. slice_get xs k ≡ Some x) i_is
    (slice_get_read xs (length xs) i x refl within read))

-- src/driving.rt:89:1
pub returns : goal.returns
returns g c =
    let functions = c.functions.ensures ∙ ap (λ (p : Outline). p.functions) c.plan-plan.ensures in
    let layers = c.layers.ensures ∙ ap (λ (p : Outline). p.layers) c.plan-plan.ensures in
    let layers_2 = c.layers-2.ensures ∙ ap (λ (p : Outline). p.layers) c.plan-plan.ensures in
    let function = c.in_ok-found.ensures.lookup in
    let top = c.in_ok-top.ensures.lookup in
    let layer = c.in_ok-layer.ensures.lookup in
    let empty : c.is_empty.result ≡ true = search rules in
    record {
      function = c.in_ok-found.found.now;
      top = c.in_ok-top.top.now;
      function_is = record {
        function_is = found_at _ _ _ _ _ function.3.0 function.1 functions
            (c.from.ensures ∙ c.function.ensures);
        layer_is = found_at _ _ _ _ _ top.3.0 top.1 layers c.from-2.ensures;
      };
      layer_is = found_at _ _ _ _ _ layer.3.0 layer.1 layers_2 c.from-3.ensures;
      start_is = search rules;
      below_is = search rules;
      unused = sym c.served.ensures ∙ nil_from_length c.served.result.now
          (eqb-true _ _ (sym c.is_empty.ensures ∙ empty));
      still = search rules;
    }
