use Rattle.std.proofs.Common.{◌≡◌, [], refl, sym, ap, ◌∙◌, arith, rules}
use Rattle.std.proofs.lemmas.Grind.{common_steps}
use Rattle.std.specs.Vec.Iter.{into_iter_items}
use Rattle.plan_text.specs.Placing.{placed_functions}
use Rattle.plan_text.proofs.Placed.{functions_more, functions_unknown, functions_done}
use Rattle.plan_tables.proofs.Prepending.{prepended}
use Rattle.plan_text.proofs.placing.placed_functions.Goals as goal

pub returns-in-None-placed_function-clause-fault :
    goal.returns-in-None-placed_function-clause-fault
returns-in-None-placed_function-clause-fault c = λ named.
    let layers = c.args.layers.now in
    let done = c.functions.all.items in
    let steps = c.in-Some.ensures.steps.0 in (
      sym c.functions.invariant.2 ∙ ap (λ rest. prepended done (placed_functions layers rest)) steps
          ∙ functions_unknown layers done c.in-Some.function (into_iter_items c.next.new.self)
          (sym c.placed_function.ensures ∙ c.in-None-placed_function.is),
      refl,
    )

pub functions-preserved : goal.functions-preserved
functions-preserved c =
    let layers = c.args.layers.now in
    let done = c.functions.all.items in
    let steps = c.in-Some.ensures.steps.0 in (
      tt,
      tt,
      rw c.in_ok-push-in-Some-placed_function.ensures.items
          (sym (functions_more layers done c.in-Some.function c.in-Some-placed_function.placed
          (into_iter_items c.next.new.self) (sym c.placed_function.ensures
          ∙ c.in-Some-placed_function.is))
          ∙ ap (λ rest. prepended done (placed_functions layers rest)) (sym steps)
          ∙ c.functions.invariant.2),
    )

pub returns-clause-value : goal.returns-clause-value
returns-clause-value c =
    let layers = c.args.layers.now in
    let done = c.functions.all.items in
    let none : into_iter_items c.functions.function-iterator ≡ [] =
    first_of (search rules, grind (arith, common_steps)) in
    sym c.functions.invariant.2 ∙ ap (λ rest. prepended done (placed_functions layers rest)) none
    ∙ functions_done layers done
