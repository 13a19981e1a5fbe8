use Rattle.std.proofs.Common.{◌≡◌, ◌∙◌, sym, true}
use Rattle.plan_text.specs.Placing.{are_well_named}
use Rattle.plan_text.proofs.Placed.{names_told, names_wrong}
use Rattle.plan_text.proofs.placing.named_functions.Goals as goal

pub returns-then-not-are_well_named-clause-fault : goal.returns-then-not-are_well_named-clause-fault
returns-then-not-are_well_named-clause-fault c = λ named.
    rw (← c.deref.ensures.value) (names_wrong c.args.layers.now c.deref.result.now
    (sym c.are_well_named.ensures ∙ c.if-not-are_well_named.true))

pub returns-clause-fault : goal.returns-clause-fault
returns-clause-fault c =
    let named : are_well_named c.args.layers.now c.args.functions.items ≡ true =
    rw (← c.deref.ensures.value) (sym c.are_well_named.ensures ∙ c.if-not-are_well_named.false) in
    names_told (λ all. all.items) c.args.layers.now c.args.functions.items named
    c.placed_functions.result
    c.placed_functions.ensures.value c.placed_functions.ensures.fault
