use Rattle.std.proofs.Common.{◌≡◌, ◌≢◌, None, Some, IfSome, slice_get, slice_index_or, length}
use Rattle.std.proofs.Common.{ap, ◌∙◌, sym, subst}
use Rattle.journal_model.specs.State.{layer_above}
use Rattle.plan_model.proofs.Stacking.{stand_lower}
use Rattle.plan_model.specs.Outline.{AreParts, Outline}
use Rattle.plan_model.specs.Stacks.{stack}
use Rattle.plan_model.specs.declared.function.PlanFunction.{PlanFunction}
use Rattle.context_runs.proofs.Above.{layer_of_read, next_by, next_is, next_on_stack}
use Rattle.context_runs.proofs.Above.{none_above_top, stack_read}
use Rattle.context_runs.proofs.next.next_layer.Goals as goal

-- src/next.rt:61:1
pub returns-clause-next : goal.returns-clause-next
returns-clause-next g c =
    let plan = c.args.context.now.plan in
    let number = c.args.context.now.function in
    let place = c.args.context.now.layer in
    let o = c.requires.on_stack in
    let read = layer_of_read _ _ _ _ _ _
    (c.functions.ensures ∙ ap (λ (p : Outline). p.functions) c.plan-plan.ensures)
    (c.from.ensures ∙ c.function-function.ensures) o.function_is.function_is in
    let top = (slice_index_or c.functions.result.now c.from.result
    c.index-functions-from.result).layer in
    let own_is : top ≡ o.function.layer = ap (λ (f : PlanFunction). f.layer) read in
    let told = subst (λ n. IfSome (slice_get plan.functions n)
    (λ (f : PlanFunction). c.stack.result.now ≡ stack plan.layers f.layer))
    c.function-function.ensures
    (subst (λ (p : Outline). IfSome (slice_get p.functions c.function-function.result)
    (λ (f : PlanFunction). c.stack.result.now ≡ stack p.layers f.layer)) c.plan-plan.ensures
    c.stack.ensures) in
    let stack_is = stack_read (slice_get plan.functions number) o.function plan.layers
    c.stack.result.now o.function_is.function_is told in
    let own = subst (λ p. p ≡ Some top
    → c.next_above.result ≡ None) c.layer.ensures c.next_above.ensures.own in
    let other = subst (λ p. p ≢ Some top
    → c.next_above.result ≡ layer_above p (stack plan.layers o.function.layer)) c.layer.ensures
    (subst (λ ks. c.layer.result ≢ Some top
    → c.next_above.result ≡ layer_above c.layer.result ks) stack_is c.next_above.ensures.other) in
    let parts = c.is_sound.ensures.parts in
    let sound = subst AreParts c.plan-plan.ensures parts in
    let lower = stand_lower plan.layers (length plan.starts) sound.layers in
    next_is plan number place c.next_above.result top o sound own_is
    (next_by place top c.next_above.result
    (layer_above place (stack plan.layers o.function.layer)) own other
    (λ none. none_above_top plan.layers o.function.layer place lower o.stands none
    ∙ ap Some (sym own_is)))

-- src/next.rt:61:1
pub returns-clause-on_stack : goal.returns-clause-on_stack
returns-clause-on_stack g c =
    next_on_stack c.args.context.now.plan c.args.context.now.function c.args.context.now.layer
    c.next_above.result (returns-clause-next g c)
