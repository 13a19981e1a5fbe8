use Rattle.std.proofs.Common.{◌≡◌, ◌∙◌, ◌+◌, ◌∷◌, [], ◌++◌, Some, sym, ap, map, get_or, drop}
use Rattle.std.proofs.Common.{append_assoc}
use Rattle.std.proofs.lemmas.List.{drop_all}
use Rattle.std.proofs.lemmas.Result.{err_from_is_err_and}
use Rattle.toml.specs.Data.{as_table}
use Rattle.toml.specs.View.{view, table_view, items_view}
use Rattle.plan_tables.specs.Functions.{texts}
use Rattle.plan_tables.specs.Tables.{functions_fault}
use Rattle.plan_tables.specs.Values.{tables_among}
use Rattle.plan_tables.proofs.Items.{tables_more, functions_pass, functions_stop, functions_end}
use Rattle.plan_tables.proofs.function_table.functions.Goals as goal

pub returns-in_err-function-in-Some-clause-fault : goal.returns-in_err-function-in-Some-clause-fault
returns-in_err-function-in-Some-clause-fault c =
    let values = c.args.values.now in
    let i = c.tables.value-index in
    let item = c.value-item.result in
    let table = table_view c.in-Some.table.now in
    let some : as_table (view (get_or values i item)) ≡ Some table =
    ap (λ v. as_table (view v)) (sym c.value-item.is)
    ∙ sym (rw c.in-Some.is at c.as_table.ensures) in
    let step = tables_more values i item table c.tables-test.true some in
    let p = err_from_is_err_and c.from_residual-in_err-function-in-Some.result
    c.from_residual-in_err-function-in-Some.ensures.1 in
    rw (p.1, p.2) (λ named. sym c.tables.invariant.fault ∙ ap functions_fault step
    ∙ functions_stop table _ _ (c.in_err-function-in-Some.ensures.fault named))

pub tables-preserved : goal.tables-preserved
tables-preserved c =
    let values = c.args.values.now in
    let i = c.tables.value-index in
    let item = c.value-item.result in
    let table = table_view c.in-Some.table.now in
    let made = c.in_ok-function-in-Some.field-0 in
    let all = c.tables.all.items in
    let rest = tables_among (items_view (drop (i + 1) values)) in
    let some : as_table (view (get_or values i item)) ≡ Some table =
    ap (λ v. as_table (view v)) (sym c.value-item.is)
    ∙ sym (rw c.in-Some.is at c.as_table.ensures) in
    let step = tables_more values i item table c.tables-test.true some in
    let fine = c.in_ok-function-in-Some.ensures.fault in
    rw c.in_ok-push-in-Some.ensures.items record {
      fault = sym (ap functions_fault step ∙ functions_pass table rest fine)
          ∙ c.tables.invariant.fault;
      value = append_assoc all (made ∷ []) (map texts rest)
          ∙ ap (λ first. all ++ first ∷ map texts rest) c.in_ok-function-in-Some.ensures.value
          ∙ ap (λ tables. all ++ map texts tables) (sym step) ∙ c.tables.invariant.value;
    }

pub returns-clause-fault : goal.returns-clause-fault
returns-clause-fault c =
    sym c.tables.invariant.fault
    ∙ ap (λ rest. functions_fault (tables_among (items_view rest)))
    (drop_all c.tables.value-index c.args.values.now c.tables-test.false) ∙ functions_end
