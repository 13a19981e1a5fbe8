use Rattle.std.proofs.Common.{◌∙◌, ap, map}
use Rattle.std.proofs.lemmas.Result.{err_from_is_err_and}
use Rattle.toml.specs.View.{table_view, items_view}
use Rattle.plan_tables.proofs.Told.{refused_top, refused_layers, refused_functions}
use Rattle.plan_tables.proofs.Told.{tables_made, sound_tables}
use Rattle.plan_tables.specs.Functions.{texts}
use Rattle.plan_tables.specs.Layers.{layer_at}
use Rattle.plan_tables.specs.Values.{tables_among}
use Rattle.plan_tables.proofs.tables.tables_of.Goals as goal

pub returns-in_err-top-clause-fault : goal.returns-in_err-top-clause-fault
returns-in_err-top-clause-fault c =
    let m = table_view c.args.table.now in
    let p = err_from_is_err_and c.from_residual.result c.from_residual.ensures.1 in
    rw (p.1, p.2) (λ named. refused_top m _ (c.in_err-top.ensures.fault named))

pub returns-in_err-layers-clause-fault : goal.returns-in_err-layers-clause-fault
returns-in_err-layers-clause-fault c =
    let m = table_view c.args.table.now in
    let p = err_from_is_err_and c.from_residual-in_err-layers.result
    c.from_residual-in_err-layers.ensures.1 in
    rw (p.1, p.2) (λ named. refused_layers m _ c.in_ok-top.ensures.fault
    (rw c.in_ok-top.ensures.layers at (c.in_err-layers.ensures.fault named)))

pub returns-in_err-functions-clause-fault : goal.returns-in_err-functions-clause-fault
returns-in_err-functions-clause-fault c =
    let m = table_view c.args.table.now in
    let p = err_from_is_err_and c.from_residual-in_err-functions.result
    c.from_residual-in_err-functions.ensures.1 in
    rw (p.1, p.2) (λ named. refused_functions m _ c.in_ok-top.ensures.fault
    (rw c.in_ok-top.ensures.layers at c.in_ok-layers.ensures.fault)
    (rw c.in_ok-top.ensures.functions at (c.in_err-functions.ensures.fault named)))

pub returns-clause-tables : goal.returns-clause-tables
returns-clause-tables c =
    let m = table_view c.args.table.now in
    tables_made m _ _ _ c.in_ok-top.ensures.fault
    (rw c.in_ok-top.ensures.layers at c.in_ok-layers.ensures.fault)
    (rw c.in_ok-top.ensures.functions at c.in_ok-functions.ensures.fault)
    c.in_ok-top.ensures.numbers
    (c.in_ok-layers.ensures.value ∙ ap (map layer_at) c.in_ok-top.ensures.layers)
    (c.in_ok-functions.ensures.value ∙ ap (map texts) c.in_ok-top.ensures.functions)

pub returns-clause-sound : goal.returns-clause-sound
returns-clause-sound c =
    sound_tables c.in_ok-top.top.numbers
    (tables_among (items_view c.in_ok-top.top.layers.now))
    (tables_among (items_view c.in_ok-top.top.functions.now)) c.in_ok-layers.layers.items
    c.in_ok-functions.functions.items c.in_ok-top.ensures.in_range
    c.in_ok-top.ensures.layer_count c.in_ok-layers.ensures.value c.in_ok-layers.ensures.sound
    c.in_ok-top.ensures.function_count c.in_ok-functions.ensures.value
