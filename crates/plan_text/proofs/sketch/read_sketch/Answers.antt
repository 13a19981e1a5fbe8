use Rattle.std.proofs.lemmas.Result.{err_from_is_err_and}
use Rattle.plan_tables.specs.Tables.{document}
use Rattle.plan_text.proofs.Sketched.{refused_tables, refused_names, refused_below, sketch_made}
use Rattle.plan_text.proofs.Sketched.{sound_sketch, names_no_file, below_no_file, told_no_file}
use Rattle.plan_text.proofs.sketch.read_sketch.Goals as goal

pub returns-in_err-tables-clause-fault : goal.returns-in_err-tables-clause-fault
returns-in_err-tables-clause-fault c =
    let p = err_from_is_err_and c.from_residual.result c.from_residual.ensures.1 in
    rw (p.1, p.2) (λ named.
    refused_tables (document c.args.bytes.now) _ (c.in_err-tables.ensures.fault named))

pub returns-in_err-placed_functions-clause-fault : goal.returns-in_err-placed_functions-clause-fault
returns-in_err-placed_functions-clause-fault c =
    let p = err_from_is_err_and c.from_residual-in_err-placed_functions.result
    c.from_residual-in_err-placed_functions.ensures.1 in
    rw (p.1, p.2) (λ named.
    refused_names (document c.args.bytes.now) _ _ c.in_ok-tables.ensures.tables
    (rw c.deref.ensures.value at (c.in_err-placed_functions.ensures.fault named)))

pub returns-in_err-placed-clause-fault : goal.returns-in_err-placed-clause-fault
returns-in_err-placed-clause-fault c =
    let p = err_from_is_err_and c.from_residual-in_err-placed.result
    c.from_residual-in_err-placed.ensures.1 in
    rw (p.1, p.2) (λ named.
    refused_below (document c.args.bytes.now) _ _ c.in_ok-tables.ensures.tables
    (rw c.deref.ensures.value at c.in_ok-placed_functions.ensures.fault)
    (c.in_err-placed.ensures.fault named))

pub returns-clause-sketch : goal.returns-clause-sketch
returns-clause-sketch c =
    rw c.in_ok-placed.ensures.images
    (sketch_made (document c.args.bytes.now) _ _ _ c.in_ok-tables.ensures.tables (record {
      names = rw c.deref.ensures.value at c.in_ok-placed_functions.ensures.fault;
      below = c.in_ok-placed.ensures.fault;
      layers = c.in_ok-placed.ensures.layers;
      functions = rw c.deref.ensures.value at c.in_ok-placed_functions.ensures.value;
    }))

pub returns-clause-sound : goal.returns-clause-sound
returns-clause-sound c =
    rw c.in_ok-placed.ensures.images (sound_sketch _ _ _ _ _ c.in_ok-tables.ensures.sound
    c.in_ok-placed.ensures.layers
    (rw c.deref.ensures.value at c.in_ok-placed_functions.ensures.value))

pub returns-in_err-placed_functions-clause-no_file :
    goal.returns-in_err-placed_functions-clause-no_file
returns-in_err-placed_functions-clause-no_file c =
    let p = err_from_is_err_and c.from_residual-in_err-placed_functions.result
    c.from_residual-in_err-placed_functions.ensures.1 in
    rw (p.1, p.2) (told_no_file _ _ (names_no_file _ _) c.in_err-placed_functions.ensures.fault)

pub returns-in_err-placed-clause-no_file : goal.returns-in_err-placed-clause-no_file
returns-in_err-placed-clause-no_file c =
    let p = err_from_is_err_and c.from_residual-in_err-placed.result
    c.from_residual-in_err-placed.ensures.1 in
    rw (p.1, p.2) (told_no_file _ _ (below_no_file _) c.in_err-placed.ensures.fault)
