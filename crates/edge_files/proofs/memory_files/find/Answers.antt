-- The map answers a reference to the vector with the file's bytes.
use Rattle.std.proofs.Common.{◌∙◌, sym}
use Rattle.edge_files.proofs.Names.{file_in_map, bytes_behind}
use Rattle.edge_files.proofs.memory_files.find.Goals as goal

pub returns : goal.returns
returns c =
    let behind = bytes_behind _ _ c.get.ensures.value in
    behind ∙ sym (file_in_map c.args.files.now c.args.name.now)
