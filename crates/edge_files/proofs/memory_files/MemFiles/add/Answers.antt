-- An insertion gives a name its bytes, and keeps what the map has at every other name.
use Rattle.std.proofs.Common.{◌≡◌, ◌∙◌, Some, ap, sym, option_map, arith}
use Rattle.std.specs.BTreeMap.{get_by_text}
use Rattle.std.proofs.lemmas.Map.Text.{text_keys}
use Rattle.edge_files.specs.Named.{FilesState, file_named}
use Rattle.edge_files.proofs.Names.{bytes_in, file_in_map}
use Rattle.edge_files.proofs.memory_files.MemFiles.add.Goals as goal

pub returns-clause-added : goal.returns-clause-added
returns-clause-added c =
    let name = c.args.name.now in
    let files = c.insert.new.self in
    let added : get_by_text files name ≡ Some c.args.bytes = grind (arith, text_keys) in
    file_in_map files name ∙ ap (option_map bytes_in) added

pub returns-clause-others : goal.returns-clause-others
returns-clause-others c = λ other differs.
    let old = c.self.inside.files in
    let new = c.insert.new.self in
    let same : get_by_text new other ≡ get_by_text old other = grind (arith, text_keys) in
    let held = ap (λ (s : FilesState). file_named s.files other) c.self.view_is in
    let in_old = sym (file_in_map old other) in
    file_in_map new other ∙ ap (option_map bytes_in) same ∙ in_old ∙ held
