-- No text is refused for a file.
use Rattle.std.proofs.Common.{◌≡◌, ◌≢◌, ℕ, Bool, true, false, List, [], ◌∷◌, map, ℤ}
use Rattle.std.proofs.Common.{Option, Some, None, option_map, is_some, Result, Err, cond}
use Rattle.std.specs.List.{AllByRecursion}
use Rattle.toml.specs.Data.{Data, Items, Members, as_integer, as_str, as_array}
use Rattle.plan_tables.specs.Faults.{first_fault, unknown_fault}
use Rattle.plan_tables.specs.Functions.{function_fault}
use Rattle.plan_tables.specs.Keys.{first_other, value_at, top_keys, layer_keys, function_keys}
use Rattle.plan_tables.specs.Layers.{base_shape, base_fault, packets_shape, packets_fault}
use Rattle.plan_tables.specs.Layers.{value_packets, layer_fault, trigger, are_few}
use Rattle.plan_tables.specs.Tables.{layers_fault, functions_fault, each_table_fault}
use Rattle.plan_tables.specs.Tables.{Tables, tables_said, tables_unless, tables_of}
use Rattle.plan_tables.specs.Top.{top_fault, capacity_fault, limits_fault, frames, workers, idle}
use Rattle.plan_tables.specs.Top.{room, uses, budget, prepare, stack_bytes, clock, serve}
use Rattle.plan_tables.specs.Values.{range_fault, integer_fault, rule_fault, number_fault, natural_in}
use Rattle.plan_tables.specs.Values.{text_shape, data_text_fault, text_fault, items_fault}
use Rattle.plan_tables.specs.Values.{data_tables_fault, tables_fault, tables_at, are_tables}
use Rattle.plan_tables.specs.declared.fault.PlanFault.{PlanFault}
use Rattle.plan_tables.specs.declared.fault.PlanFault.TheVariants as faults
use Rattle.plan_tables.specs.declared.key.Key.{Key}
use Rattle.plan_tables.specs.declared.key.Key.TheVariants as keys
use Rattle.plan_tables.specs.declared.rule.NumberRule.{NumberRule}

abbrev IsText : Option PlanFault → Type 0
IsText fault = fault ≢ Some faults.File

first : (rows : List (Option PlanFault)) → AllByRecursion IsText rows → IsText (first_fault rows)
first [] all = λ e. cc
first (None ∷ rows) all = first rows all.1
first (Some fault ∷ rows) all = all.0

each : (f : Members → Option PlanFault) → ((table : Members) → IsText (f table))
    → (tables : List Members) → AllByRecursion IsText (map f tables)
each f of [] = tt
each f of (table ∷ tables) = (of table, each f of tables)

unless : (right : Bool) (fault : PlanFault) → IsText (Some fault)
    → IsText (cond right None (Some fault))
unless true fault is = λ e. cc
unless false fault is = is

either : (right : Bool) (more : Option PlanFault) → IsText more → (fault : PlanFault)
    → IsText (Some fault) → IsText (cond right more (Some fault))
either true more is fault other = is
either false more is fault other = other

unknown_some : (text : Option (List ℕ)) → IsText (option_map (λ key. faults.Unknown key) text)
unknown_some None = λ e. cc
unknown_some (Some text) = λ e. cc

unknown : (known : List Key) (members : Members) → IsText (unknown_fault known members)
unfolding unknown_fault
unknown known members = unknown_some (first_other known members)

range : (key : Key) (number : Option ℕ) → IsText (range_fault key number)
range key None = λ e. cc
range key (Some number) = λ e. cc

integer : (rule : NumberRule) (z : Option ℤ) → IsText (integer_fault rule z)
integer rule None = λ e. cc
integer rule (Some z) = range rule.key (natural_in rule z)

rule_of : (rule : NumberRule) (value : Option Data) → IsText (rule_fault rule value)
rule_of rule None = unless (is_some rule.otherwise) (faults.Missing rule.key) (λ e. cc)
rule_of rule (Some value) = integer rule (as_integer value)

number : (rule : NumberRule) (members : Members) → IsText (number_fault rule members)
unfolding number_fault
number rule members = rule_of rule (value_at rule.key members)

shape : (key : Key) (text : Option (List ℕ)) → IsText (text_shape key text)
shape key None = λ e. cc
shape key (Some text) = λ e. cc

text_of : (key : Key) (value : Option Data) → IsText (data_text_fault key value)
text_of key None = λ e. cc
text_of key (Some value) = shape key (as_str value)

text : (key : Key) (members : Members) → IsText (text_fault key members)
unfolding text_fault
text key members = text_of key (value_at key members)

items : (key : Key) (found : Option Items) → IsText (items_fault key found)
items key None = λ e. cc
items key (Some found) = either (are_tables found) _ (unless _ (faults.Range key) (λ e. cc))
    (faults.Shape key) (λ e. cc)

tables_at_key : (key : Key) (value : Option Data) → IsText (data_tables_fault key value)
tables_at_key key None = λ e. cc
tables_at_key key (Some value) = items key (as_array value)

tables : (key : Key) (members : Members) → IsText (tables_fault key members)
unfolding tables_fault
tables key members = tables_at_key key (value_at key members)

base_of : (image below : Option Data) → IsText (base_shape image below)
base_of None None = λ e. cc
base_of None (Some below) = shape keys.Below (as_str below)
base_of (Some image) None = shape keys.Image (as_str image)
base_of (Some image) (Some below) = λ e. cc

base : (members : Members) → IsText (base_fault members)
unfolding base_fault
base members = base_of (value_at keys.Image members) (value_at keys.Below members)

packets_of : (packets : Option (List (List ℕ))) → IsText (packets_shape packets)
packets_of None = λ e. cc
packets_of (Some packets) = unless (are_few packets) (faults.Range keys.Packets) (λ e. cc)

packets : (members : Members) → IsText (packets_fault members)
unfolding packets_fault
packets members = packets_of (value_packets (value_at keys.Packets members))

layer : (members : Members) → IsText (layer_fault members)
unfolding layer_fault
layer members =
    first (unknown_fault layer_keys members ∷ text_fault keys.Name members ∷ base_fault members
    ∷ number_fault trigger members ∷ packets_fault members ∷ []) (
      unknown layer_keys members,
      (
        text keys.Name members,
        (base members, (number trigger members, (packets members, tt))),
      ),
    )

function : (members : Members) → IsText (function_fault members)
unfolding function_fault
function members =
    first (unknown_fault function_keys members ∷ text_fault keys.Name members
    ∷ text_fault keys.Layer members ∷ [])
    (unknown function_keys members, (text keys.Name members, (text keys.Layer members, tt)))

capacity : (members : Members) → IsText (capacity_fault members)
unfolding capacity_fault
capacity members =
    first (number_fault frames members ∷ number_fault workers members
    ∷ number_fault idle members ∷ number_fault room members ∷ number_fault uses members ∷ []) (
      number frames members,
      (
        number workers members,
        (number idle members, (number room members, (number uses members, tt))),
      ),
    )

limits : (members : Members) → IsText (limits_fault members)
unfolding limits_fault
limits members =
    first (number_fault budget members ∷ number_fault prepare members
    ∷ number_fault stack_bytes members ∷ number_fault clock members ∷ number_fault serve members
    ∷ []) (
      number budget members,
      (
        number prepare members,
        (number stack_bytes members, (number clock members, (number serve members, tt))),
      ),
    )

top : (members : Members) → IsText (top_fault members)
unfolding top_fault
top members =
    first (unknown_fault top_keys members ∷ capacity_fault members ∷ limits_fault members
    ∷ tables_fault keys.Layer members ∷ tables_fault keys.Function members ∷ []) (
      unknown top_keys members,
      (
        capacity members,
        (limits members, (tables keys.Layer members, (tables keys.Function members, tt))),
      ),
    )

layers : (tables : List Members) → IsText (layers_fault tables)
unfolding layers_fault
layers tables = first _ (each layer_fault layer tables)

functions : (tables : List Members) → IsText (functions_fault tables)
unfolding functions_fault
functions tables = first _ (each function_fault function tables)

each_table : (members : Members) → IsText (each_table_fault members)
unfolding each_table_fault
each_table members =
    first (top_fault members ∷ layers_fault (tables_at keys.Layer members)
    ∷ functions_fault (tables_at keys.Function members) ∷ []) (
      top members,
      (
        layers (tables_at keys.Layer members),
        (functions (tables_at keys.Function members), tt),
      ),
    )

refused : (fault : Option PlanFault) (t : Tables) → IsText fault
    → tables_unless fault t ≢ Err faults.File
refused None t is = λ e. cc
refused (Some fault) t is = λ e. is (cc)

pub of_document : (found : Option Members) → tables_of found ≢ Err faults.File
of_document None = λ e. cc
of_document (Some members) =
    refused (each_table_fault members) (tables_said members) (each_table members)

-- nor is one that is no document
pub not_file : {T : Type 0} (f : PlanFault) → (f ≢ faults.Memory → f ≡ faults.Toml)
    → ◌≡◌ {A = Result T PlanFault} (Err f) (Err faults.File) → ⊥
not_file f others e =
    let same : f ≡ faults.File = cc in
    let toml : f ≡ faults.Toml = others (λ memory. cc) in cc
