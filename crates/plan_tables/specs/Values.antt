-- What stands at a key: numbers in their ranges, texts, lists of tables.
use Rattle.std.specs.Prelude.{ℕ, ◌+◌, ◌%◌, ◌==◌, nat_le, Bool, true, ◌&&◌}
use Rattle.std.specs.Prelude.{if◌then◌else◌, List, [], ◌∷◌, ◌≡◌, ◌≤◌}
use Rattle.std.specs.Prelude.{Option, Some, None, option_and_then, unwrap_or, is_some, ℤ, pos}
use Rattle.std.specs.Prelude.{negsuc}
use Rattle.toml.specs.Data.{Data, Items, no_items, item, Members}
use Rattle.toml.specs.Data.{as_integer, as_str, as_array, as_table}
use Rattle.plan_tables.specs.Keys.{value_at}
use Rattle.plan_tables.specs.declared.fault.PlanFault.{PlanFault}
use Rattle.plan_tables.specs.declared.fault.PlanFault.TheVariants as faults
use Rattle.plan_tables.specs.declared.key.Key.{Key}
use Rattle.plan_tables.specs.declared.rule.NumberRule.{NumberRule}

-- ---- numbers

-- from the lowest to the highest, in steps from 0 on
abbrev pub is_in_rule : NumberRule → ℕ → Bool
is_in_rule rule n = nat_le rule.lowest n && (nat_le n rule.highest && n % rule.step == 0)

pub record IsInRule (rule : NumberRule) (n : ℕ) : Type 0 where
  pub above : rule.lowest ≤ n
  pub below : n ≤ rule.highest
  pub stepped : n % rule.step ≡ 0

-- the number that an integer is, where the rule has it
abbrev pub natural_in : NumberRule → ℤ → Option ℕ
natural_in rule (pos n) = if is_in_rule rule n then Some n else None
natural_in rule (negsuc n) = None

abbrev pub range_fault : Key → Option ℕ → Option PlanFault
range_fault key None = Some (faults.Range key)
range_fault key (Some n) = None

abbrev pub integer_fault : NumberRule → Option ℤ → Option PlanFault
integer_fault rule None = Some (faults.Shape rule.key)
integer_fault rule (Some integer) = range_fault rule.key (natural_in rule integer)

abbrev pub rule_fault : NumberRule → Option Data → Option PlanFault
rule_fault rule None = if is_some rule.otherwise then None else Some (faults.Missing rule.key)
rule_fault rule (Some value) = integer_fault rule (as_integer value)

abbrev pub rule_number : NumberRule → Option Data → Option ℕ
rule_number rule None = rule.otherwise
rule_number rule (Some value) = option_and_then (natural_in rule) (as_integer value)

-- missing, no integer, or out of its range
unfoldable pub number_fault : NumberRule → Members → Option PlanFault
number_fault rule members = rule_fault rule (value_at rule.key members)

-- the number at the rule's key, or the one that it has otherwise; 0 where there is a fault
unfoldable pub number_at : NumberRule → Members → ℕ
number_at rule members = unwrap_or (rule_number rule (value_at rule.key members)) 0

-- ---- texts

abbrev pub text_shape : Key → Option (List ℕ) → Option PlanFault
text_shape key None = Some (faults.Shape key)
text_shape key (Some text) = None

abbrev pub data_text_fault : Key → Option Data → Option PlanFault
data_text_fault key None = Some (faults.Missing key)
data_text_fault key (Some value) = text_shape key (as_str value)

-- missing, or no text
unfoldable pub text_fault : Key → Members → Option PlanFault
text_fault key members = data_text_fault key (value_at key members)

unfoldable pub text_at : Key → Members → List ℕ
text_at key members = unwrap_or (option_and_then as_str (value_at key members)) []

-- ---- lists of tables

abbrev pub are_tables : Items → Bool
are_tables no_items = true
are_tables (item value rest) = is_some (as_table value) && are_tables rest

abbrev pub count_items : Items → ℕ
count_items no_items = 0
count_items (item value rest) = count_items rest + 1

abbrev pub with_table : Option Members → List Members → List Members
with_table None tables = tables
with_table (Some members) tables = members ∷ tables

-- the items that are tables
abbrev pub tables_among : Items → List Members
tables_among no_items = []
tables_among (item value rest) = with_table (as_table value) (tables_among rest)

-- there are 1 to 64 of layers and of functions
abbrev pub most_tables : ℕ
most_tables = 64

abbrev pub items_fault : Key → Option Items → Option PlanFault
items_fault key None = Some (faults.Shape key)
items_fault key (Some items) =
    if are_tables items
    then (if nat_le 1 (count_items items) && nat_le (count_items items) most_tables
    then None else Some (faults.Range key))
    else Some (faults.Shape key)

abbrev pub data_tables_fault : Key → Option Data → Option PlanFault
data_tables_fault key None = Some (faults.Missing key)
data_tables_fault key (Some value) = items_fault key (as_array value)

-- missing, no list of tables, none or too many
unfoldable pub tables_fault : Key → Members → Option PlanFault
tables_fault key members = data_tables_fault key (value_at key members)

abbrev pub items_or_none : Option Items → Items
items_or_none None = no_items
items_or_none (Some items) = items

unfoldable pub tables_at : Key → Members → List Members
tables_at key members =
    tables_among (items_or_none (option_and_then as_array (value_at key members)))
