-- Items beside the values that they are of.
use Rattle.std.proofs.Common.{◌≡◌, ℕ, ◌+◌, ◌<◌, true, List, [], ◌∷◌, ◌++◌, length}
use Rattle.std.proofs.Common.{drop, get_or, refl, ap, sym, arith, append_assoc}
use Rattle.std.proofs.Common.{Option, Some, None, is_some}
use Rattle.std.proofs.lemmas.Bool.{and_parts}
use Rattle.toml.proofs.Views.{items_view-drop}
use Rattle.toml.specs.Data.{Members, as_table}
use Rattle.toml.specs.View.{items_view, view}
use Rattle.toml.specs.declared.value.Value.{Value}
use Rattle.plan_tables.specs.Layers.{packet_of, packets_of, with_packet}
use Rattle.plan_tables.specs.Values.{count_items, are_tables, tables_among, with_table}
use Rattle.plan_tables.specs.declared.fault.PlanFault.{PlanFault}
use Rattle.plan_tables.proofs.Prepending.{prepended}
use Rattle.plan_tables.specs.Tables.{layers_fault, functions_fault}
use Rattle.plan_tables.specs.Layers.{layer_fault}
use Rattle.plan_tables.specs.Functions.{function_fault}
use Rattle.std.specs.List.{AllByRecursion}

pub count_view : (values : List Value) → count_items (items_view values) ≡ length values
count_view [] = refl
count_view (value ∷ values) = omega (arith, count_view values)

table_counted : (table : Option Members) (tables : List Members) → is_some table ≡ true
    → length (with_table table tables) ≡ length tables + 1
table_counted None tables some = absurd (cc)
table_counted (Some table) tables some = omega arith

-- as many tables as values, where all are tables
pub tables_count : (values : List Value) → are_tables (items_view values) ≡ true
    → length (tables_among (items_view values)) ≡ length values
tables_count [] all = refl
tables_count (value ∷ values) all =
    let (here, more) = and_parts (is_some (as_table (view value))) (are_tables (items_view values))
    all in
    omega (
      arith,
      table_counted (as_table (view value)) (tables_among (items_view values)) here,
      tables_count values more,
    )

-- ---- one value more

pub tables_skip : (values : List Value) (i : ℕ) (value : Value) → i < length values
    → as_table (view (get_or values i value)) ≡ None
    → tables_among (items_view (drop i values)) ≡ tables_among (items_view (drop (i + 1) values))
tables_skip values i value lt none = rw (items_view-drop values i value lt, none) refl

pub tables_more : (values : List Value) (i : ℕ) (value : Value) (table : Members)
    → i < length values
    → as_table (view (get_or values i value)) ≡ Some table
    → tables_among (items_view (drop i values)) ≡ table
    ∷ tables_among (items_view (drop (i + 1) values))
tables_more values i value table lt some = rw (items_view-drop values i value lt, some) refl

packets_before : (done : List (List ℕ)) (packet : List ℕ) (rest : Option (List (List ℕ)))
    → prepended done (with_packet (Some packet) rest) ≡ prepended (done ++ packet ∷ []) rest
packets_before done packet None = refl
packets_before done packet (Some rest) = ap Some (sym (append_assoc done (packet ∷ []) rest))

pub packets_more : (done : List (List ℕ)) (packet : List ℕ) (values : List Value) (i : ℕ)
    (value : Value) → i < length values → packet_of (view (get_or values i value)) ≡ Some packet
    → prepended done (packets_of (items_view (drop i values)))
    ≡ prepended (done ++ packet ∷ []) (packets_of (items_view (drop (i + 1) values)))
packets_more done packet values i value lt some =
    rw (items_view-drop values i value lt, some)
    (packets_before done packet (packets_of (items_view (drop (i + 1) values))))

pub packets_end : (values : List Value) (i : ℕ) (value : Value) → i < length values
    → packet_of (view (get_or values i value)) ≡ None
    → packets_of (items_view (drop i values)) ≡ None
packets_end values i value lt none = rw (items_view-drop values i value lt, none) refl

-- ---- the faults of tables

pub layers_pass : (table : Members) (tables : List Members) → layer_fault table ≡ None
    → layers_fault (table ∷ tables) ≡ layers_fault tables
unfolding layers_fault
layers_pass table tables none = rw none refl

pub layers_stop : (table : Members) (tables : List Members) (fault : PlanFault)
    → layer_fault table ≡ Some fault → layers_fault (table ∷ tables) ≡ Some fault
unfolding layers_fault
layers_stop table tables fault some = rw some refl

pub layers_end : layers_fault [] ≡ None
unfolding layers_fault
layers_end = refl

pub functions_pass : (table : Members) (tables : List Members) → function_fault table ≡ None
    → functions_fault (table ∷ tables) ≡ functions_fault tables
unfolding functions_fault
functions_pass table tables none = rw none refl

pub functions_stop : (table : Members) (tables : List Members) (fault : PlanFault)
    → function_fault table ≡ Some fault → functions_fault (table ∷ tables) ≡ Some fault
unfolding functions_fault
functions_stop table tables fault some = rw some refl

pub functions_end : functions_fault [] ≡ None
unfolding functions_fault
functions_end = refl

pub all_with_last : {X : Type 0} (P : X → Type 0) (xs : List X) (x : X) → AllByRecursion P xs → P x
    → AllByRecursion P (xs ++ x ∷ [])
all_with_last P [] x all last = (last, tt)
all_with_last P (y ∷ ys) x all last = (all.0, all_with_last P ys x all.1 last)
