-- A layer's table.
use Rattle.std.specs.Prelude.{◌≡◌, ◌≤◌, ◌%◌, ℕ, ◌-◌, ◌^◌, nat_le, Bool, ◌&&◌, if◌then◌else◌, List}
use Rattle.std.specs.Prelude.{[], ◌∷◌, length}
use Rattle.std.specs.Prelude.{Option, Some, None, option_and_then, unwrap_or}
use Rattle.std.specs.Result.{result_ok}
use Rattle.std.specs.List.{list_all}
use Rattle.hex.specs.Hex.{decode_of}
use Rattle.toml.specs.Data.{Data, Items, no_items, item, Members, as_str, as_array}
use Rattle.machine_model.specs.Hypercall.{packet_limit}
use Rattle.plan_model.specs.Outline.{IsFrom}
use Rattle.plan_tables.specs.Faults.{first_fault, unknown_fault}
use Rattle.plan_tables.specs.Keys.{layer_keys, value_at}
use Rattle.plan_tables.specs.Values.{number_fault, number_at, text_fault, text_at, text_shape}
use Rattle.plan_tables.specs.declared.fault.PlanFault.{PlanFault}
use Rattle.plan_tables.specs.declared.fault.PlanFault.TheVariants as faults
use Rattle.plan_tables.specs.declared.key.Key.TheVariants as keys
use Rattle.plan_tables.specs.declared.layer_table.Base.{Base}
use Rattle.plan_tables.specs.declared.layer_table.Base.TheVariants.{Image, Below}
use Rattle.plan_tables.specs.declared.layer_table.LayerText.{LayerText}
use Rattle.plan_tables.specs.declared.rule.NumberRule.{NumberRule}

-- ---- what it stands on: exactly one of an image and a layer below

abbrev pub base_shape : (image below : Option Data) → Option PlanFault
base_shape None None = Some (faults.Missing keys.Image)
base_shape (Some image) (Some below) = Some (faults.Missing keys.Image)
base_shape (Some image) None = text_shape keys.Image (as_str image)
base_shape None (Some below) = text_shape keys.Below (as_str below)

abbrev pub some_text : Option Data → List ℕ
some_text value = unwrap_or (option_and_then as_str value) []

abbrev pub base_of : (image below : Option Data) → Base
base_of None below = Below (some_text below)
base_of (Some image) below = Image (some_text (Some image))

unfoldable pub base_fault : Members → Option PlanFault
base_fault members = base_shape (value_at keys.Image members) (value_at keys.Below members)

unfoldable pub base_at : Members → Base
base_at members = base_of (value_at keys.Image members) (value_at keys.Below members)

-- ---- where its run stops

abbrev pub trigger : NumberRule
trigger = record {
  key = keys.Trigger;
  lowest = 4096;
  highest = 2 ^ 38 - 4;
  step = 4;
  otherwise = None;
}

-- ---- what its run is given

-- the packet that hexadecimal digits spell
abbrev pub packet_of : Data → Option (List ℕ)
packet_of value = option_and_then (λ text. result_ok (decode_of text)) (as_str value)

abbrev pub with_packet : Option (List ℕ) → Option (List (List ℕ)) → Option (List (List ℕ))
with_packet None packets = None
with_packet (Some packet) None = None
with_packet (Some packet) (Some packets) = Some (packet ∷ packets)

-- the packets of all items, where each is one
abbrev pub packets_of : Items → Option (List (List ℕ))
packets_of no_items = Some []
packets_of (item value rest) = with_packet (packet_of value) (packets_of rest)

abbrev pub most_packets : ℕ
most_packets = 16

-- not too many, and none too long
abbrev pub are_few : List (List ℕ) → Bool
are_few packets =
    nat_le (length packets) most_packets
    && list_all (λ packet. nat_le (length packet) packet_limit) packets

abbrev pub packets_shape : Option (List (List ℕ)) → Option PlanFault
packets_shape None = Some (faults.Shape keys.Packets)
packets_shape (Some packets) = if are_few packets then None else Some (faults.Range keys.Packets)

abbrev pub value_packets : Option Data → Option (List (List ℕ))
value_packets None = Some []
value_packets (Some value) = option_and_then packets_of (as_array value)

unfoldable pub packets_fault : Members → Option PlanFault
packets_fault members = packets_shape (value_packets (value_at keys.Packets members))

unfoldable pub packets_at : Members → List (List ℕ)
packets_at members = unwrap_or (value_packets (value_at keys.Packets members)) []

-- ---- the whole

unfoldable pub layer_fault : Members → Option PlanFault
layer_fault members = first_fault (
    unknown_fault layer_keys members
    ∷ text_fault keys.Name members
    ∷ base_fault members
    ∷ number_fault trigger members
    ∷ packets_fault members
    ∷ [])

unfoldable pub layer_at : Members → LayerText
layer_at members = record {
  name = text_at keys.Name members;
  base = base_at members;
  trigger = number_at trigger members;
  packets = packets_at members;
}

-- what holds of a layer without fault
pub record IsSound (l : LayerText) : Type 0 where
  pub trigger : IsFrom 4096 (2 ^ 38 - 4) l.trigger
  pub aligned : l.trigger % 4 ≡ 0
  pub packets : length l.packets ≤ 16
