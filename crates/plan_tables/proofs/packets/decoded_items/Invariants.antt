use Rattle.std.proofs.Common.{◌≡◌, drop}
use Rattle.toml.specs.View.{items_view}
use Rattle.plan_tables.specs.Layers.{packets_of}
use Rattle.plan_tables.proofs.Prepending.{prepended}
use Rattle.plan_tables.proofs.packets.decoded_items.Given as goal

abbrev pub invariant-items : goal.invariant-items
invariant-items l =
    prepended l.all.items (packets_of (items_view (drop l.item-index l.items)))
    ≡ packets_of (items_view l.items)
