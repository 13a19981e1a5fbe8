use Rattle.std.proofs.Common.{◌≡◌, ◌++◌, nat_le, length}
use Rattle.std.specs.List.{list_all}
use Rattle.std.specs.Vec.Iter.{into_iter_items}
use Rattle.machine_model.specs.Hypercall.{packet_limit}
use Rattle.plan_tables.proofs.packets.few_packets.Given as goal

abbrev pub invariant-packets : goal.invariant-packets
invariant-packets l =
    (goal.iterator-packets).can_next l.bytes-iterator
    × (goal.iterator-packets).is_finite l.bytes-iterator
    × (l.packets.items ++ into_iter_items l.bytes-iterator ≡ l.fn.all.items)
    × (list_all (λ packet. nat_le (length packet) packet_limit) (into_iter_items l.bytes-iterator)
    ≡ list_all (λ packet. nat_le (length packet) packet_limit) l.fn.all.items)
