use Rattle.std.proofs.Common.{◌≡◌}
use Rattle.toml.specs.View.{members_view}
use Rattle.plan_tables.specs.Keys.{first_other}
use Rattle.plan_tables.proofs.members.check_keys.Given as goal

abbrev pub invariant-members : goal.invariant-members
invariant-members l =
    (goal.iterator-members).can_next l.text-iterator
    × (goal.iterator-members).is_finite l.text-iterator
    × (first_other l.keys (members_view l.text-iterator)
    ≡ first_other l.keys (members_view l.table.entries))
