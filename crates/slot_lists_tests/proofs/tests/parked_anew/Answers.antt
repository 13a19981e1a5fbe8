use Rattle.std.proofs.Common.{◌≡◌, ℕ, List, Option, None, option_map, nat_eq, sym, subst}
use Rattle.std.specs.Map.{lookup}
use Rattle.cache_lists.specs.Recent.{Recent}
use Rattle.slot_lists.specs.Lists.{Waiting}
use Rattle.slot_lists.proofs.Fewer.{none_fewer}
use Rattle.slot_lists.proofs.Changing.{map_none}
use Rattle.slot_lists_tests.proofs.tests.parked_anew.Goals as goal

pub park-requires-clause-absent : goal.park-requires-clause-absent
park-requires-clause-absent c =
    let test = nat_eq c.args.id in
    let es = c.args.idle.now.entries in
    let absent : lookup test es ≡ None = map_none (λ (e : Waiting ℕ). e.context) (lookup test es)
    (sym c.in-None.ensures.taken) in
    subst (λ (s : Recent ℕ (Waiting ℕ)). lookup test s.entries ≡ None) (sym c.in-None.ensures.rest)
    (subst (λ (xs : List (ℕ × Waiting ℕ)). lookup test xs ≡ None) (sym (none_fewer test es absent))
    absent)
