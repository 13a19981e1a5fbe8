use Rattle.std.proofs.Common.{◌≡◌, ℕ, List, None, nat_eq, sym, subst}
use Rattle.std.specs.Map.{lookup}
use Rattle.cache_lists.specs.Recent.{Recent}
use Rattle.slot_lists.proofs.Fewer.{none_fewer}
use Rattle.slot_lists_tests.proofs.tests.kept_anew.Goals as goal

pub keep-requires-clause-absent : goal.keep-requires-clause-absent
keep-requires-clause-absent c =
    let test = nat_eq c.args.k in
    let es = c.args.layers.now.entries in
    let absent : lookup test es ≡ None = sym c.in-None.ensures.taken in
    subst (λ (s : Recent ℕ ℕ). lookup test s.entries ≡ None) (sym c.in-None.ensures.rest)
    (subst (λ (xs : List (ℕ × ℕ)). lookup test xs ≡ None) (sym (none_fewer test es absent)) absent)
