use Rattle.std.proofs.Common.{◌≡◌}
use Rattle.cache_lists.specs.Idle.{first_of}
use Rattle.cache_lists.proofs.idle_list.IdleList.find.Given as goal

-- the first context of the function is the first one of those that are left
abbrev pub invariant-contexts : goal.invariant-contexts
invariant-contexts l = first_of l.function l.self.entries ≡ first_of l.function l.id-iterator
