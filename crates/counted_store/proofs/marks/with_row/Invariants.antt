use Rattle.std.proofs.Common.{◌≡◌, ℕ, ◌-◌}
use Rattle.space_laws.specs.Growth.{with_pages}
use Rattle.counted_space.specs.Marks.{is_marked}
use Rattle.counted_store.proofs.marks.with_row.Given as goal

abbrev pub invariant-loop-page : goal.invariant-loop-page
invariant-loop-page l =
    (page : ℕ) → is_marked l.all.items page
    ≡ with_pages l.first (l.page - l.first) (is_marked l.pages) page
