use Rattle.std.proofs.Common.{◌≡◌, ◌-◌, ◌<◌, ◌≤◌, ℕ}
use Rattle.image_model.specs.Pages.{page_limit}
use Rattle.image_model.specs.StartOf.{page_permission}
use Rattle.image_start.proofs.regions.run_end.Given as goal

abbrev pub invariant-run : goal.invariant-run
invariant-run l = record {
  later : l.page < l.end;
  within : l.end ≤ page_limit;
  same : (q : ℕ) → l.page ≤ q → q < l.end
      → page_permission l.segments l.stack q ≡ page_permission l.segments l.stack l.page;
}

abbrev pub decreases-run : goal.decreases-run
decreases-run l = page_limit - l.end
