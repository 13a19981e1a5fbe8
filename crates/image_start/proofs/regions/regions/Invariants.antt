use Rattle.std.proofs.Common.{◌-◌, ◌≤◌}
use Rattle.image_model.specs.Pages.{page_limit}
use Rattle.image_model.specs.StartOf.{page_permission}
use Rattle.image_start.proofs.Runs.{Continues}
use Rattle.image_start.proofs.regions.regions.Given as goal

abbrev pub invariant-regions : goal.invariant-regions
invariant-regions l = record {
  within : l.page ≤ page_limit;
  done : Continues (page_permission l.segments l.stack) l.page l.regions.items;
}

abbrev pub decreases-regions : goal.decreases-regions
decreases-regions l = page_limit - l.page
