use Rattle.std.proofs.Common.{◌≡◌, ◌-◌, ◌<◌, ◌≤◌, true}
use Rattle.image_model.specs.Pages.{page_limit}
use Rattle.image_model.specs.StartOf.{page_permission, has_file_byte}
use Rattle.image_start.proofs.FilePages.{AreSoFar}
use Rattle.image_start.proofs.pages.pages.Given as goal

abbrev pub invariant-pages : goal.invariant-pages
invariant-pages l = record {
  within : l.page ≤ page_limit;
  file : l.page < page_limit → has_file_byte l.segments l.page ≡ true;
  done : AreSoFar l.segments (page_permission l.segments l.stack) l.page l.pages.items;
}

abbrev pub decreases-pages : goal.decreases-pages
decreases-pages l = page_limit - l.page
