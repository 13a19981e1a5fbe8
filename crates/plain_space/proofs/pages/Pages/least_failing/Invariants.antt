use Rattle.std.proofs.Common.{◌≡◌, ◌-◌, ◌≤◌}
use Rattle.image_model.specs.Pages.{page_of}
use Rattle.image_model.specs.Permission.{permission_in}
use Rattle.machine_model.specs.Machine as model
use Rattle.plain_space.specs.Use.{allows}
use Rattle.plain_space.proofs.pages.Pages.least_failing.Given as goal

abbrev pub invariant-parts : goal.invariant-parts
invariant-parts l = record {
  least : l.least ≡ model.least_failing
      (λ a. allows l.way (permission_in l.self.regions.items (page_of a))) l.at l.done;
  most : l.done ≤ l.size;
}

abbrev pub decreases-parts : goal.decreases-parts
decreases-parts l = l.size - l.done
