use Rattle.std.proofs.Common.{◌≡◌, ℕ, ◌-◌, ◌≤◌, ◌<◌}
use Rattle.image_model.specs.Pages.{page_of}
use Rattle.machine_model.specs.Machine.{address}
use Rattle.plain_space.specs.Space.{flat_in, HasPage, IsSound}
use Rattle.plain_space.proofs.pages.Pages.make_pages.Given as goal

abbrev pub invariant-parts : goal.invariant-parts
invariant-parts l = record {
  sound : IsSound l.self;
  flat : flat_in l.self ≡ flat_in l.fn.self;
  made : (i : ℕ) → i < l.done → HasPage l.self (page_of (address l.at i));
  most : l.done ≤ l.size;
}

abbrev pub decreases-parts : goal.decreases-parts
decreases-parts l = l.size - l.done
