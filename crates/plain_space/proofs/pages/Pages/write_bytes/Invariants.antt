use Rattle.std.proofs.Common.{◌≡◌, ℕ, ◌-◌, ◌≤◌, ◌<◌, length, take}
use Rattle.image_model.specs.Pages.{page_of}
use Rattle.machine_model.specs.Machine.{address}
use Rattle.space_api.specs.Flat.{after_store}
use Rattle.plain_space.specs.Space.{flat_in, HasPage, IsSound}
use Rattle.plain_space.proofs.pages.Pages.write_bytes.Given as goal

abbrev pub invariant-parts : goal.invariant-parts
invariant-parts l = record {
  sound : IsSound l.self;
  flat : flat_in l.self ≡ after_store (flat_in l.fn.self) l.at (take l.done l.bytes);
  there : (i : ℕ) → i < length l.bytes → HasPage l.self (page_of (address l.at i));
  most : l.done ≤ length l.bytes;
}

abbrev pub decreases-parts : goal.decreases-parts
decreases-parts l = length l.bytes - l.done
