use Rattle.std.proofs.Common.{◌≡◌, ◌-◌, ◌≤◌, length, take}
use Rattle.machine_model.specs.Machine.{bytes_at}
use Rattle.plain_space.specs.Space.{flat_in}
use Rattle.plain_space.proofs.pages.Pages.read_bytes.Given as goal

abbrev pub invariant-parts : goal.invariant-parts
invariant-parts l = record {
  filled : take l.done l.buf ≡ bytes_at (flat_in l.self).memory l.at l.done;
  most : l.done ≤ length l.initial.buf;
}

abbrev pub decreases-parts : goal.decreases-parts
decreases-parts l = length l.initial.buf - l.done
