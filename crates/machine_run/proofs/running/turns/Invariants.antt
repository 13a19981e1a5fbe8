use Rattle.std.proofs.Common.{◌≡◌, ◌+◌, ◌-◌, ◌≤◌, true}
use Rattle.space_api.specs.Flat.{machine_of}
use Rattle.space_api.specs.Frames.{Spent}
use Rattle.machine_run.specs.Continued.{limits_of, Continues}
use Rattle.machine_run.proofs.running.turns.Given as goal

-- so many instructions were counted, and no stop was met before
abbrev pub invariant-turns : goal.invariant-turns
invariant-turns g l = record {
  within : l.number ≤ l.part.until;
  continues : Continues l.fn.ports.clock (limits_of l.part.limits) l.part.from
      (machine_of l.fn.hart (g.S.Space.flat l.fn.space) l.fn.ports.traffic) l.number
      (machine_of l.hart (g.S.Space.flat l.space) l.ports.traffic);
  ticks : l.steps + l.part.from ≡ l.fn.steps + l.number;
  clock : l.ports.clock ≡ l.fn.ports.clock;
  resting : l.hart.resting ≡ l.fn.hart.resting;
  spent : Spent g.S.Space.takes_frames (g.S.Space.spares l.fn.space)
      (g.S.Space.flat l.fn.space).written (g.S.Space.spares l.space)
      (g.S.Space.flat l.space).written;
  finished : g.S.Space.finished l.space ≡ true;
  stake : g.S.Held.stake l.space ≡ g.S.Held.stake l.fn.space;
  span : g.S.Held.span l.space ≡ g.S.Held.span l.fn.space;
}

abbrev pub decreases-turns : goal.decreases-turns
decreases-turns g l = l.part.until - l.number
