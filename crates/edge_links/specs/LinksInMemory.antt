-- What contracts see of a link and a door in memory.
use Rattle.std.specs.Prelude.{ℕ, List, [], Bool, Option, map, option_map}
use Rattle.edge_streams.specs.Memory.{Plan, without_faults}
use Rattle.edge_links.specs.Doors.{Served, DoorLog}

-- a link in memory: the bytes that it held when it was accepted, those that are left to read, those
-- that were sent, and the most that a call hands out or takes
pub record LinkState : Type 0 where
  pub held : List ℕ
  pub left : List ℕ
  pub sent : List ℕ
  pub piece : ℕ
  pub plan : Plan

-- the link as it is when it is accepted: nothing was sent, and no call failed
abbrev pub when_accepted : LinkState → LinkState
when_accepted link = record {
  held = link.left;
  left = link.left;
  sent = [];
  piece = link.piece;
  plan = without_faults link.plan;
}

-- what a door tells of a link that it was given back
abbrev pub served_link : LinkState → Served
served_link link = record { held = link.held; sent = link.sent; faults = link.plan.faults }

-- a door in memory: whether it listens, the links that are still to be accepted, how many were,
-- how many calls of accept failed, and those that were finished, in their order
pub record DoorState : Type 0 where
  pub listening : Bool
  pub waiting : List LinkState
  pub accepted : ℕ
  pub refused : ℕ
  pub finished : List LinkState
  pub plan : Plan

-- what a door in memory tells
abbrev pub door_log : DoorState → DoorLog
door_log door = record {
  accepted = door.accepted;
  refused = door.refused;
  finished = map served_link door.finished;
}
