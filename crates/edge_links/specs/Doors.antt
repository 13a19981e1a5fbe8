-- What a door tells of the connections that it accepted, where it tells it.
use Rattle.std.specs.Prelude.{◌≡◌, ℕ, ◌+◌, ◌<◌, List, ◌∷◌, [], ◌++◌, length}
use Rattle.std.specs.Prelude.{Option, Some, None, IfSome}
use Rattle.edge_streams.specs.Faults.{next_count}

-- a connection that was served: the bytes that were left to read when it was accepted, all bytes
-- that it was sent, and how many of its calls failed
pub record Served : Type 0 where
  pub held : List ℕ
  pub sent : List ℕ
  pub faults : ℕ

-- how many calls of accept answered Ok, how many Failed, and the served connections in the order
-- in which they were finished
pub record DoorLog : Type 0 where
  pub accepted : ℕ
  pub refused : ℕ
  pub finished : List Served

-- the log after an accept that answered Ok
abbrev pub after_accept : DoorLog → DoorLog
after_accept log =
    record { accepted = log.accepted + 1; refused = log.refused; finished = log.finished }

-- the log after an accept that failed
abbrev pub after_refusal : DoorLog → DoorLog
after_refusal log =
    record { accepted = log.accepted; refused = next_count log.refused; finished = log.finished }

-- the log after a connection was finished
abbrev pub after_finish : DoorLog → Served → DoorLog
after_finish log served = record {
  accepted = log.accepted;
  refused = log.refused;
  finished = log.finished ++ served ∷ [];
}

-- the log stayed as it was
abbrev pub KeepsLog : Option DoorLog → Option DoorLog → Type 0
KeepsLog None after = Unit {0}
KeepsLog (Some log) after = after ≡ Some log

-- a connection was accepted
abbrev pub Accepts : Option DoorLog → Option DoorLog → Type 0
Accepts None after = Unit {0}
Accepts (Some log) after = after ≡ Some (after_accept log)

-- an accept failed
abbrev pub Refuses : Option DoorLog → Option DoorLog → Type 0
Refuses None after = Unit {0}
Refuses (Some log) after = after ≡ Some (after_refusal log)

-- A connection was finished, which held and was sent these bytes and failed so many times. It is
-- told where fewer were finished than accepted.
abbrev pub Finishes : Option (List ℕ) → Option (List ℕ) → ℕ → Option DoorLog → Option DoorLog
    → Type 0
Finishes held sent faults None after = Unit {0}
Finishes held sent faults (Some log) after = IfSome held (λ all. IfSome sent (λ out.
    length log.finished < log.accepted
    → after ≡ Some (after_finish log (record { held = all; sent = out; faults = faults }))))
