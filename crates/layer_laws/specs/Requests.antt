-- Which requests there are, and their replies by how they end.
use Rattle.std.specs.Prelude.{ℕ, ◌^◌, ◌<◌, []}
use Rattle.layer_model.specs.Replies.{Reply, Ran, NoLayer}
use Rattle.machine_model.specs.Run.{End}
use Rattle.machine_model.specs.Valid.{IsPacket}
use Rattle.machine_model.specs.declared.stop.Stop.{Stop}
use Rattle.space_api.specs.declared.given.Given.{Given}

-- a packet that a machine can be given, with a word on the clock; every `Given` is one
pub record IsRequest (given : Given) : Type 0 where
  pub packet : IsPacket given.packet
  pub clock : given.clock < 2 ^ 64

-- the reply where the request's run ends so
abbrev pub run_reply : End → Reply
run_reply end = record {
  ending = Ran end.stop;
  number = end.number;
  packets = end.machine.sent;
  console = end.machine.console;
}

-- the reply where the layer of the number isn't there
abbrev pub miss_reply : ℕ → Stop → Reply
miss_reply number why =
    record { ending = NoLayer number why; number = 0; packets = []; console = [] }
