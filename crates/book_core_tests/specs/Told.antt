-- What the stand-ins tell of themselves.
use Rattle.std.specs.Prelude.{ℕ, List, Option}
use Rattle.machine_model.specs.declared.hart.Hart.{Hart}
use Rattle.space_api.specs.Stores.{Frozen}
use Rattle.space_api.specs.Told.{ParkedContext, KeptLayer}
use Rattle.space_api.specs.declared.given.Given.{Given}

-- a context of that number and function, at that layer, which served these and has so many spares
abbrev pub parked_of : (id function : ℕ) → (layer : Option ℕ) → List Given → (spares : ℕ)
    → ParkedContext
parked_of id function layer served spares = record {
  id = id;
  function = function;
  layer = layer;
  served = served;
  spares = spares;
}

-- a layer of that number and start, with that hart and memory
abbrev pub kept_of : (number : Option ℕ) → (start : ℕ) → Hart → Frozen → KeptLayer
kept_of number start hart memory = record {
  number = number;
  start = start;
  hart = hart;
  memory = memory;
}
