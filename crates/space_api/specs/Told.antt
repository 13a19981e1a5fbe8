-- What contexts and layers tell of themselves.
use Rattle.std.specs.Prelude.{ℕ, List, Option}
use Rattle.machine_model.specs.declared.hart.Hart.{Hart}
use Rattle.space_api.specs.Stores.{Frozen}
use Rattle.space_api.specs.declared.given.Given.{Given}

-- a context: its number, its function, the layer that it stands on, if any, what it has served, the
-- oldest first, and how many spares it holds
pub record ParkedContext : Type 0 where
  pub id : ℕ
  pub function : ℕ
  pub layer : Option ℕ
  pub served : List Given
  pub spares : ℕ

-- a layer: its number, or none where it is an image, its start, and the hart and the memory that
-- what stands on it begins with
pub record KeptLayer : Type 0 where
  pub number : Option ℕ
  pub start : ℕ
  pub hart : Hart
  pub memory : Frozen
