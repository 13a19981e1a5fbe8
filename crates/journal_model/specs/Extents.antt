-- What bounds a journal.
use Rattle.std.specs.Prelude.{ℕ, List, Option}

-- a function's image, and its layers from the lowest up
pub record Stack : Type 0 where
  pub start : ℕ
  pub layers : List ℕ

-- rooms, limits and functions, as the type `Sizes` names them
pub record Extents : Type 0 where
  pub frames : ℕ
  pub root : ℕ
  pub idle : ℕ
  pub layers : ℕ
  pub uses : ℕ
  pub requests : ℕ
  pub clock : Option ℕ
  pub stacks : List Stack
