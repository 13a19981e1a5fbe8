-- The views of a test: two holders that split a new table between them.
use Rattle.std.specs.Prelude.{◌≡◌, ◌+◌, ℕ, ◌-◌, []}
use Rattle.frame_model.specs.declared.view.View.{View}
use Rattle.frame_model.specs.Views.{whole_stake}
use Rattle.frame_words.specs.declared.part.Part.{Part}
use Rattle.frame_words.specs.declared.part.Part.TheVariants.{Pile}

-- the last of so many frames alone, with a stake of 5
abbrev pub last_of : ℕ → Part
last_of frames = Pile (record { 0 = frames - 1 }) 1 5

-- neither knows or refers to anything, and both stakes are the whole one
pub record IsParted (v w : View) : Type 0 where
  pub known : v.known ≡ []
  pub other_known : w.known ≡ []
  pub references : v.references ≡ []
  pub other_references : w.references ≡ []
  pub stake : v.stake + w.stake ≡ whole_stake
