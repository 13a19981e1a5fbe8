-- The views before and after each round.
use Rattle.std.specs.Prelude.{◌≡◌, ℕ}
use Rattle.frame_model.specs.declared.kind.Kind.TheVariants.{Data, Leaf}
use Rattle.frame_model.specs.declared.view.View.{View}
use Rattle.frame_model.specs.Views.{first_view}
use Rattle.frame_words.specs.declared.part.Part.{Part}
use Rattle.frame_words.specs.declared.part.Part.TheVariants.{Pile}
use Rattle.frame_words.specs.Steps.{put, dressed, kept_of, given_of, joined}
use Rattle.frame_steps.specs.Counted.{gained}

abbrev pub put_view : View
put_view = put (first_view 4) 0 7 99

-- the word 7 of frame 0 is x
abbrev pub put_at : ℕ → View
put_at x = put (first_view 4) 0 7 x

-- it is some number
abbrev pub IsPut : View → Type 0
IsPut v = (x : ℕ) × (v ≡ put_at x)

abbrev pub dressed_view : View
dressed_view = dressed (first_view 4) 1 Data

abbrev pub referred_view : View
referred_view = gained (dressed (first_view 4) 1 Leaf) 0

-- frame 3 alone
abbrev pub third : Part
third = Pile (record { 0 = 3 }) 1 5

abbrev pub filled_view : View
filled_view = put (first_view 4) 3 7 99

abbrev pub cut_view : View
cut_view = joined (kept_of third filled_view) (given_of third filled_view)
