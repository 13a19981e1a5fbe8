-- The views of a test: of four frames, frame 3 goes to a new holder, which writes it.
use Rattle.frame_model.specs.declared.view.View.{View}
use Rattle.frame_model.specs.Views.{first_view}
use Rattle.frame_words.specs.declared.part.Part.{Part}
use Rattle.frame_words.specs.declared.part.Part.TheVariants.{Pile}
use Rattle.frame_words.specs.Steps.{put, kept_of, given_of}

-- frame 3 alone
abbrev pub third : Part
third = Pile (record { 0 = 3 }) 1 5

abbrev pub kept_view : View
kept_view = kept_of third (first_view 4)

abbrev pub given_view : View
given_view = given_of third (first_view 4)

abbrev pub written_view : View
written_view = put given_view 3 7 99
