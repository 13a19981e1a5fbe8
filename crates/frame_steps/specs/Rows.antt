-- The views of a test: four frames, of which frame 1 becomes a leaf table that names frame 0.
use Rattle.frame_model.specs.declared.kind.Kind.TheVariants.{Leaf}
use Rattle.frame_model.specs.declared.view.View.{View}
use Rattle.frame_model.specs.Views.{first_view}
use Rattle.frame_words.specs.Steps.{dressed}
use Rattle.frame_steps.specs.Counted.{entered, gained}

abbrev pub leaf_view : View
leaf_view = dressed (first_view 4) 1 Leaf

abbrev pub referred_view : View
referred_view = gained leaf_view 0

abbrev pub named_view : View
named_view = entered referred_view 1 0 471

abbrev pub unnamed_view : View
unnamed_view = entered named_view 1 0 0
