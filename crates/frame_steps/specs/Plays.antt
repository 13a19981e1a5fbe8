-- What each step on entries and counts tells the holder that takes it. A step names its frame and
-- word by the place of the word.
use Rattle.std.specs.Prelude.{◌≡◌, ℕ, ◌/◌, ◌<◌}
use Rattle.atomic_table.specs.Table.{Step}
use Rattle.frame_model.specs.Words.{meta_place, word_place}
use Rattle.frame_model.specs.Views.{Has, IsSound, IsLoose}
use Rattle.frame_words.specs.Plays.{Mine}
use Rattle.frame_steps.specs.Counted.{entered, gained, lost, lost_at, IsNamedTwice}

-- the view knows the entry that was stored
pub record DidEnter (s : Step (Unit {0})) (me : Mine) (found : ℕ) (now : Mine) : Type 0 where
  pub slots : now.1 ≡ me.1
  pub tally : now.0.tally ≡ me.0.tally
  pub view : (f i : ℕ) → i < 512 → s.word ≡ word_place f i
      → now.0.view ≡ entered me.0.view f i s.first
  pub sound : IsSound now.0.view

-- the view has one reference more
pub record DidGain (s : Step (Unit {0})) (me : Mine) (found : ℕ) (now : Mine) : Type 0 where
  pub slots : now.1 ≡ me.1
  pub tally : now.0.tally ≡ me.0.tally
  pub view : (f : ℕ) → s.word ≡ meta_place f → now.0.view ≡ gained me.0.view f
  pub sound : IsSound now.0.view

-- the view has one reference less, and owns the frame where its count was 1. Of an owned frame it
-- was 1, and is 0 then; of one with another name it was more
pub record DidLose (s : Step (Unit {0})) (me : Mine) (found : ℕ) (now : Mine) : Type 0 where
  pub slots : now.1 ≡ me.1
  pub tally : now.0.tally ≡ me.0.tally
  pub view : (f : ℕ) → s.word ≡ meta_place f → now.0.view ≡ lost (lost_at found) me.0.view f
  pub own : (f : ℕ) → s.word ≡ meta_place f → Has f me.0.view.owned → found / 256 ≡ 1
  pub shared : (f : ℕ) → s.word ≡ meta_place f → IsNamedTwice me.0.view f → found / 256 ≡ 1 → ⊥
  pub loose : (f : ℕ) → s.word ≡ meta_place f → found / 256 ≡ 1 → IsLoose now.0.view f
  pub sound : IsSound now.0.view
