-- The rule as a table of words keeps it, and what each step tells the holder that takes it. A
-- step names its frame and word by the place of the word that it loads or stores.
use Rattle.std.specs.Prelude.{◌≡◌, ℕ, ◌*◌, ◌/◌, ◌%◌, ◌<◌, ◌≤◌, length}
use Rattle.atomic_table.specs.Table.{State, Me, Step}
use Rattle.frame_model.specs.declared.kind.Kind.{Kind}
use Rattle.frame_model.specs.declared.holding.Holding.{Holding}
use Rattle.frame_model.specs.Words.{frames_in, meta_place, word_place, kind_number}
use Rattle.frame_model.specs.Holdings.{views_of}
use Rattle.frame_model.specs.Views.{Has, kind_of, word_of, name_count}
use Rattle.frame_model.specs.Views.{OwnsDataAlone, OwnsAll, whole_stake, IsSound}
use Rattle.frame_model.specs.Rule.{FrameRule}
use Rattle.frame_words.specs.Steps.{put, dressed}

-- the table has 513 words a frame, and the rule of frames holds of them and of all views
pub record Kept (n : ℕ) (s : State (Unit {0}) Holding) : Type 0 where
  pub size : length s.words ≡ n * 513
  pub rule : FrameRule n (frames_in s.words) (views_of s.views)

abbrev pub Mine : Type 0
Mine = Me (Unit {0}) Holding

-- the view is as it was, and it told the word that was found
pub record Looked (s : Step (Unit {0})) (me : Mine) (found : ℕ) (now : Mine) : Type 0 where
  pub same : now ≡ me
  pub word : (f i : ℕ) → i < 512 → s.word ≡ word_place f i → found ≡ word_of me.0.view f i

-- the view is as it was, and it is sound
pub record LookedAgain (s : Step (Unit {0})) (me : Mine) (found : ℕ) (now : Mine) : Type 0 where
  pub same : now ≡ me
  pub sound : IsSound now.0.view

-- the view is as it was. Where it has the whole stake, owns data alone and refers to nothing, it
-- owns every frame at count 0
pub record LookedWhole (s : Step (Unit {0})) (me : Mine) (found : ℕ) (now : Mine) : Type 0 where
  pub same : now ≡ me
  pub all : OwnsDataAlone me.0.view → me.0.view.stake ≡ whole_stake → OwnsAll me.0.view

-- the view is as it was, and it told the kind in the meta word that was found. The count in it is
-- at least the number of the view's own names, and of an owned frame that number
pub record LookedAtMeta (s : Step (Unit {0})) (me : Mine) (found : ℕ) (now : Mine) : Type 0 where
  pub same : now ≡ me
  pub kind : (f : ℕ) → s.word ≡ meta_place f → found % 256 ≡ kind_number (kind_of me.0.view f)
  pub least : (f : ℕ) → s.word ≡ meta_place f → name_count me.0.view f ≤ found / 256
  pub own : (f : ℕ) → s.word ≡ meta_place f → Has f me.0.view.owned
      → found / 256 ≡ name_count me.0.view f

-- the view knows the word that was stored
pub record DidPut (s : Step (Unit {0})) (me : Mine) (found : ℕ) (now : Mine) : Type 0 where
  pub slots : now.1 ≡ me.1
  pub tally : now.0.tally ≡ me.0.tally
  pub view : (f i : ℕ) → i < 512 → s.word ≡ word_place f i → now.0.view ≡ put me.0.view f i s.first
  pub sound : IsSound now.0.view

-- the view knows the kind that was stored
pub record DidDress (s : Step (Unit {0})) (me : Mine) (found : ℕ) (now : Mine) : Type 0 where
  pub slots : now.1 ≡ me.1
  pub tally : now.0.tally ≡ me.0.tally
  pub view : (f : ℕ) (kind : Kind) → s.word ≡ meta_place f → s.first ≡ kind_number kind
      → now.0.view ≡ dressed me.0.view f kind
  pub sound : IsSound now.0.view
