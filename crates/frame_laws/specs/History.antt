-- Steps of holders on a table of frames, one after the other: of eight kinds, each as its call
-- asks, and with what its call ensures.
use Rattle.std.specs.Prelude.{◌≡◌, ℕ, ◌+◌, ◌*◌, ◌-◌, ◌%◌, ◌^◌, ◌<◌, ◌≤◌, List, [], ◌∷◌, ◌++◌}
use Rattle.std.specs.Prelude.{length, replicate, slice_index, slice_set}
use mathlib.Core.Option.{some}
use lib.ListN.{get_elem?}
use Rattle.atomic_table.specs.Table.{State, opening}
use Rattle.frame_model.specs.declared.holding.Holding.{Holding}
use Rattle.frame_model.specs.declared.kind.Kind.{Kind}
use Rattle.frame_model.specs.declared.kind.Kind.TheVariants.{Data}
use Rattle.frame_model.specs.declared.view.View.{View}
use Rattle.frame_model.specs.Holdings.{held, with_view}
use Rattle.frame_model.specs.Words.{frames_in, meta_place, word_place, kind_number, kind_at}
use Rattle.frame_model.specs.Views.{Has, kind_of, reach, first_view, IsLoose, most_references}
use Rattle.frame_words.specs.declared.part.Part.{Part}
use Rattle.frame_words.specs.Steps.{put, dressed, IsClear, stake_of, kept_of, given_of, IsThere}
use Rattle.frame_words.specs.Steps.{joined, spent}
use Rattle.frame_steps.specs.Counted.{entered, MayStand, HasRoom, gained, lost, lost_at}

-- the words of a table, and what each holder has
abbrev pub Table : Type 0
Table = State (Unit {0}) Holding

-- a new table of n frames: its words are 0, and its one holder owns all
abbrev pub new_table : ℕ → Table
new_table n = opening (replicate (n * 513) 0) [] (held (first_view n))

-- the holder of this number has h
abbrev pub Holds : Table → ℕ → Holding → Type 0
Holds s id h = get_elem? s.views id ≡ some h

-- a step of one of the eight kinds
pub data FrameStep : Type 0 where
  -- at a word or the meta word of a frame
  peeks : ℕ → FrameStep
  -- a frame, the number of a word, and the word
  puts : ℕ → ℕ → ℕ → FrameStep
  dresses : ℕ → Kind → FrameStep
  -- a table, the number of a word, and the entry
  enters : ℕ → ℕ → ℕ → FrameStep
  gains : ℕ → FrameStep
  loses : ℕ → FrameStep
  splits : Part → FrameStep
  -- the number of the other holder, and what it has
  joins : ℕ → Holding → FrameStep

-- whose step it is, what that holder has, and the step
pub record Turn : Type 0 where
  pub id : ℕ
  pub holding : Holding
  pub step : FrameStep

-- what the call of each kind asks of the view of its holder
unfoldable pub MayStep : Table → ℕ → View → FrameStep → Type 0
MayStep s id v (peeks f) = Has f (reach v)
MayStep s id v (puts f i word) = Has f v.owned × (kind_of v f ≡ Data) × (i < 512)
MayStep s id v (dresses f kind) = IsLoose v f × IsClear v f
MayStep s id v (enters f i word) =
    Has f v.owned × (0 < kind_number (kind_of v f)) × (i < 512) × MayStand v f word
    × HasRoom v f i word
MayStep s id v (gains f) = Has f (reach v) × (length v.references < most_references)
MayStep s id v (loses f) = Has f v.references
MayStep s id v (splits part) = IsThere part v × (1 ≤ stake_of part) × (stake_of part < v.stake)
MayStep s id v (joins other k) =
    Holds s other k × (other ≡ id → ⊥)
    × (length v.references + length k.view.references ≤ most_references)
    × (length s.words ≡ v.frames * 513)

abbrev pub MayTake : Table → Turn → Type 0
MayTake s t = Holds s t.id t.holding × MayStep s t.id t.holding.view t.step

-- one word is another, and so is one holder's view
abbrev pub with_word : Table → ℕ → ℕ → ℕ → Holding → View → Table
with_word s place word id h v = record {
  words = slice_set s.words place word;
  homes = s.homes;
  views = slice_set s.views id (with_view h v);
}

-- a meta word with one more and one less in its count
abbrev pub one_more : ℕ → ℕ
one_more meta = (meta + 256) % 2 ^ 64

abbrev pub one_less : ℕ → ℕ
one_less meta = (meta + (2 ^ 64 - 256)) % 2 ^ 64

-- the meta word of f
abbrev pub meta_of : Table → ℕ → ℕ
meta_of s f = slice_index s.words (meta_place f)

-- the table after the step
unfoldable pub after_step : Table → ℕ → Holding → FrameStep → Table
after_step s id h (peeks f) = s
after_step s id h (puts f i word) =
    with_word s (word_place f i) word id h (put h.view f i word)
after_step s id h (dresses f kind) =
    with_word s (meta_place f) (kind_number kind) id h (dressed h.view f kind)
after_step s id h (enters f i word) =
    with_word s (word_place f i) word id h (entered h.view f i word)
after_step s id h (gains f) =
    with_word s (meta_place f) (one_more (meta_of s f)) id h (gained h.view f)
after_step s id h (loses f) =
    with_word s (meta_place f) (one_less (meta_of s f)) id h
    (lost (lost_at (meta_of s f)) h.view f)
after_step s id h (splits part) = record {
  words = s.words;
  homes = s.homes;
  views = slice_set s.views id (with_view h (kept_of part h.view))
      ++ held (given_of part h.view) ∷ [];
}
after_step s id h (joins other k) = record {
  words = s.words;
  homes = s.homes;
  views = slice_set (slice_set s.views id (with_view h (joined h.view k.view))) other (held spent);
}

abbrev pub after : Table → Turn → Table
after s t = after_step s t.id t.holding t.step

-- the step spends this holder
unfoldable pub Spends : FrameStep → ℕ → Type 0
Spends (peeks f) id = ⊥
Spends (puts f i word) id = ⊥
Spends (dresses f kind) id = ⊥
Spends (enters f i word) id = ⊥
Spends (gains f) id = ⊥
Spends (loses f) id = ⊥
Spends (splits part) id = ⊥
Spends (joins other k) id = other ≡ id

-- ---- many steps

abbrev pub MayTakeAll : Table → List Turn → Type 0
MayTakeAll s [] = Unit {0}
MayTakeAll s (t ∷ ts) = MayTake s t × MayTakeAll (after s t) ts

abbrev pub after_all : Table → List Turn → Table
after_all s [] = s
after_all s (t ∷ ts) = after_all (after s t) ts

-- the holder of this number reaches f, and doesn't own it
pub record IsShared (s : Table) (id f : ℕ) : Type 0 where
  pub holding : Holding
  pub at : Holds s id holding
  pub reached : Has f (reach holding.view)
  pub unowned : Has f holding.view.owned → ⊥

-- so it is before each of these steps
abbrev pub IsSharedBefore : Table → List Turn → ℕ → ℕ → Type 0
IsSharedBefore s [] id f = Unit {0}
IsSharedBefore s (t ∷ ts) id f = IsShared s id f × IsSharedBefore (after s t) ts id f

-- f has in the second table the kind and the words that it has in the first
pub record IsSame (s u : Table) (f : ℕ) : Type 0 where
  pub kind : kind_at (frames_in u.words) f ≡ kind_at (frames_in s.words) f
  pub word : (i : ℕ) → i < 512 → (frames_in u.words).word f i ≡ (frames_in s.words).word f i
