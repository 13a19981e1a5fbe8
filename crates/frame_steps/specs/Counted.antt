-- What entries and references make of the view of the holder that takes a step. No other view
-- changes.
use Rattle.std.specs.Prelude.{◌≡◌, ℕ, ◌+◌, ◌/◌, ◌<◌, ◌≤◌, ◌⊎◌, ◌==◌, ◌||◌, ◌&&◌, Bool, true}
use Rattle.std.specs.Prelude.{false}
use Rattle.std.specs.Prelude.{if◌then◌else◌, List, [], ◌∷◌, ◌++◌, length, slice_set}
use Rattle.frame_model.specs.declared.view.View.{View}
use Rattle.frame_model.specs.Words.{kind_number, target, IsEntryAt}
use Rattle.frame_model.specs.Views.{kind_of, words_of, word_of, with_known, Has, has, without}
use Rattle.frame_model.specs.Views.{less_one, targets, children, reach, times, part_of}
use Rattle.frame_model.specs.Views.{most_references}
use Rattle.frame_words.specs.Steps.{tree_of}
use Rattle.frame_steps.specs.declared.lost.Lost.{Lost}
use Rattle.frame_steps.specs.declared.lost.Lost.TheVariants.{Owned, Shared}

-- ---- entries

-- the references without one to what the word names, where it is an entry
abbrev pub less_by : ℕ → List ℕ → List ℕ
less_by word references = if word == 0 then references else less_one (target word) references

-- the word i of f is this one. What it names was a reference, and what the old one named is one
unfoldable pub entered : View → ℕ → ℕ → ℕ → View
entered v f i word = record (with_known v f (kind_of v f) (slice_set (words_of v f) i word)) {
  references = targets (word_of v f i ∷ []) ++ less_by word v.references;
}

-- the word is an entry of a table of f's kind, and names a frame of the kind below to which the
-- view refers
pub record IsFreeEntry (v : View) (f word : ℕ) : Type 0 where
  pub form : IsEntryAt (kind_number (kind_of v f)) word
  pub below : kind_number (kind_of v (target word)) + 1 ≡ kind_number (kind_of v f)
  pub referred : Has (target word) v.references

-- 0, or such an entry
abbrev pub MayStand : View → ℕ → ℕ → Type 0
MayStand v f word = (word ≡ 0) ⊎ IsFreeEntry v f word

-- where an entry makes way for 0, there is room for one reference more
abbrev pub HasRoom : View → ℕ → ℕ → ℕ → Type 0
HasRoom v f i word =
    word ≡ 0 → (word_of v f i ≡ 0 → ⊥) → length v.references < most_references

-- ---- counts

-- a reference or an entry of an owned table names f. Of an owned frame this says that its count
-- isn't 0
abbrev pub is_counted : View → ℕ → Bool
is_counted v f = has f v.references || has f (children v.known v.owned)

-- f is owned, and its count isn't 0
unfoldable pub gives_up : View → ℕ → Bool
gives_up v f = has f v.owned && is_counted v f

-- what stays owned, with or without f and the frames below it
abbrev pub left_by : Bool → View → ℕ → List ℕ
left_by true v f = without (tree_of v f) v.owned
left_by false v f = v.owned

-- one reference more. An owned frame of another count than 0 is given up, with all owned frames
-- below it
unfoldable pub gained : View → ℕ → View
gained v f = part_of v (left_by (gives_up v f) v f) (f ∷ v.references) v.stake

-- f is owned, once
abbrev pub owning : List ℕ → ℕ → List ℕ
owning owned f = if has f owned then owned else f ∷ owned

-- one reference less. Where it was the last name of f, f is owned
unfoldable pub lost : Lost → View → ℕ → View
lost Owned v f = part_of v (owning v.owned f) (less_one f v.references) v.stake
lost Shared v f = part_of v v.owned (less_one f v.references) v.stake

-- f has another name than one reference of the view: a second one, or an entry in reach
pub data IsNamedTwice (v : View) (f : ℕ) : Type 0 where
  referred_twice : 2 ≤ times f v.references → IsNamedTwice v f
  linked : Has f (children v.known (reach v)) → IsNamedTwice v f

-- whether a meta word had count 1
abbrev pub lost_at : ℕ → Lost
lost_at meta = if meta / 256 == 1 then Owned else Shared
