-- What a holder has and knows: what a view says of a frame, and which frames it reaches.
use Rattle.std.specs.Prelude.{◌≡◌, ℕ, zero, suc, ◌+◌, ◌<◌, ◌≤◌, ◌==◌, ◌⊎◌, ◌||◌, ◌^◌}
use Rattle.std.specs.Prelude.{Bool, true, false, if◌then◌else◌, List, [], ◌∷◌, ◌++◌, length}
use Rattle.std.specs.Prelude.{replicate, slice_index}
use Rattle.frame_model.specs.declared.kind.Kind.{Kind}
use Rattle.frame_model.specs.declared.kind.Kind.TheVariants.{Data, Leaf, Mid, Root}
use Rattle.frame_model.specs.declared.view.Known.{Known}
use Rattle.frame_model.specs.declared.view.View.{View}
use Rattle.frame_model.specs.Words.{kind_number, depth, target, IsEntryAt}

-- x stands in the list
abbrev pub Has : ℕ → List ℕ → Type 0
Has x [] = ⊥
Has x (y ∷ ys) = (x ≡ y) ⊎ Has x ys

abbrev pub one_if : Bool → ℕ
one_if true = 1
one_if false = 0

-- how often x stands in the list
abbrev pub times : ℕ → List ℕ → ℕ
times x [] = 0
times x (y ∷ ys) = one_if (x == y) + times x ys

-- the same as a test
abbrev pub has : ℕ → List ℕ → Bool
has x [] = false
has x (y ∷ ys) = (x == y) || has x ys

-- those of the second list that stand in the first, and those that don't
abbrev pub among : List ℕ → List ℕ → List ℕ
among gs [] = []
among gs (x ∷ xs) = if has x gs then x ∷ among gs xs else among gs xs

abbrev pub without : List ℕ → List ℕ → List ℕ
without gs [] = []
without gs (x ∷ xs) = if has x gs then without gs xs else x ∷ without gs xs

-- all but the first x
abbrev pub less_one : ℕ → List ℕ → List ℕ
less_one x [] = []
less_one x (y ∷ ys) = if x == y then ys else y ∷ less_one x ys

-- ---- what a view says of a frame

-- 512 words of 0
unfoldable pub blank_words : List ℕ
blank_words = replicate 512 0

-- a frame of which nothing was written
abbrev pub blank : ℕ → Known
blank f = record { frame = f; kind = Data; words = blank_words }

-- the newest that is known of f; a frame of which nothing is known is blank
abbrev pub known_of : List Known → ℕ → Known
known_of [] f = blank f
known_of (k ∷ ks) f = if k.frame == f then k else known_of ks f

abbrev pub kind_of : View → ℕ → Kind
kind_of v f = (known_of v.known f).kind

abbrev pub words_of : View → ℕ → List ℕ
words_of v f = (known_of v.known f).words

abbrev pub word_of : View → ℕ → ℕ → ℕ
word_of v f i = slice_index (words_of v f) i

-- all that isn't known of f
abbrev pub forget : ℕ → List Known → List Known
forget f [] = []
forget f (k ∷ ks) = if k.frame == f then forget f ks else k ∷ forget f ks

-- ---- reach

-- the frames that the entries among these words name
abbrev pub targets : List ℕ → List ℕ
targets [] = []
targets (w ∷ ws) = if w == 0 then targets ws else target w ∷ targets ws

-- the frames that a frame's entries name. Data has none
abbrev pub targets_by_kind : Kind → List ℕ → List ℕ
targets_by_kind Data ws = []
targets_by_kind Leaf ws = targets ws
targets_by_kind Mid ws = targets ws
targets_by_kind Root ws = targets ws

abbrev pub targets_of : Known → List ℕ
targets_of k = targets_by_kind k.kind k.words

-- g is a table, and an entry of it names f, as v knows it
abbrev pub Names : View → ℕ → ℕ → Type 0
Names v g f = Has f (targets_of (known_of v.known g))

-- the frames one link down
abbrev pub children : List Known → List ℕ → List ℕ
children ks [] = []
children ks (f ∷ fs) = targets_of (known_of ks f) ++ children ks fs

-- these frames, and those at most n links down from them
unfoldable pub within : List Known → ℕ → List ℕ → List ℕ
within ks zero fs = fs
within ks (suc n) fs = fs ++ within ks n (children ks fs)

-- the frames that a view owns or refers to, and those at most `depth` links down
abbrev pub reach : View → List ℕ
reach v = within v.known depth (v.owned ++ v.references)

-- f is owned, and no reference and no entry of an owned table names it: its count is 0
pub record IsLoose (v : View) (f : ℕ) : Type 0 where
  pub owned : Has f v.owned
  pub unreferred : Has f v.references → ⊥
  pub unnamed : Has f (children v.known v.owned) → ⊥

-- how often the references of v and the entries of tables that it owns name f
abbrev pub name_count : View → ℕ → ℕ
name_count v f = times f v.references + times f (children v.known v.owned)

-- no reference, and of what is owned each frame is of data
pub record OwnsDataAlone (v : View) : Type 0 where
  pub unreferring : v.references ≡ []
  pub kinds : (f : ℕ) → Has f v.owned → kind_of v f ≡ Data

-- v owns every frame, each of count 0
abbrev pub OwnsAll : View → Type 0
OwnsAll v = (f : ℕ) → f < v.frames → IsLoose v f

-- ---- which views there are

abbrev pub most_references : ℕ
most_references = 16

-- at most 16 references, and nothing without a stake
pub record IsStaked (v : View) : Type 0 where
  pub few : length v.references ≤ most_references
  pub spent : v.stake ≡ 0 → (v.owned ≡ []) × (v.references ≡ [])

-- the word i of f, as it is known, is an entry of f's kind, and names a frame of the kind below
pub record IsEntryOf (v : View) (f i : ℕ) : Type 0 where
  pub form : IsEntryAt (kind_number (kind_of v f)) (word_of v f i)
  pub below :
      kind_number (kind_of v (target (word_of v f i))) + 1 ≡ kind_number (kind_of v f)

-- what each view under the rule is by itself
pub record IsSound (v : View) : Type 0 where
  pub inside : (f : ℕ) → Has f (reach v) → f < v.frames
  pub whole : (f : ℕ) → Has f (reach v) → length (words_of v f) ≡ 512
  pub entries : (f i : ℕ) → Has f (reach v) → i < 512 → 0 < kind_number (kind_of v f)
      → (word_of v f i ≡ 0 → ⊥) → IsEntryOf v f i
  -- no table that it reaches and doesn't own names a frame that it owns
  pub walled : (f g : ℕ) → Has f v.owned → Has g (reach v) → (Has g v.owned → ⊥)
      → Names v g f → ⊥
  -- a frame that it owns, and that an entry names, has no reference
  pub single : (f g : ℕ) → Has f v.owned → Has g (reach v) → Names v g f
      → Has f v.references → ⊥
  -- it has a frame once
  pub once : (f : ℕ) → times f v.owned ≤ 1
  pub staked : IsStaked v

-- ---- what the steps make of a view

-- the numbers below n, the largest first
unfoldable pub numbers_below : ℕ → List ℕ
numbers_below zero = []
numbers_below (suc n) = n ∷ numbers_below n

abbrev pub whole_stake : ℕ
whole_stake = 2 ^ 40

-- the holder of a new table owns all frames, and all of them are blank
abbrev pub first_view : ℕ → View
first_view n = record {
  frames = n;
  owned = numbers_below n;
  references = [];
  known = [];
  stake = whole_stake;
}

-- f is now known to have this kind and these words
abbrev pub with_known : View → ℕ → Kind → List ℕ → View
with_known v f kind words = record v {
  known = record { frame = f; kind = kind; words = words } ∷ forget f v.known;
}

-- what is known of each of these frames
abbrev pub sights : List Known → List ℕ → List Known
sights ks [] = []
sights ks (f ∷ fs) =
    record { frame = f; kind = (known_of ks f).kind; words = (known_of ks f).words } ∷ sights ks fs

-- a part of what v has, with all that it knows
abbrev pub part_of : View → List ℕ → List ℕ → ℕ → View
part_of v owned references stake =
    record v { owned = owned; references = references; stake = stake }
