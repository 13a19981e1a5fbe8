-- The words of frames: what a meta word says, which words are entries, and which entries name a
-- frame. A frame is a meta word and 512 words.
-- Entries are those of Sv39 (RISC-V Privileged Architecture, "Sv39: Page-Based 39-bit
-- Virtual-Memory System"): V 0, R 1, W 2, X 3, U 4, G 5, A 6, D 7, software bits 9 to 8, PPN 53
-- to 10.
use Rattle.std.specs.Prelude.{◌≡◌, ℕ, zero, suc, ◌+◌, ◌*◌, ◌/◌, ◌%◌, ◌^◌, ◌<◌, ◌≤◌, Bool, not}
use Rattle.std.specs.Prelude.{◌&&◌, ◌==◌, if◌then◌else◌, List, [], ◌∷◌, ◌++◌, slice_index}
use Rattle.frame_model.specs.declared.kind.Kind.{Kind}
use Rattle.frame_model.specs.declared.kind.Kind.TheVariants.{Data, Leaf, Mid, Root}

-- per frame its meta word, and its 512 words by their number
pub record Frames : Type 0 where
  pub meta : ℕ → ℕ
  pub word : ℕ → ℕ → ℕ

-- ---- frames in a row of words, 513 a frame

abbrev pub meta_place : ℕ → ℕ
meta_place f = f * 513

abbrev pub word_place : ℕ → ℕ → ℕ
word_place f i = f * 513 + (i + 1)

abbrev pub frames_in : List ℕ → Frames
frames_in words = record {
  meta = λ f. slice_index words (meta_place f);
  word = λ f i. slice_index words (word_place f i);
}

-- ---- meta words: the kind in bits 2 to 0, bits 7 to 3 are 0, the count in bits 63 to 8

-- kinds are numbered from the data up, so that an entry names a frame of the number below
abbrev pub kind_number : Kind → ℕ
kind_number Data = 0
kind_number Leaf = 1
kind_number Mid = 2
kind_number Root = 3

-- a root's number: so many links down, tables end
abbrev pub depth : ℕ
depth = kind_number Root

abbrev pub kind_at : Frames → ℕ → ℕ
kind_at m f = m.meta f % 8

abbrev pub count_at : Frames → ℕ → ℕ
count_at m f = m.meta f / 256

-- a meta word of one of the four kinds, with bits 7 to 3 at 0
abbrev pub IsMeta : ℕ → Type 0
IsMeta meta = meta % 256 < 4

-- ---- entries: the words of tables that aren't 0

abbrev pub bit : ℕ → ℕ → ℕ
bit w k = w / 2 ^ k % 2

-- the frame that an entry names: its PPN
abbrev pub target : ℕ → ℕ
target w = w / 1024 % 2 ^ 44

-- software bit 8: the target is private to the context
abbrev pub private_bit : ℕ → ℕ
private_bit w = bit w 8

-- an entry of a mid table or a root: valid, without any other bit of 7 to 0
pub record IsPointer (w : ℕ) : Type 0 where
  pub size : w < 2 ^ 54
  pub valid : w % 256 ≡ 1
  pub software : bit w 9 ≡ 0

-- an entry of a leaf table: valid, used, written, for the user, with some permission, and
-- writable only where the target is private
pub record IsLeafEntry (w : ℕ) : Type 0 where
  pub size : w < 2 ^ 54
  pub valid : bit w 0 ≡ 1
  pub permits : 0 < bit w 1 + bit w 2 + bit w 3
  pub for_user : bit w 4 ≡ 1
  pub global : bit w 5 ≡ 0
  pub accessed : bit w 6 ≡ 1
  pub dirty : bit w 7 ≡ 1
  pub private : bit w 2 ≤ private_bit w
  pub software : bit w 9 ≡ 0

-- an entry as a table of this number of kind has it
pub record IsEntryAt (kind w : ℕ) : Type 0 where
  pub leaf : kind ≡ 1 → IsLeafEntry w
  pub above : 2 ≤ kind → IsPointer w

-- ---- links: the entries that name a frame

-- whether g is a table whose word i is an entry that names f
abbrev pub names : Frames → ℕ → ℕ → ℕ → Bool
names m f g i =
    not (kind_at m g == 0) && not (m.word g i == 0) && (target (m.word g i) == f)

-- the links of f from the first i words of g
unfoldable pub links_in : Frames → ℕ → ℕ → ℕ → List (ℕ × ℕ)
links_in m f g zero = []
links_in m f g (suc i) = links_in m f g i ++ (if names m f g i then (g, i) ∷ [] else [])

-- the links of f from the frames below g
unfoldable pub links_below : Frames → ℕ → ℕ → List (ℕ × ℕ)
links_below m f zero = []
links_below m f (suc g) = links_below m f g ++ links_in m f g 512

-- all pairs of a table and a number of a word such that the word is an entry that names f
abbrev pub links : ℕ → Frames → ℕ → List (ℕ × ℕ)
links n m f = links_below m f n
