-- What each step makes of the view of the holder that takes it. No other view changes.
use Rattle.std.specs.Prelude.{◌≡◌, ℕ, zero, suc, ◌+◌, ◌-◌, ◌<◌, ◌⊎◌, Bool, true, false}
use Rattle.std.specs.Prelude.{List, [], ◌∷◌, ◌++◌, slice_set}
use Rattle.frame_model.specs.Words.{depth}
use Rattle.frame_model.specs.declared.kind.Kind.{Kind}
use Rattle.frame_model.specs.declared.kind.Kind.TheVariants.{Data}
use Rattle.frame_model.specs.declared.view.View.{View}
use Rattle.frame_model.specs.Views.{kind_of, words_of, word_of, with_known, Has, has, among}
use Rattle.frame_model.specs.Views.{without, less_one, within, reach, sights, part_of, IsLoose}
use Rattle.frame_words.specs.declared.part.Part.{Part}
use Rattle.frame_words.specs.declared.part.Part.TheVariants.{Pile, Root}

-- the word i of f is x
abbrev pub put : View → ℕ → ℕ → ℕ → View
put v f i x = with_known v f (kind_of v f) (slice_set (words_of v f) i x)

-- f is of this kind
abbrev pub dressed : View → ℕ → Kind → View
dressed v f kind = with_known v f kind (words_of v f)

-- there is no entry in f
abbrev pub IsClear : View → ℕ → Type 0
IsClear v f = (i : ℕ) → i < 512 → word_of v f i ≡ 0

-- ---- split

-- the frames of a pile: each names the next in its word 0
unfoldable pub pile_of : View → ℕ → ℕ → List ℕ
pile_of v f zero = []
pile_of v f (suc count) = f ∷ pile_of v (word_of v f 0) count

-- a frame, and all that is below it
abbrev pub tree_of : View → ℕ → List ℕ
tree_of v root = within v.known depth (root ∷ [])

-- the stake that goes to the new holder
abbrev pub stake_of : Part → ℕ
stake_of (Pile first count stake) = stake
stake_of (Root root stake) = stake

-- what the holder keeps of a root that it owns, or of one that it only refers to
abbrev pub less_root : Bool → View → ℕ → ℕ → View
less_root true v root stake =
    part_of v (without (tree_of v root) v.owned) (without (root ∷ []) v.references)
    (v.stake - stake)
less_root false v root stake = part_of v v.owned (less_one root v.references) (v.stake - stake)

-- what the new holder of a root gets
abbrev pub root_alone : Bool → View → ℕ → ℕ → View
root_alone true v root stake =
    part_of v (among (tree_of v root) v.owned) (among (root ∷ []) v.references) stake
root_alone false v root stake = part_of v [] (root ∷ []) stake

-- what the holder keeps
unfoldable pub kept_of : Part → View → View
kept_of (Pile first count stake) v =
    part_of v (without (pile_of v first.0 count) v.owned) v.references (v.stake - stake)
kept_of (Root root stake) v = less_root (has root.0 v.owned) v root.0 stake

-- what the new holder gets; it knows what the other knew
unfoldable pub given_of : Part → View → View
given_of (Pile first count stake) v =
    part_of v (among (pile_of v first.0 count) v.owned) [] stake
given_of (Root root stake) v = root_alone (has root.0 v.owned) v root.0 stake

-- a pile has owned data of count 0; a root is owned at count 0, or referred to
unfoldable pub IsThere : Part → View → Type 0
IsThere (Pile first count stake) v =
    (f : ℕ) → Has f (pile_of v first.0 count) → IsLoose v f × (kind_of v f ≡ Data)
IsThere (Root root stake) v = IsLoose v root.0 ⊎ Has root.0 v.references

-- ---- join

-- all that both have. Of a frame that both reach it knows what v knew
unfoldable pub joined : View → View → View
joined v w = record {
  frames = v.frames;
  owned = v.owned ++ w.owned;
  references = v.references ++ w.references;
  known = sights v.known (reach v) ++ sights w.known (reach w);
  stake = v.stake + w.stake;
}

-- what is left of a view that was joined into another
unfoldable pub spent : View
spent = record { frames = 0; owned = []; references = []; known = []; stake = 0 }
