-- A holder's view that is cut along a part keeps the rule, and both parts are sound.
use Rattle.std.proofs.Common.{◌≡◌, ℕ, ◌-◌, ◌<◌, ◌≤◌, ◌⊎◌, Bool, true, false, List, [], ◌∷◌, ◌++◌, set, refl, ⊎_elim, arith}
use Rattle.atomic_table.specs.Table.{Splits}
use Rattle.frame_model.specs.declared.holding.Holding.{Holding}
use Rattle.frame_model.specs.declared.view.View.{View}
use Rattle.frame_model.specs.Holdings.{held, with_view, views_of}
use Rattle.frame_model.specs.Words.{Frames, frames_in}
use Rattle.frame_model.specs.Views.{Has, has, among, without, less_one, IsSound, IsLoose}
use Rattle.frame_model.specs.Rule.{At, FrameRule}
use Rattle.frame_model.proofs.Parts.{has_true, has_false}
use Rattle.frame_words.specs.declared.part.Part.{Part}
use Rattle.frame_words.specs.declared.part.Part.TheVariants.{Pile, Root}
use Rattle.frame_words.specs.Plays.{Kept}
use Rattle.frame_words.specs.Steps.{pile_of, tree_of, stake_of, less_root, root_alone, kept_of, given_of, IsThere}
use Rattle.frame_words.proofs.Partings.{part_sound, parting_kept}
use Rattle.frame_words.proofs.Seats.{seen_at, rule_more}
use Rattle.frame_words.proofs.Splits.{pile_left, pile_right, owned_left, owned_right, alone_left, alone_right, pile_parting, alone_parting, owned_parting}

-- a reference to a root that isn't owned
root_there : (v : View) (root : ℕ) → IsLoose v root ⊎ Has root v.references → (Has root v.owned → ⊥) → Has root v.references
root_there v root there away = ⊎_elim (λ (l : IsLoose v root). absurd (away l.owned)) (λ r. r) there

less_root_frames : (own : Bool) (v : View) (root stake : ℕ) → (less_root own v root stake).frames ≡ v.frames
less_root_frames true v root stake = refl
less_root_frames false v root stake = refl

pub kept_frames : (part : Part) (v : View) → (kept_of part v).frames ≡ v.frames
unfolding kept_of
kept_frames (Pile first count stake) v = refl
kept_frames (Root root stake) v = less_root_frames (has root.0 v.owned) v root.0 stake

root_alone_frames : (own : Bool) (v : View) (root stake : ℕ) → (root_alone own v root stake).frames ≡ v.frames
root_alone_frames true v root stake = refl
root_alone_frames false v root stake = refl

pub given_frames : (part : Part) (v : View) → (given_of part v).frames ≡ v.frames
unfolding given_of
given_frames (Pile first count stake) v = refl
given_frames (Root root stake) v = root_alone_frames (has root.0 v.owned) v root.0 stake

module _ (v : View) (is : IsSound v) where
  less_root_sound : (own : Bool) (root stake : ℕ) → has root v.owned ≡ own → IsLoose v root ⊎ Has root v.references → stake < v.stake → IsSound (less_root own v root stake)
  less_root_sound true root stake e there rest =
      part_sound v (without (tree_of v root) v.owned) (without (root ∷ []) v.references) (v.stake - stake) (owned_left v is root (v.stake - stake) (has_true root v.owned e) (omega arith)) is
  less_root_sound false root stake e there rest =
      part_sound v v.owned (less_one root v.references) (v.stake - stake) (alone_left v is root (v.stake - stake) (root_there v root there (has_false root v.owned e)) (omega arith)) is

  pub kept_sound : (part : Part) → IsThere part v → stake_of part < v.stake → IsSound (kept_of part v)
  unfolding kept_of IsThere
  kept_sound (Pile first count stake) there rest =
      part_sound v (without (pile_of v first.0 count) v.owned) v.references (v.stake - stake) (pile_left v is first.0 count (v.stake - stake) there (omega arith)) is
  kept_sound (Root root stake) there rest = less_root_sound (has root.0 v.owned) root.0 stake refl there rest

  root_alone_sound : (own : Bool) (root stake : ℕ) → has root v.owned ≡ own → IsLoose v root ⊎ Has root v.references → 1 ≤ stake → IsSound (root_alone own v root stake)
  root_alone_sound true root stake e there some_stake =
      part_sound v (among (tree_of v root) v.owned) (among (root ∷ []) v.references) stake (owned_right v is root stake (has_true root v.owned e) (omega arith)) is
  root_alone_sound false root stake e there some_stake =
      part_sound v [] (root ∷ []) stake (alone_right v is root stake (root_there v root there (has_false root v.owned e)) (omega arith)) is

  pub given_sound : (part : Part) → IsThere part v → 1 ≤ stake_of part → IsSound (given_of part v)
  unfolding given_of IsThere
  given_sound (Pile first count stake) there some_stake =
      part_sound v (among (pile_of v first.0 count) v.owned) [] stake (pile_right v is first.0 count stake there (omega arith)) is
  given_sound (Root root stake) there some_stake = root_alone_sound (has root.0 v.owned) root.0 stake refl there some_stake

module _ (n : ℕ) (m : Frames) (views : List View) (rule : FrameRule n m views) (id : ℕ) (v : View) (at : At views id v) where
  root_kept : (own : Bool) (root stake : ℕ) → has root v.owned ≡ own → IsLoose v root ⊎ Has root v.references → 1 ≤ stake → stake < v.stake
      → FrameRule n m (set views id (less_root own v root stake) ++ root_alone own v root stake ∷ [])
  root_kept true root stake e there some_stake rest =
      parting_kept n m views rule id v at (without (tree_of v root) v.owned) (without (root ∷ []) v.references) (v.stake - stake)
      (among (tree_of v root) v.owned) (among (root ∷ []) v.references) stake
      (owned_parting n m views rule id v at root stake (has_true root v.owned e) there some_stake rest)
  root_kept false root stake e there some_stake rest =
      parting_kept n m views rule id v at v.owned (less_one root v.references) (v.stake - stake) [] (root ∷ []) stake
      (alone_parting n m views rule id v at root stake (has_false root v.owned e) (root_there v root there (has_false root v.owned e)) some_stake rest)

  part_kept : (part : Part) → IsThere part v → 1 ≤ stake_of part → stake_of part < v.stake → FrameRule n m (set views id (kept_of part v) ++ given_of part v ∷ [])
  unfolding kept_of given_of IsThere
  part_kept (Pile first count stake) there some_stake rest =
      parting_kept n m views rule id v at (without (pile_of v first.0 count) v.owned) v.references (v.stake - stake)
      (among (pile_of v first.0 count) v.owned) [] stake
      (pile_parting n m views rule id v at first.0 count stake there some_stake rest)
  part_kept (Root root stake) there some_stake rest = root_kept (has root.0 v.owned) root.0 stake refl there some_stake rest

pub splits : (n id : ℕ) (h : Holding) (part : Part) → IsThere part h.view → 1 ≤ stake_of part
    → stake_of part < h.view.stake
    → Splits (Kept n) id h (with_view h (kept_of part h.view)) (held (given_of part h.view))
splits n id h part there some_stake rest s kept at = record {
  size = kept.size;
  rule = rule_more n (frames_in s.words) s.views id (with_view h (kept_of part h.view))
      (held (given_of part h.view))
      (part_kept n (frames_in s.words) (views_of s.views) kept.rule id h.view
      (seen_at s.views id h at) part there some_stake rest);
}
