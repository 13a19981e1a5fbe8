-- The views of a test: 129 frames, of which 1 to 128 are leaf tables. Their words are filled one
-- after the other, and each names frame 0. The word k of table g has the number 512 g + k.
use Rattle.std.specs.Prelude.{◌≡◌, ℕ, ◌+◌, ◌*◌, ◌<◌, ◌≤◌, [], ◌∷◌}
use Rattle.frame_model.specs.declared.kind.Kind.TheVariants.{Data, Leaf}
use Rattle.frame_model.specs.declared.view.View.{View}
use Rattle.frame_model.specs.Views.{Has, kind_of, word_of, numbers_below}

-- one holder owns all, no word is an entry, and the frames from 1 on and below i are leaf tables
pub record IsLaid (i : ℕ) (v : View) : Type 0 where
  pub owned : v.owned ≡ numbers_below 129
  pub references : v.references ≡ []
  pub zero : (f k : ℕ) → word_of v f k ≡ 0
  pub page : kind_of v 0 ≡ Data
  pub tables : (f : ℕ) → 0 < f → f < i → kind_of v f ≡ Leaf

-- the holder has two references to frame 0, which nobody owns, and the tables, whose words from
-- number n on are 0
pub record IsFilled (n : ℕ) (v : View) : Type 0 where
  pub away : Has 0 v.owned → ⊥
  pub references : v.references ≡ 0 ∷ 0 ∷ []
  pub page : kind_of v 0 ≡ Data
  pub owned : (f : ℕ) → 0 < f → f < 129 → Has f v.owned
  pub tables : (f : ℕ) → 0 < f → f < 129 → kind_of v f ≡ Leaf
  pub rest : (f k : ℕ) → k < 512 → n ≤ f * 512 + k → word_of v f k ≡ 0
