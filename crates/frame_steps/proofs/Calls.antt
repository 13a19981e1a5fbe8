-- What a call owes to the table: that its word is there, and that its step is allowed.
use Rattle.std.proofs.Common.{◌≡◌, ℕ, ◌+◌, ◌-◌, ◌*◌, ◌%◌, ◌^◌, ◌<◌, length, sym, subst, inl, inr, arith}
use mathlib.Core.Option.{none}
use Rattle.atomic_table.specs.Table.{step, Allows}
use Rattle.frame_model.specs.Words.{meta_place, word_place, kind_number}
use Rattle.frame_model.specs.Views.{Has, kind_of, reach, IsSound}
use Rattle.frame_words.specs.Plays.{Kept, Mine}
use Rattle.frame_words.proofs.Splits.{root_reached}
use Rattle.frame_steps.specs.Counted.{MayStand, HasRoom}
use Rattle.frame_steps.specs.Plays.{DidEnter, DidGain, DidLose}
use Rattle.frame_steps.proofs.Keeps as rule

module _ (key words slots id : ℕ) (me : Mine) (is : IsSound me.0.view) (size : words ≡ me.0.view.frames * 513) (place f : ℕ) where
  word_room : (i : ℕ) → Has f (reach me.0.view) → i < 512 → word_place f i < words
  word_room i h lt = let a = is.inside f h in omega arith

  meta_room : Has f (reach me.0.view) → meta_place f < words
  meta_room h = let a = is.inside f h in omega arith

  pub enters : (i x : ℕ) → place ≡ word_place f i → Has f me.0.view.owned → 0 < kind_number (kind_of me.0.view f) → i < 512 → MayStand me.0.view f x → HasRoom me.0.view f i x
      → (place < words) × Allows (Kept key) slots id me place (λ _. x) (λ _. DidEnter (step slots place x 0 none) me x)
  enters i x e own table lt stands room = subst (λ (p : ℕ). (p < words) × Allows (Kept key) slots id me p (λ _. x) (λ _. DidEnter (step slots p x 0 none) me x)) (sym e)
      (word_room i (root_reached me.0.view is f (inl own)) lt, rule.enters key slots id me f i x own table lt stands room)

  pub gains : place ≡ meta_place f → Has f (reach me.0.view) → length me.0.view.references < 16
      → (place < words) × Allows (Kept key) slots id me place (λ x. (x + 256) % 2 ^ 64) (DidGain (step slots place 256 0 none) me)
  gains e h few = subst (λ (p : ℕ). (p < words) × Allows (Kept key) slots id me p (λ x. (x + 256) % 2 ^ 64) (DidGain (step slots p 256 0 none) me)) (sym e)
      (meta_room h, rule.gains key slots id me f h few)

  pub loses : place ≡ meta_place f → Has f me.0.view.references
      → (place < words) × Allows (Kept key) slots id me place (λ x. (x + (2 ^ 64 - 256)) % 2 ^ 64) (DidLose (step slots place 256 0 none) me)
  loses e ref = subst (λ (p : ℕ). (p < words) × Allows (Kept key) slots id me p (λ x. (x + (2 ^ 64 - 256)) % 2 ^ 64) (DidLose (step slots p 256 0 none) me)) (sym e)
      (meta_room (root_reached me.0.view is f (inr ref)), rule.loses key slots id me f ref)
