-- Which word of the table is which of a frame, and what a store of one leaves of the others.
use Rattle.std.proofs.Common.{◌≡◌, ℕ, ◌<◌, ◌≢◌, List, length, set, arith, get_or-set_other, get_or-set_same}
use Rattle.frame_model.specs.Words.{frames_in, meta_place, word_place}

pub one_word : (f i g j : ℕ) → i < 512 → j < 512 → word_place f i ≡ word_place g j → (f ≡ g) × (i ≡ j)
one_word f i g j h k e = (omega arith, omega arith)

pub one_meta : (f g : ℕ) → meta_place f ≡ meta_place g → f ≡ g
one_meta f g e = omega arith

module _ (ws : List ℕ) (x : ℕ) where
  pub meta_put : (g j f : ℕ) → j < 512 → (frames_in (set ws (word_place g j) x)).meta f ≡ (frames_in ws).meta f
  meta_put g j f h = get_or-set_other ws (word_place g j) (meta_place f) x 0 (λ e. omega arith)

  pub word_put_else : (g j f i : ℕ) → j < 512 → i < 512 → (f ≡ g → i ≡ j → ⊥) → (frames_in (set ws (word_place g j) x)).word f i ≡ (frames_in ws).word f i
  word_put_else g j f i h k ne = get_or-set_other ws (word_place g j) (word_place f i) x 0 (λ e. let p = one_word f i g j k h e in ne p.0 p.1)

  pub word_put_here : (g j : ℕ) → word_place g j < length ws → (frames_in (set ws (word_place g j) x)).word g j ≡ x
  word_put_here g j h = get_or-set_same ws (word_place g j) x 0 h

  pub meta_dress_else : (g f : ℕ) → f ≢ g → (frames_in (set ws (meta_place g) x)).meta f ≡ (frames_in ws).meta f
  meta_dress_else g f ne = get_or-set_other ws (meta_place g) (meta_place f) x 0 (λ e. ne (one_meta f g e))

  pub meta_dress_here : (g : ℕ) → meta_place g < length ws → (frames_in (set ws (meta_place g) x)).meta g ≡ x
  meta_dress_here g h = get_or-set_same ws (meta_place g) x 0 h

  pub word_dress : (g f i : ℕ) → i < 512 → (frames_in (set ws (meta_place g) x)).word f i ≡ (frames_in ws).word f i
  word_dress g f i h = get_or-set_other ws (meta_place g) (word_place f i) x 0 (λ e. omega arith)
