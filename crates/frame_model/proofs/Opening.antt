-- The rule of a new table, of which one holder owns all frames.
use Rattle.std.proofs.Common.{◌≡◌, ℕ, zero, suc, ◌+◌, ◌*◌, ◌<◌, ◌≤◌, List, [], ◌∷◌, ◌++◌, length, replicate, refl, sym, subst, ◌∙◌, inl, inr, ⊎_elim, arith}
use Rattle.std.specs.Prelude.{slice_index}
use Rattle.std.proofs.lemmas.List.{length-replicate}
use mathlib.Core.Option.{some-ne-none, some-injective}
use Rattle.std.proofs.lemmas.Bool.{cases_eq}
use Rattle.frame_model.specs.Words.{depth}
use Rattle.frame_model.specs.declared.view.View.{View}
use Rattle.frame_model.specs.Words.{Frames, frames_in, kind_at}
use Rattle.frame_model.specs.Views.{Has, times, blank_words, children, within, reach, numbers_below, first_view, IsStaked}
use Rattle.frame_model.specs.Rule.{At, Agrees, most_frames, FrameRule}
use Rattle.frame_model.proofs.Reach.{has_append, times_here, times_else, absent}
use Rattle.frame_model.proofs.Counts.{names_data, links_none}

pub zero_at : (k i : ℕ) → slice_index (replicate k 0) i ≡ 0
zero_at zero i = refl
zero_at (suc k) zero = refl
zero_at (suc k) (suc i) = zero_at k i

pub blank_length : length blank_words ≡ 512
unfolding blank_words
blank_length = length-replicate {A = ℕ} 512 0

pub blank_word : (i : ℕ) → slice_index blank_words i ≡ 0
unfolding blank_words
blank_word i = zero_at 512 i

children_blank : (fs : List ℕ) → children [] fs ≡ []
children_blank [] = refl
children_blank (f ∷ fs) = children_blank fs

within_none : (n x : ℕ) → Has x (within [] n []) → ⊥
unfolding within
within_none zero x h = h
within_none (suc n) x h = within_none n x h

within_blank : (n : ℕ) (fs : List ℕ) (x : ℕ) → Has x (within [] n fs) → Has x fs
unfolding within
within_blank zero fs x h = h
within_blank (suc n) fs x h =
    ⊎_elim
    (λ here. here)
    (λ below. absurd (within_none n x (subst (λ (xs : List ℕ). Has x (within [] n xs)) (children_blank fs) below)))
    (has_append x fs (within [] n (children [] fs)) h)

pub has_numbers : (n x : ℕ) → Has x (numbers_below n) → x < n
unfolding numbers_below
has_numbers zero x h = absurd h
has_numbers (suc n) x h = ⊎_elim (λ e. omega arith) (λ r. let a = has_numbers n x r in omega arith) h

pub numbers_has : (n x : ℕ) → x < n → Has x (numbers_below n)
unfolding numbers_below
numbers_has zero x h = absurd (omega arith)
numbers_has (suc n) x h = ⊎_elim (λ e. inl e) (λ ne. inr (numbers_has n x (omega arith))) (cases_eq x n)

numbers_once : (n x : ℕ) → times x (numbers_below n) ≤ 1
unfolding numbers_below
numbers_once zero x = omega arith
numbers_once (suc n) x = ⊎_elim
    (λ (e : x ≡ n).
    let a = absent x (numbers_below n) (λ h. let l = has_numbers n x h in omega arith) in
    let b = times_here x n (numbers_below n) e in
    omega arith)
    (λ (ne : x ≡ n → ⊥).
    let a = numbers_once n x in
    let b = times_else x n (numbers_below n) ne in
    omega arith)
    (cases_eq x n)

module _ (n : ℕ) where
  words : List ℕ
  words = replicate (n * 513) 0

  m : Frames
  m = frames_in (replicate (n * 513) 0)

  one_view : (id : ℕ) (v : View) → At (first_view n ∷ []) id v → (id ≡ 0) × (first_view n ≡ v)
  one_view zero v at = (refl, some-injective _ _ at)
  one_view (suc id) v at = absurd (some-ne-none v (sym at))

  reached : (f : ℕ) → Has f (reach (first_view n)) → f < n
  reached f h = ⊎_elim (λ o. has_numbers n f o) (λ r. absurd r) (has_append f (numbers_below n) [] (within_blank depth (numbers_below n ++ []) f h))

  zero_meta : (f : ℕ) → m.meta f ≡ 0
  unfolding m
  zero_meta f = zero_at (n * 513) (f * 513)

  zero_word : (f i : ℕ) → m.word f i ≡ 0
  unfolding m
  zero_word f i = zero_at (n * 513) (f * 513 + (i + 1))

  data_kind : (f : ℕ) → kind_at m f ≡ 0
  data_kind f = let z = zero_meta f in omega arith

  agrees : Agrees n m (first_view n)
  agrees = record {
    frames = λ _. refl;
    inside = reached;
    whole = λ f h. blank_length;
    kind = λ f h. data_kind f;
    word = λ f i h lt. zero_word f i ∙ sym (blank_word i);
  }

  opened : n ≤ most_frames → FrameRule n m (first_view n ∷ [])
  opened limit = record {
    limit = limit;
    agrees = λ id v at. let e = one_view id v at in subst (λ (u : View). Agrees n m u) e.1 agrees;
    apart = λ id other v w at there ne f o r. absurd (ne ((one_view id v at).0 ∙ sym (one_view other w there).0));
    counted = λ f h. let z = zero_meta f in let l = links_none m f n (λ g j. names_data m f g j (data_kind g)) in omega arith;
    owned = record {
      loose = λ f h z. (0, first_view n, refl, numbers_has n f h);
      held = λ id v at f o ne. absurd (let z = zero_meta f in ne (omega arith));
      once = λ id v at f. let e = one_view id v at in subst (λ (u : View). times f u.owned ≤ 1) e.1 (numbers_once n f);
    };
    descends = λ g i h lt table ne. absurd (ne (zero_word g i));
    kinds = λ f h. let z = zero_meta f in omega arith;
    stakes = record {
      each = λ id v at. let e = one_view id v at in subst (λ (u : View). IsStaked u) e.1 (record { few = omega arith; spent = λ z. absurd (cc) });
      whole = refl;
    };
  }

-- a table of zeros under its first view
pub opening_rule : (n : ℕ) → n ≤ most_frames → FrameRule n (frames_in (replicate (n * 513) 0)) (first_view n ∷ [])
unfolding m
opening_rule n limit = opened n limit
