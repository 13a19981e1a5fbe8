-- The entries with their values, beside the entries with their slots.
use Rattle.std.proofs.Common.{◌≡◌, ℕ, zero, suc, ◌-◌, ◌==◌, Bool, true, false, cond, List, [], ◌∷◌}
use Rattle.std.proofs.Common.{length, take, Option, None, Some, option_map, refl, sym, ap, ◌∙◌}
use Rattle.std.specs.Prelude.{slice_index_or, slice_get, IsSome, is_some}
use Rattle.std.specs.Map.{keys_of, lookup, remove_entry}
use Rattle.cache_lists.specs.Recent.{is_full, last_of, pushed_out}
use Rattle.slot_lists.specs.Held.{held, with_held, AreFound}
use Rattle.slot_lists.proofs.Fewer.{all_lookup}

pub map_same : {A : Type 0} (o : Option A) → option_map (λ (x : A). x) o ≡ o
map_same None = refl
map_same (Some x) = refl

module _ {E V W : Type 0} (slot : E → ℕ) (made : E → V → W) where
  -- what the slot of an entry that was found stands for
  abbrev pub value_of : List (Option V) → Option E → Option W
  value_of slots None = None
  value_of slots (Some e) = option_map (made e) (slice_index_or slots (slot e) None)

  -- an entry that was found, with its value
  abbrev pub entry_of : List (Option V) → Option (ℕ × E) → Option (ℕ × W)
  entry_of slots None = None
  entry_of slots (Some e) =
      option_map (λ v. (e.0, made e.1 v)) (slice_index_or slots (slot e.1) None)

  pub held_none : (slots : List (Option V)) → held slot made slots [] ≡ []
  unfolding held
  held_none slots = refl

  -- ---- one entry with its value

  keys_one : (key : ℕ) (e : E) (o : Option V) (rest : List (ℕ × W)) → IsSome o
      → keys_of (with_held slot made key e o rest) ≡ key ∷ keys_of rest
  keys_one key e None rest h = absurd (cc)
  keys_one key e (Some v) rest h = refl

  lookup_one : (test : ℕ → Bool) (key : ℕ) (e : E) (o : Option V) (rest : List (ℕ × W)) → IsSome o
      → lookup test (with_held slot made key e o rest)
      ≡ cond (test key) (option_map (made e) o) (lookup test rest)
  lookup_one test key e None rest h = absurd (cc)
  lookup_one test key e (Some v) rest h = refl

  remove_one : (test : ℕ → Bool) (key : ℕ) (e : E) (o : Option V) (rest : List (ℕ × W)) → IsSome o
      → remove_entry test (with_held slot made key e o rest)
      ≡ cond (test key) rest (with_held slot made key e o (remove_entry test rest))
  remove_one test key e None rest h = absurd (cc)
  remove_one test key e (Some v) rest h = refl

  take_one : (n : ℕ) (key : ℕ) (e : E) (o : Option V) (rest : List (ℕ × W)) → IsSome o
      → take (suc n) (with_held slot made key e o rest)
      ≡ with_held slot made key e o (take n rest)
  take_one n key e None rest h = absurd (cc)
  take_one n key e (Some v) rest h = refl

  first_one : (key : ℕ) (e : E) (o : Option V) (rest : List (ℕ × W)) → IsSome o
      → slice_get (with_held slot made key e o rest) zero
      ≡ option_map (λ v. (key, made e v)) o
  first_one key e None rest h = absurd (cc)
  first_one key e (Some v) rest h = refl

  later_one : (i : ℕ) (key : ℕ) (e : E) (o : Option V) (rest : List (ℕ × W)) → IsSome o
      → slice_get (with_held slot made key e o rest) (suc i) ≡ slice_get rest i
  later_one i key e None rest h = absurd (cc)
  later_one i key e (Some v) rest h = refl

  length_one : (key : ℕ) (e : E) (o : Option V) (rest : List (ℕ × W)) → IsSome o
      → length (with_held slot made key e o rest) ≡ suc (length rest)
  length_one key e None rest h = absurd (cc)
  length_one key e (Some v) rest h = refl

  -- ---- all entries with their values

  pub held_keys : (slots : List (Option V)) (es : List (ℕ × E)) → AreFound slot slots es
      → keys_of (held slot made slots es) ≡ keys_of es
  unfolding held
  held_keys slots [] h = refl
  held_keys slots (e ∷ es) h =
      keys_one e.0 e.1 (slice_index_or slots (slot e.1) None) (held slot made slots es) h.0
      ∙ ap (λ ks. e.0 ∷ ks) (held_keys slots es h.1)

  pub held_length : (slots : List (Option V)) (es : List (ℕ × E)) → AreFound slot slots es
      → length (held slot made slots es) ≡ length es
  unfolding held
  held_length slots [] h = refl
  held_length slots (e ∷ es) h =
      length_one e.0 e.1 (slice_index_or slots (slot e.1) None) (held slot made slots es) h.0
      ∙ ap suc (held_length slots es h.1)

  value_at : (slots : List (Option V)) (b : Bool) (e : E) (o : Option E)
      → cond b (value_of slots (Some e)) (value_of slots o) ≡ value_of slots (cond b (Some e) o)
  value_at slots true e o = refl
  value_at slots false e o = refl

  pub held_lookup : (slots : List (Option V)) (test : ℕ → Bool) (es : List (ℕ × E))
      → AreFound slot slots es
      → lookup test (held slot made slots es) ≡ value_of slots (lookup test es)
  unfolding held
  held_lookup slots test [] h = refl
  held_lookup slots test (e ∷ es) h =
      lookup_one test e.0 e.1 (slice_index_or slots (slot e.1) None) (held slot made slots es) h.0
      ∙ (ap (λ o. cond (test e.0) (value_of slots (Some e.1)) o) (held_lookup slots test es h.1)
      ∙ value_at slots (test e.0) e.1 (lookup test es))

  found_is_some : (o : Option V) (e : E) → IsSome o → is_some (option_map (made e) o) ≡ true
  found_is_some None e h = h
  found_is_some (Some v) e h = refl

  has_value : (slots : List (Option V)) (test : ℕ → Bool) (es : List (ℕ × E)) (o : Option E)
      → lookup test es ≡ o → AreFound slot slots es → is_some (value_of slots o) ≡ is_some o
  has_value slots test es None l h = refl
  has_value slots test es (Some x) l h =
      found_is_some (slice_index_or slots (slot x) None) x
      (all_lookup (λ e. IsSome (slice_index_or slots (slot e) None)) test es x h l)

  -- an entry is there exactly where its value is
  pub held_has : (slots : List (Option V)) (test : ℕ → Bool) (es : List (ℕ × E))
      → AreFound slot slots es
      → is_some (lookup test (held slot made slots es)) ≡ is_some (lookup test es)
  held_has slots test es h =
      ap (λ (o : Option W). is_some o) (held_lookup slots test es h)
      ∙ has_value slots test es (lookup test es) refl h

  held_either : (slots : List (Option V)) (b : Bool) (xs ys : List (ℕ × E))
      → held slot made slots (cond b xs ys)
      ≡ cond b (held slot made slots xs) (held slot made slots ys)
  held_either slots true xs ys = refl
  held_either slots false xs ys = refl

  pub held_remove : (slots : List (Option V)) (test : ℕ → Bool) (es : List (ℕ × E))
      → AreFound slot slots es
      → held slot made slots (remove_entry test es) ≡ remove_entry test (held slot made slots es)
  unfolding held
  held_remove slots test [] h = refl
  held_remove slots test (e ∷ es) h =
      let o = slice_index_or slots (slot e.1) None in
      held_either slots (test e.0) es (e ∷ remove_entry test es)
      ∙ (ap (λ r. cond (test e.0) (held slot made slots es) (with_held slot made e.0 e.1 o r))
      (held_remove slots test es h.1)
      ∙ sym (remove_one test e.0 e.1 o (held slot made slots es) h.0))

  pub held_take : (slots : List (Option V)) (n : ℕ) (es : List (ℕ × E)) → AreFound slot slots es
      → held slot made slots (take n es) ≡ take n (held slot made slots es)
  unfolding held
  held_take slots zero [] h = refl
  held_take slots (suc n) [] h = refl
  held_take slots zero (e ∷ es) h = refl
  held_take slots (suc n) (e ∷ es) h =
      let o = slice_index_or slots (slot e.1) None in
      ap (λ r. with_held slot made e.0 e.1 o r) (held_take slots n es h.1)
      ∙ sym (take_one n e.0 e.1 o (held slot made slots es) h.0)

  pub held_get : (slots : List (Option V)) (es : List (ℕ × E)) (i : ℕ) → AreFound slot slots es
      → slice_get (held slot made slots es) i ≡ entry_of slots (slice_get es i)
  unfolding held
  held_get slots [] i h = refl
  held_get slots (e ∷ es) zero h =
      first_one e.0 e.1 (slice_index_or slots (slot e.1) None) (held slot made slots es) h.0
  held_get slots (e ∷ es) (suc i) h =
      later_one i e.0 e.1 (slice_index_or slots (slot e.1) None) (held slot made slots es) h.0
      ∙ held_get slots es i h.1

  -- ---- what lists of limited room ask

  pub held_full : (slots : List (Option V)) (room : ℕ) (es : List (ℕ × E))
      → AreFound slot slots es
      → is_full (record { room = room; entries = held slot made slots es })
      ≡ is_full (record { room = room; entries = es })
  held_full slots room es h = ap (λ n. n == room) (held_length slots es h)

  pub held_last : (slots : List (Option V)) (room : ℕ) (es : List (ℕ × E))
      → AreFound slot slots es
      → last_of (record { room = room; entries = held slot made slots es })
      ≡ entry_of slots (last_of (record { room = room; entries = es }))
  held_last slots room es h =
      ap (λ n. slice_get (held slot made slots es) (n - 1)) (held_length slots es h)
      ∙ held_get slots es (length es - 1) h

  entry_at : (slots : List (Option V)) (b : Bool) (o : Option (ℕ × E))
      → cond b (entry_of slots o) None ≡ entry_of slots (cond b o None)
  entry_at slots true o = refl
  entry_at slots false o = refl

  pub held_pushed : (slots : List (Option V)) (room : ℕ) (es : List (ℕ × E))
      → AreFound slot slots es
      → pushed_out (record { room = room; entries = held slot made slots es })
      ≡ entry_of slots (pushed_out (record { room = room; entries = es }))
  held_pushed slots room es h =
      let l : Option (ℕ × W) = last_of
      (record { room = room; entries = held slot made slots es }) in
      ap (λ b. cond b l None) (held_full slots room es h)
      ∙ (ap (λ o. cond (length es == room) o None) (held_last slots room es h)
      ∙ entry_at slots (length es == room) (last_of (record { room = room; entries = es })))

  -- the key of an entry is that of the entry with its value
  pub entry_key : (slots : List (Option V)) (es : List (ℕ × E)) (i : ℕ) → AreFound slot slots es
      → option_map (λ (e : ℕ × W). e.0) (slice_get (held slot made slots es) i)
      ≡ option_map (λ (e : ℕ × E). e.0) (slice_get es i)
  unfolding held
  entry_key slots [] i h = refl
  entry_key slots (e ∷ es) zero h = ap (λ o. option_map (λ (p : ℕ × W). p.0) o)
      (first_one e.0 e.1 (slice_index_or slots (slot e.1) None) (held slot made slots es) h.0)
      ∙ key_one e.0 e.1 (slice_index_or slots (slot e.1) None) h.0 where
        key_one : (key : ℕ) (x : E) (o : Option V) → IsSome o
            → option_map (λ (p : ℕ × W). p.0) (option_map (λ v. (key, made x v)) o) ≡ Some key
        key_one key x None h = absurd (cc)
        key_one key x (Some v) h = refl
  entry_key slots (e ∷ es) (suc i) h =
      ap (λ o. option_map (λ (p : ℕ × W). p.0) o)
      (later_one i e.0 e.1 (slice_index_or slots (slot e.1) None) (held slot made slots es) h.0)
      ∙ entry_key slots es i h.1

  pub last_key : (slots : List (Option V)) (room : ℕ) (es : List (ℕ × E))
      → AreFound slot slots es
      → option_map (λ (e : ℕ × W). e.0)
      (last_of (record { room = room; entries = held slot made slots es }))
      ≡ option_map (λ (e : ℕ × E). e.0) (last_of (record { room = room; entries = es }))
  last_key slots room es h =
      ap (λ n. option_map (λ (e : ℕ × W). e.0) (slice_get (held slot made slots es) (n - 1)))
      (held_length slots es h)
      ∙ entry_key slots es (length es - 1) h
