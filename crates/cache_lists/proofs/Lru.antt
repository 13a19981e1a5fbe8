-- What the words of `lru` come to in lists of limited room.
use Rattle.std.proofs.Common.{refl, arith, ◌≡◌, ℕ, suc, ◌-◌, ◌<◌, ◌≤◌, ◌==◌, Bool, true, false, max, List, [], ◌∷◌, length, take, slice_get, Option, None, Some}
use Rattle.std.proofs.lemmas.Option.{slice_get_past}
use Rattle.std.proofs.lemmas.List.{length-take}
use Rattle.std.specs.Map.{lookup, lookup_entry, remove_entry}
use Rattle.lru.specs.LruCache.{LruCache, promoted, put_entries, displaced}
use Rattle.cache_lists.specs.Recent.{pushed_out}

-- a list with room for an entry has a cache of just that room
room_is : (room : ℕ) → 0 < room → max room 1 ≡ room
room_is room some = grind arith

module _ {K V : Type 0} (test : K → Bool) where
  -- where no value is found, no entry is
  no_entry : (es : List (K × V)) → lookup test es ≡ None → lookup_entry test es ≡ None
  no_entry [] h = λ i. None
  no_entry (e ∷ es) h = (elim (test e.0) as (λ y. test e.0 ≡ y → lookup_entry test (e ∷ es) ≡ None) [
    | true ↦ λ t. let h' = rw t at h in cc
    | false ↦ λ t. let h' = rw t at h in rw t (no_entry es h')
  ]) refl

  -- taking an entry out makes no list longer
  pub fewer : (es : List (K × V)) → length (remove_entry test es) ≤ length es
  fewer [] = grind arith
  fewer (e ∷ es) = (elim (test e.0) as (λ y. test e.0 ≡ y → length (remove_entry test (e ∷ es)) ≤ length (e ∷ es)) [
    | true ↦ λ t. rw t (grind arith)
    | false ↦ λ t. let f = fewer es in rw t (grind arith)
  ]) refl

  one_fewer : (es : List (K × V)) (e : K × V) → lookup_entry test es ≡ Some e
      → suc (length (remove_entry test es)) ≡ length es
  one_fewer [] e h = cc
  one_fewer (f ∷ es) e h = (elim (test f.0) as (λ y. test f.0 ≡ y
      → suc (length (remove_entry test (f ∷ es))) ≡ length (f ∷ es)) [
        | true ↦ λ t. rw t refl
        | false ↦ λ t. let g = one_fewer es e (rw t at h) in rw t (grind arith)
      ]) refl

  no_longer : (es : List (K × V)) (o : Option (K × V)) → lookup_entry test es ≡ o
      → length (promoted test es) ≤ length es
  no_longer es None h = rw h (grind arith)
  no_longer es (Some e) h = let g = one_fewer es e h in rw h (grind arith)

  -- bringing an entry to the front makes no list longer
  pub promoted_fits : (es : List (K × V)) → length (promoted test es) ≤ length es
  promoted_fits es = no_longer es (lookup_entry test es) refl

module _ {K V : Type 0} (eq : K → K → Bool) (c : LruCache K V) (room : ℕ) (k : K) (v : V) where
  -- a key that isn't there goes to the front
  pub puts : c.cap ≡ max room 1 → 0 < room → lookup (eq k) c.entries ≡ None
      → put_entries eq c k v ≡ ((k, v) ∷ take (room - 1) c.entries)
  puts cap some absent =
      rw (no_entry (eq k) c.entries absent, cap, room_is room some) refl

  -- it pushes out the last entry of a full list
  pub lost : c.cap ≡ max room 1 → 0 < room → length c.entries ≤ room → lookup (eq k) c.entries ≡ None
      → displaced eq c k v ≡ pushed_out (record { room = room; entries = c.entries })
  lost cap some within absent = rw (absent, cap, room_is room some) (
      (elim (length c.entries == room) as (λ y. (length c.entries == room) ≡ y
      → slice_get c.entries (room - 1) ≡ pushed_out (record { room = room; entries = c.entries })) [
        | true ↦ λ t. let same : length c.entries ≡ room = grind (arith) in rw (t, same) refl
        | false ↦ λ t. rw (t, slice_get_past c.entries (room - 1) (grind (arith))) refl
      ]) refl)

  -- it fits
  pub fits : c.cap ≡ max room 1 → 0 < room → lookup (eq k) c.entries ≡ None
      → length (put_entries eq c k v) ≤ room
  fits cap some absent =
      let l = length-take (room - 1) c.entries in rw (puts cap some absent) (grind arith)
