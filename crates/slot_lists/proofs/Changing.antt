-- A slab that gains a value or loses one, under the entries whose slots it has.
use Rattle.std.proofs.Common.{◌≡◌, ◌≢◌, ℕ, zero, suc, ◌+◌, ◌-◌, ◌<◌, ◌≤◌, ◌==◌, Bool, true, false}
use Rattle.std.proofs.Common.{cond}
use Rattle.std.proofs.Common.{List, [], ◌∷◌, length, take, Option, None, Some, option_map}
use Rattle.std.proofs.Common.{refl, sym, ap, ◌∙◌, subst, arith}
use Rattle.std.specs.Prelude.{slice_index_or, slice_get, IsSome, OnSome}
use Rattle.std.specs.Map.{lookup, remove_entry}
use Rattle.std.proofs.lemmas.List.{length-take, take_all}
use Rattle.std.proofs.lemmas.Option.{none-some, same_Some, some_pair_parts}
use Rattle.std.proofs.lemmas.Bool.Decides.{nat_tests}
use Rattle.slab.specs.Slab.{Slab, get, slab_len, Updates}
use Rattle.cache_lists.specs.Recent.{pushed_out}
use Rattle.slot_lists.specs.Held.{held, with_held, AreHeld, AreFound, AreApart, IsApartFrom}
use Rattle.slot_lists.proofs.Fewer.{all_remove, all_lookup, one_fewer, none_fewer, all_take}
use Rattle.slot_lists.proofs.Fewer.{all_get}
use Rattle.slot_lists.proofs.Fewer.{apart_remove, differs_remove, apart_take, differs_take}
use Rattle.slot_lists.proofs.Standing.{held_lookup, held_remove, held_take, held_pushed, value_of}
use Rattle.slot_lists.proofs.Standing.{entry_of}

-- what is so where there is something, and there is
on_some : {A : Type 0} (P : Type 0) (r : Option A) → IsSome r → OnSome r P → P
on_some P None s h = absurd (cc)
on_some P (Some x) s h = h

pub map_none : {A B : Type 0} (f : A → B) (o : Option A) → option_map f o ≡ None → o ≡ None
map_none f None h = refl
map_none f (Some x) h = absurd (none-some (f x) (sym h))

-- the entry whose key and slot are told
pub named : {E : Type 0} (slot : E → ℕ) (o : Option (ℕ × E)) (last key : ℕ)
    → option_map {U = ℕ × ℕ} (λ (e : ℕ × E). (e.0, slot e.1)) o ≡ Some (last, key)
    → (l : ℕ × E) × (o ≡ Some l) × (l.0 ≡ last) × (slot l.1 ≡ key)
named slot None last key h = absurd (none-some (last, key) h)
named slot (Some l) last key h =
    let p = some_pair_parts l.0 last (slot l.1) key h in (l, refl, p.0, p.1)

module _ {E V : Type 0} (slot : E → ℕ) where
  -- what no entry names may change
  pub found_stays : (a b : Slab V) (key : ℕ) (o : Option V) → Updates a b key o
      → (es : List (ℕ × E)) → IsApartFrom slot key es → AreFound slot a.slots es
      → AreFound slot b.slots es
  found_stays a b key o u [] d h = tt
  found_stays a b key o u (e ∷ es) d h = (
    subst (λ (x : Option V). IsSome x) (sym (u.others (slot e.1) (λ q. d.0 (sym q)))) h.0,
    found_stays a b key o u es d.1 h.1,
  )

  some_apart : (a : Slab V) (key n : ℕ) → get a key ≡ None → IsSome (get a n) → key ≢ n
  some_apart a key n vacant some q =
      no_some (get a n) (sym (ap (λ m. get a m) q) ∙ vacant) some where
        no_some : (o : Option V) → o ≡ None → IsSome o → ⊥
        no_some None h s = cc
        no_some (Some v) h s = none-some v (sym h)

  -- a vacant slot is none of an entry
  pub vacant_apart : (a : Slab V) (key : ℕ) → get a key ≡ None → (es : List (ℕ × E))
      → AreFound slot a.slots es → IsApartFrom slot key es
  vacant_apart a key vacant [] h = tt
  vacant_apart a key vacant (e ∷ es) h =
      (some_apart a key (slot e.1) vacant h.0, vacant_apart a key vacant es h.1)

  -- the entries that are left where one goes with its value
  gone : (a b : Slab V) (es less : List (ℕ × E)) (key : ℕ) → AreHeld slot a.slots es
      → AreFound slot a.slots less → AreApart slot less → IsApartFrom slot key less
      → length less + 1 ≡ length es → Updates a b key None → slab_len b + 1 ≡ slab_len a
      → AreHeld slot b.slots less
  gone a b es less key h f p d n u c = record {
    found = found_stays a b key None u less d f;
    apart = p;
    counted = (let k : slab_len a ≡ length es = h.counted in omega arith);
  }

module _ {E V W : Type 0} (slot : E → ℕ) (made : E → V → W) where
  -- the entries are held, and are these with their values
  pub record Holds (slots : List (Option V)) (es : List (ℕ × E)) (ws : List (ℕ × W)) : Type 0 where
    pub stand : AreHeld slot slots es
    pub seen : held slot made slots es ≡ ws

  pub held_stays : (a b : Slab V) (key : ℕ) (o : Option V) → Updates a b key o
      → (es : List (ℕ × E)) → IsApartFrom slot key es
      → held slot made b.slots es ≡ held slot made a.slots es
  unfolding held
  held_stays a b key o u [] d = refl
  held_stays a b key o u (e ∷ es) d =
      ap (λ x. with_held slot made e.0 e.1 x (held slot made b.slots es))
      (u.others (slot e.1) (λ q. d.0 (sym q)))
      ∙ ap (λ r. with_held slot made e.0 e.1 (get a (slot e.1)) r) (held_stays a b key o u es d.1)

  taken_at : (a b : Slab V) (test : ℕ → Bool) (es : List (ℕ × E)) (x : E) (key : ℕ) (r : Option V)
      → lookup test es ≡ Some x → slot x ≡ key → AreHeld slot a.slots es
      → r ≡ get a key → Updates a b key None → OnSome r (slab_len b + 1 ≡ slab_len a)
      → Holds b.slots (remove_entry test es) (remove_entry test (held slot made a.slots es))
  taken_at a b test es x key r l q h v u c =
      let less = remove_entry test es in
      let here : IsSome (get a (slot x)) =
      all_lookup (λ e. IsSome (get a (slot e))) test es x h.found l in
      let some : IsSome r = subst (λ (o : Option V). IsSome o) (sym v)
      (subst (λ n. IsSome (get a n)) q here) in
      let apart : IsApartFrom slot key less =
      subst (λ n. IsApartFrom slot n less) q (differs_remove slot test es x h.apart l) in
      let found : AreFound slot a.slots less =
      all_remove (λ e. IsSome (get a (slot e.1))) test es h.found in
      record {
        stand = gone slot a b es less key h found (apart_remove slot test es h.apart) apart
            (one_fewer test es x l) u (on_some (slab_len b + 1 ≡ slab_len a) r some c);
        seen = held_stays a b key None u less apart
            ∙ held_remove slot made a.slots test es h.found;
      }

  -- an entry is taken out, and what stands under its slot
  pub taken : (a b : Slab V) (test : ℕ → Bool) (es : List (ℕ × E)) (o : Option E) (key : ℕ)
      (r : Option V) → lookup test es ≡ o → option_map slot o ≡ Some key
      → AreHeld slot a.slots es → r ≡ get a key → Updates a b key None
      → OnSome r (slab_len b + 1 ≡ slab_len a)
      → Holds b.slots (remove_entry test es) (remove_entry test (held slot made a.slots es))
  taken a b test es None key r l q h v u c = absurd (none-some key q)
  taken a b test es (Some x) key r l q h v u c =
      taken_at a b test es x key r l (same_Some (slot x) key q) h v u c

  missed_at : (slots : List (Option V)) (test : ℕ → Bool) (es : List (ℕ × E))
      → lookup test es ≡ None → AreHeld slot slots es
      → Holds slots (remove_entry test es) (remove_entry test (held slot made slots es))
  missed_at slots test es l h = record {
    stand = subst (λ xs. AreHeld slot slots xs) (sym (none_fewer test es l)) h;
    seen = held_remove slot made slots test es h.found;
  }

  -- there is none to be taken out
  pub missed : (slots : List (Option V)) (test : ℕ → Bool) (es : List (ℕ × E)) (o : Option E)
      → lookup test es ≡ o → option_map slot o ≡ None → AreHeld slot slots es
      → Holds slots (remove_entry test es) (remove_entry test (held slot made slots es))
  missed slots test es None l q h = missed_at slots test es l h
  missed slots test es (Some x) l q h = absurd (none-some (slot x) (sym q))

  -- no value is found where no entry is
  pub missed_value : (slots : List (Option V)) (test : ℕ → Bool) (es : List (ℕ × E)) (o : Option E)
      → lookup test es ≡ o → option_map slot o ≡ None → AreFound slot slots es
      → lookup test (held slot made slots es) ≡ None
  missed_value slots test es None l q h =
      held_lookup slot made slots test es h ∙ ap (λ o. value_of slot made slots o) l
  missed_value slots test es (Some x) l q h = absurd (none-some (slot x) (sym q))

  absent_at : (slots : List (Option V)) (test : ℕ → Bool) (es : List (ℕ × E)) (o : Option E)
      → lookup test es ≡ o → AreFound slot slots es → value_of slot made slots o ≡ None → o ≡ None
  absent_at slots test es None l h n = refl
  absent_at slots test es (Some x) l h n =
      let here : IsSome (slice_index_or slots (slot x) None) =
      all_lookup (λ e. IsSome (slice_index_or slots (slot e) None)) test es x h l in
      absurd (some_made x (slice_index_or slots (slot x) None) here n) where
        some_made : (e : E) (v : Option V) → IsSome v → option_map (made e) v ≡ None → ⊥
        some_made e None s m = cc
        some_made e (Some v) s m = none-some (made e v) (sym m)

  -- no entry is found where no value is
  pub absent_entry : (slots : List (Option V)) (test : ℕ → Bool) (es : List (ℕ × E))
      → AreFound slot slots es → lookup test (held slot made slots es) ≡ None → lookup test es
      ≡ None
  absent_entry slots test es h n =
      absent_at slots test es (lookup test es) refl h (sym (held_lookup slot made slots test es h)
      ∙ n)

  -- what is found is made of what stands under the slot
  pub taken_value : (slots : List (Option V)) (test : ℕ → Bool) (es : List (ℕ × E)) (o : Option E)
      (key : ℕ) (value : W → V) → ((e : E) (v : V) → value (made e v) ≡ v)
      → lookup test es ≡ o → option_map slot o ≡ Some key → AreFound slot slots es
      → option_map value (lookup test (held slot made slots es)) ≡ slice_index_or slots key None
  taken_value slots test es None key value undoes l q h = absurd (none-some key q)
  taken_value slots test es (Some x) key value undoes l q h =
      ap (λ o. option_map value o)
      (held_lookup slot made slots test es h ∙ ap (λ o. value_of slot made slots o) l)
      ∙ (undone (slice_index_or slots (slot x) None)
      ∙ ap (λ n. slice_index_or slots n None) (same_Some (slot x) key q)) where
        undone : (v : Option V) → option_map value (option_map (made x) v) ≡ v
        undone None = refl
        undone (Some v) = ap (λ y. Some y) (undoes x v)

  -- ---- a further entry

  here_one : (b : Slab V) (key : ℕ) (x : E) (v : V) (rest : List (ℕ × W)) → get b (slot x) ≡ Some v
      → with_held slot made key x (get b (slot x)) rest ≡ (key, made x v) ∷ rest
  here_one b key x v rest h = ap (λ o. with_held slot made key x o rest) h

  -- an entry comes with its value, under a slot that was vacant
  pub added : (a b : Slab V) (es : List (ℕ × E)) (key : ℕ) (x : E) (v : V)
      → AreHeld slot a.slots es → get a (slot x) ≡ None → Updates a b (slot x) (Some v)
      → slab_len b ≡ slab_len a + 1
      → Holds b.slots ((key, x) ∷ es) ((key, made x v) ∷ held slot made a.slots es)
  unfolding held
  added a b es key x v h vacant u c =
      let apart : IsApartFrom slot (slot x) es = vacant_apart slot a (slot x) vacant es h.found in
      record {
        stand = record {
          found = (
            subst (λ (o : Option V). IsSome o) (sym u.changed) refl,
            found_stays slot a b (slot x) (Some v) u es apart h.found,
          );
          apart = (apart, h.apart);
          counted = (let k : slab_len a ≡ length es = h.counted in omega arith);
        };
        seen = here_one b key x v (held slot made b.slots es) u.changed
            ∙ ap (λ r. (key, made x v) ∷ r) (held_stays a b (slot x) (Some v) u es apart);
      }

  -- ---- a list of limited room

  last_is : (n : ℕ) (es : List (ℕ × E)) → length es ≡ suc n
      → (x : ℕ × E) × (slice_get es n ≡ Some x)
  last_is n [] l = absurd (omega arith)
  last_is zero (e ∷ es) l = (e, refl)
  last_is (suc n) (e ∷ es) l = last_is n es (omega arith)

  last_there : (room : ℕ) (es : List (ℕ × E)) → 0 < room → length es ≡ room
      → slice_get es (length es - 1) ≡ None → ⊥
  last_there room es some l g =
      let p = last_is (room - 1) es (omega arith) in
      let i : length es - 1 ≡ room - 1 = omega arith in
      none-some p.0 (sym g ∙ (ap (λ n. slice_get es n) i ∙ p.1))

  pub fits_at : (room : ℕ) (es : List (ℕ × E)) (b : Bool) → 0 < room → length es ≤ room
      → (length es == room) ≡ b → cond b (slice_get es (length es - 1)) None ≡ None
      → take (room - 1) es ≡ es
  fits_at room es true some within t g =
      absurd (last_there room es some (grind (arith, nat_tests)) g)
  fits_at room es false some within t g =
      let less : length es < room = grind (arith, nat_tests) in
      take_all (room - 1) es (omega arith)

  full_at : (room : ℕ) (es : List (ℕ × E)) (x : ℕ × E) (b : Bool) → (length es == room) ≡ b
      → cond b (slice_get es (length es - 1)) None ≡ Some x
      → (length es ≡ room) × (slice_get es (length es - 1) ≡ Some x)
  full_at room es x true t g = (grind (arith, nat_tests), g)
  full_at room es x false t g = absurd (none-some x g)

  -- an entry comes, where there is room for it
  pub put_within : (a b : Slab V) (room : ℕ) (es : List (ℕ × E)) (key : ℕ) (x : E) (v : V)
      → 0 < room → length es ≤ room
      → pushed_out (record { room = room; entries = es }) ≡ None
      → AreHeld slot a.slots es → get a (slot x) ≡ None → Updates a b (slot x) (Some v)
      → slab_len b ≡ slab_len a + 1
      → Holds b.slots ((key, x) ∷ take (room - 1) es)
      ((key, made x v) ∷ take (room - 1) (held slot made a.slots es))
  put_within a b room es key x v some within g h vacant u c =
      let all : take (room - 1) es ≡ es = fits_at room es (length es == room) some within refl g in
      let put = added a b es key x v h vacant u c in
      record {
        stand = subst (λ xs. AreHeld slot b.slots ((key, x) ∷ xs)) (sym all) put.stand;
        seen = ap (λ xs. held slot made b.slots ((key, x) ∷ xs)) all
            ∙ (put.seen
            ∙ ap (λ r. (key, made x v) ∷ r)
            (ap (λ xs. held slot made a.slots xs) (sym all)
            ∙ held_take slot made a.slots (room - 1) es h.found));
      }

  last_goes : (b c : Slab V) (n : ℕ) (es : List (ℕ × E)) (l : ℕ × E) (r : Option V)
      → length es ≡ suc n → slice_get es n ≡ Some l → AreHeld slot b.slots es
      → r ≡ get b (slot l.1) → Updates b c (slot l.1) None
      → OnSome r (slab_len c + 1 ≡ slab_len b)
      → Holds c.slots (take n es) (take n (held slot made b.slots es))
  last_goes b c n es l r size g h v u k =
      let less = take n es in
      let here : IsSome (get b (slot l.1)) =
      all_get (λ e. IsSome (get b (slot e.1))) es n l h.found g in
      let some : IsSome r = subst (λ (o : Option V). IsSome o) (sym v) here in
      let apart : IsApartFrom slot (slot l.1) less = differs_take slot n es l h.apart g in
      let found : AreFound slot b.slots less =
      all_take (λ e. IsSome (get b (slot e.1))) n es h.found in
      let size' = length-take n es in
      record {
        stand = gone slot b c es less (slot l.1) h found (apart_take slot n es h.apart) apart
            (omega arith) u (on_some (slab_len c + 1 ≡ slab_len b) r some k);
        seen = held_stays b c (slot l.1) None u less apart
            ∙ held_take slot made b.slots n es h.found;
      }

  last_of_more : (room : ℕ) (es : List (ℕ × E)) (e l : ℕ × E) → 0 < room → length es ≡ room
      → slice_get es (length es - 1) ≡ Some l
      → slice_get (e ∷ es) (suc (room - 1)) ≡ Some l
  last_of_more room es e l some size g =
      let i : room - 1 ≡ length es - 1 = omega arith in
      ap (λ n. slice_get es n) i ∙ g

  -- an entry comes into a full list, and the last one goes
  pub put_full : (a b c : Slab V) (room : ℕ) (es : List (ℕ × E)) (key : ℕ) (x : E) (v : V)
      (l : ℕ × E) (r : Option V) → 0 < room
      → pushed_out (record { room = room; entries = es }) ≡ Some l
      → AreHeld slot a.slots es → get a (slot x) ≡ None → Updates a b (slot x) (Some v)
      → slab_len b ≡ slab_len a + 1
      → r ≡ get b (slot l.1) → Updates b c (slot l.1) None
      → OnSome r (slab_len c + 1 ≡ slab_len b)
      → Holds c.slots ((key, x) ∷ take (room - 1) es)
      ((key, made x v) ∷ take (room - 1) (held slot made a.slots es))
  put_full a b c room es key x v l r some g h vacant u k w t m =
      let full = full_at room es l (length es == room) refl g in
      let put = added a b es key x v h vacant u k in
      let goes = last_goes b c (suc (room - 1)) ((key, x) ∷ es) l r (omega arith)
      (last_of_more room es (key, x) l some full.0 full.1) put.stand w t m in
      record {
        stand = goes.stand;
        seen = goes.seen ∙ ap (λ xs. take (suc (room - 1)) xs) put.seen;
      }

  -- the value that goes is that of the entry that is pushed out
  pub lost_value : (a b : Slab V) (room : ℕ) (es : List (ℕ × E)) (x : E) (v : V) (l : ℕ × E)
      → pushed_out (record { room = room; entries = es }) ≡ Some l
      → AreHeld slot a.slots es → get a (slot x) ≡ None → Updates a b (slot x) (Some v)
      → pushed_out (record { room = room; entries = held slot made a.slots es })
      ≡ option_map (λ (y : V). (l.0, made l.1 y)) (get b (slot l.1))
  lost_value a b room es x v l g h vacant u =
      let full = full_at room es l (length es == room) refl g in
      let here : IsSome (get a (slot l.1)) =
      all_get (λ e. IsSome (get a (slot e.1))) es (length es - 1) l h.found full.1 in
      let apart = some_apart slot a (slot x) (slot l.1) vacant here in
      held_pushed slot made a.slots room es h.found
      ∙ (ap (λ o. entry_of slot made a.slots o) g
      ∙ ap (λ (o : Option V). option_map (λ (y : V). (l.0, made l.1 y)) o)
      (sym (u.others (slot l.1) (λ q. apart (sym q)))))

  -- none goes where there is room
  pub none_lost : (slots : List (Option V)) (room : ℕ) (es : List (ℕ × E))
      → pushed_out (record { room = room; entries = es }) ≡ None → AreFound slot slots es
      → pushed_out (record { room = room; entries = held slot made slots es }) ≡ None
  none_lost slots room es g h =
      held_pushed slot made slots room es h ∙ ap (λ o. entry_of slot made slots o) g
