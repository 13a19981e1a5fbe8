-- A value that is changed under its slot, and its entry brought to the front.
use Rattle.std.proofs.Common.{◌≡◌, ◌≢◌, ℕ, ◌+◌, ◌==◌, Bool, true, false, cond, List, [], ◌∷◌}
use Rattle.std.proofs.Common.{length, Option, None, Some, is_some, refl, sym, ap, ◌∙◌, subst, arith}
use Rattle.std.proofs.Common.{nat_eq, inl, inr}
use Rattle.std.specs.Prelude.{IsSome, IfSome}
use Rattle.std.specs.Map.{lookup, lookup_entry, remove_entry}
use Rattle.std.proofs.lemmas.Bool.{cases_eq}
use Rattle.std.proofs.lemmas.Bool.Decides.{nat_tests}
use Rattle.std.proofs.lemmas.List.Sums.{sum_by-set}
use Rattle.std.proofs.lemmas.Option.{none-some, same_Some}
use Rattle.lru.specs.LruCache.{promoted}
use Rattle.slab.specs.Slab.{Slab, get, slab_len, with_value, Updates}
use Rattle.slab.proofs.SlabLemmas.{Updates-with_value, ContainsKey-within}
use Rattle.slot_lists.specs.Held.{held, with_held, AreHeld, AreFound, AreApart, IsApartFrom}
use Rattle.slot_lists.specs.Held.{layer_slot, layer_made}
use Rattle.cache_lists.specs.Recent.{Recent, with_entries}
use Rattle.slot_lists.specs.Lists.{with_layer, after_deploy}
use Rattle.slot_lists.proofs.Fewer.{all_remove, all_lookup, one_fewer, apart_remove, differs_remove}
use Rattle.slot_lists.proofs.Standing.{held_remove}
use Rattle.slot_lists.proofs.Changing.{held_stays}

-- ---- what is so of a value that is there

pub if_some_same : {X : Type 0} (P : X → Type 0) (o p : Option X) → o ≡ p → IfSome p P → IfSome o P
if_some_same P o p e h = subst (λ x. IfSome x P) (sym e) h

pub if_some_there : {X : Type 0} (o : Option X) (Q : Type 0) → IsSome o → IfSome o (λ _. Q) → Q
if_some_there None Q s h = absurd (cc)
if_some_there (Some x) Q s h = h

-- ---- tests of keys

same : (x y : ℕ) → (x == y) ≡ true → x ≡ y
same x y h = grind (arith, nat_tests)

pub turned : (b : Bool) (x y : ℕ) → (x == y) ≡ b → (y == x) ≡ b
turned true x y h = grind (arith, nat_tests)
turned false x y h = grind (arith, nat_tests)

entry_either : {E : Type 0} (b : Bool) (k key : ℕ) (e x : E) (o : Option E) (p : Option (ℕ × E))
    → (k == key) ≡ b → (o ≡ Some x → p ≡ Some (k, x)) → cond b (Some e) o ≡ Some x
    → cond b (Some (key, e)) p ≡ Some (k, x)
entry_either true k key e x o p t f h =
    ap (λ n. Some (n, e)) (sym (same k key t)) ∙ ap (λ y. Some (k, y)) (same_Some e x h)
entry_either false k key e x o p t f h = f h

-- the entry that is found has the key that was looked for
found_entry : {E : Type 0} (k : ℕ) (es : List (ℕ × E)) (x : E) → lookup (nat_eq k) es ≡ Some x
    → lookup_entry (nat_eq k) es ≡ Some (k, x)
found_entry k [] x h = absurd (none-some x h)
found_entry k (e ∷ es) x h =
    entry_either (k == e.0) k e.0 e.1 x (lookup (nat_eq k) es) (lookup_entry (nat_eq k) es) refl
    (found_entry k es x) h

promoted_at : {E : Type 0} (k : ℕ) (es : List (ℕ × E)) (x : E) (o : Option (ℕ × E))
    → lookup_entry (nat_eq k) es ≡ o → o ≡ Some (k, x)
    → promoted (nat_eq k) es ≡ (k, x) ∷ remove_entry (nat_eq k) es
promoted_at k es x None l h = absurd (none-some (k, x) h)
promoted_at k es x (Some e) l h =
    rw l (ap (λ f. f ∷ remove_entry (nat_eq k) es) (same_Some e (k, x) h))

-- what is found goes to the front
promoted_is : {E : Type 0} (k : ℕ) (es : List (ℕ × E)) (x : E) → lookup (nat_eq k) es ≡ Some x
    → promoted (nat_eq k) es ≡ (k, x) ∷ remove_entry (nat_eq k) es
promoted_is k es x h =
    promoted_at k es x (lookup_entry (nat_eq k) es) refl (found_entry k es x h)

-- ---- a value is changed

module _ {L : Type 0} (a : Slab L) (s : ℕ) (new : L) (there : IsSome (get a s)) where
  changes : Updates a (with_value a s new) s (Some new)
  changes = Updates-with_value a s new there

  some_stays : (n : ℕ) → IsSome (get a n) → IsSome (get (with_value a s new) n)
  some_stays n h = elim (cases_eq n s) [
    | inl same ↦ subst (λ m. IsSome (get (with_value a s new) m)) (sym same)
        (subst (λ (o : Option L). IsSome o) (sym changes.changed) refl)
    | inr differs ↦ subst (λ (o : Option L). IsSome o) (sym (changes.others n differs)) h
  ]

  found_set : (es : List (ℕ × ℕ)) → AreFound layer_slot a.slots es
      → AreFound layer_slot (with_value a s new).slots es
  found_set [] h = tt
  found_set (e ∷ es) h = (some_stays e.1 h.0, found_set es h.1)

  count_set : slab_len (with_value a s new) ≡ slab_len a
  count_set =
      let one : cond {A = ℕ} (is_some (get a s)) 1 0 ≡ 1 =
      ap (λ (t : Bool). cond {A = ℕ} t 1 0) there in
      let all : slab_len (with_value a s new) + cond {A = ℕ} (is_some (get a s)) 1 0
      ≡ slab_len a + 1 =
      sum_by-set (λ (o : Option L). cond (is_some o) 1 0) a.slots s (Some new) None
      (ContainsKey-within a s there) in
      omega arith

  -- the entries stay held
  pub set_holds : (es : List (ℕ × ℕ)) → AreHeld layer_slot a.slots es
      → AreHeld layer_slot (with_value a s new).slots es
  set_holds es h = record {
    found = found_set es h.found;
    apart = h.apart;
    counted = count_set ∙ h.counted;
  }

  front_holds : (k : ℕ) (es : List (ℕ × ℕ)) → lookup (nat_eq k) es ≡ Some s
      → AreHeld layer_slot a.slots es
      → AreHeld layer_slot a.slots ((k, s) ∷ remove_entry (nat_eq k) es)
  front_holds k es l h = record {
    found = (there, all_remove (λ e. IsSome (get a e.1)) (nat_eq k) es h.found);
    apart = (
      differs_remove layer_slot (nat_eq k) es s h.apart l,
      apart_remove layer_slot (nat_eq k) es h.apart,
    );
    counted = (let n = one_fewer (nat_eq k) es s l in
        let m : slab_len a ≡ length es = h.counted in omega arith);
  }

  -- they stay held where the entry goes to the front
  pub brought_holds : (k : ℕ) (es : List (ℕ × ℕ)) → lookup (nat_eq k) es ≡ Some s
      → AreHeld layer_slot a.slots es
      → AreHeld layer_slot (with_value a s new).slots (promoted (nat_eq k) es)
  brought_holds k es l h =
      subst (λ xs. AreHeld layer_slot (with_value a s new).slots xs) (sym (promoted_is k es s l))
      (set_holds ((k, s) ∷ remove_entry (nat_eq k) es) (front_holds k es l h))

  -- the changed value stands in front
  pub brought : (k : ℕ) (es : List (ℕ × ℕ)) → lookup (nat_eq k) es ≡ Some s
      → AreHeld layer_slot a.slots es
      → held layer_slot layer_made (with_value a s new).slots (promoted (nat_eq k) es)
      ≡ (k, new) ∷ remove_entry (nat_eq k) (held layer_slot layer_made a.slots es)
  unfolding held
  brought k es l h =
      let b = with_value a s new in
      let rest = remove_entry (nat_eq k) es in
      ap (λ xs. held layer_slot layer_made b.slots xs) (promoted_is k es s l)
      ∙ (ap (λ o. with_held layer_slot layer_made k s o (held layer_slot layer_made b.slots rest))
      changes.changed
      ∙ ap (λ r. (k, new) ∷ r)
      (held_stays layer_slot layer_made a b s (Some new) changes rest
      (differs_remove layer_slot (nat_eq k) es s h.apart l)
      ∙ held_remove layer_slot layer_made a.slots (nat_eq k) es h.found))

  layer_one : (k key e : ℕ) (o : Option L) (rest : List (ℕ × L)) → IsSome o
      → with_layer k new (with_held layer_slot layer_made key e o rest)
      ≡ cond (key == k) ((k, new) ∷ rest)
      (with_held layer_slot layer_made key e o (with_layer k new rest))
  layer_one k key e None rest h = absurd (cc)
  layer_one k key e (Some v) rest h = refl

  here : (k key e : ℕ) (olds news : List (ℕ × L)) → (k == key) ≡ true → e ≡ s → news ≡ olds
      → with_held layer_slot layer_made key e (get (with_value a s new) e) news ≡ (k, new) ∷ olds
  here k key e olds news t q r =
      ap (λ n. with_held layer_slot layer_made key e (get (with_value a s new) n) news) q
      ∙ (ap (λ o. with_held layer_slot layer_made key e o news) changes.changed
      ∙ (ap (λ n. (n, new) ∷ news) (sym (same k key t)) ∙ ap (λ ws. (k, new) ∷ ws) r))

  either_way : (t : Bool) (k : ℕ) (e : ℕ × ℕ) (es : List (ℕ × ℕ)) → (k == e.0) ≡ t
      → cond t (Some e.1) (lookup (nat_eq k) es) ≡ Some s
      → AreApart layer_slot (e ∷ es)
      → (lookup (nat_eq k) es ≡ Some s
      → held layer_slot layer_made (with_value a s new).slots es
      ≡ with_layer k new (held layer_slot layer_made a.slots es))
      → with_held layer_slot layer_made e.0 e.1 (get (with_value a s new) e.1)
      (held layer_slot layer_made (with_value a s new).slots es)
      ≡ cond t ((k, new) ∷ held layer_slot layer_made a.slots es)
      (with_held layer_slot layer_made e.0 e.1 (get a e.1)
      (with_layer k new (held layer_slot layer_made a.slots es)))
  either_way true k e es t l d f =
      let q : e.1 ≡ s = same_Some e.1 s l in
      here k e.0 e.1 (held layer_slot layer_made a.slots es)
      (held layer_slot layer_made (with_value a s new).slots es) t q
      (held_stays layer_slot layer_made a (with_value a s new) s (Some new) changes es
      (subst (λ n. IsApartFrom layer_slot n es) q d.0))
  either_way false k e es t l d f =
      let apart : e.1 ≢ s = all_lookup (λ (x : ℕ). e.1 ≢ x) (nat_eq k) es s d.0 l in
      ap (λ o. with_held layer_slot layer_made e.0 e.1 o
      (held layer_slot layer_made (with_value a s new).slots es)) (changes.others e.1 apart)
      ∙ ap (λ r. with_held layer_slot layer_made e.0 e.1 (get a e.1) r) (f l)

  -- the changed value stands where the old one stood
  pub replaced : (k : ℕ) (es : List (ℕ × ℕ)) → lookup (nat_eq k) es ≡ Some s
      → AreFound layer_slot a.slots es → AreApart layer_slot es
      → held layer_slot layer_made (with_value a s new).slots es
      ≡ with_layer k new (held layer_slot layer_made a.slots es)
  unfolding held
  replaced k [] l h d = absurd (none-some s l)
  replaced k (e ∷ es) l h d =
      let olds = held layer_slot layer_made a.slots es in
      either_way (k == e.0) k e es refl l d (λ g. replaced k es g h.1 d.1)
      ∙ (ap (λ (t : Bool). cond t ((k, new) ∷ olds)
      (with_held layer_slot layer_made e.0 e.1 (get a e.1) (with_layer k new olds)))
      (sym (turned (k == e.0) k e.0 refl))
      ∙ sym (layer_one k e.0 e.1 (get a e.1) olds h.0))

-- ---- what the list comes to

-- the list with these entries
abbrev pub whole : {W : Type 0} → (room : ℕ) → List (ℕ × W) → Recent ℕ W
whole room ws = record { room = room; entries = ws }

module _ {L : Type 0} (list : Recent ℕ ℕ) (a b : Slab L) (now : Recent ℕ L) (k s : ℕ) (new : L)
    (there : IsSome (get a s)) (found : lookup (nat_eq k) list.entries ≡ Some s)
    (h : AreHeld layer_slot a.slots list.entries)
    (view : whole list.room (held layer_slot layer_made a.slots list.entries) ≡ now)
    (set : b ≡ with_value a s new) where
  -- a deploy worked
  pub after_done : (after : Recent ℕ ℕ)
      → after ≡ with_entries (promoted (nat_eq k) list.entries) list
      → whole after.room (held layer_slot layer_made b.slots after.entries)
      ≡ with_entries (after_deploy true k new now.entries) now
  after_done after touched =
      ap (λ (l : Recent ℕ ℕ). whole l.room (held layer_slot layer_made b.slots l.entries)) touched
      ∙ (ap (λ (c : Slab L). whole list.room
      (held layer_slot layer_made c.slots (promoted (nat_eq k) list.entries))) set
      ∙ (ap (λ ws. whole list.room ws) (brought a s new there k list.entries found h)
      ∙ ap (λ (r : Recent ℕ L). with_entries (after_deploy true k new r.entries) r) view))

  -- it didn't
  pub after_refused : whole list.room (held layer_slot layer_made b.slots list.entries)
      ≡ with_entries (after_deploy false k new now.entries) now
  after_refused =
      ap (λ (c : Slab L). whole list.room (held layer_slot layer_made c.slots list.entries)) set
      ∙ (ap (λ ws. whole list.room ws)
      (replaced a s new there k list.entries found h.found h.apart)
      ∙ ap (λ (r : Recent ℕ L). with_entries (after_deploy false k new r.entries) r) view)

  -- the entries stay held, either way
  pub done_holds : (after : Recent ℕ ℕ)
      → after ≡ with_entries (promoted (nat_eq k) list.entries) list
      → AreHeld layer_slot b.slots after.entries
  done_holds after touched =
      subst (λ (l : Recent ℕ ℕ). AreHeld layer_slot b.slots l.entries) (sym touched)
      (subst (λ (c : Slab L). AreHeld layer_slot c.slots (promoted (nat_eq k) list.entries))
      (sym set)
      (brought_holds a s new there k list.entries found h))

  pub refused_holds : AreHeld layer_slot b.slots list.entries
  refused_holds =
      subst (λ (c : Slab L). AreHeld layer_slot c.slots list.entries) (sym set)
      (set_holds a s new there list.entries h)
