-- The lists of a cache, and a journal's plain lists of their keys.
use Rattle.std.proofs.Common.{◌≡◌, ℕ, ◌-◌, ◌<◌, ◌≤◌, ◌==◌, Bool, true, false, cond, suc, zero}
use Rattle.std.proofs.Common.{List, [], ◌∷◌, length, take, Option, None, Some, refl, sym}
use Rattle.std.proofs.Common.{◌∙◌, ap, arith, subst, nat_eq, nat_le, inl, inr, option_map}
use Rattle.std.specs.Prelude.{is_some}
use Rattle.std.specs.List.{slice_get, find}
use Rattle.std.specs.Map.{keys_of, lookup, lookup_entry, remove_entry}
use Rattle.std.proofs.lemmas.Bool.Decides.{nat_tests}
use Rattle.std.proofs.lemmas.Option.{none-some, same_Some}
use Rattle.lru.specs.LruCache.{promoted}
use Rattle.cache_lists.specs.Recent as recent
use Rattle.cache_lists.specs.Recent.{Recent}
use Rattle.cache_lists.specs.Idle.{first_of}
use Rattle.cache_lists.specs.declared.idle_list.IdleContext.{IdleContext as Kept}
use Rattle.journal_model.proofs.Apart.{Has, IsApart}
use Rattle.journal_model.specs.State.{without, contains, last_of, is_full, numbered}
use Rattle.journal_model.specs.Legal.{to_front, first_for, is_for_one}
use Rattle.journal_model.specs.declared.state.ContextState.{ContextState}
use Rattle.journal_model.proofs.Recents.{same, differ}
use Rattle.journal_laws.specs.Lists.{AreFor}

tests_at : (a b : Bool) → (a ≡ true → b ≡ true) → (b ≡ true → a ≡ true) → a ≡ b
tests_at true true f g = refl
tests_at true false f g = sym (f refl)
tests_at false true f g = g refl
tests_at false false f g = refl

same_back : (x y : ℕ) → x ≡ y → (v : Bool) → (y == x) ≡ v → v ≡ true
same_back x y h true e = refl
same_back x y h false e = absurd (differ y x e (sym h))

-- a test of a key either way round
pub flip : (x y : ℕ) → (x == y) ≡ (y == x)
flip x y = tests_at (x == y) (y == x) (λ h. same_back x y (same x y h) (y == x) refl)
    (λ h. same_back y x (same y x h) (x == y) refl)

keys_at : (a b : Bool) (y : ℕ) (ys w : List ℕ) → a ≡ b →
    cond a ys (y ∷ w) ≡ cond b ys (y ∷ w)
keys_at a b y ys w h = ap (λ z. cond z ys (y ∷ w)) h

keys_cond : {V : Type 0} (a : Bool) (xs ys : List (ℕ × V)) →
    keys_of (cond a xs ys) ≡ cond a (keys_of xs) (keys_of ys)
keys_cond true xs ys = refl
keys_cond false xs ys = refl

-- an entry is taken out: so is its key
pub remove_keys : {V : Type 0} (k : ℕ) (es : List (ℕ × V)) →
    keys_of (remove_entry (nat_eq k) es) ≡ without k (keys_of es)
unfolding without
remove_keys k [] = refl
remove_keys k (e ∷ es) =
    keys_cond (k == e.0) es (e ∷ remove_entry (nat_eq k) es)
    ∙ (ap (λ w. cond (k == e.0) (keys_of es) (e.0 ∷ w)) (remove_keys k es)
    ∙ ap (λ z. cond z (keys_of es) (e.0 ∷ without k (keys_of es))) (flip k e.0))

found_key : {V : Type 0} (k : ℕ) (es : List (ℕ × V)) (e : ℕ × V) →
    lookup_entry (nat_eq k) es ≡ Some e → e.0 ≡ k
found_key k [] e h = absurd (none-some e h)
found_key k (f ∷ es) e h = (elim (nat_eq k f.0) as (λ y. nat_eq k f.0 ≡ y → e.0 ≡ k) [
  | true ↦ λ t. (let p : Some f ≡ Some e = rw t at h in
      ap (λ z. z.0) (sym (same_Some f e p)) ∙ sym (same k f.0 t))
  | false ↦ λ t. found_key k es e (rw t at h)
]) refl

found_so : {V : Type 0} (k : ℕ) (es : List (ℕ × V)) (v : V) (o : Option (ℕ × V)) →
    lookup_entry (nat_eq k) es ≡ o → lookup (nat_eq k) es ≡ Some v →
    (e : ℕ × V) × (lookup_entry (nat_eq k) es ≡ Some e)
found_so k es v (Some e) h l = (e, h)
found_so k es v None h l = absurd (none-some v (sym (no_value k es h) ∙ l)) where
  no_value : {V : Type 0} (k : ℕ) (es : List (ℕ × V)) → lookup_entry (nat_eq k) es ≡ None →
      lookup (nat_eq k) es ≡ None
  no_value k [] h = refl
  no_value k (f ∷ es) h = (elim (nat_eq k f.0) as (λ y. nat_eq k f.0 ≡ y →
      lookup (nat_eq k) (f ∷ es) ≡ None) [
        | true ↦ λ t. (let p = rw t at h in absurd (none-some f (sym p)))
        | false ↦ λ t. rw t (no_value k es (rw t at h))
      ]) refl

-- an entry is brought to the front: so is its key
pub promote_keys : {V : Type 0} (k : ℕ) (es : List (ℕ × V)) (v : V) →
    lookup (nat_eq k) es ≡ Some v →
    keys_of (promoted (nat_eq k) es) ≡ to_front (Some k) (keys_of es)
promote_keys k es v h = let p = found_so k es v (lookup_entry (nat_eq k) es) refl h in
    rw p.1 (ap (λ n. n ∷ keys_of (remove_entry (nat_eq k) es)) (found_key k es p.0 p.1)
    ∙ ap (λ w. k ∷ w) (remove_keys k es))

take_keys : {V : Type 0} (n : ℕ) (es : List (ℕ × V)) →
    keys_of (take n es) ≡ take n (keys_of es)
take_keys zero [] = refl
take_keys (suc n) [] = refl
take_keys zero (e ∷ es) = refl
take_keys (suc n) (e ∷ es) = ap (λ w. e.0 ∷ w) (take_keys n es)

-- an entry is put to the front
pub push_keys : {V : Type 0} (k : ℕ) (v : V) (list : Recent ℕ V) →
    keys_of (recent.with_first k v list).entries
    ≡ k ∷ take (list.room - 1) (keys_of list.entries)
push_keys k v list = ap (λ w. k ∷ w) (take_keys (list.room - 1) list.entries)

take_all : (n : ℕ) (xs : List ℕ) → length xs ≤ n → take n xs ≡ xs
take_all zero [] h = refl
take_all (suc n) [] h = refl
take_all zero (x ∷ xs) h = absurd (omega arith)
take_all (suc n) (x ∷ xs) h = ap (λ w. x ∷ w) (take_all n xs (omega arith))

get_in : (xs : List ℕ) (i j : ℕ) → slice_get xs i ≡ Some j → Has j xs
get_in [] i j h = absurd (none-some j h)
get_in (x ∷ xs) zero j h = inl (same_Some x j h)
get_in (x ∷ xs) (suc i) j h = inr (get_in xs i j h)

last_goes : (n : ℕ) (xs : List ℕ) (j : ℕ) → length xs ≡ suc n → IsApart xs →
    slice_get xs n ≡ Some j → take n xs ≡ without j xs
unfolding without
last_goes n [] j l d h = absurd (none-some j h)
last_goes zero (x ∷ []) j l d h =
    let e : x ≡ j = same_Some x j h in
    let q : (x == j) ≡ true = same_back j x (sym e) (x == j) refl in rw q refl
last_goes zero (x ∷ y ∷ ys) j l d h = absurd (omega arith)
last_goes (suc n) (x ∷ xs) j l d h =
    let q : (x == j) ≡ false = not_here (x == j) refl in
    rw q (ap (λ w. x ∷ w) (last_goes n xs j (omega arith) d.1 h)) where
      not_here : (b : Bool) → (x == j) ≡ b → b ≡ false
      not_here true e = absurd (d.0 (let P : ℕ → Type 0 = λ m. Has m xs in
          subst P (sym (same x j e)) (get_in xs n j h)))
      not_here false e = refl

-- a full list loses its last key
pub full_keys : (room j : ℕ) (xs : List ℕ) → length xs ≡ room → IsApart xs →
    last_of xs ≡ Some j → take (room - 1) xs ≡ without j xs
full_keys room j [] l d h = absurd (none-some j h)
full_keys room j (x ∷ xs) l d h =
    let e : room - 1 ≡ length xs = omega arith in
    ap (λ n. take n (x ∷ xs)) e ∙ last_goes (length xs) (x ∷ xs) j refl d
    (ap (λ n. slice_get (x ∷ xs) n) (omega arith) ∙ h)

-- one with room keeps all
pub room_keys : (room : ℕ) (xs : List ℕ) → length xs < room → take (room - 1) xs ≡ xs
room_keys room xs h = take_all (room - 1) xs (omega arith)

get_keys : {V : Type 0} (es : List (ℕ × V)) (i : ℕ) →
    option_map (λ e. e.0) (slice_get es i) ≡ slice_get (keys_of es) i
get_keys [] i = refl
get_keys (e ∷ es) zero = refl
get_keys (e ∷ es) (suc i) = get_keys es i

pub length_keys : {V : Type 0} (es : List (ℕ × V)) → length (keys_of es) ≡ length es
length_keys [] = refl
length_keys (e ∷ es) = ap suc (length_keys es)

-- the last key is that of the last entry
pub last_keys : {V : Type 0} (list : Recent ℕ V) →
    option_map (λ e. e.0) (recent.last_of list) ≡ last_of (keys_of list.entries)
last_keys list = get_keys list.entries (length list.entries - 1)
    ∙ ap (λ n. slice_get (keys_of list.entries) (n - 1)) (sym (length_keys list.entries))

full_tests : (n room : ℕ) → n ≤ room → (a b : Bool) → (n == room) ≡ a → nat_le room n ≡ b → a ≡ b
full_tests n room h true true e k = refl
full_tests n room h true false e k =
    let f : n ≡ room = same n room e in absurd (grind (arith, nat_tests))
full_tests n room h false true e k = absurd (differ n room e (grind (arith, nat_tests)))
full_tests n room h false false e k = refl

-- a list within its room is full where the keys are
pub is_full_keys : {V : Type 0} (list : Recent ℕ V) → length list.entries ≤ list.room →
    recent.is_full list ≡ is_full list.room (keys_of list.entries)
is_full_keys list h =
    full_tests (length list.entries) list.room h _ _ refl refl
    ∙ ap (λ n. nat_le list.room n) (sym (length_keys list.entries))

-- what is looked up is among the keys
pub contains_keys : {V : Type 0} (k : ℕ) (es : List (ℕ × V)) →
    is_some (lookup (nat_eq k) es) ≡ contains k (keys_of es)
unfolding contains
contains_keys k [] = refl
contains_keys k (e ∷ es) = (elim (nat_eq k e.0) as (λ y. nat_eq k e.0 ≡ y →
    is_some (lookup (nat_eq k) (e ∷ es)) ≡ contains k (keys_of (e ∷ es))) [
      | true ↦ λ t. (let q : (e.0 == k) ≡ true = flip e.0 k ∙ t in rw (t, q) refl)
      | false ↦ λ t. (let q : (e.0 == k) ≡ false = flip e.0 k ∙ t in
          rw (t, q) (contains_keys k es))
    ]) refl

-- the first context of a function, where the entries have the contexts' functions
pub first_keys : (f : ℕ) (xs : List ContextState) (es : List (ℕ × Kept)) → AreFor xs es →
    first_of f es ≡ first_for f xs (keys_of es)
unfolding first_for
first_keys f xs [] h = refl
first_keys f xs (e ∷ es) h =
    let q : is_for_one f (numbered xs e.0) ≡ (e.1.function == f) =
    ap (is_for_one f) h.0.1 ∙ ap (λ n. n == f) h.0.2 in
    ap (λ z. cond (e.1.function == f) (Some e.0) z) (first_keys f xs es h.1)
    ∙ ap (λ b. cond b (Some e.0) (find (λ (c : ℕ). is_for_one f (numbered xs c)) (keys_of es)))
    (sym q)
