-- What a layer that was built makes of the book.
use Rattle.std.proofs.Common.{◌≡◌, ℕ, ◌-◌, ◌<◌, ◌≤◌, Bool, true, false, List, [], ◌∷◌, ◌++◌}
use Rattle.std.proofs.Common.{zero, suc, length, take, cond, Option, None, Some, IsSome, refl, sym}
use Rattle.std.proofs.Common.{◌∙◌, ap, subst, arith, nat_eq, option_map}
use Rattle.std.proofs.lemmas.Bool.Decides.{nat_tests}
use Rattle.std.proofs.lemmas.List.{append_assoc}
use Rattle.std.proofs.lemmas.Option.{none-some}
use Rattle.std.specs.Prelude.{is_some}
use Rattle.std.specs.List.{slice_get, AllByRecursion}
use Rattle.std.specs.Map.{keys_of, lookup}
use Rattle.cache_lists.specs.Recent as recent
use Rattle.cache_lists.specs.Recent.{Recent, pushed_out, with_first}
use Rattle.journal_model.specs.Extents.{Extents}
use Rattle.journal_model.specs.State.{State, contains, is_full, last_of, without}
use Rattle.journal_model.specs.Legal as legal
use Rattle.journal_model.specs.Legal.{after, after_all, owes_nothing, owed_after_built}
use Rattle.journal_model.specs.declared.event.Event.{Event}
use Rattle.journal_model.specs.declared.event.Event.TheVariants.{Built, Keep, Dup, Drop}
use Rattle.journal_model.specs.declared.state.Owed.TheVariants as owed
use Rattle.journal_model.proofs.Apart.{Has, IsApart}
use Rattle.journal_model.proofs.Frames.{stood}
use Rattle.journal_model.proofs.Recents.{same}
use Rattle.journal_model.proofs.Sound.{reached_sound}
use Rattle.journal_laws.proofs.Folding.{joined_one}
use Rattle.journal_laws.proofs.Listing.{push_keys, full_keys, room_keys, length_keys, last_keys}
use Rattle.journal_laws.proofs.Listing.{is_full_keys, contains_keys}
use Rattle.journal_laws.proofs.Ties.{self}
use Rattle.space_api.specs.Holding.{Stocked, Pin}
use Rattle.space_api.specs.Told.{ParkedContext, KeptLayer}
use Rattle.book_log.specs.Logged.{Logged, starts_none, draws}
use Rattle.book_log.proofs.Logging.{appended}
use Rattle.slot_lists.specs.Lists.{Waiting}
use Rattle.book_model.specs.Kept.{IsHeld, IsLayerOf}
use Rattle.book_model.specs.Shared.{Shared}
use Rattle.book_model.specs.Steps.{Keeps, built_events, is_kept, last_kept, handed_layer, kept_with}
use Rattle.book_model.proofs.Holds.{book_of, IsNext, IsQuiet, noted, all_wait, stake_stays}
use Rattle.book_model.proofs.Results.{Stands, IsRoomier, next_of, leads_of, one_all}

-- ---- the first entries of a list

take_keys : {V : Type 0} (n : ℕ) (es : List (ℕ × V)) → keys_of (take n es) ≡ take n (keys_of es)
take_keys zero [] = refl
take_keys (suc n) [] = refl
take_keys zero (e ∷ es) = refl
take_keys (suc n) (e ∷ es) = ap (λ ks. e.0 ∷ ks) (take_keys n es)

all_taken : {V : Type 0} (P : ℕ × V → Type 0) (n : ℕ) (es : List (ℕ × V)) →
    AllByRecursion P es → AllByRecursion P (take n es)
all_taken P zero [] h = tt
all_taken P (suc n) [] h = tt
all_taken P zero (e ∷ es) h = tt
all_taken P (suc n) (e ∷ es) h = (h.0, all_taken P n es h.1)

last_there : {A : Type 0} (x : A) (xs : List A) (n : ℕ) → n < length (x ∷ xs) →
    slice_get (x ∷ xs) n ≡ None → ⊥
last_there x xs zero l h = none-some x (sym h)
last_there x [] (suc n) l h = absurd (omega arith)
last_there x (y ∷ xs) (suc n) l h = last_there y xs n (omega arith) h

-- a list with room has a last entry, where it is full
none_last : {V : Type 0} (room : ℕ) (es : List (ℕ × V)) → 1 ≤ room → length es ≡ room →
    slice_get es (length es - 1) ≡ None → ⊥
none_last room [] r l h = absurd (omega (arith, r, l))
none_last room (e ∷ es) r l h = last_there e es (length (e ∷ es) - 1) (omega arith) h

-- what goes for a further entry is the last of a full list
out_at : {V : Type 0} (list : Recent ℕ V) (e : ℕ × V) (b : Bool) → recent.is_full list ≡ b →
    pushed_out list ≡ Some e → (recent.is_full list ≡ true) × (recent.last_of list ≡ Some e)
out_at list e true t h = (t, let h' = rw t at h in h')
out_at list e false t h = absurd (none-some e (let h' = rw t at h in h'))

some_out : {V : Type 0} (list : Recent ℕ V) (e : ℕ × V) → pushed_out list ≡ Some e →
    (recent.is_full list ≡ true) × (recent.last_of list ≡ Some e)
some_out list e h = out_at list e (recent.is_full list) refl h

-- where nothing goes there was room
none_at : {V : Type 0} (list : Recent ℕ V) (b : Bool) → 1 ≤ list.room →
    recent.is_full list ≡ b → pushed_out list ≡ None → recent.is_full list ≡ false
none_at list true r t h = absurd (none_last list.room list.entries r
    (same (length list.entries) list.room t) (let h' = rw t at h in h'))
none_at list false r t h = t

none_out : {V : Type 0} (list : Recent ℕ V) → 1 ≤ list.room → pushed_out list ≡ None →
    recent.is_full list ≡ false
none_out list r h = none_at list (recent.is_full list) r refl h

-- ---- the events

-- a built layer changes no list
record IsBuilt (sizes : Extents) (s t : State) (k : ℕ) : Type 0 where
  quiet : IsQuiet s t
  owes : t.owed ≡ owed_after_built sizes s.kept k

built_leads : (sizes : Extents) (s t : State) (c k d : ℕ) →
    after sizes s (Built c k d) ≡ Some t → IsBuilt sizes s t k
unfolding legal.after_built
built_leads sizes s t c k d h = let w = stood _ _ t h in record {
  quiet = record {
    idle = ap (λ (x : State). x.idle) w.1;
    kept = ap (λ (x : State). x.kept) w.1;
    free = ap (λ (x : State). x.free) w.1;
  };
  owes = sym (ap (λ (x : State). x.owed) w.1);
}

-- nor does one that is kept already, and nothing is owed then
dup_leads : (sizes : Extents) (s t : State) (k : ℕ) → after sizes s (Dup k) ≡ Some t →
    IsQuiet s t × (owes_nothing t.owed ≡ true)
unfolding legal.after_dup
dup_leads sizes s t k h = let w = stood _ _ t h in (
  record {
    idle = ap (λ (x : State). x.idle) w.1;
    kept = ap (λ (x : State). x.kept) w.1;
    free = ap (λ (x : State). x.free) w.1;
  },
  ap (λ (x : State). owes_nothing x.owed) (sym w.1),
)

-- a layer goes
record Drops (s t : State) (j : ℕ) : Type 0 where
  idle : s.idle ≡ t.idle
  kept : without j s.kept ≡ t.kept
  free : s.free ≡ t.free
  owes : t.owed ≡ legal.owed_after_drop s.owed

drop_leads : (sizes : Extents) (s t : State) (j : ℕ) → after sizes s (Drop j) ≡ Some t →
    Drops s t j
unfolding legal.after_drop
drop_leads sizes s t j h = let w = stood _ _ t h in record {
  idle = ap (λ (x : State). x.idle) w.1;
  kept = ap (λ (x : State). x.kept) w.1;
  free = ap (λ (x : State). x.free) w.1;
  owes = sym (ap (λ (x : State). x.owed) w.1);
}

-- a layer comes to the front, and nothing is owed then
record Fronts (s t : State) (k : ℕ) : Type 0 where
  idle : s.idle ≡ t.idle
  kept : k ∷ s.kept ≡ t.kept
  free : s.free ≡ t.free
  owes : owes_nothing t.owed ≡ true

keep_leads : (sizes : Extents) (s t : State) (k : ℕ) → after sizes s (Keep k) ≡ Some t →
    Fronts s t k
unfolding legal.after_keep
keep_leads sizes s t k h = let w = stood _ _ t h in record {
  idle = ap (λ (x : State). x.idle) w.1;
  kept = ap (λ (x : State). x.kept) w.1;
  free = ap (λ (x : State). x.free) w.1;
  owes = ap (λ (x : State). owes_nothing x.owed) (sym w.1);
}

-- what is owed may stand

pub dup_may : (sizes : Extents) (s : State) (k : ℕ) → s.owed ≡ owed.Dup k →
    IsSome (after sizes s (Dup k))
dup_may sizes s k e = rw (e, self k) refl

pub keep_may : (sizes : Extents) (s : State) (k : ℕ) → s.owed ≡ owed.Keep k →
    IsSome (after sizes s (Keep k))
keep_may sizes s k e = rw (e, self k) refl

pub drop_may : (sizes : Extents) (s : State) (j k : ℕ) → s.owed ≡ owed.DropThenKeep k →
    last_of s.kept ≡ Some j → IsSome (after sizes s (Drop j))
unfolding legal.may_drop
drop_may sizes s j k e l = rw (e, l, self j) refl

-- the keep for which room was made is owed
pub drop_owes : (sizes : Extents) (s t : State) (j k : ℕ) → s.owed ≡ owed.DropThenKeep k →
    after sizes s (Drop j) ≡ Some t → t.owed ≡ owed.Keep k
drop_owes sizes s t j k e h = (drop_leads sizes s t j h).owes ∙ ap legal.owed_after_drop e

-- what is owed of a built layer, by both tests
owed_by : (sizes : Extents) (xs : List ℕ) (k : ℕ) (twice full : Bool) → contains k xs ≡ twice →
    is_full sizes.layers xs ≡ full → owed_after_built sizes xs k
    ≡ cond twice (owed.Dup k) (cond full (owed.DropThenKeep k) (owed.Keep k))
unfolding owed_after_built
owed_by sizes xs k twice full t f =
    ap (λ b. cond b (owed.Dup k) (cond (is_full sizes.layers xs) (owed.DropThenKeep k)
    (owed.Keep k))) t
    ∙ ap (λ b. cond twice (owed.Dup k) (cond b (owed.DropThenKeep k) (owed.Keep k))) f

-- a log with an event more, which may stand there
pub record IsStep (l m : Logged) (e : Event) : Type 0 where
  pub next : IsNext l m e
  pub leads : after l.sizes l.state e ≡ Some m.state

-- the log may have got room before
pub stepped : (l r m : Logged) (e : Event) (room : ℕ) → IsRoomier l r →
    after r.sizes r.state e ≡ Some m.state →
    m ≡ record r { events = r.events ++ e ∷ []; state = m.state; room = room } → IsStep l m e
stepped l r m e room h a k = record {
  next = next_of l r m e room h k;
  leads = leads_of l r e m.state h a;
}

-- ---- the book

module _ {C L H : Type 0} (parked : C → ParkedContext) (pin_of : C → Option Pin)
    (is_context : C → Type 0) (kept : L → KeptLayer) (layer_pin : L → Option Pin)
    (is_layer : L → Type 0) (stocked : H → Stocked) where
  abbrev Held : Shared C L H → Type 0
  Held b = IsHeld parked pin_of is_context kept layer_pin is_layer stocked b

  abbrev Stand : (i k : ℕ) → Shared C L H → Type 0
  Stand i k b = Stands parked pin_of is_context kept layer_pin is_layer stocked i k b

  -- a layer under its number, as a book keeps it
  abbrev IsFit : ℕ × L → Type 0
  IsFit e = is_layer e.1 × IsLayerOf e.0 (kept e.1) (layer_pin e.1)

  -- an event after which other layers are kept
  layers_change : (b : Shared C L H) (e : Event) (t : State) (entries : List (ℕ × L)) → Held b →
      after b.sizes b.state e ≡ Some t → starts_none e ≡ true → draws e ≡ false →
      b.state.idle ≡ t.idle → b.state.free ≡ t.free → keys_of entries ≡ t.kept →
      AllByRecursion IsFit entries → Held (record b {
        events = b.events ++ e ∷ [];
        state = t;
        kept = entries;
      })
  layers_change b e t entries h a n d i f k v = record {
    sizes = h.sizes;
    log = appended b.sizes b.events b.state t e b.started h.log a n;
    idle = h.idle ∙ i;
    kept_is = k;
    contexts = all_wait parked pin_of is_context kept layer_pin is_layer stocked b e t b.idle h a
        (λ c m. let x = subst (λ cs. Has c cs) h.idle m in (x, subst (λ cs. Has c cs) i x))
        h.contexts;
    layers = v;
    images = h.images;
    stake = stake_stays parked pin_of is_context kept layer_pin is_layer stocked b e t h a d;
    notes = h.notes;
    free = λ s. h.free s ∙ f;
  }

  -- the same of logs
  changed : (l m : Logged) (e : Event) (idle : List (ℕ × Waiting C)) (ls entries : List (ℕ × L))
      (images : List L) (shelf : H) (stopped : Bool) → IsNext l m e →
      after l.sizes l.state e ≡ Some m.state → starts_none e ≡ true → draws e ≡ false →
      l.state.idle ≡ m.state.idle → l.state.free ≡ m.state.free →
      keys_of entries ≡ m.state.kept → AllByRecursion IsFit entries →
      Held (book_of l idle ls images shelf stopped) →
      Held (book_of m idle entries images shelf stopped)
  changed l m e idle ls entries images shelf stopped x a n d i f k v h =
      subst (λ (y : Logged). Held (book_of y idle entries images shelf stopped)) (sym x)
      (layers_change (book_of l idle ls images shelf stopped) e m.state entries h a n d i f k v)

  -- the journal's list is full where the kept one is
  full_is : (l : Logged) (i : ℕ) (idle : List (ℕ × Waiting C)) (list : Recent ℕ L)
      (images : List L) (shelf : H) (stopped : Bool) →
      Stand i list.room (book_of l idle list.entries images shelf stopped) →
      recent.is_full list ≡ is_full l.sizes.layers l.state.kept
  full_is l i idle list images shelf stopped h =
      let z = (reached_sound l.sizes l.events l.state h.2.held.log.reached).kept_room in
      let r : list.room ≡ l.sizes.layers = h.1 in
      let e : length list.entries ≡ length l.state.kept
      = sym (length_keys list.entries) ∙ ap length h.2.held.kept_is in
      let w : length list.entries ≤ list.room = omega (arith, z, r, e) in
      is_full_keys list w ∙ (ap (λ n. is_full n (keys_of list.entries)) r
      ∙ ap (λ ks. is_full l.sizes.layers ks) h.2.held.kept_is)

  -- a layer is kept where the journal's is
  kept_so : (l : Logged) (i k : ℕ) (idle : List (ℕ × Waiting C)) (list : Recent ℕ L)
      (images : List L) (shelf : H) (stopped b : Bool) →
      Stand i list.room (book_of l idle list.entries images shelf stopped) →
      is_some (lookup (nat_eq k) list.entries) ≡ b → contains k l.state.kept ≡ b
  kept_so l i k idle list images shelf stopped b h e =
      ap (λ ks. contains k ks) (sym h.2.held.kept_is) ∙ (sym (contains_keys k list.entries) ∙ e)

  room_some : (l : Logged) (i : ℕ) (idle : List (ℕ × Waiting C)) (list : Recent ℕ L)
      (images : List L) (shelf : H) (stopped : Bool) →
      Stand i list.room (book_of l idle list.entries images shelf stopped) → 1 ≤ list.room
  room_some l i idle list images shelf stopped h =
      let r : list.room ≡ l.sizes.layers = h.1 in let s = h.2.held.sizes.sized.room in
      omega (arith, r, s)

  -- of a layer that is kept already a dup is owed
  pub twice_owes : (l : Logged) (t : State) (c k d i : ℕ) (idle : List (ℕ × Waiting C))
      (list : Recent ℕ L) (images : List L) (shelf : H) (stopped : Bool) →
      Stand i list.room (book_of l idle list.entries images shelf stopped) →
      after l.sizes l.state (Built c k d) ≡ Some t →
      is_some (lookup (nat_eq k) list.entries) ≡ true → t.owed ≡ owed.Dup k
  twice_owes l t c k d i idle list images shelf stopped h a e =
      (built_leads l.sizes l.state t c k d a).owes ∙ owed_by l.sizes l.state.kept k true
      (is_full l.sizes.layers l.state.kept) (kept_so l i k idle list images shelf stopped true h e)
      refl

  -- of another one a keep, where there is room
  pub room_owes : (l : Logged) (t : State) (c k d i : ℕ) (idle : List (ℕ × Waiting C))
      (list : Recent ℕ L) (images : List L) (shelf : H) (stopped : Bool) →
      Stand i list.room (book_of l idle list.entries images shelf stopped) →
      after l.sizes l.state (Built c k d) ≡ Some t →
      is_some (lookup (nat_eq k) list.entries) ≡ false → pushed_out list ≡ None →
      t.owed ≡ owed.Keep k
  room_owes l t c k d i idle list images shelf stopped h a e p =
      (built_leads l.sizes l.state t c k d a).owes ∙ owed_by l.sizes l.state.kept k false false
      (kept_so l i k idle list images shelf stopped false h e)
      (sym (full_is l i idle list images shelf stopped h)
      ∙ none_out list (room_some l i idle list images shelf stopped h) p)

  -- and else a drop first
  pub full_owes : (l : Logged) (t : State) (c k d i : ℕ) (out : ℕ × L)
      (idle : List (ℕ × Waiting C)) (list : Recent ℕ L) (images : List L) (shelf : H)
      (stopped : Bool) → Stand i list.room (book_of l idle list.entries images shelf stopped) →
      after l.sizes l.state (Built c k d) ≡ Some t →
      is_some (lookup (nat_eq k) list.entries) ≡ false → pushed_out list ≡ Some out →
      t.owed ≡ owed.DropThenKeep k
  full_owes l t c k d i out idle list images shelf stopped h a e p =
      (built_leads l.sizes l.state t c k d a).owes ∙ owed_by l.sizes l.state.kept k false true
      (kept_so l i k idle list images shelf stopped false h e)
      (sym (full_is l i idle list images shelf stopped h) ∙ (some_out list out p).0)

  -- of the layer that is the journal's last
  pub last_is : (l : Logged) (t : State) (c k d i : ℕ) (out : ℕ × L)
      (idle : List (ℕ × Waiting C)) (list : Recent ℕ L) (images : List L) (shelf : H)
      (stopped : Bool) → Stand i list.room (book_of l idle list.entries images shelf stopped) →
      after l.sizes l.state (Built c k d) ≡ Some t → pushed_out list ≡ Some out →
      last_of t.kept ≡ Some out.0
  last_is l t c k d i out idle list images shelf stopped h a p =
      let q : keys_of list.entries ≡ t.kept
      = h.2.held.kept_is ∙ (built_leads l.sizes l.state t c k d a).quiet.kept in
      ap (λ ks. last_of ks) (sym q) ∙ (sym (last_keys list)
      ∙ ap (λ o. option_map (λ (e : ℕ × L). e.0) o) (some_out list out p).1)

  -- ---- the book after each of the three

  -- after a layer that was kept already
  pub stands_twice : (l m n : Logged) (c k d i r : ℕ) (idle : List (ℕ × Waiting C))
      (ls : List (ℕ × L)) (images : List L) (shelf : H) (stopped : Bool) →
      IsStep l m (Built c k d) → IsStep m n (Dup k) →
      Stand i r (book_of l idle ls images shelf stopped) →
      Stand i r (book_of n idle ls images shelf stopped)
  stands_twice l m n c k d i r idle ls images shelf stopped x y h =
      let one = noted parked pin_of is_context kept layer_pin is_layer stocked l m (Built c k d)
      idle ls images shelf stopped x.next x.leads refl refl
      (built_leads l.sizes l.state m.state c k d x.leads).quiet h.2.held in
      let q = dup_leads m.sizes m.state n.state k y.leads in
      let two = noted parked pin_of is_context kept layer_pin is_layer stocked m n (Dup k) idle ls
      images shelf stopped y.next y.leads refl refl q.0 one in (
        h.0 ∙ (ap (λ (z : Logged). z.sizes.idle) (sym x.next)
            ∙ ap (λ (z : Logged). z.sizes.idle) (sym y.next)),
        h.1 ∙ (ap (λ (z : Logged). z.sizes.layers) (sym x.next)
            ∙ ap (λ (z : Logged). z.sizes.layers) (sym y.next)),
        record { held = two; owes = q.1 },
      )

  -- the entries stay fit with a layer in front
  front_fit : (k : ℕ) (layer : L) (list : Recent ℕ L) → IsFit (k, layer) →
      AllByRecursion IsFit list.entries →
      AllByRecursion IsFit (with_first k layer list).entries
  front_fit k layer list f v = (f, all_taken IsFit (list.room - 1) list.entries v)

  -- after one for which there was room
  pub stands_kept : (l m n : Logged) (c k d i : ℕ) (layer : L) (idle : List (ℕ × Waiting C))
      (list : Recent ℕ L) (images : List L) (shelf : H) (stopped : Bool) →
      IsStep l m (Built c k d) → IsStep m n (Keep k) → pushed_out list ≡ None →
      IsFit (k, layer) →
      Stand i list.room (book_of l idle list.entries images shelf stopped) →
      Stand i list.room (book_of n idle (with_first k layer list).entries images shelf stopped)
  stands_kept l m n c k d i layer idle list images shelf stopped x y p f h =
      let quiet = (built_leads l.sizes l.state m.state c k d x.leads).quiet in
      let one = noted parked pin_of is_context kept layer_pin is_layer stocked l m (Built c k d)
      idle list.entries images shelf stopped x.next x.leads refl refl quiet h.2.held in
      let q = keep_leads m.sizes m.state n.state k y.leads in
      let z = (reached_sound l.sizes l.events l.state h.2.held.log.reached).kept_room in
      let r : list.room ≡ l.sizes.layers = h.1 in
      let e : length (keys_of list.entries) ≡ length l.state.kept = ap length h.2.held.kept_is in
      let g = none_out list (room_some l i idle list images shelf stopped h) p in
      let t = length_keys list.entries in
      let w : length (keys_of list.entries) < list.room = grind (arith, nat_tests, g, t, z, r, e) in
      let keys : keys_of (with_first k layer list).entries ≡ n.state.kept
      = push_keys k layer list ∙ (ap (λ ks. k ∷ ks) (room_keys list.room (keys_of list.entries) w
      ∙ (h.2.held.kept_is ∙ quiet.kept)) ∙ q.kept) in (
        h.0 ∙ (ap (λ (z : Logged). z.sizes.idle) (sym x.next)
            ∙ ap (λ (z : Logged). z.sizes.idle) (sym y.next)),
        h.1 ∙ (ap (λ (z : Logged). z.sizes.layers) (sym x.next)
            ∙ ap (λ (z : Logged). z.sizes.layers) (sym y.next)),
        record {
          held = changed m n (Keep k) idle list.entries (with_first k layer list).entries images
              shelf stopped y.next y.leads refl refl q.idle q.free keys
              (front_fit k layer list f h.2.held.layers) one;
          owes = q.owes;
        },
      )

  -- after one for which the last went
  pub stands_pushed : (l m n o : Logged) (c k d i : ℕ) (out : ℕ × L) (layer : L)
      (idle : List (ℕ × Waiting C)) (list : Recent ℕ L) (images : List L) (shelf : H)
      (stopped : Bool) → IsStep l m (Built c k d) → IsStep m n (Drop out.0) →
      IsStep n o (Keep k) → pushed_out list ≡ Some out → IsFit (k, layer) →
      Stand i list.room (book_of l idle list.entries images shelf stopped) →
      Stand i list.room (book_of o idle (with_first k layer list).entries images shelf stopped)
  stands_pushed l m n o c k d i out layer idle list images shelf stopped x y z p f h =
      let quiet = (built_leads l.sizes l.state m.state c k d x.leads).quiet in
      let one = noted parked pin_of is_context kept layer_pin is_layer stocked l m (Built c k d)
      idle list.entries images shelf stopped x.next x.leads refl refl quiet h.2.held in
      let drop = drop_leads m.sizes m.state n.state out.0 y.leads in
      let keep = keep_leads n.sizes n.state o.state k z.leads in
      let ks = keys_of list.entries in
      let same_kept : ks ≡ m.state.kept = h.2.held.kept_is ∙ quiet.kept in
      let full : length ks ≡ list.room = length_keys list.entries
      ∙ same (length list.entries) list.room (some_out list out p).0 in
      let apart = subst (λ cs. IsApart cs) (sym h.2.held.kept_is)
      (reached_sound l.sizes l.events l.state h.2.held.log.reached).kept_distinct in
      let last : last_of ks ≡ Some out.0 = ap (λ cs. last_of cs) same_kept
      ∙ last_is l m.state c k d i out idle list images shelf stopped h x.leads p in
      let rest = take (list.room - 1) list.entries in
      let keys : keys_of rest ≡ n.state.kept = take_keys (list.room - 1) list.entries
      ∙ (full_keys list.room out.0 ks full apart last
      ∙ (ap (λ cs. without out.0 cs) same_kept ∙ drop.kept)) in
      let fit = all_taken IsFit (list.room - 1) list.entries h.2.held.layers in
      let two = changed m n (Drop out.0) idle list.entries rest images shelf stopped y.next
      y.leads refl refl drop.idle drop.free keys fit one in (
        h.0 ∙ (ap (λ (v : Logged). v.sizes.idle) (sym x.next)
            ∙ (ap (λ (v : Logged). v.sizes.idle) (sym y.next)
            ∙ ap (λ (v : Logged). v.sizes.idle) (sym z.next))),
        h.1 ∙ (ap (λ (v : Logged). v.sizes.layers) (sym x.next)
            ∙ (ap (λ (v : Logged). v.sizes.layers) (sym y.next)
            ∙ ap (λ (v : Logged). v.sizes.layers) (sym z.next))),
        record {
          held = changed n o (Keep k) idle rest (with_first k layer list).entries images shelf
              stopped z.next z.leads refl refl keep.idle keep.free
              (ap (λ cs. k ∷ cs) keys ∙ keep.kept) (f, fit) two;
          owes = keep.owes;
        },
      )

-- ---- what is said

-- a log after these events
record Leads (l m : Logged) (es : List Event) : Type 0 where
  state : after_all l.sizes l.state es ≡ Some m.state
  rest : m ≡ record l { events = l.events ++ es; state = m.state; room = m.room }

leads_one : (l m : Logged) (e : Event) → IsStep l m e → Leads l m (e ∷ [])
leads_one l m e x = record { state = one_all l.sizes l.state e ∙ x.leads; rest = x.next }

leads_more : (l m n : Logged) (es : List Event) (e : Event) → Leads l m es → IsStep m n e →
    Leads l n (es ++ e ∷ [])
leads_more l m n es e h x = record {
  state = joined_one l.sizes l.state m.state es e h.state
      ∙ subst (λ (z : Extents). after z m.state e ≡ Some n.state)
      (ap (λ (y : Logged). y.sizes) h.rest) x.leads;
  rest = x.next ∙ (ap (λ (y : Logged). record y {
    events = y.events ++ e ∷ [];
    state = n.state;
    room = n.room;
  }) h.rest ∙ ap (λ (fs : List Event). record l {
    events = fs;
    state = n.state;
    room = n.room;
  }) (append_assoc l.events es (e ∷ [])));
}

module _ {C L H : Type 0} where
  keeps_so : (l m : Logged) (c k d : ℕ) (layer : L) (handed : Option L) (es : List Event)
      (idle : List (ℕ × Waiting C)) (ls entries : List (ℕ × L)) (images : List L) (shelf : H)
      (stopped : Bool) (now : Shared C L H) → Leads l m es →
      built_events c k d (is_kept k (book_of l idle ls images shelf stopped))
      (last_kept (book_of l idle ls images shelf stopped)) ≡ es →
      handed ≡ handed_layer (is_kept k (book_of l idle ls images shelf stopped)) layer
      (book_of l idle ls images shelf stopped) →
      entries ≡ kept_with (is_kept k (book_of l idle ls images shelf stopped)) k layer
      (book_of l idle ls images shelf stopped) → book_of l idle ls images shelf stopped ≡ now →
      Keeps c k d layer handed now (book_of m idle entries images shelf stopped)
  keeps_so l m c k d layer handed es idle ls entries images shelf stopped now h q p v w =
      subst (λ (b : Shared C L H). Keeps c k d layer handed b
      (book_of m idle entries images shelf stopped)) w (record {
        legal = ap (λ fs. after_all l.sizes l.state fs) q ∙ h.state;
        handed_is = p;
        new_is = ap (λ (y : Logged). book_of y idle entries images shelf stopped) h.rest
            ∙ (ap (λ (fs : List Event). record (book_of l idle ls images shelf stopped) {
              events = l.events ++ fs;
              state = m.state;
              kept = entries;
            }) (sym q) ∙ ap (λ (fs : List (ℕ × L)).
            record (book_of l idle ls images shelf stopped) {
              events = l.events ++ built_events c k d
                  (is_kept k (book_of l idle ls images shelf stopped))
                  (last_kept (book_of l idle ls images shelf stopped));
              state = m.state;
              kept = fs;
            }) v);
      })

  -- a layer that was kept already comes back
  pub keeps_twice : (l m n : Logged) (c k d : ℕ) (layer : L) (idle : List (ℕ × Waiting C))
      (ls : List (ℕ × L)) (images : List L) (shelf : H) (stopped : Bool) (now : Shared C L H) →
      IsStep l m (Built c k d) → IsStep m n (Dup k) →
      is_some (lookup (nat_eq k) ls) ≡ true → book_of l idle ls images shelf stopped ≡ now →
      Keeps c k d layer (Some layer) now (book_of n idle ls images shelf stopped)
  keeps_twice l m n c k d layer idle ls images shelf stopped now x y t w =
      let book : Shared C L H = book_of l idle ls images shelf stopped in
      keeps_so l n c k d layer (Some layer) (Built c k d ∷ Dup k ∷ []) idle ls ls images shelf
      stopped now (leads_more l m n (Built c k d ∷ []) (Dup k) (leads_one l m (Built c k d) x)
      y) (ap (λ z. built_events c k d z (last_kept book)) t)
      (ap (λ z. handed_layer z layer book) (sym t)) (ap (λ z. kept_with z k layer book) (sym t)) w

  -- nothing comes back where there was room
  pub keeps_room : (l m n : Logged) (c k d : ℕ) (layer : L) (idle : List (ℕ × Waiting C))
      (list : Recent ℕ L) (images : List L) (shelf : H) (stopped : Bool) (now : Shared C L H) →
      IsStep l m (Built c k d) → IsStep m n (Keep k) →
      list.room ≡ l.sizes.layers → is_some (lookup (nat_eq k) list.entries) ≡ false →
      pushed_out list ≡ None → book_of l idle list.entries images shelf stopped ≡ now →
      Keeps c k d layer None now
      (book_of n idle (with_first k layer list).entries images shelf stopped)
  keeps_room l m n c k d layer idle list images shelf stopped now x y r t p w =
      let book : Shared C L H = book_of l idle list.entries images shelf stopped in
      let lists : ℕ → Recent ℕ L = λ n. record { room = n; entries = list.entries } in
      let out : pushed_out (lists l.sizes.layers) ≡ None
      = ap (λ z. pushed_out (lists z)) (sym r) ∙ p in
      keeps_so l n c k d layer None (Built c k d ∷ Keep k ∷ []) idle list.entries
      (with_first k layer list).entries images shelf stopped now
      (leads_more l m n (Built c k d ∷ []) (Keep k) (leads_one l m (Built c k d) x) y)
      (ap (λ z. built_events c k d z (last_kept book)) t
      ∙ ap (λ o. built_events c k d false (option_map (λ (e : ℕ × L). e.0) o)) out)
      (sym (ap (λ z. handed_layer z layer book) t
      ∙ ap (λ o. option_map (λ (e : ℕ × L). e.1) o) out))
      (ap (λ z. (with_first k layer (lists z)).entries) r
      ∙ ap (λ z. kept_with z k layer book) (sym t)) w

  -- and else what went for it
  pub keeps_full : (l m n o : Logged) (c k d : ℕ) (out : ℕ × L) (layer : L)
      (idle : List (ℕ × Waiting C)) (list : Recent ℕ L) (images : List L) (shelf : H)
      (stopped : Bool) (now : Shared C L H) →
      IsStep l m (Built c k d) → IsStep m n (Drop out.0) → IsStep n o (Keep k) →
      list.room ≡ l.sizes.layers → is_some (lookup (nat_eq k) list.entries) ≡ false →
      pushed_out list ≡ Some out → book_of l idle list.entries images shelf stopped ≡ now →
      Keeps c k d layer (Some out.1) now
      (book_of o idle (with_first k layer list).entries images shelf stopped)
  keeps_full l m n o c k d out layer idle list images shelf stopped now x y z r t p w =
      let book : Shared C L H = book_of l idle list.entries images shelf stopped in
      let lists : ℕ → Recent ℕ L = λ n. record { room = n; entries = list.entries } in
      let pushed : pushed_out (lists l.sizes.layers) ≡ Some out
      = ap (λ v. pushed_out (lists v)) (sym r) ∙ p in
      keeps_so l o c k d layer (Some out.1) (Built c k d ∷ Drop out.0 ∷ Keep k ∷ []) idle
      list.entries (with_first k layer list).entries images shelf stopped now
      (leads_more l n o (Built c k d ∷ Drop out.0 ∷ []) (Keep k)
      (leads_more l m n (Built c k d ∷ []) (Drop out.0) (leads_one l m (Built c k d) x) y)
      z)
      (ap (λ v. built_events c k d v (last_kept book)) t
      ∙ ap (λ o. built_events c k d false (option_map (λ (e : ℕ × L). e.0) o)) pushed)
      (sym (ap (λ v. handed_layer v layer book) t
      ∙ ap (λ o. option_map (λ (e : ℕ × L). e.1) o) pushed))
      (ap (λ v. (with_first k layer (lists v)).entries) r
      ∙ ap (λ v. kept_with v k layer book) (sym t)) w
