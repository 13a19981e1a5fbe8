-- What calls make of the book, by their results.
use Rattle.std.proofs.Common.{◌≡◌, ◌≢◌, ℕ, ◌+◌, Bool, true, false, List, [], ◌∷◌, ◌++◌, length}
use Rattle.std.proofs.Common.{Option, None, Some, Result, Ok, Err, OnOk, OnErr, IsSome, refl, sym}
use Rattle.std.proofs.Common.{◌∙◌, ap, subst, ◌≤◌, ◌==◌, arith, nat_le, nat_eq, if◌then◌else◌}
use Rattle.std.proofs.Common.{inl, inr}
use Rattle.std.proofs.lemmas.Bool.Decides.{nat_tests}
use Rattle.std.proofs.lemmas.List.{append_assoc, append-nil}
use Rattle.std.proofs.lemmas.Option.{none-some, same_Some}
use Rattle.std.specs.Map.{keys_of, lookup, remove_entry}
use Rattle.journal_model.proofs.Apart.{Has, IsApart}
use Rattle.journal_laws.proofs.Listing.{flip}
use Rattle.journal_laws.proofs.Naming.{apart}
use Rattle.journal_laws.proofs.Ties.{self}
use Rattle.journal_model.specs.Extents.{Extents}
use Rattle.journal_model.specs.State.{State}
use Rattle.journal_model.specs.Legal as legal
use Rattle.journal_model.specs.Legal.{after, after_all, owes_nothing}
use Rattle.journal_model.specs.declared.event.Event.{Event}
use Rattle.journal_model.specs.declared.event.Event.TheVariants.{Start, Take, Want, Answer, End}
use Rattle.journal_model.specs.declared.event.Event.TheVariants.{Back}
use Rattle.journal_model.proofs.Folds.{go_on, all_more, none_first}
use Rattle.journal_model.proofs.Frames.{stood}
use Rattle.journal_laws.proofs.Folding.{joined_one}
use Rattle.journal_model.proofs.Recents.{same}
use Rattle.space_api.specs.Holding.{Stocked, Pin, with_returned, if_taken, free_limit}
use Rattle.space_api.specs.Told.{ParkedContext, KeptLayer}
use Rattle.book_log.specs.Logged.{Logged, starts_none, draws}
use Rattle.book_log.specs.declared.started.Started.{Started}
use Rattle.book_log.proofs.Logging.{two_after}
use Rattle.book_model.specs.Kept.{IsHeld, IsBook}
use Rattle.slot_lists.specs.Lists.{Waiting, waiting_of, first_waiting}
use Rattle.book_model.specs.Shared.{Shared}
use Rattle.book_model.specs.Steps.{with_events, Appends, Returns, Takes, backs}
use Rattle.book_model.proofs.Holds.{book_of, IsNext, IsQuiet, quiet, noted}
use Rattle.book_model.proofs.Holds.{starts_held, start_owes, back_lists, returned_held}
use Rattle.book_model.proofs.Holds.{backs_held, takes_held, take_lists, first_agrees}
use Rattle.book_model.proofs.Holds.{Waits}
use Rattle.book_model.proofs.Entries.{all_lookup}
use Rattle.journal_model.proofs.Sound.{reached_sound}

-- a want changes no list, and owes what was owed
pub want_quiet : (sizes : Extents) (s t : State) (i : ℕ) → after sizes s (Want i) ≡ Some t →
    IsQuiet s t × (s.owed ≡ t.owed)
unfolding legal.after_standing
want_quiet sizes s t i h = let w = stood _ _ t h in (
  record {
    idle = ap (λ (x : State). x.idle) w.1;
    kept = ap (λ (x : State). x.kept) w.1;
    free = ap (λ (x : State). x.free) w.1;
  },
  ap (λ (x : State). x.owed) w.1,
)

-- an end changes no list, and owes nothing
pub end_quiet : (sizes : Extents) (s t : State) (c : ℕ) → after sizes s (End c) ≡ Some t →
    IsQuiet s t × (owes_nothing t.owed ≡ true)
unfolding legal.after_end
end_quiet sizes s t c h = let w = stood _ _ t h in (
  record {
    idle = ap (λ (x : State). x.idle) w.1;
    kept = ap (λ (x : State). x.kept) w.1;
    free = ap (λ (x : State). x.free) w.1;
  },
  ap (λ (x : State). owes_nothing x.owed) (sym w.1),
)

-- an answer changes no list
pub answer_quiet : (sizes : Extents) (s t : State) (i c u : ℕ) →
    after sizes s (Answer i c u) ≡ Some t → IsQuiet s t
unfolding legal.after_answer
answer_quiet sizes s t i c u h = let w = stood _ _ t h in record {
  idle = ap (λ (x : State). x.idle) w.1;
  kept = ap (λ (x : State). x.kept) w.1;
  free = ap (λ (x : State). x.free) w.1;
}

-- a state between two events
pub two_split : (sizes : Extents) (s u : State) (e f : Event) →
    after_all sizes s (e ∷ f ∷ []) ≡ Some u →
    (t : State) × (after sizes s e ≡ Some t) × (after sizes t f ≡ Some u)
two_split sizes s u e f h = (elim (after sizes s e) as (λ o. after sizes s e ≡ o →
    (t : State) × (after sizes s e ≡ Some t) × (after sizes t f ≡ Some u)) [
      | None ↦ λ k. absurd (none-some u (sym (ap (go_on sizes (f ∷ [])) k)
          ∙ (sym (all_more sizes s e (f ∷ [])) ∙ h)))
      | Some t ↦ λ k. (t, k, sym (two_after sizes s t e f k) ∙ h)
    ]) refl

-- one event of a fold
pub one_all : (sizes : Extents) (s : State) (e : Event) →
    after_all sizes s (e ∷ []) ≡ after sizes s e
one_all sizes s e = joined_one sizes s s [] e (none_first sizes s)

module _ {C L H : Type 0} (parked : C → ParkedContext) (pin_of : C → Option Pin)
    (is_context : C → Type 0) (kept : L → KeptLayer) (layer_pin : L → Option Pin)
    (is_layer : L → Type 0) (stocked : H → Stocked) where
  abbrev pub Books : Shared C L H → Type 0
  Books b = IsBook parked pin_of is_context kept layer_pin is_layer stocked b

  -- a book with its rooms
  abbrev pub Stands : (idle_room kept_room : ℕ) → Shared C L H → Type 0
  Stands i k b = (i ≡ b.sizes.idle) × (k ≡ b.sizes.layers) × Books b

  -- after one quiet event, or none where memory ran out
  pub stands_on : {T E : Type 0} (r : Result T E) (l m : Logged) (e : Event) (i k : ℕ)
      (idle : List (ℕ × Waiting C)) (ls : List (ℕ × L)) (images : List L) (shelf : H)
      (stopped : Bool) → OnOk r (after l.sizes l.state e ≡ Some m.state) →
      OnOk r (IsNext l m e) → OnErr r (m ≡ record l { room = m.room }) →
      starts_none e ≡ true → draws e ≡ false →
      ((t : State) → after l.sizes l.state e ≡ Some t →
      IsQuiet l.state t × (owes_nothing t.owed ≡ true)) →
      Stands i k (book_of l idle ls images shelf stopped) →
      Stands i k (book_of m idle ls images shelf stopped)
  stands_on (Ok x) l m e i k idle ls images shelf stopped a n f s d q h =
      let w = q m.state a in (
        h.0 ∙ ap (λ (y : Logged). y.sizes.idle) (sym n),
        h.1 ∙ ap (λ (y : Logged). y.sizes.layers) (sym n),
        record {
          held = noted parked pin_of is_context kept layer_pin is_layer stocked l m e idle ls
              images shelf stopped n a s d w.0 h.2.held;
          owes = w.1;
        },
      )
  stands_on (Err x) l m e i k idle ls images shelf stopped a n f s d q h =
      subst (λ (y : Logged). Stands i k (book_of y idle ls images shelf stopped)) (sym f) h

  -- and after two
  pub stands_both : {T E : Type 0} (r : Result T E) (l m : Logged) (e f : Event) (i k : ℕ)
      (idle : List (ℕ × Waiting C)) (ls : List (ℕ × L)) (images : List L) (shelf : H)
      (stopped : Bool) → OnOk r (after_all l.sizes l.state (e ∷ f ∷ []) ≡ Some m.state) →
      OnOk r (m ≡ record l {
        events = l.events ++ e ∷ f ∷ [];
        state = m.state;
        room = m.room;
      }) → OnErr r (m ≡ record l { room = m.room }) → starts_none e ≡ true →
      draws e ≡ false → starts_none f ≡ true → draws f ≡ false →
      ((t : State) → after l.sizes l.state e ≡ Some t → IsQuiet l.state t) →
      ((t u : State) → after l.sizes t f ≡ Some u → IsQuiet t u × (owes_nothing u.owed ≡ true)) →
      Stands i k (book_of l idle ls images shelf stopped) →
      Stands i k (book_of m idle ls images shelf stopped)
  stands_both (Ok x) l m e f i k idle ls images shelf stopped a n z s d v w q p h =
      let t = two_split l.sizes l.state m.state e f a in
      let b : Shared C L H = book_of l idle ls images shelf stopped in
      let one = quiet parked pin_of is_context kept layer_pin is_layer stocked b e t.0 h.2.held
      t.1 s d (q t.0 t.1) in
      let y = p t.0 m.state t.2 in
      let two = quiet parked pin_of is_context kept layer_pin is_layer stocked
      (with_events (e ∷ []) t.0 b) f m.state one t.2 v w y.0 in (
        h.0 ∙ ap (λ (y : Logged). y.sizes.idle) (sym n),
        h.1 ∙ ap (λ (y : Logged). y.sizes.layers) (sym n),
        record {
          held = subst (λ (y : Logged). IsHeld parked pin_of is_context kept layer_pin is_layer
              stocked (book_of y idle ls images shelf stopped)) (sym n)
              (subst (λ (es : List Event). IsHeld parked pin_of is_context kept layer_pin is_layer
              stocked (record b { events = es; state = m.state }))
              (append_assoc l.events (e ∷ []) (f ∷ [])) two);
          owes = y.1;
        },
      )
  stands_both (Err x) l m e f i k idle ls images shelf stopped a n z s d v w q p h =
      subst (λ (y : Logged). Stands i k (book_of y idle ls images shelf stopped)) (sym z) h

-- what is said of the events
pub appends : {C L H : Type 0} {T E : Type 0} (r : Result T E) (l m : Logged) (es : List Event)
    (idle : List (ℕ × Waiting C)) (ls : List (ℕ × L)) (images : List L) (shelf : H)
    (stopped : Bool) (now : Shared C L H) →
    OnOk r (after_all l.sizes l.state es ≡ Some m.state) →
    OnOk r (m ≡ record l { events = l.events ++ es; state = m.state; room = m.room }) →
    book_of l idle ls images shelf stopped ≡ now →
    OnOk r (Appends es now (book_of m idle ls images shelf stopped))
appends (Ok x) l m es idle ls images shelf stopped now a n v =
    subst (λ (b : Shared _ _ _). Appends es b (book_of m idle ls images shelf stopped)) v (record {
      legal = a;
      new_is = ap (λ (y : Logged). book_of y idle ls images shelf stopped) n;
    })
appends (Err x) l m es idle ls images shelf stopped now a n v = tt

-- a want may stand where nothing is owed and the request is open
pub want_may : (sizes : Extents) (s : State) (i : ℕ) → owes_nothing s.owed ≡ true →
    legal.is_open s i ≡ true → IsSome (after sizes s (Want i))
unfolding legal.may_want
want_may sizes s i o h = rw (o, h) refl

-- frames may come back where nothing is owed, frames are taken, and no more are free then than may
-- be
pub back_may : (sizes : Extents) (s : State) (n : ℕ) → owes_nothing s.owed ≡ true →
    sizes.root ≡ 1 → 1 ≤ n → s.free + n ≤ legal.most_free → IsSome (after sizes s (Back n))
unfolding legal.may_go_back
back_may sizes s n o r m f =
    let p : (sizes.root == 1) ≡ true = grind (arith, nat_tests) in
    let q : nat_le 1 n ≡ true = grind (arith, nat_tests) in
    let w : nat_le (s.free + n) legal.most_free ≡ true = grind (arith, nat_tests) in
    rw (o, p, q, w) refl

-- one event may stand as a fold of one
pub one_may : (sizes : Extents) (s : State) (e : Event) →
    IsSome (after_all sizes s (e ∷ [])) → IsSome (after sizes s e)
one_may sizes s e h = subst (λ o. IsSome o) (one_all sizes s e) h

-- and leads there too
pub one_state : {T E : Type 0} (r : Result T E) (l m : Logged) (e : Event) →
    OnOk r (after l.sizes l.state e ≡ Some m.state) →
    OnOk r (after_all l.sizes l.state (e ∷ []) ≡ Some m.state)
one_state (Ok x) l m e a = one_all l.sizes l.state e ∙ a
one_state (Err x) l m e a = tt

module _ {C L H : Type 0} (parked : C → ParkedContext) (pin_of : C → Option Pin)
    (is_context : C → Type 0) (kept : L → KeptLayer) (layer_pin : L → Option Pin)
    (is_layer : L → Type 0) (stocked : H → Stocked) where
  -- after a start, or none where memory ran out
  pub stands_started : {T E : Type 0} (r : Result T E) (l m : Logged) (one : Started) (i k : ℕ)
      (idle : List (ℕ × Waiting C)) (ls : List (ℕ × L)) (images : List L) (shelf : H)
      (stopped : Bool) → OnOk r (m ≡ record l {
        events = l.events ++ Start (length l.started + 1) one.function one.given.clock ∷ [];
        state = legal.after_start l.state one.function one.given.clock;
        started = l.started ++ one ∷ [];
        room = m.room;
      }) → OnErr r (m ≡ record l { room = m.room }) →
      legal.may_start l.sizes l.state (length l.started + 1) one.function one.given.clock ≡ true →
      Stands parked pin_of is_context kept layer_pin is_layer stocked i k
      (book_of l idle ls images shelf stopped) →
      Stands parked pin_of is_context kept layer_pin is_layer stocked i k
      (book_of m idle ls images shelf stopped)
  stands_started (Ok x) l m one i k idle ls images shelf stopped n f may h = (
    h.0 ∙ ap (λ (y : Logged). y.sizes.idle) (sym n),
    h.1 ∙ ap (λ (y : Logged). y.sizes.layers) (sym n),
    record {
      held = subst (λ (y : Logged). IsHeld parked pin_of is_context kept layer_pin is_layer
          stocked (book_of y idle ls images shelf stopped)) (sym n)
          (starts_held parked pin_of is_context kept layer_pin is_layer stocked
          (book_of l idle ls images shelf stopped) one h.2.held may);
      owes = ap (λ (y : Logged). owes_nothing y.state.owed) n
          ∙ (ap (λ o. owes_nothing o)
          (sym (start_owes l.state one.function one.given.clock)) ∙ h.2.owes);
    },
  )
  stands_started (Err x) l m one i k idle ls images shelf stopped n f may h =
      subst (λ (y : Logged). Stands parked pin_of is_context kept layer_pin is_layer stocked i k
      (book_of y idle ls images shelf stopped)) (sym f) h

-- ---- frames that come back

-- a store that takes no frames has none to give back
root_one : (takes : Bool) (root number : ℕ) → root ≡ if_taken takes 1 →
    (takes ≡ false → number ≡ 0) → number ≢ 0 → root ≡ 1
root_one true root number r n p = r
root_one false root number r n p = absurd (p (n refl))

pub give_may : (takes : Bool) (sizes : Extents) (s : State) (n number part : ℕ)
    (old new : Stocked) → owes_nothing s.owed ≡ true → sizes.root ≡ if_taken takes 1 →
    (takes ≡ false → number ≡ 0) → n ≡ number → n ≢ 0 → old.free ≡ s.free →
    new ≡ with_returned number part old → new.free ≤ free_limit → IsSome (after sizes s (Back n))
give_may takes sizes s n number part old new o r z e p f w l =
    let q : number ≢ 0 = λ k. p (e ∙ k) in
    let x : 1 ≤ n = omega (arith, p) in
    let y = ap (λ (b : Stocked). b.free) w in
    let m : s.free + n ≤ legal.most_free = omega (arith, e, f, y, l) in
    back_may sizes s n o (root_one takes sizes.root number r z q) x m

-- a log of which the room alone changed
abbrev pub IsRoomier : (l m : Logged) → Type 0
IsRoomier l m = m ≡ record l { room = m.room }

backs_some : (n : ℕ) (b : Bool) → n ≢ 0 → (n == 0) ≡ b →
    (if b then [] else Back n ∷ []) ≡ Back n ∷ []
backs_some n true p e = absurd (p (same n 0 e))
backs_some n false p e = refl

module _ {C L H : Type 0} (stocked : H → Stocked) where
  returns_zero : (l : Logged) (room part : ℕ) (idle : List (ℕ × Waiting C)) (ls : List (ℕ × L))
      (images : List L) (old new : H) (stopped : Bool) →
      stocked new ≡ with_returned 0 part (stocked old) →
      Returns 0 part stocked (book_of l idle ls images old stopped)
      (book_of (record l { room = room }) idle ls images new stopped)
  returns_zero l room part idle ls images old new stopped e = record {
    legal = none_first l.sizes l.state;
    new_is = ap (λ (es : List Event). record (book_of l idle ls images new stopped) {
      events = es;
    }) (sym (append-nil l.events));
    shelf_is = e;
  }

  pub returns_none : (l m : Logged) (n part : ℕ) (idle : List (ℕ × Waiting C))
      (ls : List (ℕ × L)) (images : List L) (old new : H) (stopped : Bool) (now : Shared C L H) →
      IsRoomier l m → n ≡ 0 → stocked new ≡ with_returned n part (stocked old) →
      book_of l idle ls images old stopped ≡ now →
      Returns n part stocked now (book_of m idle ls images new stopped)
  returns_none l m n part idle ls images old new stopped now r z e v =
      subst (λ (b : Shared C L H). Returns n part stocked b
      (book_of m idle ls images new stopped)) v
      (subst (λ (y : Logged). Returns n part stocked (book_of l idle ls images old stopped)
      (book_of y idle ls images new stopped)) (sym r)
      (subst (λ (x : ℕ). Returns x part stocked (book_of l idle ls images old stopped)
      (book_of (record l { room = m.room }) idle ls images new stopped)) (sym z)
      (returns_zero l m.room part idle ls images old new stopped
      (e ∙ ap (λ x. with_returned x part (stocked old)) z))))

  pub returns_some : (l m : Logged) (n part : ℕ) (idle : List (ℕ × Waiting C))
      (ls : List (ℕ × L)) (images : List L) (old new : H) (stopped : Bool) (now : Shared C L H) →
      IsNext l m (Back n) → after l.sizes l.state (Back n) ≡ Some m.state → n ≢ 0 →
      stocked new ≡ with_returned n part (stocked old) →
      book_of l idle ls images old stopped ≡ now →
      Returns n part stocked now (book_of m idle ls images new stopped)
  returns_some l m n part idle ls images old new stopped now x a p e v =
      let q : backs n ≡ Back n ∷ [] = backs_some n (n == 0) p refl in
      subst (λ (b : Shared C L H). Returns n part stocked b
      (book_of m idle ls images new stopped)) v (record {
        legal = ap (λ es. after_all l.sizes l.state es) q
            ∙ (one_all l.sizes l.state (Back n) ∙ a);
        new_is = ap (λ (y : Logged). book_of y idle ls images new stopped) x
            ∙ ap (λ (es : List Event). record (book_of l idle ls images new stopped) {
              events = l.events ++ es;
              state = m.state;
            }) (sym q);
        shelf_is = e;
      })

module _ {C L H : Type 0} (parked : C → ParkedContext) (pin_of : C → Option Pin)
    (is_context : C → Type 0) (kept : L → KeptLayer) (layer_pin : L → Option Pin)
    (is_layer : L → Type 0) (stocked : H → Stocked) where
  pub stands_none : (l m : Logged) (n part i k : ℕ) (idle : List (ℕ × Waiting C))
      (ls : List (ℕ × L)) (images : List L) (old new : H) (stopped : Bool) → IsRoomier l m →
      n ≡ 0 → stocked new ≡ with_returned n part (stocked old) →
      Stands parked pin_of is_context kept layer_pin is_layer stocked i k
      (book_of l idle ls images old stopped) →
      Stands parked pin_of is_context kept layer_pin is_layer stocked i k
      (book_of m idle ls images new stopped)
  stands_none l m n part i k idle ls images old new stopped r z e h =
      subst (λ (y : Logged). Stands parked pin_of is_context kept layer_pin is_layer stocked i k
      (book_of y idle ls images new stopped)) (sym r) (
        h.0,
        h.1,
        record {
          held = returned_held parked pin_of is_context kept layer_pin is_layer stocked
              (book_of l idle ls images old stopped) n part new h.2.held z e;
          owes = h.2.owes;
        },
      )

  pub stands_back : (l m : Logged) (n part i k : ℕ) (idle : List (ℕ × Waiting C))
      (ls : List (ℕ × L)) (images : List L) (old new : H) (stopped : Bool) →
      IsNext l m (Back n) → after l.sizes l.state (Back n) ≡ Some m.state →
      stocked new ≡ with_returned n part (stocked old) →
      Stands parked pin_of is_context kept layer_pin is_layer stocked i k
      (book_of l idle ls images old stopped) →
      Stands parked pin_of is_context kept layer_pin is_layer stocked i k
      (book_of m idle ls images new stopped)
  stands_back l m n part i k idle ls images old new stopped x a e h =
      let q = back_lists l.sizes l.state m.state n a in (
        h.0 ∙ ap (λ (y : Logged). y.sizes.idle) (sym x),
        h.1 ∙ ap (λ (y : Logged). y.sizes.layers) (sym x),
        record {
          held = subst (λ (y : Logged). IsHeld parked pin_of is_context kept layer_pin is_layer
              stocked (book_of y idle ls images new stopped)) (sym x)
              (backs_held parked pin_of is_context kept layer_pin is_layer stocked
              (book_of l idle ls images old stopped) n part new m.state h.2.held a e);
          owes = ap (λ o. owes_nothing o) (sym q.owed) ∙ h.2.owes;
        },
      )

-- a log with an event more, for which room was made
pub next_of : (l r m : Logged) (e : Event) (room : ℕ) → IsRoomier l r →
    m ≡ record r { events = r.events ++ e ∷ []; state = m.state; room = room } → IsNext l m e
next_of l r m e room h k = subst (λ (n : ℕ). m ≡ record l {
  events = l.events ++ e ∷ [];
  state = m.state;
  room = n;
}) (sym (ap (λ (y : Logged). y.room) k)) (k ∙ ap (λ (y : Logged). record y {
  events = y.events ++ e ∷ [];
  state = m.state;
  room = room;
}) h)

-- what an event leads to doesn't ask for room
pub leads_of : (l r : Logged) (e : Event) (t : State) → IsRoomier l r →
    after r.sizes r.state e ≡ Some t → after l.sizes l.state e ≡ Some t
leads_of l r e t h a = subst (λ (y : Logged). after y.sizes y.state e ≡ Some t) h a

-- ---- an idle context is taken

-- the most recent context of a function may serve a request that waits
pub take_may : (sizes : Extents) (s : State) (c i : ℕ) → owes_nothing s.owed ≡ true →
    legal.is_waiting s i ≡ true →
    legal.first_for (legal.request_function s i) s.contexts s.idle ≡ Some c →
    IsSome (after sizes s (Take c i))
unfolding legal.may_take
take_may sizes s c i o w f = rw (o, w, f, self c) refl

module _ {C L H : Type 0} (parked : C → ParkedContext) (pin_of : C → Option Pin)
    (is_context : C → Type 0) (kept : L → KeptLayer) (layer_pin : L → Option Pin)
    (is_layer : L → Type 0) (stocked : H → Stocked) where
  -- what is found first is the journal's
  pub find_is : (b : Shared C L H) (f i : ℕ) →
      IsHeld parked pin_of is_context kept layer_pin is_layer stocked b →
      legal.request_function b.state i ≡ f → first_waiting f b.idle
      ≡ legal.first_for (legal.request_function b.state i) b.state.contexts b.state.idle
  find_is b f i h e =
      first_agrees parked pin_of is_context kept layer_pin is_layer stocked f b.state b.started
      b.idle h.contexts
      ∙ (ap (λ cs. legal.first_for f b.state.contexts cs) h.idle
      ∙ ap (λ g. legal.first_for g b.state.contexts b.state.idle) (sym e))

  pub stands_taken : (l m : Logged) (c i j k : ℕ) (idle : List (ℕ × Waiting C))
      (ls : List (ℕ × L)) (images : List L) (shelf : H) (stopped : Bool) →
      after l.sizes l.state (Take c i) ≡ Some m.state → IsNext l m (Take c i) →
      Stands parked pin_of is_context kept layer_pin is_layer stocked j k
      (book_of l idle ls images shelf stopped) →
      Stands parked pin_of is_context kept layer_pin is_layer stocked j k
      (book_of m (remove_entry (nat_eq c) idle) ls images shelf stopped)
  stands_taken l m c i j k idle ls images shelf stopped a n h =
      let q = take_lists l.sizes l.state m.state c i a in (
        h.0 ∙ ap (λ (y : Logged). y.sizes.idle) (sym n),
        h.1 ∙ ap (λ (y : Logged). y.sizes.layers) (sym n),
        record {
          held = subst (λ (y : Logged). IsHeld parked pin_of is_context kept layer_pin is_layer
              stocked (book_of y (remove_entry (nat_eq c) idle) ls images shelf stopped)) (sym n)
              (takes_held parked pin_of is_context kept layer_pin is_layer stocked
              (book_of l idle ls images shelf stopped) c i m.state h.2.held a);
          owes = ap (λ o. owes_nothing o) (sym q.owed) ∙ h.2.owes;
        },
      )

-- what is found first is there
has_first : {C : Type 0} (f c : ℕ) (es : List (ℕ × Waiting C)) → first_waiting f es ≡ Some c →
    Has c (keys_of es)
has_first f c [] h = absurd (none-some c h)
has_first f c (e ∷ es) h = (elim (e.1.function == f) as (λ b. (e.1.function == f) ≡ b →
    Has c (keys_of (e ∷ es))) [
      | true ↦ λ t. (let h' : Some e.0 ≡ Some c = rw t at h in inl (same_Some e.0 c h'))
      | false ↦ λ t. (let h' : first_waiting f es ≡ Some c = rw t at h in inr (has_first f c es h'))
    ]) refl

-- the slot of what is found first has an entry, of the function
pub first_entry : {C : Type 0} (f c : ℕ) (es : List (ℕ × Waiting C)) →
    first_waiting f es ≡ Some c → IsApart (keys_of es) →
    (x : C) × (lookup (nat_eq c) es ≡ Some (waiting_of f x))
first_entry f c [] h d = absurd (none-some c h)
first_entry f c (e ∷ es) h d =
    (elim (e.1.function == f) as (λ b. (e.1.function == f) ≡ b →
    (x : _) × (lookup (nat_eq c) (e ∷ es) ≡ Some (waiting_of f x))) [
      | true ↦ λ t. (let h' : Some e.0 ≡ Some c = rw t at h in
          let q : e.0 ≡ c = same_Some e.0 c h' in
          let z : nat_eq c e.0 ≡ true = rw q (self c) in
          (e.1.context, rw z (ap (λ g. Some (waiting_of g e.1.context)) (same e.1.function f t))))
      | false ↦ λ t. (let h' : first_waiting f es ≡ Some c = rw t at h in
          let r = first_entry f c es h' d.1 in
          let there = has_first f c es h' in
          let z : nat_eq c e.0 ≡ false = flip c e.0 ∙ apart e.0 c
          (λ k. d.0 (subst (λ n. Has n (keys_of es)) (sym k) there)) in
          (r.0, rw z r.1))
    ]) refl

module _ {C L H : Type 0} (parked : C → ParkedContext) (pin_of : C → Option Pin)
    (is_context : C → Type 0) (kept : L → KeptLayer) (layer_pin : L → Option Pin)
    (is_layer : L → Type 0) (stocked : H → Stocked) where
  -- the context that is found, and that it waits
  pub record IsFound (b : Shared C L H) (f c : ℕ) : Type 0 where
    pub context : C
    pub entry : lookup (nat_eq c) b.idle ≡ Some (waiting_of f context)
    pub waits : Waits parked pin_of is_context kept layer_pin is_layer stocked b.state b.started
        (c, waiting_of f context)

  pub find_context : (b : Shared C L H) (f c : ℕ) →
      IsHeld parked pin_of is_context kept layer_pin is_layer stocked b →
      first_waiting f b.idle ≡ Some c → IsFound b f c
  find_context b f c h w =
      let apart = subst (λ cs. IsApart cs) (sym h.idle)
      (reached_sound b.sizes b.events b.state h.log.reached).idle_distinct in
      let x = first_entry f c b.idle w apart in
      record {
        context = x.0;
        entry = x.1;
        waits = all_lookup (Waits parked pin_of is_context kept layer_pin is_layer stocked
            b.state b.started) c b.idle (waiting_of f x.0) h.contexts x.1;
      }

-- what is said of a take
pub takes_is : {C L H : Type 0} (l m : Logged) (c i : ℕ) (x : C) (idle rest : List (ℕ × Waiting C))
    (ls : List (ℕ × L)) (images : List L) (shelf : H) (stopped : Bool) (now : Shared C L H) →
    legal.first_for (legal.request_function l.state i) l.state.contexts l.state.idle ≡ Some c →
    lookup (nat_eq c) idle ≡ Some (waiting_of (legal.request_function l.state i) x) →
    after l.sizes l.state (Take c i) ≡ Some m.state → IsNext l m (Take c i) →
    rest ≡ remove_entry (nat_eq c) idle → book_of l idle ls images shelf stopped ≡ now →
    Takes i c x now (book_of m rest ls images shelf stopped)
takes_is l m c i x idle rest ls images shelf stopped now f e a n r v =
    subst (λ (b : Shared _ _ _). Takes i c x b (book_of m rest ls images shelf stopped)) v
    (record {
      first = f;
      entry = e;
      legal = a;
      new_is = ap (λ (y : Logged). book_of y rest ls images shelf stopped) n
          ∙ ap (λ (es : List (ℕ × Waiting _)). record (book_of l idle ls images shelf stopped) {
            events = l.events ++ Take c i ∷ [];
            state = m.state;
            idle = es;
          }) r;
    })
