-- What holds of a book, where a context answers and is parked.
use Rattle.std.proofs.Common.{◌≡◌, ◌≢◌, ℕ, ◌-◌, ◌≤◌, ◌==◌, Bool, true, false, cond}
use Rattle.std.proofs.Common.{List, [], ◌∷◌, ◌++◌, length, take, Option, None, Some}
use Rattle.std.proofs.Common.{refl, sym, ◌∙◌, ap, subst, arith, nat_eq, inr}
use Rattle.std.proofs.lemmas.List.{append_assoc}
use Rattle.std.specs.Prelude.{option_map}
use Rattle.std.specs.List.{slice_get, AllByRecursion}
use Rattle.std.specs.Map.{keys_of, lookup}
use Rattle.cache_lists.specs.Recent as recent
use Rattle.cache_lists.specs.Recent.{Recent, pushed_out}
use Rattle.journal_model.specs.State.{State, is_full, last_of, is_just}
use Rattle.journal_model.specs.Legal as legal
use Rattle.journal_model.specs.Legal.{after, after_all, owes_nothing, owed_after_evict}
use Rattle.journal_model.specs.declared.event.Event.{Event}
use Rattle.journal_model.specs.declared.event.Event.TheVariants.{Answer, Evict, Park, Back}
use Rattle.journal_model.specs.declared.state.Owed.TheVariants as owed
use Rattle.journal_model.proofs.Apart.{Has}
use Rattle.journal_model.proofs.Recents.{same, differ, without_less, last_has}
use Rattle.journal_model.proofs.Sound.{reached_sound}
use Rattle.journal_laws.proofs.Listing.{full_keys, length_keys, last_keys, is_full_keys}
use Rattle.journal_laws.proofs.Ties.{self}
use Rattle.space_api.specs.Holding.{Stocked, Pin, with_returned, if_taken, free_limit}
use Rattle.space_api.specs.Told.{ParkedContext, KeptLayer}
use Rattle.slot_lists.specs.Lists.{Waiting, waiting_of}
use Rattle.slot_lists.proofs.Fewer.{all_take}
use Rattle.book_log.specs.declared.started.Started.{Started}
use Rattle.book_log.proofs.Logging.{appended, found, two_state}
use Rattle.book_model.specs.Kept.{IsHeld, IsBook, IsWaiting}
use Rattle.book_model.specs.Shared.{Shared}
use Rattle.book_model.specs.Steps.{with_events, MayPark, used_before, idle_list, last_idle}
use Rattle.book_model.specs.Steps.{evicts, backs}
use Rattle.book_model.proofs.Holds.{quiet, all_wait, stake_stays, Waits}
use Rattle.book_model.proofs.Holds.{returned_held, backs_held, back_lists}
use Rattle.book_model.proofs.Results.{answer_quiet, one_all, give_may}
use Rattle.book_model.proofs.ParkingStates.{take_keys, not_found, last_there, take_fits}
use Rattle.book_model.proofs.ParkingStates.{answer_lists, evict_lists, park_lists, answer_may}
use Rattle.book_model.proofs.ParkingStates.{answer_owes, evict_may, park_may, serves_not_idle}
use Rattle.book_model.proofs.ParkingStates.{answered_waits, evicted_waits, parked_waits}
use Rattle.book_model.proofs.ParkingStates.{backs_none, backs_some}

module _ {C L H : Type 0} (parked : C → ParkedContext) (pin_of : C → Option Pin)
    (is_context : C → Type 0) (kept : L → KeptLayer) (layer_pin : L → Option Pin)
    (is_layer : L → Type 0) (stocked : H → Stocked) where
  abbrev Held : Shared C L H → Type 0
  Held b = IsHeld parked pin_of is_context kept layer_pin is_layer stocked b

  abbrev Wait : State → List Started → ℕ × Waiting C → Type 0
  Wait s started e = Waits parked pin_of is_context kept layer_pin is_layer stocked s started e

  -- ---- an idle context goes

  evicts_held : (b : Shared C L H) (e : ℕ) (t : State) (rest : List (ℕ × Waiting C)) → Held b →
      after b.sizes b.state (Evict e) ≡ Some t → keys_of rest ≡ t.idle →
      AllByRecursion (Wait b.state b.started) rest → Held (record b {
        events = b.events ++ Evict e ∷ [];
        state = t;
        idle = rest;
      })
  evicts_held b e t rest h a keys w =
      let q = evict_lists b.sizes b.state t e a in
      record {
        sizes = h.sizes;
        log = appended b.sizes b.events b.state t (Evict e) b.started h.log a refl;
        idle = keys;
        kept_is = h.kept_is ∙ q.kept;
        contexts = all_wait parked pin_of is_context kept layer_pin is_layer stocked b (Evict e) t
            rest h a (λ d k. let x = subst (λ cs. Has d cs) keys k in
            (without_less e d b.state.idle (subst (λ cs. Has d cs) (sym q.idle) x), x)) w;
        layers = h.layers;
        images = h.images;
        stake = stake_stays parked pin_of is_context kept layer_pin is_layer stocked b (Evict e) t
            h a refl;
        notes = h.notes;
        free = λ x. h.free x ∙ q.free;
      }

  -- ---- a context is parked

  parks_held : (b : Shared C L H) (c : ℕ) (entry : Waiting C) (t : State) → Held b →
      after b.sizes b.state (Park c) ≡ Some t → Wait t b.started (c, entry) → Held (record b {
        events = b.events ++ Park c ∷ [];
        state = t;
        idle = (c, entry) ∷ b.idle;
      })
  parks_held b c entry t h a w =
      let q = park_lists b.sizes b.state t c a in
      record {
        sizes = h.sizes;
        log = appended b.sizes b.events b.state t (Park c) b.started h.log a refl;
        idle = ap (λ cs. c ∷ cs) h.idle ∙ q.idle;
        kept_is = h.kept_is ∙ q.kept;
        contexts = (
          w,
          all_wait parked pin_of is_context kept layer_pin is_layer stocked b (Park c) t b.idle
              h a (λ d k. let x = subst (λ cs. Has d cs) h.idle k in
              (x, subst (λ cs. Has d cs) q.idle (inr x))) h.contexts,
        );
        layers = h.layers;
        images = h.images;
        stake = stake_stays parked pin_of is_context kept layer_pin is_layer stocked b (Park c) t
            h a refl;
        notes = h.notes;
        free = λ x. h.free x ∙ q.free;
      }

  -- ---- a context answers, and another goes where there is no room

  -- a context answered and is to be parked, for which there is room
  pub record IsReady (c : ℕ) (told : ParkedContext) (pin : Option Pin) (b : Shared C L H)
      : Type 0 where
    pub held : Held b
    pub owes : legal.owes_park b.state.owed c ≡ true
    pub waits : IsWaiting b.state b.started c told.function told pin

  -- the answer, and the evict of that last one, may stand, and these entries are left
  pub record MakesRoom (i c u : ℕ) (last : Option ℕ) (rest : List (ℕ × Waiting C))
      (told : ParkedContext) (pin : Option Pin) (b : Shared C L H) : Type 0 where
    pub next : State
    pub leads : after_all b.sizes b.state (Answer i c u ∷ evicts last) ≡ Some next
    pub ready : IsReady c told pin (record b {
      events = b.events ++ (Answer i c u ∷ evicts last);
      state = next;
      idle = rest;
    })

  within_room : (b : Shared C L H) → Held b → length b.idle ≤ b.sizes.idle
  within_room b h =
      let r = (reached_sound b.sizes b.events b.state h.log.reached).idle_room in
      let k = ap (λ (ks : List ℕ). length ks) h.idle in
      let j = length_keys b.idle in omega (arith, r, k, j)

  fullness : (b : Shared C L H) (full : Bool) → Held b →
      (length b.idle == b.sizes.idle) ≡ full → is_full b.sizes.idle b.state.idle ≡ full
  fullness b full h f = sym (ap (λ ks. is_full b.sizes.idle ks) h.idle)
      ∙ (sym (is_full_keys (idle_list b) (within_room b h)) ∙ f)

  room_there : (b : Shared C L H) (i : ℕ) (told : ParkedContext) (pin : Option Pin) → Held b →
      MayPark i told pin b → (length b.idle == b.sizes.idle) ≡ false →
      MakesRoom i told.id (used_before told) None b.idle told pin b
  room_there b i told pin h m f =
      let c = told.id in
      let u = used_before told in
      let t = legal.after_answer b.sizes b.state i c u in
      let a = answer_may b.sizes b.state i c u m.answers in
      let q = answer_lists b.sizes b.state t i c u a in
      let o : t.owed ≡ owed.EndOrPark c = sym q.owed ∙ answer_owes b.sizes b.state.idle c u false
      m.some_room m.is_usable (fullness b false h f) in
      record {
        next = t;
        leads = one_all b.sizes b.state (Answer i c u) ∙ a;
        ready = record {
          held = quiet parked pin_of is_context kept layer_pin is_layer stocked b (Answer i c u) t
              h a refl refl (answer_quiet b.sizes b.state t i c u a);
          owes = ap (λ x. legal.owes_park x c) o ∙ self c;
          waits = answered_waits b.sizes b.events b.state t b.started i c u told pin m.state
              h.log.reached a m.state_is m.noted m.loose;
        };
      }

  room_made : (b : Shared C L H) (i : ℕ) (told : ParkedContext) (pin : Option Pin)
      (x : ℕ × Waiting C) → Held b → MayPark i told pin b →
      (length b.idle == b.sizes.idle) ≡ true →
      slice_get b.idle (length b.idle - 1) ≡ Some x →
      MakesRoom i told.id (used_before told) (Some x.0) (take (b.sizes.idle - 1) b.idle) told pin b
  room_made b i told pin x h m f g =
      let c = told.id in
      let u = used_before told in
      let t = legal.after_answer b.sizes b.state i c u in
      let a = answer_may b.sizes b.state i c u m.answers in
      let q = answer_lists b.sizes b.state t i c u a in
      let one = quiet parked pin_of is_context kept layer_pin is_layer stocked b (Answer i c u) t h
      a refl refl (answer_quiet b.sizes b.state t i c u a) in
      let o : t.owed ≡ owed.EndOrEvict c = sym q.owed ∙ answer_owes b.sizes b.state.idle c u true
      m.some_room m.is_usable (fullness b true h f) in
      let keys : keys_of b.idle ≡ t.idle = h.idle ∙ q.idle in
      let last : last_of t.idle ≡ Some x.0 = ap (λ ks. last_of ks) (sym keys)
      ∙ (sym (last_keys (idle_list b))
      ∙ ap (λ (z : Option (ℕ × Waiting C)). option_map (λ (e : ℕ × Waiting C). e.0) z) g) in
      let v = legal.after_evict t x.0 in
      let d = evict_may b.sizes t x.0 (ap (λ y. legal.owes_evict y) o) last in
      let p = evict_lists b.sizes t v x.0 d in
      let rest = take (b.sizes.idle - 1) b.idle in
      let size : length t.idle ≡ b.sizes.idle = ap (λ (ks : List ℕ). length ks) (sym keys)
      ∙ (length_keys b.idle ∙ same (length b.idle) b.sizes.idle f) in
      let sound = reached_sound b.sizes (b.events ++ Answer i c u ∷ []) t one.log.reached in
      let left : keys_of rest ≡ v.idle = take_keys (b.sizes.idle - 1) b.idle
      ∙ (ap (λ ks. take (b.sizes.idle - 1) ks) keys
      ∙ (full_keys b.sizes.idle x.0 t.idle size sound.idle_distinct last ∙ p.idle)) in
      let two = evicts_held (with_events (Answer i c u ∷ []) t b) x.0 v rest one d left
      (all_take (Wait t b.started) (b.sizes.idle - 1) b.idle one.contexts) in
      let there : Has x.0 t.idle =
      last_has t.idle x.0 (ap (λ z. is_just z x.0) last ∙ self x.0) in
      let before = reached_sound b.sizes b.events b.state h.log.reached in
      let apart : x.0 ≢ c = λ e. serves_not_idle b.sizes b.state i c u before m.answers
      (subst (λ n. Has n b.state.idle) e (subst (λ ks. Has x.0 ks) (sym q.idle) there)) in
      record {
        next = v;
        leads = two_state b.sizes b.state t v (Answer i c u) (Evict x.0) a d;
        ready = record {
          held = subst (λ (es : List Event). Held (record b {
            events = es;
            state = v;
            idle = rest;
          })) (append_assoc b.events (Answer i c u ∷ []) (Evict x.0 ∷ [])) two;
          owes = ap (λ y. legal.owes_park y c) (sym p.owed ∙ ap (λ y. owed_after_evict y) o)
              ∙ self c;
          waits = evicted_waits b.sizes (b.events ++ Answer i c u ∷ []) t v b.started x.0 c
              told.function told pin one.log.reached d apart (answered_waits b.sizes b.events
              b.state t b.started i c u told pin m.state h.log.reached a m.state_is m.noted
              m.loose);
        };
      }

  room_at : (b : Shared C L H) (i : ℕ) (told : ParkedContext) (pin : Option Pin) (full : Bool) →
      Held b → MayPark i told pin b → (length b.idle == b.sizes.idle) ≡ full →
      MakesRoom i told.id (used_before told)
      (option_map (λ (e : ℕ × Waiting C). e.0) (cond full (recent.last_of (idle_list b)) None))
      (take (b.sizes.idle - 1) b.idle) told pin b
  room_at b i told pin true h m f =
      let x = last_there b.sizes.idle b.idle m.some_room
      (same (length b.idle) b.sizes.idle f) in
      subst (λ (o : Option (ℕ × Waiting C)). MakesRoom i told.id (used_before told)
      (option_map (λ (e : ℕ × Waiting C). e.0) o) (take (b.sizes.idle - 1) b.idle) told pin b)
      (sym x.1) (room_made b i told pin x.0 h m f x.1)
  room_at b i told pin false h m f =
      subst (λ (es : List (ℕ × Waiting C)). MakesRoom i told.id (used_before told) None es told
      pin b) (sym (take_fits b.sizes.idle b.idle (within_room b h) f))
      (room_there b i told pin h m f)

  -- room is made
  pub makes_room : (b : Shared C L H) (i : ℕ) (told : ParkedContext) (pin : Option Pin) → Held b →
      MayPark i told pin b → MakesRoom i told.id (used_before told) (last_idle b)
      (take (b.sizes.idle - 1) b.idle) told pin b
  makes_room b i told pin h m =
      room_at b i told pin (length b.idle == b.sizes.idle) h m refl

  -- ---- the context is parked, and frames come back

  -- the park, and so many frames that come back, may stand, and leave a book
  pub record Ends (c n : ℕ) (entry : Waiting C) (shelf : H) (b : Shared C L H) : Type 0 where
    pub next : State
    pub leads : after_all b.sizes b.state (Park c ∷ backs n) ≡ Some next
    pub book : IsBook parked pin_of is_context kept layer_pin is_layer stocked (record b {
      events = b.events ++ (Park c ∷ backs n);
      state = next;
      idle = (c, entry) ∷ b.idle;
      shelf = shelf;
    })

  parks_first : (b : Shared C L H) (c : ℕ) (context : C) →
      IsReady c (parked context) (pin_of context) b → is_context context → Held (record b {
        events = b.events ++ Park c ∷ [];
        state = legal.after_park b.state c;
        idle = (c, waiting_of (parked context).function context) ∷ b.idle;
      })
  parks_first b c context r g =
      let a = park_may b.sizes b.state c r.owes in
      parks_held b c (waiting_of (parked context).function context) (legal.after_park b.state c)
      r.held a (
        g,
        parked_waits b.sizes b.events b.state (legal.after_park b.state c) b.started c
            (parked context).function (parked context) (pin_of context) r.held.log.reached a
            r.waits,
      )

  ends_none : (b : Shared C L H) (c n part : ℕ) (context : C) (shelf : H) →
      IsReady c (parked context) (pin_of context) b → is_context context → n ≡ 0 →
      stocked shelf ≡ with_returned n part (stocked b.shelf) →
      Ends c n (waiting_of (parked context).function context) shelf b
  ends_none b c n part context shelf r g z e =
      let t = legal.after_park b.state c in
      let a = park_may b.sizes b.state c r.owes in
      let one = returned_held parked pin_of is_context kept layer_pin is_layer stocked (record b {
        events = b.events ++ Park c ∷ [];
        state = t;
        idle = (c, waiting_of (parked context).function context) ∷ b.idle;
      }) n part shelf (parks_first b c context r g) z e in
      record {
        next = t;
        leads = ap (λ (es : List Event). after_all b.sizes b.state (Park c ∷ es)) (backs_none n z)
            ∙ (one_all b.sizes b.state (Park c) ∙ a);
        book = subst (λ (es : List Event). IsBook parked pin_of is_context kept layer_pin is_layer
            stocked (record b {
              events = b.events ++ (Park c ∷ es);
              state = t;
              idle = (c, waiting_of (parked context).function context) ∷ b.idle;
              shelf = shelf;
            })) (sym (backs_none n z)) (record {
              held = one;
              owes = (park_lists b.sizes b.state t c a).owes;
            });
      }

  ends_some : (b : Shared C L H) (c n part : ℕ) (context : C) (takes : Bool) (shelf : H) →
      IsReady c (parked context) (pin_of context) b → is_context context → b.stopped ≡ false →
      b.sizes.root ≡ if_taken takes 1 → (takes ≡ false → n ≡ 0) → n ≢ 0 →
      stocked shelf ≡ with_returned n part (stocked b.shelf) → (stocked shelf).free ≤ free_limit →
      Ends c n (waiting_of (parked context).function context) shelf b
  ends_some b c n part context takes shelf r g on root none p e few =
      let t = legal.after_park b.state c in
      let a = park_may b.sizes b.state c r.owes in
      let q = park_lists b.sizes b.state t c a in
      let y = found (after b.sizes t (Back n)) (give_may takes b.sizes t n n part (stocked b.shelf)
      (stocked shelf) q.owes root none refl p (r.held.free on ∙ q.free) e few) in
      let z = back_lists b.sizes t y.0 n y.1 in
      let two = backs_held parked pin_of is_context kept layer_pin is_layer stocked (record b {
        events = b.events ++ Park c ∷ [];
        state = t;
        idle = (c, waiting_of (parked context).function context) ∷ b.idle;
      }) n part shelf y.0 (parks_first b c context r g) y.1 e in
      record {
        next = y.0;
        leads = ap (λ (es : List Event). after_all b.sizes b.state (Park c ∷ es)) (backs_some n p)
            ∙ two_state b.sizes b.state t y.0 (Park c) (Back n) a y.1;
        book = subst (λ (es : List Event). IsBook parked pin_of is_context kept layer_pin is_layer
            stocked (record b {
              events = es;
              state = y.0;
              idle = (c, waiting_of (parked context).function context) ∷ b.idle;
              shelf = shelf;
            })) (append_assoc b.events (Park c ∷ []) (Back n ∷ [])
            ∙ ap (λ (es : List Event). b.events ++ (Park c ∷ es)) (sym (backs_some n p)))
            (record { held = two; owes = ap (λ x. owes_nothing x) (sym z.owed) ∙ q.owes });
      }

  ends_at : (b : Shared C L H) (c n part : ℕ) (context : C) (takes : Bool) (shelf : H) (v : Bool)
      → IsReady c (parked context) (pin_of context) b → is_context context → b.stopped ≡ false →
      b.sizes.root ≡ if_taken takes 1 → (takes ≡ false → n ≡ 0) →
      stocked shelf ≡ with_returned n part (stocked b.shelf) → (stocked shelf).free ≤ free_limit →
      (n == 0) ≡ v → Ends c n (waiting_of (parked context).function context) shelf b
  ends_at b c n part context takes shelf true r g on root none e few v =
      ends_none b c n part context shelf r g (same n 0 v) e
  ends_at b c n part context takes shelf false r g on root none e few v =
      ends_some b c n part context takes shelf r g on root none (differ n 0 v) e few

  pub ends : (b : Shared C L H) (c n part : ℕ) (context : C) (takes : Bool) (shelf : H) →
      IsReady c (parked context) (pin_of context) b → is_context context → b.stopped ≡ false →
      b.sizes.root ≡ if_taken takes 1 → (takes ≡ false → n ≡ 0) →
      stocked shelf ≡ with_returned n part (stocked b.shelf) → (stocked shelf).free ≤ free_limit →
      Ends c n (waiting_of (parked context).function context) shelf b
  ends b c n part context takes shelf r g on root none e few =
      ends_at b c n part context takes shelf (n == 0) r g on root none e few refl

  -- a context that may be parked isn't idle
  pub absent : (b : Shared C L H) (i c : ℕ) (told : ParkedContext) (pin : Option Pin)
      (now : Shared C L H) → Held b → b ≡ now → MayPark i told pin now → c ≡ told.id →
      lookup (nat_eq c) b.idle ≡ None
  absent b i c told pin now h v m e =
      let may = subst (λ (z : Shared C L H). MayPark i told pin z) (sym v) m in
      let sound = reached_sound b.sizes b.events b.state h.log.reached in
      not_found c b.idle (λ k. serves_not_idle b.sizes b.state i told.id (used_before told) sound
      may.answers (subst (λ n. Has n b.state.idle) e (subst (λ cs. Has c cs) h.idle k)))
