-- What holds of a book, event by event.
use Rattle.std.proofs.Common.{◌≡◌, ℕ, ◌+◌, ◌==◌, Bool, true, false, List, [], ◌∷◌, ◌++◌, length}
use Rattle.std.proofs.Common.{Option, Some, refl, sym, ◌∙◌, ap, subst, arith, nat_eq}
use Rattle.std.proofs.Common.{if◌then◌else◌, cond}
use Rattle.std.specs.List.{AllByRecursion, find}
use Rattle.std.specs.Map.{keys_of, remove_entry}
use Rattle.journal_model.specs.Extents.{Extents}
use Rattle.journal_model.specs.State.{State, numbered, without}
use Rattle.journal_model.specs.Legal as legal
use Rattle.journal_model.specs.Legal.{after, after_all, at_first}
use Rattle.journal_model.specs.declared.event.Event.{Event}
use Rattle.journal_model.specs.declared.event.Event.TheVariants.{Start, Take, Back}
use Rattle.journal_model.proofs.Apart.{Has}
use Rattle.journal_model.proofs.Frames.{stood}
use Rattle.journal_model.proofs.Recents.{without_less}
use Rattle.journal_model.specs.Reads.{served}
use Rattle.journal_laws.proofs.Listing.{remove_keys}
use Rattle.journal_laws.proofs.Serving.{grows}
use Rattle.space_api.specs.Holding.{Stocked, Notes, Pin, with_returned}
use Rattle.space_api.specs.Told.{ParkedContext, KeptLayer}
use Rattle.book_log.specs.Logged.{Logged, starts_none, draws}
use Rattle.book_log.specs.declared.started.Started.{Started}
use Rattle.book_log.proofs.Keys.{drawn_more}
use Rattle.book_log.proofs.Logging.{appended, one_more, starts, after_starts, counted}
use Rattle.book_model.specs.Kept.{IsHeld, IsWaiting, IsStaked, IsNoting, HasNoted, givens}
use Rattle.slot_lists.specs.Lists.{Waiting, first_waiting}
use Rattle.book_model.specs.Shared.{Shared}
use Rattle.book_model.specs.Steps.{with_events}
use Rattle.book_model.proofs.Entries.{all_kept, all_removed}
use Rattle.book_model.proofs.Growing.{givens_grow, served_bound}
use Rattle.book_model.proofs.Waiting.{waiting_stays}

-- the book of a log
abbrev pub book_of : {C L H : Type 0} → Logged → List (ℕ × Waiting C) → List (ℕ × L) → List L
    → H → (stopped : Bool) → Shared C L H
book_of l idle kept images shelf stopped = record {
  sizes = l.sizes;
  events = l.events;
  state = l.state;
  started = l.started;
  idle = idle;
  kept = kept;
  images = images;
  shelf = shelf;
  stopped = stopped;
}

-- a log with one event more
abbrev pub IsNext : (l m : Logged) (e : Event) → Type 0
IsNext l m e = m ≡ record l { events = l.events ++ e ∷ []; state = m.state; room = m.room }

-- the lists and the free number are the same
pub record IsQuiet (s t : State) : Type 0 where
  pub idle : s.idle ≡ t.idle
  pub kept : s.kept ≡ t.kept
  pub free : s.free ≡ t.free

start_contexts : (s : State) (f t c : ℕ) →
    numbered (legal.after_start s f t).contexts c ≡ numbered s.contexts c
unfolding legal.after_start
start_contexts s f t c = refl

start_quiet : (s : State) (f t : ℕ) → IsQuiet s (legal.after_start s f t)
unfolding legal.after_start
start_quiet s f t = record { idle = refl; kept = refl; free = refl }

-- a start owes what was owed
pub start_owes : (s : State) (f t : ℕ) → s.owed ≡ (legal.after_start s f t).owed
unfolding legal.after_start
start_owes s f t = refl

-- a take takes the context out of the idle ones, and owes what was owed
pub record TakesOut (s t : State) (c : ℕ) : Type 0 where
  pub idle : without c s.idle ≡ t.idle
  pub kept : s.kept ≡ t.kept
  pub free : s.free ≡ t.free
  pub owed : s.owed ≡ t.owed

pub take_lists : (sizes : Extents) (s t : State) (c i : ℕ) → after sizes s (Take c i) ≡ Some t →
    TakesOut s t c
unfolding legal.after_take
take_lists sizes s t c i h = let w = stood _ _ t h in record {
  idle = ap (λ (x : State). x.idle) w.1;
  kept = ap (λ (x : State). x.kept) w.1;
  free = ap (λ (x : State). x.free) w.1;
  owed = ap (λ (x : State). x.owed) w.1;
}

-- frames that come back raise the free number alone
pub record ComesBack (s t : State) (n : ℕ) : Type 0 where
  pub idle : s.idle ≡ t.idle
  pub kept : s.kept ≡ t.kept
  pub free : s.free + n ≡ t.free
  pub owed : s.owed ≡ t.owed

pub back_lists : (sizes : Extents) (s t : State) (n : ℕ) → after sizes s (Back n) ≡ Some t →
    ComesBack s t n
unfolding legal.after_back
back_lists sizes s t n h = let w = stood _ _ t h in record {
  idle = ap (λ (x : State). x.idle) w.1;
  kept = ap (λ (x : State). x.kept) w.1;
  free = ap (λ (x : State). x.free) w.1;
  owed = ap (λ (x : State). x.owed) w.1;
}

no_more_drawn : (n m : ℕ) (b : Bool) → b ≡ false → n ≡ m + (if b then 1 else 0) → m ≡ n
no_more_drawn n m true h k = absurd (cc)
no_more_drawn n m false h k = omega (arith, k)

module _ {C L H : Type 0} (parked : C → ParkedContext) (pin_of : C → Option Pin)
    (is_context : C → Type 0) (kept : L → KeptLayer) (layer_pin : L → Option Pin)
    (is_layer : L → Type 0) (stocked : H → Stocked) where
  abbrev pub Waits : State → List Started → ℕ × Waiting C → Type 0
  Waits s started e = is_context e.1.context × IsWaiting s started e.0 e.1.function
      (parked e.1.context) (pin_of e.1.context)

  abbrev pub Holds : Shared C L H → Type 0
  Holds b = IsHeld parked pin_of is_context kept layer_pin is_layer stocked b

  -- what waits before an event and after it waits as it did
  pub all_wait : (b : Shared C L H) (e : Event) (t : State) (entries : List (ℕ × Waiting C)) →
      Holds b → after b.sizes b.state e ≡ Some t →
      ((c : ℕ) → Has c (keys_of entries) → Has c b.state.idle × Has c t.idle) →
      AllByRecursion (Waits b.state b.started) entries →
      AllByRecursion (Waits t b.started) entries
  all_wait b e t entries h a sub w = all_kept (Waits b.state b.started) (Waits t b.started)
      entries (λ d k v. let x = sub d.0 k in (
        v.0,
        waiting_stays b.sizes b.events b.state e t
            b.started d.0 d.1.function (parked d.1.context) (pin_of d.1.context) h.log.reached
            (one_more b.sizes b.events b.state t e h.log.reached a) a x.0 x.1 v.1,
      )) w

  pub stake_stays : (b : Shared C L H) (e : Event) (t : State) → Holds b →
      after b.sizes b.state e ≡ Some t → draws e ≡ false →
      IsStaked b.sizes.root (length t.contexts) (stocked b.shelf)
  stake_stays b e t h a d = subst (λ n. IsStaked b.sizes.root n (stocked b.shelf))
      (no_more_drawn (length t.contexts) (length b.state.contexts) (draws e) d
      (drawn_more b.sizes b.state e t a)) h.stake

  -- an event that changes neither a list nor the free number
  pub quiet : (b : Shared C L H) (e : Event) (t : State) → Holds b →
      after b.sizes b.state e ≡ Some t → starts_none e ≡ true → draws e ≡ false →
      IsQuiet b.state t → Holds (with_events (e ∷ []) t b)
  quiet b e t h a n d q = record {
    sizes = h.sizes;
    log = appended b.sizes b.events b.state t e b.started h.log a n;
    idle = h.idle ∙ q.idle;
    kept_is = h.kept_is ∙ q.kept;
    contexts = all_wait b e t b.idle h a (λ c k. let x = subst (λ cs. Has c cs) h.idle k in
        (x, subst (λ cs. Has c cs) q.idle x)) h.contexts;
    layers = h.layers;
    images = h.images;
    stake = stake_stays b e t h a d;
    notes = h.notes;
    free = λ s. h.free s ∙ q.free;
  }

  -- the same of logs
  pub noted : (l m : Logged) (e : Event) (idle : List (ℕ × Waiting C)) (ls : List (ℕ × L))
      (images : List L) (shelf : H) (stopped : Bool) → IsNext l m e →
      after l.sizes l.state e ≡ Some m.state → starts_none e ≡ true → draws e ≡ false →
      IsQuiet l.state m.state → Holds (book_of l idle ls images shelf stopped) →
      Holds (book_of m idle ls images shelf stopped)
  noted l m e idle ls images shelf stopped same a n d q h =
      subst (λ (x : Logged). Holds (book_of x idle ls images shelf stopped)) (sym same)
      (quiet (book_of l idle ls images shelf stopped) e m.state h a n d q)

  -- ---- a start

  wait_grows : (b : Shared C L H) (one : Started) → Holds b →
      legal.may_start b.sizes b.state (length b.started + 1) one.function one.given.clock ≡ true →
      (e : ℕ × Waiting C) → Waits b.state b.started e →
      Waits (legal.after_start b.state one.function one.given.clock) (b.started ++ one ∷ []) e
  wait_grows b one h may e w =
      let t = legal.after_start b.state one.function one.given.clock in
      let event = Start (length b.started + 1) one.function one.given.clock in
      let same : served t e.0 ≡ served b.state e.0 = grows b.sizes b.events b.state t event e.0
      h.log.reached (after_starts b.sizes b.state (length b.started + 1) one.function
      one.given.clock may) in
      let more = givens_grow b.started one (length b.state.requests) (served b.state e.0)
      (counted b.sizes b.events b.state b.started h.log) (served_bound b.state e.0) in (
        w.0,
        record {
          state = w.1.state;
          state_is = start_contexts b.state one.function one.given.clock e.0 ∙ w.1.state_is;
          function_is = w.1.function_is;
          noted = record {
            number = w.1.noted.number;
            for_function = w.1.noted.for_function;
            place = w.1.noted.place;
            bare = w.1.noted.bare;
            in_order = w.1.noted.in_order ∙ (sym more
                ∙ ap (givens (b.started ++ one ∷ [])) (sym same));
          };
          loose = w.1.loose;
        },
      )

  -- the book with a request more
  pub starts_held : (b : Shared C L H) (one : Started) → Holds b →
      legal.may_start b.sizes b.state (length b.started + 1) one.function one.given.clock ≡ true →
      Holds (record b {
        events = b.events ++ Start (length b.started + 1) one.function one.given.clock ∷ [];
        state = legal.after_start b.state one.function one.given.clock;
        started = b.started ++ one ∷ [];
      })
  starts_held b one h may =
      let s = starts b.sizes b.events b.state b.started one h.log may in
      let q = start_quiet b.state one.function one.given.clock in
      record {
        sizes = h.sizes;
        log = s.logged;
        idle = h.idle ∙ q.idle;
        kept_is = h.kept_is ∙ q.kept;
        contexts = all_kept (Waits b.state b.started)
            (Waits (legal.after_start b.state one.function one.given.clock)
            (b.started ++ one ∷ [])) b.idle (λ e k w. wait_grows b one h may e w) h.contexts;
        layers = h.layers;
        images = h.images;
        stake = subst (λ n. IsStaked b.sizes.root n (stocked b.shelf)) (sym s.drawn) h.stake;
        notes = h.notes;
        free = λ x. h.free x ∙ q.free;
      }

  -- ---- a take

  -- the book without a context that was taken
  pub takes_held : (b : Shared C L H) (c i : ℕ) (t : State) → Holds b →
      after b.sizes b.state (Take c i) ≡ Some t →
      Holds (record b {
        events = b.events ++ Take c i ∷ [];
        state = t;
        idle = remove_entry (nat_eq c) b.idle;
      })
  takes_held b c i t h a =
      let q = take_lists b.sizes b.state t c i a in
      let keys : keys_of (remove_entry (nat_eq c) b.idle) ≡ without c b.state.idle
      = remove_keys c b.idle ∙ ap (without c) h.idle in
      record {
        sizes = h.sizes;
        log = appended b.sizes b.events b.state t (Take c i) b.started h.log a refl;
        idle = keys ∙ q.idle;
        kept_is = h.kept_is ∙ q.kept;
        contexts = all_wait b (Take c i) t (remove_entry (nat_eq c) b.idle) h a
            (λ d k. let x = subst (λ cs. Has d cs) keys k in
            (without_less c d b.state.idle x, subst (λ cs. Has d cs) q.idle x))
            (all_removed (Waits b.state b.started) c b.idle h.contexts);
        layers = h.layers;
        images = h.images;
        stake = stake_stays b (Take c i) t h a refl;
        notes = h.notes;
        free = λ x. h.free x ∙ q.free;
      }

  -- an entry has its context's function, so that the first of a function is the journal's
  pub first_agrees : (f : ℕ) (s : State) (started : List Started) (es : List (ℕ × Waiting C)) →
      AllByRecursion (Waits s started) es →
      first_waiting f es ≡ legal.first_for f s.contexts (keys_of es)
  unfolding legal.first_for
  first_agrees f s started [] h = refl
  first_agrees f s started (e ∷ es) h =
      let w = h.0.1 in
      let q : legal.is_for_one f (numbered s.contexts e.0) ≡ (e.1.function == f) =
      ap (legal.is_for_one f) w.state_is
      ∙ ap (λ n. n == f) (sym w.noted.for_function ∙ w.function_is) in
      ap (λ z. cond (e.1.function == f) (Some e.0) z) (first_agrees f s started es h.1)
      ∙ ap (λ b. cond b (Some e.0) (find (λ (c : ℕ). legal.is_for_one f (numbered s.contexts c))
      (keys_of es))) (sym q)

  -- ---- frames that come back

  stake_rises : (b : Shared C L H) (n part drawn : ℕ) (shelf : H) →
      IsStaked b.sizes.root drawn (stocked b.shelf) →
      stocked shelf ≡ with_returned n part (stocked b.shelf) →
      IsStaked b.sizes.root drawn (stocked shelf)
  stake_rises b n part drawn shelf h e = λ r. let m = h r in
      let s = ap (λ (x : Stocked). x.stake) e in omega (arith, m, s)

  notes_stay : (b : Shared C L H) (n part : ℕ) (shelf : H) →
      IsNoting b.sizes.root (length b.images) (stocked b.shelf) →
      stocked shelf ≡ with_returned n part (stocked b.shelf) →
      IsNoting b.sizes.root (length b.images) (stocked shelf)
  notes_stay b n part shelf h e = λ r. subst (λ (x : Notes). HasNoted (length b.images) x)
      (sym (ap (λ (x : Stocked). x.notes) e)) (h r)

  -- the book with other frames, of which no event tells
  pub returned_held : (b : Shared C L H) (n part : ℕ) (shelf : H) → Holds b → n ≡ 0 →
      stocked shelf ≡ with_returned n part (stocked b.shelf) → Holds (record b { shelf = shelf })
  returned_held b n part shelf h z e = record {
    sizes = h.sizes;
    log = h.log;
    idle = h.idle;
    kept_is = h.kept_is;
    contexts = h.contexts;
    layers = h.layers;
    images = h.images;
    stake = stake_rises b n part (length b.state.contexts) shelf h.stake e;
    notes = notes_stay b n part shelf h.notes e;
    free = λ x. let f = h.free x in let s = ap (λ (y : Stocked). y.free) e in
        omega (arith, f, s, z);
  }

  -- the book with frames that came back, as the event tells
  pub backs_held : (b : Shared C L H) (n part : ℕ) (shelf : H) (t : State) → Holds b →
      after b.sizes b.state (Back n) ≡ Some t →
      stocked shelf ≡ with_returned n part (stocked b.shelf) → Holds (record b {
        events = b.events ++ Back n ∷ [];
        state = t;
        shelf = shelf;
      })
  backs_held b n part shelf t h a e =
      let q = back_lists b.sizes b.state t n a in
      record {
        sizes = h.sizes;
        log = appended b.sizes b.events b.state t (Back n) b.started h.log a refl;
        idle = h.idle ∙ q.idle;
        kept_is = h.kept_is ∙ q.kept;
        contexts = all_wait b (Back n) t b.idle h a (λ c k. let x = subst (λ cs. Has c cs) h.idle k
            in (x, subst (λ cs. Has c cs) q.idle x)) h.contexts;
        layers = h.layers;
        images = h.images;
        stake = stake_rises b n part (length t.contexts) shelf
            (stake_stays b (Back n) t h a refl) e;
        notes = notes_stay b n part shelf h.notes e;
        free = λ x. let f = h.free x in let s = ap (λ (y : Stocked). y.free) e in
            let w = q.free in omega (arith, f, s, w);
      }
