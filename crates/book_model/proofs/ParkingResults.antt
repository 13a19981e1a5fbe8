-- What a park makes of the book, by its logs.
use Rattle.std.proofs.Common.{◌≡◌, ℕ, ◌-◌, ◌≤◌, Bool, false}
use Rattle.std.proofs.Common.{List, ◌∷◌, ◌++◌, length, take, Option, None, Some, IsSome}
use Rattle.std.proofs.Common.{refl, sym, ◌∙◌, ap, subst}
use Rattle.std.proofs.lemmas.List.{append_assoc}
use Rattle.std.proofs.lemmas.Option.{same_Some}
use Rattle.std.specs.Prelude.{option_map}
use Rattle.cache_lists.specs.Recent.{Recent, pushed_out, with_first}
use Rattle.journal_model.specs.State.{State}
use Rattle.journal_model.specs.Legal.{after_all}
use Rattle.journal_model.specs.declared.event.Event.{Event}
use Rattle.journal_model.specs.declared.event.Event.TheVariants.{Answer, Park}
use Rattle.journal_laws.proofs.Folding.{joined_after}
use Rattle.space_api.specs.Holding.{Stocked, Pin, with_returned, if_taken, free_limit}
use Rattle.space_api.specs.Told.{ParkedContext, KeptLayer}
use Rattle.space_api.specs.declared.given.Given.{Given}
use Rattle.slot_lists.specs.Lists.{Waiting, waiting_of, context_of}
use Rattle.book_log.specs.Logged.{Logged}
use Rattle.book_model.specs.Shared.{Shared}
use Rattle.book_model.specs.Steps.{MayPark, Parks, used_before, last_idle, evicts, backs}
use Rattle.book_model.specs.Steps.{parked_events}
use Rattle.book_model.proofs.Holds.{book_of}
use Rattle.book_model.proofs.Results.{IsRoomier, Stands, Books}
use Rattle.book_model.proofs.ParkingStates.{served_some}
use Rattle.book_model.proofs.ParkingHeld.{IsReady, MakesRoom, makes_room, Ends, ends}

-- ---- what is counted

-- a context that may be parked tells of at least one request
pub some_served : {C L H : Type 0} (i : ℕ) (told : ParkedContext) (pin : Option Pin)
    (b : Shared C L H) → MayPark i told pin b → 1 ≤ length told.served
some_served i told pin b m = served_some m.state told.id i b.started _ told m.noted

-- ---- logs

-- a log with these events more
abbrev pub IsOn : (l m : Logged) (es : List Event) → Type 0
IsOn l m es = m ≡ record l { events = l.events ++ es; state = m.state; room = m.room }

-- it doesn't ask for the room that was made before
pub on_of : (l r m : Logged) (es : List Event) → IsRoomier l r → IsOn r m es → IsOn l m es
on_of l r m es h k = subst (λ (y : Logged). m ≡ record y {
  events = y.events ++ es;
  state = m.state;
  room = m.room;
}) h k

pub leads_on : (l r : Logged) (es : List Event) (t : State) → IsRoomier l r →
    after_all r.sizes r.state es ≡ Some t → after_all l.sizes l.state es ≡ Some t
leads_on l r es t h a = subst (λ (y : Logged). after_all y.sizes y.state es ≡ Some t) h a

-- ---- what goes

names_of : {C : Type 0} (o : Option (ℕ × Waiting C)) →
    option_map (λ (e : ℕ × C). e.0) (option_map context_of o)
    ≡ option_map (λ (e : ℕ × Waiting C). e.0) o
names_of None = refl
names_of (Some e) = refl

contexts_of : {C : Type 0} (o : Option (ℕ × Waiting C)) →
    option_map (λ (e : ℕ × C). e.1) (option_map context_of o)
    ≡ option_map (λ (e : ℕ × Waiting C). e.1.context) o
contexts_of None = refl
contexts_of (Some e) = refl

pushed_within : {C : Type 0} (list : Recent ℕ (Waiting C)) (room : ℕ) → list.room ≡ room →
    pushed_out list ≡ pushed_out (record { room = room; entries = list.entries })
pushed_within list room e =
    ap (λ n. pushed_out (record { room = n; entries = list.entries })) e

-- the number of what goes
pub last_is : {C : Type 0} (list : Recent ℕ (Waiting C)) (room : ℕ) (lost : Option (ℕ × C))
    (last : Option ℕ) → list.room ≡ room → lost ≡ option_map context_of (pushed_out list) →
    last ≡ option_map (λ (e : ℕ × C). e.0) lost →
    last ≡ option_map (λ (e : ℕ × Waiting C). e.0)
    (pushed_out (record { room = room; entries = list.entries }))
last_is list room lost last e h k =
    k ∙ (ap (λ o. option_map (λ (e : ℕ × _). e.0) o) h
    ∙ (names_of (pushed_out list)
    ∙ ap (λ o. option_map (λ (e : ℕ × Waiting _). e.0) o) (pushed_within list room e)))

-- and the context
pub handed_is : {C : Type 0} (list : Recent ℕ (Waiting C)) (room : ℕ) (lost : Option (ℕ × C))
    (handed : Option C) → list.room ≡ room → lost ≡ option_map context_of (pushed_out list) →
    handed ≡ option_map (λ (e : ℕ × C). e.1) lost →
    handed ≡ option_map (λ (e : ℕ × Waiting C). e.1.context)
    (pushed_out (record { room = room; entries = list.entries }))
handed_is list room lost handed e h k =
    k ∙ (ap (λ o. option_map (λ (e : ℕ × _). e.1) o) h
    ∙ (contexts_of (pushed_out list)
    ∙ ap (λ o. option_map (λ (e : ℕ × Waiting _). e.1.context) o) (pushed_within list room e)))

-- the entries with one in front
pub first_entries : {C : Type 0} (list next : Recent ℕ (Waiting C)) (c f : ℕ) (context : C)
    (function : ℕ) → next ≡ with_first c (waiting_of f context) list → f ≡ function →
    next.entries ≡ (c, waiting_of function context) ∷ take (list.room - 1) list.entries
first_entries list next c f context function w e =
    ap (λ (l : Recent ℕ (Waiting _)). l.entries) w
    ∙ ap (λ (n : ℕ). (c, waiting_of n context) ∷ take (list.room - 1) list.entries) e

-- ---- the events

same_events : (i c d u v n m : ℕ) (last end : Option ℕ) → c ≡ d → u ≡ v → n ≡ m → last ≡ end →
    parked_events i c u n last ≡ parked_events i d v m end
same_events i c d u v n m last end a b e f =
    ap (λ x. parked_events i x u n last) a
    ∙ (ap (λ x. parked_events i d x n last) b
    ∙ (ap (λ x. parked_events i d v x last) e ∙ ap (λ x. parked_events i d v m x) f))

module _ {C L H : Type 0} (parked : C → ParkedContext) (pin_of : C → Option Pin)
    (is_context : C → Type 0) (kept : L → KeptLayer) (layer_pin : L → Option Pin)
    (is_layer : L → Type 0) (stocked : H → Stocked) where
  abbrev Makes : (i c u : ℕ) → Option ℕ → List (ℕ × Waiting C) → ParkedContext → Option Pin
      → Shared C L H → Type 0
  Makes i c u last rest told pin b = MakesRoom parked pin_of is_context kept layer_pin is_layer
      stocked i c u last rest told pin b

  abbrev Ready : (c : ℕ) → ParkedContext → Option Pin → Shared C L H → Type 0
  Ready c told pin b = IsReady parked pin_of is_context kept layer_pin is_layer stocked c told
      pin b

  abbrev EndsSo : (c n : ℕ) → Waiting C → H → Shared C L H → Type 0
  EndsSo c n entry shelf b = Ends parked pin_of is_context kept layer_pin is_layer stocked c n
      entry shelf b

  -- room is made in the list that the code has, in the code's words
  pub room_for : (l : Logged) (list : Recent ℕ (Waiting C)) (ls : List (ℕ × L)) (images : List L)
      (shelf : H) (stopped : Bool) (i c u : ℕ) (lost : Option (ℕ × C)) (last : Option ℕ)
      (told : ParkedContext) (pin : Option Pin) (served : List Given) (now : Shared C L H) →
      list.room ≡ l.sizes.idle →
      Books parked pin_of is_context kept layer_pin is_layer stocked
      (book_of l list.entries ls images shelf stopped) →
      book_of l list.entries ls images shelf stopped ≡ now → MayPark i told pin now →
      c ≡ told.id → u ≡ length served - 1 → served ≡ told.served →
      lost ≡ option_map context_of (pushed_out list) →
      last ≡ option_map (λ (e : ℕ × C). e.0) lost →
      Makes i c u last (take (list.room - 1) list.entries) told pin
      (book_of l list.entries ls images shelf stopped)
  room_for l list ls images shelf stopped i c u lost last told pin served now room h v m a d k e f =
      let b : Shared C L H = book_of l list.entries ls images shelf stopped in
      let r = makes_room parked pin_of is_context kept layer_pin is_layer stocked b i told pin
      h.held (subst (λ (z : Shared C L H). MayPark i told pin z) (sym v) m) in
      let q : last ≡ last_idle b = last_is list l.sizes.idle lost last room e f in
      let before : u ≡ used_before told = d ∙ ap (λ (gs : List Given). length gs - 1) k in
      subst (λ n. Makes i c u last (take (n - 1) list.entries) told pin b) (sym room)
      (subst (λ n. Makes i n u last (take (l.sizes.idle - 1) list.entries) told pin b) (sym a)
      (subst (λ n. Makes i told.id n last (take (l.sizes.idle - 1) list.entries) told pin b)
      (sym before) (subst (λ (o : Option ℕ). Makes i told.id (used_before told) o
      (take (l.sizes.idle - 1) list.entries) told pin b) (sym q) r)))

  -- the answer and what goes may stand
  pub first_asked : (l r : Logged) (rest idle : List (ℕ × Waiting C)) (ls : List (ℕ × L))
      (images : List L) (shelf : H) (stopped : Bool) (i c u : ℕ) (last : Option ℕ)
      (told : ParkedContext) (pin : Option Pin) → IsRoomier l r →
      Makes i c u last rest told pin (book_of l idle ls images shelf stopped) →
      IsSome (after_all r.sizes r.state (Answer i c u ∷ evicts last))
  first_asked l r rest idle ls images shelf stopped i c u last told pin h m =
      subst (λ (y : Logged). IsSome (after_all y.sizes y.state (Answer i c u ∷ evicts last)))
      (sym h) (subst (λ (o : Option State). IsSome o) (sym m.leads) refl)

  -- after them the context is ready to be parked
  pub ready_at : (l m : Logged) (rest idle : List (ℕ × Waiting C)) (ls : List (ℕ × L))
      (images : List L) (shelf : H) (stopped : Bool) (i c u : ℕ) (last : Option ℕ)
      (told : ParkedContext) (pin : Option Pin) →
      Makes i c u last rest told pin (book_of l idle ls images shelf stopped) →
      after_all l.sizes l.state (Answer i c u ∷ evicts last) ≡ Some m.state →
      IsOn l m (Answer i c u ∷ evicts last) →
      Ready c told pin (book_of m rest ls images shelf stopped)
  ready_at l m rest idle ls images shelf stopped i c u last told pin r a on =
      let x : r.next ≡ m.state = same_Some r.next m.state (sym r.leads ∙ a) in
      subst (λ (y : Logged). Ready c told pin (book_of y rest ls images shelf stopped)) (sym on)
      (subst (λ (s : State). Ready c told pin (record (book_of l rest ls images shelf stopped) {
        events = l.events ++ (Answer i c u ∷ evicts last);
        state = s;
      })) x r.ready)

  -- what comes last, from a log for which room was made
  pub ends_for : (l r m : Logged) (list : Recent ℕ (Waiting C)) (ls : List (ℕ × L))
      (images : List L) (old new : H) (stopped takes : Bool) (i c u n number part : ℕ)
      (lost : Option (ℕ × C)) (last : Option ℕ) (context : C) (served : List Given)
      (now : Shared C L H) → list.room ≡ l.sizes.idle →
      Books parked pin_of is_context kept layer_pin is_layer stocked
      (book_of l list.entries ls images old stopped) →
      book_of l list.entries ls images old stopped ≡ now →
      MayPark i (parked context) (pin_of context) now → is_context context → stopped ≡ false →
      now.sizes.root ≡ if_taken takes 1 → (takes ≡ false → number ≡ 0) →
      c ≡ (parked context).id → u ≡ length served - 1 → served ≡ (parked context).served →
      n ≡ number → lost ≡ option_map context_of (pushed_out list) →
      last ≡ option_map (λ (e : ℕ × C). e.0) lost → IsRoomier l r →
      after_all r.sizes r.state (Answer i c u ∷ evicts last) ≡ Some m.state →
      IsOn r m (Answer i c u ∷ evicts last) →
      stocked new ≡ with_returned number part (stocked old) → (stocked new).free ≤ free_limit →
      EndsSo c n (waiting_of (parked context).function context) new
      (book_of m (take (list.room - 1) list.entries) ls images old stopped)
  ends_for l r m list ls images old new stopped takes i c u n number part lost last context served
      now room h v may g stop root none a d s k e f roomier leads on shelf few =
      let told = parked context in
      let pin = pin_of context in
      let rest = take (list.room - 1) list.entries in
      let es = Answer i c u ∷ evicts last in
      let made = room_for l list ls images old stopped i c u lost last told pin served now room h v
      may a d s e f in
      let here = on_of l r m es roomier on in
      let ready = ready_at l m rest list.entries ls images old stopped i c u last told pin made
      (leads_on l r es m.state roomier leads) here in
      let roots = ap (λ (y : Logged). y.sizes.root) here
      ∙ (ap (λ (b : Shared C L H). b.sizes.root) v ∙ root) in
      ends parked pin_of is_context kept layer_pin is_layer stocked
      (book_of m rest ls images old stopped) c n part context takes new ready g stop roots
      (λ z. k ∙ none z) (shelf ∙ ap (λ x. with_returned x part (stocked old)) (sym k)) few

  -- the park and what comes back may stand
  pub last_asked : (m : Logged) (c n : ℕ) (entry : Waiting C) (rest : List (ℕ × Waiting C))
      (ls : List (ℕ × L)) (images : List L) (old new : H) (stopped : Bool) →
      EndsSo c n entry new (book_of m rest ls images old stopped) →
      IsSome (after_all m.sizes m.state (Park c ∷ backs n))
  last_asked m c n entry rest ls images old new stopped e =
      subst (λ (o : Option State). IsSome o) (sym e.leads) refl

  -- after them the book stands
  pub stands_parked : (l r m p : Logged) (list next : Recent ℕ (Waiting C)) (c n f k : ℕ)
      (context : C) (ls : List (ℕ × L)) (images : List L) (old new : H) (stopped : Bool)
      (es : List Event) → EndsSo c n (waiting_of (parked context).function context) new
      (book_of m (take (list.room - 1) list.entries) ls images old stopped) → IsRoomier l r →
      IsOn r m es → after_all m.sizes m.state (Park c ∷ backs n) ≡ Some p.state →
      IsOn m p (Park c ∷ backs n) → next ≡ with_first c (waiting_of f context) list →
      f ≡ (parked context).function → list.room ≡ l.sizes.idle → k ≡ l.sizes.layers →
      Stands parked pin_of is_context kept layer_pin is_layer stocked next.room k
      (book_of p next.entries ls images new stopped)
  stands_parked l r m p list next c n f k context ls images old new stopped es e roomier on a then w
      g x y =
      let entry = waiting_of (parked context).function context in
      let rest = take (list.room - 1) list.entries in
      let sizes = ap (λ (z : Logged). z.sizes) then
      ∙ ap (λ (z : Logged). z.sizes) (on_of l r m es roomier on) in
      let q : e.next ≡ p.state = same_Some e.next p.state (sym e.leads ∙ a) in (
        ap (λ (z : Recent ℕ (Waiting C)). z.room) w ∙ (x ∙ ap (λ z. z.idle) (sym sizes)),
        y ∙ ap (λ z. z.layers) (sym sizes),
        subst (λ (z : List (ℕ × Waiting C)). Books parked pin_of is_context kept layer_pin
            is_layer stocked (book_of p z ls images new stopped))
            (sym (first_entries list next c f context (parked context).function w g))
            (subst (λ (z : Logged). Books parked pin_of is_context kept layer_pin is_layer stocked
            (book_of z ((c, entry) ∷ rest) ls images new stopped)) (sym then)
            (subst (λ (s : State). Books parked pin_of is_context kept layer_pin is_layer stocked
            (record (book_of m ((c, entry) ∷ rest) ls images new stopped) {
              events = m.events ++ (Park c ∷ backs n);
              state = s;
            })) q e.book)),
      )

-- what is said of a park
pub parks_is : {C L H : Type 0} (stocked : H → Stocked) (l r m p : Logged)
    (list next : Recent ℕ (Waiting C)) (ls : List (ℕ × L)) (images : List L) (old new : H)
    (stopped : Bool) (i c u n f number part : ℕ) (lost : Option (ℕ × C)) (last : Option ℕ)
    (handed : Option C) (told : ParkedContext) (context : C) (served : List Given)
    (now : Shared C L H) → list.room ≡ l.sizes.idle → c ≡ told.id → u ≡ length served - 1 →
    served ≡ told.served → n ≡ number → f ≡ told.function →
    lost ≡ option_map context_of (pushed_out list) →
    last ≡ option_map (λ (e : ℕ × C). e.0) lost →
    handed ≡ option_map (λ (e : ℕ × C). e.1) lost → IsRoomier l r →
    after_all r.sizes r.state (Answer i c u ∷ evicts last) ≡ Some m.state →
    IsOn r m (Answer i c u ∷ evicts last) →
    after_all m.sizes m.state (Park c ∷ backs n) ≡ Some p.state → IsOn m p (Park c ∷ backs n) →
    next ≡ with_first c (waiting_of f context) list →
    stocked new ≡ with_returned number part (stocked old) →
    book_of l list.entries ls images old stopped ≡ now → Parks i number part context told stocked
    handed now (book_of p next.entries ls images new stopped)
parks_is stocked l r m p list next ls images old new stopped i c u n f number part lost last handed
    told context served now room a d s k g e q h roomier leads on leads' on' w shelf v =
    let one = Answer i c u ∷ evicts last in
    let two = Park c ∷ backs n in
    let here = on_of l r m one roomier on in
    let first = leads_on l r one m.state roomier leads in
    let second = subst (λ z. after_all z m.state two ≡ Some p.state)
    (ap (λ (y : Logged). y.sizes) here) leads' in
    let b : Shared _ _ _ = book_of l list.entries ls images old stopped in
    let before : u ≡ used_before told = d ∙ ap (λ (gs : List Given). length gs - 1) s in
    let goes : last ≡ last_idle b = last_is list l.sizes.idle lost last room e q in
    let events = same_events i c told.id u (used_before told) n number last (last_idle b) a before
    k goes in
    let entries = first_entries list next c f context told.function w g
    ∙ (ap (λ (y : ℕ). (y, waiting_of told.function context) ∷ take (list.room - 1) list.entries) a
    ∙ ap (λ (y : ℕ). (told.id, waiting_of told.function context) ∷ take (y - 1) list.entries)
    room) in
    let all = append_assoc l.events one two ∙ ap (λ (es : List Event). l.events ++ es) events in
    subst (λ (z : Shared _ _ _). Parks i number part context told stocked handed z
    (book_of p next.entries ls images new stopped)) v (record {
      legal = ap (λ (es : List Event). after_all l.sizes l.state es) (sym events)
          ∙ (joined_after l.sizes l.state m.state one two first ∙ second);
      handed_is = handed_is list l.sizes.idle lost handed room e h;
      new_is = ap (λ (y : Logged). book_of y next.entries ls images new stopped) on'
          ∙ (ap (λ (y : Logged). record (book_of y next.entries ls images new stopped) {
            events = y.events ++ two;
            state = p.state;
          }) here
          ∙ (ap (λ (es : List Event). record (book_of l next.entries ls images new stopped) {
            events = es;
            state = p.state;
          }) all
          ∙ ap (λ (es : List (ℕ × Waiting _)). record (book_of l es ls images new stopped) {
            events = l.events ++ parked_events i told.id (used_before told) number (last_idle b);
            state = p.state;
          }) entries));
      shelf_is = shelf;
    })
