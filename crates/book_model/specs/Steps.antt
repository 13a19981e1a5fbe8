-- What each call makes of the book.
use Rattle.std.specs.Prelude.{◌≡◌, ℕ, ◌+◌, ◌-◌, ◌<◌, ◌≤◌, ◌==◌, Bool, true, false, if◌then◌else◌}
use Rattle.std.specs.Prelude.{List, [], ◌∷◌, ◌++◌, length, slice_set, Option, None, Some}
use Rattle.std.specs.Prelude.{is_some, option_map, nat_eq}
use Rattle.std.specs.List.{slice_get}
use Rattle.std.specs.Map.{lookup, remove_entry}
use Rattle.cache_lists.specs.Recent.{Recent, pushed_out, with_first}
use Rattle.journal_model.specs.Extents.{Stack}
use Rattle.journal_model.specs.State.{State, numbered}
use Rattle.journal_model.specs.Legal.{after, after_all, request_function, first_for}
use Rattle.journal_model.specs.Legal.{may_answer}
use Rattle.journal_model.specs.Reads.{served}
use Rattle.journal_model.specs.declared.event.Event.{Event}
use Rattle.journal_model.specs.declared.event.Event.TheVariants.{Take, Deploy, Built, Keep, Dup}
use Rattle.journal_model.specs.declared.event.Event.TheVariants.{Drop, Evict, Park, End, Back}
use Rattle.journal_model.specs.declared.event.Event.TheVariants.{Answer}
use Rattle.machine_model.specs.declared.hart.Hart.{Hart}
use Rattle.space_api.specs.Holding.{Stocked, Pin, Holding, with_returned, if_taken, first_stake}
use Rattle.space_api.specs.Holding.{Gave}
use Rattle.space_api.specs.Stores.{Spaced, spaced_of, frozen}
use Rattle.space_api.specs.Told.{ParkedContext, KeptLayer}
use Rattle.slot_lists.specs.Lists.{Waiting, waiting_of, after_deploy}
use Rattle.journal_model.specs.declared.state.ContextState.{ContextState}
use Rattle.book_model.specs.Kept.{IsNoted, givens}
use Rattle.book_model.specs.Shared.{Shared}

-- ---- the events of each call

-- the answer, where the context gave one, and then its end
abbrev pub ended : (i c : ℕ) → (answered : Option ℕ) → List Event
ended i c None = End c ∷ []
ended i c (Some u) = Answer i c u ∷ End c ∷ []

-- so many frames come back, if any do
abbrev pub backs : (n : ℕ) → List Event
backs n = if n == 0 then [] else Back n ∷ []

-- a layer goes, if one does
abbrev pub drops : (last : Option ℕ) → List Event
drops None = []
drops (Some j) = Drop j ∷ []

-- a layer was built, which is kept already; or else it is kept, and the last goes, if there is one
-- to go
abbrev pub built_events : (c k d : ℕ) → (twice : Bool) → (last : Option ℕ) → List Event
built_events c k d true last = Built c k d ∷ Dup k ∷ []
built_events c k d false last = Built c k d ∷ (drops last ++ Keep k ∷ [])

-- an idle context goes, if one does
abbrev pub evicts : (last : Option ℕ) → List Event
evicts None = []
evicts (Some e) = Evict e ∷ []

-- the answer, the context that makes room, if one does, the park, and the frames that come back
abbrev pub parked_events : (i c u n : ℕ) → (last : Option ℕ) → List Event
parked_events i c u n last = Answer i c u ∷ (evicts last ++ Park c ∷ backs n)

-- how many requests a context served before its last one
abbrev pub used_before : ParkedContext → ℕ
used_before told = length told.served - 1

-- where the image of a stack stands; 0 where there is no stack
abbrev pub start_of : Option Stack → ℕ
start_of None = 0
start_of (Some stack) = stack.start

module _ {C L H : Type 0} where
  -- the book with these events more, which lead to that state; all else stays
  abbrev pub with_events : List Event → State → Shared C L H → Shared C L H
  with_events events state book =
      record book { events = book.events ++ events; state = state }

  -- These events may stand there; they were appended, and nothing else changed.
  pub record Appends (events : List Event) (old new : Shared C L H) : Type 0 where
    pub legal : after_all old.sizes old.state events ≡ Some new.state
    pub new_is : new ≡ with_events events new.state old

  -- ---- take_idle

  -- no idle context has the function, and nothing changed
  pub record FindsNone (i : ℕ) (old new : Shared C L H) : Type 0 where
    pub none : first_for (request_function old.state i) old.state.contexts old.state.idle ≡ None
    pub same : new ≡ old

  -- the most recently parked context of the request's function serves it
  pub record Takes (i c : ℕ) (context : C) (old new : Shared C L H) : Type 0 where
    pub first : first_for (request_function old.state i) old.state.contexts old.state.idle ≡ Some c
    pub entry : lookup (nat_eq c) old.idle
        ≡ Some (waiting_of (request_function old.state i) context)
    pub legal : after old.sizes old.state (Take c i) ≡ Some new.state
    pub new_is : new ≡ record old {
      events = old.events ++ Take c i ∷ [];
      state = new.state;
      idle = remove_entry (nat_eq c) old.idle;
    }

  -- ---- returned

  -- so many frames and so much stake came back to the shelf
  pub record Returns (n part : ℕ) (stocked : H → Stocked) (old new : Shared C L H) : Type 0 where
    pub legal : after_all old.sizes old.state (backs n) ≡ Some new.state
    pub new_is : new ≡ record old {
      events = old.events ++ backs n;
      state = new.state;
      shelf = new.shelf;
    }
    pub shelf_is : stocked new.shelf ≡ with_returned n part (stocked old.shelf)

  -- ---- keep

  -- the kept layers with their room
  abbrev pub kept_list : Shared C L H → Recent ℕ L
  kept_list book = record { room = book.sizes.layers; entries = book.kept }

  -- the layer is kept
  abbrev pub is_kept : (k : ℕ) → Shared C L H → Bool
  is_kept k book = is_some (lookup (nat_eq k) book.kept)

  -- the number of the layer that a further one pushes out, if it does
  abbrev pub last_kept : Shared C L H → Option ℕ
  last_kept book = option_map (λ (e : ℕ × L). e.0) (pushed_out (kept_list book))

  -- what comes back of a layer that was built: itself, where its number is kept already, and else
  -- the layer that goes for it
  abbrev pub handed_layer : (twice : Bool) → L → Shared C L H → Option L
  handed_layer true layer book = Some layer
  handed_layer false layer book = option_map (λ (e : ℕ × L). e.1) (pushed_out (kept_list book))

  -- the kept layers after one was built
  abbrev pub kept_with : (twice : Bool) → (k : ℕ) → L → Shared C L H → List (ℕ × L)
  kept_with true k layer book = book.kept
  kept_with false k layer book = (with_first k layer (kept_list book)).entries

  -- a layer was built, and is kept from now on, in front
  pub record Keeps (c k d : ℕ) (layer : L) (handed : Option L) (old new : Shared C L H)
      : Type 0 where
    pub legal : after_all old.sizes old.state
        (built_events c k d (is_kept k old) (last_kept old)) ≡ Some new.state
    pub handed_is : handed ≡ handed_layer (is_kept k old) layer old
    pub new_is : new ≡ record old {
      events = old.events ++ built_events c k d (is_kept k old) (last_kept old);
      state = new.state;
      kept = kept_with (is_kept k old) k layer old;
    }

  -- ---- park

  -- the idle contexts with their room
  abbrev pub idle_list : Shared C L H → Recent ℕ (Waiting C)
  idle_list book = record { room = book.sizes.idle; entries = book.idle }

  -- the number of the context that a further one pushes out, if it does
  abbrev pub last_idle : Shared C L H → Option ℕ
  last_idle book = option_map (λ (e : ℕ × Waiting C). e.0) (pushed_out (idle_list book))

  -- A context may answer a request and be parked: it was used less often than it may be, and what
  -- it tells of itself is what the journal will say of it. It holds no spare and isn't pinned.
  pub record MayPark (i : ℕ) (told : ParkedContext) (pin : Option Pin) (book : Shared C L H)
      : Type 0 where
    pub state : ContextState
    pub state_is : numbered book.state.contexts told.id ≡ Some state
    pub answers : may_answer book.state i told.id (used_before told) ≡ true
    pub some_room : 1 ≤ book.sizes.idle
    pub is_usable : used_before told + 1 < book.sizes.uses
    pub noted : IsNoted state told.id
        (givens book.started (served book.state told.id ++ i ∷ [])) told
    pub loose : pin ≡ None

  -- a context answered and is the most recently parked one, and so many frames and so much stake
  -- came back to the shelf
  pub record Parks (i n part : ℕ) (context : C) (told : ParkedContext) (stocked : H → Stocked)
      (handed : Option C) (old new : Shared C L H) : Type 0 where
    pub legal : after_all old.sizes old.state
        (parked_events i told.id (used_before told) n (last_idle old)) ≡ Some new.state
    pub handed_is : handed
        ≡ option_map (λ (e : ℕ × Waiting C). e.1.context) (pushed_out (idle_list old))
    pub new_is : new ≡ record old {
      events = old.events ++ parked_events i told.id (used_before told) n (last_idle old);
      state = new.state;
      idle = (with_first told.id (waiting_of told.function context) (idle_list old)).entries;
      shelf = new.shelf;
    }
    pub shelf_is : stocked new.shelf ≡ with_returned n part (stocked old.shelf)

  -- ---- deploy_from

  -- where the image of a request's function stands
  abbrev pub image_of : (i : ℕ) → Shared C L H → ℕ
  image_of i book = start_of (slice_get book.sizes.stacks (request_function book.state i))

  -- what a deploy stands on: a kept layer, or the image of the request's function
  abbrev pub below_of : (i : ℕ) → (from : Option ℕ) → Shared C L H → Option L
  below_of i None book = slice_get book.images (image_of i book)
  below_of i (Some k) book = lookup (nat_eq k) book.kept

  -- the book with another value in that place; a layer goes to the front exactly where it was
  -- deployed
  abbrev pub with_below : (i : ℕ) → (from : Option ℕ) → (deployed : Bool) → L → Shared C L H
      → Shared C L H
  with_below i None deployed layer book =
      record book { images = slice_set book.images (image_of i book) layer }
  with_below i (Some k) deployed layer book =
      record book { kept = after_deploy deployed k layer book.kept }

-- ---- deploy_from, with what layers and shelves tell

module _ {C L H : Type 0} (kept : L → KeptLayer) (tells_same : L → L → Type 0)
    (holding : L → Holding) (stocked : H → Stocked) where
  -- what a deploy stands on was touched: it tells what it told, and holds what it held
  pub record IsTouched (i : ℕ) (from : Option ℕ) (deployed : Bool) (old new : Shared C L H)
      : Type 0 where
    pub below : L
    pub touched : L
    pub below_is : below_of i from old ≡ Some below
    pub same : tells_same below touched
    pub holds : holding touched ≡ holding below
    pub new_is : new ≡ record (with_below i from deployed touched old) { shelf = new.shelf }

  -- nothing was deployed: no event, and all that is kept tells and holds what it did
  pub record DeploysNone (i : ℕ) (old new : Shared C L H) : Type 0 where
    pub from : Option ℕ
    pub touches : IsTouched i from false old new
    pub shelf_is : stocked new.shelf ≡ stocked old.shelf

  -- the next context is deployed from the highest kept layer of the function's stack, or from its
  -- image
  pub record Deploys (i c : ℕ) (from : Option ℕ) (hart : Hart) (takes : Bool) (space : Spaced)
      (held : Holding) (old new : Shared C L H) : Type 0 where
    pub below : L
    pub touched : L
    pub below_is : below_of i from old ≡ Some below
    pub same : tells_same below touched
    pub holds : holding touched ≡ holding below
    pub legal : after old.sizes old.state (Deploy c from i old.sizes.root) ≡ Some new.state
    pub new_is : new ≡ record (with_below i from true touched old) {
      events = old.events ++ Deploy c from i old.sizes.root ∷ [];
      state = new.state;
      shelf = new.shelf;
    }
    pub gave : Gave takes 1 first_stake (stocked old.shelf) (stocked new.shelf)
    pub hart_is : hart ≡ (kept below).hart
    pub space_is : space ≡ spaced_of (frozen (kept below).memory.flat) 0 false
    pub space_stake : held.stake ≡ if_taken takes first_stake
    pub space_span : held.span ≤ (holding below).span + if_taken takes 1
    pub space_loose : held.pin ≡ None
