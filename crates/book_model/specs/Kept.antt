-- What a book keeps, from its opening to its close.
use Rattle.std.specs.Prelude.{◌≡◌, ℕ, ◌+◌, ◌*◌, ◌^◌, ◌<◌, ◌≤◌, true, false, List}
use Rattle.std.specs.Prelude.{length, map, Option, None, Some, All, option_map}
use Rattle.std.specs.List.{slice_get, sum_by, AllByRecursion}
use Rattle.std.specs.Map.{keys_of}
use Rattle.journal_model.specs.Bounds.{IsSized}
use Rattle.journal_model.specs.Extents.{Extents, Stack}
use Rattle.journal_model.specs.State.{State, numbered}
use Rattle.journal_model.specs.Legal.{owes_nothing}
use Rattle.journal_model.specs.Reads.{served}
use Rattle.journal_model.specs.declared.state.ContextState.{ContextState}
use Rattle.space_api.specs.Holding.{Stocked, Notes, Pin, free_limit}
use Rattle.space_api.specs.Told.{ParkedContext, KeptLayer}
use Rattle.space_api.specs.declared.given.Given.{Given}
use Rattle.book_log.specs.Logged.{IsLogged}
use Rattle.book_log.specs.declared.started.Started.{Started}
use Rattle.slot_lists.specs.Lists.{Waiting}
use Rattle.book_model.specs.Shared.{Shared}

-- ---- sizes

-- the most requests of a book
abbrev pub most_requests : ℕ
most_requests = 4096

-- there is room for a layer, no layer stands twice in a stack, no more requests than there may be,
-- and each stack has its image
pub record IsOpenable (sizes : Extents) (images : ℕ) : Type 0 where
  pub sized : IsSized sizes
  pub requests : sizes.requests ≤ most_requests
  pub root : sizes.root ≤ 1
  pub frames : sizes.frames ≤ free_limit
  pub starts : All (λ (stack : Stack). stack.start < images) sizes.stacks

-- ---- contexts

-- the packets and clocks of these requests; none of one that wasn't started
unfoldable pub givens : List Started → (numbers : List ℕ) → List (Option Given)
givens started numbers =
    map (λ (i : ℕ). option_map (λ (one : Started). one.given) (numbered started i)) numbers

-- what a context tells of itself is what the journal says of it: its function, where it stands, and
-- these requests it answered, in order; it holds no spare
pub record IsNoted (state : ContextState) (c : ℕ) (answered : List (Option Given))
    (told : ParkedContext) : Type 0 where
  pub number : told.id ≡ c
  pub for_function : told.function ≡ state.function
  pub place : told.layer ≡ state.layer
  pub bare : told.spares ≡ 0
  pub in_order : map Some told.served ≡ answered

-- a context waits as the journal has it, and is pinned by nobody
pub record IsWaiting (s : State) (started : List Started) (c function : ℕ) (told : ParkedContext)
    (pin : Option Pin) : Type 0 where
  pub state : ContextState
  pub state_is : numbered s.contexts c ≡ Some state
  pub function_is : told.function ≡ function
  pub noted : IsNoted state c (givens started (served s c)) told
  pub loose : pin ≡ None

-- ---- layers and images

-- a layer has its number, and is no image
pub record IsLayerOf (k : ℕ) (told : KeptLayer) (pin : Option Pin) : Type 0 where
  pub number : told.number ≡ Some k
  pub built : told.memory.image ≡ false
  pub loose : pin ≡ None

-- an image has no number, and is that of a start
pub record IsImageOf (start : ℕ) (told : KeptLayer) (pin : Option Pin) : Type 0 where
  pub number : told.number ≡ None
  pub start_is : told.start ≡ start
  pub opened : told.memory.image ≡ true
  pub loose : pin ≡ None

-- ---- stakes

-- the stake with which a book's shelf begins, where frames are taken
abbrev pub first_shelf : ℕ
first_shelf = 2 ^ 34

-- the shelf has what it began with, less what each context that was drawn took
abbrev pub IsStaked : (root drawn : ℕ) → Stocked → Type 0
IsStaked root drawn shelf = root ≡ 1 → first_shelf ≤ shelf.stake + 2 ^ 20 * drawn

-- that many images were opened from the shelf, and it notes no pinned value
pub record HasNoted (images : ℕ) (notes : Notes) : Type 0 where
  pub opened : notes.opened ≡ images
  pub no_value : notes.values ≡ 0
  pub no_image : notes.images ≡ 0
  pub no_span : notes.spans ≡ 0

abbrev pub IsNoting : (root images : ℕ) → Stocked → Type 0
IsNoting root images shelf = root ≡ 1 → HasNoted images shelf.notes

-- over frames the shelf and the images have the whole stake together
abbrev pub IsWhole : {L : Type 0} → (root : ℕ) → (stake : L → ℕ) → List L → Stocked → Type 0
IsWhole root stake images shelf =
    root ≡ 1 → shelf.stake + sum_by stake images ≡ shelf.whole

-- ---- the book

-- With the told of contexts and layers, and what the book's grounds ask of them.
module _ {C L H : Type 0} (parked : C → ParkedContext) (pin_of : C → Option Pin)
    (is_context : C → Type 0) (kept : L → KeptLayer) (layer_pin : L → Option Pin)
    (is_layer : L → Type 0) (stocked : H → Stocked) where
  -- what holds between any two events
  pub record IsHeld (b : Shared C L H) : Type 0 where
    pub sizes : IsOpenable b.sizes (length b.images)
    pub log : IsLogged b.sizes b.events b.state b.started
    pub idle : keys_of b.idle ≡ b.state.idle
    pub kept_is : keys_of b.kept ≡ b.state.kept
    pub contexts : AllByRecursion (λ (e : ℕ × Waiting C). is_context e.1.context
        × IsWaiting b.state b.started e.0 e.1.function (parked e.1.context)
        (pin_of e.1.context)) b.idle
    pub layers : AllByRecursion (λ (e : ℕ × L). is_layer e.1
        × IsLayerOf e.0 (kept e.1) (layer_pin e.1)) b.kept
    pub images : (start : ℕ) (image : L) → slice_get b.images start ≡ Some image →
        is_layer image × IsImageOf start (kept image) (layer_pin image)
    pub stake : IsStaked b.sizes.root (length b.state.contexts) (stocked b.shelf)
    pub notes : IsNoting b.sizes.root (length b.images) (stocked b.shelf)
    pub free : b.stopped ≡ false → (stocked b.shelf).free ≡ b.state.free

  -- what holds between any two calls
  pub record IsBook (b : Shared C L H) : Type 0 where
    pub held : IsHeld b
    pub owes : owes_nothing b.state.owed ≡ true
