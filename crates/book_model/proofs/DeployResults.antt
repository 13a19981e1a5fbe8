-- What a deploy makes of the book, by its results.
use Rattle.std.proofs.Common.{◌≡◌, ℕ, ◌+◌, ◌<◌, ◌≤◌, zero, suc, Bool, true, false, List, []}
use Rattle.std.proofs.Common.{◌∷◌, ◌++◌, length, Option, None, Some, Result, Ok, Err, IsSome}
use Rattle.std.proofs.Common.{IfSome, OnErr}
use Rattle.std.proofs.Common.{refl, sym, ◌∙◌, ap, subst, arith, get_or}
use Rattle.std.specs.Prelude.{slice_set}
use Rattle.std.specs.List.{slice_get}
use Rattle.std.specs.Map.{keys_of}
use Rattle.std.proofs.lemmas.Option.{same_Some}
use Rattle.cache_lists.specs.Recent.{Recent}
use Rattle.journal_model.specs.Extents.{Extents}
use Rattle.journal_model.specs.State.{State, highest_kept}
use Rattle.journal_model.specs.Legal as legal
use Rattle.journal_model.specs.Legal.{after}
use Rattle.journal_model.specs.declared.event.Event.{Event}
use Rattle.journal_model.specs.declared.event.Event.TheVariants.{Deploy}
use Rattle.machine_model.specs.declared.hart.Hart.{Hart}
use Rattle.space_api.specs.Holding.{Stocked, Pin, Holding, if_taken, first_stake, Gave}
use Rattle.space_api.specs.Stores.{Spaced, spaced_of, frozen}
use Rattle.space_api.specs.Told.{ParkedContext, KeptLayer}
use Rattle.book_log.specs.Logged.{Logged}
use Rattle.slot_lists.specs.Lists.{Waiting, after_deploy}
use Rattle.book_model.specs.Below.{below_in, layers_with, image_with}
use Rattle.book_model.specs.Shared.{Shared}
use Rattle.book_model.specs.Steps.{Deploys, DeploysNone, start_of, image_of, below_of, with_below}
use Rattle.book_model.proofs.Changed.{IsChanged, item_at, set_same, renewed, below_there}
use Rattle.book_model.proofs.Changed.{below_stands, stands_loose}
use Rattle.book_model.proofs.Deployment.{starts_within, stands_touched, stands_deployed}
use Rattle.book_model.proofs.Holds.{book_of, IsNext, Holds}
use Rattle.book_model.proofs.Requested.{requested}
use Rattle.book_model.proofs.Results.{Stands, IsRoomier, next_of, leads_of}

-- what is said of what is there
pub if_some_at : {A : Type 0} (P : A → Type 0) (o : Option A) (x : A) → o ≡ Some x →
    IfSome o P → P x
if_some_at P o x e h = subst (λ (y : Option _). IfSome y P) e h

pub if_some_by : {A : Type 0} (P : A → Type 0) (o : Option A) (x : A) → o ≡ Some x → P x →
    IfSome o P
if_some_by P o x e h = subst (λ (y : Option _). IfSome y P) (sym e) h

pub is_some_by : {A : Type 0} (o : Option A) (x : A) → o ≡ Some x → IsSome o
is_some_by o x e = subst (λ (y : Option _). IsSome y) (sym e) refl

pub on_err : {T E : Type 0} (r : Result T E) (P : Type 0) → P → OnErr r P
on_err (Ok x) P h = tt
on_err (Err x) P h = h

item_there : {A : Type 0} (xs : List A) (n : ℕ) → n < length xs →
    (x : A) × (slice_get xs n ≡ Some x)
item_there [] n h = absurd (omega (arith, h))
item_there (x ∷ xs) zero h = (x, refl)
item_there (x ∷ xs) (suc n) h = item_there xs n (omega (arith, h))

-- a log with more room has the root of the log
pub root_of : (l r : Logged) (x y : Extents) → IsRoomier l r → x ≡ y → y ≡ r.sizes →
    x.root ≡ l.sizes.root
root_of l r x y h v e = ap (λ (z : Extents). z.root) (v ∙ e) ∙ ap (λ (z : Logged). z.sizes.root) h

-- and the contexts that were drawn
pub drawn_of : (l r : Logged) (n : ℕ) → IsRoomier l r → n ≡ length r.state.contexts →
    n ≡ length l.state.contexts
drawn_of l r n h e = e ∙ ap (λ (z : Logged). length z.state.contexts) h

-- an event may stand where a log has more room
pub may_of : (l r : Logged) (e : Event) → IsRoomier l r → IsSome (after l.sizes l.state e) →
    IsSome (after r.sizes r.state e)
may_of l r e h k = subst (λ (y : Logged). IsSome (after y.sizes y.state e)) (sym h) k

-- a deploy of as many frames as the sizes say
pub deploy_leads : (l r : Logged) (t : State) (c : ℕ) (from : Option ℕ) (i n : ℕ) →
    IsRoomier l r → n ≡ l.sizes.root → after r.sizes r.state (Deploy c from i n) ≡ Some t →
    after l.sizes l.state (Deploy c from i l.sizes.root) ≡ Some t
deploy_leads l r t c from i n h e a =
    subst (λ (x : ℕ). after l.sizes l.state (Deploy c from i x) ≡ Some t) e
    (leads_of l r (Deploy c from i n) t h a)

pub deploy_next : (l r m : Logged) (c : ℕ) (from : Option ℕ) (i n room : ℕ) →
    IsRoomier l r → n ≡ l.sizes.root → m ≡ record r {
      events = r.events ++ Deploy c from i n ∷ [];
      state = m.state;
      room = room;
    } → IsNext l m (Deploy c from i l.sizes.root)
deploy_next l r m c from i n room h e k = subst (λ (x : ℕ). IsNext l m (Deploy c from i x)) e
    (next_of l r m (Deploy c from i n) room h k)

-- the place of an image doesn't ask for room
place_of : (l r : Logged) (at i : ℕ) → IsRoomier l r →
    at ≡ start_of (slice_get r.sizes.stacks (legal.request_function r.state i)) →
    at ≡ start_of (slice_get l.sizes.stacks (legal.request_function l.state i))
place_of l r at i h e = subst (λ (y : Logged). at
    ≡ start_of (slice_get y.sizes.stacks (legal.request_function y.state i))) h e

module _ {C L H : Type 0} (parked : C → ParkedContext) (pin_of : C → Option Pin)
    (is_context : C → Type 0) (kept : L → KeptLayer) (layer_pin : L → Option Pin)
    (is_layer : L → Type 0) (stocked : H → Stocked) where
  abbrev Hold : Shared C L H → Type 0
  Hold b = Holds parked pin_of is_context kept layer_pin is_layer stocked b

  -- the image of a request that waits is among the images
  place_within : (b : Shared C L H) (i : ℕ) → Hold b → legal.is_waiting b.state i ≡ true →
      image_of i b < length b.images
  place_within b i h w = starts_within b.sizes (length b.images) b.state b.started i h.sizes
      (requested b.sizes b.events b.state b.started i h.log w)

  -- the same, of what is seen of the book
  pub place_there : (i : ℕ) (b now : Shared C L H) → Hold b → b ≡ now →
      legal.is_waiting now.state i ≡ true → image_of i b < length b.images
  place_there i b now h v w = place_within b i h
      (subst (λ (x : Shared C L H). legal.is_waiting x.state i ≡ true) (sym v) w)

  placed_at : (b : Shared C L H) (i at : ℕ) → Hold b → legal.is_waiting b.state i ≡ true →
      at ≡ image_of i b → at < length b.images
  placed_at b i at h w e =
      subst (λ (n : ℕ). n < length b.images) (sym e) (place_within b i h w)

  module _ (l r : Logged) (i at : ℕ) (idle : List (ℕ × Waiting C)) (es : List (ℕ × L))
      (xs : List L) (shelf : H) (stopped : Bool) (now : Shared C L H)
      (held : Hold (book_of l idle es xs shelf stopped))
      (view : book_of l idle es xs shelf stopped ≡ now)
      (waits : legal.is_waiting now.state i ≡ true) (rest : IsRoomier l r)
      (place : at ≡ start_of (slice_get r.sizes.stacks (legal.request_function r.state i))) where
    abbrev the_book : Shared C L H
    the_book = book_of l idle es xs shelf stopped

    -- the same with the state that the book has
    waits_so : legal.is_waiting l.state i ≡ true
    waits_so = subst (λ (b : Shared C L H). legal.is_waiting b.state i ≡ true) (sym view) waits

    -- an image stands in that place
    pub placed : at < length xs
    placed = placed_at the_book i at held waits_so (place_of l r at i rest place)

    -- and what a deploy stands on is there
    pub record IsAimed (from : Option ℕ) (x : L) : Type 0 where
      pub place_is : at ≡ start_of (slice_get l.sizes.stacks (legal.request_function l.state i))
      pub image_is : slice_get xs at ≡ Some x
      pub below : L
      pub below_is : below_in from es x ≡ Some below

    pub aimed : (from : Option ℕ) (x : L) (stack : List ℕ) → x ≡ get_or xs at x →
        from ≡ highest_kept (keys_of es) stack → IsAimed from x
    aimed from x stack v f = let b = below_there from es x stack f in record {
      place_is = place_of l r at i rest place;
      image_is = item_at xs at x placed v;
      below = b.0;
      below_is = b.1;
    }

    -- it isn't pinned
    pub aimed_loose : (from : Option ℕ) (x : L) → (a : IsAimed from x) →
        layer_pin a.below ≡ None
    aimed_loose from x a = stands_loose kept layer_pin is_layer from at a.below
        (below_stands kept layer_pin is_layer from at es x a.below held.layers
        (held.images at x a.image_is) a.below_is)

    -- and what another look-up of the image answers is the same
    pub below_again : (from : Option ℕ) (x y below : L) → slice_get xs at ≡ Some x →
        below_in from es x ≡ Some below → y ≡ get_or xs at y → below_in from es y ≡ Some below
    below_again from x y below e k v = ap (λ (z : L). below_in from es z)
        (same_Some y x (sym (item_at xs at y placed v) ∙ e)) ∙ k

module _ {C L H : Type 0} (kept : L → KeptLayer) (stocked : H → Stocked)
    (tells_same : L → L → Type 0) (holding : L → Holding) where
  -- what is said of a refusal that changed nothing
  pub none_is : (i : ℕ) (b book new : Shared C L H) → ((a : L) → tells_same a a) →
      image_of i b < length b.images → b ≡ book → new ≡ book →
      DeploysNone kept tells_same holding stocked i book new
  none_is i b book new itself w v e =
      let f : new ≡ b = e ∙ sym v in
      let x = item_there b.images (image_of i b) w in
      let same = sym (set_same b.images (image_of i b) x.0 x.1) in
      subst (λ (y : Shared C L H). DeploysNone kept tells_same holding stocked i y new) v
      (record {
        from = None;
        touches = record {
          below = x.0;
          touched = x.0;
          below_is = x.1;
          same = itself x.0;
          holds = refl;
          new_is = f ∙ (ap (λ (xs : List L). record b { images = xs }) same
              ∙ ap (λ (s : H). record b {
                images = slice_set b.images (image_of i b) x.0;
                shelf = s;
              }) (sym (ap (λ (y : Shared C L H). y.shelf) f)));
        };
        shelf_is = ap (λ (y : Shared C L H). stocked y.shelf) f;
      })

module _ {C L H : Type 0} (kept : L → KeptLayer) (layer_pin : L → Option Pin)
    (is_layer : L → Type 0) (stocked : H → Stocked) (tells_same : L → L → Type 0)
    (holding : L → Holding) where
  below_so : (i at : ℕ) (from : Option ℕ) (b : Shared C L H) (image below : L) →
      at ≡ image_of i b → slice_get b.images at ≡ Some image →
      below_in from b.kept image ≡ Some below → below_of i from b ≡ Some below
  below_so i at None b image below e h k =
      ap (λ (n : ℕ). slice_get b.images n) (sym e) ∙ (h ∙ k)
  below_so i at (Some n) b image below e h k = k

  lists_so : (i at : ℕ) (from : Option ℕ) (deployed : Bool) (b : Shared C L H)
      (image touched : L) → at ≡ image_of i b → slice_get b.images at ≡ Some image →
      with_below i from deployed touched b ≡ record b {
        kept = layers_with from deployed touched b.kept;
        images = slice_set b.images at (image_with from touched image);
      }
  lists_so i at None deployed b image touched e h =
      ap (λ (n : ℕ). record b { images = slice_set b.images n touched }) (sym e)
  lists_so i at (Some k) deployed b image touched e h =
      ap (λ (xs : List L). record b {
        kept = after_deploy deployed k touched b.kept;
        images = xs;
      }) (sym (set_same b.images at image h))

  -- the lists of what was touched
  abbrev changed_book : (b : Shared C L H) → (ls : Recent ℕ L) → (at : ℕ) → (now : L)
      → Shared C L H
  changed_book b ls at now =
      record b { kept = ls.entries; images = slice_set b.images at now }

  changed_so : (i at : ℕ) (from : Option ℕ) (deployed : Bool) (b : Shared C L H)
      (ks ls : Recent ℕ L) (image now : L) →
      (x : IsChanged kept layer_pin is_layer tells_same holding from deployed ks ls image now) →
      b.kept ≡ ks.entries → at ≡ image_of i b → slice_get b.images at ≡ Some image →
      changed_book b ls at now ≡ with_below i from deployed x.touched b
  changed_so i at from deployed b ks ls image now x v e h =
      ap (λ (ms : Recent ℕ L). changed_book b ms at now) x.kept_is
      ∙ (ap (λ (es : List (ℕ × L)). record b {
        kept = layers_with from deployed x.touched es;
        images = slice_set b.images at now;
      }) (sym v)
      ∙ (ap (λ (y : L). record b {
        kept = layers_with from deployed x.touched b.kept;
        images = slice_set b.images at y;
      }) x.image_is
      ∙ sym (lists_so i at from deployed b image x.touched e h)))

  -- what is said of a refusal
  pub refused_is : (l m : Logged) (i at : ℕ) (from : Option ℕ) (idle : List (ℕ × Waiting C))
      (ks ls : Recent ℕ L) (image now : L) (xs : List L) (old new : H) (stopped : Bool)
      (book : Shared C L H) →
      IsChanged kept layer_pin is_layer tells_same holding from false ks ls image now →
      IsRoomier l m →
      book_of l idle ks.entries xs old stopped ≡ book →
      at ≡ start_of (slice_get l.sizes.stacks (legal.request_function l.state i)) →
      slice_get xs at ≡ Some image → stocked new ≡ stocked old →
      DeploysNone kept tells_same holding stocked i book
      (book_of m idle ls.entries (slice_set xs at now) new stopped)
  refused_is l m i at from idle ks ls image now xs old new stopped book x r v e h s =
      let b : Shared C L H = book_of l idle ks.entries xs old stopped in
      let same = changed_so i at from false b ks ls image now x refl e h in
      subst (λ (w : Shared C L H). DeploysNone kept tells_same holding stocked i w
      (book_of m idle ls.entries (slice_set xs at now) new stopped)) v (record {
        from = from;
        touches = record {
          below = x.below;
          touched = x.touched;
          below_is = below_so i at from b image x.below e h x.below_is;
          same = x.same;
          holds = x.holds;
          new_is = ap (λ (y : Logged).
              book_of y idle ls.entries (slice_set xs at now) new stopped) r
              ∙ ap (λ (w : Shared C L H). record w { shelf = new }) same;
        };
        shelf_is = s;
      })

  -- what is said of a deploy
  pub deploys_is : (takes : Bool) (l m : Logged) (c i at : ℕ) (from : Option ℕ) (hart : Hart)
      (space : Spaced) (held : Holding) (idle : List (ℕ × Waiting C)) (ks ls : Recent ℕ L)
      (image now : L) (xs : List L) (old new : H) (stopped : Bool) (book : Shared C L H) →
      (x : IsChanged kept layer_pin is_layer tells_same holding from true ks ls image now) →
      book_of l idle ks.entries xs old stopped ≡ book →
      at ≡ start_of (slice_get l.sizes.stacks (legal.request_function l.state i)) →
      slice_get xs at ≡ Some image → IsNext l m (Deploy c from i l.sizes.root) →
      after l.sizes l.state (Deploy c from i l.sizes.root) ≡ Some m.state →
      Gave takes 1 first_stake (stocked old) (stocked new) → hart ≡ (kept x.below).hart →
      space ≡ spaced_of (frozen (kept x.below).memory.flat) 0 false →
      (held.stake ≡ if_taken takes first_stake)
      × (held.span ≤ (holding x.below).span + if_taken takes 1) × (held.pin ≡ None) →
      Deploys kept tells_same holding stocked i c from hart takes space held book
      (book_of m idle ls.entries (slice_set xs at now) new stopped)
  deploys_is takes l m c i at from hart space held idle ks ls image now xs old new stopped book
      x v e h n a g t s q =
      let b : Shared C L H = book_of l idle ks.entries xs old stopped in
      let same = changed_so i at from true b ks ls image now x refl e h in
      subst (λ (w : Shared C L H). Deploys kept tells_same holding stocked i c from hart takes
      space held w (book_of m idle ls.entries (slice_set xs at now) new stopped)) v (record {
        below = x.below;
        touched = x.touched;
        below_is = below_so i at from b image x.below e h x.below_is;
        same = x.same;
        holds = x.holds;
        legal = a;
        new_is = ap (λ (y : Logged).
            book_of y idle ls.entries (slice_set xs at now) new stopped) n
            ∙ ap (λ (w : Shared C L H). record w {
              events = l.events ++ Deploy c from i l.sizes.root ∷ [];
              state = m.state;
              shelf = new;
            }) same;
        gave = g;
        hart_is = t;
        space_is = s;
        space_stake = q.0;
        space_span = q.1;
        space_loose = q.2;
      })

module _ {C L H : Type 0} (parked : C → ParkedContext) (pin_of : C → Option Pin)
    (is_context : C → Type 0) (kept : L → KeptLayer) (layer_pin : L → Option Pin)
    (is_layer : L → Type 0) (stocked : H → Stocked) (tells_same : L → L → Type 0)
    (holding : L → Holding) (stays : (a b : L) → tells_same a b → is_layer a → is_layer b)
    (tells : (a b : L) → tells_same a b → kept a ≡ kept b)
    (pins : (a b : L) → holding a ≡ holding b → layer_pin a ≡ layer_pin b) where
  abbrev Stand : (idle_room kept_room : ℕ) → Shared C L H → Type 0
  Stand j k b = Stands parked pin_of is_context kept layer_pin is_layer stocked j k b

  -- the book still stands after a refusal
  pub stands_refused : (l m : Logged) (j at : ℕ) (from : Option ℕ) (idle : List (ℕ × Waiting C))
      (ks ls : Recent ℕ L) (image now : L) (xs : List L) (old new : H) (stopped : Bool) →
      IsChanged kept layer_pin is_layer tells_same holding from false ks ls image now →
      IsRoomier l m → slice_get xs at ≡ Some image →
      stocked new ≡ stocked old → Stand j ks.room (book_of l idle ks.entries xs old stopped) →
      Stand j ls.room (book_of m idle ls.entries (slice_set xs at now) new stopped)
  stands_refused l m j at from idle ks ls image now xs old new stopped x r h s b =
      let room = ap (λ (y : Recent ℕ L). y.room) x.kept_is in
      let y = stands_touched parked pin_of is_context kept layer_pin is_layer stocked tells_same
      holding stays tells pins l m j ks.room from idle ks.entries ls.entries xs
      (slice_set xs at now) old new stopped r
      (renewed kept layer_pin is_layer tells_same holding stays tells pins from false ks ls image
      now at xs x b.2.held.layers h b.2.held.images) s b in
      (y.0, room ∙ y.1, y.2)

  -- and after a deploy
  pub stands_drawn : (takes : Bool) (l m : Logged) (j c i at : ℕ) (from : Option ℕ)
      (idle : List (ℕ × Waiting C)) (ks ls : Recent ℕ L) (image now : L) (xs : List L)
      (old new : H) (stopped : Bool) →
      IsChanged kept layer_pin is_layer tells_same holding from true ks ls image now →
      IsNext l m (Deploy c from i l.sizes.root) →
      after l.sizes l.state (Deploy c from i l.sizes.root) ≡ Some m.state →
      slice_get xs at ≡ Some image → l.sizes.root ≡ if_taken takes 1 →
      Gave takes 1 first_stake (stocked old) (stocked new) →
      Stand j ks.room (book_of l idle ks.entries xs old stopped) →
      Stand j ls.room (book_of m idle ls.entries (slice_set xs at now) new stopped)
  stands_drawn takes l m j c i at from idle ks ls image now xs old new stopped x n a h t g b =
      let room = ap (λ (y : Recent ℕ L). y.room) x.kept_is in
      let y = stands_deployed parked pin_of is_context kept layer_pin is_layer stocked tells_same
      holding stays tells pins takes l m j ks.room c i from idle ks.entries ls.entries xs
      (slice_set xs at now) old new stopped n a
      (renewed kept layer_pin is_layer tells_same holding stays tells pins from true ks ls image
      now at xs x b.2.held.layers h b.2.held.images) t g b in
      (y.0, room ∙ y.1, y.2)
