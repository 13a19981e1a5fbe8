-- The book after a deploy, and after one that was refused.
use Rattle.std.proofs.Common.{◌≡◌, ℕ, ◌+◌, ◌-◌, ◌<◌, ◌≤◌, ◌==◌, Bool, true, false, List}
use Rattle.std.proofs.Common.{[], ◌∷◌, ◌++◌, length, Option, None, Some, IsSome, refl, sym, ◌∙◌, ap}
use Rattle.std.proofs.Common.{subst, arith, nat_le, get_or}
use Rattle.std.specs.List.{slice_get}
use Rattle.std.specs.Map.{keys_of}
use Rattle.std.proofs.lemmas.Bool.Decides.{nat_tests}
use Rattle.std.proofs.lemmas.List.Elements.{All-get_or}
use Rattle.std.proofs.lemmas.Option.{slice_get-get_or}
use Rattle.journal_model.specs.Extents.{Extents, Stack}
use Rattle.journal_model.specs.State.{State, highest_kept, stack_of}
use Rattle.journal_model.specs.Legal as legal
use Rattle.journal_model.specs.Legal.{after, owes_nothing, to_front}
use Rattle.journal_model.specs.declared.event.Event.TheVariants.{Deploy}
use Rattle.journal_model.proofs.Apart.{Has}
use Rattle.journal_model.proofs.Frames.{stood}
use Rattle.journal_laws.proofs.Ties.{self}
use Rattle.space_api.specs.Holding.{Stocked, Notes, Pin, Holding, if_taken, first_stake, Gave}
use Rattle.space_api.specs.Told.{ParkedContext, KeptLayer}
use Rattle.book_log.specs.Logged.{Logged}
use Rattle.book_log.specs.declared.started.Started.{Started}
use Rattle.book_log.proofs.Keys.{drawn_more}
use Rattle.book_log.proofs.Logging.{appended, contexts_few}
use Rattle.slot_lists.specs.Lists.{Waiting}
use Rattle.book_model.specs.Kept.{IsOpenable, IsStaked, IsNoting, HasNoted, most_requests}
use Rattle.book_model.specs.Shared.{Shared}
use Rattle.book_model.specs.Steps.{start_of}
use Rattle.book_model.proofs.Changed.{AreRenewed}
use Rattle.book_model.proofs.Holds.{book_of, IsNext, Holds, all_wait}
use Rattle.book_model.proofs.Requested.{IsRequested}
use Rattle.book_model.proofs.Results.{Stands, IsRoomier}

-- ---- the event

-- a deploy takes a layer to the front and frames from the free ones, and owes what was owed
pub record DrawsOne (s t : State) (from : Option ℕ) (n : ℕ) : Type 0 where
  pub idle : s.idle ≡ t.idle
  pub kept : to_front from s.kept ≡ t.kept
  pub free : s.free - n ≡ t.free
  pub owed : s.owed ≡ t.owed

pub deploy_lists : (sizes : Extents) (s t : State) (c : ℕ) (from : Option ℕ) (i n : ℕ) →
    after sizes s (Deploy c from i n) ≡ Some t → DrawsOne s t from n
unfolding legal.after_deploy
deploy_lists sizes s t c from i n h = let w = stood _ _ t h in record {
  idle = ap (λ (x : State). x.idle) w.1;
  kept = ap (λ (x : State). x.kept) w.1;
  free = ap (λ (x : State). x.free) w.1;
  owed = ap (λ (x : State). x.owed) w.1;
}

same_here : (k : Option ℕ) → legal.same_place k k ≡ true
same_here None = refl
same_here (Some k) = self k

-- where frames are taken a deploy took one that was free
took_free : (takes : Bool) (root free : ℕ) (old new : Stocked) → root ≡ if_taken takes 1 →
    old.free ≡ free → Gave takes 1 first_stake old new → root ≤ free
took_free true root free old new r f g = let e = ap (λ (x : Stocked). x.free) g in
    omega (arith, r, f, e)
took_free false root free old new r f g = omega (arith, r)

-- the next context may be deployed, from the highest kept layer, where none waits
pub deploy_may : (takes : Bool) (sizes : Extents) (s : State) (c : ℕ) (from : Option ℕ)
    (i n : ℕ) (old new : Stocked) → owes_nothing s.owed ≡ true → legal.is_waiting s i ≡ true →
    legal.first_for (legal.request_function s i) s.contexts s.idle ≡ None →
    c ≡ length s.contexts + 1 →
    highest_kept s.kept (stack_of sizes (legal.request_function s i)) ≡ from →
    n ≡ sizes.root → sizes.root ≡ if_taken takes 1 → old.free ≡ s.free →
    Gave takes 1 first_stake old new → IsSome (after sizes s (Deploy c from i n))
unfolding legal.may_deploy
deploy_may takes sizes s c from i n old new o w f d h r t e g =
    let l = took_free takes sizes.root s.free old new t e g in
    let p : (c == length s.contexts + 1) ≡ true = grind (arith, nat_tests) in
    let q : legal.same_place (highest_kept s.kept (stack_of sizes (legal.request_function s i)))
    from ≡ true = subst (λ (k : Option ℕ). legal.same_place k from ≡ true) (sym h)
    (same_here from) in
    let x : (n == sizes.root) ≡ true = grind (arith, nat_tests) in
    let y : nat_le n s.free ≡ true = grind (arith, nat_tests) in
    rw (o, w, f, p, q, x, y) refl

-- ---- the shelf

-- the shelf has stake enough for one context more
pub stake_left : (takes : Bool) (root drawn : ℕ) (shelf : Stocked) → root ≡ if_taken takes 1 →
    drawn ≤ most_requests → IsStaked root drawn shelf → takes ≡ true →
    first_stake < shelf.stake
stake_left true root drawn shelf r d h t = let w = h r in omega (arith, d, w)
stake_left false root drawn shelf r d h t = absurd (cc)

stake_falls : (takes : Bool) (root drawn more : ℕ) (old new : Stocked) →
    root ≡ if_taken takes 1 → more ≡ drawn + 1 → Gave takes 1 first_stake old new →
    IsStaked root drawn old → IsStaked root more new
stake_falls true root drawn more old new r m g h = λ k. let w = h k in
    let e = ap (λ (x : Stocked). x.stake) g in omega (arith, m, w, e)
stake_falls false root drawn more old new r m g h = λ k. absurd (omega (arith, r, k))

notes_same : (root images more : ℕ) (old new : Stocked) → more ≡ images →
    new.notes ≡ old.notes → IsNoting root images old → IsNoting root more new
notes_same root images more old new m e h = λ r.
    subst (λ (x : ℕ). HasNoted x new.notes) (sym m)
    (subst (λ (x : Notes). HasNoted images x) (sym e) (h r))

free_falls : (takes : Bool) (root free left : ℕ) (old new : Stocked) → root ≡ if_taken takes 1 →
    old.free ≡ free → free - root ≡ left → Gave takes 1 first_stake old new → new.free ≡ left
free_falls true root free left old new r f l g = let e = ap (λ (x : Stocked). x.free) g in
    omega (arith, r, f, l, e)
free_falls false root free left old new r f l g = let e = ap (λ (x : Stocked). x.free) g in
    omega (arith, r, f, l, e)

-- ---- the image of a request's function

-- a request's image is among the images
pub starts_within : (sizes : Extents) (images : ℕ) (s : State) (started : List Started) (i : ℕ) →
    IsOpenable sizes images → IsRequested sizes s started i →
    start_of (slice_get sizes.stacks (legal.request_function s i)) < images
starts_within sizes images s started i h r =
    let none : Stack = record { start = 0; layers = [] } in
    let e : slice_get sizes.stacks (legal.request_function s i)
    ≡ Some (get_or sizes.stacks r.one.function none)
    = ap (λ (n : ℕ). slice_get sizes.stacks n) (sym r.function_is)
    ∙ slice_get-get_or sizes.stacks r.one.function none r.within in
    subst (λ (o : Option Stack). start_of o < images) (sym e)
    (All-get_or (λ (x : Stack). x.start < images) sizes.stacks r.one.function none r.within
    h.starts)

module _ {C L H : Type 0} (parked : C → ParkedContext) (pin_of : C → Option Pin)
    (is_context : C → Type 0) (kept : L → KeptLayer) (layer_pin : L → Option Pin)
    (is_layer : L → Type 0) (stocked : H → Stocked) where
  abbrev Hold : Shared C L H → Type 0
  Hold b = Holds parked pin_of is_context kept layer_pin is_layer stocked b

  -- the most contexts that were drawn
  pub drawn_few : (b : Shared C L H) → Hold b → length b.state.contexts ≤ most_requests
  drawn_few b h =
      let d = contexts_few b.sizes b.events b.state b.started h.log in
      let r = h.log.few in let m = h.sizes.requests in omega (arith, d, r, m)

  -- the layer is the highest of the journal's
  pub from_is : (b : Shared C L H) (from : Option ℕ) (i : ℕ) (stack : List ℕ) → Hold b →
      stack ≡ stack_of b.sizes (legal.request_function b.state i) →
      from ≡ highest_kept (keys_of b.kept) stack →
      highest_kept b.state.kept (stack_of b.sizes (legal.request_function b.state i)) ≡ from
  from_is b from i stack h s f =
      ap (λ (ks : List ℕ). highest_kept ks
      (stack_of b.sizes (legal.request_function b.state i))) (sym h.kept_is)
      ∙ (ap (λ (xs : List ℕ). highest_kept (keys_of b.kept) xs) (sym s) ∙ sym f)

  module _ (tells_same : L → L → Type 0) (holding : L → Holding)
      (stays : (a b : L) → tells_same a b → is_layer a → is_layer b)
      (tells : (a b : L) → tells_same a b → kept a ≡ kept b)
      (pins : (a b : L) → holding a ≡ holding b → layer_pin a ≡ layer_pin b) where
    -- what is kept was renewed
    abbrev pub Renews : Option ℕ → (deployed : Bool) → (es fs : List (ℕ × L)) → (xs ys : List L)
        → Type 0
    Renews from deployed es fs xs ys = AreRenewed kept layer_pin is_layer tells_same holding
        stays tells pins from deployed es fs xs ys

    openable : (sizes : Extents) (n m : ℕ) → m ≡ n → IsOpenable sizes n → IsOpenable sizes m
    openable sizes n m e h = subst (λ (k : ℕ). IsOpenable sizes k) (sym e) h

    -- the book, with what was touched, and another shelf that has what the shelf had
    pub touched_held : (b : Shared C L H) (from : Option ℕ) (fs : List (ℕ × L)) (ys : List L)
        (shelf : H) → Hold b → Renews from false b.kept fs b.images ys →
        stocked shelf ≡ stocked b.shelf →
        Hold (record b { kept = fs; images = ys; shelf = shelf })
    touched_held b from fs ys shelf h r e = record {
      sizes = openable b.sizes (length b.images) (length ys) r.number h.sizes;
      log = h.log;
      idle = h.idle;
      kept_is = r.keys ∙ h.kept_is;
      contexts = h.contexts;
      layers = r.layers;
      images = r.images;
      stake = subst (λ (x : Stocked). IsStaked b.sizes.root (length b.state.contexts) x) (sym e)
          h.stake;
      notes = notes_same b.sizes.root (length b.images) (length ys) (stocked b.shelf)
          (stocked shelf) r.number (ap (λ (x : Stocked). x.notes) e) h.notes;
      free = λ s. ap (λ (x : Stocked). x.free) e ∙ h.free s;
    }

    -- the book after a deploy
    pub deploys_held : (takes : Bool) (b : Shared C L H) (c i : ℕ) (from : Option ℕ) (t : State)
        (fs : List (ℕ × L)) (ys : List L) (shelf : H) → Hold b →
        after b.sizes b.state (Deploy c from i b.sizes.root) ≡ Some t →
        Renews from true b.kept fs b.images ys →
        b.sizes.root ≡ if_taken takes 1 →
        Gave takes 1 first_stake (stocked b.shelf) (stocked shelf) → Hold (record b {
          events = b.events ++ Deploy c from i b.sizes.root ∷ [];
          state = t;
          kept = fs;
          images = ys;
          shelf = shelf;
        })
    deploys_held takes b c i from t fs ys shelf h a r k g =
        let e = Deploy c from i b.sizes.root in
        let q = deploy_lists b.sizes b.state t c from i b.sizes.root a in
        record {
          sizes = openable b.sizes (length b.images) (length ys) r.number h.sizes;
          log = appended b.sizes b.events b.state t e b.started h.log a refl;
          idle = h.idle ∙ q.idle;
          kept_is = r.keys ∙ (ap (λ (ks : List ℕ). to_front from ks) h.kept_is ∙ q.kept);
          contexts = all_wait parked pin_of is_context kept layer_pin is_layer stocked b e t
              b.idle h a (λ d w. let x = subst (λ (cs : List ℕ). Has d cs) h.idle w in
              (x, subst (λ (cs : List ℕ). Has d cs) q.idle x)) h.contexts;
          layers = r.layers;
          images = r.images;
          stake = stake_falls takes b.sizes.root (length b.state.contexts) (length t.contexts)
              (stocked b.shelf) (stocked shelf) k (drawn_more b.sizes b.state e t a) g h.stake;
          notes = notes_same b.sizes.root (length b.images) (length ys) (stocked b.shelf)
              (stocked shelf) r.number (sym (ap (λ (x : Stocked). x.notes) g)) h.notes;
          free = λ s. free_falls takes b.sizes.root b.state.free t.free (stocked b.shelf)
              (stocked shelf) k (h.free s) q.free g;
        }

    -- after a refusal, with the rooms
    pub stands_touched : (l m : Logged) (j k : ℕ) (from : Option ℕ) (idle : List (ℕ × Waiting C))
        (es fs : List (ℕ × L)) (xs ys : List L) (old new : H) (stopped : Bool) →
        IsRoomier l m → Renews from false es fs xs ys →
        stocked new ≡ stocked old →
        Stands parked pin_of is_context kept layer_pin is_layer stocked j k
        (book_of l idle es xs old stopped) →
        Stands parked pin_of is_context kept layer_pin is_layer stocked j k
        (book_of m idle fs ys new stopped)
    stands_touched l m j k from idle es fs xs ys old new stopped r c e h =
        subst (λ (y : Logged). Stands parked pin_of is_context kept layer_pin is_layer stocked j k
        (book_of y idle fs ys new stopped)) (sym r) (
          h.0,
          h.1,
          record {
            held = touched_held (book_of l idle es xs old stopped) from fs ys new h.2.held c e;
            owes = h.2.owes;
          },
        )

    -- after a deploy
    pub stands_deployed : (takes : Bool) (l m : Logged) (j k c i : ℕ) (from : Option ℕ)
        (idle : List (ℕ × Waiting C)) (es fs : List (ℕ × L)) (xs ys : List L) (old new : H)
        (stopped : Bool) → IsNext l m (Deploy c from i l.sizes.root) →
        after l.sizes l.state (Deploy c from i l.sizes.root) ≡ Some m.state →
        Renews from true es fs xs ys → l.sizes.root ≡ if_taken takes 1 →
        Gave takes 1 first_stake (stocked old) (stocked new) →
        Stands parked pin_of is_context kept layer_pin is_layer stocked j k
        (book_of l idle es xs old stopped) →
        Stands parked pin_of is_context kept layer_pin is_layer stocked j k
        (book_of m idle fs ys new stopped)
    stands_deployed takes l m j k c i from idle es fs xs ys old new stopped n a r t g h =
        let q = deploy_lists l.sizes l.state m.state c from i l.sizes.root a in (
          h.0 ∙ ap (λ (y : Logged). y.sizes.idle) (sym n),
          h.1 ∙ ap (λ (y : Logged). y.sizes.layers) (sym n),
          record {
            held = subst (λ (y : Logged). Hold (book_of y idle fs ys new stopped)) (sym n)
                (deploys_held takes (book_of l idle es xs old stopped) c i from m.state fs ys new
                h.2.held a r t g);
            owes = ap (λ o. owes_nothing o) (sym q.owed) ∙ h.2.owes;
          },
        )
