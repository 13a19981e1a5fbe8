-- What a deploy stands on, and the kept layers and images once it was touched.
use Rattle.std.proofs.Common.{◌≡◌, ℕ, ◌<◌, ◌==◌, zero, suc, Bool, true, false, cond}
use Rattle.std.proofs.Common.{List, [], ◌∷◌, length, Option, None, Some, refl, sym, ◌∙◌, ap, subst}
use Rattle.std.proofs.Common.{nat_eq, set, get_or, inl, inr, IfSome}
use Rattle.std.specs.Prelude.{slice_set}
use Rattle.std.specs.List.{slice_get, AllByRecursion}
use Rattle.std.specs.Map.{keys_of, lookup}
use Rattle.std.proofs.lemmas.List.{length-set}
use Rattle.std.proofs.lemmas.Option.{same_Some, slice_get-get_or}
use Rattle.cache_lists.specs.Recent.{Recent, with_entries}
use Rattle.journal_model.specs.State.{highest_kept}
use Rattle.journal_model.specs.Legal.{to_front}
use Rattle.journal_model.proofs.Apart.{Has}
use Rattle.journal_model.proofs.Recents.{highest_has, same}
use Rattle.journal_laws.proofs.Listing.{remove_keys}
use Rattle.journal_laws.proofs.Ties.{self}
use Rattle.slot_lists.specs.Lists.{with_layer}
use Rattle.space_api.specs.Holding.{Pin, Holding}
use Rattle.space_api.specs.Told.{KeptLayer}
use Rattle.book_model.specs.Below.{below_in, layers_with, image_with}
use Rattle.book_model.specs.Kept.{IsLayerOf, IsImageOf}
use Rattle.book_model.proofs.Entries.{all_lookup, all_removed}

-- ---- lists

-- what an indexed fact says of each item it says after one was set
all_set : {A : Type 0} (P : ℕ → A → Type 0) (xs : List A) (n : ℕ) (y : A) →
    ((m : ℕ) (x : A) → slice_get xs m ≡ Some x → P m x) → P n y →
    (m : ℕ) (x : A) → slice_get (set xs n y) m ≡ Some x → P m x
all_set P [] n y f k m x h = f m x h
all_set P (z ∷ zs) zero y f k zero x h = subst (P zero) (same_Some y x h) k
all_set P (z ∷ zs) zero y f k (suc m) x h = f (suc m) x h
all_set P (z ∷ zs) (suc n) y f k zero x h = f zero x h
all_set P (z ∷ zs) (suc n) y f k (suc m) x h =
    all_set (λ i. P (suc i)) zs n y (λ i w. f (suc i) w) k m x h

-- what stands there is set again
pub set_same : {A : Type 0} (xs : List A) (n : ℕ) (x : A) → slice_get xs n ≡ Some x →
    set xs n x ≡ xs
set_same [] n x h = refl
set_same (y ∷ ys) zero x h = ap (λ z. z ∷ ys) (sym (same_Some y x h))
set_same (y ∷ ys) (suc n) x h = ap (λ zs. y ∷ zs) (set_same ys n x h)

-- an item by its number, from what an index answers
pub item_at : {A : Type 0} (xs : List A) (n : ℕ) (x : A) → n < length xs → x ≡ get_or xs n x →
    slice_get xs n ≡ Some x
item_at xs n x l h = slice_get-get_or xs n x l ∙ ap Some (sym h)

-- what is among the keys is looked up
has_value : {V : Type 0} (k : ℕ) (es : List (ℕ × V)) → Has k (keys_of es) →
    (v : V) × (lookup (nat_eq k) es ≡ Some v)
has_value k [] h = absurd h
has_value k (e ∷ es) h = (elim (nat_eq k e.0) as (λ b. nat_eq k e.0 ≡ b →
    (v : _) × (lookup (nat_eq k) (e ∷ es) ≡ Some v)) [
      | true ↦ λ t. (e.1, rw t refl)
      | false ↦ λ t. (let r = has_value k es (elim h [
        | inl q ↦ absurd (let z : nat_eq k e.0 ≡ true = rw q (self k) in cc)
        | inr q ↦ q
      ]) in (r.0, rw t r.1))
    ]) refl

with_keys_at : {L : Type 0} (k : ℕ) (layer : L) (e : ℕ × L) (es rest : List (ℕ × L)) (b : Bool) →
    (e.0 == k) ≡ b → keys_of rest ≡ keys_of es →
    keys_of (cond b ((k, layer) ∷ es) (e ∷ rest)) ≡ keys_of (e ∷ es)
with_keys_at k layer e es rest true t h = ap (λ n. n ∷ keys_of es) (sym (same e.0 k t))
with_keys_at k layer e es rest false t h = ap (λ ns. e.0 ∷ ns) h

-- the keys stay where another value stands under one
with_keys : {L : Type 0} (k : ℕ) (layer : L) (es : List (ℕ × L)) →
    keys_of (with_layer k layer es) ≡ keys_of es
with_keys k layer [] = refl
with_keys k layer (e ∷ es) =
    with_keys_at k layer e es (with_layer k layer es) (e.0 == k) refl (with_keys k layer es)

all_with_at : {L : Type 0} (P : ℕ × L → Type 0) (k : ℕ) (layer : L) (e : ℕ × L)
    (es rest : List (ℕ × L)) (b : Bool) → P (k, layer) → P e → AllByRecursion P es →
    AllByRecursion P rest → AllByRecursion P (cond b ((k, layer) ∷ es) (e ∷ rest))
all_with_at P k layer e es rest true n h r w = (n, r)
all_with_at P k layer e es rest false n h r w = (h, w)

all_with : {L : Type 0} (P : ℕ × L → Type 0) (k : ℕ) (layer : L) (es : List (ℕ × L)) →
    P (k, layer) → AllByRecursion P es → AllByRecursion P (with_layer k layer es)
all_with P k layer [] n h = tt
all_with P k layer (e ∷ es) n h = all_with_at P k layer e es (with_layer k layer es) (e.0 == k)
    n h.0 h.1 (all_with P k layer es n h.1)

-- the numbers of the kept layers afterwards
abbrev pub keys_with : (from : Option ℕ) → (deployed : Bool) → List ℕ → List ℕ
keys_with from true keys = to_front from keys
keys_with from false keys = keys

pub with_below_keys : {L : Type 0} (from : Option ℕ) (deployed : Bool) (layer : L)
    (es : List (ℕ × L)) →
    keys_of (layers_with from deployed layer es) ≡ keys_with from deployed (keys_of es)
with_below_keys None true layer es = refl
with_below_keys None false layer es = refl
with_below_keys (Some k) true layer es = ap (λ ns. k ∷ ns) (remove_keys k es)
with_below_keys (Some k) false layer es = with_keys k layer es

-- ---- what a deploy stands on

-- the highest kept layer is there, and so is the image
pub below_there : {L : Type 0} (from : Option ℕ) (es : List (ℕ × L)) (image : L)
    (stack : List ℕ) → from ≡ highest_kept (keys_of es) stack →
    (below : L) × (below_in from es image ≡ Some below)
below_there None es image stack h = (image, refl)
below_there (Some k) es image stack h =
    has_value k es (highest_has (keys_of es) stack k (sym h))

module _ {L : Type 0} (kept : L → KeptLayer) (layer_pin : L → Option Pin) (is_layer : L → Type 0)
  where
    abbrev pub IsKeptAt : ℕ × L → Type 0
    IsKeptAt e = is_layer e.1 × IsLayerOf e.0 (kept e.1) (layer_pin e.1)

    abbrev pub IsImageAt : ℕ → L → Type 0
    IsImageAt start image = is_layer image × IsImageOf start (kept image) (layer_pin image)

    -- a layer, or an image, stands in that place
    abbrev pub StandsAt : (from : Option ℕ) → (start : ℕ) → L → Type 0
    StandsAt None start layer = IsImageAt start layer
    StandsAt (Some k) start layer = IsKeptAt (k, layer)

    pub below_stands : (from : Option ℕ) (start : ℕ) (es : List (ℕ × L)) (image below : L) →
        AllByRecursion IsKeptAt es → IsImageAt start image →
        below_in from es image ≡ Some below → StandsAt from start below
    below_stands None start es image below h i e =
        subst (IsImageAt start) (same_Some image below e) i
    below_stands (Some k) start es image below h i e = all_lookup IsKeptAt k es below h e

    pub stands_loose : (from : Option ℕ) (start : ℕ) (layer : L) → StandsAt from start layer →
        layer_pin layer ≡ None
    stands_loose None start layer h = h.1.loose
    stands_loose (Some k) start layer h = h.1.loose

    module _ (tells_same : L → L → Type 0) (holding : L → Holding) where
      -- What was touched: it tells and holds what it did, and stands in its place.
      pub record IsChanged (from : Option ℕ) (deployed : Bool) (old new : Recent ℕ L)
          (image now : L) : Type 0 where
        pub below : L
        pub touched : L
        pub below_is : below_in from old.entries image ≡ Some below
        pub same : tells_same below touched
        pub holds : holding touched ≡ holding below
        pub kept_is : new ≡ with_entries (layers_with from deployed touched old.entries) old
        pub image_is : now ≡ image_with from touched image

      pub changed_of : (from : Option ℕ) (deployed : Bool) (old new : Recent ℕ L)
          (image now below : L) → below_in from old.entries image ≡ Some below →
          IfSome (below_in from old.entries image) (λ (x : L). (y : L) × tells_same x y
          × (holding y ≡ holding x)
          × (new ≡ with_entries (layers_with from deployed y old.entries) old)
          × (now ≡ image_with from y image)) → IsChanged from deployed old new image now
      changed_of from deployed old new image now below e h =
          let p = subst (λ (o : Option L). IfSome o (λ (x : L). (y : L) × tells_same x y
          × (holding y ≡ holding x)
          × (new ≡ with_entries (layers_with from deployed y old.entries) old)
          × (now ≡ image_with from y image))) e h in record {
            below = below;
            touched = p.0;
            below_is = e;
            same = p.1;
            holds = p.2;
            kept_is = p.3;
            image_is = p.4;
          }

      module _ (stays : (a b : L) → tells_same a b → is_layer a → is_layer b)
          (tells : (a b : L) → tells_same a b → kept a ≡ kept b)
          (pins : (a b : L) → holding a ≡ holding b → layer_pin a ≡ layer_pin b) where
        touched_stands : (from : Option ℕ) (start : ℕ) (a b : L) → tells_same a b →
            holding b ≡ holding a → StandsAt from start a → StandsAt from start b
        touched_stands None start a b s e h = (
          stays a b s h.0,
          subst (λ (t : KeptLayer). IsImageOf start t (layer_pin b)) (tells a b s)
              (subst (λ (p : Option Pin). IsImageOf start (kept a) p) (sym (pins b a e)) h.1),
        )
        touched_stands (Some k) start a b s e h = (
          stays a b s h.0,
          subst (λ (t : KeptLayer). IsLayerOf k t (layer_pin b)) (tells a b s)
              (subst (λ (p : Option Pin). IsLayerOf k (kept a) p) (sym (pins b a e)) h.1),
        )

        image_stands : (from : Option ℕ) (start : ℕ) (layer image : L) → StandsAt from start layer →
            IsImageAt start image → IsImageAt start (image_with from layer image)
        image_stands None start layer image h i = h
        image_stands (Some k) start layer image h i = i

        kept_stand : (from : Option ℕ) (deployed : Bool) (start : ℕ) (layer : L)
            (es : List (ℕ × L)) → StandsAt from start layer → AllByRecursion IsKeptAt es →
            AllByRecursion IsKeptAt (layers_with from deployed layer es)
        kept_stand None deployed start layer es h k = k
        kept_stand (Some n) true start layer es h k = (h, all_removed IsKeptAt n es k)
        kept_stand (Some n) false start layer es h k = all_with IsKeptAt n layer es h k

        -- What holds of the kept layers and the images then.
        pub record AreRenewed (from : Option ℕ) (deployed : Bool) (es fs : List (ℕ × L))
            (xs ys : List L) : Type 0 where
          pub keys : keys_of fs ≡ keys_with from deployed (keys_of es)
          pub layers : AllByRecursion IsKeptAt fs
          pub images : (start : ℕ) (image : L) → slice_get ys start ≡ Some image →
              IsImageAt start image
          pub number : length ys ≡ length xs

        pub renewed : (from : Option ℕ) (deployed : Bool) (old new : Recent ℕ L) (image now : L)
            (start : ℕ) (xs : List L) → IsChanged from deployed old new image now →
            AllByRecursion IsKeptAt old.entries → slice_get xs start ≡ Some image →
            ((m : ℕ) (x : L) → slice_get xs m ≡ Some x → IsImageAt m x) →
            AreRenewed from deployed old.entries new.entries xs (slice_set xs start now)
        renewed from deployed old new image now start xs c h e f =
            let is = ap (λ (l : Recent ℕ L). l.entries) c.kept_is in
            let i = f start image e in
            let stands = touched_stands from start c.below c.touched c.same c.holds
            (below_stands from start old.entries image c.below h i c.below_is) in
            record {
              keys = ap (λ (es : List (ℕ × L)). keys_of es) is
                  ∙ with_below_keys from deployed c.touched old.entries;
              layers = subst (AllByRecursion IsKeptAt) (sym is)
                  (kept_stand from deployed start c.touched old.entries stands h);
              images = all_set IsImageAt xs start now f (subst (IsImageAt start) (sym c.image_is)
                  (image_stands from start c.touched image stands i));
              number = length-set xs start now;
            }
