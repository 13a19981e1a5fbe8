-- Images that are opened one after the other.
use Rattle.std.proofs.Common.{◌≡◌, ℕ, ◌+◌, ◌*◌, ◌<◌, ◌≤◌, Bool, true, false, List, [], ◌∷◌, ◌++◌}
use Rattle.std.proofs.Common.{length, Option, None, Some, refl, sym, ◌∙◌, ap, subst, arith}
use Rattle.std.proofs.Common.{IfSome, inl, inr, ◌⊎◌, zero, suc, length-append}
use Rattle.std.specs.List.{slice_get, sum_by}
use Rattle.std.specs.Prelude.{is_none}
use Rattle.std.proofs.lemmas.Option.{none-some, same_Some, slice_get_within, slice_get_past}
use Rattle.std.proofs.lemmas.List.Sums.{sum_by_push}
use Rattle.space_api.specs.Holding.{Stocked, Notes, Pin, IsOpened, if_taken, first_stake}
use Rattle.space_api.specs.Told.{KeptLayer}
use Rattle.book_model.specs.Kept.{IsImageOf, IsOpenable, first_shelf, HasNoted, IsNoting, IsWhole}
use Rattle.book_model.specs.Kept.{IsStaked}
use Rattle.book_core_tests.specs.Images.{IsFresh, HasOpened, AreImages, stakes}

-- an option is none where the test says so
pub none_of : {A : Type 0} (o : Option A) → is_none o ≡ true → o ≡ None
none_of None h = refl
none_of (Some x) h = absurd (cc)

-- what is said of what stands within a list is so of something
pub of_within : {A : Type 0} (P : A → Type 0) (xs : List A) (i : ℕ) → i < length xs →
    IfSome (slice_get xs i) P → (x : A) × P x
of_within P [] i b h = absurd (omega arith)
of_within P (x ∷ xs) zero b h = (x, h)
of_within P (x ∷ xs) (suc i) b h = of_within P xs i (omega arith) h

-- one image was opened
pub one_opened : (takes : Bool) (frames : ℕ) (old new : Stocked) → IsOpened takes frames old new →
    takes ≡ true → HasOpened 1 first_stake old new
one_opened true frames old new h e = record {
  stake = h.stake_falls;
  all_is = refl;
  whole = h.whole_stays;
  opened = sym (ap (λ (n : Notes). n.opened) h.noted);
  values = sym (ap (λ (n : Notes). n.values) h.noted);
  images = sym (ap (λ (n : Notes). n.images) h.noted);
  spans = sym (ap (λ (n : Notes). n.spans) h.noted);
}
one_opened false frames old new h e = absurd (cc)

-- none was opened yet
pub none_opened : (shelf : Stocked) → HasOpened 0 0 shelf shelf
none_opened shelf = record {
  stake = omega arith;
  all_is = refl;
  whole = refl;
  opened = omega arith;
  values = refl;
  images = refl;
  spans = refl;
}

-- one image more
pub more_opened : (n a b : ℕ) (first old new : Stocked) → HasOpened n a first old →
    HasOpened 1 b old new → HasOpened (n + 1) (a + b) first new
more_opened n a b first old new h k = record {
  stake = omega (arith, h.stake, k.stake);
  all_is = omega (arith, h.all_is, k.all_is);
  whole = k.whole ∙ h.whole;
  opened = omega (arith, h.opened, k.opened);
  values = k.values ∙ h.values;
  images = k.images ∙ h.images;
  spans = k.spans ∙ h.spans;
}

-- there is stake for one image more
pub still_stake : (count n a : ℕ) (first now : Stocked) → IsFresh count first →
    HasOpened n a first now → n < count → first_stake < now.stake
still_stake count n a first now f h b = omega (arith, f.enough, h.stake)

module _ {L : Type 0} (kept : L → KeptLayer) (pin : L → Option Pin) where
  -- no image
  pub no_images : AreImages [] kept pin 0
  no_images = record { count_is = refl; each = λ start image h. absurd (none-some image h) }

  pushed_at : (xs : List L) (n : ℕ) (x y : L) → length xs ≡ n → (start : ℕ) →
      slice_get (xs ++ x ∷ []) start ≡ Some y →
      (slice_get xs start ≡ Some y) ⊎ ((start ≡ n) × (x ≡ y))
  pushed_at [] n x y e zero h = inr (e, same_Some x y h)
  pushed_at [] n x y e (suc start) h = absurd (none-some y h)
  pushed_at (z ∷ xs) n x y e zero h = inl h
  pushed_at (z ∷ xs) n x y e (suc start) h =
      elim (pushed_at xs (length xs) x y refl start h) [
        | inl k ↦ inl k
        | inr k ↦ inr (omega (arith, k.0, e), k.1)
      ]

  -- one image more
  pub more_images : (images : List L) (image : L) (n : ℕ) → AreImages images kept pin n →
      IsImageOf n (kept image) (pin image) → AreImages (images ++ image ∷ []) kept pin (n + 1)
  more_images images image n h k = record {
    count_is = length_more images image n h.count_is;
    each = λ start y g. elim (pushed_at images n image y h.count_is start g) [
      | inl q ↦ h.each start y q
      | inr q ↦ subst (λ (z : L). IsImageOf start (kept z) (pin z)) q.1
          (subst (λ (m : ℕ). IsImageOf m (kept image) (pin image)) (sym q.0) k)
    ];
  } where
    length_more : (xs : List L) (x : L) (n : ℕ) → length xs ≡ n → length (xs ++ x ∷ []) ≡ n + 1
    length_more xs x n e = omega (arith, length-append xs (x ∷ []), e)

  -- the same of the list that an addition made
  pub images_with : (images more : List L) (image : L) (n : ℕ) → more ≡ images ++ image ∷ [] →
      AreImages images kept pin n → IsImageOf n (kept image) (pin image) →
      AreImages more kept pin (n + 1)
  images_with images more image n e h k =
      subst (λ (xs : List L). AreImages xs kept pin (n + 1)) (sym e)
      (more_images images image n h k)

taken : (takes : Bool) (n : ℕ) → takes ≡ true → if_taken takes n ≡ n
taken takes n e = ap (λ b. if_taken b n) e

-- what they hold, with one image more
pub opened_with : {L : Type 0} (stake : L → ℕ) (images more : List L) (image : L) (n : ℕ)
    (first old new : Stocked) (takes : Bool) → more ≡ images ++ image ∷ [] →
    stake image ≡ if_taken takes first_stake → takes ≡ true →
    HasOpened n (stakes images stake) first old → HasOpened 1 first_stake old new →
    HasOpened (n + 1) (stakes more stake) first new
opened_with stake images more image n first old new takes e i t h k =
    let one : stake image ≡ first_stake = i ∙ taken takes first_stake t in
    let all : stakes more stake ≡ stakes images stake + first_stake
    = ap (λ xs. stakes xs stake) e ∙ (sum_by_push stake images image
    ∙ ap (λ m. stakes images stake + m) one) in
    subst (λ (m : ℕ). HasOpened (n + 1) m first new) (sym all)
    (more_opened n (stakes images stake) first_stake first old new h k)

-- what a book asks of the shelf

pub is_noting : (root count length_is a : ℕ) (first now : Stocked) (takes : Bool) →
    root ≡ if_taken takes 1 → length_is ≡ count → (takes ≡ true → IsFresh count first) →
    (takes ≡ true → HasOpened count a first now) → IsNoting root length_is now
is_noting root count n a first now true r l f h = λ e. record {
  opened = omega (arith, (h refl).opened, (f refl).opened, l);
  no_value = (h refl).values ∙ (f refl).no_value;
  no_image = (h refl).images ∙ (f refl).no_image;
  no_span = (h refl).spans ∙ (f refl).no_span;
}
is_noting root count n a first now false r l f h = λ e. absurd (omega (arith, e, r))

pub is_staked : (root count a : ℕ) (first now : Stocked) (takes : Bool) → root ≡ if_taken takes 1 →
    (takes ≡ true → IsFresh count first) → (takes ≡ true → HasOpened count a first now) →
    IsStaked root 0 now
is_staked root count a first now true r f h =
    λ e. omega (arith, (f refl).enough, (h refl).stake)
is_staked root count a first now false r f h = λ e. absurd (omega (arith, e, r))

pub is_whole : {L : Type 0} (stake : L → ℕ) (images : List L) (root count : ℕ)
    (first now : Stocked) (takes : Bool) → root ≡ if_taken takes 1 →
    (takes ≡ true → IsFresh count first) →
    (takes ≡ true → HasOpened count (stakes images stake) first now) →
    IsWhole root stake images now
is_whole stake images root count first now true r f h = λ e. let k = h refl in let g = f refl in
    omega (arith, k.stake, k.all_is, k.whole, g.whole)
is_whole stake images root count first now false r f h = λ e. absurd (omega (arith, e, r))
