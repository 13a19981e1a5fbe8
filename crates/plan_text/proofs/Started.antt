-- The starts of images, one after another.
use Rattle.std.proofs.Common.{◌≡◌, ℕ, ◌+◌, ◌<◌, ◌≤◌, ◌^◌, List, [], ◌∷◌, ◌++◌, length}
use Rattle.std.proofs.Common.{drop, take, get_or}
use Rattle.std.proofs.Common.{refl, ap, sym, ◌∙◌, arith, append_assoc, append-nil, false}
use Rattle.std.proofs.Common.{Option, Some, None, IfSome, IsSomeAnd, Result, Ok, Err, length-append}
use Rattle.std.proofs.lemmas.Bool.Decides.{nat_tests}
use Rattle.std.proofs.lemmas.List.{drop_more, take_more, take_all}
use Rattle.std.proofs.lemmas.List.{take-append-drop}
use Rattle.elf64.specs.Elf.{elf, file_checks}
use Rattle.elf64.specs.declared.fault.ElfFault.TheVariants.{TooBig}
use Rattle.image_model.specs.Layout.{Layout}
use Rattle.image_model.specs.StartOf.{start_of}
use Rattle.image_model.specs.declared.image.Image.{Image as Program}
use Rattle.plan_text.specs.Images.{starts_of, with_start, file_image, image_within}
use Rattle.plan_text.specs.Images.{no_totals, are_too_big, StopsAtOne}
use Rattle.plan_tables.specs.declared.fault.PlanFault.{PlanFault}
use Rattle.plan_tables.specs.declared.fault.PlanFault.TheVariants as faults
use Rattle.plan_text.specs.declared.images.Totals.{Totals}

abbrev pub Contents : Type 0
Contents = Option (List ℕ → Option (List ℕ))

pub if_both : (o : Contents) (P Q R : (List ℕ → Option (List ℕ)) → Type 0) → IfSome o P → IfSome o Q
    → ((f : List ℕ → Option (List ℕ)) → P f → Q f → R f) → IfSome o R
if_both None P Q R p q both = tt
if_both (Some f) P Q R p q both = both f p q

-- ---- an image

elf_too_big : (bytes : List ℕ) → 2 ^ 24 < length bytes → elf bytes ≡ Err TooBig
unfolding file_checks
elf_too_big bytes large = grind (arith, nat_tests)

big_file : (totals : Totals) (file : Option (List ℕ))
    → IsSomeAnd file (λ bytes. 2 ^ 24 < length bytes)
    → file_image totals file ≡ Err (faults.Image TooBig)
big_file totals None large = absurd large
big_file totals (Some bytes) large = rw (elf_too_big bytes large) refl

pub too_big : (files : Contents) (name : List ℕ) (totals : Totals)
    → IfSome files (λ file_of. IsSomeAnd (file_of name) (λ bytes. 2 ^ 24 < length bytes))
    → IfSome files (λ file_of. file_image totals (file_of name) ≡ Err (faults.Image TooBig))
too_big None name totals large = tt
too_big (Some file_of) name totals large = big_file totals (file_of name) large

pub image_refused : (files : Contents) (name bytes : List ℕ) (totals : Totals) (fault : PlanFault)
    → IfSome files (λ file_of. file_of name ≡ Some bytes)
    → image_within totals bytes (elf bytes) ≡ Err fault
    → IfSome files (λ file_of. file_image totals (file_of name) ≡ Err fault)
image_refused None name bytes totals fault told is = tt
image_refused (Some file_of) name bytes totals fault told is = rw told is

-- ---- one after another

abbrev pub with_front : List Layout → Result (List Layout) PlanFault
    → Result (List Layout) PlanFault
with_front done (Err fault) = Err fault
with_front done (Ok rest) = Ok (done ++ rest)

with_front_none : (rest : Result (List Layout) PlanFault) → with_front [] rest ≡ rest
with_front_none (Err fault) = refl
with_front_none (Ok rest) = refl

front_more : (done : List Layout) (start : Layout) (rest : Result (List Layout) PlanFault)
    → with_front done (with_start start rest) ≡ with_front (done ++ start ∷ []) rest
front_more done start (Err fault) = refl
front_more done start (Ok rest) = ap Ok (sym (append_assoc done (start ∷ []) rest))

-- So many images are read: whatever names come behind theirs, the starts of all are those made so
-- far and then those of the rest.
pub record AreStarted (files : Contents) (stack : ℕ) (names : List (List ℕ)) (i : ℕ)
    (done : List Layout) (totals : Totals) : Type 0 where
  pub made : IfSome files (λ file_of. (rest : List (List ℕ))
      → with_front done (starts_of file_of stack rest totals)
      ≡ starts_of file_of stack (take i names ++ rest) no_totals)
  pub count : length done ≡ i
  pub small : are_too_big totals ≡ false

pub started_none : (files : Contents) (stack : ℕ) (names : List (List ℕ))
    → AreStarted files stack names 0 [] no_totals
started_none None stack names = record { made = tt; count = refl; small = refl }
started_none (Some file_of) stack names = record {
  made = λ rest. with_front_none (starts_of file_of stack rest no_totals);
  count = refl;
  small = refl;
}

take_then : (names : List (List ℕ)) (i : ℕ) (name : List ℕ) (rest : List (List ℕ))
    → i < length names
    → take (i + 1) names ++ rest ≡ take i names ++ (get_or names i name ∷ rest)
take_then names i name rest lt =
    ap (λ front. front ++ rest) (take_more names i name lt)
    ∙ append_assoc (take i names) (get_or names i name ∷ []) rest

one_started : (file_of : List ℕ → Option (List ℕ)) (stack : ℕ) (name : List ℕ)
    (rest : List (List ℕ)) (done : List Layout) (totals more : Totals) (image : Program)
    → file_image totals (file_of name) ≡ Ok (image, more)
    → with_front done (starts_of file_of stack (name ∷ rest) totals)
    ≡ with_front (done ++ start_of image stack ∷ []) (starts_of file_of stack rest more)
unfolding starts_of
one_started file_of stack name rest done totals more image is =
    rw is (front_more done (start_of image stack) _)

pub started_more : (files : Contents) (stack : ℕ) (names : List (List ℕ)) (i : ℕ) (name : List ℕ)
    (done : List Layout) (totals more : Totals) (start : Layout) → i < length names
    → AreStarted files stack names i done totals
    → IfSome files (λ file_of. (image : Program)
    × (file_image totals (file_of (get_or names i name)) ≡ Ok (image, more))
    × (start ≡ start_of image stack))
    → are_too_big more ≡ false
    → AreStarted files stack names (i + 1) (done ++ start ∷ []) more
started_more files stack names i name done totals more start lt started told small = record {
  made = if_both files _ _ _ started.made told (λ file_of so one rest.
      rw (one.2, take_then names i name rest lt)
      (sym (one_started file_of stack (get_or names i name) rest done totals more one.0 one.1)
      ∙ so (get_or names i name ∷ rest)));
  count = omega (arith, length-append done (start ∷ []), started.count);
  small = small;
}

-- ---- where it stops

-- a name with those before it and behind it
cut_at : (names : List (List ℕ)) (i : ℕ) (name : List ℕ) → i < length names
    → take i names ++ (get_or names i name ∷ drop (i + 1) names) ≡ names
cut_at names i name lt =
    ap (λ rest. take i names ++ rest) (sym (drop_more names i name lt)) ∙ take-append-drop i names

stop_at : (file_of : List ℕ → Option (List ℕ)) (stack : ℕ) (name : List ℕ)
    (rest : List (List ℕ)) (done : List Layout) (totals : Totals) (fault : PlanFault)
    → file_image totals (file_of name) ≡ Err fault
    → with_front done (starts_of file_of stack (name ∷ rest) totals) ≡ Err fault
unfolding starts_of
stop_at file_of stack name rest done totals fault is = rw is refl

pub started_stop : (files : Contents) (stack : ℕ) (names : List (List ℕ)) (i : ℕ) (name : List ℕ)
    (done : List Layout) (totals : Totals) (fault : PlanFault) → i < length names
    → AreStarted files stack names i done totals
    → IfSome files (λ file_of. file_image totals (file_of (get_or names i name)) ≡ Err fault)
    → IfSome files (λ file_of. starts_of file_of stack names no_totals ≡ Err fault)
started_stop files stack names i name done totals fault lt started told =
    if_both files _ _ _ started.made told (λ file_of so one.
    let rest = drop (i + 1) names in
    ap (λ all. starts_of file_of stack all no_totals) (sym (cut_at names i name lt))
    ∙ sym (so (get_or names i name ∷ rest))
    ∙ stop_at file_of stack (get_or names i name) rest done totals fault one)

-- all images before were right
pub started_before : (files : Contents) (stack : ℕ) (names : List (List ℕ)) (i : ℕ)
    (done : List Layout) (totals : Totals) → i < length names
    → AreStarted files stack names i done totals
    → IfSome files (λ file_of. StopsAtOne file_of stack names)
unfolding starts_of
started_before None stack names i done totals lt started = tt
started_before (Some file_of) stack names i done totals lt started =
    let said = ap (λ all. starts_of file_of stack all no_totals) (sym (append-nil (take i names)))
    ∙ sym (started.made []) in
    (i, (lt, rw said refl))

pub started_whole : (files : Contents) (stack : ℕ) (names : List (List ℕ)) (i : ℕ)
    (done : List Layout) (totals : Totals) → length names ≤ i
    → AreStarted files stack names i done totals
    → IfSome files (λ file_of. starts_of file_of stack names no_totals ≡ Ok done)
unfolding starts_of
started_whole files stack names i done totals le started =
    if_both files _ _ _ started.made started.made (λ file_of so again.
    ap (λ all. starts_of file_of stack all no_totals)
    (sym (append-nil (take i names) ∙ take_all i names le))
    ∙ sym (so []) ∙ ap Ok (append-nil done))
