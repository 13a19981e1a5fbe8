-- Copies of pages mean what the pages do.
use Rattle.std.proofs.Common.{◌≡◌, ℕ, zero, suc, ◌+◌, ◌≤◌, ◌%◌, ◌^◌, ◌<◌, Bool, true, false, not}
use Rattle.std.proofs.Common.{◌==◌, if◌then◌else◌, List, [], ◌∷◌, ◌++◌, length, get_or}
use Rattle.std.proofs.Common.{None, refl, sym, ap, ◌∙◌, inl, inr, arith, take, subst, cond}
use Rattle.std.proofs.Common.{append-nil}
use Rattle.std.specs.List.{filter, list_all}
use Rattle.std.proofs.lemmas.Bool.{cases_eq, ne_eqb, eq-eqb}
use Rattle.std.proofs.lemmas.Bool.Decides.{nat_tests}
use Rattle.std.proofs.lemmas.List.Elements.{filter_more}
use Rattle.image_model.specs.Pages.{page_of}
use Rattle.image_model.specs.Permission.{permission_in}
use Rattle.image_model.specs.declared.region.Region.{Region}
use Rattle.space_api.specs.Stores.{frozen}
use Rattle.plain_space.specs.PageCopies.{IsCopyOf, AreCopiesOf, holds_bytes}
use Rattle.plain_space.specs.Pages.{ArePagesOf, IsPageOf, page_with, byte_in_page}
use Rattle.plain_space.specs.Pages.{is_page_written, flat_of_pages, permission_of}
use Rattle.plain_space.specs.declared.page.Page.{Page}
use Rattle.plain_space.proofs.Lists.{absent_of, numbers_above}

pub copies_of_more : (ps qs : List Page) (p q : Page) → AreCopiesOf ps qs → IsCopyOf p q
    → AreCopiesOf (ps ++ p ∷ []) (qs ++ q ∷ [])
copies_of_more [] [] p q h copy = (copy, tt)
copies_of_more [] (r ∷ rs) p q h copy = absurd h
copies_of_more (o ∷ os) [] p q h copy = absurd h
copies_of_more (o ∷ os) (r ∷ rs) p q h copy = (h.0, copies_of_more os rs p q h.1 copy)

-- a page more that holds bytes
pub held_more : (pages : List Page) (i : ℕ) (item : Page) (list : List Page) (copy : Page)
    → i < length pages → item ≡ get_or pages i item → holds_bytes item ≡ true
    → AreCopiesOf (filter holds_bytes (take i pages)) list → IsCopyOf item copy
    → AreCopiesOf (filter holds_bytes (take (i + 1) pages)) (list ++ copy ∷ [])
held_more pages i item list copy lt is holds before h =
    let front : filter holds_bytes (take (i + 1) pages)
    ≡ filter holds_bytes (take i pages) ++ item ∷ [] =
    filter_more holds_bytes pages i item lt
    ∙ ap (λ p. filter holds_bytes (take i pages) ++ cond (holds_bytes p) (p ∷ []) []) (sym is)
    ∙ ap (λ b. filter holds_bytes (take i pages) ++ cond b (item ∷ []) []) holds in
    subst (λ ps. AreCopiesOf ps (list ++ copy ∷ [])) (sym front)
    (copies_of_more (filter holds_bytes (take i pages)) list item copy before h)

-- a page of zeros more
pub zeros_more : (pages : List Page) (i : ℕ) (item : Page) (list : List Page)
    → i < length pages → item ≡ get_or pages i item → holds_bytes item ≡ false
    → AreCopiesOf (filter holds_bytes (take i pages)) list
    → AreCopiesOf (filter holds_bytes (take (i + 1) pages)) list
zeros_more pages i item list lt is zeros before =
    let front : filter holds_bytes (take (i + 1) pages) ≡ filter holds_bytes (take i pages) =
    filter_more holds_bytes pages i item lt
    ∙ ap (λ p. filter holds_bytes (take i pages) ++ cond (holds_bytes p) (p ∷ []) []) (sym is)
    ∙ ap (λ b. filter holds_bytes (take i pages) ++ cond b (item ∷ []) []) zeros
    ∙ append-nil (filter holds_bytes (take i pages)) in
    subst (λ ps. AreCopiesOf ps list) (sym front) before

pub copies_of_sound : (regions : List Region) (lowest : ℕ) (ps qs : List Page)
    → ArePagesOf regions lowest ps → AreCopiesOf ps qs → ArePagesOf regions lowest qs
copies_of_sound regions lowest [] [] sound h = tt
copies_of_sound regions lowest [] (q ∷ qs) sound h = absurd h
copies_of_sound regions lowest (p ∷ ps) [] sound h = absurd h
copies_of_sound regions lowest (p ∷ ps) (q ∷ qs) sound h =
    let above = sound.0.above in
    let number = h.0.number in (
      record {
        above = omega arith;
        whole = ap length h.0.bytes ∙ sound.0.whole;
        allowed = ap (permission_in regions) number ∙ sound.0.allowed
            ∙ ap permission_of (sym h.0.flags);
      },
      rw number (copies_of_sound regions (p.number + 1) ps qs sound.1 h.1),
    )

copied_of_byte : (ps qs : List Page) (a : ℕ) → AreCopiesOf ps qs
    → byte_in_page (page_with qs (page_of a)) a ≡ byte_in_page (page_with ps (page_of a)) a
copied_of_byte [] [] a h = refl
copied_of_byte [] (q ∷ qs) a h = absurd h
copied_of_byte (p ∷ ps) [] a h = absurd h
copied_of_byte (p ∷ ps) (q ∷ qs) a h =
    elim (cases_eq p.number (page_of a)) [
      | inl same ↦
          rw (
            eq-eqb p.number (page_of a) same,
            eq-eqb q.number (page_of a) (h.0.number ∙ same),
            h.0.bytes,
          ) refl
      | inr other ↦
          rw (
            ne_eqb p.number (page_of a) other,
            ne_eqb q.number (page_of a) (λ e. other (sym h.0.number ∙ e)),
          )
          (copied_of_byte ps qs a h.1)
    ]

copied_of_mark : (ps qs : List Page) (n : ℕ) → AreCopiesOf ps qs
    → is_page_written (page_with qs n) ≡ false
copied_of_mark [] [] n h = refl
copied_of_mark [] (q ∷ qs) n h = absurd h
copied_of_mark (p ∷ ps) [] n h = absurd h
copied_of_mark (p ∷ ps) (q ∷ qs) n h =
    elim (cases_eq q.number n) [
      | inl same ↦ (rw (eq-eqb q.number n same) h.0.unmarked)
      | inr other ↦ rw (ne_eqb q.number n other) (copied_of_mark ps qs n h.1)
    ]

pub copies_of_flat : (regions : List Region) (ps qs : List Page) → AreCopiesOf ps qs
    → flat_of_pages regions qs ≡ frozen (flat_of_pages regions ps)
copies_of_flat regions ps qs h = λ t. record {
  memory = λ a. copied_of_byte ps qs a h t;
  permissions = permission_in regions;
  written = λ page. copied_of_mark ps qs page h t;
}

-- ---- without pages of zeros

lower : (regions : List Region) (lowest least : ℕ) (ps : List Page) → least ≤ lowest
    → ArePagesOf regions lowest ps → ArePagesOf regions least ps
lower regions lowest least [] le h = tt
lower regions lowest least (p ∷ ps) le h =
    let above = h.0.above in
    (record { above = omega arith; whole = h.0.whole; allowed = h.0.allowed }, h.1)

sound_if : (regions : List Region) (lowest : ℕ) (b : Bool) (p : Page) (ps : List Page)
    → IsPageOf regions lowest p → ArePagesOf regions (p.number + 1) ps
    → ArePagesOf regions lowest (if b then p ∷ ps else ps)
sound_if regions lowest true p ps first rest = (first, rest)
sound_if regions lowest false p ps first rest =
    let above = first.above in
    lower regions (p.number + 1) lowest ps (omega arith) rest

pub filter_sound : (regions : List Region) (lowest : ℕ) (test : Page → Bool) (ps : List Page)
    → ArePagesOf regions lowest ps → ArePagesOf regions lowest (filter test ps)
filter_sound regions lowest test [] h = tt
filter_sound regions lowest test (p ∷ ps) h =
    sound_if regions lowest (test p) p (filter test ps) h.0
    (filter_sound regions (p.number + 1) test ps h.1)

zero_byte : (bytes : List ℕ) (k : ℕ) → not (list_all (λ byte. byte == 0) bytes) ≡ false
    → get_or bytes k 0 ≡ 0
zero_byte [] k e = refl
zero_byte (b ∷ bs) zero e = grind (arith, nat_tests)
zero_byte (b ∷ bs) (suc k) e = zero_byte bs k (grind (arith, nat_tests))

byte_if : (b : Bool) (p : Page) (ps qs : List Page) (a : ℕ)
    → (b ≡ false → (k : ℕ) → get_or p.bytes.items k 0 ≡ 0)
    → (p.number ≡ page_of a → page_with qs (page_of a) ≡ None)
    → byte_in_page (page_with qs (page_of a)) a ≡ byte_in_page (page_with ps (page_of a)) a
    → byte_in_page (page_with (if b then p ∷ qs else qs) (page_of a)) a
    ≡ byte_in_page (page_with (p ∷ ps) (page_of a)) a
byte_if true p ps qs a zeros none later =
    elim (cases_eq p.number (page_of a)) [
      | inl same ↦ rw (eq-eqb p.number (page_of a) same) refl
      | inr other ↦ rw (ne_eqb p.number (page_of a) other) later
    ]
byte_if false p ps qs a zeros none later =
    elim (cases_eq p.number (page_of a)) [
      | inl same ↦
          rw (eq-eqb p.number (page_of a) same, none same) (sym (zeros refl (a % 2 ^ 12)))
      | inr other ↦ rw (ne_eqb p.number (page_of a) other) later
    ]

absent_above : (regions : List Region) (lowest : ℕ) (ps : List Page) (n : ℕ)
    → ArePagesOf regions lowest ps → n < lowest → page_with ps n ≡ None
absent_above regions lowest ps n h lt =
    absent_of ps n (λ k d within e.
    let above = numbers_above regions lowest ps k d h within in omega arith)

filtered_byte : (regions : List Region) (lowest : ℕ) (ps : List Page) (a : ℕ)
    → ArePagesOf regions lowest ps
    → byte_in_page (page_with (filter holds_bytes ps) (page_of a)) a
    ≡ byte_in_page (page_with ps (page_of a)) a
filtered_byte regions lowest [] a h = refl
filtered_byte regions lowest (p ∷ ps) a h =
    let rest = filter_sound regions (p.number + 1) holds_bytes ps h.1 in
    byte_if (holds_bytes p) p ps (filter holds_bytes ps) a
    (λ e k. zero_byte p.bytes.items k e)
    (λ same. absent_above regions (p.number + 1) (filter holds_bytes ps) (page_of a) rest
    (omega (arith, same)))
    (filtered_byte regions (p.number + 1) ps a h.1)

pub filter_flat : (regions : List Region) (ps : List Page) → ArePagesOf regions 0 ps
    → frozen (flat_of_pages regions (filter holds_bytes ps)) ≡ frozen (flat_of_pages regions ps)
filter_flat regions ps h = λ t. record {
  memory = λ a. filtered_byte regions 0 ps a h t;
  permissions = permission_in regions;
  written = λ page. false;
}
