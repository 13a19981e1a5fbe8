-- What a space means, by its pages.
use Rattle.std.proofs.Common.{◌≡◌, ℕ, zero, suc, ◌+◌, ◌-◌, ◌%◌, ◌^◌, ◌<◌, ◌≤◌}
use Rattle.std.proofs.Common.{Bool, true, false, ◌&&◌, ◌||◌, ltb, if◌then◌else◌, ◌==◌}
use Rattle.std.proofs.Common.{List, [], ◌∷◌, ◌++◌, length, get_or, set, take, drop}
use Rattle.std.proofs.Common.{Option, None, Some, inl, inr, refl, sym, ap, ◌∙◌, arith, add-one}
use Rattle.std.proofs.Common.{is_some, length-append, append-nil, Ok, Err}
use Rattle.std.specs.Bool.{MatchBool}
use Rattle.space_api.specs.Outcomes.{EndsRead}
use Rattle.space_api.specs.declared.access.Access.TheVariants.{Fault}
use Rattle.std.proofs.lemmas.List.{take_all, drop_all, length-take-le, length-drop}
use Rattle.std.proofs.lemmas.Grind.{same_number_lists}
use Rattle.std.proofs.Math.Seq.{take-add}
use Rattle.std.specs.List.{insert}
use Rattle.std.proofs.lemmas.Bool.{cases_eq, ne_eqb, eq-eqb}
use Rattle.std.proofs.lemmas.List.{get_or_append_left, get_or_push}
use Rattle.image_model.specs.Pages.{page_of}
use Rattle.image_model.specs.Permission.{Permission, permission_in}
use Rattle.image_model.specs.declared.region.Region.{Region}
use Rattle.machine_model.specs.Machine.{address, bytes_at, distance, with_bytes, with_written}
use Rattle.machine_model.specs.Machine.{least_failing, range_passes, lesser, little_endian}
use Rattle.machine_model.proofs.Ranges.{length-bytes_at, bytes_at-more}
use Rattle.machine_model.proofs.Ranges.{passes_from_none, passes_from_some}
use Rattle.space_api.specs.Flat.{Flat, after_store}
use Rattle.plain_space.specs.Outcomes.{EndsCopy}
use Rattle.plain_space.specs.Pages.{ArePagesOf, page_with, IsPlace, IsSplit, Overlays}
use Rattle.plain_space.specs.Pages.{permission_of, byte_in_page, is_page_written, flat_of_pages}
use Rattle.plain_space.specs.declared.page.Page.{Page}
use Rattle.plain_space.proofs.Lists.{page_with-set, page_with-insert, pages-set, pages-insert}
use Rattle.plain_space.proofs.Lists.{page_is_whole, page_is_allowed, found_at}
use Rattle.plain_space.proofs.Numbers.{AreBytes, four_bytes}
use Rattle.plain_space.proofs.Pieces.{page_of-on_page, offset-on_page, with_written-piece}
use Rattle.plain_space.proofs.Pieces.{with_written-none, with_written-append, least_failing-piece}
use Rattle.plain_space.proofs.Pieces.{address_below, least_failing-append, bytes_at-append}
use Rattle.plain_space.proofs.Pieces.{least_failing-none}
use Rattle.plain_space.proofs.Stores.{in_piece, piece_index, off_piece}
use Rattle.plain_space.proofs.Stores.{with_bytes-none, with_bytes-append}

-- ---- what is read

pub get_or-bytes_at : (memory : ℕ → ℕ) (at n i : ℕ) → i < n
    → get_or (bytes_at memory at n) i 0 ≡ memory (address at i)
get_or-bytes_at memory at zero i lt = absurd (omega arith)
get_or-bytes_at memory at (suc n) i lt =
    let bytes = bytes_at memory at n in
    let last = memory (address at n) in
    let more : bytes_at memory at (suc n) ≡ bytes ++ last ∷ [] =
    rw add-one at (bytes_at-more memory at n) in
    rw more (elim (cases_eq i n) [
      | inl same ↦
          rw same (get_or_push bytes last 0 n (length-bytes_at memory at n))
      | inr other ↦
          get_or_append_left bytes (last ∷ []) 0 i
          (rw (length-bytes_at memory at n) (omega arith))
          ∙ get_or-bytes_at memory at n i (omega arith)
    ])

pub page_bytes : (regions : List Region) (pages : List Page) (at n : ℕ) (p : Page) → at < 2 ^ 64
    → at % 2 ^ 12 + n ≤ 2 ^ 12 → page_with pages (page_of at) ≡ Some p
    → AreBytes (flat_of_pages regions pages).memory at n p.bytes.items (at % 2 ^ 12)
page_bytes regions pages at n p h within found i lt =
    let there = page_of-on_page at i h (omega arith) in
    rw (there, found) (ap (λ k. get_or p.bytes.items k 0) (offset-on_page at i h (omega arith)))

pub no_page_bytes : (regions : List Region) (pages : List Page) (at n i : ℕ) → at < 2 ^ 64
    → at % 2 ^ 12 + n ≤ 2 ^ 12 → page_with pages (page_of at) ≡ None → i < n
    → (flat_of_pages regions pages).memory (address at i) ≡ 0
no_page_bytes regions pages at n i h within none lt =
    let there = page_of-on_page at i h (omega arith) in
    rw (there, none) refl

-- ---- a piece that is written

chosen : (b : Bool) (piece : List ℕ) (i j old : ℕ) → (b ≡ true → i ≡ j)
    → (if b then get_or piece i 0 else old) ≡ (if b then get_or piece j 0 else old)
chosen true piece i j old h = ap (λ k. get_or piece k 0) (h refl)
chosen false piece i j old h = refl

-- the byte at an address after a piece was written on its page
written_byte : (at a : ℕ) (piece old new : List ℕ) → at < 2 ^ 64
    → at % 2 ^ 12 + length piece ≤ 2 ^ 12 → page_of a ≡ page_of at
    → Overlays old new (at % 2 ^ 12) piece
    → get_or new (a % 2 ^ 12) 0
    ≡ (if ltb a (2 ^ 64) && ltb (distance at a) (length piece)
    then get_or piece (distance at a) 0 else get_or old (a % 2 ^ 12) 0)
written_byte at a piece old new h within same over =
    let test = in_piece at (length piece) a h within same in
    over.bytes (a % 2 ^ 12)
    ∙ (rw test (chosen (ltb a (2 ^ 64) && ltb (distance at a) (length piece)) piece
    (a % 2 ^ 12 - at % 2 ^ 12) (distance at a) (get_or old (a % 2 ^ 12) 0)
    (piece_index at (length piece) a h within same)))

or_false : (b : Bool) → (b || false) ≡ b
or_false true = refl
or_false false = refl

or_true : (b : Bool) → (b || true) ≡ true
or_true true = refl
or_true false = refl

module _ (regions : List Region) (pages : List Page) (at i : ℕ) (q d : Page) (piece : List ℕ)
    (sound : ArePagesOf regions 0 pages) (word : at < 2 ^ 64)
    (within : at % 2 ^ 12 + length piece ≤ 2 ^ 12) (some : 0 < length piece)
    (place : IsPlace pages (page_of at) i) (number : q.number ≡ page_of at)
    (marked : q.written ≡ true)
    (over : Overlays (get_or pages i d).bytes.items q.bytes.items (at % 2 ^ 12) piece) where
  after : (m : ℕ) → page_with (set pages i q) m
      ≡ (if q.number == m then Some q else page_with pages m)
  after m =
      page_with-set regions 0 pages i q d m sound place.within (number ∙ sym (place.number d))

  stored_byte : (a : ℕ) → byte_in_page (page_with (set pages i q) (page_of a)) a
      ≡ with_bytes at piece (flat_of_pages regions pages).memory a
  stored_byte a =
      elim (cases_eq (page_of at) (page_of a)) [
        | inl same ↦
            let found : page_with pages (page_of a) ≡ Some (get_or pages i d) =
            ap (page_with pages) (sym same) ∙ place.found d in
            rw (after (page_of a), eq-eqb q.number (page_of a) (number ∙ same), found)
            (written_byte at a piece _ q.bytes.items word within (sym same) over)
        | inr other ↦
            rw (
              after (page_of a),
              ne_eqb q.number (page_of a) (λ e. other (sym number ∙ e)),
              off_piece at (length piece) a word within other,
            ) refl
      ]

  stored_mark : (page : ℕ) → is_page_written (page_with (set pages i q) page)
      ≡ with_written at (length piece) (flat_of_pages regions pages).written page
  stored_mark page =
      let old = (flat_of_pages regions pages).written in
      let piece_mark = with_written-piece at (length piece) old page word some within in
      elim (cases_eq page (page_of at)) [
        | inl same ↦
            rw (
              piece_mark,
              eq-eqb page (page_of at) same,
              or_true (old page),
              after page,
              eq-eqb q.number page (number ∙ sym same),
            ) marked
        | inr other ↦
            rw (
              piece_mark,
              ne_eqb page (page_of at) other,
              or_false (old page),
              after page,
              ne_eqb q.number page (λ e. other (sym e ∙ number)),
            ) refl
      ]

  pub stored_flat : flat_of_pages regions (set pages i q)
      ≡ after_store (flat_of_pages regions pages) at piece
  stored_flat = λ t. record {
    memory = λ a. stored_byte a t;
    permissions = permission_in regions;
    written = λ page. stored_mark page t;
  }

-- ---- a page of zeros more

module _ (regions : List Region) (pages : List Page) (n i : ℕ) (q : Page)
    (split : IsSplit pages n i) (none : page_with pages n ≡ None)
    (number : q.number ≡ n) (zeros : (k : ℕ) → get_or q.bytes.items k 0 ≡ 0)
    (unmarked : q.written ≡ false) where
  pub with_page : (m : ℕ) → page_with (insert pages i q) m
      ≡ (if q.number == m then Some q else page_with pages m)
  with_page m =
      page_with-insert pages i q m (λ k e lt. rw number (split.below k e lt)) split.within

  added_byte : (a : ℕ) → byte_in_page (page_with (insert pages i q) (page_of a)) a
      ≡ byte_in_page (page_with pages (page_of a)) a
  added_byte a =
      elim (cases_eq n (page_of a)) [
        | inl same ↦
            rw (with_page (page_of a), eq-eqb q.number (page_of a) (number ∙ same), ← same, none)
            (zeros (a % 2 ^ 12))
        | inr other ↦
            rw (with_page (page_of a), ne_eqb q.number (page_of a) (λ e. other (sym number ∙ e)))
            refl
      ]

  added_mark : (page : ℕ) → is_page_written (page_with (insert pages i q) page)
      ≡ is_page_written (page_with pages page)
  added_mark page =
      elim (cases_eq n page) [
        | inl same ↦
            rw (with_page page, eq-eqb q.number page (number ∙ same), ← same, none) unmarked
        | inr other ↦
            rw (with_page page, ne_eqb q.number page (λ e. other (sym number ∙ e))) refl
      ]

  pub added_flat : flat_of_pages regions (insert pages i q) ≡ flat_of_pages regions pages
  added_flat = λ t. record {
    memory = λ a. added_byte a t;
    permissions = permission_in regions;
    written = λ page. added_mark page t;
  }

some_of : {A : Type 0} (b : Bool) (q : A) (o : Option A) {r : Option A}
    → r ≡ (if b then Some q else o) → is_some o ≡ true → is_some r ≡ true
some_of true q o e h = ap is_some e
some_of false q o e h = ap is_some e ∙ h

some_not_none : {A : Type 0} {x : A} → Some x ≡ None → ⊥
some_not_none e = cc

passes_by_least : (test : ℕ → Bool) (at n : ℕ) (b : Bool)
    → least_failing test at n ≡ (if b then None else Some at) → range_passes test at n ≡ b
passes_by_least test at n true e = passes_from_none test at n e
passes_by_least test at n false e = passes_from_some test at n at e

-- ---- what a function knows of the page that it writes or adds

module _ (regions : List Region) (pages : List Page) (at i : ℕ) (p q : Page) (piece : List ℕ)
    (sound : ArePagesOf regions 0 pages) (word : at < 2 ^ 64)
    (within : at % 2 ^ 12 + length piece ≤ 2 ^ 12) (some : 0 < length piece)
    (place : IsPlace pages (page_of at) i) (is : p ≡ get_or pages i p) (same : q.number ≡ p.number)
    (over : Overlays p.bytes.items q.bytes.items (at % 2 ^ 12) piece) where
  number : q.number ≡ page_of at
  number = same ∙ ap (λ s. s.number) is ∙ place.number p

  pub put_flat : q.written ≡ true → flat_of_pages regions (set pages i q)
      ≡ after_store (flat_of_pages regions pages) at piece
  put_flat marked =
      stored_flat regions pages at i q p piece sound word within some place number marked
      (rw (← is) over)

  pub put_sound : q.flags ≡ p.flags → ArePagesOf regions 0 (set pages i q)
  put_sound flags =
      pages-set regions 0 pages i q p sound place.within (same ∙ ap (λ s. s.number) is)
      (flags ∙ ap (λ s. s.flags) is)
      (over.whole ∙ ap (λ s. length s.bytes.items) is
      ∙ page_is_whole regions 0 pages i p sound place.within)

  pub put_keeps : (m : ℕ) → is_some (page_with pages m) ≡ true
      → is_some (page_with (set pages i q) m) ≡ true
  put_keeps m has =
      some_of (q.number == m) q (page_with pages m)
      (page_with-set regions 0 pages i q p m sound place.within (same ∙ ap (λ s. s.number) is))
      has

module _ (regions : List Region) (pages : List Page) (n i : ℕ) (q : Page)
    (sound : ArePagesOf regions 0 pages) (split : IsSplit pages n i)
    (none : page_with pages n ≡ None) (number : q.number ≡ n) where
  not_next : (d : Page) → i < length pages → n < (get_or pages i d).number
  not_next d lt =
      let le = split.above i d (omega arith) lt in
      elim (cases_eq (get_or pages i d).number n) [
        | inl same ↦ absurd (some_not_none (sym (found_at regions 0 pages i d sound lt)
            ∙ ap (page_with pages) same ∙ none))
        | inr other ↦ (omega arith)
      ]

  pub add_sound : length q.bytes.items ≡ 2 ^ 12 → permission_in regions n ≡ permission_of q.flags
      → ArePagesOf regions 0 (insert pages i q)
  add_sound whole allowed =
      pages-insert regions 0 pages i q sound
      (record {
        above = omega arith;
        whole = whole;
        allowed = ap (permission_in regions) number ∙ allowed;
      })
      (λ k d lt. rw number (split.below k d lt)) (λ d lt. rw number (not_next d lt)) split.within

  pub add_keeps : (m : ℕ) → is_some (page_with pages m) ≡ true
      → is_some (page_with (insert pages i q) m) ≡ true
  add_keeps m has =
      some_of (q.number == m) q (page_with pages m)
      (page_with-insert pages i q m (λ k e lt. rw number (split.below k e lt)) split.within) has

  pub add_made : is_some (page_with (insert pages i q) n) ≡ true
  add_made =
      rw (
        page_with-insert pages i q n (λ k e lt. rw number (split.below k e lt)) split.within,
        eq-eqb q.number n number,
      ) refl

-- ---- a store after another

pub after_store-none : (flat : Flat) (at : ℕ) → after_store flat at [] ≡ flat
after_store-none flat at = λ t. record {
  memory = λ a. with_bytes-none at flat.memory a t;
  permissions = flat.permissions;
  written = λ page. with_written-none at flat.written page t;
}

marks : (at : ℕ) (xs ys : List ℕ) (written : ℕ → Bool) (page : ℕ)
    → with_written (address at (length xs)) (length ys) (with_written at (length xs) written) page
    ≡ with_written at (length (xs ++ ys)) written page
marks at xs ys written page =
    rw (length-append xs ys) (sym (with_written-append at (length xs) (length ys) written page))

pub after_store-append : (flat : Flat) (at : ℕ) (xs ys : List ℕ) → at < 2 ^ 64
    → length xs + length ys < 2 ^ 64
    → after_store (after_store flat at xs) (address at (length xs)) ys
    ≡ after_store flat at (xs ++ ys)
after_store-append flat at xs ys word small = λ t. record {
  memory = λ a. sym (with_bytes-append at xs ys flat.memory a word small) t;
  permissions = flat.permissions;
  written = λ page. marks at xs ys flat.written page t;
}

-- ---- which addresses of a page may be accessed

module _ (choose : Permission → Bool) (regions : List Region) (at n : ℕ) (b : Bool)
    (word : at < 2 ^ 64) (some : 0 < n) (within : at % 2 ^ 12 + n ≤ 2 ^ 12)
    (is : choose (permission_in regions (page_of at)) ≡ b) where
  pub least_on_page : least_failing (λ a. choose (permission_in regions (page_of a))) at n
      ≡ (if b then None else Some at)
  least_on_page =
      least_failing-piece (λ a. choose (permission_in regions (page_of a))) at n word some within
      (λ i lt. ap (λ k. choose (permission_in regions k))
      (page_of-on_page at i word (omega arith)))
      ∙ ap (λ c. if c then None else Some at) is

  pub passes_on_page : range_passes (λ a. choose (permission_in regions (page_of a))) at n ≡ b
  passes_on_page = passes_by_least (λ a. choose (permission_in regions (page_of a))) at n b
      least_on_page

-- ---- what a function knows of the page that it reads

pub place_allowed : (regions : List Region) (pages : List Page) (n i : ℕ) (p : Page)
    → ArePagesOf regions 0 pages → IsPlace pages n i → p ≡ get_or pages i p
    → permission_in regions n ≡ permission_of p.flags
place_allowed regions pages n i p sound place is =
    ap (permission_in regions) (sym (place.number p))
    ∙ page_is_allowed regions 0 pages i p sound place.within
    ∙ ap (λ s. permission_of s.flags) (sym is)

pub place_has : (pages : List Page) (n i : ℕ) → IsPlace pages n i
    → is_some (page_with pages n) ≡ true
place_has [] n i place = absurd (omega (arith, place.within))
place_has (p ∷ ps) n i place = ap is_some (place.found p)

-- what a write through a vector's slice leaves of it
pub items_over : (old new piece : List ℕ) (offset len : ℕ) → Overlays old new offset piece
    → length old ≡ len
    → Overlays old (take len (new ++ drop (length new) old)) offset piece
items_over old new piece offset len over e =
    let whole = over.whole in
    let rest : drop (length new) old ≡ [] = drop_all (length new) old (omega arith) in
    rw (rest, append-nil new, take_all len new (omega arith)) over

pub ends_fault : (T : Type 0) (cause at : ℕ) (o : Option ℕ) → o ≡ Some at
    → EndsRead {T = T} cause o (Err (Fault cause at))
ends_fault T cause at o e = rw e refl

pub ends_ok : {T : Type 0} (cause : ℕ) (o : Option ℕ) (v : T) → o ≡ None
    → EndsRead cause o (Ok v)
ends_ok cause o v e = rw e refl

pub copy_fault : (T : Type 0) (cause at : ℕ) (o : Option ℕ) → o ≡ Some at
    → EndsCopy {T = T} cause o (Err (Fault cause at))
copy_fault T cause at o e = rw e refl

pub copy_ok : {T : Type 0} (cause : ℕ) (o : Option ℕ) (v : T) → o ≡ None
    → EndsCopy cause o (Ok v)
copy_ok cause o v e = rw e tt

pub on_false : (b : Bool) (P Q : Type 0) → b ≡ false → Q → MatchBool b P Q
on_false b P Q e q = rw e q

pub on_true : (b : Bool) (P Q : Type 0) → b ≡ true → P → MatchBool b P Q
on_true b P Q e p = rw e p

-- ---- one part more

pub least_step : (choose : Permission → Bool) (regions : List Region) (at done part here : ℕ)
    (least failed next : Option ℕ) → here ≡ address at done → 0 < part
    → here % 2 ^ 12 + part ≤ 2 ^ 12
    → least ≡ least_failing (λ a. choose (permission_in regions (page_of a))) at done
    → failed ≡ (if choose (permission_in regions (page_of here)) then None else Some here)
    → next ≡ lesser least failed
    → next ≡ least_failing (λ a. choose (permission_in regions (page_of a))) at (done + part)
least_step choose regions at done part here least failed next e some within before f g =
    let test : ℕ → Bool = λ a. choose (permission_in regions (page_of a)) in
    let below : here < 2 ^ 64 = rw e (address_below at done) in
    let piece = least_on_page choose regions here part _ below some within refl in
    g ∙ ap (λ o. lesser o failed) before
    ∙ ap (λ o. lesser (least_failing test at done) o) (f ∙ sym piece)
    ∙ ap (λ a. lesser (least_failing test at done) (least_failing test a part)) e
    ∙ sym (least_failing-append test at done part)

pub read_step : (memory : ℕ → ℕ) (at done part here : ℕ) (xs ys : List ℕ)
    → here ≡ address at done → xs ≡ bytes_at memory at done → ys ≡ bytes_at memory here part
    → xs ++ ys ≡ bytes_at memory at (done + part)
read_step memory at done part here xs ys e f g =
    rw (f, g, e) (sym (bytes_at-append memory at done part))

-- bytes that are those of memory one by one
pub bytes_at-of : (memory : ℕ → ℕ) (at n : ℕ) (xs : List ℕ) → length xs ≡ n
    → ((i : ℕ) → i < n → memory (address at i) ≡ get_or xs i 0) → xs ≡ bytes_at memory at n
bytes_at-of memory at n xs len each =
    same_number_lists xs (bytes_at memory at n) (len ∙ sym (length-bytes_at memory at n))
    (λ i lt. sym (each i (omega arith)) ∙ sym (get_or-bytes_at memory at n i (omega arith)))

pub zero_word : (regions : List Region) (pages : List Page) (at : ℕ) → at < 2 ^ 64
    → at % 2 ^ 12 + 4 ≤ 2 ^ 12 → page_with pages (page_of at) ≡ None
    → 0 ≡ little_endian (bytes_at (flat_of_pages regions pages).memory at 4)
zero_word regions pages at word within none =
    four_bytes (flat_of_pages regions pages).memory at [] 0 0 refl
    (λ i lt. no_page_bytes regions pages at 4 i word within none lt)

-- the bytes of a store, a part after another
pub write_step : (flat : Flat) (at done part here : ℕ) (bytes piece : List ℕ) (now then_ : Flat)
    → at < 2 ^ 64 → length bytes < 2 ^ 64 → here ≡ address at done → done + part ≤ length bytes
    → piece ≡ take part (drop done bytes) → now ≡ after_store flat at (take done bytes)
    → then_ ≡ after_store now here piece → then_ ≡ after_store flat at (take (done + part) bytes)
write_step flat at done part here bytes piece now then_ word small e le f g h =
    let front : length (take done bytes) ≡ done = length-take-le done bytes (omega arith) in
    let rest : length (drop done bytes) ≡ length bytes - done = length-drop done bytes in
    let back : length (take part (drop done bytes)) ≡ part =
    length-take-le part (drop done bytes) (omega arith) in
    h ∙ ap (λ s. after_store s here piece) g
    ∙ ap (λ a. after_store (after_store flat at (take done bytes)) a piece)
    (e ∙ ap (address at) (sym front))
    ∙ ap (after_store (after_store flat at (take done bytes))
    (address at (length (take done bytes)))) f
    ∙ after_store-append flat at (take done bytes) (take part (drop done bytes)) word
    (omega arith)
    ∙ ap (after_store flat at) (sym (take-add done part bytes))

pub store_of_nothing : (flat : Flat) (at : ℕ) (bytes : List ℕ) → length bytes ≡ 0
    → flat ≡ after_store flat at bytes
store_of_nothing flat at [] e = sym (after_store-none flat at)
store_of_nothing flat at (b ∷ bs) e = absurd (omega (arith, e))

pub none_fails : (test : ℕ → Bool) (at n : ℕ) → n ≡ 0 → least_failing test at n ≡ None
none_fails test at n e = ap (least_failing test at) e ∙ least_failing-none test at

pub some_fails : (test : ℕ → Bool) (at n a : ℕ) → Some a ≡ least_failing test at n → n ≡ 0 → ⊥
some_fails test at n a h e = some_not_none (h ∙ none_fails test at n e)

pub buffer_bytes : (memory : ℕ → ℕ) (at n k : ℕ) (bytes : List ℕ) → bytes ≡ bytes_at memory at k
    → k ≡ n → AreBytes memory at n bytes 0
buffer_bytes memory at n k bytes is e i lt =
    let first : 0 + i ≡ i = omega arith in
    rw (first, is) (sym (get_or-bytes_at memory at k i (omega (arith, e, lt))))
