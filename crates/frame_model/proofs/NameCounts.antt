-- How often a view itself names a frame: that is a lower bound of its count, and of an owned frame
-- the count.
use Rattle.std.proofs.Common.{◌≡◌, ℕ, zero, suc, ◌+◌, ◌<◌, ◌≤◌, ◌≢◌, Bool, true, false, not, ◌&&◌}
use Rattle.std.proofs.Common.{eqb}
use Rattle.std.proofs.Common.{if◌then◌else◌, List, [], ◌∷◌, length, get_or, refl, sym, ap, subst}
use Rattle.std.proofs.Common.{◌∙◌}
use Rattle.std.proofs.Common.{inl, inr, ⊎_elim, arith, length-append}
use Rattle.std.proofs.lemmas.Bool.{cases_eq, and_right, eq-eqb, ne_eqb, cond-true, cond-false}
use Rattle.frame_model.specs.declared.kind.Kind.{Kind}
use Rattle.frame_model.specs.declared.kind.Kind.TheVariants.{Data, Leaf, Mid, Root}
use Rattle.frame_model.specs.declared.view.View.{View}
use Rattle.frame_model.specs.Words.{Frames, kind_number, kind_at, count_at, names, target, links_in}
use Rattle.frame_model.specs.Words.{links_below}
use Rattle.frame_model.specs.Views.{Has, one_if, times, less_one, known_of, kind_of, words_of}
use Rattle.frame_model.specs.Views.{targets, targets_by_kind, targets_of, children, reach}
use Rattle.frame_model.specs.Views.{name_count}
use Rattle.frame_model.specs.Rule.{At, IsNamedByOwn, FrameRule}
use Rattle.frame_model.proofs.Counts.{names_zero, names_true, total_at}
use Rattle.frame_model.proofs.Owners.{owned_reached, named_child}
use Rattle.frame_model.proofs.Parts.{has_less, times_less}
use Rattle.frame_model.proofs.Reach.{times_here, times_else, times_append, present, dec_has}

-- ---- what one word names

pub targets_none : (w : ℕ) → w ≡ 0 → targets (w ∷ []) ≡ []
targets_none w z = cond-true (eqb w 0) [] (target w ∷ []) (eq-eqb w 0 z)

pub targets_one : (w : ℕ) → w ≢ 0 → targets (w ∷ []) ≡ target w ∷ []
targets_one w ne = cond-false (eqb w 0) [] (target w ∷ []) (ne_eqb w 0 ne)

names_not : (m : Frames) (h g i : ℕ) → target (m.word g i) ≢ h → names m h g i ≡ false
names_not m h g i ne =
    and_right (not (eqb (kind_at m g) 0) && not (eqb (m.word g i) 0))
    (eqb (target (m.word g i)) h) (ne_eqb (target (m.word g i)) h ne)

-- a word of a table is one link or none of each frame
pub link_times : (m : Frames) (h g i w : ℕ) → m.word g i ≡ w → 0 < kind_at m g
    → one_if (names m h g i) ≡ times h (targets (w ∷ []))
link_times m h g i w is table = ⊎_elim
    (λ (z : w ≡ 0).
    let a : one_if (names m h g i) ≡ 0 = ap one_if (names_zero m h g i (is ∙ z)) in
    let b : times h (targets (w ∷ [])) ≡ 0 = ap (λ (xs : List ℕ). times h xs) (targets_none w z) in
    a ∙ sym b)
    (λ (ne : w ≡ 0 → ⊥).
    let b = ap (λ (xs : List ℕ). times h xs) (targets_one w ne) in
    ⊎_elim
    (λ (e : h ≡ target w).
    let a : one_if (names m h g i) ≡ 1 =
    ap one_if (names_true m h g i table (λ z. ne (sym is ∙ z)) (ap target is ∙ sym e)) in
    let c = times_here h (target w) [] e in
    omega arith)
    (λ (away : h ≡ target w → ⊥).
    let a : one_if (names m h g i) ≡ 0 =
    ap one_if (names_not m h g i (λ e. away (sym e ∙ ap target is))) in
    let c = times_else h (target w) [] away in
    omega arith)
    (cases_eq h (target w)))
    (cases_eq w 0)

-- ---- a number of each place of a row

sum_below : (ℕ → ℕ) → ℕ → ℕ
sum_below h zero = 0
sum_below h (suc k) = sum_below h k + h k

sum_front : (h : ℕ → ℕ) (k : ℕ) → sum_below h (suc k) ≡ h 0 + sum_below (λ i. h (suc i)) k
unfolding sum_below
sum_front h zero = omega arith
sum_front h (suc k) = let r = sum_front h k in omega arith

sum_same : (h l : ℕ → ℕ) (k : ℕ) → ((i : ℕ) → i < k → h i ≡ l i) → sum_below h k ≡ sum_below l k
unfolding sum_below
sum_same h l zero same = refl
sum_same h l (suc k) same =
    let r = sum_same h l k (λ i lt. same i (omega arith)) in
    let e = same k (omega arith) in
    omega arith

if_length : (b : Bool) (p : ℕ × ℕ) → length (if b then p ∷ [] else []) ≡ one_if b
if_length true p = refl
if_length false p = refl

row_sum : (m : Frames) (f g k : ℕ)
    → length (links_in m f g k) ≡ sum_below (λ i. one_if (names m f g i)) k
unfolding links_in sum_below
row_sum m f g zero = refl
row_sum m f g (suc k) =
    let r = row_sum m f g k in
    let a = if_length (names m f g k) (g, k) in
    omega (arith, length-append (links_in m f g k) (if names m f g k then (g, k) ∷ [] else []))

first_word : (f w : ℕ) (ws : List ℕ)
    → times f (targets (w ∷ ws)) ≡ times f (targets (w ∷ [])) + times f (targets ws)
first_word f w ws = ⊎_elim
    (λ (z : w ≡ 0).
    let a = ap (λ (xs : List ℕ). times f xs) (targets_none w z) in
    let b = ap (λ (xs : List ℕ). times f xs)
    (cond-true (eqb w 0) (targets ws) (target w ∷ targets ws) (eq-eqb w 0 z)) in
    omega arith)
    (λ (ne : w ≡ 0 → ⊥).
    let a = ap (λ (xs : List ℕ). times f xs) (targets_one w ne) in
    let b = ap (λ (xs : List ℕ). times f xs)
    (cond-false (eqb w 0) (targets ws) (target w ∷ targets ws) (ne_eqb w 0 ne)) in
    omega arith)
    (cases_eq w 0)

word_sum : (f : ℕ) (ws : List ℕ)
    → times f (targets ws) ≡ sum_below (λ i. times f (targets (get_or ws i 0 ∷ []))) (length ws)
unfolding sum_below
word_sum f [] = refl
word_sum f (w ∷ ws) =
    let a = first_word f w ws in
    let r = word_sum f ws in
    let s = sum_front (λ i. times f (targets (get_or (w ∷ ws) i 0 ∷ []))) (length ws) in
    omega arith

by_kind_times : (k : Kind) (ws : List ℕ) (f : ℕ)
    → times f (targets_by_kind k ws) ≤ times f (targets ws)
by_kind_times Data ws f = omega arith
by_kind_times Leaf ws f = omega arith
by_kind_times Mid ws f = omega arith
by_kind_times Root ws f = omega arith

no_names : (k : Kind) (ws : List ℕ) (f : ℕ) → kind_number k ≡ 0 → times f (targets_by_kind k ws) ≡ 0
no_names Data ws f e = refl
no_names Leaf ws f e = absurd (omega arith)
no_names Mid ws f e = absurd (omega arith)
no_names Root ws f e = absurd (omega arith)

-- ---- rows of different tables

module _ (row : ℕ → ℕ) where
  rows : List ℕ → ℕ
  rows [] = 0
  rows (g ∷ gs) = row g + rows gs

  rows_less : (x : ℕ) (gs : List ℕ) → Has x gs → rows (less_one x gs) + row x ≡ rows gs
  unfolding rows
  rows_less x [] h = absurd h
  rows_less x (g ∷ gs) h = ⊎_elim
      (λ (e : x ≡ g).
      let a = ap rows (cond-true (eqb x g) gs (g ∷ less_one x gs) (eq-eqb x g e)) in
      let b = ap row e in
      omega arith)
      (λ (ne : x ≢ g).
      let r = rows_less x gs (⊎_elim (λ e. absurd (ne e)) (λ r. r) h) in
      let a = ap rows (cond-false (eqb x g) gs (g ∷ less_one x gs) (ne_eqb x g ne)) in
      omega arith)
      (cases_eq x g)

  no_row : (gs : List ℕ) → ((g : ℕ) → Has g gs → g < 0) → rows gs ≡ 0
  unfolding rows
  no_row [] inside = refl
  no_row (g ∷ gs) inside = absurd (let lt = inside g (inl refl) in omega arith)

  -- tables below n, each once, have at most the sum of the first n
  rows_most : (n : ℕ) (gs : List ℕ) → ((g : ℕ) → Has g gs → g < n)
      → ((g : ℕ) → times g gs ≤ 1) → rows gs ≤ sum_below row n
  unfolding sum_below
  rows_most zero gs inside once = let z = no_row gs inside in omega arith
  rows_most (suc n) gs inside once = ⊎_elim
      (λ (h : Has n gs).
      let less = rows_less n gs h in
      let away : Has n (less_one n gs) → ⊥ = λ again.
      let p = present n (less_one n gs) again in
      let t = times_less n gs n h in
      let one = times_here n n [] refl in
      let most = once n in
      absurd (omega arith) in
      let r = rows_most n (less_one n gs)
      (λ g hg.
      let lt = inside g (has_less n gs g hg) in
      let ne : g ≢ n = λ e. away (subst (λ (y : ℕ). Has y (less_one n gs)) e hg) in
      omega arith)
      (λ g. let t = times_less n gs g h in let most = once g in omega arith) in
      omega arith)
      (λ (away : Has n gs → ⊥).
      let r = rows_most n gs
      (λ g hg.
      let lt = inside g hg in
      let ne : g ≢ n = λ e. away (subst (λ (y : ℕ). Has y gs) e hg) in
      omega arith)
      once in
      omega arith)
      (dec_has n gs)

all_rows : (m : Frames) (f n : ℕ)
    → length (links_below m f n) ≡ sum_below (λ g. length (links_in m f g 512)) n
unfolding links_below sum_below
all_rows m f zero = refl
all_rows m f (suc n) =
    let r = all_rows m f n in
    omega (arith, length-append (links_below m f n) (links_in m f n 512))

-- ---- a view's own names

module _ (n : ℕ) (m : Frames) (views : List View) (rule : FrameRule n m views) (id : ℕ) (v : View)
    (at : At views id v) where
  -- what a table in reach names are links
  table_row : (f g : ℕ) → Has g (reach v) → 0 < kind_at m g
      → times f (targets (words_of v g)) ≡ length (links_in m f g 512)
  table_row f g r table =
      let a = rule.agrees id v at in
      let len = a.whole g r in
      let size : length (words_of v g) ≡ 512 = len in
      word_sum f (words_of v g)
      ∙ ap (λ (k : ℕ). sum_below (λ i. times f (targets (get_or (words_of v g) i 0 ∷ []))) k) size
      ∙ sum_same (λ i. times f (targets (get_or (words_of v g) i 0 ∷ [])))
      (λ i. one_if (names m f g i)) 512
      (λ i lt. sym (link_times m f g i (get_or (words_of v g) i 0) (a.word g i r lt) table))
      ∙ sym (row_sum m f g 512)

  one_row : (f g : ℕ) → Has g (reach v)
      → times f (targets_of (known_of v.known g)) ≤ length (links_in m f g 512)
  one_row f g r =
      let kind = (rule.agrees id v at).kind g r in
      ⊎_elim
      (λ (z : kind_at m g ≡ 0).
      let none = no_names (kind_of v g) (words_of v g) f (sym kind ∙ z) in
      omega arith)
      (λ (some : kind_at m g ≡ 0 → ⊥).
      let e = table_row f g r (omega arith) in
      let most = by_kind_times (kind_of v g) (words_of v g) f in
      omega arith)
      (cases_eq (kind_at m g) 0)

  own_rows : (f : ℕ) (gs : List ℕ) → ((g : ℕ) → Has g gs → Has g (reach v))
      → times f (children v.known gs) ≤ rows (λ g. length (links_in m f g 512)) gs
  unfolding rows
  own_rows f [] reached = omega arith
  own_rows f (g ∷ gs) reached =
      let one = one_row f g (reached g (inl refl)) in
      let rest = own_rows f gs (λ x h. reached x (inr h)) in
      let both = times_append f (targets_of (known_of v.known g)) (children v.known gs) in
      omega arith

  own_links : (f : ℕ) → times f (children v.known v.owned) ≤ length (links_below m f n)
  own_links f =
      let reached : (g : ℕ) → Has g v.owned → Has g (reach v) =
      λ g h. owned_reached n m views rule v g h in
      let a = own_rows f v.owned reached in
      let b = rows_most (λ g. length (links_in m f g 512)) n v.owned
      (λ g h. (rule.agrees id v at).inside g (reached g h)) (rule.owned.once id v at) in
      let e = all_rows m f n in
      omega arith

  pub count_least : (f : ℕ) → f < n → name_count v f ≤ count_at m f
  count_least f lt =
      let a = own_links f in
      let b = total_at (λ u. times f u.references) views id v at in
      let c = rule.counted f lt in
      omega arith

  pub own_count : (f : ℕ) → Has f v.owned → count_at m f ≡ name_count v f
  own_count f own =
      let lt = (rule.agrees id v at).inside f (owned_reached n m views rule v f own) in
      let least = count_least f lt in
      ⊎_elim
      (λ (z : count_at m f ≡ 0). omega arith)
      (λ (some : count_at m f ≡ 0 → ⊥).
      let held = rule.owned.held id v at f own some in
      let once = held.once in
      ⊎_elim
      (λ r. let p = present f v.references r in omega arith)
      (λ (b : IsNamedByOwn m v f).
      let p = present f (children v.known v.owned) (named_child n m views rule id v at f b) in
      omega arith)
      held.by)
      (cases_eq (count_at m f) 0)
