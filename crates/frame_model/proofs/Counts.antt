-- Numbers of links and references.
use Rattle.std.proofs.Common.{◌≡◌, ℕ, zero, suc, ◌+◌, ◌*◌, ◌^◌, ◌<◌, ◌≤◌, ◌⊎◌, Bool, true, false, not, ◌&&◌, eqb, if◌then◌else◌, List, [], ◌∷◌, ◌++◌, length, refl, sym, ap, subst, ◌∙◌, ⊎_elim, arith, length-append}
use mathlib.Core.Option.{some-ne-none, some-injective}
use Rattle.std.proofs.lemmas.Bool.{cases_eq, cases_Bool, and_left, and_right, and_from, eq-eqb, ne_eqb}
use Rattle.frame_model.specs.declared.view.View.{View}
use Rattle.frame_model.specs.Words.{Frames, kind_at, count_at, names, target, links_in, links_below}
use Rattle.frame_model.specs.Views.{Has, one_if, times, IsStaked}
use Rattle.frame_model.specs.Rule.{At, total, FrameRule}
use Rattle.frame_model.proofs.Reach.{absent, dec_has}

-- ---- links

if_one : (b : Bool) (p : ℕ × ℕ) → length (if b then p ∷ [] else []) ≤ 1
if_one true p = omega arith
if_one false p = omega arith

pub links_in_most : (m : Frames) (f g i : ℕ) → length (links_in m f g i) ≤ i
unfolding links_in
links_in_most m f g zero = omega arith
links_in_most m f g (suc i) =
    let a = links_in_most m f g i in
    let b = if_one (names m f g i) (g, i) in
    omega (arith, length-append (links_in m f g i) (if names m f g i then (g, i) ∷ [] else []))

pub links_below_most : (m : Frames) (f g : ℕ) → length (links_below m f g) ≤ g * 512
unfolding links_below
links_below_most m f zero = omega arith
links_below_most m f (suc g) =
    let a = links_below_most m f g in
    let b = links_in_most m f g 512 in
    omega (arith, length-append (links_below m f g) (links_in m f g 512))

pub links_in_same : (m l : Frames) (f g i : ℕ) → ((j : ℕ) → j < i → names m f g j ≡ names l f g j) → links_in m f g i ≡ links_in l f g i
unfolding links_in
links_in_same m l f g zero same = refl
links_in_same m l f g (suc i) same =
    let rest = links_in_same m l f g i (λ j h. same j (omega arith)) in
    let here = same i (omega arith) in
    λ k. rest k ++ (if here k then (g, i) ∷ [] else [])

-- links don't change where the same words name the frame
pub links_same : (m l : Frames) (f n : ℕ) → ((g j : ℕ) → g < n → j < 512 → names m f g j ≡ names l f g j) → links_below m f n ≡ links_below l f n
unfolding links_below
links_same m l f zero same = refl
links_same m l f (suc n) same =
    let rest = links_same m l f n (λ g j h. same g j (omega arith)) in
    let here = links_in_same m l f n 512 (λ j h. same n j (omega arith) h) in
    λ k. rest k ++ here k

-- a frame of data has no entry
pub names_data : (m : Frames) (f g i : ℕ) → kind_at m g ≡ 0 → names m f g i ≡ false
names_data m f g i e =
    let t : not (eqb (kind_at m g) 0) ≡ false = ap not (eq-eqb (kind_at m g) 0 e) in
    and_left (not (eqb (kind_at m g) 0) && _) _ (and_left (not (eqb (kind_at m g) 0)) _ t)

if_none : (b : Bool) (p : ℕ × ℕ) → b ≡ false → length (if b then p ∷ [] else []) ≡ 0
if_none true p e = absurd (cc)
if_none false p e = refl

links_in_none : (m : Frames) (f g i : ℕ) → ((j : ℕ) → names m f g j ≡ false) → length (links_in m f g i) ≡ 0
unfolding links_in
links_in_none m f g zero none = refl
links_in_none m f g (suc i) none =
    let a = links_in_none m f g i none in
    let b = if_none (names m f g i) (g, i) (none i) in
    omega (arith, length-append (links_in m f g i) (if names m f g i then (g, i) ∷ [] else []))

pub links_none : (m : Frames) (f n : ℕ) → ((g j : ℕ) → names m f g j ≡ false) → length (links_below m f n) ≡ 0
unfolding links_below
links_none m f zero none = refl
links_none m f (suc n) none =
    let a = links_none m f n none in
    let b = links_in_none m f n 512 (none n) in
    omega (arith, length-append (links_below m f n) (links_in m f n 512))

-- ---- references and stakes

one_if_most : (b : Bool) → one_if b ≤ 1
one_if_most true = omega arith
one_if_most false = omega arith

pub times_most : (x : ℕ) (xs : List ℕ) → times x xs ≤ length xs
times_most x [] = omega arith
times_most x (y ∷ ys) = let a = times_most x ys in let b = one_if_most (eqb x y) in omega arith

pub references_most : (f : ℕ) (v : View) → IsStaked v → times f v.references ≤ 16 * v.stake
references_most f v staked =
    let a = times_most f v.references in
    let d = staked.few in
    ⊎_elim
    (λ (none : v.stake ≡ 0). let e : times f v.references ≡ 0 = ap (λ (xs : List ℕ). times f xs) (staked.spent none).1 in omega arith)
    (λ (some : v.stake ≡ 0 → ⊥). omega arith)
    (cases_eq v.stake 0)

pub total_most : (h k : View → ℕ) (views : List View) → ((id : ℕ) (v : View) → At views id v → h v ≤ 16 * k v) → total h views ≤ 16 * total k views
total_most h k [] each = omega arith
total_most h k (v ∷ vs) each =
    let a = each 0 v refl in
    let b = total_most h k vs (λ id w at. each (suc id) w at) in
    omega arith

-- a view that takes another's place
pub total_set : (h : View → ℕ) (views : List View) (id : ℕ) (v w : View) → At views id v → total h (Rattle.std.proofs.Common.set views id w) + h v ≡ total h views + h w
total_set h [] id v w at = absurd (some-ne-none v (sym at))
total_set h (x ∷ xs) zero v w at = let is : h x ≡ h v = ap h (some-injective x v at) in omega arith
total_set h (x ∷ xs) (suc id) v w at = let r = total_set h xs id v w at in omega arith

-- a count is at most 2^26 links and 16 references for each stake
pub count_most : (n : ℕ) (m : Frames) (views : List View) → FrameRule n m views → (f : ℕ) → f < n → count_at m f ≤ 2 ^ 26 + 2 ^ 44
count_most n m views rule f h =
    let a = rule.counted f h in
    let b = links_below_most m f n in
    let d = total_most (λ v. times f v.references) (λ v. v.stake) views (λ id v at. references_most f v (rule.stakes.each id v at)) in
    let e = rule.stakes.whole in
    let k = rule.limit in
    omega arith

-- ---- a link that is there

if_some : (b : Bool) (p : ℕ × ℕ) → b ≡ true → length (if b then p ∷ [] else []) ≡ 1
if_some true p e = refl
if_some false p e = absurd (cc)

links_in_some : (m : Frames) (f g i j : ℕ) → j < i → names m f g j ≡ true → 0 < length (links_in m f g i)
unfolding links_in
links_in_some m f g zero j h e = absurd (omega arith)
links_in_some m f g (suc i) j h e =
    ⊎_elim
    (λ (here : j ≡ i).
    let b = if_some (names m f g i) (g, i) (subst (λ (k : ℕ). names m f g k ≡ true) here e) in
    omega (arith, length-append (links_in m f g i) (if names m f g i then (g, i) ∷ [] else [])))
    (λ (ne : j ≡ i → ⊥).
    let a = links_in_some m f g i j (omega arith) e in
    omega (arith, length-append (links_in m f g i) (if names m f g i then (g, i) ∷ [] else [])))
    (cases_eq j i)

pub links_some : (m : Frames) (f n g j : ℕ) → g < n → j < 512 → names m f g j ≡ true → 0 < length (links_below m f n)
unfolding links_below
links_some m f zero g j h lt e = absurd (omega arith)
links_some m f (suc n) g j h lt e =
    ⊎_elim
    (λ (here : g ≡ n).
    let b = links_in_some m f n 512 j lt (subst (λ (k : ℕ). names m f k j ≡ true) here e) in
    omega (arith, length-append (links_below m f n) (links_in m f n 512)))
    (λ (ne : g ≡ n → ⊥).
    let a = links_some m f n g j (omega arith) lt e in
    omega (arith, length-append (links_below m f n) (links_in m f n 512)))
    (cases_eq g n)

-- a word of 0 names no frame
pub names_zero : (m : Frames) (f g i : ℕ) → m.word g i ≡ 0 → names m f g i ≡ false
names_zero m f g i e =
    let t : not (eqb (m.word g i) 0) ≡ false = ap not (eq-eqb (m.word g i) 0 e) in
    and_left (not (eqb (kind_at m g) 0) && _) _ (and_right (not (eqb (kind_at m g) 0)) _ t)

pub names_same : (m l : Frames) (f g i : ℕ) → kind_at m g ≡ kind_at l g → m.word g i ≡ l.word g i → names m f g i ≡ names l f g i
names_same m l f g i kinds words = λ k. not (eqb (kinds k) 0) && not (eqb (words k) 0) && eqb (target (words k)) f

pub names_true : (m : Frames) (f g i : ℕ) → 0 < kind_at m g → (m.word g i ≡ 0 → ⊥) → target (m.word g i) ≡ f → names m f g i ≡ true
names_true m f g i table ne is =
    and_from (not (eqb (kind_at m g) 0) && not (eqb (m.word g i) 0)) (eqb (target (m.word g i)) f)
    (and_from (not (eqb (kind_at m g) 0)) (not (eqb (m.word g i) 0))
    (ap not (ne_eqb (kind_at m g) 0 (λ z. omega arith))) (ap not (ne_eqb (m.word g i) 0 ne)))
    (eq-eqb (target (m.word g i)) f is)

-- two tables that name a frame are two links
pub links_two : (m : Frames) (f n g j h k : ℕ) → g < n → j < 512 → h < n → k < 512 → (g ≡ h → ⊥) → names m f g j ≡ true → names m f h k ≡ true → 2 ≤ length (links_below m f n)
unfolding links_below
links_two m f zero g j h k lg lj lh lk ne a b = absurd (omega arith)
links_two m f (suc n) g j h k lg lj lh lk ne a b =
    ⊎_elim
    (λ (here : g ≡ n).
    let one = links_in_some m f n 512 j lj (subst (λ (x : ℕ). names m f x j ≡ true) here a) in
    let two = links_some m f n h k (omega arith) lk b in
    omega (arith, length-append (links_below m f n) (links_in m f n 512)))
    (λ (off : g ≡ n → ⊥). ⊎_elim
    (λ (here : h ≡ n).
    let one = links_in_some m f n 512 k lk (subst (λ (x : ℕ). names m f x k ≡ true) here b) in
    let two = links_some m f n g j (omega arith) lj a in
    omega (arith, length-append (links_below m f n) (links_in m f n 512)))
    (λ (away : h ≡ n → ⊥).
    let both = links_two m f n g j h k (omega arith) lj (omega arith) lk ne a b in
    omega (arith, length-append (links_below m f n) (links_in m f n 512)))
    (cases_eq h n))
    (cases_eq g n)

-- a view's number is at most the total
pub total_at : (h : View → ℕ) (views : List View) (id : ℕ) (v : View) → At views id v → h v ≤ total h views
total_at h [] id v at = absurd (some-ne-none v (sym at))
total_at h (x ∷ xs) zero v at = let is : h x ≡ h v = ap h (some-injective x v at) in omega arith
total_at h (x ∷ xs) (suc id) v at = let r = total_at h xs id v at in omega arith

-- two views' numbers are at most the total
pub total_two : (h : View → ℕ) (views : List View) (id other : ℕ) (v w : View) → At views id v
    → At views other w → (id ≡ other → ⊥) → h v + h w ≤ total h views
total_two h [] id other v w at there ne = absurd (some-ne-none v (sym at))
total_two h (x ∷ xs) zero zero v w at there ne = absurd (ne refl)
total_two h (x ∷ xs) zero (suc other) v w at there ne =
    let is : h x ≡ h v = ap h (some-injective x v at) in
    let r = total_at h xs other w there in
    omega arith
total_two h (x ∷ xs) (suc id) zero v w at there ne =
    let is : h x ≡ h w = ap h (some-injective x w there) in
    let r = total_at h xs id v at in
    omega arith
total_two h (x ∷ xs) (suc id) (suc other) v w at there ne =
    let r = total_two h xs id other v w at there (λ e. ne (ap suc e)) in
    omega arith

-- ---- where there is a link, or a reference

link_in : (m : Frames) (f g i : ℕ) → 0 < length (links_in m f g i)
    → (j : ℕ) × (j < i) × (names m f g j ≡ true)
unfolding links_in
link_in m f g zero h = absurd (omega arith)
link_in m f g (suc i) h = ⊎_elim
    (λ (t : names m f g i ≡ true). (i, omega arith, t))
    (λ (o : names m f g i ≡ false).
    let a = length-append (links_in m f g i) (if names m f g i then (g, i) ∷ [] else []) in
    let b = if_none (names m f g i) (g, i) o in
    let r = link_in m f g i (omega arith) in
    (r.0, omega (arith, r.1), r.2))
    (cases_Bool (names m f g i))

pub link_below : (m : Frames) (f n : ℕ) → 0 < length (links_below m f n)
    → (g : ℕ) × (i : ℕ) × (g < n) × (i < 512) × (names m f g i ≡ true)
unfolding links_below
link_below m f zero h = absurd (omega arith)
link_below m f (suc n) h = ⊎_elim
    (λ (z : length (links_in m f n 512) ≡ 0).
    let a = length-append (links_below m f n) (links_in m f n 512) in
    let r = link_below m f n (omega arith) in
    (r.0, r.1, omega (arith, r.2), r.3, r.4))
    (λ (some : length (links_in m f n 512) ≡ 0 → ⊥).
    let r = link_in m f n 512 (omega arith) in
    (n, r.0, omega arith, r.1, r.2))
    (cases_eq (length (links_in m f n 512)) 0)

pub some_referrer : (f : ℕ) (views : List View) → 0 < total (λ v. times f v.references) views
    → (id : ℕ) × (v : View) × At views id v × Has f v.references
some_referrer f [] h = absurd (omega arith)
some_referrer f (v ∷ vs) h = ⊎_elim
    (λ r. (0, v, refl, r))
    (λ away.
    let z = absent f v.references away in
    let r = some_referrer f vs (omega arith) in
    (suc r.0, r.1, r.2, r.3))
    (dec_has f v.references)
