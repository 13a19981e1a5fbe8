-- Reach: what stands in it, and that it is closed where kinds fall along entries.
use Rattle.std.proofs.Common.{◌≡◌, ℕ, zero, suc, ◌+◌, ◌<◌, ◌≤◌, ◌≢◌, ◌⊎◌, Bool, true, false, eqb, if◌then◌else◌, List, [], ◌∷◌, ◌++◌, length, get_or, refl, sym, ap, subst, ◌∙◌, inl, inr, ⊎_elim, arith}
use Rattle.std.proofs.lemmas.Bool.{cases_eq, eq-eqb, ne_eqb, eqb-false, cond-true, cond-false}
use Rattle.frame_model.specs.declared.kind.Kind.{Kind}
use Rattle.frame_model.specs.declared.kind.Kind.TheVariants.{Data, Leaf, Mid, Root}
use Rattle.frame_model.specs.declared.view.Known.{Known}
use Rattle.frame_model.specs.Words.{kind_number, target}
use Rattle.frame_model.specs.Views.{Has, one_if, times, forget, known_of, targets, targets_by_kind, targets_of, children, within}

-- ---- membership

pub has_left : (x : ℕ) (xs ys : List ℕ) → Has x xs → Has x (xs ++ ys)
has_left x [] ys h = absurd h
has_left x (z ∷ xs) ys h = ⊎_elim (λ e. inl e) (λ r. inr (has_left x xs ys r)) h

pub has_right : (x : ℕ) (xs ys : List ℕ) → Has x ys → Has x (xs ++ ys)
has_right x [] ys h = h
has_right x (z ∷ xs) ys h = inr (has_right x xs ys h)

pub has_append : (x : ℕ) (xs ys : List ℕ) → Has x (xs ++ ys) → Has x xs ⊎ Has x ys
has_append x [] ys h = inr h
has_append x (z ∷ xs) ys h = ⊎_elim (λ e. inl (inl e)) (λ r. ⊎_elim (λ a. inl (inr a)) (λ b. inr b) (has_append x xs ys r)) h

pub times_here : (x y : ℕ) (ys : List ℕ) → x ≡ y → times x (y ∷ ys) ≡ times x ys + 1
times_here x y ys e = let b : one_if (eqb x y) ≡ 1 = ap one_if (eq-eqb x y e) in omega arith

pub times_else : (x y : ℕ) (ys : List ℕ) → (x ≡ y → ⊥) → times x (y ∷ ys) ≡ times x ys
times_else x y ys ne = let b : one_if (eqb x y) ≡ 0 = ap one_if (ne_eqb x y ne) in omega arith

pub absent : (x : ℕ) (xs : List ℕ) → (Has x xs → ⊥) → times x xs ≡ 0
absent x [] away = refl
absent x (y ∷ ys) away = times_else x y ys (λ e. away (inl e)) ∙ absent x ys (λ h. away (inr h))

pub present : (x : ℕ) (xs : List ℕ) → Has x xs → 1 ≤ times x xs
present x [] h = absurd h
present x (y ∷ ys) h = ⊎_elim
    (λ (e : x ≡ y). let a = times_here x y ys e in omega arith)
    (λ r. let a = present x ys r in omega arith)
    h

pub times_append : (x : ℕ) (xs ys : List ℕ) → times x (xs ++ ys) ≡ times x xs + times x ys
times_append x [] ys = omega arith
times_append x (z ∷ xs) ys = let a = times_append x xs ys in omega arith

pub dec_has : (x : ℕ) (xs : List ℕ) → Has x xs ⊎ (Has x xs → ⊥)
dec_has x [] = inr (λ h. h)
dec_has x (y ∷ ys) = ⊎_elim
    (λ (e : x ≡ y). inl (inl e))
    (λ (ne : x ≡ y → ⊥). ⊎_elim (λ h. inl (inr h)) (λ away. inr (λ g. ⊎_elim (λ e. ne e) (λ r. away r) g)) (dec_has x ys))
    (cases_eq x y)

-- ---- the frames that entries name

has_if : (b : Bool) (t x : ℕ) (ys : List ℕ) → Has x (if b then ys else t ∷ ys) → Has x ys ⊎ ((b ≡ false) × (x ≡ t))
has_if true t x ys h = inl h
has_if false t x ys h = ⊎_elim (λ e. inr (refl, e)) (λ r. inl r) h

if_has_rest : (b : Bool) (t x : ℕ) (ys : List ℕ) → Has x ys → Has x (if b then ys else t ∷ ys)
if_has_rest true t x ys h = h
if_has_rest false t x ys h = inr h

if_has_first : (b : Bool) (t : ℕ) (ys : List ℕ) → b ≡ false → Has t (if b then ys else t ∷ ys)
if_has_first true t ys e = absurd (cc)
if_has_first false t ys e = inl refl

pub targets_has : (ws : List ℕ) (i : ℕ) → i < length ws → get_or ws i 0 ≢ 0 → Has (target (get_or ws i 0)) (targets ws)
targets_has [] i h ne = absurd (omega arith)
targets_has (w ∷ ws) zero h ne = if_has_first (eqb w 0) (target w) (targets ws) (ne_eqb w 0 ne)
targets_has (w ∷ ws) (suc i) h ne = if_has_rest (eqb w 0) (target w) _ (targets ws) (targets_has ws i (omega arith) ne)

pub has_targets : (ws : List ℕ) (x : ℕ) → Has x (targets ws) → (i : ℕ) × (i < length ws) × (get_or ws i 0 ≢ 0) × (target (get_or ws i 0) ≡ x)
has_targets [] x h = absurd h
has_targets (w ∷ ws) x h =
    ⊎_elim
    (λ r. let t = has_targets ws x r in (suc t.0, omega (arith, t.1), t.2, t.3))
    (λ (e : (eqb w 0 ≡ false) × (x ≡ target w)). (zero, omega arith, eqb-false w 0 e.0, sym e.1))
    (has_if (eqb w 0) (target w) x (targets ws) h)

-- a frame with a target is a table, and its words have it
pub has_by_kind : (k : Kind) (ws : List ℕ) (x : ℕ) → Has x (targets_by_kind k ws) → (0 < kind_number k) × Has x (targets ws)
has_by_kind Data ws x h = absurd h
has_by_kind Leaf ws x h = (omega arith, h)
has_by_kind Mid ws x h = (omega arith, h)
has_by_kind Root ws x h = (omega arith, h)

pub by_kind_has : (k : Kind) (ws : List ℕ) (x : ℕ) → 0 < kind_number k → Has x (targets ws) → Has x (targets_by_kind k ws)
by_kind_has Data ws x lt h = absurd (omega arith)
by_kind_has Leaf ws x lt h = h
by_kind_has Mid ws x lt h = h
by_kind_has Root ws x lt h = h

pub kind_number_most : (k : Kind) → kind_number k < 4
kind_number_most Data = omega arith
kind_number_most Leaf = omega arith
kind_number_most Mid = omega arith
kind_number_most Root = omega arith

-- ---- one link down

pub has_children : (ks : List Known) (fs : List ℕ) (x : ℕ) → Has x (children ks fs) → (f : ℕ) × Has f fs × Has x (targets_of (known_of ks f))
has_children ks [] x h = absurd h
has_children ks (f ∷ fs) x h =
    ⊎_elim
    (λ here. (f, inl refl, here))
    (λ rest. let t = has_children ks fs x rest in (t.0, inr t.1, t.2))
    (has_append x (targets_of (known_of ks f)) (children ks fs) h)

pub children_has : (ks : List Known) (fs : List ℕ) (f x : ℕ) → Has f fs → Has x (targets_of (known_of ks f)) → Has x (children ks fs)
children_has ks [] f x h t = absurd h
children_has ks (g ∷ fs) f x h t =
    ⊎_elim
    (λ (e : f ≡ g). has_left x (targets_of (known_of ks g)) (children ks fs) (subst (λ (y : ℕ). Has x (targets_of (known_of ks y))) e t))
    (λ r. has_right x (targets_of (known_of ks g)) (children ks fs) (children_has ks fs f x r t))
    h

pub children_same : (ks ls : List Known) (fs : List ℕ) → ((f : ℕ) → targets_of (known_of ks f) ≡ targets_of (known_of ls f)) → children ks fs ≡ children ls fs
children_same ks ls [] same = refl
children_same ks ls (f ∷ fs) same = λ i. same f i ++ children_same ks ls fs same i

-- ---- links down

pub within_front : (ks : List Known) (n : ℕ) (fs : List ℕ) (x : ℕ) → Has x fs → Has x (within ks n fs)
unfolding within
within_front ks zero fs x h = h
within_front ks (suc n) fs x h = has_left x fs (within ks n (children ks fs)) h

pub within_same : (ks ls : List Known) (n : ℕ) (fs : List ℕ) → ((f : ℕ) → targets_of (known_of ks f) ≡ targets_of (known_of ls f)) → within ks n fs ≡ within ls n fs
unfolding within
within_same ks ls zero fs same = refl
within_same ks ls (suc n) fs same =
    ap (λ (x : List ℕ). fs ++ x) (within_same ks ls n (children ks fs) same ∙ ap (λ (x : List ℕ). within ls n x) (children_same ks ls fs same))

-- where a kind falls by one along each entry, and is at most n to begin with, nothing is further than n links down
pub within_closed : (kind : ℕ → ℕ) (ks : List Known) (n : ℕ) (fs : List ℕ)
    → ((f : ℕ) → Has f fs → kind f ≤ n)
    → ((f x : ℕ) → Has f (within ks n fs) → Has x (targets_of (known_of ks f)) → kind x + 1 ≡ kind f)
    → (f x : ℕ) → Has f (within ks n fs) → Has x (targets_of (known_of ks f)) → Has x (within ks n fs)
unfolding within
within_closed kind ks zero fs most falls f x h t = absurd (let a = most f h in let b = falls f x h t in omega arith)
within_closed kind ks (suc n) fs most falls f x h t =
    let rest = children ks fs in
    ⊎_elim
    (λ here. has_right x fs (within ks n rest) (within_front ks n rest x (children_has ks fs f x here t)))
    (λ below. has_right x fs (within ks n rest)
    (within_closed kind ks n rest
    (λ c hc. let p = has_children ks fs c hc in let a = most p.0 p.1 in let b = falls p.0 c (has_left p.0 fs (within ks n rest) p.1) p.2 in omega arith)
    (λ g y hg ty. falls g y (has_right g fs (within ks n rest) hg) ty)
    f x below t))
    (has_append f fs (within ks n rest) h)

-- ---- news of one frame

pub known_here : (k : Known) (ks : List Known) (f : ℕ) → k.frame ≡ f → known_of (k ∷ ks) f ≡ k
known_here k ks f e = cond-true (eqb k.frame f) k (known_of ks f) (eq-eqb k.frame f e)

pub known_else : (k : Known) (ks : List Known) (f : ℕ) → (k.frame ≡ f → ⊥) → known_of (k ∷ ks) f ≡ known_of ks f
known_else k ks f ne = cond-false (eqb k.frame f) k (known_of ks f) (ne_eqb k.frame f ne)

forget_step : (k : Known) (ks : List Known) (f g : ℕ) → (f ≡ g → ⊥) → known_of (forget f ks) g ≡ known_of ks g → known_of (forget f (k ∷ ks)) g ≡ known_of (k ∷ ks) g
forget_step k ks f g ne rest = ⊎_elim
    (λ (e : k.frame ≡ f).
    ap (λ (ls : List Known). known_of ls g) (cond-true (eqb k.frame f) (forget f ks) (k ∷ forget f ks) (eq-eqb k.frame f e))
    ∙ rest ∙ sym (known_else k ks g (λ x. ne (sym e ∙ x))))
    (λ (away : k.frame ≡ f → ⊥).
    ap (λ (ls : List Known). known_of ls g) (cond-false (eqb k.frame f) (forget f ks) (k ∷ forget f ks) (ne_eqb k.frame f away))
    ∙ ⊎_elim
    (λ (e : k.frame ≡ g). known_here k (forget f ks) g e ∙ sym (known_here k ks g e))
    (λ (off : k.frame ≡ g → ⊥). known_else k (forget f ks) g off ∙ rest ∙ sym (known_else k ks g off))
    (cases_eq k.frame g))
    (cases_eq k.frame f)

pub forget_else : (ks : List Known) (f g : ℕ) → (f ≡ g → ⊥) → known_of (forget f ks) g ≡ known_of ks g
forget_else [] f g ne = refl
forget_else (k ∷ ks) f g ne = forget_step k ks f g ne (forget_else ks f g ne)

-- reach stays where the frame has the targets that it had
pub news_within : (k : Known) (ks : List Known) (n : ℕ) (fs : List ℕ) → targets_of k ≡ targets_of (known_of ks k.frame) → within (k ∷ forget k.frame ks) n fs ≡ within ks n fs
news_within k ks n fs same = within_same (k ∷ forget k.frame ks) ks n fs (λ f.
    ⊎_elim
    (λ (e : k.frame ≡ f). ap targets_of (known_here k (forget k.frame ks) f e) ∙ subst (λ (x : ℕ). targets_of k ≡ targets_of (known_of ks x)) e same)
    (λ (ne : k.frame ≡ f → ⊥). ap targets_of (known_else k (forget k.frame ks) f ne ∙ forget_else ks k.frame f ne))
    (cases_eq k.frame f))

-- nothing is below nothing
pub within_empty : (ks : List Known) (n x : ℕ) → Has x (within ks n []) → ⊥
unfolding within
within_empty ks zero x h = h
within_empty ks (suc n) x h = within_empty ks n x h

-- what holds of the first frames, and along each link, holds of all that are reached
pub within_inside : (P : ℕ → Type 0) (ks : List Known) (n : ℕ) (fs : List ℕ) → ((f : ℕ) → Has f fs → P f)
    → ((f x : ℕ) → P f → Has x (targets_of (known_of ks f)) → P x) → (x : ℕ) → Has x (within ks n fs) → P x
unfolding within
within_inside P ks zero fs first along x h = first x h
within_inside P ks (suc n) fs first along x h = ⊎_elim
    (λ here. first x here)
    (λ below. within_inside P ks n (children ks fs) (λ c hc. let t = has_children ks fs c hc in along t.0 c (first t.0 t.1) t.2) along x below)
    (has_append x fs (within ks n (children ks fs)) h)

pub targets_zero : (ws : List ℕ) → ((i : ℕ) → i < length ws → get_or ws i 0 ≡ 0) → targets ws ≡ []
targets_zero [] none = refl
targets_zero (w ∷ ws) none =
    let z = none 0 (omega arith) in
    cond-true (eqb w 0) (targets ws) (target w ∷ targets ws) (eq-eqb w 0 z) ∙ targets_zero ws (λ i h. none (suc i) (omega arith))

pub by_kind_none : (k : Kind) (ws : List ℕ) → targets ws ≡ [] → targets_by_kind k ws ≡ []
by_kind_none Data ws e = refl
by_kind_none Leaf ws e = e
by_kind_none Mid ws e = e
by_kind_none Root ws e = e

pub kind_number_data : (k : Kind) → kind_number k ≡ 0 → k ≡ Data
kind_number_data Data e = refl
kind_number_data Leaf e = absurd (omega arith)
kind_number_data Mid e = absurd (omega arith)
kind_number_data Root e = absurd (omega arith)

-- what is reached and isn't among the first frames is one link below another that is reached
pub within_parent : (ks : List Known) (n : ℕ) (fs : List ℕ) (x : ℕ) → Has x (within ks n fs) → Has x fs ⊎ ((g : ℕ) × Has g (within ks n fs) × Has x (targets_of (known_of ks g)))
unfolding within
within_parent ks zero fs x h = inl h
within_parent ks (suc n) fs x h =
    let rest = children ks fs in
    ⊎_elim
    (λ here. inl here)
    (λ below. ⊎_elim
    (λ c. let t = has_children ks fs x c in inr (t.0, has_left t.0 fs (within ks n rest) t.1, t.2))
    (λ (t : (g : ℕ) × Has g (within ks n rest) × Has x (targets_of (known_of ks g))). inr (t.0, has_right t.0 fs (within ks n rest) t.1, t.2))
    (within_parent ks n rest x below))
    (has_append x fs (within ks n rest) h)
