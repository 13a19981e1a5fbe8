-- Lists of frames that are cut in two.
use Rattle.std.proofs.Common.{◌≡◌, ℕ, ◌+◌, true, false, eqb, List, [], ◌∷◌, length, refl, sym, ap, subst, ◌∙◌, inl, inr, ⊎_elim, arith}
use Rattle.std.proofs.lemmas.Bool.{cases_eq, cases_Bool, eq-eqb, ne_eqb, eqb-true, or_cases, or_left, or_right, cond-true, cond-false}
use Rattle.frame_model.specs.Views.{Has, has, times, among, without, less_one}

pub has_true : (x : ℕ) (xs : List ℕ) → has x xs ≡ true → Has x xs
has_true x [] e = absurd (cc)
has_true x (y ∷ ys) e = ⊎_elim (λ h. inl (eqb-true x y h)) (λ r. inr (has_true x ys r)) (or_cases (eqb x y) (has x ys) e)

pub true_has : (x : ℕ) (xs : List ℕ) → Has x xs → has x xs ≡ true
true_has x [] h = absurd h
true_has x (y ∷ ys) h = ⊎_elim (λ e. or_left (eqb x y) (has x ys) (eq-eqb x y e)) (λ r. or_right (eqb x y) (has x ys) (true_has x ys r)) h

pub has_false : (x : ℕ) (xs : List ℕ) → has x xs ≡ false → Has x xs → ⊥
has_false x xs e h = absurd (let t = true_has x xs h in cc)

pub false_has : (x : ℕ) (xs : List ℕ) → (Has x xs → ⊥) → has x xs ≡ false
false_has x xs away = ⊎_elim (λ t. absurd (away (has_true x xs t))) (λ f. f) (cases_Bool (has x xs))

-- ---- the two parts

pub among_in : (gs : List ℕ) (x : ℕ) (xs : List ℕ) → has x gs ≡ true → among gs (x ∷ xs) ≡ x ∷ among gs xs
among_in gs x xs e = cond-true (has x gs) (x ∷ among gs xs) (among gs xs) e

pub among_out : (gs : List ℕ) (x : ℕ) (xs : List ℕ) → has x gs ≡ false → among gs (x ∷ xs) ≡ among gs xs
among_out gs x xs e = cond-false (has x gs) (x ∷ among gs xs) (among gs xs) e

pub without_in : (gs : List ℕ) (x : ℕ) (xs : List ℕ) → has x gs ≡ true → without gs (x ∷ xs) ≡ without gs xs
without_in gs x xs e = cond-true (has x gs) (without gs xs) (x ∷ without gs xs) e

pub without_out : (gs : List ℕ) (x : ℕ) (xs : List ℕ) → has x gs ≡ false → without gs (x ∷ xs) ≡ x ∷ without gs xs
without_out gs x xs e = cond-false (has x gs) (without gs xs) (x ∷ without gs xs) e

pub has_among : (gs xs : List ℕ) (x : ℕ) → Has x (among gs xs) → Has x gs × Has x xs
has_among gs [] x h = absurd h
has_among gs (y ∷ ys) x h = ⊎_elim
    (λ (t : has y gs ≡ true). ⊎_elim
    (λ (e : x ≡ y). (subst (λ (z : ℕ). Has z gs) (sym e) (has_true y gs t), inl e))
    (λ r. let p = has_among gs ys x r in (p.0, inr p.1))
    (subst (λ (zs : List ℕ). Has x zs) (among_in gs y ys t) h))
    (λ (f : has y gs ≡ false). let p = has_among gs ys x (subst (λ (zs : List ℕ). Has x zs) (among_out gs y ys f) h) in (p.0, inr p.1))
    (cases_Bool (has y gs))

pub has_without : (gs xs : List ℕ) (x : ℕ) → Has x (without gs xs) → (Has x gs → ⊥) × Has x xs
has_without gs [] x h = absurd h
has_without gs (y ∷ ys) x h = ⊎_elim
    (λ (t : has y gs ≡ true). let p = has_without gs ys x (subst (λ (zs : List ℕ). Has x zs) (without_in gs y ys t) h) in (p.0, inr p.1))
    (λ (f : has y gs ≡ false). ⊎_elim
    (λ (e : x ≡ y). ((λ g. has_false y gs f (subst (λ (z : ℕ). Has z gs) e g)), inl e))
    (λ r. let p = has_without gs ys x r in (p.0, inr p.1))
    (subst (λ (zs : List ℕ). Has x zs) (without_out gs y ys f) h))
    (cases_Bool (has y gs))

pub among_has : (gs xs : List ℕ) (x : ℕ) → Has x gs → Has x xs → Has x (among gs xs)
among_has gs [] x g h = absurd h
among_has gs (y ∷ ys) x g h = ⊎_elim
    (λ (t : has y gs ≡ true). subst (λ (zs : List ℕ). Has x zs) (sym (among_in gs y ys t))
    (⊎_elim (λ e. inl e) (λ r. inr (among_has gs ys x g r)) h))
    (λ (f : has y gs ≡ false). subst (λ (zs : List ℕ). Has x zs) (sym (among_out gs y ys f))
    (⊎_elim (λ (e : x ≡ y). absurd (has_false y gs f (subst (λ (z : ℕ). Has z gs) e g))) (λ r. among_has gs ys x g r) h))
    (cases_Bool (has y gs))

pub without_has : (gs xs : List ℕ) (x : ℕ) → (Has x gs → ⊥) → Has x xs → Has x (without gs xs)
without_has gs [] x g h = absurd h
without_has gs (y ∷ ys) x g h = ⊎_elim
    (λ (t : has y gs ≡ true). subst (λ (zs : List ℕ). Has x zs) (sym (without_in gs y ys t))
    (⊎_elim (λ (e : x ≡ y). absurd (g (subst (λ (z : ℕ). Has z gs) (sym e) (has_true y gs t)))) (λ r. without_has gs ys x g r) h))
    (λ (f : has y gs ≡ false). subst (λ (zs : List ℕ). Has x zs) (sym (without_out gs y ys f))
    (⊎_elim (λ e. inl e) (λ r. inr (without_has gs ys x g r)) h))
    (cases_Bool (has y gs))

times_after : (f y : ℕ) (xs ys : List ℕ) → times f xs ≡ times f ys → times f (y ∷ xs) ≡ times f (y ∷ ys)
times_after f y xs ys e = omega arith

pub times_parts : (gs : List ℕ) (f : ℕ) (xs : List ℕ) → times f (without gs xs) + times f (among gs xs) ≡ times f xs
times_parts gs f [] = refl
times_parts gs f (y ∷ ys) =
    let r = times_parts gs f ys in
    ⊎_elim
    (λ (t : has y gs ≡ true).
    let a = ap (λ (zs : List ℕ). times f zs) (among_in gs y ys t) in
    let b = ap (λ (zs : List ℕ). times f zs) (without_in gs y ys t) in
    omega arith)
    (λ (o : has y gs ≡ false).
    let a = ap (λ (zs : List ℕ). times f zs) (among_out gs y ys o) in
    let b = ap (λ (zs : List ℕ). times f zs) (without_out gs y ys o) in
    omega arith)
    (cases_Bool (has y gs))

pub length_parts : (gs xs : List ℕ) → length (without gs xs) + length (among gs xs) ≡ length xs
length_parts gs [] = refl
length_parts gs (y ∷ ys) =
    let r = length_parts gs ys in
    ⊎_elim
    (λ (t : has y gs ≡ true).
    let a = ap (λ (zs : List ℕ). length zs) (among_in gs y ys t) in
    let b = ap (λ (zs : List ℕ). length zs) (without_in gs y ys t) in
    omega arith)
    (λ (o : has y gs ≡ false).
    let a = ap (λ (zs : List ℕ). length zs) (among_out gs y ys o) in
    let b = ap (λ (zs : List ℕ). length zs) (without_out gs y ys o) in
    omega arith)
    (cases_Bool (has y gs))

-- ---- one less

less_here : (x y : ℕ) (ys : List ℕ) → x ≡ y → less_one x (y ∷ ys) ≡ ys
less_here x y ys e = cond-true (eqb x y) ys (y ∷ less_one x ys) (eq-eqb x y e)

less_else : (x y : ℕ) (ys : List ℕ) → (x ≡ y → ⊥) → less_one x (y ∷ ys) ≡ y ∷ less_one x ys
less_else x y ys ne = cond-false (eqb x y) ys (y ∷ less_one x ys) (ne_eqb x y ne)

pub has_less : (x : ℕ) (xs : List ℕ) (f : ℕ) → Has f (less_one x xs) → Has f xs
has_less x [] f h = absurd h
has_less x (y ∷ ys) f h = ⊎_elim
    (λ (e : x ≡ y). inr (subst (λ (zs : List ℕ). Has f zs) (less_here x y ys e) h))
    (λ (ne : x ≡ y → ⊥). ⊎_elim (λ e. inl e) (λ r. inr (has_less x ys f r)) (subst (λ (zs : List ℕ). Has f zs) (less_else x y ys ne) h))
    (cases_eq x y)

pub less_has : (x : ℕ) (xs : List ℕ) (f : ℕ) → (f ≡ x → ⊥) → Has f xs → Has f (less_one x xs)
less_has x [] f ne h = absurd h
less_has x (y ∷ ys) f ne h = ⊎_elim
    (λ (e : x ≡ y). subst (λ (zs : List ℕ). Has f zs) (sym (less_here x y ys e)) (⊎_elim (λ (k : f ≡ y). absurd (ne (k ∙ sym e))) (λ r. r) h))
    (λ (no_x : x ≡ y → ⊥). subst (λ (zs : List ℕ). Has f zs) (sym (less_else x y ys no_x)) (⊎_elim (λ e. inl e) (λ r. inr (less_has x ys f ne r)) h))
    (cases_eq x y)

pub times_less : (x : ℕ) (xs : List ℕ) (f : ℕ) → Has x xs → times f (less_one x xs) + times f (x ∷ []) ≡ times f xs
times_less x [] f h = absurd h
times_less x (y ∷ ys) f h = ⊎_elim
    (λ (e : x ≡ y).
    let a = ap (λ (zs : List ℕ). times f zs) (less_here x y ys e) in
    let b = ap (λ (z : ℕ). times f (z ∷ [])) e in
    omega arith)
    (λ (ne : x ≡ y → ⊥).
    let r = times_less x ys f (⊎_elim (λ (e : x ≡ y). absurd (ne e)) (λ r. r) h) in
    let a = ap (λ (zs : List ℕ). times f zs) (less_else x y ys ne) in
    omega arith)
    (cases_eq x y)

pub length_less : (x : ℕ) (xs : List ℕ) → Has x xs → length (less_one x xs) + 1 ≡ length xs
length_less x [] h = absurd h
length_less x (y ∷ ys) h = ⊎_elim
    (λ (e : x ≡ y). let a = ap (λ (zs : List ℕ). length zs) (less_here x y ys e) in omega arith)
    (λ (ne : x ≡ y → ⊥).
    let r = length_less x ys (⊎_elim (λ (e : x ≡ y). absurd (ne e)) (λ r. r) h) in
    let a = ap (λ (zs : List ℕ). length zs) (less_else x y ys ne) in
    omega arith)
    (cases_eq x y)
