-- What a gain makes of a view, in each case, and what a holder reaches at once.
use Rattle.std.proofs.Common.{◌≡◌, ℕ, ◌⊎◌, Bool, true, false, eqb, List, ◌∷◌, ap, ⊎_elim}
use Rattle.std.proofs.lemmas.Bool.{cases_Bool, and_left, and_right, and_from, or_cases}
use Rattle.std.proofs.lemmas.Bool.{or_left, or_right, eq-eqb, cond-true}
use Rattle.frame_model.specs.declared.view.View.{View}
use Rattle.frame_model.specs.Words.{depth}
use Rattle.frame_model.specs.Views.{Has, has, children, part_of, without, less_one, reach}
use Rattle.frame_model.proofs.Parts.{has_true, true_has, false_has}
use Rattle.frame_model.proofs.Reach.{has_left, has_right, within_front}
use Rattle.frame_words.specs.Steps.{tree_of}
use Rattle.frame_steps.specs.Counted.{is_counted, gives_up, left_by, gained}

gained_plain : (v : View) (f : ℕ) → gives_up v f ≡ false
    → gained v f ≡ part_of v v.owned (f ∷ v.references) v.stake
unfolding gained
gained_plain v f e = ap (λ (b : Bool). part_of v (left_by b v f) (f ∷ v.references) v.stake) e

gained_less : (v : View) (f : ℕ) → gives_up v f ≡ true
    → gained v f ≡ part_of v (without (tree_of v f) v.owned) (f ∷ v.references) v.stake
unfolding gained
gained_less v f e = ap (λ (b : Bool). part_of v (left_by b v f) (f ∷ v.references) v.stake) e

not_owned : (v : View) (f : ℕ) → (Has f v.owned → ⊥) → gives_up v f ≡ false
unfolding gives_up
not_owned v f away = and_left (has f v.owned) (is_counted v f) (false_has f v.owned away)

not_named : (v : View) (f : ℕ) → (Has f v.references → ⊥) → (Has f (children v.known v.owned) → ⊥)
    → gives_up v f ≡ false
unfolding gives_up
not_named v f unreferred unnamed = and_right (has f v.owned) (is_counted v f) (⊎_elim
    (λ (t : is_counted v f ≡ true). absurd (⊎_elim
    (λ a. unreferred (has_true f v.references a))
    (λ b. unnamed (has_true f (children v.known v.owned) b))
    (or_cases (has f v.references) (has f (children v.known v.owned)) t)))
    (λ (o : is_counted v f ≡ false). o)
    (cases_Bool (is_counted v f)))

owned_and_named : (v : View) (f : ℕ) → Has f v.owned
    → Has f v.references ⊎ Has f (children v.known v.owned) → gives_up v f ≡ true
unfolding gives_up
owned_and_named v f o n =
    let a = has f v.references in
    let b = has f (children v.known v.owned) in
    and_from (has f v.owned) (is_counted v f) (true_has f v.owned o)
    (⊎_elim (λ r. or_left a b (true_has f v.references r))
    (λ c. or_right a b (true_has f (children v.known v.owned) c)) n)

-- what isn't owned isn't given up
pub shared_gained : (v : View) (f : ℕ) → (Has f v.owned → ⊥)
    → gained v f ≡ part_of v v.owned (f ∷ v.references) v.stake
shared_gained v f away = gained_plain v f (not_owned v f away)

-- nor is what nothing names
pub fresh_gained : (v : View) (f : ℕ) → (Has f v.references → ⊥)
    → (Has f (children v.known v.owned) → ⊥)
    → gained v f ≡ part_of v v.owned (f ∷ v.references) v.stake
fresh_gained v f unreferred unnamed = gained_plain v f (not_named v f unreferred unnamed)

-- an owned frame with a name is, with what is owned below it
pub named_gained : (v : View) (f : ℕ) → Has f v.owned
    → Has f v.references ⊎ Has f (children v.known v.owned)
    → gained v f ≡ part_of v (without (tree_of v f) v.owned) (f ∷ v.references) v.stake
named_gained v f own named = gained_less v f (owned_and_named v f own named)

pub less_here : (x y : ℕ) (ys : List ℕ) → x ≡ y → less_one x (y ∷ ys) ≡ ys
less_here x y ys e = cond-true (eqb x y) ys (y ∷ less_one x ys) (eq-eqb x y e)

pub own_reached : (v : View) (f : ℕ) → Has f v.owned → Has f (reach v)
own_reached v f h = within_front v.known depth _ f (has_left f v.owned v.references h)

pub referred_reached : (v : View) (f : ℕ) → Has f v.references → Has f (reach v)
referred_reached v f h = within_front v.known depth _ f (has_right f v.owned v.references h)
