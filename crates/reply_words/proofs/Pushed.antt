-- What is pushed, one text behind the other.
use Rattle.std.proofs.Common.{◌≡◌, ℕ, ◌≤◌, ◌<◌, ◌+◌, ◌-◌, Bool, true, false, List, [], ◌∷◌, ◌++◌}
use Rattle.std.proofs.Common.{length, take, drop, get_or, arith, refl, sym, ap, ◌∙◌, subst}
use Rattle.std.proofs.Common.{vec_items, vec_capacity}
use Rattle.std.proofs.lemmas.List.{append-nil, append_assoc, length-take, take-take, take_all}
use Rattle.std.proofs.lemmas.List.{take_more, take-append-drop, length-append}
use Rattle.std.proofs.lemmas.List.Concat.{flat_map-append}
use Rattle.std.specs.Global.{Vec}
use Rattle.std.specs.List.{flat_map}
use Rattle.reply_words.specs.Pushes.{Pushes, HasRoom, piece_text, pieces_text}
use Rattle.reply_words.specs.declared.piece.Piece.{Piece}

kept_both : (old mid new : List ℕ) → take (length old) mid ≡ old → take (length mid) new ≡ mid →
    take (length old) new ≡ old
kept_both old mid new h k =
    let within : length old ≤ length mid =
    omega (arith, length-take (length old) mid, ap length h) in
    sym (take-take (length old) (length mid) new within) ∙ ap (λ l. take (length old) l) k ∙ h

-- one text behind the other
pub then_pushes : {b : Bool} {s t : List ℕ} {old mid new : List ℕ} (u : List ℕ) →
    Pushes true s old mid → Pushes b t mid new → s ++ t ≡ u → Pushes b u old new
then_pushes {b} {s} {t} {old} {mid} {new} u h k e = record {
  pushed = λ all. k.pushed all ∙ ap (λ l. l ++ t) (h.pushed refl) ∙ append_assoc old s t
      ∙ ap (λ l. old ++ l) e;
  kept = kept_both old mid new h.kept k.kept;
}

-- a part alone was pushed
pub cut_short : {s : List ℕ} {old new : List ℕ} (u : List ℕ) → Pushes false s old new →
    Pushes false u old new
cut_short u h = record { pushed = λ all. absurd (cc); kept = h.kept }

-- the same text
pub pushes_as : {b : Bool} {s t : List ℕ} {old new : List ℕ} → Pushes b s old new → s ≡ t →
    Pushes b t old new
pushes_as {b} {s} {t} {old} {new} h e =
    let P : List ℕ → Type 0 = λ l. Pushes b l old new in subst P e h

pub pushes_nothing : (old : List ℕ) → Pushes true [] old old
pushes_nothing old = record {
  pushed = λ all. sym (append-nil old);
  kept = take_all (length old) old (omega arith);
}

-- ---- room

-- the same text, as `pushes_as`
pub fits_as : {s t : List ℕ} (out : Vec ℕ) → HasRoom t out → s ≡ t → HasRoom s out
fits_as out h e = omega (arith, h, ap length e)

-- where two texts fit, the first does
pub first_fits : {u : List ℕ} (s t : List ℕ) (out : Vec ℕ) → HasRoom u out → s ++ t ≡ u →
    HasRoom s out
first_fits {u} s t out h e = omega (arith, h, ap length e, length-append s t)

-- and the second does behind it
pub second_fits : {s u : List ℕ} (t : List ℕ) (old new : Vec ℕ) → HasRoom u old →
    Pushes true s (vec_items old) (vec_items new) → vec_capacity old ≤ vec_capacity new →
    s ++ t ≡ u → HasRoom t new
second_fits {s} {u} t old new h k grown e =
    omega (
      arith,
      h,
      grown,
      ap length (k.pushed refl),
      length-append (vec_items old) s,
      ap length e,
      length-append s t,
    )

-- ---- items and pieces

-- one item more
pub items_more : {A : Type 0} (f : A → List ℕ) (xs : List A) (i : ℕ) (d : A) → i < length xs →
    flat_map f (take i xs) ++ f (get_or xs i d) ≡ flat_map f (take (i + 1) xs)
items_more f xs i d h =
    ap (λ l. flat_map f (take i xs) ++ l) (sym (append-nil (f (get_or xs i d))))
    ∙ sym (flat_map-append f (take i xs) (get_or xs i d ∷ []))
    ∙ ap (flat_map f) (sym (take_more xs i d h))

-- where the texts of all items fit, that of the next one does behind those before it
pub item_fits : {A : Type 0} (f : A → List ℕ) (xs : List A) (i : ℕ) (d : A) (old new : Vec ℕ) →
    i < length xs → HasRoom (flat_map f xs) old →
    Pushes true (flat_map f (take i xs)) (vec_items old) (vec_items new) →
    vec_capacity old ≤ vec_capacity new → HasRoom (f (get_or xs i d)) new
item_fits f xs i d old new within h k grown =
    let parts : flat_map f (take (i + 1) xs) ++ flat_map f (drop (i + 1) xs) ≡ flat_map f xs =
    sym (flat_map-append f (take (i + 1) xs) (drop (i + 1) xs))
    ∙ ap (flat_map f) (take-append-drop (i + 1) xs) in
    let before =
    first_fits (flat_map f (take (i + 1) xs)) (flat_map f (drop (i + 1) xs)) old h parts in
    second_fits (f (get_or xs i d)) old new before k grown (items_more f xs i d within)

-- a piece more
pub pieces_more : (piece : Piece) (pieces : List Piece) →
    piece_text piece ++ pieces_text pieces ≡ pieces_text (piece ∷ pieces)
pieces_more piece [] = append-nil (piece_text piece)
pieces_more piece (next ∷ pieces) = refl

-- the first piece apart
pub split : (none : Piece) (pieces : List Piece) → 0 < length pieces →
    piece_text (get_or pieces 0 none)
    ++ pieces_text (take (length pieces - 1) (drop 1 pieces)) ≡ pieces_text pieces
split none [] some = absurd (omega arith)
split none (piece ∷ pieces) some =
    ap (λ l. piece_text piece ++ pieces_text l)
    (take_all (length (piece ∷ pieces) - 1) pieces (omega arith))
    ∙ pieces_more piece pieces
