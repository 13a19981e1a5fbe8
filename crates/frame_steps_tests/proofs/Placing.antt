-- One mid table more below the root, and a leaf table below it.
use Rattle.std.proofs.Common.{◌≡◌, ℕ, ◌+◌, ◌<◌, ◌≤◌, ◌≢◌, ◌⊎◌, List, [], ◌∷◌, length, get_or}
use Rattle.std.proofs.Common.{refl, sym, ap, subst, ◌∙◌, inl, inr, ⊎_elim, arith}
use Rattle.std.proofs.lemmas.Bool.{cases_eq}
use Rattle.frame_model.specs.declared.kind.Kind.{Kind}
use Rattle.frame_model.specs.declared.kind.Kind.TheVariants.{Leaf, Mid, Root}
use Rattle.frame_model.specs.declared.view.View.{View}
use Rattle.frame_model.specs.Words.{kind_number, target, IsPointer}
use Rattle.frame_model.specs.Views.{Has, known_of, kind_of, words_of, word_of, targets}
use Rattle.frame_model.specs.Views.{targets_of, children, part_of, IsLoose, numbers_below}
use Rattle.frame_model.specs.Views.{first_view}
use Rattle.frame_model.proofs.Opening.{blank_length, blank_word, has_numbers, numbers_has}
use Rattle.frame_model.proofs.Reach.{has_by_kind, by_kind_has, has_targets, targets_has}
use Rattle.frame_model.proofs.Reach.{has_children}
use Rattle.frame_words.specs.Steps.{dressed, IsClear}
use Rattle.frame_steps.specs.Counted.{entered, MayStand, HasRoom, gained}
use Rattle.frame_views.proofs.Giving.{fresh_gained, less_here}
use Rattle.frame_views.proofs.NewPages.{dressed_kind_here, dressed_kind_else, dressed_words}
use Rattle.frame_views.proofs.NewPages.{entered_owned, entered_stake, entered_kind, entered_length}
use Rattle.frame_views.proofs.NewPages.{entered_word_here, entered_word_else}
use Rattle.frame_views.proofs.NewParts.{new_entry}
use Rattle.frame_steps_tests.specs.Mids.{pointer_to, mid_at, leaf_at, HasEntries, IsPlaced}

pub pointer_target : (g : ℕ) → g < 1025 → target (pointer_to g) ≡ g
pointer_target g lt = omega arith

pub pointer_form : (g : ℕ) → g < 1025 → IsPointer (pointer_to g)
pointer_form g lt = record { size = omega arith; valid = omega arith; software = omega arith }

pub pointer_some : (g : ℕ) → pointer_to g ≡ 0 → ⊥
pointer_some g e = absurd (omega arith)

-- a table names what its word points to
pub word_child : (v : View) (f j g : ℕ) → 0 < kind_number (kind_of v f)
    → length (words_of v f) ≡ 512 → j < 512 → g < 1025 → word_of v f j ≡ pointer_to g
    → Has g (targets_of (known_of v.known f))
word_child v f j g table whole lt small is =
    let there = targets_has (words_of v f) j (omega arith) (λ z. pointer_some g (sym is ∙ z)) in
    by_kind_has (kind_of v f) (words_of v f) g table
    (subst (λ (x : ℕ). Has x (targets (words_of v f))) (ap target is ∙ pointer_target g small)
    there)

pub entry_child : (v : View) → HasEntries 512 v → (j : ℕ) → j < 512
    → Has (mid_at j) (targets_of (known_of v.known 0))
entry_child v e j lt =
    let kind = ap kind_number e.root in
    word_child v 0 j (mid_at j) (omega arith) e.whole lt (omega arith) (e.named j lt)

-- only mid tables and leaf tables that were placed are children of what is owned
pub child_of : (i w : ℕ) (v : View) → IsPlaced i w v → i ≤ 512 → w ≤ 512 → (x : ℕ)
    → Has x (children v.known v.owned)
    → (k : ℕ) × (((k < i) × (x ≡ mid_at k)) ⊎ ((k < w) × (x ≡ leaf_at k)))
child_of i w v p li lw x h =
    let t = has_children v.known v.owned x h in
    let inside = has_numbers 1025 t.0 (subst (λ (xs : List ℕ). Has t.0 xs) p.owned t.1) in
    let k = has_by_kind (kind_of v t.0) (words_of v t.0) x t.2 in
    let q = has_targets (words_of v t.0) x k.1 in
    let len = p.whole t.0 inside in
    let lt : q.0 < 512 = omega (arith, q.1) in
    ⊎_elim
    (λ (a : (q.0 < i) × (t.0 ≡ 0)).
    let small = a.0 in
    let word = ap (λ (f : ℕ). word_of v f q.0) a.1 ∙ p.entries.named q.0 a.0 in
    (q.0, inl (a.0, sym q.3 ∙ ap target word ∙ pointer_target (mid_at q.0) (omega arith))))
    (λ (a : (q.0 < w) × (t.0 ≡ mid_at q.0)).
    let small = a.0 in
    let word = ap (λ (f : ℕ). word_of v f q.0) a.1 ∙ p.leaves q.0 a.0 in
    (q.0, inr (a.0, sym q.3 ∙ ap target word ∙ pointer_target (leaf_at q.0) (omega arith))))
    (p.rest t.0 q.0 inside lt q.2)

-- ---- a kind

module _ (i w : ℕ) (v : View) (p : IsPlaced i w v) (li : i ≤ 512) (lw : w ≤ 512) where
  pub owns : (f : ℕ) → f < 1025 → Has f v.owned
  owns f h = subst (λ (xs : List ℕ). Has f xs) (sym p.owned) (numbers_has 1025 f h)

  pub no_reference : (f : ℕ) → Has f v.references → ⊥
  no_reference f h = subst (λ (xs : List ℕ). Has f xs) p.references h

  -- what wasn't placed has no name
  pub unplaced : (f : ℕ) → ((k : ℕ) → k < i → f ≢ mid_at k) → ((k : ℕ) → k < w → f ≢ leaf_at k)
      → Has f (children v.known v.owned) → ⊥
  unplaced f no_mid no_leaf h =
      let c = child_of i w v p li lw f h in
      ⊎_elim
      (λ (a : (c.0 < i) × (f ≡ mid_at c.0)). no_mid c.0 a.0 a.1)
      (λ (a : (c.0 < w) × (f ≡ leaf_at c.0)). no_leaf c.0 a.0 a.1)
      c.1

  pub loose : (f : ℕ) → f < 1025 → ((k : ℕ) → k < i → f ≢ mid_at k)
      → ((k : ℕ) → k < w → f ≢ leaf_at k) → IsLoose v f
  loose f lt no_mid no_leaf = record {
    owned = owns f lt;
    unreferred = no_reference f;
    unnamed = unplaced f no_mid no_leaf;
  }

  pub clear : (f : ℕ) → f < 1025 → f ≢ 0 → ((k : ℕ) → k < w → f ≢ mid_at k) → IsClear v f
  clear f lt ne no_mid k lk = ⊎_elim
      (λ (z : word_of v f k ≡ 0). z)
      (λ (some : word_of v f k ≡ 0 → ⊥). absurd (⊎_elim
      (λ (a : (k < i) × (f ≡ 0)). ne a.1)
      (λ (a : (k < w) × (f ≡ mid_at k)). no_mid k a.0 a.1)
      (p.rest f k lt lk some)))
      (cases_eq (word_of v f k) 0)

  -- a frame that is no table yet gets a kind
  pub dressed_placed : (f : ℕ) (kind : Kind) → f ≢ 0 → ((k : ℕ) → k < w → f ≢ mid_at k)
      → IsPlaced i w (dressed v f kind)
  dressed_placed f kind ne no_mid =
      let word : (g k : ℕ) → word_of (dressed v f kind) g k ≡ word_of v g k =
      λ g k. ap (λ (ws : List ℕ). get_or ws k 0) (dressed_words v f kind g) in
      let len : (g : ℕ) → length (words_of (dressed v f kind) g) ≡ length (words_of v g) =
      λ g. ap (λ (ws : List ℕ). length ws) (dressed_words v f kind g) in
      record {
        owned = p.owned;
        references = p.references;
        stake = p.stake;
        whole = λ g lt. len g ∙ p.whole g lt;
        entries = record {
          root = dressed_kind_else v f kind 0 (λ e. ne (sym e)) ∙ p.entries.root;
          whole = len 0 ∙ p.entries.whole;
          named = λ j lt. word 0 j ∙ p.entries.named j lt;
        };
        mids = λ j lt.
            dressed_kind_else v f kind (mid_at j) (λ e. no_mid j lt (sym e)) ∙ p.mids j lt;
        leaves = λ j lt. word (mid_at j) j ∙ p.leaves j lt;
        rest = λ g k lg lk some. p.rest g k lg lk (λ z. some (word g k ∙ z));
      }

-- ---- a leaf table below a mid table, and the mid table below the root

module _ (i : ℕ) (v : View) (p : IsPlaced i i v) (lt : i < 512) where
  abbrev mid : ℕ
  mid = i + 1

  abbrev leaf : ℕ
  leaf = i + 513

  not_placed : (k : ℕ) → k < i → mid ≢ mid_at k
  not_placed k h e = absurd (omega arith)

  pub mid_loose : IsLoose v mid
  mid_loose = loose i i v p (omega arith) (omega arith) mid (omega arith) not_placed
      (λ k h e. absurd (omega arith))

  pub mid_clear : IsClear v mid
  mid_clear = clear i i v p (omega arith) (omega arith) mid (omega arith)
      (λ e. absurd (omega arith))
      not_placed

  abbrev v1 : View
  v1 = dressed v mid Mid

  pub placed1 : IsPlaced i i v1
  placed1 = dressed_placed i i v p (omega arith) (omega arith) mid Mid (λ e. absurd (omega arith))
      not_placed

  pub leaf_loose : IsLoose v1 leaf
  leaf_loose = loose i i v1 placed1 (omega arith) (omega arith) leaf (omega arith)
      (λ k h e. absurd (omega arith)) (λ k h e. absurd (omega arith))

  pub leaf_clear : IsClear v1 leaf
  leaf_clear = clear i i v1 placed1 (omega arith) (omega arith) leaf (omega arith)
      (λ e. absurd (omega arith)) (λ k h e. absurd (omega arith))

  abbrev v2 : View
  v2 = dressed v1 leaf Leaf

  pub placed2 : IsPlaced i i v2
  placed2 = dressed_placed i i v1 placed1 (omega arith) (omega arith) leaf Leaf
      (λ e. absurd (omega arith)) (λ k h e. absurd (omega arith))

  leaf_kind : kind_of v2 leaf ≡ Leaf
  leaf_kind = dressed_kind_here v1 leaf Leaf

  mid_kind : kind_of v2 mid ≡ Mid
  mid_kind =
      dressed_kind_else v1 leaf Leaf mid (λ e. absurd (omega arith)) ∙ dressed_kind_here v mid Mid

  pub leaf_owned : Has leaf v2.owned
  leaf_owned = owns i i v2 placed2 (omega arith) (omega arith) leaf (omega arith)

  abbrev v3 : View
  v3 = part_of v2 v2.owned (leaf ∷ v2.references) v2.stake

  pub leaf_gained : gained v2 leaf ≡ v3
  leaf_gained = fresh_gained v2 leaf (no_reference i i v2 placed2 (omega arith) (omega arith) leaf)
      (unplaced i i v2 placed2 (omega arith) (omega arith) leaf
      (λ k h e. absurd (omega arith)) (λ k h e. absurd (omega arith)))

  pub mid_owned : Has mid v3.owned
  mid_owned = owns i i v2 placed2 (omega arith) (omega arith) mid (omega arith)

  pub mid_table : 0 < kind_number (kind_of v3 mid)
  mid_table = let e = ap kind_number mid_kind in omega arith

  pub leaf_stands : MayStand v3 mid (pointer_to leaf)
  leaf_stands =
      let k : kind_number (kind_of v3 mid) ≡ 2 = ap kind_number mid_kind in
      let names : target (pointer_to leaf) ≡ leaf = pointer_target leaf (omega arith) in
      let b : kind_number (kind_of v3 (target (pointer_to leaf))) ≡ 1 =
      ap (λ (x : ℕ). kind_number (kind_of v2 x)) names ∙ ap kind_number leaf_kind in
      inr (record {
        form = record {
          leaf = λ one. absurd (omega arith);
          above = λ _. pointer_form leaf (omega arith);
        };
        below = omega arith;
        referred = inl names;
      })

  pub leaf_room : HasRoom v3 mid i (pointer_to leaf)
  leaf_room z = absurd (pointer_some leaf z)

  abbrev v4 : View
  v4 = entered v3 mid i (pointer_to leaf)

  mid_word : word_of v3 mid i ≡ 0
  mid_word = clear i i v2 placed2 (omega arith) (omega arith) mid (omega arith)
      (λ e. absurd (omega arith)) not_placed i lt

  references4 : v4.references ≡ []
  references4 =
      new_entry v3 mid i (pointer_to leaf) mid_word (pointer_some leaf)
      ∙ less_here (target (pointer_to leaf)) leaf v2.references (pointer_target leaf (omega arith))
      ∙ placed2.references

  pub leaf_placed : IsPlaced i (i + 1) v4
  leaf_placed =
      let x = pointer_to leaf in
      let else_word = entered_word_else v3 mid i x in
      record {
        owned = entered_owned v3 mid i x ∙ placed2.owned;
        references = references4;
        stake = entered_stake v3 mid i x ∙ placed2.stake;
        whole = λ f lf. entered_length v3 mid i x f ∙ placed2.whole f lf;
        entries = record {
          root = entered_kind v3 mid i x 0 ∙ placed2.entries.root;
          whole = entered_length v3 mid i x 0 ∙ placed2.entries.whole;
          named = λ j h. else_word 0 j (λ t. let q = t.0 in absurd (omega arith))
              ∙ placed2.entries.named j h;
        };
        mids = λ j h. entered_kind v3 mid i x (mid_at j) ∙ ⊎_elim
            (λ (e : j ≡ i). ap (λ (y : ℕ). kind_of v3 (mid_at y)) e ∙ mid_kind)
            (λ (ne : j ≢ i). placed2.mids j (omega arith))
            (cases_eq j i);
        leaves = λ j h. ⊎_elim
            (λ (e : j ≡ i).
            let len = placed2.whole mid (omega arith) in
            subst (λ (y : ℕ). word_of v4 (mid_at y) y ≡ pointer_to (leaf_at y)) (sym e)
            (entered_word_here v3 mid i x (omega arith)))
            (λ (ne : j ≢ i). else_word (mid_at j) j (λ t. ne t.1) ∙ placed2.leaves j (omega arith))
            (cases_eq j i);
        rest = λ f k lf lk some. ⊎_elim
            (λ (e : k ≡ i). ⊎_elim
            (λ (d : f ≡ mid). inr (omega arith, d ∙ ap mid_at (sym e)))
            (λ (off : f ≢ mid). ⊎_elim
            (λ (a : (k < i) × (f ≡ 0)). inl a)
            (λ (a : (k < i) × (f ≡ mid_at k)). let q = a.0 in inr (omega arith, a.1))
            (placed2.rest f k lf lk (λ z. some (else_word f k (λ t. off t.0) ∙ z))))
            (cases_eq f mid))
            (λ (ne : k ≢ i). ⊎_elim
            (λ (a : (k < i) × (f ≡ 0)). inl a)
            (λ (a : (k < i) × (f ≡ mid_at k)). let q = a.0 in inr (omega arith, a.1))
            (placed2.rest f k lf lk (λ z. some (else_word f k (λ t. ne t.1) ∙ z))))
            (cases_eq k i);
      }

module _ (i : ℕ) (v : View) (p : IsPlaced i (i + 1) v) (lt : i < 512) where
  abbrev top : ℕ
  top = i + 1

  pub top_owned : Has top v.owned
  top_owned = owns i (i + 1) v p (omega arith) (omega arith) top (omega arith)

  abbrev w1 : View
  w1 = part_of v v.owned (top ∷ v.references) v.stake

  pub top_gained : gained v top ≡ w1
  top_gained = fresh_gained v top (no_reference i (i + 1) v p (omega arith) (omega arith) top)
      (unplaced i (i + 1) v p (omega arith) (omega arith) top
      (λ k h e. absurd (omega arith)) (λ k h e. absurd (omega arith)))

  pub root_owned : Has 0 w1.owned
  root_owned = owns i (i + 1) v p (omega arith) (omega arith) 0 (omega arith)

  pub root_table : 0 < kind_number (kind_of w1 0)
  root_table = let e = ap kind_number p.entries.root in omega arith

  pub top_stands : MayStand w1 0 (pointer_to top)
  top_stands =
      let k : kind_number (kind_of w1 0) ≡ 3 = ap kind_number p.entries.root in
      let names : target (pointer_to top) ≡ top = pointer_target top (omega arith) in
      let b : kind_number (kind_of w1 (target (pointer_to top))) ≡ 2 =
      ap (λ (x : ℕ). kind_number (kind_of v x)) names ∙ ap kind_number (p.mids i (omega arith)) in
      inr (record {
        form = record {
          leaf = λ one. absurd (omega arith);
          above = λ _. pointer_form top (omega arith);
        };
        below = omega arith;
        referred = inl names;
      })

  pub top_room : HasRoom w1 0 i (pointer_to top)
  top_room z = absurd (pointer_some top z)

  abbrev w2 : View
  w2 = entered w1 0 i (pointer_to top)

  root_word : word_of w1 0 i ≡ 0
  root_word = ⊎_elim
      (λ (z : word_of v 0 i ≡ 0). z)
      (λ (some : word_of v 0 i ≡ 0 → ⊥). ⊎_elim
      (λ (a : (i < i) × (0 ≡ 0)). let q = a.0 in absurd (omega arith))
      (λ (a : (i < i + 1) × (0 ≡ mid_at i)). let q = a.1 in absurd (omega arith))
      (p.rest 0 i (omega arith) lt some))
      (cases_eq (word_of v 0 i) 0)

  references2 : w2.references ≡ []
  references2 =
      new_entry w1 0 i (pointer_to top) root_word (pointer_some top)
      ∙ less_here (target (pointer_to top)) top v.references (pointer_target top (omega arith))
      ∙ p.references

  pub top_placed : IsPlaced (i + 1) (i + 1) w2
  top_placed =
      let x = pointer_to top in
      let else_word = entered_word_else w1 0 i x in
      record {
        owned = entered_owned w1 0 i x ∙ p.owned;
        references = references2;
        stake = entered_stake w1 0 i x ∙ p.stake;
        whole = λ f lf. entered_length w1 0 i x f ∙ p.whole f lf;
        entries = record {
          root = entered_kind w1 0 i x 0 ∙ p.entries.root;
          whole = entered_length w1 0 i x 0 ∙ p.entries.whole;
          named = λ j h. ⊎_elim
              (λ (e : j ≡ i).
              let len = p.entries.whole in
              subst (λ (y : ℕ). word_of w2 0 y ≡ pointer_to (mid_at y)) (sym e)
              (entered_word_here w1 0 i x (omega arith)))
              (λ (ne : j ≢ i). else_word 0 j (λ t. ne t.1) ∙ p.entries.named j (omega arith))
              (cases_eq j i);
        };
        mids = λ j h. entered_kind w1 0 i x (mid_at j) ∙ p.mids j h;
        leaves = λ j h.
            else_word (mid_at j) j (λ t. let q = t.0 in absurd (omega arith)) ∙ p.leaves j h;
        rest = λ f k lf lk some. ⊎_elim
            (λ (e : k ≡ i). ⊎_elim
            (λ (d : f ≡ 0). inl (omega arith, d))
            (λ (off : f ≢ 0). ⊎_elim
            (λ (a : (k < i) × (f ≡ 0)). absurd (off a.1))
            (λ (a : (k < i + 1) × (f ≡ mid_at k)). inr a)
            (p.rest f k lf lk (λ z. some (else_word f k (λ t. off t.0) ∙ z))))
            (cases_eq f 0))
            (λ (ne : k ≢ i). ⊎_elim
            (λ (a : (k < i) × (f ≡ 0)). let q = a.0 in inl (omega arith, a.1))
            (λ (a : (k < i + 1) × (f ≡ mid_at k)). inr a)
            (p.rest f k lf lk (λ z. some (else_word f k (λ t. ne t.1) ∙ z))))
            (cases_eq k i);
      }

-- ---- the start

pub first_loose : IsLoose (first_view 1025) 0
first_loose = record {
  owned = numbers_has 1025 0 (omega arith);
  unreferred = λ r. r;
  unnamed = λ h. let t = has_children [] (numbers_below 1025) 0 h in t.2;
}

pub first_clear : IsClear (first_view 1025) 0
first_clear j k = blank_word j

first_word : (f k : ℕ) → word_of (dressed (first_view 1025) 0 Root) f k ≡ 0
first_word f k =
    ap (λ (ws : List ℕ). get_or ws k 0) (dressed_words (first_view 1025) 0 Root f) ∙ blank_word k

first_length : (f : ℕ) → length (words_of (dressed (first_view 1025) 0 Root) f) ≡ 512
first_length f =
    ap (λ (ws : List ℕ). length ws) (dressed_words (first_view 1025) 0 Root f) ∙ blank_length

pub start : IsPlaced 0 0 (dressed (first_view 1025) 0 Root)
start = record {
  owned = refl;
  references = refl;
  stake = refl;
  whole = λ f lt. first_length f;
  entries = record {
    root = dressed_kind_here (first_view 1025) 0 Root;
    whole = first_length 0;
    named = λ j a. absurd (omega arith);
  };
  mids = λ j a. absurd (omega arith);
  leaves = λ j a. absurd (omega arith);
  rest = λ f k lf lk some. absurd (some (first_word f k));
}
