-- What a split may name is a parting of the holder's view.
use Rattle.std.proofs.Common.{◌≡◌, ℕ, ◌+◌, ◌-◌, ◌<◌, ◌≤◌, ◌≢◌, ◌⊎◌, true, List, [], ◌∷◌, ◌++◌}
use Rattle.std.proofs.Common.{length, refl, sym, ap, subst, inl, inr, ⊎_elim, arith}
use Rattle.std.proofs.lemmas.Bool.{cases_eq}
use Rattle.frame_model.specs.Words.{depth}
use Rattle.frame_model.specs.declared.kind.Kind.TheVariants.{Data}
use Rattle.frame_model.specs.declared.view.View.{View}
use Rattle.frame_model.specs.Words.{Frames, kind_number, count_at, names}
use Rattle.frame_model.specs.Views.{Has, times, known_of, kind_of, words_of, targets_of, Names}
use Rattle.frame_model.specs.Views.{reach, part_of, among, without, less_one, IsStaked, IsSound}
use Rattle.frame_model.specs.Views.{IsLoose}
use Rattle.frame_model.specs.Rule.{At, IsNamedByOwn, FrameRule}
use Rattle.frame_model.proofs.Reach.{has_left, has_right, has_append, has_by_kind, children_has}
use Rattle.frame_model.proofs.Reach.{within_front, within_inside, within_parent, within_closed}
use Rattle.frame_model.proofs.Reach.{kind_number_most, dec_has, has_targets}
use Rattle.frame_model.proofs.Parts.{has_among, has_without, among_has, without_has, times_parts}
use Rattle.frame_model.proofs.Parts.{length_parts, has_less, less_has, times_less, length_less}
use Rattle.frame_model.proofs.Owners.{named, owned_reached, loose_count, child_link, link_child}
use Rattle.frame_model.proofs.Owners.{no_link, one_holder, one_table}
use Rattle.frame_model.proofs.Rules.{sound, sound_closed}
use Rattle.frame_words.specs.Steps.{pile_of, tree_of}
use Rattle.frame_words.proofs.Partings.{IsPart, IsParting}

-- ---- parts of a sound view

module _ (v : View) (is : IsSound v) where
  pub root_reached : (f : ℕ) → Has f v.owned ⊎ Has f v.references → Has f (reach v)
  root_reached f h = within_front v.known depth (v.owned ++ v.references) f
      (⊎_elim (λ o. has_left f v.owned v.references o) (λ r. has_right f v.owned v.references r) h)

  pub part_reached : (owned references : List ℕ) (stake : ℕ) → ((f : ℕ) → Has f owned → Has f v.owned) → ((f : ℕ) → Has f references → Has f v.references)
      → (f : ℕ) → Has f (reach (part_of v owned references stake)) → Has f (reach v)
  part_reached owned references stake os rs f h =
      within_inside (λ (x : ℕ). Has x (reach v)) v.known depth (owned ++ references)
      (λ x hx. ⊎_elim (λ o. root_reached x (inl (os x o))) (λ r. root_reached x (inr (rs x r))) (has_append x owned references hx))
      (λ x y hx t. sound_closed v is x y hx t) f h

  among_once : (gs : List ℕ) (f : ℕ) → times f (among gs v.owned) ≤ 1
  among_once gs f = let a = times_parts gs f v.owned in let b = is.once f in omega arith

  without_once : (gs : List ℕ) (f : ℕ) → times f (without gs v.owned) ≤ 1
  without_once gs f = let a = times_parts gs f v.owned in let b = is.once f in omega arith

  staked : (owned references : List ℕ) (stake : ℕ) → length references ≤ 16 → 0 < stake → IsStaked (part_of v owned references stake)
  staked owned references stake few live = record { few = few; spent = λ z. absurd (omega arith) }

  -- the tree of a frame that is reached is reached, and closed
  pub tree_reached : (root : ℕ) → Has root (reach v) → (f : ℕ) → Has f (tree_of v root) → Has f (reach v)
  tree_reached root h f t =
      within_inside (λ (x : ℕ). Has x (reach v)) v.known depth (root ∷ [])
      (λ x hx. ⊎_elim (λ (e : x ≡ root). subst (λ (y : ℕ). Has y (reach v)) (sym e) h) (λ n. absurd n) hx)
      (λ x y hx t'. sound_closed v is x y hx t') f t

  pub tree_closed : (root : ℕ) → Has root (reach v) → (f x : ℕ) → Has f (tree_of v root) → Has x (targets_of (known_of v.known f)) → Has x (tree_of v root)
  tree_closed root h =
      within_closed (λ (y : ℕ). kind_number (kind_of v y)) v.known depth (root ∷ [])
      (λ g hg. let a = kind_number_most (kind_of v g) in omega arith)
      (λ f x hf t.
      let r = tree_reached root h f hf in
      let k = has_by_kind (kind_of v f) (words_of v f) x t in
      let p = has_targets (words_of v f) x k.1 in
      let w = is.whole f r in
      let e = is.entries f p.0 r (omega (arith, p.1)) k.0 p.2 in
      subst (λ (y : ℕ). kind_number (kind_of v y) + 1 ≡ kind_number (kind_of v f)) p.3 e.below)

  -- what is in a pile names nothing, and nothing owned names it
  abbrev pub IsPile : ℕ → ℕ → Type 0
  IsPile first count = (f : ℕ) → Has f (pile_of v first count) → IsLoose v f × (kind_of v f ≡ Data)

  pile_names : (first count f g : ℕ) → IsPile first count → Has g (pile_of v first count) → Names v g f → ⊥
  pile_names first count f g there pile t =
      let k = has_by_kind (kind_of v g) (words_of v g) f t in
      let z = ap kind_number (there g pile).1 in
      let lt = k.0 in
      absurd (omega arith)

  pub pile_left : (first count stake : ℕ) → IsPile first count → 0 < stake → IsPart v (without (pile_of v first count) v.owned) v.references stake
  pile_left first count stake there live =
      let gs = pile_of v first count in
      let s = is.staked.few in
      record {
        reached = part_reached (without gs v.owned) v.references stake (λ f o. (has_without gs v.owned f o).1) (λ f r. r);
        own = λ f o. (has_without gs v.owned f o).1;
        refers = λ f r. r;
        above = λ f g o own _ t. without_has gs v.owned g (λ pile. pile_names first count f g there pile t) own;
        once = without_once gs;
        staked = staked (without gs v.owned) v.references stake (omega arith) live;
      }

  pub pile_right : (first count stake : ℕ) → IsPile first count → 0 < stake → IsPart v (among (pile_of v first count) v.owned) [] stake
  pile_right first count stake there live =
      let gs = pile_of v first count in
      record {
        reached = part_reached (among gs v.owned) [] stake (λ f o. (has_among gs v.owned f o).1) (λ f r. absurd r);
        own = λ f o. (has_among gs v.owned f o).1;
        refers = λ f r. absurd r;
        above = λ f g o own _ t.
            absurd ((there f (has_among gs v.owned f o).0).0.unnamed (children_has v.known v.owned g f own t));
        once = among_once gs;
        staked = staked (among gs v.owned) [] stake (omega arith) live;
      }

  pub owned_left : (root stake : ℕ) → Has root v.owned → 0 < stake → IsPart v (without (tree_of v root) v.owned) (without (root ∷ []) v.references) stake
  owned_left root stake root_own live =
      let s = is.staked.few in
      let l = length_parts (root ∷ []) v.references in
      record {
        reached = part_reached (without (tree_of v root) v.owned) (without (root ∷ []) v.references) stake
            (λ f o. (has_without (tree_of v root) v.owned f o).1) (λ f r. (has_without (root ∷ []) v.references f r).1);
        own = λ f o. (has_without (tree_of v root) v.owned f o).1;
        refers = λ f r. (has_without (root ∷ []) v.references f r).1;
        above = λ f g o own _ t. without_has (tree_of v root) v.owned g
            (λ below. (has_without (tree_of v root) v.owned f o).0
            (tree_closed root (root_reached root (inl root_own)) g f below t)) own;
        once = without_once (tree_of v root);
        staked = staked (without (tree_of v root) v.owned) (without (root ∷ []) v.references) stake (omega arith) live;
      }

  -- what the new holder of a tree reaches is in the tree
  pub tree_alone : (root stake : ℕ) → Has root v.owned → (f : ℕ)
      → Has f (reach (part_of v (among (tree_of v root) v.owned) (among (root ∷ []) v.references) stake))
      → Has f (tree_of v root)
  tree_alone root stake root_own f h =
      let tree = tree_of v root in
      within_inside (λ (x : ℕ). Has x tree) v.known depth (among tree v.owned ++ among (root ∷ []) v.references)
      (λ x hx. ⊎_elim
      (λ g. (has_among tree v.owned x g).0)
      (λ g. within_front v.known depth (root ∷ []) x (has_among (root ∷ []) v.references x g).0)
      (has_append x (among tree v.owned) (among (root ∷ []) v.references) hx))
      (λ x y hx t. tree_closed root (root_reached root (inl root_own)) x y hx t)
      f h

  pub owned_right : (root stake : ℕ) → Has root v.owned → 0 < stake → IsPart v (among (tree_of v root) v.owned) (among (root ∷ []) v.references) stake
  owned_right root stake root_own live =
      let s = is.staked.few in
      let l = length_parts (root ∷ []) v.references in
      record {
        reached = part_reached (among (tree_of v root) v.owned) (among (root ∷ []) v.references) stake
            (λ f o. (has_among (tree_of v root) v.owned f o).1) (λ f r. (has_among (root ∷ []) v.references f r).1);
        own = λ f o. (has_among (tree_of v root) v.owned f o).1;
        refers = λ f r. (has_among (root ∷ []) v.references f r).1;
        above = λ f g o own r t. among_has (tree_of v root) v.owned g (tree_alone root stake root_own g r) own;
        once = among_once (tree_of v root);
        staked = staked (among (tree_of v root) v.owned) (among (root ∷ []) v.references) stake (omega arith) live;
      }

  pub alone_left : (root stake : ℕ) → Has root v.references → 0 < stake → IsPart v v.owned (less_one root v.references) stake
  alone_left root stake h live =
      let s = is.staked.few in
      let l = length_less root v.references h in
      record {
        reached = part_reached v.owned (less_one root v.references) stake (λ f o. o) (λ f r. has_less root v.references f r);
        own = λ f o. o;
        refers = λ f r. has_less root v.references f r;
        above = λ f g o own _ t. own;
        once = is.once;
        staked = staked v.owned (less_one root v.references) stake (omega arith) live;
      }

  pub alone_right : (root stake : ℕ) → Has root v.references → 0 < stake → IsPart v [] (root ∷ []) stake
  alone_right root stake h live = record {
    reached = part_reached [] (root ∷ []) stake (λ f o. absurd o)
        (λ f r. ⊎_elim (λ (e : f ≡ root). subst (λ (y : ℕ). Has y v.references) (sym e) h) (λ n. absurd n) r);
    own = λ f o. absurd o;
    refers = λ f r. ⊎_elim (λ (e : f ≡ root). subst (λ (y : ℕ). Has y v.references) (sym e) h) (λ n. absurd n) r;
    above = λ f g o own _ t. absurd o;
    once = λ f. omega arith;
    staked = staked [] (root ∷ []) stake (omega arith) live;
  }

-- ---- partings

module _ (n : ℕ) (m : Frames) (views : List View) (rule : FrameRule n m views) (id : ℕ) (v : View) (at : At views id v) where
  -- a pile of loose data
  pub pile_parting : (first count stake : ℕ) → ((f : ℕ) → Has f (pile_of v first count) → IsLoose v f × (kind_of v f ≡ Data)) → 1 ≤ stake → stake < v.stake
      → IsParting m v (without (pile_of v first count) v.owned) v.references (v.stake - stake) (among (pile_of v first count) v.owned) [] stake
  pile_parting first count stake there some_stake rest =
      let is = sound n m views rule id v at in
      let gs = pile_of v first count in
      let a = rule.agrees id v at in
      let zero_count : (f : ℕ) → Has f gs → count_at m f ≡ 0 = λ f g. loose_count n m views rule id v at f (there f g).0 in
      record {
        left = pile_left v is first count (v.stake - stake) there (omega arith);
        right = pile_right v is first count stake there (omega arith);
        live = omega arith;
        all = λ f o. ⊎_elim (λ g. inr (among_has gs v.owned f g o)) (λ g. inl (without_has gs v.owned f g o)) (dec_has f gs);
        left_owned = λ f o. (has_without gs v.owned f o).1;
        right_owned = λ f o. (has_among gs v.owned f o).1;
        left_apart = λ f o r. (has_without gs v.owned f o).0
            (within_inside (λ (x : ℕ). Has x gs) v.known depth (among gs v.owned ++ [])
            (λ x hx. ⊎_elim (λ g. (has_among gs v.owned x g).0) (λ e. absurd e) (has_append x (among gs v.owned) [] hx))
            (λ x y g t. absurd (let k = has_by_kind (kind_of v x) (words_of v x) y t in let z = ap kind_number (there x g).1 in let lt = k.0 in omega arith))
            f r);
        right_apart = λ f o r.
            (within_inside (λ (x : ℕ). (Has x gs → ⊥) × Has x (reach v)) v.known depth (without gs v.owned ++ v.references)
            (λ x hx. ⊎_elim
            (λ g. let p = has_without gs v.owned x g in (p.0, root_reached v is x (inl p.1)))
            (λ g. ((λ q. (there x q).0.unreferred g), root_reached v is x (inr g)))
            (has_append x (without gs v.owned) v.references hx))
            (λ x y p t.
            let l = child_link n m views rule id v at x y p.1 t in
            let ry = sound_closed v is x y p.1 t in
            ((λ g. no_link n m views rule y x l.0 (a.inside y ry) (a.inside x p.1) l.1 (zero_count y g) l.2), ry))
            f r).0 (has_among gs v.owned f o).0;
        references = λ f. omega arith;
        left_held = λ f o h. record {
          once = h.once;
          by = ⊎_elim
              (λ r. inl r)
              (λ (b : IsNamedByOwn m v f). inr (record {
                table = b.table;
                index = b.index;
                owned = without_has gs v.owned b.table
                    (λ g. absurd (
                    let k = a.kind b.table (owned_reached n m views rule v b.table b.owned) in
                    let z = ap kind_number (there b.table g).1 in
                    let t = (named m f b.table b.index b.named).0 in
                    omega arith)) b.owned;
                inside = b.inside;
                named = b.named;
              }))
              h.by;
        };
        right_held = λ f o h. absurd (let z = zero_count f (has_among gs v.owned f o).0 in let e = h.once in omega arith);
        stakes = omega arith;
      }

  -- a root that the view only refers to
  pub alone_parting : (root stake : ℕ) → (Has root v.owned → ⊥) → Has root v.references → 1 ≤ stake → stake < v.stake
      → IsParting m v v.owned (less_one root v.references) (v.stake - stake) [] (root ∷ []) stake
  alone_parting root stake away ref some_stake rest =
      let is = sound n m views rule id v at in
      record {
        left = alone_left v is root (v.stake - stake) ref (omega arith);
        right = alone_right v is root stake ref (omega arith);
        live = omega arith;
        all = λ f o. inl o;
        left_owned = λ f o. o;
        right_owned = λ f o. absurd o;
        left_apart = λ f o r.
            (within_inside (λ (x : ℕ). (Has x v.owned → ⊥) × Has x (reach v)) v.known depth ([] ++ root ∷ [])
            (λ x hx. ⊎_elim
            (λ (e : x ≡ root). subst (λ (y : ℕ). (Has y v.owned → ⊥) × Has y (reach v)) (sym e) (away, root_reached v is root (inr ref)))
            (λ none. absurd none) hx)
            (λ x y p t.
            let l = child_link n m views rule id v at x y p.1 t in
            ((λ g. p.0 (one_holder n m views rule id v at y x l.0 g p.1 l.1 l.2).1), sound_closed v is x y p.1 t))
            f r).0 o;
        right_apart = λ f o r. o;
        references = λ f. times_less root v.references f ref;
        left_held = λ f o h. record {
          once = h.once;
          by = ⊎_elim
              (λ r. inl (less_has root v.references f (λ e. away (subst (λ (y : ℕ). Has y v.owned) e o)) r))
              (λ (b : IsNamedByOwn m v f). inr (record { table = b.table; index = b.index; owned = b.owned; inside = b.inside; named = b.named }))
              h.by;
        };
        right_held = λ f o h. absurd o;
        stakes = omega arith;
      }

  -- a root that the view owns
  pub owned_parting : (root stake : ℕ) → Has root v.owned → IsLoose v root ⊎ Has root v.references → 1 ≤ stake → stake < v.stake
      → IsParting m v (without (tree_of v root) v.owned) (without (root ∷ []) v.references) (v.stake - stake)
      (among (tree_of v root) v.owned) (among (root ∷ []) v.references) stake
  owned_parting root stake own free some_stake rest =
      let is = sound n m views rule id v at in
      let tree = tree_of v root in
      let a = rule.agrees id v at in
      let root_in : Has root tree = within_front v.known depth (root ∷ []) root (inl refl) in
      let rr : Has root (reach v) = root_reached v is root (inl own) in
      let closed = tree_closed v is root rr in
      let inside = tree_reached v is root rr in
      -- no link names the root
      let top : (g i : ℕ) → Has g (reach v) → i < 512 → names m root g i ≡ true → ⊥ = λ g i rg lt e. ⊎_elim
      (λ (l : IsLoose v root). no_link n m views rule root g i (a.inside root rr) (a.inside g rg) lt (loose_count n m views rule id v at root l) e)
      (λ r. (one_holder n m views rule id v at root g i own rg lt e).0 r)
      free in
      -- what is owned below the root has no reference
      let below : (x : ℕ) → Has x v.owned → Has x tree → x ≢ root → Has x v.references → ⊥ = λ x o t ne r. ⊎_elim
      (λ h. ⊎_elim (λ e. absurd (ne e)) (λ none. absurd none) h)
      (λ (q : (g : ℕ) × Has g tree × Has x (targets_of (known_of v.known g))).
      let l = child_link n m views rule id v at q.0 x (inside q.0 q.1) q.2 in
      absurd ((one_holder n m views rule id v at x q.0 l.0 o (inside q.0 q.1) l.1 l.2).0 r))
      (within_parent v.known depth (root ∷ []) x t) in
      -- and what names it is below the root
      let above : (x g i : ℕ) → Has x v.owned → Has x tree → Has g (reach v) → i < 512 → names m x g i ≡ true → Has g tree = λ x g i o t rg lt e. ⊎_elim
      (λ h. ⊎_elim (λ (k : x ≡ root). absurd (top g i rg lt (subst (λ (y : ℕ). names m y g i ≡ true) k e))) (λ none. absurd none) h)
      (λ (q : (h : ℕ) × Has h tree × Has x (targets_of (known_of v.known h))).
      let l = child_link n m views rule id v at q.0 x (inside q.0 q.1) q.2 in
      subst (λ (y : ℕ). Has y tree) (one_table n m views rule id v at x q.0 l.0 g i o (inside q.0 q.1) l.1 l.2 rg lt e) q.1)
      (within_parent v.known depth (root ∷ []) x t) in
      record {
        left = owned_left v is root (v.stake - stake) own (omega arith);
        right = owned_right v is root stake own (omega arith);
        live = omega arith;
        all = λ f o. ⊎_elim (λ g. inr (among_has tree v.owned f g o)) (λ g. inl (without_has tree v.owned f g o)) (dec_has f tree);
        left_owned = λ f o. (has_without tree v.owned f o).1;
        right_owned = λ f o. (has_among tree v.owned f o).1;
        left_apart = λ f o r. (has_without tree v.owned f o).0 (tree_alone v is root stake own f r);
        right_apart = λ f o r.
            let p = has_among tree v.owned f o in
            (within_inside (λ (x : ℕ). (Has x v.owned → Has x tree → ⊥) × Has x (reach v)) v.known depth (without tree v.owned ++ without (root ∷ []) v.references)
            (λ x hx. ⊎_elim
            (λ g. let q = has_without tree v.owned x g in ((λ _ t. q.0 t), root_reached v is x (inl q.1)))
            (λ g. let q = has_without (root ∷ []) v.references x g in ((λ ox t. below x ox t (λ e. q.0 (inl e)) q.1), root_reached v is x (inr q.1)))
            (has_append x (without tree v.owned) (without (root ∷ []) v.references) hx))
            (λ x y q t.
            let l = child_link n m views rule id v at x y q.1 t in
            ((λ oy ty. q.0 (one_holder n m views rule id v at y x l.0 oy q.1 l.1 l.2).1 (above y x l.0 oy ty q.1 l.1 l.2)), sound_closed v is x y q.1 t))
            f r).0 p.1 p.0;
        references = λ f. times_parts (root ∷ []) f v.references;
        left_held = λ f o h.
            let q = has_without tree v.owned f o in
            record {
              once = h.once;
              by = ⊎_elim
                  (λ r. inl (without_has (root ∷ []) v.references f (λ g. ⊎_elim (λ (e : f ≡ root). q.0 (subst (λ (y : ℕ). Has y tree) (sym e) root_in)) (λ none. none) g) r))
                  (λ (b : IsNamedByOwn m v f). inr (record {
                    table = b.table;
                    index = b.index;
                    owned = without_has tree v.owned b.table
                        (λ g. q.0 (closed b.table f g (link_child n m views rule id v at b.table f b.index (owned_reached n m views rule v b.table b.owned) b.inside b.named))) b.owned;
                    inside = b.inside;
                    named = b.named;
                  }))
                  h.by;
            };
        right_held = λ f o h.
            let q = has_among tree v.owned f o in
            record {
              once = h.once;
              by = ⊎_elim
                  (λ r. ⊎_elim
                  (λ (e : f ≡ root). inl (among_has (root ∷ []) v.references f (inl e) r))
                  (λ (ne : f ≡ root → ⊥). absurd (below f q.1 q.0 ne r))
                  (cases_eq f root))
                  (λ (b : IsNamedByOwn m v f). inr (record {
                    table = b.table;
                    index = b.index;
                    owned = among_has tree v.owned b.table (above f b.table b.index q.1 q.0 (owned_reached n m views rule v b.table b.owned) b.inside b.named) b.owned;
                    inside = b.inside;
                    named = b.named;
                  }))
                  h.by;
            };
        stakes = omega arith;
      }
