-- One reference more, and one less, keep the rule.
use Rattle.std.proofs.Common.{◌≡◌, ℕ, ◌+◌, ◌*◌, ◌/◌, ◌%◌, ◌<◌, ◌≤◌, ◌≢◌, ◌⊎◌, true, false, List, [], ◌∷◌, ◌++◌, length, set, refl, sym, ap, subst, ◌∙◌, inl, inr, ⊎_elim, arith}
use Rattle.std.proofs.lemmas.Bool.{cases_eq, cases_Bool, and_parts, and_from, or_cases, or_left, or_right, cond-true, cond-false}
use Rattle.frame_model.specs.Words.{depth}
use Rattle.frame_model.specs.declared.view.View.{View}
use Rattle.frame_model.specs.Words.{Frames, frames_in, meta_place, kind_at, count_at, IsMeta, names, links}
use Rattle.frame_model.specs.Views.{Has, has, times, known_of, targets_of, children, within, reach, part_of, without, less_one, IsSound, IsLoose}
use Rattle.frame_model.specs.Rule.{At, total, Agrees, IsNamedByOwn, IsHeldOnce, FrameRule}
use Rattle.frame_model.proofs.Counts.{names_same, links_same, links_some, total_at, total_two}
use Rattle.frame_model.proofs.Owners.{child_link, link_child, loose_count, no_link, owned_reached}
use Rattle.frame_model.proofs.Parts.{has_true, has_false, true_has, has_without, without_has, times_parts, has_less, less_has, times_less, length_less}
use Rattle.frame_model.proofs.Reach.{has_append, has_children, times_here, times_else, absent, present, within_empty, within_front, within_parent}
use Rattle.frame_model.proofs.Rules.{sound}
use Rattle.frame_words.proofs.Places as places
use Rattle.frame_words.proofs.Splits.{root_reached, tree_reached, tree_closed}
use Rattle.frame_words.specs.Steps.{tree_of}
use Rattle.frame_steps.specs.Counted.{owning, is_counted, gives_up, IsNamedTwice, referred_twice, linked}
use Rattle.frame_steps.proofs.Changes.{reached_from, descends_kept, IsChange}

-- ---- owning

pub owning_has : (fs : List ℕ) (f g : ℕ) → Has g (owning fs f) → Has g fs ⊎ (g ≡ f)
owning_has fs f g h = ⊎_elim
    (λ (t : has f fs ≡ true). inl (subst (λ (xs : List ℕ). Has g xs) (cond-true (has f fs) fs (f ∷ fs) t) h))
    (λ (o : has f fs ≡ false). ⊎_elim (λ e. inr e) (λ r. inl r) (subst (λ (xs : List ℕ). Has g xs) (cond-false (has f fs) fs (f ∷ fs) o) h))
    (cases_Bool (has f fs))

pub owning_old : (fs : List ℕ) (f g : ℕ) → Has g fs → Has g (owning fs f)
owning_old fs f g h = ⊎_elim
    (λ (t : has f fs ≡ true). subst (λ (xs : List ℕ). Has g xs) (sym (cond-true (has f fs) fs (f ∷ fs) t)) h)
    (λ (o : has f fs ≡ false). subst (λ (xs : List ℕ). Has g xs) (sym (cond-false (has f fs) fs (f ∷ fs) o)) (inr h))
    (cases_Bool (has f fs))

pub owning_new : (fs : List ℕ) (f : ℕ) → Has f (owning fs f)
owning_new fs f = ⊎_elim
    (λ (t : has f fs ≡ true). subst (λ (xs : List ℕ). Has f xs) (sym (cond-true (has f fs) fs (f ∷ fs) t)) (has_true f fs t))
    (λ (o : has f fs ≡ false). subst (λ (xs : List ℕ). Has f xs) (sym (cond-false (has f fs) fs (f ∷ fs) o)) (inl refl))
    (cases_Bool (has f fs))

pub owning_once : (fs : List ℕ) (f g : ℕ) → times g fs ≤ 1 → times g (owning fs f) ≤ 1
owning_once fs f g once = ⊎_elim
    (λ (t : has f fs ≡ true). subst (λ (xs : List ℕ). times g xs ≤ 1) (sym (cond-true (has f fs) fs (f ∷ fs) t)) once)
    (λ (o : has f fs ≡ false). subst (λ (xs : List ℕ). times g xs ≤ 1) (sym (cond-false (has f fs) fs (f ∷ fs) o))
    (⊎_elim
    (λ (e : g ≡ f).
    let a = absent g fs (λ h. has_false f fs o (subst (λ (x : ℕ). Has x fs) e h)) in
    let b = times_here g f fs e in
    omega arith)
    (λ (ne : g ≡ f → ⊥). let b = times_else g f fs ne in omega arith)
    (cases_eq g f)))
    (cases_Bool (has f fs))

-- ---- giving up

-- of an owned frame a view tells whether its count is 0
pub not_given_up : (v : View) (f : ℕ) → gives_up v f ≡ false → Has f v.owned → IsLoose v f
unfolding gives_up
not_given_up v f no_way o =
    let away : is_counted v f ≡ true → ⊥ = λ t. absurd (let u = and_from (has f v.owned) (is_counted v f) (true_has f v.owned o) t in cc) in
    record {
      owned = o;
      unreferred = λ r. away (or_left (has f v.references) (has f (children v.known v.owned)) (true_has f v.references r));
      unnamed = λ c. away (or_right (has f v.references) (has f (children v.known v.owned)) (true_has f (children v.known v.owned) c));
    }

pub given_up : (n : ℕ) (m : Frames) (views : List View) → FrameRule n m views → (id : ℕ) (v : View) → At views id v → (f : ℕ) → f < n → gives_up v f ≡ true → count_at m f ≡ 0 → ⊥
unfolding gives_up
given_up n m views rule id v at f lt t z =
    let both = and_parts (has f v.owned) (is_counted v f) t in
    let counted = rule.counted f lt in
    ⊎_elim
    (λ a.
    let p = present f v.references (has_true f v.references a) in
    let all = total_at (λ u. times f u.references) views id v at in
    absurd (omega arith))
    (λ b.
    let q = has_children v.known v.owned f (has_true f (children v.known v.owned) b) in
    let rg = owned_reached n m views rule v q.0 q.1 in
    let k = child_link n m views rule id v at q.0 f rg q.2 in
    no_link n m views rule f q.0 k.0 lt ((rule.agrees id v at).inside q.0 rg) k.1 z k.2)
    (or_cases (has f v.references) (has f (children v.known v.owned)) both.1)

-- ---- another count of one frame

module _ (n : ℕ) (ws : List ℕ) (views : List View) (rule : FrameRule n (frames_in ws) views) (size : length ws ≡ n * 513)
    (id : ℕ) (v : View) (at : At views id v) (f : ℕ) (r : Has f (reach v)) (y : ℕ) (low : y % 256 ≡ (frames_in ws).meta f % 256) where
  abbrev l : Frames
  l = frames_in ws

  abbrev m : Frames
  m = frames_in (set ws (meta_place f) y)

  is : IsSound v
  is = sound n l views rule id v at

  in_table : f < n
  in_table = (rule.agrees id v at).inside f r

  here : m.meta f ≡ y
  here = let a = in_table in places.meta_dress_here ws y f (omega arith)

  elsewhere : (g : ℕ) → g ≢ f → m.meta g ≡ l.meta g
  elsewhere g ne = places.meta_dress_else ws y f g ne

  word : (g j : ℕ) → j < 512 → m.word g j ≡ l.word g j
  word g j k = places.word_dress ws y f g j k

  kinds : (g : ℕ) → kind_at m g ≡ kind_at l g
  kinds g = ⊎_elim
      (λ (e : g ≡ f).
      let h = here in
      let k : kind_at m f ≡ kind_at l f = omega arith in
      subst (λ (x : ℕ). kind_at m x ≡ kind_at l x) (sym e) k)
      (λ (ne : g ≢ f). ap (λ (x : ℕ). x % 8) (elsewhere g ne))
      (cases_eq g f)

  metas : (g : ℕ) → g < n → IsMeta (m.meta g)
  metas g lt = ⊎_elim
      (λ (e : g ≡ f).
      let h = here in
      let k : IsMeta (l.meta f) = rule.kinds f in_table in
      let q : IsMeta (m.meta f) = omega arith in
      subst (λ (x : ℕ). IsMeta (m.meta x)) (sym e) q)
      (λ (ne : g ≢ f). subst IsMeta (sym (elsewhere g ne)) (rule.kinds g lt))
      (cases_eq g f)

  counts : (g : ℕ) → g ≢ f → count_at m g ≡ count_at l g
  counts g ne = ap (λ (x : ℕ). x / 256) (elsewhere g ne)

  far : (g : ℕ) → (Has g (reach v) → ⊥) → count_at m g ≡ count_at l g
  far g away = counts g (λ e. away (subst (λ (x : ℕ). Has x (reach v)) (sym e) r))

  link : (h g j : ℕ) → j < 512 → names m h g j ≡ names l h g j
  link h g j k = names_same m l h g j (kinds g) (word g j k)

  link_number : (h : ℕ) → length (links n m h) ≡ length (links n l h)
  link_number h = ap (λ (xs : List (ℕ × ℕ)). length xs) (links_same m l h n (λ g j _ k. link h g j k))

  descends : (g i : ℕ) → g < n → i < 512 → 0 < kind_at m g → (m.word g i ≡ 0 → ⊥) → Rattle.frame_model.specs.Rule.Descends n m g i
  descends g i lt k table ne =
      let same = kinds g in
      descends_kept n l m g i kinds (word g i k) (rule.descends g i lt k (omega arith) (λ z. ne (word g i k ∙ z)))

  live : v.stake ≡ 0 → ⊥
  live z =
      let s = (rule.stakes.each id v at).spent z in
      within_empty v.known depth f (subst (λ (p : List ℕ × List ℕ). Has f (within v.known depth (p.0 ++ p.1))) (λ k. (s.0 k, s.1 k)) r)

  named : (owned references : List ℕ) (g : ℕ) → ((x : ℕ) → Has x v.owned → Has x owned) → IsNamedByOwn l v g → IsNamedByOwn m (part_of v owned references v.stake) g
  named owned references g os b = record {
    table = b.table;
    index = b.index;
    owned = os b.table b.owned;
    inside = b.inside;
    named = link g b.table b.index b.inside ∙ b.named;
  }

  agrees : (owned references : List ℕ) → ((g : ℕ) → Has g (reach (part_of v owned references v.stake)) → Has g (reach v)) → Agrees n m (part_of v owned references v.stake)
  agrees owned references back =
      let a = rule.agrees id v at in
      record {
        frames = a.frames;
        inside = λ g h. a.inside g (back g h);
        whole = λ g h. a.whole g (back g h);
        kind = λ g h. kinds g ∙ a.kind g (back g h);
        word = λ g i h lt. word g i lt ∙ a.word g i (back g h) lt;
      }

  -- ---- one more

  module _ (more : y ≡ l.meta f + 256) (few : length v.references < 16) where
    more_count : count_at m f ≡ count_at l f + 1
    more_count = let h = here in omega arith

    more_count_at : (g : ℕ) → g ≡ f → count_at m g ≡ count_at l g + 1
    more_count_at g e = subst (λ (x : ℕ). count_at m x ≡ count_at l x + 1) (sym e) more_count

    -- the holder keeps of what it owned at least what has count 0
    module _ (owned : List ℕ) (old : (g : ℕ) → Has g owned → Has g v.owned) (still : (g : ℕ) → Has g v.owned → count_at l g ≡ 0 → Has g owned)
        (once : (g : ℕ) → times g owned ≤ 1) (held : (g : ℕ) → Has g owned → (count_at m g ≡ 0 → ⊥) → IsHeldOnce m (part_of v owned (f ∷ v.references) v.stake) g) where
      more_reached : (g : ℕ) → Has g (reach (part_of v owned (f ∷ v.references) v.stake)) → Has g (reach v)
      more_reached = reached_from v is (owned ++ f ∷ v.references) (λ g h. ⊎_elim
          (λ o. root_reached v is g (inl (old g o)))
          (λ q. ⊎_elim (λ (e : g ≡ f). subst (λ (x : ℕ). Has x (reach v)) (sym e) r) (λ s. root_reached v is g (inr s)) q)
          (has_append g owned (f ∷ v.references) h))

      more_change : IsChange n l m views id v (part_of v owned (f ∷ v.references) v.stake)
      more_change = record {
        agrees = agrees owned (f ∷ v.references) more_reached;
        reached = more_reached;
        owns = λ g o j u there ne q. rule.apart id j v u at there ne g (old g o) q;
        once = once;
        kinds = kinds;
        metas = metas;
        far = far;
        words = λ g i _ lt. word g i lt;
        counted = λ g lt.
            let a = link_number g in
            ⊎_elim
            (λ (e : g ≡ f). let t = times_here g f v.references e in let c = more_count_at g e in omega arith)
            (λ (ne : g ≢ f). let t = times_else g f v.references ne in let c = counts g ne in omega arith)
            (cases_eq g f);
        loose = λ g lt z. ⊎_elim
            (λ (e : g ≡ f). let c = more_count_at g e in absurd (omega arith))
            (λ (ne : g ≢ f). let d : count_at l g ≡ 0 = sym (counts g ne) ∙ z in inr (d, (λ o. still g o d)))
            (cases_eq g f);
        held = held;
        descends = descends;
        staked = record { few = omega arith; spent = λ z. absurd (live z) };
        stake = refl;
      }

    -- nothing is given up where f isn't owned, or has count 0
    pub gain_change : (Has f v.owned → IsLoose v f) → IsChange n l m views id v (part_of v v.owned (f ∷ v.references) v.stake)
    gain_change fresh = more_change v.owned (λ g o. o) (λ g o _. o) (rule.owned.once id v at) (λ g o some_count. ⊎_elim
        (λ (e : g ≡ f).
        let z = loose_count n l views rule id v at f (fresh (subst (λ (x : ℕ). Has x v.owned) e o)) in
        let c = more_count in
        let d : count_at m f ≡ 1 = omega arith in
        record { once = subst (λ (x : ℕ). count_at m x ≡ 1) (sym e) d; by = inl (inl e) })
        (λ (ne : g ≢ f).
        let h = rule.owned.held id v at g o (λ z. some_count (counts g ne ∙ z)) in
        record {
          once = counts g ne ∙ h.once;
          by = ⊎_elim (λ q. inl (inr q)) (λ (b : IsNamedByOwn l v g). inr (named v.owned (f ∷ v.references) g (λ x q. q) b)) h.by;
        })
        (cases_eq g f))

    -- an owned frame of another count is given up, with all owned frames below it
    pub give_up_change : (count_at l f ≡ 0 → ⊥) → IsChange n l m views id v (part_of v (without (tree_of v f) v.owned) (f ∷ v.references) v.stake)
    give_up_change counted =
        let tree = tree_of v f in
        let root_in : Has f tree = within_front v.known depth (f ∷ []) f (inl refl) in
        more_change (without tree v.owned)
        (λ g o. (has_without tree v.owned g o).1)
        (λ g o z. without_has tree v.owned g
        (λ t. ⊎_elim
        (λ q. ⊎_elim (λ (e : g ≡ f). counted (subst (λ (x : ℕ). count_at l x ≡ 0) e z)) (λ none. absurd none) q)
        (λ (p : (h : ℕ) × Has h tree × Has g (targets_of (known_of v.known h))).
        let rh = tree_reached v is f r p.0 p.1 in
        let k = child_link n l views rule id v at p.0 g rh p.2 in
        absurd (no_link n l views rule g p.0 k.0 ((rule.agrees id v at).inside g (root_reached v is g (inl o))) ((rule.agrees id v at).inside p.0 rh) k.1 z k.2))
        (within_parent v.known depth (f ∷ []) g t)) o)
        (λ g. let a = times_parts tree g v.owned in let b = rule.owned.once id v at g in omega arith)
        (λ g o some_count.
        let q = has_without tree v.owned g o in
        let ne : g ≢ f = λ e. q.0 (subst (λ (x : ℕ). Has x tree) (sym e) root_in) in
        let h = rule.owned.held id v at g q.1 (λ z. some_count (counts g ne ∙ z)) in
        record {
          once = counts g ne ∙ h.once;
          by = ⊎_elim (λ s. inl (inr s))
              (λ (b : IsNamedByOwn l v g). inr (record {
                table = b.table;
                index = b.index;
                owned = without_has tree v.owned b.table
                    (λ t. q.0 (tree_closed v is f r b.table g t (link_child n l views rule id v at b.table g b.index (owned_reached n l views rule v b.table b.owned) b.inside b.named))) b.owned;
                inside = b.inside;
                named = link g b.table b.index b.inside ∙ b.named;
              }))
              h.by;
        })

  -- ---- one less

  module _ (less : y + 256 ≡ l.meta f) (ref : Has f v.references) where
    less_count : count_at m f + 1 ≡ count_at l f
    less_count = let h = here in omega arith

    -- a frame of count 1 is in no other reach
    lone : count_at l f ≡ 1 → (j : ℕ) (u : View) → At views j u → (id ≡ j → ⊥) → Has f (reach u) → ⊥
    lone one j u there ne q =
        let c = rule.counted f in_table in
        let p = present f v.references ref in
        ⊎_elim
        (λ h. ⊎_elim
        (λ o. rule.apart j id u v there at (λ e. ne (sym e)) f o r)
        (λ s.
        let two = total_two (λ x. times f x.references) views id j v u at there ne in
        let p2 = present f u.references s in
        absurd (omega arith))
        (has_append f u.owned u.references h))
        (λ (t : (g : ℕ) × Has g (reach u) × Has f (targets_of (known_of u.known g))).
        let k = child_link n l views rule j u there t.0 f t.1 t.2 in
        let some_link = links_some l f n t.0 k.0 ((rule.agrees j u there).inside t.0 t.1) k.1 k.2 in
        let all = total_at (λ x. times f x.references) views id v at in
        absurd (omega arith))
        (within_parent u.known depth (u.owned ++ u.references) f q)

    -- an owned frame with a reference has count 1
    pub own_once : Has f v.owned → count_at l f ≡ 1
    own_once o = let c = less_count in (rule.owned.held id v at f o (λ z. absurd (omega arith))).once

    -- nor has one of count 1 another name
    pub one_name : IsNamedTwice v f → count_at l f ≡ 1 → ⊥
    one_name (referred_twice two) one =
        let c = rule.counted f in_table in
        let all = total_at (λ x. times f x.references) views id v at in
        omega arith
    one_name (linked child) one =
        let c = rule.counted f in_table in
        let all = total_at (λ x. times f x.references) views id v at in
        let p = present f v.references ref in
        let t = has_children v.known (reach v) f child in
        let k = child_link n l views rule id v at t.0 f t.1 t.2 in
        let some_link = links_some l f n t.0 k.0 ((rule.agrees id v at).inside t.0 t.1) k.1 k.2 in
        omega arith

    module _ (owned : List ℕ) (from : (g : ℕ) → Has g owned → Has g v.owned ⊎ ((g ≡ f) × (count_at l f ≡ 1))) (old : (g : ℕ) → Has g v.owned → Has g owned)
        (new : count_at l f ≡ 1 → Has f owned) (once : (g : ℕ) → times g owned ≤ 1) where
      less_reached : (g : ℕ) → Has g (reach (part_of v owned (less_one f v.references) v.stake)) → Has g (reach v)
      less_reached = reached_from v is (owned ++ less_one f v.references) (λ g h. ⊎_elim
          (λ o. ⊎_elim (λ a. root_reached v is g (inl a)) (λ (t : (g ≡ f) × (count_at l f ≡ 1)). subst (λ (x : ℕ). Has x (reach v)) (sym t.0) r) (from g o))
          (λ q. root_reached v is g (inr (has_less f v.references g q)))
          (has_append g owned (less_one f v.references) h))

      pub lose_change : IsChange n l m views id v (part_of v owned (less_one f v.references) v.stake)
      lose_change = record {
        agrees = agrees owned (less_one f v.references) less_reached;
        reached = less_reached;
        owns = λ g o j u there ne q. ⊎_elim
            (λ a. rule.apart id j v u at there ne g a q)
            (λ (t : (g ≡ f) × (count_at l f ≡ 1)). lone t.1 j u there ne (subst (λ (x : ℕ). Has x (reach u)) t.0 q))
            (from g o);
        once = once;
        kinds = kinds;
        metas = metas;
        far = far;
        words = λ g i _ lt. word g i lt;
        counted = λ g lt.
            let a = link_number g in
            let b = times_less f v.references g ref in
            ⊎_elim
            (λ (e : g ≡ f).
            let t = times_here g f [] e in
            let c : count_at m g + 1 ≡ count_at l g = subst (λ (x : ℕ). count_at m x + 1 ≡ count_at l x) (sym e) less_count in
            omega arith)
            (λ (ne : g ≢ f). let t = times_else g f [] ne in let c = counts g ne in omega arith)
            (cases_eq g f);
        loose = λ g lt z. ⊎_elim
            (λ (e : g ≡ f).
            let c = less_count in
            let d : count_at m f ≡ 0 = subst (λ (x : ℕ). count_at m x ≡ 0) e z in
            inl (subst (λ (x : ℕ). Has x owned) (sym e) (new (omega arith))))
            (λ (ne : g ≢ f). inr (sym (counts g ne) ∙ z, old g))
            (cases_eq g f);
        held = λ g o some_count. ⊎_elim
            (λ (e : g ≡ f).
            let c = less_count in
            let one : count_at l f ≡ 1 = ⊎_elim (λ a. own_once (subst (λ (x : ℕ). Has x v.owned) e a)) (λ (t : (g ≡ f) × (count_at l f ≡ 1)). t.1) (from g o) in
            let d : count_at m f ≡ 0 = omega arith in
            absurd (some_count (subst (λ (x : ℕ). count_at m x ≡ 0) (sym e) d)))
            (λ (ne : g ≢ f).
            let a : Has g v.owned = ⊎_elim (λ a. a) (λ (t : (g ≡ f) × (count_at l f ≡ 1)). absurd (ne t.0)) (from g o) in
            let h = rule.owned.held id v at g a (λ z. some_count (counts g ne ∙ z)) in
            record {
              once = counts g ne ∙ h.once;
              by = ⊎_elim
                  (λ q. inl (less_has f v.references g ne q))
                  (λ (b : IsNamedByOwn l v g). inr (named owned (less_one f v.references) g old b))
                  h.by;
            })
            (cases_eq g f);
        descends = descends;
        staked =
            let s = (rule.stakes.each id v at).few in
            let k = length_less f v.references ref in
            record { few = omega arith; spent = λ z. absurd (live z) };
        stake = refl;
      }

      -- where the count was 1, nothing names the frame
      pub lose_loose : count_at l f ≡ 1 → IsLoose (part_of v owned (less_one f v.references) v.stake) f
      lose_loose one =
          let c = rule.counted f in_table in
          let all = total_at (λ x. times f x.references) views id v at in
          let p = present f v.references ref in
          record {
            owned = new one;
            unreferred = λ q.
                let b = times_less f v.references f ref in
                let t = times_here f f [] refl in
                let s = present f (less_one f v.references) q in
                absurd (omega arith);
            unnamed = λ q.
                let t = has_children v.known owned f q in
                let g : Has t.0 (reach v) = ⊎_elim
                (λ a. owned_reached n l views rule v t.0 a)
                (λ (e : (t.0 ≡ f) × (count_at l f ≡ 1)). subst (λ (x : ℕ). Has x (reach v)) (sym e.0) r)
                (from t.0 t.1) in
                let k = child_link n l views rule id v at t.0 f g t.2 in
                let some_link = links_some l f n t.0 k.0 ((rule.agrees id v at).inside t.0 g) k.1 k.2 in
                absurd (omega arith);
          }
