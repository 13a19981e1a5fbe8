-- An entry that takes another's place keeps the rule.
use Rattle.std.proofs.Common.{◌≡◌, ℕ, ◌+◌, ◌*◌, ◌/◌, ◌%◌, ◌<◌, ◌≤◌, ◌≢◌, ◌⊎◌, List, [], ◌∷◌, ◌++◌, length, get_or, set, refl, sym, ap, subst, ◌∙◌, inl, inr, ⊎_elim, arith, length-set, length-append, get_or-set_other, get_or-set_same}
use Rattle.std.proofs.lemmas.Bool.{cases_eq}
use Rattle.frame_model.specs.Words.{depth}
use Rattle.frame_model.specs.declared.view.Known.{Known}
use Rattle.frame_model.specs.declared.view.View.{View}
use Rattle.frame_model.specs.Words.{Frames, frames_in, word_place, kind_number, kind_at, count_at, IsEntryAt, names, target, links}
use Rattle.frame_model.specs.Views.{Has, times, forget, known_of, kind_of, words_of, word_of, targets, targets_by_kind, targets_of, reach, IsStaked, IsSound}
use Rattle.frame_model.specs.Rule.{At, Agrees, IsNamedByOwn, Descends, FrameRule}
use Rattle.frame_model.proofs.Counts.{names_same, names_true}
use Rattle.frame_model.proofs.Owners.{named, owned_reached}
use Rattle.frame_model.proofs.Parts.{has_less, less_has, length_less}
use Rattle.frame_model.proofs.Reach.{has_left, has_right, has_append, has_by_kind, by_kind_has, has_targets, targets_has, known_here, known_else, forget_else, within_inside}
use Rattle.frame_model.proofs.Rules.{sound, sound_closed}
use Rattle.frame_words.proofs.Places as places
use Rattle.frame_words.proofs.Splits.{root_reached}
use Rattle.frame_words.proofs.Unions.{times_append}
use Rattle.frame_steps.specs.Counted.{less_by, entered, MayStand, IsFreeEntry, HasRoom}
use Rattle.frame_steps.proofs.Changes.{descends_kept, IsChange}
use Rattle.frame_steps.proofs.Links.{links_change, targets_none, targets_one, less_none, less_entry, link_times, less_times}

module _ (n : ℕ) (ws : List ℕ) (views : List View) (rule : FrameRule n (frames_in ws) views) (size : length ws ≡ n * 513)
    (id : ℕ) (v : View) (at : At views id v) (f i x : ℕ) (own : Has f v.owned) (table : 0 < kind_number (kind_of v f)) (lt : i < 512)
    (stands : MayStand v f x) (room : HasRoom v f i x) where
  abbrev l : Frames
  l = frames_in ws

  abbrev m : Frames
  m = frames_in (set ws (word_place f i) x)

  w : View
  w = entered v f i x

  is : IsSound v
  is = sound n l views rule id v at

  reached_f : Has f (reach v)
  reached_f = owned_reached n l views rule v f own

  in_table : f < n
  in_table = (rule.agrees id v at).inside f reached_f

  free : x ≢ 0 → IsFreeEntry v f x
  free ne = ⊎_elim (λ z. absurd (ne z)) (λ (e : IsFreeEntry v f x). e) stands

  metas : (g : ℕ) → m.meta g ≡ l.meta g
  metas g = places.meta_put ws x f i g lt

  kinds : (g : ℕ) → kind_at m g ≡ kind_at l g
  kinds g = ap (λ (y : ℕ). y % 8) (metas g)

  counts : (g : ℕ) → count_at m g ≡ count_at l g
  counts g = ap (λ (y : ℕ). y / 256) (metas g)

  is_table : 0 < kind_at l f
  is_table = let k = (rule.agrees id v at).kind f reached_f in omega arith

  is_table_now : 0 < kind_at m f
  is_table_now = let k = kinds f in let t = is_table in omega arith

  old_word : l.word f i ≡ word_of v f i
  old_word = (rule.agrees id v at).word f i reached_f lt

  new_word : m.word f i ≡ x
  new_word = let a = in_table in places.word_put_here ws x f i (omega arith)

  same_word : (g j : ℕ) → ((g ≡ f) × (j ≡ i) → ⊥) → j < 512 → m.word g j ≡ l.word g j
  same_word g j ne k = places.word_put_else ws x f i g j lt k (λ a b. ne (a, b))

  same_link : (h g j : ℕ) → ((g ≡ f) × (j ≡ i) → ⊥) → j < 512 → names m h g j ≡ names l h g j
  same_link h g j ne k = names_same m l h g j (kinds g) (same_word g j ne k)

  -- ---- what the view knows

  page : Known
  page = record { frame = f; kind = kind_of v f; words = set (words_of v f) i x }

  page_here : (g : ℕ) → g ≡ f → known_of w.known g ≡ page
  unfolding w entered page
  page_here g e = known_here (record { frame = f; kind = kind_of v f; words = set (words_of v f) i x }) (forget f v.known) g (sym e)

  page_else : (g : ℕ) → g ≢ f → known_of w.known g ≡ known_of v.known g
  unfolding w entered
  page_else g ne = known_else (record { frame = f; kind = kind_of v f; words = set (words_of v f) i x }) (forget f v.known) g (λ e. ne (sym e)) ∙ forget_else v.known f g (λ e. ne (sym e))

  page_word : (j : ℕ) → j < 512 → m.word f j ≡ get_or (set (words_of v f) i x) j 0
  page_word j k =
      let a = rule.agrees id v at in
      let len = a.whole f reached_f in
      ⊎_elim
      (λ (e : j ≡ i).
      let there = get_or-set_same (words_of v f) i x 0 (omega arith) in
      ap (λ (y : ℕ). m.word f y) e ∙ new_word ∙ sym there ∙ sym (ap (λ (y : ℕ). get_or (set (words_of v f) i x) y 0) e))
      (λ (ne : j ≡ i → ⊥). same_word f j (λ t. ne t.1) k ∙ a.word f j reached_f k ∙ sym (get_or-set_other (words_of v f) i j x 0 ne))
      (cases_eq j i)

  -- what the old word named is reached
  old_reached : word_of v f i ≢ 0 → Has (target (word_of v f i)) (reach v)
  old_reached ne =
      let len = (rule.agrees id v at).whole f reached_f in
      sound_closed v is f (target (word_of v f i)) reached_f (by_kind_has (kind_of v f) (words_of v f) (target (word_of v f i)) table (targets_has (words_of v f) i (omega arith) ne))

  has_old : (g : ℕ) → Has g (targets (word_of v f i ∷ [])) → (word_of v f i ≢ 0) × (g ≡ target (word_of v f i))
  has_old g h = ⊎_elim
      (λ (z : word_of v f i ≡ 0). absurd (subst (λ (xs : List ℕ). Has g xs) (targets_none (word_of v f i) z) h))
      (λ (ne : word_of v f i ≡ 0 → ⊥). (ne, ⊎_elim (λ (e : g ≡ target (word_of v f i)). e) (λ none. absurd none) (subst (λ (xs : List ℕ). Has g xs) (targets_one (word_of v f i) ne) h)))
      (cases_eq (word_of v f i) 0)

  has_rest : (g : ℕ) → Has g (less_by x v.references) → Has g v.references
  has_rest g h = ⊎_elim
      (λ (z : x ≡ 0). subst (λ (xs : List ℕ). Has g xs) (less_none x v.references z) h)
      (λ (ne : x ≡ 0 → ⊥). has_less (target x) v.references g (subst (λ (xs : List ℕ). Has g xs) (less_entry x v.references ne) h))
      (cases_eq x 0)

  firsts : (g : ℕ) → Has g (w.owned ++ w.references) → Has g (reach v)
  unfolding w entered
  firsts g h = ⊎_elim
      (λ o. root_reached v is g (inl o))
      (λ r. ⊎_elim
      (λ q. let p = has_old g q in subst (λ (y : ℕ). Has y (reach v)) (sym p.1) (old_reached p.0))
      (λ q. root_reached v is g (inr (has_rest g q)))
      (has_append g (targets (word_of v f i ∷ [])) (less_by x v.references) r))
      (has_append g v.owned (targets (word_of v f i ∷ []) ++ less_by x v.references) h)

  -- what the words of the table name now
  page_targets : (y : ℕ) → Has y (targets_by_kind (kind_of v f) (set (words_of v f) i x)) → Has y (reach v)
  page_targets y t =
      let k = has_by_kind (kind_of v f) (set (words_of v f) i x) y t in
      let p = has_targets (set (words_of v f) i x) y k.1 in
      let len = (rule.agrees id v at).whole f reached_f in
      let size_now = length-set (words_of v f) i x in
      ⊎_elim
      (λ (e : p.0 ≡ i).
      let there : get_or (set (words_of v f) i x) p.0 0 ≡ x = ap (λ (j : ℕ). get_or (set (words_of v f) i x) j 0) e ∙ get_or-set_same (words_of v f) i x 0 (omega arith) in
      let entry = free (λ z. p.2 (there ∙ z)) in
      subst (λ (z : ℕ). Has z (reach v)) (sym (ap target there) ∙ p.3) (root_reached v is (target x) (inr entry.referred)))
      (λ (ne : p.0 ≡ i → ⊥).
      let there : get_or (set (words_of v f) i x) p.0 0 ≡ get_or (words_of v f) p.0 0 = get_or-set_other (words_of v f) i p.0 x 0 ne in
      let inside : p.0 < length (words_of v f) = omega (arith, p.1) in
      let stood = targets_has (words_of v f) p.0 inside (λ z. p.2 (there ∙ z)) in
      sound_closed v is f y reached_f (by_kind_has (kind_of v f) (words_of v f) y table
      (subst (λ (z : ℕ). Has z (targets (words_of v f))) (sym (ap target there) ∙ p.3) stood)))
      (cases_eq p.0 i)

  along : (g y : ℕ) → Has g (reach v) → Has y (targets_of (known_of w.known g)) → Has y (reach v)
  unfolding page
  along g y h t = ⊎_elim
      (λ (e : g ≡ f). page_targets y (subst (λ (k : Known). Has y (targets_of k)) (page_here g e) t))
      (λ (ne : g ≡ f → ⊥). sound_closed v is g y h (subst (λ (k : Known). Has y (targets_of k)) (page_else g ne) t))
      (cases_eq g f)

  reached : (g : ℕ) → Has g (reach w) → Has g (reach v)
  reached g h = within_inside (λ (y : ℕ). Has y (reach v)) w.known depth (w.owned ++ w.references) firsts along g h

  agrees : Agrees n m w
  unfolding w entered page
  agrees =
      let a = rule.agrees id v at in
      record {
        frames = a.frames;
        inside = λ g h. a.inside g (reached g h);
        whole = λ g h. ⊎_elim
            (λ (e : g ≡ f). ap (λ (k : Known). length k.words) (page_here g e) ∙ length-set (words_of v f) i x ∙ a.whole f reached_f)
            (λ (ne : g ≡ f → ⊥). ap (λ (k : Known). length k.words) (page_else g ne) ∙ a.whole g (reached g h))
            (cases_eq g f);
        kind = λ g h. ⊎_elim
            (λ (e : g ≡ f). ap (λ (y : ℕ). kind_at m y) e ∙ kinds f ∙ a.kind f reached_f ∙ sym (ap (λ (k : Known). kind_number k.kind) (page_here g e)))
            (λ (ne : g ≡ f → ⊥). kinds g ∙ a.kind g (reached g h) ∙ sym (ap (λ (k : Known). kind_number k.kind) (page_else g ne)))
            (cases_eq g f);
        word = λ g j h k. ⊎_elim
            (λ (e : g ≡ f). ap (λ (y : ℕ). m.word y j) e ∙ page_word j k ∙ sym (ap (λ (q : Known). get_or q.words j 0) (page_here g e)))
            (λ (ne : g ≡ f → ⊥). same_word g j (λ t. ne t.0) k ∙ a.word g j (reached g h) k ∙ sym (ap (λ (q : Known). get_or q.words j 0) (page_else g ne)))
            (cases_eq g f);
      }

  -- ---- counts and holders

  -- what leaves the links comes into the references, and the other way round
  traded : (h : ℕ) → length (links n l h) + times h v.references ≡ length (links n m h) + times h w.references
  unfolding w entered
  traded h =
      let a = links_change m l h f i (λ g j ne k. same_link h g j ne k) n in_table lt in
      let b = link_times m h f i x new_word is_table_now in
      let d = link_times l h f i (word_of v f i) old_word is_table in
      let e = less_times x v.references h (λ ne. (free ne).referred) in
      let s = times_append h (targets (word_of v f i ∷ [])) (less_by x v.references) in
      omega arith

  now_owned : w.owned ≡ v.owned
  unfolding w entered
  now_owned = refl

  -- a reference stays, or the new entry names its frame
  kept_reference : (g : ℕ) → Has g v.references → Has g w.references ⊎ IsNamedByOwn m w g
  unfolding w entered
  kept_reference g r = ⊎_elim
      (λ (z : x ≡ 0). inl (has_right g (targets (word_of v f i ∷ [])) (less_by x v.references) (subst (λ (xs : List ℕ). Has g xs) (sym (less_none x v.references z)) r)))
      (λ (ne : x ≡ 0 → ⊥). ⊎_elim
      (λ (e : g ≡ target x). inr (record {
        table = f;
        index = i;
        owned = own;
        inside = lt;
        named = names_true m g f i is_table_now (λ z. ne (sym new_word ∙ z)) (ap target new_word ∙ sym e);
      }))
      (λ (away : g ≡ target x → ⊥). inl (has_right g (targets (word_of v f i ∷ [])) (less_by x v.references)
      (subst (λ (xs : List ℕ). Has g xs) (sym (less_entry x v.references ne)) (less_has (target x) v.references g away r))))
      (cases_eq g (target x)))
      (cases_eq x 0)

  -- an entry stays, or what it named is a reference
  kept_entry : (g : ℕ) → IsNamedByOwn l v g → Has g w.references ⊎ IsNamedByOwn m w g
  unfolding w entered
  kept_entry g b =
      let stays : ((b.table ≡ f) × (b.index ≡ i) → ⊥) → IsNamedByOwn m (entered v f i x) g = λ ne. record {
        table = b.table;
        index = b.index;
        owned = b.owned;
        inside = b.inside;
        named = same_link g b.table b.index ne b.inside ∙ b.named;
      } in
      ⊎_elim
      (λ (e : b.table ≡ f). ⊎_elim
      (λ (d : b.index ≡ i).
      let t = named l g b.table b.index b.named in
      let word : l.word b.table b.index ≡ word_of v f i = (λ k. l.word (e k) (d k)) ∙ old_word in
      let some_word : word_of v f i ≢ 0 = λ z. t.1 (word ∙ z) in
      inl (has_left g (targets (word_of v f i ∷ [])) (less_by x v.references)
      (subst (λ (xs : List ℕ). Has g xs) (sym (targets_one (word_of v f i) some_word)) (inl (sym t.2 ∙ ap target word)))))
      (λ (ne : b.index ≡ i → ⊥). inr (stays (λ t. ne t.1)))
      (cases_eq b.index i))
      (λ (ne : b.table ≡ f → ⊥). inr (stays (λ t. ne t.0)))
      (cases_eq b.table f)

  owned_now : (g : ℕ) → Has g w.owned → Has g v.owned
  unfolding w entered
  owned_now g h = h

  owned_still : (g : ℕ) → Has g v.owned → Has g w.owned
  unfolding w entered
  owned_still g h = h

  -- a word that isn't where the entry went descends as before
  descends : (g j : ℕ) → g < n → j < 512 → 0 < kind_at m g → (m.word g j ≡ 0 → ⊥) → Descends n m g j
  descends g j lg lj tab ne =
      let was : ((g ≡ f) × (j ≡ i) → ⊥) → Descends n m g j = λ off.
      let word = same_word g j off lj in
      let kind = kinds g in
      descends_kept n l m g j kinds word (rule.descends g j lg lj (omega arith) (λ z. ne (word ∙ z))) in
      ⊎_elim
      (λ (e : g ≡ f). ⊎_elim
      (λ (d : j ≡ i).
      let a = rule.agrees id v at in
      let word : m.word g j ≡ x = (λ k. m.word (e k) (d k)) ∙ new_word in
      let entry = free (λ z. ne (word ∙ z)) in
      let r = root_reached v is (target x) (inr entry.referred) in
      let kind : kind_at m g ≡ kind_number (kind_of v f) = ap (λ (y : ℕ). kind_at m y) e ∙ kinds f ∙ a.kind f reached_f in
      let below : kind_at m (target x) ≡ kind_number (kind_of v (target x)) = kinds (target x) ∙ a.kind (target x) r in
      record {
        form = subst (λ (p : ℕ × ℕ). IsEntryAt p.0 p.1) (λ k. (sym kind k, sym word k)) entry.form;
        inside = subst (λ (y : ℕ). target y < n) (sym word) (a.inside (target x) r);
        below = ap (λ (y : ℕ). kind_at m (target y) + 1) word ∙ ap (λ (y : ℕ). y + 1) below ∙ entry.below ∙ sym kind;
      })
      (λ (off : j ≡ i → ⊥). was (λ t. off t.1))
      (cases_eq j i))
      (λ (off : g ≡ f → ⊥). was (λ t. off t.0))
      (cases_eq g f)

  few : length (targets (word_of v f i ∷ []) ++ less_by x v.references) ≤ 16
  few =
      let s = (rule.stakes.each id v at).few in
      let both = length-append (targets (word_of v f i ∷ [])) (less_by x v.references) in
      ⊎_elim
      (λ (z : x ≡ 0).
      let rest = ap (λ (xs : List ℕ). length xs) (less_none x v.references z) in
      ⊎_elim
      (λ (e : word_of v f i ≡ 0). let one = ap (λ (xs : List ℕ). length xs) (targets_none (word_of v f i) e) in omega arith)
      (λ (ne : word_of v f i ≡ 0 → ⊥).
      let one = ap (λ (xs : List ℕ). length xs) (targets_one (word_of v f i) ne) in
      let free_room = room z ne in
      omega arith)
      (cases_eq (word_of v f i) 0))
      (λ (ne : x ≡ 0 → ⊥).
      let rest = ap (λ (xs : List ℕ). length xs) (less_entry x v.references ne) in
      let less = length_less (target x) v.references (free ne).referred in
      ⊎_elim
      (λ (e : word_of v f i ≡ 0). let one = ap (λ (xs : List ℕ). length xs) (targets_none (word_of v f i) e) in omega arith)
      (λ (off : word_of v f i ≡ 0 → ⊥). let one = ap (λ (xs : List ℕ). length xs) (targets_one (word_of v f i) off) in omega arith)
      (cases_eq (word_of v f i) 0))
      (cases_eq x 0)

  staked : IsStaked w
  unfolding w entered
  staked = record {
    few = few;
    spent = λ z. absurd (subst (λ (xs : List ℕ). Has f xs) ((rule.stakes.each id v at).spent z).0 own);
  }

  stake : w.stake ≡ v.stake
  unfolding w entered
  stake = refl

  -- the word that changed is of an owned frame
  not_here : (g : ℕ) → (Has g v.owned → ⊥) → (j : ℕ) → (g ≡ f) × (j ≡ i) → ⊥
  not_here g away j t = away (subst (λ (y : ℕ). Has y v.owned) (sym t.0) own)

  change : IsChange n l m views id v w
  change = record {
    agrees = agrees;
    reached = reached;
    owns = λ g o j u there ne r. rule.apart id j v u at there ne g (owned_now g o) r;
    once = λ g. subst (λ (xs : List ℕ). times g xs ≤ 1) (sym now_owned) (rule.owned.once id v at g);
    kinds = kinds;
    metas = λ g k. subst Rattle.frame_model.specs.Words.IsMeta (sym (metas g)) (rule.kinds g k);
    far = λ g _. counts g;
    words = λ g j away k. same_word g j (not_here g away j) k;
    counted = λ g k. let c = counts g in let t = traded g in omega arith;
    loose = λ g k z. inr (sym (counts g) ∙ z, owned_still g);
    held = λ g o some_count.
        let h = rule.owned.held id v at g (owned_now g o) (λ z. some_count (counts g ∙ z)) in
        record {
          once = counts g ∙ h.once;
          by = ⊎_elim (λ r. kept_reference g r) (λ (b : IsNamedByOwn l v g). kept_entry g b) h.by;
        };
    descends = descends;
    staked = staked;
    stake = stake;
  }

pub entry_change : (n : ℕ) (ws : List ℕ) (views : List View) → FrameRule n (frames_in ws) views → length ws ≡ n * 513 → (id : ℕ) (v : View) → At views id v
    → (f i x : ℕ) → Has f v.owned → 0 < kind_number (kind_of v f) → i < 512 → MayStand v f x → HasRoom v f i x
    → IsChange n (frames_in ws) (frames_in (set ws (word_place f i) x)) views id v (entered v f i x)
unfolding w
entry_change = change
