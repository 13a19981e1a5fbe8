-- A step that changes the view of one holder, and the words and counts of frames that it has,
-- keeps the rule. No kind changes.
use Rattle.std.proofs.Common.{◌≡◌, ℕ, ◌+◌, ◌<◌, ◌≤◌, ◌≢◌, ◌⊎◌, List, length, set, refl, sym, ap, subst, ◌∙◌, inl, inr, ⊎_elim, arith}
use Rattle.atomic_table.proofs.Lists.{at_set, set_here, set_else}
use Rattle.std.proofs.lemmas.Bool.{cases_eq}
use Rattle.frame_model.specs.Words.{depth}
use Rattle.frame_model.specs.declared.view.View.{View}
use Rattle.frame_model.specs.Words.{Frames, kind_at, count_at, IsMeta, IsEntryAt, target, links}
use Rattle.frame_model.specs.Views.{Has, times, within, reach, IsStaked, IsSound}
use Rattle.frame_model.specs.Rule.{At, Agrees, IsNamedByOwn, IsHeldOnce, Descends, FrameRule}
use Rattle.frame_model.proofs.Counts.{names_same, total_set}
use Rattle.frame_model.proofs.Owners.{owned_reached}
use Rattle.frame_model.proofs.Reach.{within_inside}
use Rattle.frame_model.proofs.Rules.{sound_closed}
use Rattle.frame_words.proofs.News.{at_length, one_at}

-- what a sound view would reach from frames that it reaches, it reaches
pub reached_from : (v : View) → IsSound v → (fs : List ℕ) → ((f : ℕ) → Has f fs → Has f (reach v)) → (f : ℕ) → Has f (within v.known depth fs) → Has f (reach v)
reached_from v is fs first f h =
    within_inside (λ (x : ℕ). Has x (reach v)) v.known depth fs first (λ x y hx t. sound_closed v is x y hx t) f h

-- an entry that stands as it did, where no kind changed
pub descends_kept : (n : ℕ) (l m : Frames) (g i : ℕ) → ((f : ℕ) → kind_at m f ≡ kind_at l f) → m.word g i ≡ l.word g i → Descends n l g i → Descends n m g i
descends_kept n l m g i kinds word d = record {
  form = subst (λ (p : ℕ × ℕ). IsEntryAt p.0 p.1) (λ k. (sym (kinds g) k, sym word k)) d.form;
  inside = subst (λ (x : ℕ). target x < n) (sym word) d.inside;
  below = ap (λ (x : ℕ). x + 1) (ap (λ (x : ℕ). kind_at m (target x)) word ∙ kinds (target (l.word g i))) ∙ d.below ∙ sym (kinds g);
}

-- the words were l and are m, the view of the holder was v and is w
pub record IsChange (n : ℕ) (l m : Frames) (views : List View) (id : ℕ) (v w : View) : Type 0 where
  pub agrees : Agrees n m w
  pub reached : (f : ℕ) → Has f (reach w) → Has f (reach v)
  -- what is owned now is in no other reach
  pub owns : (f : ℕ) → Has f w.owned → (j : ℕ) (u : View) → At views j u → (id ≡ j → ⊥) → Has f (reach u) → ⊥
  pub once : (f : ℕ) → times f w.owned ≤ 1
  pub kinds : (f : ℕ) → kind_at m f ≡ kind_at l f
  pub metas : (f : ℕ) → f < n → IsMeta (m.meta f)
  -- out of reach counts stay, and words of frames that aren't owned
  pub far : (f : ℕ) → (Has f (reach v) → ⊥) → count_at m f ≡ count_at l f
  pub words : (g i : ℕ) → (Has g v.owned → ⊥) → i < 512 → m.word g i ≡ l.word g i
  pub counted : (f : ℕ) → f < n
      → count_at m f + (length (links n l f) + times f v.references) ≡ count_at l f + (length (links n m f) + times f w.references)
  pub loose : (f : ℕ) → f < n → count_at m f ≡ 0 → Has f w.owned ⊎ ((count_at l f ≡ 0) × (Has f v.owned → Has f w.owned))
  pub held : (f : ℕ) → Has f w.owned → (count_at m f ≡ 0 → ⊥) → IsHeldOnce m w f
  pub descends : (g i : ℕ) → g < n → i < 512 → 0 < kind_at m g → (m.word g i ≡ 0 → ⊥) → Descends n m g i
  pub staked : IsStaked w
  pub stake : w.stake ≡ v.stake

module _ (n : ℕ) (l m : Frames) (views : List View) (rule : FrameRule n l views) (id : ℕ) (v w : View) (at : At views id v)
    (change : IsChange n l m views id v w) where
  -- the views of other holders stay
  cases : (P : ℕ → View → Type 0) → P id w → ((j : ℕ) (u : View) → (id ≡ j → ⊥) → At views j u → P j u) → (j : ℕ) (u : View) → At (set views id w) j u → P j u
  cases P here others j u e = ⊎_elim
      (λ (t : (j ≡ id) × (w ≡ u)). subst (λ (q : ℕ × View). P q.0 q.1) (λ k. (sym t.0 k, t.1 k)) here)
      (λ (t : (j ≢ id) × At views j u). others j u (λ x. t.0 (sym x)) t.1)
      (at_set views id j w u e)

  -- what another view reaches isn't owned
  not_owned : (j : ℕ) (u : View) → At views j u → (id ≡ j → ⊥) → (f : ℕ) → Has f (reach u) → Has f v.owned → ⊥
  not_owned j u there ne f r o = rule.apart id j v u at there ne f o r

  other_agrees : (j : ℕ) (u : View) → (id ≡ j → ⊥) → At views j u → Agrees n m u
  other_agrees j u ne there =
      let a = rule.agrees j u there in
      record {
        frames = a.frames;
        inside = a.inside;
        whole = a.whole;
        kind = λ g h. change.kinds g ∙ a.kind g h;
        word = λ g i h lt. change.words g i (not_owned j u there ne g h) lt ∙ a.word g i h lt;
      }

  -- what another view owns isn't reached
  not_reached : (j : ℕ) (u : View) → At views j u → (id ≡ j → ⊥) → (f : ℕ) → Has f u.owned → Has f (reach v) → ⊥
  not_reached j u there ne f o r = rule.apart j id u v there at (λ e. ne (sym e)) f o r

  other_held : (j : ℕ) (u : View) → (id ≡ j → ⊥) → At views j u → (f : ℕ) → Has f u.owned → (count_at m f ≡ 0 → ⊥) → IsHeldOnce m u f
  other_held j u ne there f o some_count =
      let same = change.far f (not_reached j u there ne f o) in
      let h = rule.owned.held j u there f o (λ z. some_count (same ∙ z)) in
      record {
        once = same ∙ h.once;
        by = ⊎_elim
            (λ r. inl r)
            (λ (b : IsNamedByOwn l u f). inr (record {
              table = b.table;
              index = b.index;
              owned = b.owned;
              inside = b.inside;
              named = names_same m l f b.table b.index (change.kinds b.table)
                  (change.words b.table b.index (not_owned j u there ne b.table (owned_reached n l views rule u b.table b.owned)) b.inside) ∙ b.named;
            }))
            h.by;
      }

  apart : (i j : ℕ) (u x : View) → At (set views id w) i u → At (set views id w) j x → (i ≡ j → ⊥) → (f : ℕ) → Has f u.owned → Has f (reach x) → ⊥
  apart i j u x e d =
      cases (λ a y. (a ≡ j → ⊥) → (f : ℕ) → Has f y.owned → Has f (reach x) → ⊥)
      (cases (λ b z. (id ≡ b → ⊥) → (f : ℕ) → Has f w.owned → Has f (reach z) → ⊥)
      (λ ne f o r. ne refl)
      (λ b z away there ne f o r. change.owns f o b z there away r)
      j x d)
      (λ a y off here. cases (λ b z. (a ≡ b → ⊥) → (f : ℕ) → Has f y.owned → Has f (reach z) → ⊥)
      (λ ne f o r. not_reached a y here off f o (change.reached f r))
      (λ b z away there ne f o r. rule.apart a b y z here there ne f o r)
      j x d)
      i u e

  loose : (f : ℕ) → f < n → count_at m f ≡ 0 → (j : ℕ) × (u : View) × At (set views id w) j u × Has f u.owned
  loose f lt z =
      let here = set_here views id w (at_length views id v at) in
      ⊎_elim
      (λ o. (id, w, here, o))
      (λ (t : (count_at l f ≡ 0) × (Has f v.owned → Has f w.owned)).
      let a = rule.owned.loose f lt t.0 in
      ⊎_elim
      (λ (e : a.0 ≡ id).
      let there : At views id a.1 = subst (λ (x : ℕ). At views x a.1) e a.2 in
      let same : a.1 ≡ v = one_at views id a.1 v there at in
      (id, w, here, t.1 (subst (λ (x : View). Has f x.owned) same a.3)))
      (λ (ne : a.0 ≢ id). (a.0, a.1, set_else views id a.0 w ne ∙ a.2, a.3))
      (cases_eq a.0 id))
      (change.loose f lt z)

  kept : FrameRule n m (set views id w)
  kept = record {
    limit = rule.limit;
    agrees = cases (λ j u. Agrees n m u) change.agrees other_agrees;
    apart = apart;
    counted = λ f lt.
        let a = rule.counted f lt in
        let b = change.counted f lt in
        let d = total_set (λ u. times f u.references) views id v w at in
        omega arith;
    owned = record {
      loose = loose;
      held = cases (λ j u. (f : ℕ) → Has f u.owned → (count_at m f ≡ 0 → ⊥) → IsHeldOnce m u f) change.held other_held;
      once = cases (λ j u. (f : ℕ) → times f u.owned ≤ 1) change.once (λ j u ne there. rule.owned.once j u there);
    };
    descends = change.descends;
    kinds = change.metas;
    stakes = record {
      each = cases (λ j u. IsStaked u) change.staked (λ j u ne there. rule.stakes.each j u there);
      whole =
          let d = total_set (λ u. u.stake) views id v w at in
          let e = change.stake in
          let s = rule.stakes.whole in
          omega arith;
    };
  }

pub change_kept : (n : ℕ) (l m : Frames) (views : List View) → FrameRule n l views → (id : ℕ) (v w : View) → At views id v
    → IsChange n l m views id v w → FrameRule n m (set views id w)
change_kept = kept
