-- A step after which the words of one frame are others, and the view that owns it knows it. Its
-- targets and its count are those that it had.
use Rattle.std.proofs.Common.{◌≡◌, ℕ, zero, suc, ◌<◌, ◌≤◌, ◌≢◌, List, [], ◌∷◌, ◌++◌, length, get_or, set, refl, sym, ap, subst, ◌∙◌, inl, inr, ⊎_elim, arith}
use mathlib.Core.Option.{some, some-ne-none, some-injective}
use lib.ListN.{get_elem?}
use Rattle.atomic_table.proofs.Lists.{at_set, set_here, set_else}
use Rattle.std.proofs.lemmas.Bool.{cases_eq}
use Rattle.frame_model.specs.Words.{depth}
use Rattle.frame_model.specs.declared.kind.Kind.{Kind}
use Rattle.frame_model.specs.declared.view.Known.{Known}
use Rattle.frame_model.specs.declared.view.View.{View}
use Rattle.frame_model.specs.Words.{Frames, kind_number, kind_at, count_at, IsMeta, names}
use Rattle.frame_model.specs.Views.{Has, times, forget, known_of, targets_by_kind, targets_of, reach, IsStaked, with_known}
use Rattle.frame_model.specs.Rule.{At, total, Agrees, IsNamedByOwn, IsHeldOnce, Descends, FrameRule}
use Rattle.frame_model.proofs.Reach.{known_here, known_else, forget_else, news_within}
use Rattle.frame_model.proofs.Counts.{links_same, total_set}

pub at_length : {A : Type 0} (l : List A) (i : ℕ) (a : A) → get_elem? l i ≡ some a → i < length l
at_length [] i a e = absurd (some-ne-none a (sym e))
at_length (x ∷ xs) zero a e = omega arith
at_length (x ∷ xs) (suc i) a e = let r = at_length xs i a e in omega arith

pub one_at : (views : List View) (id : ℕ) (v u : View) → At views id v → At views id u → v ≡ u
one_at views id v u a b = some-injective v u (sym a ∙ b)

-- what the words are after the step, m, against what they were, l
pub record IsNews (n : ℕ) (l m : Frames) (v : View) (f : ℕ) (kind : Kind) (words : List ℕ) : Type 0 where
  pub owned : Has f v.owned
  pub targets : targets_by_kind kind words ≡ targets_of (known_of v.known f)
  pub whole : length words ≡ 512
  pub counts : (g : ℕ) → count_at m g ≡ count_at l g
  pub kind_else : (g : ℕ) → g ≢ f → kind_at m g ≡ kind_at l g
  pub kind_here : kind_at m f ≡ kind_number kind
  pub word_else : (g i : ℕ) → g ≢ f → i < 512 → m.word g i ≡ l.word g i
  pub word_here : (i : ℕ) → i < 512 → m.word f i ≡ get_or words i 0
  pub names : (g i h : ℕ) → i < 512 → names m h g i ≡ names l h g i
  pub kinds : (g : ℕ) → g < n → IsMeta (m.meta g)
  pub descends : (g i : ℕ) → g < n → i < 512 → 0 < kind_at m g → (m.word g i ≡ 0 → ⊥) → Descends n m g i

module _ (n : ℕ) (l m : Frames) (views : List View) (rule : FrameRule n l views) (id : ℕ) (v : View) (at : At views id v)
    (f : ℕ) (kind : Kind) (words : List ℕ) (news : IsNews n l m v f kind words) where
  w : View
  w = with_known v f kind words

  reach_same : reach w ≡ reach v
  unfolding w
  reach_same = news_within (record { frame = f; kind = kind; words = words }) v.known depth (v.owned ++ v.references) news.targets

  page_here : (g : ℕ) → g ≡ f → known_of w.known g ≡ record { frame = f; kind = kind; words = words }
  unfolding w
  page_here g e = known_here (record { frame = f; kind = kind; words = words }) (forget f v.known) g (sym e)

  page_else : (g : ℕ) → g ≢ f → known_of w.known g ≡ known_of v.known g
  unfolding w
  page_else g ne = known_else (record { frame = f; kind = kind; words = words }) (forget f v.known) g (λ e. ne (sym e)) ∙ forget_else v.known f g (λ e. ne (sym e))

  new_agrees : Agrees n m w
  unfolding w
  new_agrees =
      let a = rule.agrees id v at in
      let back : (g : ℕ) → Has g (reach w) → Has g (reach v) = λ g h. subst (λ (xs : List ℕ). Has g xs) reach_same h in
      record {
        frames = a.frames;
        inside = λ g h. a.inside g (back g h);
        whole = λ g h. ⊎_elim
            (λ (e : g ≡ f). ap (λ (k : Known). length k.words) (page_here g e) ∙ news.whole)
            (λ (ne : g ≢ f). ap (λ (k : Known). length k.words) (page_else g ne) ∙ a.whole g (back g h))
            (cases_eq g f);
        kind = λ g h. ⊎_elim
            (λ (e : g ≡ f). ap (λ (x : ℕ). kind_at m x) e ∙ news.kind_here ∙ sym (ap (λ (k : Known). kind_number k.kind) (page_here g e)))
            (λ (ne : g ≢ f). news.kind_else g ne ∙ a.kind g (back g h) ∙ sym (ap (λ (k : Known). kind_number k.kind) (page_else g ne)))
            (cases_eq g f);
        word = λ g i h lt. ⊎_elim
            (λ (e : g ≡ f). ap (λ (x : ℕ). m.word x i) e ∙ news.word_here i lt ∙ sym (ap (λ (k : Known). get_or k.words i 0) (page_here g e)))
            (λ (ne : g ≢ f). news.word_else g i ne lt ∙ a.word g i (back g h) lt ∙ sym (ap (λ (k : Known). get_or k.words i 0) (page_else g ne)))
            (cases_eq g f);
      }

  -- another view, which doesn't reach the frame
  other_agrees : (j : ℕ) (u : View) → At views j u → j ≢ id → Agrees n m u
  other_agrees j u there ne =
      let a = rule.agrees j u there in
      let far : (g : ℕ) → Has g (reach u) → g ≢ f = λ g h e. rule.apart id j v u at there (λ x. ne (sym x)) f news.owned (subst (λ (x : ℕ). Has x (reach u)) e h) in
      record {
        frames = a.frames;
        inside = a.inside;
        whole = a.whole;
        kind = λ g h. news.kind_else g (far g h) ∙ a.kind g h;
        word = λ g i h lt. news.word_else g i (far g h) lt ∙ a.word g i h lt;
      }

  -- what a view held before the step, it holds
  record Was (j : ℕ) (u : View) : Type 0 where
    before : View
    there : At views j before
    owned : before.owned ≡ u.owned
    references : before.references ≡ u.references
    reached : reach before ≡ reach u
    stake : before.stake ≡ u.stake

  was : (j : ℕ) (u : View) → At (set views id w) j u → Was j u
  unfolding w
  was j u e = ⊎_elim
      (λ (t : (j ≡ id) × (w ≡ u)). record {
        before = v;
        there = subst (λ (x : ℕ). At views x v) (sym t.0) at;
        owned = ap (λ (x : View). x.owned) t.1;
        references = ap (λ (x : View). x.references) t.1;
        reached = sym reach_same ∙ ap reach t.1;
        stake = ap (λ (x : View). x.stake) t.1;
      })
      (λ (t : (j ≢ id) × At views j u). record { before = u; there = t.1; owned = refl; references = refl; reached = refl; stake = refl })
      (at_set views id j w u e)

  is : (j : ℕ) (u : View) → At views j u → (x : View) × At (set views id w) j x × (x.owned ≡ u.owned)
  unfolding w
  is j u there = ⊎_elim
      (λ (e : j ≡ id).
      let same : v ≡ u = one_at views id v u at (subst (λ (x : ℕ). At views x u) e there) in
      (w, subst (λ (x : ℕ). At (set views id w) x w) (sym e) (set_here views id w (at_length views id v at)), ap (λ (x : View). x.owned) same))
      (λ (ne : j ≢ id). (u, set_else views id j w ne ∙ there, refl))
      (cases_eq j id)

  staked : (j : ℕ) (u : View) → At (set views id w) j u → IsStaked u
  staked j u e =
      let x = was j u e in
      let a = rule.stakes.each j x.before x.there in
      record {
        few = subst (λ (y : List ℕ). length y ≤ 16) x.references a.few;
        spent = λ z. let s = a.spent (x.stake ∙ z) in (sym x.owned ∙ s.0, sym x.references ∙ s.1);
      }

  held_once : (u x : View) (g : ℕ) → x.owned ≡ u.owned → x.references ≡ u.references → IsHeldOnce l x g → IsHeldOnce m u g
  held_once u x g owned references h = record {
    once = news.counts g ∙ h.once;
    by = ⊎_elim
        (λ r. inl (subst (λ (xs : List ℕ). Has g xs) references r))
        (λ (b : IsNamedByOwn l x g). inr (record {
          table = b.table;
          index = b.index;
          owned = subst (λ (xs : List ℕ). Has b.table xs) owned b.owned;
          inside = b.inside;
          named = news.names b.table b.index g b.inside ∙ b.named;
        }))
        h.by;
  }

  total_same : (h : View → ℕ) → h w ≡ h v → total h (set views id w) ≡ total h views
  total_same h e = let t = total_set h views id v w at in omega arith

  kept : FrameRule n m (set views id w)
  unfolding w
  kept = record {
    limit = rule.limit;
    agrees = λ j u e. ⊎_elim
        (λ (t : (j ≡ id) × (w ≡ u)). subst (λ (x : View). Agrees n m x) t.1 new_agrees)
        (λ (t : (j ≢ id) × At views j u). other_agrees j u t.1 t.0)
        (at_set views id j w u e);
    apart = λ i j u x e d ne g o r.
        let a = was i u e in
        let b = was j x d in
        rule.apart i j a.before b.before a.there b.there ne g
        (subst (λ (xs : List ℕ). Has g xs) (sym a.owned) o) (subst (λ (xs : List ℕ). Has g xs) (sym b.reached) r);
    counted = λ g lt.
        let a = rule.counted g lt in
        let b = ap (λ (xs : List (ℕ × ℕ)). length xs) (links_same m l g n (λ h i _ k. news.names h i g k)) in
        let d = total_same (λ u. times g u.references) refl in
        let e = news.counts g in
        omega arith;
    owned = record {
      loose = λ g lt z.
          let a = rule.owned.loose g lt (sym (news.counts g) ∙ z) in
          let b = is a.0 a.1 a.2 in
          (a.0, b.0, b.1, subst (λ (xs : List ℕ). Has g xs) (sym b.2) a.3);
      held = λ j u e g o ne.
          let a = was j u e in
          held_once u a.before g a.owned a.references
          (rule.owned.held j a.before a.there g (subst (λ (xs : List ℕ). Has g xs) (sym a.owned) o) (λ z. ne (news.counts g ∙ z)));
      once = λ j u e g. let a = was j u e in subst (λ (xs : List ℕ). times g xs ≤ 1) a.owned (rule.owned.once j a.before a.there g);
    };
    descends = news.descends;
    kinds = news.kinds;
    stakes = record {
      each = staked;
      whole = total_same (λ u. u.stake) refl ∙ rule.stakes.whole;
    };
  }

-- the rule holds after the step
pub news_kept : (n : ℕ) (l m : Frames) (views : List View) → FrameRule n l views → (id : ℕ) (v : View) → At views id v
    → (f : ℕ) (kind : Kind) (words : List ℕ) → IsNews n l m v f kind words → FrameRule n m (set views id (with_known v f kind words))
unfolding w
news_kept = kept
