-- Two views that are made one keep the rule.
use Rattle.std.proofs.Common.{◌≡◌, ℕ, ◌+◌, ◌<◌, ◌≤◌, ◌≢◌, ◌⊎◌, List, [], ◌∷◌, ◌++◌, length, get_or, set, refl, sym, ap, subst, ◌∙◌, inl, inr, ⊎_elim, arith, length-append}
use Rattle.atomic_table.proofs.Lists.{at_set, set_here, set_else}
use Rattle.atomic_table.specs.Table.{Joins}
use Rattle.std.proofs.lemmas.Bool.{cases_eq}
use Rattle.frame_model.specs.Words.{depth}
use Rattle.frame_model.specs.declared.holding.Holding.{Holding}
use Rattle.frame_model.specs.Holdings.{held, with_view, views_of}
use Rattle.frame_model.specs.declared.view.Known.{Known}
use Rattle.frame_model.specs.declared.view.View.{View}
use Rattle.frame_model.specs.Words.{Frames, frames_in, kind_number, kind_at, count_at}
use Rattle.frame_model.specs.Views.{Has, times, known_of, targets_of, reach, sights, IsStaked}
use Rattle.frame_model.specs.Rule.{At, total, Agrees, IsNamedByOwn, IsHeldOnce, FrameRule}
use Rattle.frame_model.proofs.Counts.{total_set}
use Rattle.frame_model.proofs.Owners.{one_owner}
use Rattle.frame_model.proofs.Reach.{has_left, has_right, has_append, absent, dec_has, known_here, known_else, within_inside, within_empty}
use Rattle.frame_model.proofs.Rules.{sound, sound_closed}
use Rattle.frame_words.specs.Plays.{Kept}
use Rattle.frame_words.specs.Steps.{joined, spent}
use Rattle.frame_words.proofs.News.{at_length, one_at}
use Rattle.frame_words.proofs.Seats.{seen_at, rule_set_two}
use Rattle.frame_words.proofs.Splits.{root_reached}

-- ---- lists

pub times_append : (f : ℕ) (xs ys : List ℕ) → times f (xs ++ ys) ≡ times f xs + times f ys
times_append f [] ys = omega arith
times_append f (x ∷ xs) ys = let r = times_append f xs ys in omega arith

-- ---- what is known of a frame that is in sight

abbrev pub sight : List Known → ℕ → Known
sight ks f = record { frame = f; kind = (known_of ks f).kind; words = (known_of ks f).words }

pub sights_here : (ks rest : List Known) (fs : List ℕ) (f : ℕ) → Has f fs → known_of (sights ks fs ++ rest) f ≡ sight ks f
sights_here ks rest [] f h = absurd h
sights_here ks rest (x ∷ xs) f h = ⊎_elim
    (λ (e : f ≡ x). known_here (sight ks x) (sights ks xs ++ rest) f (sym e) ∙ ap (λ (y : ℕ). sight ks y) (sym e))
    (λ (ne : f ≡ x → ⊥).
    known_else (sight ks x) (sights ks xs ++ rest) f (λ e. ne (sym e))
    ∙ sights_here ks rest xs f (⊎_elim (λ e. absurd (ne e)) (λ r. r) h))
    (cases_eq f x)

pub sights_else : (ks rest : List Known) (fs : List ℕ) (f : ℕ) → (Has f fs → ⊥) → known_of (sights ks fs ++ rest) f ≡ known_of rest f
sights_else ks rest [] f away = refl
sights_else ks rest (x ∷ xs) f away =
    known_else (sight ks x) (sights ks xs ++ rest) f (λ e. away (inl (sym e)))
    ∙ sights_else ks rest xs f (λ h. away (inr h))

-- a list with nothing behind it
pub sights_last : (ks : List Known) (fs : List ℕ) (f : ℕ) → Has f fs → known_of (sights ks fs) f ≡ sight ks f
sights_last ks [] f h = absurd h
sights_last ks (x ∷ xs) f h = ⊎_elim
    (λ (e : f ≡ x). known_here (sight ks x) (sights ks xs) f (sym e) ∙ ap (λ (y : ℕ). sight ks y) (sym e))
    (λ (ne : f ≡ x → ⊥).
    known_else (sight ks x) (sights ks xs) f (λ e. ne (sym e))
    ∙ sights_last ks xs f (⊎_elim (λ e. absurd (ne e)) (λ r. r) h))
    (cases_eq f x)

module _ (n : ℕ) (m : Frames) (views : List View) (rule : FrameRule n m views) (id : ℕ) (v : View) (at : At views id v)
    (other : ℕ) (w : View) (there : At views other w) (apart_ids : other ≢ id) (frames : v.frames ≡ n)
    (few : length v.references + length w.references ≤ 16) where
  u : View
  u = joined v w

  known_v : (f : ℕ) → Has f (reach v) → known_of u.known f ≡ sight v.known f
  unfolding u joined
  known_v f h = sights_here v.known (sights w.known (reach w)) (reach v) f h

  known_w : (f : ℕ) → (Has f (reach v) → ⊥) → Has f (reach w) → known_of u.known f ≡ sight w.known f
  unfolding u joined
  known_w f away h = sights_else v.known (sights w.known (reach w)) (reach v) f away ∙ sights_last w.known (reach w) f h

  own : (f : ℕ) → Has f u.owned → Has f v.owned ⊎ Has f w.owned
  unfolding u joined
  own f h = has_append f v.owned w.owned h

  firsts : (f : ℕ) → Has f (u.owned ++ u.references) → Has f (reach v) ⊎ Has f (reach w)
  unfolding u joined
  firsts f h =
      let v_sound = sound n m views rule id v at in
      let w_sound = sound n m views rule other w there in
      ⊎_elim
      (λ o. ⊎_elim (λ a. inl (root_reached v v_sound f (inl a))) (λ b. inr (root_reached w w_sound f (inl b))) (has_append f v.owned w.owned o))
      (λ r. ⊎_elim (λ a. inl (root_reached v v_sound f (inr a))) (λ b. inr (root_reached w w_sound f (inr b))) (has_append f v.references w.references r))
      (has_append f (v.owned ++ w.owned) (v.references ++ w.references) h)

  along : (f x : ℕ) → Has f (reach v) ⊎ Has f (reach w) → Has x (targets_of (known_of u.known f)) → Has x (reach v) ⊎ Has x (reach w)
  along f x p t =
      ⊎_elim
      (λ a. inl (sound_closed v (sound n m views rule id v at) f x a (subst (λ (k : Known). Has x (targets_of k)) (known_v f a) t)))
      (λ away. ⊎_elim
      (λ a. absurd (away a))
      (λ b. inr (sound_closed w (sound n m views rule other w there) f x b (subst (λ (k : Known). Has x (targets_of k)) (known_w f away b) t)))
      p)
      (dec_has f (reach v))

  reached : (f : ℕ) → Has f (reach u) → Has f (reach v) ⊎ Has f (reach w)
  reached f h = within_inside (λ (x : ℕ). Has x (reach v) ⊎ Has x (reach w)) u.known depth (u.owned ++ u.references) firsts along f h

  -- what holds of what either view says of a frame holds of what both say
  said : (Q : Known → Type 0) (f : ℕ) → Has f (reach u) → (Has f (reach v) → Q (sight v.known f)) → (Has f (reach w) → Q (sight w.known f)) → Q (known_of u.known f)
  said Q f h one two =
      ⊎_elim
      (λ a. subst Q (sym (known_v f a)) (one a))
      (λ away. ⊎_elim (λ a. absurd (away a)) (λ b. subst Q (sym (known_w f away b)) (two b)) (reached f h))
      (dec_has f (reach v))

  u_frames : u.frames ≡ n
  unfolding u joined
  u_frames = frames

  agrees : Agrees n m u
  agrees =
      let a = rule.agrees id v at in
      let b = rule.agrees other w there in
      record {
        frames = λ _. u_frames;
        inside = λ f h. ⊎_elim (λ r. a.inside f r) (λ r. b.inside f r) (reached f h);
        whole = λ f h. said (λ (x : Known). length x.words ≡ 512) f h (λ r. a.whole f r) (λ r. b.whole f r);
        kind = λ f h. said (λ (x : Known). kind_at m f ≡ kind_number x.kind) f h (λ r. a.kind f r) (λ r. b.kind f r);
        word = λ f i h lt. said (λ (x : Known). m.word f i ≡ get_or x.words i 0) f h (λ r. a.word f i r lt) (λ r. b.word f i r lt);
      }

  -- ---- the views after

  now : List View
  now = set (set views id u) other spent

  cases : (P : ℕ → View → Type 0) → P other spent → P id u → ((j : ℕ) (x : View) → j ≢ other → j ≢ id → At views j x → P j x) → (j : ℕ) (x : View) → At now j x → P j x
  unfolding now
  cases P s l others j x e = ⊎_elim
      (λ (t : (j ≡ other) × (spent ≡ x)). subst (λ (q : ℕ × View). P q.0 q.1) (λ k. (sym t.0 k, t.1 k)) s)
      (λ (r : (j ≢ other) × At (set views id u) j x). ⊎_elim
      (λ (t : (j ≡ id) × (u ≡ x)). subst (λ (q : ℕ × View). P q.0 q.1) (λ k. (sym t.0 k, t.1 k)) l)
      (λ (t : (j ≢ id) × At views j x). others j x r.0 t.0 t.1)
      (at_set views id j u x r.1))
      (at_set (set views id u) other j spent x e)

  at_u : At now id u
  unfolding now
  at_u = set_else (set views id u) other id spent (λ e. apart_ids (sym e)) ∙ set_here views id u (at_length views id v at)

  at_other : (j : ℕ) (x : View) → j ≢ other → j ≢ id → At views j x → At now j x
  unfolding now
  at_other j x away off e = set_else (set views id u) other j spent away ∙ set_else views id j u off ∙ e

  totals : (h : View → ℕ) → h u + h spent ≡ h v + h w → total h now ≡ total h views
  unfolding now
  totals h e =
      let a = total_set h views id v u at in
      let b = total_set h (set views id u) other w spent (set_else views id other u apart_ids ∙ there) in
      omega arith

  nothing : (f : ℕ) → Has f spent.owned → ⊥
  unfolding spent
  nothing f h = h

  nowhere : (f : ℕ) → Has f (reach spent) → ⊥
  unfolding spent
  nowhere f h = within_empty [] depth f h

  spent_agrees : Agrees n m spent
  unfolding spent
  spent_agrees = record {
    frames = λ z. absurd (omega arith);
    inside = λ f h. absurd (within_empty [] depth f h);
    whole = λ f h. absurd (within_empty [] depth f h);
    kind = λ f h. absurd (within_empty [] depth f h);
    word = λ f i h lt. absurd (within_empty [] depth f h);
  }

  Apart : ℕ → View → Type 0
  Apart i y = (j : ℕ) (x : View) → At now j x → i ≢ j → (f : ℕ) → Has f y.owned → Has f (reach x) → ⊥

  apart : (i : ℕ) (y : View) → At now i y → Apart i y
  unfolding Apart
  apart = cases Apart
      (λ j x d ne f o r. nothing f o)
      (cases (λ j x. id ≢ j → (f : ℕ) → Has f u.owned → Has f (reach x) → ⊥)
      (λ ne f o r. nowhere f r)
      (λ ne f o r. ne refl)
      (λ j x away off here ne f o r. ⊎_elim
      (λ a. rule.apart id j v x at here ne f a r)
      (λ b. rule.apart other j w x there here (λ e. away (sym e)) f b r)
      (own f o)))
      (λ i y away off here. cases (λ j x. i ≢ j → (f : ℕ) → Has f y.owned → Has f (reach x) → ⊥)
      (λ ne f o r. nowhere f r)
      (λ ne f o r. ⊎_elim (λ a. rule.apart i id y v here at off f o a) (λ b. rule.apart i other y w here there away f o b) (reached f r))
      (λ j x _ _ far ne f o r. rule.apart i j y x here far ne f o r))

  own_v : (f : ℕ) → Has f v.owned → Has f u.owned
  unfolding u joined
  own_v f h = has_left f v.owned w.owned h

  own_w : (f : ℕ) → Has f w.owned → Has f u.owned
  unfolding u joined
  own_w f h = has_right f v.owned w.owned h

  loose : (f : ℕ) → f < n → count_at m f ≡ 0 → (j : ℕ) × (x : View) × At now j x × Has f x.owned
  loose f lt z =
      let a = rule.owned.loose f lt z in
      ⊎_elim
      (λ (e : a.0 ≡ id).
      let same : a.1 ≡ v = let here : At views id a.1 = subst (λ (x : ℕ). At views x a.1) e a.2 in one_at views id a.1 v here at in
      (id, u, at_u, own_v f (subst (λ (x : View). Has f x.owned) same a.3)))
      (λ (off : a.0 ≢ id). ⊎_elim
      (λ (e : a.0 ≡ other).
      let same : a.1 ≡ w = let here : At views other a.1 = subst (λ (x : ℕ). At views x a.1) e a.2 in one_at views other a.1 w here there in
      (id, u, at_u, own_w f (subst (λ (x : View). Has f x.owned) same a.3)))
      (λ (away : a.0 ≢ other). (a.0, a.1, at_other a.0 a.1 away off a.2, a.3))
      (cases_eq a.0 other))
      (cases_eq a.0 id)

  held_v : (f : ℕ) → IsHeldOnce m v f → IsHeldOnce m u f
  unfolding u joined
  held_v f h = record {
    once = h.once;
    by = ⊎_elim
        (λ r. inl (has_left f v.references w.references r))
        (λ (b : IsNamedByOwn m v f). inr (record { table = b.table; index = b.index; owned = has_left b.table v.owned w.owned b.owned; inside = b.inside; named = b.named }))
        h.by;
  }

  held_w : (f : ℕ) → IsHeldOnce m w f → IsHeldOnce m u f
  unfolding u joined
  held_w f h = record {
    once = h.once;
    by = ⊎_elim
        (λ r. inl (has_right f v.references w.references r))
        (λ (b : IsNamedByOwn m w f). inr (record { table = b.table; index = b.index; owned = has_right b.table v.owned w.owned b.owned; inside = b.inside; named = b.named }))
        h.by;
  }

  once : (f : ℕ) → times f u.owned ≤ 1
  unfolding u joined
  once f =
      let a = rule.owned.once id v at f in
      let b = rule.owned.once other w there f in
      let t = times_append f v.owned w.owned in
      ⊎_elim
      (λ in_v. let z = absent f w.owned (λ in_w. apart_ids (sym (one_owner n m views rule id other v w at there f in_v in_w))) in omega arith)
      (λ off. let z = absent f v.owned off in omega arith)
      (dec_has f v.owned)

  staked : IsStaked u
  unfolding u joined
  staked =
      let a = rule.stakes.each id v at in
      let b = rule.stakes.each other w there in
      record {
        few = omega (arith, length-append v.references w.references);
        spent = λ z.
            let x = a.spent (omega arith) in
            let y = b.spent (omega arith) in
            ((λ k. x.0 k ++ y.0 k), (λ k. x.1 k ++ y.1 k));
      }

  spent_staked : IsStaked spent
  unfolding spent
  spent_staked = record { few = omega arith; spent = λ _. (refl, refl) }

  references_both : (f : ℕ) → times f u.references + times f spent.references ≡ times f v.references + times f w.references
  unfolding u joined spent
  references_both f = let t = times_append f v.references w.references in omega arith

  stakes_both : u.stake + spent.stake ≡ v.stake + w.stake
  unfolding u joined spent
  stakes_both = omega arith

  kept_rule : FrameRule n m now
  unfolding Apart
  kept_rule = record {
    limit = rule.limit;
    agrees = cases (λ j x. Agrees n m x) spent_agrees agrees (λ j x _ _ here. rule.agrees j x here);
    apart = λ i j y x e d ne. apart i y e j x d ne;
    counted = λ f lt. let a = rule.counted f lt in let b = totals (λ x. times f x.references) (references_both f) in omega arith;
    owned = record {
      loose = loose;
      held = cases (λ j x. (f : ℕ) → Has f x.owned → (count_at m f ≡ 0 → ⊥) → IsHeldOnce m x f)
          (λ f o ne. absurd (nothing f o))
          (λ f o ne. ⊎_elim (λ a. held_v f (rule.owned.held id v at f a ne)) (λ b. held_w f (rule.owned.held other w there f b ne)) (own f o))
          (λ j x _ _ here. rule.owned.held j x here);
      once = cases (λ j x. (f : ℕ) → times f x.owned ≤ 1) (λ f. let z = absent f spent.owned (nothing f) in omega arith) once (λ j x _ _ here. rule.owned.once j x here);
    };
    descends = rule.descends;
    kinds = rule.kinds;
    stakes = record {
      each = cases (λ j x. IsStaked x) spent_staked staked (λ j x _ _ here. rule.stakes.each j x here);
      whole = totals (λ x. x.stake) stakes_both ∙ rule.stakes.whole;
    };
  }

pub joined_frames : (v w : View) → (joined v w).frames ≡ v.frames
unfolding joined
joined_frames v w = refl

pub joins : (n id other : ℕ) (h k : Holding) → h.view.frames ≡ n
    → length h.view.references + length k.view.references ≤ 16
    → Joins (Kept n) id h other k (with_view h (joined h.view k.view)) (held spent)
unfolding now u
joins n id other h k frames few s kept at ne there =
    let both = with_view h (joined h.view k.view) in
    let far = sym (set_else s.views id other both ne) ∙ there in
    record {
      size = kept.size;
      rule = rule_set_two n (frames_in s.words) s.views id both other (held spent)
          (kept_rule n (frames_in s.words) (views_of s.views) kept.rule
          id h.view (seen_at s.views id h at) other k.view (seen_at s.views other k far) ne frames few);
    }
