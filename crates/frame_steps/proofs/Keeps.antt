-- Each step of a holder keeps the rule, and tells what it is said to tell.
use Rattle.std.proofs.Common.{◌≡◌, ℕ, ◌+◌, ◌-◌, ◌/◌, ◌%◌, ◌^◌, ◌<◌, ◌≤◌, ◌⊎◌, Bool, true, false, List, ◌∷◌, length, get_or, set, eqb, refl, sym, ap, subst, ◌∙◌, inl, inr, ⊎_elim, arith, length-set}
use mathlib.Core.Option.{some, none}
use lib.ListN.{get_elem?}
use Rattle.std.proofs.lemmas.Bool.{cases_eq, eq-eqb, ne_eqb, cond-true, cond-false}
use Rattle.atomic_table.specs.Table.{State, Act, step, keeps, Valid, stepped, carried_after, Allows}
use Rattle.frame_model.specs.declared.holding.Holding.{Holding}
use Rattle.frame_model.specs.declared.view.View.{View}
use Rattle.frame_model.specs.Holdings.{with_view, views_of}
use Rattle.frame_model.specs.Words.{Frames, frames_in, meta_place, word_place, kind_number}
use Rattle.frame_model.specs.Views.{Has, times, kind_of, reach, part_of, less_one, IsSound, IsLoose}
use Rattle.frame_model.specs.Rule.{At, FrameRule}
use Rattle.frame_model.proofs.Counts.{count_most, total_at}
use Rattle.frame_model.proofs.Reach.{present}
use Rattle.frame_model.proofs.Rules.{sound}
use Rattle.frame_words.specs.Plays.{Kept, Mine}
use Rattle.frame_words.proofs.Places as places
use Rattle.frame_words.proofs.Seats.{seen_at, rule_set, now_sound}
use Rattle.frame_words.proofs.Splits.{root_reached}
use Rattle.frame_steps.specs.declared.lost.Lost.{Lost}
use Rattle.frame_steps.specs.declared.lost.Lost.TheVariants.{Owned, Shared}
use Rattle.frame_steps.specs.Counted.{entered, MayStand, HasRoom, gives_up, left_by, gained, owning, lost, lost_at, IsNamedTwice}
use Rattle.frame_steps.specs.Plays.{DidEnter, DidGain, DidLose}
use Rattle.frame_steps.proofs.Changes.{change_kept}
use Rattle.frame_steps.proofs.Recounts.{owning_has, owning_old, owning_new, owning_once, not_given_up, given_up, gain_change, give_up_change, own_once, one_name, lose_change, lose_loose}
use Rattle.frame_steps.proofs.NewEntries.{entry_change}

-- a meta word has room for one more
room_for_one : (n : ℕ) (m : Frames) (views : List View) → FrameRule n m views → (f : ℕ) → f < n → (m.meta f + 256) % 2 ^ 64 ≡ m.meta f + 256
room_for_one n m views rule f lt = let a = count_most n m views rule f lt in omega arith

-- and one of a frame with a reference has one to take away
one_less : (n : ℕ) (m : Frames) (views : List View) → FrameRule n m views → (id : ℕ) (v : View) → At views id v → (f : ℕ) → f < n → Has f v.references → m.meta f < 2 ^ 64
    → (m.meta f + (2 ^ 64 - 256)) % 2 ^ 64 + 256 ≡ m.meta f
one_less n m views rule id v at f lt ref most =
    let a = rule.counted f lt in
    let b = total_at (λ u. Rattle.frame_model.specs.Views.times f u.references) views id v at in
    let p = present f v.references ref in
    let some_count : 256 ≤ m.meta f = omega arith in
    omega arith

low_more : (x y : ℕ) → y ≡ x + 256 → y % 256 ≡ x % 256
low_more x y e = omega arith

low_less : (x y : ℕ) → y + 256 ≡ x → y % 256 ≡ x % 256
low_less x y e = omega arith

-- whether the last name went
lost_cases : (meta : ℕ) → ((meta / 256 ≡ 1) × (lost_at meta ≡ Owned)) ⊎ ((meta / 256 ≡ 1 → ⊥) × (lost_at meta ≡ Shared))
lost_cases meta = ⊎_elim
    (λ (e : meta / 256 ≡ 1). inl (e, cond-true (eqb (meta / 256) 1) Owned Shared (eq-eqb (meta / 256) 1 e)))
    (λ (ne : meta / 256 ≡ 1 → ⊥). inr (ne, cond-false (eqb (meta / 256) 1) Owned Shared (ne_eqb (meta / 256) 1 ne)))
    (cases_eq (meta / 256) 1)

module _ (n : ℕ) (slots id : ℕ) (me : Mine) where
  pub enters : (f i x : ℕ) → Has f me.0.view.owned → 0 < kind_number (kind_of me.0.view f) → i < 512
      → MayStand me.0.view f x → HasRoom me.0.view f i x
      → Allows (Kept n) slots id me (word_place f i) (λ _. x)
      (λ _. DidEnter (step slots (word_place f i) x 0 none) me x)
  enters f i x own table lt stands room s kept _ at _ =
      let w = with_view me.0 (entered me.0.view f i x) in
      let l = frames_in s.words in
      let m = frames_in (set s.words (word_place f i) x) in
      let there = seen_at s.views id me.0 at in
      let rule = rule_set n m s.views id w
      (change_kept n l m (views_of s.views) kept.rule id me.0.view w.view there
      (entry_change n s.words (views_of s.views) kept.rule kept.size id me.0.view there
      f i x own table lt stands room)) in (
        w,
        keeps,
        tt,
        record { size = length-set s.words (word_place f i) x ∙ kept.size; rule = rule },
        record {
          slots = refl;
          tally = refl;
          view = λ g j k e.
              let p = places.one_word f i g j lt k e in
              (λ z. entered me.0.view (p.0 z) (p.1 z) x);
          sound = now_sound n m s.views id w me.0 at rule;
        },
      )

  gains_as : (b : Bool) (f : ℕ) → gives_up me.0.view f ≡ b → Has f (reach me.0.view)
      → length me.0.view.references < 16 → (s : State (Unit {0}) Holding) → Kept n s
      → At (views_of s.views) id me.0.view → (y : ℕ) → y ≡ get_or s.words (meta_place f) 0 + 256
      → FrameRule n (frames_in (set s.words (meta_place f) y)) (set (views_of s.views) id
      (part_of me.0.view (left_by b me.0.view f) (f ∷ me.0.view.references) me.0.view.stake))
  gains_as true f given r few s kept at y more =
      let v = me.0.view in
      let l = frames_in s.words in
      let m = frames_in (set s.words (meta_place f) y) in
      let low = low_more (l.meta f) y more in
      let inside = (kept.rule.agrees id v at).inside f r in
      let counted = given_up n l (views_of s.views) kept.rule id v at f inside given in
      change_kept n l m (views_of s.views) kept.rule id v
      (part_of v (left_by true v f) (f ∷ v.references) v.stake) at
      (give_up_change n s.words (views_of s.views) kept.rule kept.size id v at f r y low more few
      counted)
  gains_as false f given r few s kept at y more =
      let v = me.0.view in
      let l = frames_in s.words in
      let m = frames_in (set s.words (meta_place f) y) in
      let low = low_more (l.meta f) y more in
      change_kept n l m (views_of s.views) kept.rule id v
      (part_of v (left_by false v f) (f ∷ v.references) v.stake) at
      (gain_change n s.words (views_of s.views) kept.rule kept.size id v at f r y low more few
      (not_given_up v f given))

  pub gains : (f : ℕ) → Has f (reach me.0.view) → length me.0.view.references < 16
      → Allows (Kept n) slots id me (meta_place f) (λ x. (x + 256) % 2 ^ 64)
      (DidGain (step slots (meta_place f) 256 0 none) me)
  unfolding gained
  gains f r few s kept _ at _ =
      let v = me.0.view in
      let w = with_view me.0 (gained v f) in
      let l = frames_in s.words in
      let there = seen_at s.views id me.0 at in
      let y = (get_or s.words (meta_place f) 0 + 256) % 2 ^ 64 in
      let m = frames_in (set s.words (meta_place f) y) in
      let inside = (kept.rule.agrees id v there).inside f r in
      let more = room_for_one n l (views_of s.views) kept.rule f inside in
      let rule = rule_set n m s.views id w
      (gains_as (gives_up v f) f refl r few s kept there y more) in (
        w,
        keeps,
        tt,
        record { size = length-set s.words (meta_place f) y ∙ kept.size; rule = rule },
        record {
          slots = refl;
          tally = refl;
          view = λ g e. let p = places.one_meta f g e in ap (λ (x : ℕ). gained me.0.view x) p;
          sound = now_sound n m s.views id w me.0 at rule;
        },
      )

  loses_as : (o : Lost) (owned : List ℕ) (f : ℕ) → Has f me.0.view.references
      → (s : State (Unit {0}) Holding) → Kept n s → get_elem? s.views id ≡ some me.0
      → get_or s.words (meta_place f) 0 < 2 ^ 64
      → lost_at (get_or s.words (meta_place f) 0) ≡ o
      → lost o me.0.view f
      ≡ part_of me.0.view owned (less_one f me.0.view.references) me.0.view.stake
      → ((g : ℕ) → Has g owned
      → Has g me.0.view.owned ⊎ ((g ≡ f) × (get_or s.words (meta_place f) 0 / 256 ≡ 1)))
      → ((g : ℕ) → Has g me.0.view.owned → Has g owned)
      → (get_or s.words (meta_place f) 0 / 256 ≡ 1 → Has f owned)
      → ((g : ℕ) → times g owned ≤ 1)
      → (w : Holding) × (a : Act (Unit {0})) × Valid s.homes me.1 a
      × Kept n (stepped s (meta_place f)
      ((get_or s.words (meta_place f) 0 + (2 ^ 64 - 256)) % 2 ^ 64) id me.1 w a)
      × DidLose (step slots (meta_place f) 256 0 none) me (get_or s.words (meta_place f) 0)
      (w, carried_after me.1 a)
  loses_as o owned f ref s kept at most is_o is_lost from old new once =
      let v = me.0.view in
      let vs = views_of s.views in
      let there = seen_at s.views id me.0 at in
      let l = frames_in s.words in
      let y = (get_or s.words (meta_place f) 0 + (2 ^ 64 - 256)) % 2 ^ 64 in
      let m = frames_in (set s.words (meta_place f) y) in
      let u = part_of v owned (less_one f v.references) v.stake in
      let w = with_view me.0 u in
      let is = sound n l vs kept.rule id v there in
      let r = root_reached v is f (inr ref) in
      let inside = (kept.rule.agrees id v there).inside f r in
      let less = one_less n l vs kept.rule id v there f inside ref most in
      let low = low_less (l.meta f) y less in
      let rule = rule_set n m s.views id w
      (change_kept n l m vs kept.rule id v u there
      (lose_change n s.words vs kept.rule kept.size id v there f r y low less ref
      owned from old new once)) in (
        w,
        keeps,
        tt,
        record { size = length-set s.words (meta_place f) y ∙ kept.size; rule = rule },
        record {
          slots = refl;
          tally = refl;
          view = λ g e.
              let p = places.one_meta f g e in
              sym is_lost ∙ (λ z. lost (sym is_o z) me.0.view (p z));
          own = λ g e h.
              let p = places.one_meta f g e in
              own_once n s.words vs kept.rule kept.size id v there f r y low less ref
              (subst (λ (z : ℕ). Has z v.owned) (sym p) h);
          shared = λ g e d one.
              let p = places.one_meta f g e in
              one_name n s.words vs kept.rule kept.size id v there f r y low less ref
              (subst (λ (z : ℕ). IsNamedTwice v z) (sym p) d) one;
          loose = λ g e one.
              let p = places.one_meta f g e in
              subst (λ (z : ℕ). IsLoose u z) p
              (lose_loose n s.words vs kept.rule kept.size id v there f r y low less ref
              owned from old new once one);
          sound = now_sound n m s.views id w me.0 at rule;
        },
      )

  pub loses : (f : ℕ) → Has f me.0.view.references
      → Allows (Kept n) slots id me (meta_place f) (λ x. (x + (2 ^ 64 - 256)) % 2 ^ 64)
      (DidLose (step slots (meta_place f) 256 0 none) me)
  unfolding lost
  loses f ref s kept _ at most =
      let v = me.0.view in
      let x = get_or s.words (meta_place f) 0 in
      let once = kept.rule.owned.once id v (seen_at s.views id me.0 at) in
      ⊎_elim
      (λ (t : (x / 256 ≡ 1) × (lost_at x ≡ Owned)).
      loses_as Owned (owning v.owned f) f ref s kept at most t.1 refl
      (λ g h. ⊎_elim (λ a. inl a) (λ (e : g ≡ f). inr (e, t.0)) (owning_has v.owned f g h))
      (λ g h. owning_old v.owned f g h)
      (λ _. owning_new v.owned f)
      (λ g. owning_once v.owned f g (once g)))
      (λ (t : (x / 256 ≡ 1 → ⊥) × (lost_at x ≡ Shared)).
      loses_as Shared v.owned f ref s kept at most t.1 refl
      (λ g h. inl h) (λ g h. h) (λ one. absurd (t.0 one)) once)
      (lost_cases x)

-- the answer Owned says that the count was 1, and the other way round
pub one_is_owned : (meta : ℕ) → meta / 256 ≡ 1 → lost_at meta ≡ Owned
one_is_owned meta e = cond-true (eqb (meta / 256) 1) Owned Shared (eq-eqb (meta / 256) 1 e)

pub owned_is_one : (meta : ℕ) → lost_at meta ≡ Owned → meta / 256 ≡ 1
owned_is_one meta e = ⊎_elim
    (λ (t : (meta / 256 ≡ 1) × (lost_at meta ≡ Owned)). t.0)
    (λ (t : (meta / 256 ≡ 1 → ⊥) × (lost_at meta ≡ Shared)). absurd (let d : Owned ≡ Shared = sym e ∙ t.1 in cc))
    (lost_cases meta)

pub others_are_shared : (meta : ℕ) → (meta / 256 ≡ 1 → ⊥) → lost_at meta ≡ Shared
others_are_shared meta ne = cond-false (eqb (meta / 256) 1) Owned Shared (ne_eqb (meta / 256) 1 ne)

pub entered_frames : (v : View) (f i x : ℕ) → (entered v f i x).frames ≡ v.frames
unfolding entered
entered_frames v f i x = refl

pub gained_frames : (v : View) (f : ℕ) → (gained v f).frames ≡ v.frames
unfolding gained
gained_frames v f = refl

pub lost_frames : (o : Lost) (v : View) (f : ℕ) → (lost o v f).frames ≡ v.frames
unfolding lost
lost_frames Owned v f = refl
lost_frames Shared v f = refl
