-- What the steps of a history keep.
use Rattle.std.proofs.Common.{◌≡◌, ℕ, ◌%◌, ◌^◌, ◌<◌, ◌≢◌, List, [], ◌∷◌, length}
use Rattle.std.proofs.Common.{set, refl, sym, ap, subst, ◌∙◌, inr, ⊎_elim, arith, length-set}
use mathlib.Core.Option.{some, some-injective}
use lib.ListN.{get_elem?}
use Rattle.std.proofs.lemmas.Bool.{cases_eq}
use Rattle.atomic_table.specs.Table.{Act, stepped}
use Rattle.atomic_table.proofs.Lists.{set_else, at_longer}
use Rattle.frame_model.specs.declared.holding.Holding.{Holding}
use Rattle.frame_model.specs.declared.view.View.{View}
use Rattle.frame_model.specs.Holdings.{held, with_view, views_of}
use Rattle.frame_model.specs.Words.{frames_in, meta_place, word_place, kind_number, kind_at}
use Rattle.frame_model.specs.Views.{Has, reach}
use Rattle.frame_model.specs.Rule.{At, FrameRule}
use Rattle.frame_model.proofs.Counts.{count_most}
use Rattle.frame_words.specs.Plays.{Kept, Mine}
use Rattle.frame_words.specs.Steps.{put, dressed, kept_of, given_of, joined, spent}
use Rattle.frame_words.proofs.Keeps as words
use Rattle.frame_words.proofs.Places as places
use Rattle.frame_words.proofs.Seats.{seen_at, rule_set, views_set}
use Rattle.frame_words.proofs.Shares.{splits as cuts}
use Rattle.frame_words.proofs.Splits.{root_reached}
use Rattle.frame_words.proofs.Unions.{joins as unites}
use Rattle.frame_steps.specs.Counted.{entered, gained, lost, lost_at}
use Rattle.frame_steps.proofs.Changes.{change_kept}
use Rattle.frame_steps.proofs.Keeps as steps
use Rattle.frame_steps.proofs.NewEntries.{entry_change}
use Rattle.frame_model.proofs.Rules.{sound}
use Rattle.frame_laws.specs.History.{Table, Holds, FrameStep, peeks, puts, dresses, enters, gains}
use Rattle.frame_laws.specs.History.{loses, splits, joins, Turn, MayStep, MayTake, MayTakeAll}
use Rattle.frame_laws.specs.History.{with_word, one_more, one_less, meta_of, after_step, after}
use Rattle.frame_laws.specs.History.{after_all, Spends, IsShared, IsSharedBefore, IsSame}

-- ---- the rule

-- what a step of the table leaves is what it leaves by its view
kept_as : (n : ℕ) (s : Table) (place word id : ℕ) (me : Mine) (h w : Holding) (v : View)
    (a : Act (Unit {0})) → w.view ≡ v → Kept n (stepped s place word id me.1 w a)
    → Kept n (with_word s place word id h v)
kept_as n s place word id me h w v a e kept =
    let was = views_set s.views id w in
    let now = views_set s.views id (with_view h v) in
    let same : views_of (set s.views id w) ≡ views_of (set s.views id (with_view h v)) =
    was ∙ ap (λ (u : View). set (views_of s.views) id u) e ∙ sym now in
    record {
      size = kept.size;
      rule = subst (λ (vs : List View). FrameRule n (frames_in (set s.words place word)) vs) same
          kept.rule;
    }

module _ (n : ℕ) (s : Table) (kept : Kept n s) (id : ℕ) (h : Holding) (at : Holds s id h) where
  abbrev me : Mine
  me = (h, [])

  abbrev slots : ℕ
  slots = length s.homes

  there : At (views_of s.views) id h.view
  there = seen_at s.views id h at

  -- a meta word of a frame of the table is one
  small : (f : ℕ) → f < n → meta_of s f < 2 ^ 64
  small f lt =
      let a = count_most n (frames_in s.words) (views_of s.views) kept.rule f lt in
      omega arith

  in_table : (f : ℕ) → Has f (reach h.view) → f < n
  in_table f r = (kept.rule.agrees id h.view there).inside f r

  referred : (f : ℕ) → Has f h.view.references → Has f (reach h.view)
  referred f r =
      let is = sound n (frames_in s.words) (views_of s.views) kept.rule id h.view there in
      root_reached h.view is f (inr r)

  -- a word that was stored, with the rule of the views then
  stored : (place word : ℕ) (v : View)
      → FrameRule n (frames_in (set s.words place word)) (set (views_of s.views) id v)
      → Kept n (with_word s place word id h v)
  stored place word v rule = record {
    size = length-set s.words place word ∙ kept.size;
    rule = rule_set n (frames_in (set s.words place word)) s.views id (with_view h v) rule;
  }

  pub step_kept : (t : FrameStep) → MayStep s id h.view t → Kept n (after_step s id h t)
  unfolding MayStep after_step
  step_kept (peeks f) may = kept
  step_kept (puts f i x) may =
      stored (word_place f i) x (put h.view f i x)
      (words.put_kept n s.words (views_of s.views) kept.rule kept.size id h.view there f i x
      may.0 may.1 may.2)
  step_kept (dresses f kind) may =
      stored (meta_place f) (kind_number kind) (dressed h.view f kind)
      (words.dress_kept n s.words (views_of s.views) kept.rule kept.size id h.view there f kind
      may.0 may.1)
  step_kept (enters f i x) may =
      stored (word_place f i) x (entered h.view f i x)
      (change_kept n (frames_in s.words) (frames_in (set s.words (word_place f i) x))
      (views_of s.views) kept.rule id h.view (entered h.view f i x) there
      (entry_change n s.words (views_of s.views) kept.rule kept.size id h.view there f i x
      may.0 may.1 may.2 may.3 may.4))
  step_kept (gains f) may =
      let r = steps.gains n slots id me f may.0 may.1 s kept refl at (small f (in_table f may.0)) in
      kept_as n s (meta_place f) (one_more (meta_of s f)) id me h r.0 (gained h.view f) r.1
      (r.4.view f refl) r.3
  step_kept (loses f) may =
      let lt = in_table f (referred f may) in
      let r = steps.loses n slots id me f may s kept refl at (small f lt) in
      kept_as n s (meta_place f) (one_less (meta_of s f)) id me h r.0
      (lost (lost_at (meta_of s f)) h.view f) r.1 (r.4.view f refl) r.3
  step_kept (splits part) may = cuts n id h part may.0 may.1 may.2 s kept at
  step_kept (joins other k) may =
      let size = kept.size in
      let words_now = may.3 in
      let frames : h.view.frames ≡ n = omega arith in
      let both = with_view h (joined h.view k.view) in
      unites n id other h k frames may.2 s kept at may.1
      (set_else s.views id other both may.1 ∙ may.0)

  -- ---- the words

  word_stored : (f i x : ℕ) (v : View) (g : ℕ) → i < 512 → g ≢ f
      → IsSame s (with_word s (word_place f i) x id h v) g
  word_stored f i x v g lt ne = record {
    kind = ap (λ (y : ℕ). y % 8) (places.meta_put s.words x f i g lt);
    word = λ j k. places.word_put_else s.words x f i g j lt k (λ e _. ne e);
  }

  -- another kind or count of another frame
  meta_else : (f x : ℕ) (v : View) (g : ℕ) → g ≢ f
      → IsSame s (with_word s (meta_place f) x id h v) g
  meta_else f x v g ne = record {
    kind = ap (λ (y : ℕ). y % 8) (places.meta_dress_else s.words x f g ne);
    word = λ j k. places.word_dress s.words x f g j k;
  }

  -- another count
  recounted : (f x : ℕ) (v : View) (g : ℕ) → f < n → x % 8 ≡ meta_of s f % 8
      → IsSame s (with_word s (meta_place f) x id h v) g
  recounted f x v g lt same = ⊎_elim
      (λ (e : g ≡ f).
      let size = kept.size in
      let here = places.meta_dress_here s.words x f (omega arith) in
      let kind : kind_at (frames_in (set s.words (meta_place f) x)) f
      ≡ kind_at (frames_in s.words) f = ap (λ (y : ℕ). y % 8) here ∙ same in
      record {
        kind = subst (λ (y : ℕ). kind_at (frames_in (set s.words (meta_place f) x)) y
            ≡ kind_at (frames_in s.words) y) (sym e) kind;
        word = λ j k. places.word_dress s.words x f g j k;
      })
      (λ (ne : g ≢ f). meta_else f x v g ne)
      (cases_eq g f)

  -- what isn't owned isn't the frame that is
  off : (f g : ℕ) → Has f h.view.owned → (Has g h.view.owned → ⊥) → g ≢ f
  off f g own away e = away (subst (λ (y : ℕ). Has y h.view.owned) (sym e) own)

  pub step_same : (t : FrameStep) → MayStep s id h.view t → (g : ℕ)
      → (Has g h.view.owned → ⊥) → IsSame s (after_step s id h t) g
  unfolding MayStep after_step
  step_same (peeks f) may g away = record { kind = refl; word = λ j k. refl }
  step_same (puts f i x) may g away =
      word_stored f i x (put h.view f i x) g may.2 (off f g may.0 away)
  step_same (dresses f kind) may g away =
      meta_else f (kind_number kind) (dressed h.view f kind) g (off f g may.0.owned away)
  step_same (enters f i x) may g away =
      word_stored f i x (entered h.view f i x) g may.2 (off f g may.0 away)
  step_same (gains f) may g away =
      let y : ℕ = meta_of s f in
      let same : one_more y % 8 ≡ y % 8 = omega arith in
      recounted f (one_more (meta_of s f)) (gained h.view f) g (in_table f may.0) same
  step_same (loses f) may g away =
      let y : ℕ = meta_of s f in
      let same : one_less y % 8 ≡ y % 8 = omega arith in
      recounted f (one_less (meta_of s f)) (lost (lost_at (meta_of s f)) h.view f) g
      (in_table f (referred f may)) same
  step_same (splits part) may g away = record { kind = refl; word = λ j k. refl }
  step_same (joins other k) may g away = record { kind = refl; word = λ j i. refl }

-- ---- the other holders

other_stays : (s : Table) (id : ℕ) (h : Holding) (v : View) (j : ℕ) (k : Holding)
    → Holds s j k → (id ≡ j → ⊥) → get_elem? (set s.views id (with_view h v)) j ≡ some k
other_stays s id h v j k there ne =
    set_else s.views id j (with_view h v) (λ e. ne (sym e)) ∙ there

pub step_holders : (s : Table) (id : ℕ) (h : Holding) (t : FrameStep) (j : ℕ) (k : Holding)
    → Holds s j k → (id ≡ j → ⊥) → (Spends t j → ⊥) → Holds (after_step s id h t) j k
unfolding after_step Spends
step_holders s id h (peeks f) j k there ne away = there
step_holders s id h (puts f i x) j k there ne away =
    other_stays s id h (put h.view f i x) j k there ne
step_holders s id h (dresses f kind) j k there ne away =
    other_stays s id h (dressed h.view f kind) j k there ne
step_holders s id h (enters f i x) j k there ne away =
    other_stays s id h (entered h.view f i x) j k there ne
step_holders s id h (gains f) j k there ne away =
    other_stays s id h (gained h.view f) j k there ne
step_holders s id h (loses f) j k there ne away =
    other_stays s id h (lost (lost_at (meta_of s f)) h.view f) j k there ne
step_holders s id h (splits part) j k there ne away =
    at_longer (set s.views id (with_view h (kept_of part h.view)))
    (held (given_of part h.view) ∷ []) j k
    (set_else s.views id j (with_view h (kept_of part h.view)) (λ e. ne (sym e)) ∙ there)
step_holders s id h (joins other o) j k there ne away =
    let both = with_view h (joined h.view o.view) in
    set_else (set s.views id both) other j (held spent) (λ e. away (sym e))
    ∙ set_else s.views id j both (λ e. ne (sym e)) ∙ there

-- ---- turns

pub turn_kept : (n : ℕ) (s : Table) (t : Turn) → Kept n s → MayTake s t → Kept n (after s t)
turn_kept n s t kept may = step_kept n s kept t.id t.holding may.0 t.step may.1

pub turns_kept : (n : ℕ) (s : Table) (ts : List Turn) → Kept n s → MayTakeAll s ts
    → Kept n (after_all s ts)
turns_kept n s [] kept may = kept
turns_kept n s (t ∷ ts) kept may =
    turns_kept n (after s t) ts (turn_kept n s t kept may.0) may.1

pub turn_mine : (n : ℕ) (s : Table) (t : Turn) → Kept n s → MayTake s t → (f : ℕ)
    → (Has f t.holding.view.owned → ⊥) → IsSame s (after s t) f
turn_mine n s t kept may f away = step_same n s kept t.id t.holding may.0 t.step may.1 f away

pub turn_others : (n : ℕ) (s : Table) (t : Turn) → Kept n s → MayTake s t → (id : ℕ) (h : Holding)
    → Holds s id h → (t.id ≡ id → ⊥) → (f : ℕ) → Has f (reach h.view) → IsSame s (after s t) f
turn_others n s t kept may id h at ne f r = turn_mine n s t kept may f (λ own.
    kept.rule.apart t.id id t.holding.view h.view (seen_at s.views t.id t.holding may.0)
    (seen_at s.views id h at) ne f own r)

-- a turn under one that shares the frame
turn_shared : (n : ℕ) (s : Table) (t : Turn) → Kept n s → MayTake s t → (id f : ℕ)
    → IsShared s id f → IsSame s (after s t) f
turn_shared n s t kept may id f shared = ⊎_elim
    (λ (e : t.id ≡ id).
    let at : Holds s id t.holding = subst (λ (x : ℕ). Holds s x t.holding) e may.0 in
    let same : shared.holding ≡ t.holding =
    some-injective shared.holding t.holding (sym shared.at ∙ at) in
    turn_mine n s t kept may f (λ own. shared.unowned
    (subst (λ (x : Holding). Has f x.view.owned) (sym same) own)))
    (λ (ne : t.id ≡ id → ⊥).
    turn_others n s t kept may id shared.holding shared.at ne f shared.reached)
    (cases_eq t.id id)

pub turns_shared : (n : ℕ) (s : Table) (ts : List Turn) → Kept n s → MayTakeAll s ts → (id f : ℕ)
    → IsSharedBefore s ts id f → IsSame s (after_all s ts) f
turns_shared n s [] kept may id f shared = record { kind = refl; word = λ i lt. refl }
turns_shared n s (t ∷ ts) kept may id f shared =
    let one = turn_shared n s t kept may.0 id f shared.0 in
    let rest = turns_shared n (after s t) ts (turn_kept n s t kept may.0) may.1 id f shared.1 in
    record {
      kind = rest.kind ∙ one.kind;
      word = λ i lt. rest.word i lt ∙ one.word i lt;
    }
