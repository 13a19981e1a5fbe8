-- Each step of a holder keeps the rule, and tells what it is said to tell.
use Rattle.std.proofs.Common.{◌≡◌, ℕ, zero, suc, ◌+◌, ◌*◌, ◌/◌, ◌%◌, ◌<◌, ◌≤◌, ◌≢◌, List, [], ◌∷◌, length, get_or, set, refl, sym, ap, subst, ◌∙◌, ⊎_elim, arith, length-set, get_or-set_other, get_or-set_same}
use mathlib.Core.Option.{some, none}
use lib.ListN.{get_elem?}
use Rattle.std.proofs.lemmas.Bool.{cases_eq}
use Rattle.atomic_table.specs.Table.{State, step, keeps, stepped, Allows}
use Rattle.atomic_table.proofs.Lists.{set_again}
use Rattle.frame_model.specs.declared.kind.Kind.{Kind}
use Rattle.frame_model.specs.declared.kind.Kind.TheVariants.{Data, Leaf, Mid, Root}
use Rattle.frame_model.specs.declared.holding.Holding.{Holding}
use Rattle.frame_model.specs.declared.view.View.{View}
use Rattle.frame_model.specs.Holdings.{with_view, views_of}
use Rattle.frame_model.specs.Words.{Frames, frames_in, meta_place, word_place, kind_number, kind_at, count_at, IsMeta, IsEntryAt, names, target}
use Rattle.frame_model.specs.Views.{name_count}
use Rattle.frame_model.specs.Views.{Has, kind_of, words_of, word_of, targets, targets_by_kind, reach, IsLoose}
use Rattle.frame_model.specs.Rule.{At, Descends, FrameRule}
use Rattle.frame_model.proofs.Covers.{whole_owns}
use Rattle.frame_model.proofs.NameCounts.{count_least, own_count}
use Rattle.frame_model.proofs.Counts.{names_data, names_zero, names_same, names_true, links_some}
use Rattle.frame_model.proofs.Reach.{targets_zero, by_kind_none, kind_number_most}
use Rattle.frame_model.proofs.Owners.{owned_reached, loose_count}
use Rattle.frame_model.proofs.Rules.{sound}
use Rattle.frame_words.specs.Steps.{put, dressed, IsClear}
use Rattle.frame_words.specs.Plays.{Kept, Mine, Looked, LookedAgain, LookedWhole, LookedAtMeta}
use Rattle.frame_words.specs.Plays.{DidPut, DidDress}
use Rattle.frame_words.proofs.Places as places
use Rattle.frame_words.proofs.Seats.{seen_at, rule_set, now_sound}
use Rattle.frame_words.proofs.News.{IsNews, news_kept}

-- a word that is stored as it was
same_words : (ws : List ℕ) (i : ℕ) → set ws i (get_or ws i 0) ≡ ws
same_words [] i = refl
same_words (x ∷ xs) zero = refl
same_words (x ∷ xs) (suc i) = ap (λ ys. x ∷ ys) (same_words xs i)

-- a load leaves the rule as it was
stays : (n : ℕ) (s : State (Unit {0}) Holding) (id : ℕ) (me : Mine) (i : ℕ) → Kept n s
    → get_elem? s.views id ≡ some me.0
    → Kept n (stepped s i (get_or s.words i 0) id me.1 me.0 keeps)
stays n s id me i kept at =
    let ws : set s.words i (get_or s.words i 0) ≡ s.words = same_words s.words i in
    let vs : set s.views id me.0 ≡ s.views = set_again s.views id me.0 at in
    record {
      size = ap length ws ∙ kept.size;
      rule = subst (λ (p : List ℕ × List Holding). FrameRule n (frames_in p.0) (views_of p.1))
          (λ k. (sym ws k, sym vs k)) kept.rule;
    }

module _ (n : ℕ) (slots id : ℕ) (me : Mine) where
  -- ---- peek

  pub looks : (f i : ℕ) → Has f (reach me.0.view) → i < 512
      → Allows (Kept n) slots id me (word_place f i) (λ x. x)
      (Looked (step slots (word_place f i) 0 0 none) me)
  looks f i h lt s kept _ at _ = (
    me.0,
    keeps,
    tt,
    stays n s id me (word_place f i) kept at,
    record {
      same = refl;
      word = λ g j k e.
          let p = places.one_word f i g j lt k e in
          let a = kept.rule.agrees id me.0.view (seen_at s.views id me.0 at) in
          a.word f i h lt ∙ (λ q. word_of me.0.view (p.0 q) (p.1 q));
    },
  )

  -- loads that tell no word
  pub looks_again : Allows (Kept n) slots id me 0 (λ x. x) (LookedAgain (step slots 0 0 0 none) me)
  looks_again s kept _ at _ = (
    me.0,
    keeps,
    tt,
    stays n s id me 0 kept at,
    record {
      same = refl;
      sound = sound n (frames_in s.words) (views_of s.views) kept.rule id me.0.view
          (seen_at s.views id me.0 at);
    },
  )

  pub looks_whole : Allows (Kept n) slots id me 0 (λ x. x) (LookedWhole (step slots 0 0 0 none) me)
  looks_whole s kept _ at _ =
      let there = seen_at s.views id me.0 at in
      let frames = (kept.rule.agrees id me.0.view there).frames in (
        me.0,
        keeps,
        tt,
        stays n s id me 0 kept at,
        record {
          same = refl;
          all = λ lone whole f lt.
              let e = frames (omega arith) in
              let inside : f < n = omega arith in
              (whole_owns n (frames_in s.words) (views_of s.views) kept.rule id me.0.view there
              lone whole f inside).0;
        },
      )

  pub looks_at_meta : (f : ℕ) → Has f (reach me.0.view)
      → Allows (Kept n) slots id me (meta_place f) (λ x. x)
      (LookedAtMeta (step slots (meta_place f) 0 0 none) me)
  looks_at_meta f h s kept _ at _ =
      let there = seen_at s.views id me.0 at in
      let a = kept.rule.agrees id me.0.view there in
      let inside = a.inside f h in
      let k = a.kind f h in
      let b = kept.rule.kinds f inside in
      let m = frames_in s.words in (
        me.0,
        keeps,
        tt,
        stays n s id me (meta_place f) kept at,
        record {
          same = refl;
          kind = λ g e.
              subst (λ (x : ℕ). m.meta f % 256 ≡ kind_number (kind_of me.0.view x))
              (places.one_meta f g e) (omega arith);
          least = λ g e.
              subst (λ (x : ℕ). name_count me.0.view x ≤ m.meta f / 256) (places.one_meta f g e)
              (count_least n m (views_of s.views) kept.rule id me.0.view there f inside);
          own = λ g e own.
              let p = places.one_meta f g e in
              let mine = subst (λ (x : ℕ). Has x me.0.view.owned) (sym p) own in
              subst (λ (x : ℕ). m.meta f / 256 ≡ name_count me.0.view x) p
              (own_count n m (views_of s.views) kept.rule id me.0.view there f mine);
        },
      )

data_targets : (k : Kind) (xs ys : List ℕ) → k ≡ Data → targets_by_kind k xs ≡ targets_by_kind k ys
data_targets k xs ys e = ap (λ (x : Kind). targets_by_kind x xs) e ∙ sym (ap (λ (x : Kind). targets_by_kind x ys) e)

kind_number_one : (a b : Kind) → kind_number a ≡ kind_number b → a ≡ b
kind_number_one Data Data e = refl
kind_number_one Data Leaf e = absurd (omega arith)
kind_number_one Data Mid e = absurd (omega arith)
kind_number_one Data Root e = absurd (omega arith)
kind_number_one Leaf Data e = absurd (omega arith)
kind_number_one Leaf Leaf e = refl
kind_number_one Leaf Mid e = absurd (omega arith)
kind_number_one Leaf Root e = absurd (omega arith)
kind_number_one Mid Data e = absurd (omega arith)
kind_number_one Mid Leaf e = absurd (omega arith)
kind_number_one Mid Mid e = refl
kind_number_one Mid Root e = absurd (omega arith)
kind_number_one Root Data e = absurd (omega arith)
kind_number_one Root Leaf e = absurd (omega arith)
kind_number_one Root Mid e = absurd (omega arith)
kind_number_one Root Root e = refl

-- an entry that stands as it did, to a frame of the kind that it had
descends_same : (n : ℕ) (l m : Frames) (g i : ℕ) → Descends n l g i → kind_at m g ≡ kind_at l g → m.word g i ≡ l.word g i
    → kind_at m (target (l.word g i)) ≡ kind_at l (target (l.word g i)) → Descends n m g i
descends_same n l m g i d kind word under = record {
  form = subst (λ (p : ℕ × ℕ). IsEntryAt p.0 p.1) (λ k. (sym kind k, sym word k)) d.form;
  inside = subst (λ (x : ℕ). target x < n) (sym word) d.inside;
  below = ap (λ (x : ℕ). kind_at m (target x) + 1) word ∙ ap (λ (x : ℕ). x + 1) under ∙ d.below ∙ sym kind;
}

-- ---- put

module _ (n : ℕ) (ws : List ℕ) (views : List View) (rule : FrameRule n (frames_in ws) views) (size : length ws ≡ n * 513)
    (id : ℕ) (v : View) (at : At views id v) (f i x : ℕ) (own : Has f v.owned) (data_kind : kind_of v f ≡ Data) (lt : i < 512) where
  abbrev l : Frames
  l = frames_in ws

  abbrev m : Frames
  m = frames_in (set ws (word_place f i) x)

  put_room : word_place f i < length ws
  put_room = let a = (rule.agrees id v at).inside f (owned_reached n l views rule v f own) in omega arith

  put_meta : (g : ℕ) → m.meta g ≡ l.meta g
  put_meta g = places.meta_put ws x f i g lt

  put_kind : (g : ℕ) → kind_at m g ≡ kind_at l g
  put_kind g = ap (λ (y : ℕ). y % 8) (put_meta g)

  put_is_data : kind_at l f ≡ 0
  put_is_data = (rule.agrees id v at).kind f (owned_reached n l views rule v f own) ∙ ap kind_number data_kind

  put_news : IsNews n l m v f (kind_of v f) (set (words_of v f) i x)
  put_news =
      let a = rule.agrees id v at in
      let r = owned_reached n l views rule v f own in
      let len = a.whole f r in
      record {
        owned = own;
        targets = data_targets (kind_of v f) (set (words_of v f) i x) (words_of v f) data_kind;
        whole = length-set (words_of v f) i x ∙ len;
        counts = λ g. ap (λ (y : ℕ). y / 256) (put_meta g);
        kind_else = λ g ne. put_kind g;
        kind_here = put_kind f ∙ a.kind f r;
        word_else = λ g j ne k. places.word_put_else ws x f i g j lt k (λ e _. ne e);
        word_here = λ j k. ⊎_elim
            (λ (e : j ≡ i).
            let here = places.word_put_here ws x f i put_room in
            let there = get_or-set_same (words_of v f) i x 0 (omega arith) in
            ap (λ (y : ℕ). m.word f y) e ∙ here ∙ sym there ∙ sym (ap (λ (y : ℕ). get_or (set (words_of v f) i x) y 0) e))
            (λ (ne : j ≡ i → ⊥).
            places.word_put_else ws x f i f j lt k (λ _ e. ne e) ∙ a.word f j r k ∙ sym (get_or-set_other (words_of v f) i j x 0 ne))
            (cases_eq j i);
        names = λ g j h k. ⊎_elim
            (λ (e : g ≡ f).
            let z : kind_at l g ≡ 0 = ap (λ (y : ℕ). kind_at l y) e ∙ put_is_data in
            names_data m h g j (put_kind g ∙ z) ∙ sym (names_data l h g j z))
            (λ (ne : g ≡ f → ⊥). names_same m l h g j (put_kind g) (places.word_put_else ws x f i g j lt k (λ e _. ne e)))
            (cases_eq g f);
        kinds = λ g k. subst IsMeta (sym (put_meta g)) (rule.kinds g k);
        descends = λ g j k kj table ne. ⊎_elim
            (λ (e : g ≡ f).
            let z : kind_at m g ≡ 0 = ap (λ (y : ℕ). kind_at m y) e ∙ put_kind f ∙ put_is_data in
            absurd (omega arith))
            (λ (no : g ≡ f → ⊥).
            let word = places.word_put_else ws x f i g j lt kj (λ e _. no e) in
            let kind = put_kind g in
            descends_same n l m g j (rule.descends g j k kj (omega arith) (λ z. ne (word ∙ z))) kind word (put_kind (target (l.word g j))))
            (cases_eq g f);
      }

  pub put_kept : FrameRule n m (set views id (put v f i x))
  put_kept = news_kept n l m views rule id v at f (kind_of v f) (set (words_of v f) i x) put_news

module _ (n : ℕ) (slots id : ℕ) (me : Mine) where
  pub puts : (f i x : ℕ) → Has f me.0.view.owned → kind_of me.0.view f ≡ Data → i < 512
      → Allows (Kept n) slots id me (word_place f i) (λ _. x)
      (λ _. DidPut (step slots (word_place f i) x 0 none) me x)
  puts f i x own kind lt s kept _ at _ =
      let w = with_view me.0 (put me.0.view f i x) in
      let m = frames_in (set s.words (word_place f i) x) in
      let rule = rule_set n m s.views id w
      (put_kept n s.words (views_of s.views) kept.rule kept.size id me.0.view
      (seen_at s.views id me.0 at) f i x own kind lt) in (
        w,
        keeps,
        tt,
        record { size = length-set s.words (word_place f i) x ∙ kept.size; rule = rule },
        record {
          slots = refl;
          tally = refl;
          view = λ g j k e.
              let p = places.one_word f i g j lt k e in
              (λ q. put me.0.view (p.0 q) (p.1 q) x);
          sound = now_sound n m s.views id w me.0 at rule;
        },
      )

-- ---- dress

module _ (n : ℕ) (ws : List ℕ) (views : List View) (rule : FrameRule n (frames_in ws) views) (size : length ws ≡ n * 513)
    (id : ℕ) (v : View) (at : At views id v) (f : ℕ) (kind : Kind) (loose : IsLoose v f) (clear : IsClear v f) where
  abbrev dl : Frames
  dl = frames_in ws

  abbrev dm : Frames
  dm = frames_in (set ws (meta_place f) (kind_number kind))

  dress_reached : Has f (reach v)
  dress_reached = owned_reached n dl views rule v f loose.owned

  dress_room : meta_place f < length ws
  dress_room = let a = (rule.agrees id v at).inside f dress_reached in omega arith

  dress_here : dm.meta f ≡ kind_number kind
  dress_here = places.meta_dress_here ws (kind_number kind) f dress_room

  dress_else : (g : ℕ) → g ≢ f → dm.meta g ≡ dl.meta g
  dress_else g ne = places.meta_dress_else ws (kind_number kind) f g ne

  dress_word : (g j : ℕ) → j < 512 → dm.word g j ≡ dl.word g j
  dress_word g j k = places.word_dress ws (kind_number kind) f g j k

  dress_clear : (j : ℕ) → j < 512 → dl.word f j ≡ 0
  dress_clear j k = (rule.agrees id v at).word f j dress_reached k ∙ clear j k

  no_targets : targets (words_of v f) ≡ []
  no_targets = let len = (rule.agrees id v at).whole f dress_reached in targets_zero (words_of v f) (λ j k. clear j (omega arith))

  dress_names : (g j h : ℕ) → j < 512 → names dm h g j ≡ names dl h g j
  dress_names g j h k = ⊎_elim
      (λ (e : g ≡ f).
      let z : dl.word g j ≡ 0 = ap (λ (y : ℕ). dl.word y j) e ∙ dress_clear j k in
      names_zero dm h g j (dress_word g j k ∙ z) ∙ sym (names_zero dl h g j z))
      (λ (ne : g ≡ f → ⊥). names_same dm dl h g j (ap (λ (y : ℕ). y % 8) (dress_else g ne)) (dress_word g j k))
      (cases_eq g f)

  dress_news : IsNews n dl dm v f kind (words_of v f)
  dress_news =
      let a = rule.agrees id v at in
      let most = kind_number_most kind in
      let zero_count = loose_count n dl views rule id v at f loose in
      let here = dress_here in
      record {
        owned = loose.owned;
        targets = by_kind_none kind (words_of v f) no_targets ∙ sym (by_kind_none (kind_of v f) (words_of v f) no_targets);
        whole = a.whole f dress_reached;
        counts = λ g. ⊎_elim
            (λ (e : g ≡ f).
            let b : count_at dm f ≡ 0 = omega arith in
            ap (λ (y : ℕ). count_at dm y) e ∙ b ∙ sym zero_count ∙ sym (ap (λ (y : ℕ). count_at dl y) e))
            (λ (ne : g ≡ f → ⊥). ap (λ (y : ℕ). y / 256) (dress_else g ne))
            (cases_eq g f);
        kind_else = λ g ne. ap (λ (y : ℕ). y % 8) (dress_else g ne);
        kind_here = omega arith;
        word_else = λ g j ne k. dress_word g j k;
        word_here = λ j k. dress_word f j k ∙ a.word f j dress_reached k;
        names = dress_names;
        kinds = λ g k. ⊎_elim
            (λ (e : g ≡ f). subst (λ (y : ℕ). IsMeta (dm.meta y)) (sym e) (omega arith))
            (λ (ne : g ≡ f → ⊥). subst IsMeta (sym (dress_else g ne)) (rule.kinds g k))
            (cases_eq g f);
        descends = λ g j k kj table ne. ⊎_elim
            (λ (e : g ≡ f). absurd (ne (dress_word g j kj ∙ ap (λ (y : ℕ). dl.word y j) e ∙ dress_clear j kj)))
            (λ (no : g ≡ f → ⊥).
            let kg : kind_at dm g ≡ kind_at dl g = ap (λ (y : ℕ). y % 8) (dress_else g no) in
            let word = dress_word g j kj in
            let full : dl.word g j ≢ 0 = λ z. ne (word ∙ z) in
            let tab : 0 < kind_at dl g = omega arith in
            let d = rule.descends g j k kj tab full in
            let far : target (dl.word g j) ≢ f = λ e.
            let some_link = links_some dl f n g j k kj (names_true dl f g j tab full e) in
            let counted = rule.counted f (a.inside f dress_reached) in
            omega arith in
            descends_same n dl dm g j d kg word (ap (λ (y : ℕ). y % 8) (dress_else (target (dl.word g j)) far)))
            (cases_eq g f);
      }

  pub dress_kept : FrameRule n dm (set views id (dressed v f kind))
  dress_kept = news_kept n dl dm views rule id v at f kind (words_of v f) dress_news

module _ (n : ℕ) (slots id : ℕ) (me : Mine) where
  pub dresses : (f : ℕ) (kind : Kind) → IsLoose me.0.view f → IsClear me.0.view f
      → Allows (Kept n) slots id me (meta_place f) (λ _. kind_number kind)
      (λ _. DidDress (step slots (meta_place f) (kind_number kind) 0 none) me (kind_number kind))
  dresses f kind loose clear s kept _ at _ =
      let w = with_view me.0 (dressed me.0.view f kind) in
      let m = frames_in (set s.words (meta_place f) (kind_number kind)) in
      let rule = rule_set n m s.views id w
      (dress_kept n s.words (views_of s.views) kept.rule kept.size id me.0.view
      (seen_at s.views id me.0 at) f kind loose clear) in (
        w,
        keeps,
        tt,
        record { size = length-set s.words (meta_place f) (kind_number kind) ∙ kept.size; rule = rule },
        record {
          slots = refl;
          tally = refl;
          view = λ g other e k.
              let p = places.one_meta f g e in
              let q = kind_number_one kind other k in
              (λ z. dressed me.0.view (p z) (q z));
          sound = now_sound n m s.views id w me.0 at rule;
        },
      )
