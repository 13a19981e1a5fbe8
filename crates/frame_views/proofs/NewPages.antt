-- What is known of frames after a step that changes one of them.
use Rattle.std.proofs.Common.{◌≡◌, ℕ, ◌<◌, ◌≢◌, List, [], length, get_or, set, refl, sym, ap}
use Rattle.std.proofs.Common.{subst, ◌∙◌, ⊎_elim, arith, length-set, get_or-set_other}
use Rattle.std.proofs.Common.{get_or-set_same}
use Rattle.std.proofs.lemmas.Bool.{cases_eq}
use Rattle.frame_model.specs.declared.kind.Kind.{Kind}
use Rattle.frame_model.specs.declared.kind.Kind.TheVariants.{Data}
use Rattle.frame_model.specs.declared.view.Known.{Known}
use Rattle.frame_model.specs.declared.view.View.{View}
use Rattle.frame_model.specs.Words.{depth}
use Rattle.frame_model.specs.Views.{Has, children, targets_of, IsLoose}
use Rattle.frame_model.specs.Views.{forget, known_of, kind_of, words_of, word_of, targets}
use Rattle.frame_model.specs.Views.{targets_by_kind, reach, with_known}
use Rattle.frame_model.proofs.Reach.{children_same}
use Rattle.frame_model.proofs.Reach.{known_here, known_else, forget_else, news_within}
use Rattle.frame_model.proofs.Reach.{targets_zero, by_kind_none}
use Rattle.frame_words.specs.Steps.{put, dressed, IsClear}
use Rattle.frame_steps.specs.Counted.{entered}

-- ---- news of one frame

module _ (v : View) (f : ℕ) (kind : Kind) (words : List ℕ) where
  page : Known
  page = record { frame = f; kind = kind; words = words }

  pub news_here : known_of (with_known v f kind words).known f
      ≡ record { frame = f; kind = kind; words = words }
  news_here =
      known_here (record { frame = f; kind = kind; words = words }) (forget f v.known) f refl

  pub news_else : (g : ℕ) → g ≢ f
      → known_of (with_known v f kind words).known g ≡ known_of v.known g
  news_else g ne =
      known_else (record { frame = f; kind = kind; words = words }) (forget f v.known) g
      (λ e. ne (sym e))
      ∙ forget_else v.known f g (λ e. ne (sym e))

  -- a frame that keeps its kind
  pub news_kind : kind ≡ kind_of v f → (g : ℕ)
      → kind_of (with_known v f kind words) g ≡ kind_of v g
  news_kind same g = ⊎_elim
      (λ (e : g ≡ f).
      subst (λ (x : ℕ). kind_of (with_known v f kind words) x ≡ kind_of v x) (sym e)
      (ap (λ (k : Known). k.kind) news_here ∙ same))
      (λ (ne : g ≢ f). ap (λ (k : Known). k.kind) (news_else g ne))
      (cases_eq g f)

  -- a frame that keeps its words
  pub news_words : words ≡ words_of v f → (g : ℕ)
      → words_of (with_known v f kind words) g ≡ words_of v g
  news_words same g = ⊎_elim
      (λ (e : g ≡ f).
      subst (λ (x : ℕ). words_of (with_known v f kind words) x ≡ words_of v x) (sym e)
      (ap (λ (k : Known). k.words) news_here ∙ same))
      (λ (ne : g ≢ f). ap (λ (k : Known). k.words) (news_else g ne))
      (cases_eq g f)

no_targets : (k : Known) → k.kind ≡ Data → targets_of k ≡ []
no_targets k is = ap (λ (x : Kind). targets_by_kind x k.words) is

-- ---- one word

module _ (v : View) (f i x : ℕ) where
  pub put_kind : (g : ℕ) → kind_of (put v f i x) g ≡ kind_of v g
  put_kind = news_kind v f (kind_of v f) (set (words_of v f) i x) refl

  pub put_words_here : words_of (put v f i x) f ≡ set (words_of v f) i x
  put_words_here =
      ap (λ (k : Known). k.words) (news_here v f (kind_of v f) (set (words_of v f) i x))

  pub put_words_else : (g : ℕ) → g ≢ f → words_of (put v f i x) g ≡ words_of v g
  put_words_else g ne =
      ap (λ (k : Known). k.words) (news_else v f (kind_of v f) (set (words_of v f) i x) g ne)

  pub put_word_here : i < length (words_of v f) → word_of (put v f i x) f i ≡ x
  put_word_here lt =
      ap (λ (ws : List ℕ). get_or ws i 0) put_words_here ∙ get_or-set_same (words_of v f) i x 0 lt

  pub put_word_else : (g j : ℕ) → ((g ≡ f) × (j ≡ i) → ⊥)
      → word_of (put v f i x) g j ≡ word_of v g j
  put_word_else g j away = ⊎_elim
      (λ (e : g ≡ f).
      subst (λ (y : ℕ). word_of (put v f i x) y j ≡ word_of v y j) (sym e)
      (ap (λ (ws : List ℕ). get_or ws j 0) put_words_here
      ∙ get_or-set_other (words_of v f) i j x 0 (λ d. away (e, d))))
      (λ (ne : g ≢ f). ap (λ (ws : List ℕ). get_or ws j 0) (put_words_else g ne))
      (cases_eq g f)

  pub put_length : (g : ℕ) → length (words_of (put v f i x) g) ≡ length (words_of v g)
  put_length g = ⊎_elim
      (λ (e : g ≡ f).
      subst (λ (y : ℕ). length (words_of (put v f i x) y) ≡ length (words_of v y)) (sym e)
      (ap (λ (ws : List ℕ). length ws) put_words_here ∙ length-set (words_of v f) i x))
      (λ (ne : g ≢ f). ap (λ (ws : List ℕ). length ws) (put_words_else g ne))
      (cases_eq g f)

  pub put_reach : kind_of v f ≡ Data → reach (put v f i x) ≡ reach v
  put_reach is =
      let none : (ws : List ℕ) → targets_by_kind (kind_of v f) ws ≡ [] =
      λ ws. ap (λ (k : Kind). targets_by_kind k ws) is in
      news_within (record { frame = f; kind = kind_of v f; words = set (words_of v f) i x })
      v.known depth _ (none (set (words_of v f) i x) ∙ sym (none (words_of v f)))

  -- of data the words name nothing, whatever they are
  put_targets : kind_of v f ≡ Data → (g : ℕ)
      → targets_of (known_of (put v f i x).known g) ≡ targets_of (known_of v.known g)
  put_targets is g = ⊎_elim
      (λ (e : g ≡ f).
      let was : kind_of v g ≡ Data = ap (λ (y : ℕ). kind_of v y) e ∙ is in
      no_targets (known_of (put v f i x).known g) (put_kind g ∙ was)
      ∙ sym (no_targets (known_of v.known g) was))
      (λ (ne : g ≢ f).
      ap targets_of (news_else v f (kind_of v f) (set (words_of v f) i x) g ne))
      (cases_eq g f)

  pub put_children : kind_of v f ≡ Data → (fs : List ℕ)
      → children (put v f i x).known fs ≡ children v.known fs
  put_children is fs = children_same (put v f i x).known v.known fs (put_targets is)

  pub put_loose : kind_of v f ≡ Data → (g : ℕ) → IsLoose v g → IsLoose (put v f i x) g
  put_loose is g loose = record {
    owned = loose.owned;
    unreferred = loose.unreferred;
    unnamed = λ h. loose.unnamed (subst (λ (xs : List ℕ). Has g xs) (put_children is v.owned) h);
  }

  -- an entry is such a word
  pub entered_owned : (entered v f i x).owned ≡ v.owned
  unfolding entered
  entered_owned = refl

  pub entered_stake : (entered v f i x).stake ≡ v.stake
  unfolding entered
  entered_stake = refl

  pub entered_known : (entered v f i x).known ≡ (put v f i x).known
  unfolding entered
  entered_known = refl

  pub entered_kind : (g : ℕ) → kind_of (entered v f i x) g ≡ kind_of v g
  entered_kind g = ap (λ (ks : List Known). (known_of ks g).kind) entered_known ∙ put_kind g

  pub entered_word_here : i < length (words_of v f) → word_of (entered v f i x) f i ≡ x
  entered_word_here lt =
      ap (λ (ks : List Known). get_or (known_of ks f).words i 0) entered_known ∙ put_word_here lt

  pub entered_word_else : (g j : ℕ) → ((g ≡ f) × (j ≡ i) → ⊥)
      → word_of (entered v f i x) g j ≡ word_of v g j
  entered_word_else g j away =
      ap (λ (ks : List Known). get_or (known_of ks g).words j 0) entered_known
      ∙ put_word_else g j away

  pub entered_length : (g : ℕ) → length (words_of (entered v f i x) g) ≡ length (words_of v g)
  entered_length g =
      ap (λ (ks : List Known). length (known_of ks g).words) entered_known ∙ put_length g

-- ---- one kind

module _ (v : View) (f : ℕ) (kind : Kind) where
  pub dressed_kind_here : kind_of (dressed v f kind) f ≡ kind
  dressed_kind_here = ap (λ (k : Known). k.kind) (news_here v f kind (words_of v f))

  pub dressed_kind_else : (g : ℕ) → g ≢ f → kind_of (dressed v f kind) g ≡ kind_of v g
  dressed_kind_else g ne = ap (λ (k : Known). k.kind) (news_else v f kind (words_of v f) g ne)

  pub dressed_words : (g : ℕ) → words_of (dressed v f kind) g ≡ words_of v g
  dressed_words = news_words v f kind (words_of v f) refl

  pub dressed_reach : IsClear v f → length (words_of v f) ≡ 512 → reach (dressed v f kind) ≡ reach v
  dressed_reach clear whole =
      let none : targets (words_of v f) ≡ [] =
      targets_zero (words_of v f) (λ j lt. clear j (omega arith)) in
      news_within (record { frame = f; kind = kind; words = words_of v f }) v.known depth _
      (by_kind_none kind (words_of v f) none ∙ sym (by_kind_none (kind_of v f) (words_of v f) none))

  dressed_targets : IsClear v f → length (words_of v f) ≡ 512 → (g : ℕ)
      → targets_of (known_of (dressed v f kind).known g) ≡ targets_of (known_of v.known g)
  dressed_targets clear whole g = ⊎_elim
      (λ (e : g ≡ f).
      let none : targets (words_of v f) ≡ [] =
      targets_zero (words_of v f) (λ j lt. clear j (omega arith)) in
      let was : targets (words_of v g) ≡ [] =
      ap (λ (y : ℕ). targets (words_of v y)) e ∙ none in
      let now : targets (words_of (dressed v f kind) g) ≡ [] =
      ap targets (dressed_words g) ∙ was in
      by_kind_none (kind_of (dressed v f kind) g) (words_of (dressed v f kind) g) now
      ∙ sym (by_kind_none (kind_of v g) (words_of v g) was))
      (λ (ne : g ≢ f). ap targets_of (news_else v f kind (words_of v f) g ne))
      (cases_eq g f)

  pub dressed_children : IsClear v f → length (words_of v f) ≡ 512 → (fs : List ℕ)
      → children (dressed v f kind).known fs ≡ children v.known fs
  dressed_children clear whole fs =
      children_same (dressed v f kind).known v.known fs (dressed_targets clear whole)

  pub dressed_loose : IsClear v f → length (words_of v f) ≡ 512 → (g : ℕ) → IsLoose v g
      → IsLoose (dressed v f kind) g
  dressed_loose clear whole g loose = record {
    owned = loose.owned;
    unreferred = loose.unreferred;
    unnamed = λ h. loose.unnamed
        (subst (λ (xs : List ℕ). Has g xs) (dressed_children clear whole v.owned) h);
  }
