-- A request was refused exactly where the journal has its `refuse`, and wanted exactly where it has
-- its `want`; so its line says `frames` or `memory` exactly there.
use Rattle.std.proofs.Common.{◌≡◌, ◌↔◌, ℕ, ◌+◌, ◌-◌, ◌==◌, ◌||◌, Bool, true, false, List, []}
use Rattle.std.proofs.Common.{◌∷◌, ◌++◌, length, Option, None, Some, refl, sym, ◌∙◌, ap, subst}
use Rattle.std.proofs.Common.{inl, inr, cond}
use Rattle.std.proofs.lemmas.Option.{none-some}
use Rattle.std.specs.List.{list_any, slice_get}
use Rattle.batch_model.specs.Closings.{refuses, wants}
use Rattle.batch_model.specs.Replies.{Shown, shown_in, end_of_ending}
use Rattle.batch_model.specs.Replies.{ShowsClosed, IsLineOf}
use Rattle.journal_laws.proofs.Naming.{request_stays, next_request, open_is, apart, closed_always}
use Rattle.journal_laws.proofs.Naming.{kept_by_all}
use Rattle.journal_laws.proofs.Numbers.{changed_here, pushed_here, next_none}
use Rattle.journal_laws.proofs.Ties.{kept_field}
use Rattle.journal_model.proofs.Folds.{go_on, all_more}
use Rattle.journal_model.proofs.Frames.{and_first, and_second, stood}
use Rattle.journal_model.proofs.Looks.{decide}
use Rattle.journal_model.proofs.Recents.{same}
use Rattle.journal_model.specs.Extents.{Extents}
use Rattle.journal_model.specs.Legal as legal
use Rattle.journal_model.specs.Legal.{after, after_all, at_first, is_open_standing, with_standing}
use Rattle.journal_model.specs.Legal.{with_service}
use Rattle.journal_model.specs.State.{State, numbered}
use Rattle.journal_model.specs.declared.answer.Answer.{Answer as AnswerLine}
use Rattle.journal_model.specs.declared.answer.End.TheVariants as ends
use Rattle.journal_model.specs.declared.answer.How.{How}
use Rattle.journal_model.specs.declared.event.Event.{Event}
use Rattle.journal_model.specs.declared.event.Event.TheVariants.{Start, Take, Deploy, Refill}
use Rattle.journal_model.specs.declared.event.Event.TheVariants.{Built, Keep, Dup, Drop, Evict}
use Rattle.journal_model.specs.declared.event.Event.TheVariants.{Park, End, Back, Refuse, Want}
use Rattle.journal_model.specs.declared.event.Event.TheVariants.{Answer}
use Rattle.journal_model.specs.declared.state.RequestState.{RequestState}
use Rattle.journal_model.specs.declared.state.Standing.{Standing}
use Rattle.journal_model.specs.declared.state.Standing.TheVariants.{Open, Answered, Refused, Wanted}
use Rattle.layer_model.specs.Replies.{Ending as ReplyEnding, Ran, NoLayer}
use Rattle.machine_model.specs.declared.stop.Stop.TheVariants as stop
use Rattle.plan_model.specs.Outline.{Outline}
use Rattle.space_api.specs.declared.given.Given.{Given}

-- ---- any test of how a request stands, which open and answered ones fail

module _ (test : Standing → Bool) (no_open : test Open ≡ false) where
  abbrev stands : Option RequestState → Bool
  stands None = false
  stands (Some r) = test r.standing

  abbrev look : (i : ℕ) → State → Bool
  look i s = stands (numbered s.requests i)

  open_fails : (z : Standing) → is_open_standing z ≡ true → test z ≡ false
  open_fails Open h = no_open
  open_fails Answered h = absurd (cc)
  open_fails Refused h = absurd (cc)
  open_fails Wanted h = absurd (cc)

  look_open : (s : State) (i : ℕ) → legal.is_open s i ≡ true → look i s ≡ false
  look_open s i h =
      let o = open_is s i h in ap stands o.entry ∙ open_fails o.one.standing o.stands

  -- a request that is closed stands so
  look_closed : (s : State) (i : ℕ) (z : Standing) (p : Option ℕ) → legal.is_open s i ≡ true
      → stands (numbered (with_standing i z p s.requests) i) ≡ test z
  unfolding with_standing
  look_closed s i z p h =
      let o = open_is s i h in
      ap stands (changed_here (λ (r : RequestState). record r { standing = z; place = p }) i
      s.requests o.one o.entry)

  look_served : (s : State) (i j : ℕ) (w : How) (c u : ℕ)
      → stands (numbered (with_service j w c u s.requests) i) ≡ look i s
  unfolding with_service
  look_served s i j w c u = kept_field stands
      (λ (r : RequestState). record r { how = w; context = Some c; used = u }) j i s.requests
      (λ r. refl)

  look_started : (s : State) (i : ℕ) (r : RequestState) → test r.standing ≡ false
      → i ≡ length s.requests + 1
      → stands (numbered (s.requests ++ r ∷ []) i) ≡ look i s
  look_started s i r fails is =
      let there = ap (λ n. stands (numbered (s.requests ++ r ∷ []) n)) is
      ∙ ap stands (pushed_here s.requests r) ∙ fails in
      let before = ap (λ n. stands (numbered s.requests n)) is
      ∙ ap stands (next_none s.requests) in
      there ∙ sym before

may_answer_open : (s : State) (i c u : ℕ) → legal.may_answer s i c u ≡ true
    → legal.is_open s i ≡ true
unfolding legal.may_answer
may_answer_open s i c u h = and_second _ _ (and_first _ _ (and_first _ _ h))

may_refuse_open : (s : State) (i : ℕ) → legal.may_refuse s i ≡ true → legal.is_open s i ≡ true
unfolding legal.may_refuse
may_refuse_open s i h = and_second _ _ (and_first _ _ (and_first _ _ (and_first _ _ h)))

may_want_open : (s : State) (i : ℕ) → legal.may_want s i ≡ true → legal.is_open s i ≡ true
unfolding legal.may_want
may_want_open s i h = and_second _ _ h

-- ---- refuses

abbrev is_refused : Standing → Bool
is_refused Open = false
is_refused Answered = false
is_refused Refused = true
is_refused Wanted = false

abbrev refused : (i : ℕ) → State → Bool
refused i s = look is_refused refl i s

-- no other event changes that
refused_stays : (sizes : Extents) (s : State) (e : Event) (t : State) (i : ℕ)
    → after sizes s e ≡ Some t → refuses i e ≡ false → refused i t ≡ refused i s
unfolding legal.after_start legal.after_take legal.after_deploy legal.after_answer
    legal.after_standing
refused_stays sizes s (Start j f z) t i h other = elim (decide j i) [
  | inl e ↦ (let r = stood _ _ t h in
      ap (λ (x : State). refused i x) (sym r.1)
      ∙ look_started is_refused refl s i _ refl (sym e ∙ next_request sizes s j f z r.0))
  | inr d ↦ ap (stands is_refused refl) (request_stays sizes s (Start j f z) t i h (apart j i d))
]
refused_stays sizes s (Take c j) t i h other = let r = stood _ _ t h in
    ap (λ (x : State). refused i x) (sym r.1) ∙ look_served is_refused refl s i j _ _ _
refused_stays sizes s (Deploy c k j m) t i h other = let r = stood _ _ t h in
    ap (λ (x : State). refused i x) (sym r.1) ∙ look_served is_refused refl s i j _ _ _
refused_stays sizes s (Refill c g n) t i h other =
    ap (stands is_refused refl) (request_stays sizes s (Refill c g n) t i h refl)
refused_stays sizes s (Built c k d) t i h other =
    ap (stands is_refused refl) (request_stays sizes s (Built c k d) t i h refl)
refused_stays sizes s (Keep k) t i h other =
    ap (stands is_refused refl) (request_stays sizes s (Keep k) t i h refl)
refused_stays sizes s (Dup k) t i h other =
    ap (stands is_refused refl) (request_stays sizes s (Dup k) t i h refl)
refused_stays sizes s (Drop k) t i h other =
    ap (stands is_refused refl) (request_stays sizes s (Drop k) t i h refl)
refused_stays sizes s (Evict c) t i h other =
    ap (stands is_refused refl) (request_stays sizes s (Evict c) t i h refl)
refused_stays sizes s (Park c) t i h other =
    ap (stands is_refused refl) (request_stays sizes s (Park c) t i h refl)
refused_stays sizes s (End c) t i h other =
    ap (stands is_refused refl) (request_stays sizes s (End c) t i h refl)
refused_stays sizes s (Back n) t i h other =
    ap (stands is_refused refl) (request_stays sizes s (Back n) t i h refl)
refused_stays sizes s (Refuse j) t i h other =
    ap (stands is_refused refl) (request_stays sizes s (Refuse j) t i h other)
refused_stays sizes s (Want j) t i h other = elim (decide j i) [
  | inl e ↦ (
      let h = subst (λ k. after sizes s (Want k) ≡ Some t) e h in
      let r = stood _ _ t h in
      let there = may_want_open s i r.0 in
      ap (λ (x : State). refused i x) (sym r.1) ∙ look_closed is_refused refl s i _ _ there
      ∙ sym (look_open is_refused refl s i there))
  | inr d ↦ ap (stands is_refused refl) (request_stays sizes s (Want j) t i h (apart j i d))
]
refused_stays sizes s (Answer j c u) t i h other = elim (decide j i) [
  | inl e ↦ (
      let h = subst (λ k. after sizes s (Answer k c u) ≡ Some t) e h in
      let r = stood _ _ t h in
      let there = may_answer_open s i c u r.0 in
      ap (λ (x : State). refused i x) (sym r.1) ∙ look_closed is_refused refl s i _ _ there
      ∙ sym (look_open is_refused refl s i there))
  | inr d ↦ ap (stands is_refused refl) (request_stays sizes s (Answer j c u) t i h (apart j i d))
]

refused_here : (sizes : Extents) (s t : State) (i : ℕ) → after sizes s (Refuse i) ≡ Some t
    → refused i t ≡ true
unfolding legal.after_standing
refused_here sizes s t i h = let r = stood _ _ t h in
    ap (λ (x : State). refused i x) (sym r.1)
    ∙ look_closed is_refused refl s i _ _ (may_refuse_open s i r.0)

-- ---- wants

abbrev is_wanted : Standing → Bool
is_wanted Open = false
is_wanted Answered = false
is_wanted Refused = false
is_wanted Wanted = true

abbrev wanted : (i : ℕ) → State → Bool
wanted i s = look is_wanted refl i s

-- no other event changes that
wanted_stays : (sizes : Extents) (s : State) (e : Event) (t : State) (i : ℕ)
    → after sizes s e ≡ Some t → wants i e ≡ false → wanted i t ≡ wanted i s
unfolding legal.after_start legal.after_take legal.after_deploy legal.after_answer
    legal.after_standing
wanted_stays sizes s (Start j f z) t i h other = elim (decide j i) [
  | inl e ↦ (let r = stood _ _ t h in
      ap (λ (x : State). wanted i x) (sym r.1)
      ∙ look_started is_wanted refl s i _ refl (sym e ∙ next_request sizes s j f z r.0))
  | inr d ↦ ap (stands is_wanted refl) (request_stays sizes s (Start j f z) t i h (apart j i d))
]
wanted_stays sizes s (Take c j) t i h other = let r = stood _ _ t h in
    ap (λ (x : State). wanted i x) (sym r.1) ∙ look_served is_wanted refl s i j _ _ _
wanted_stays sizes s (Deploy c k j m) t i h other = let r = stood _ _ t h in
    ap (λ (x : State). wanted i x) (sym r.1) ∙ look_served is_wanted refl s i j _ _ _
wanted_stays sizes s (Refill c g n) t i h other =
    ap (stands is_wanted refl) (request_stays sizes s (Refill c g n) t i h refl)
wanted_stays sizes s (Built c k d) t i h other =
    ap (stands is_wanted refl) (request_stays sizes s (Built c k d) t i h refl)
wanted_stays sizes s (Keep k) t i h other =
    ap (stands is_wanted refl) (request_stays sizes s (Keep k) t i h refl)
wanted_stays sizes s (Dup k) t i h other =
    ap (stands is_wanted refl) (request_stays sizes s (Dup k) t i h refl)
wanted_stays sizes s (Drop k) t i h other =
    ap (stands is_wanted refl) (request_stays sizes s (Drop k) t i h refl)
wanted_stays sizes s (Evict c) t i h other =
    ap (stands is_wanted refl) (request_stays sizes s (Evict c) t i h refl)
wanted_stays sizes s (Park c) t i h other =
    ap (stands is_wanted refl) (request_stays sizes s (Park c) t i h refl)
wanted_stays sizes s (End c) t i h other =
    ap (stands is_wanted refl) (request_stays sizes s (End c) t i h refl)
wanted_stays sizes s (Back n) t i h other =
    ap (stands is_wanted refl) (request_stays sizes s (Back n) t i h refl)
wanted_stays sizes s (Refuse j) t i h other = elim (decide j i) [
  | inl e ↦ (
      let h = subst (λ k. after sizes s (Refuse k) ≡ Some t) e h in
      let r = stood _ _ t h in
      let there = may_refuse_open s i r.0 in
      ap (λ (x : State). wanted i x) (sym r.1) ∙ look_closed is_wanted refl s i _ _ there
      ∙ sym (look_open is_wanted refl s i there))
  | inr d ↦ ap (stands is_wanted refl) (request_stays sizes s (Refuse j) t i h (apart j i d))
]
wanted_stays sizes s (Want j) t i h other =
    ap (stands is_wanted refl) (request_stays sizes s (Want j) t i h other)
wanted_stays sizes s (Answer j c u) t i h other = elim (decide j i) [
  | inl e ↦ (
      let h = subst (λ k. after sizes s (Answer k c u) ≡ Some t) e h in
      let r = stood _ _ t h in
      let there = may_answer_open s i c u r.0 in
      ap (λ (x : State). wanted i x) (sym r.1) ∙ look_closed is_wanted refl s i _ _ there
      ∙ sym (look_open is_wanted refl s i there))
  | inr d ↦ ap (stands is_wanted refl) (request_stays sizes s (Answer j c u) t i h (apart j i d))
]

wanted_here : (sizes : Extents) (s t : State) (i : ℕ) → after sizes s (Want i) ≡ Some t
    → wanted i t ≡ true
unfolding legal.after_standing
wanted_here sizes s t i h = let r = stood _ _ t h in
    ap (λ (x : State). wanted i x) (sym r.1)
    ∙ look_closed is_wanted refl s i _ _ (may_want_open s i r.0)

-- ---- both ways

none_at : (test : Bool) (k : ℕ) → cond test None (slice_get {X = RequestState} [] k) ≡ None
none_at true k = refl
none_at false k = refl

none_there : (i : ℕ) → ◌≡◌ {A = Option RequestState} (numbered [] i) None
unfolding numbered
none_there i = none_at (i == 0) (i - 1)

-- ---- exactly `refuse i`

refused_by : (sizes : Extents) (s : State) (e : Event) (t : State) (i : ℕ)
    → after sizes s e ≡ Some t → refuses i e ≡ true → refused i t ≡ true
refused_by sizes s (Start j f z) t i h is = absurd (cc)
refused_by sizes s (Take c j) t i h is = absurd (cc)
refused_by sizes s (Deploy c k j n) t i h is = absurd (cc)
refused_by sizes s (Refill c g n) t i h is = absurd (cc)
refused_by sizes s (Built c k d) t i h is = absurd (cc)
refused_by sizes s (Keep k) t i h is = absurd (cc)
refused_by sizes s (Dup k) t i h is = absurd (cc)
refused_by sizes s (Drop k) t i h is = absurd (cc)
refused_by sizes s (Evict c) t i h is = absurd (cc)
refused_by sizes s (Park c) t i h is = absurd (cc)
refused_by sizes s (End c) t i h is = absurd (cc)
refused_by sizes s (Back n) t i h is = absurd (cc)
refused_by sizes s (Refuse j) t i h is = refused_here sizes s t i
    (subst (λ k. after sizes s (Refuse k) ≡ Some t) (same j i is) h)
refused_by sizes s (Want j) t i h is = absurd (cc)
refused_by sizes s (Answer j c u) t i h is = absurd (cc)

refused_closed : (z : Standing) → is_refused z ≡ true → is_open_standing z ≡ false
refused_closed Open h = absurd (cc)
refused_closed Answered h = refl
refused_closed Refused h = refl
refused_closed Wanted h = refl

refused_at : (sizes : Extents) (s : State) (es : List Event) (t : State) (i : ℕ)
    (o : Option RequestState) → numbered s.requests i ≡ o → after_all sizes s es ≡ Some t
    → stands is_refused refl o ≡ true → refused i t ≡ true
refused_at sizes s es t i None is h so = absurd (cc)
refused_at sizes s es t i (Some r) is h so =
    ap (stands is_refused refl)
    (closed_always sizes s es t i r h is (refused_closed r.standing so)) ∙ so

refused_always : (sizes : Extents) (s : State) (es : List Event) (t : State) (i : ℕ)
    → after_all sizes s es ≡ Some t → refused i s ≡ true → refused i t ≡ true
refused_always sizes s es t i h so =
    refused_at sizes s es t i (numbered s.requests i) refl h so

refused_on : (sizes : Extents) (s : State) (e : Event) (es : List Event) (t : State) (i : ℕ)
    (next : Option State) (first : Bool) → after sizes s e ≡ next → refuses i e ≡ first
    → ((m : State) → after_all sizes m es ≡ Some t → list_any (refuses i) es ≡ true
    → refused i t ≡ true)
    → go_on sizes es next ≡ Some t → (first || list_any (refuses i) es) ≡ true
    → refused i t ≡ true
refused_on sizes s e es t i None first is so rest h any = absurd (none-some t h)
refused_on sizes s e es t i (Some m) true is so rest h any =
    refused_always sizes m es t i h (refused_by sizes s e m i is so)
refused_on sizes s e es t i (Some m) false is so rest h any = rest m h any

refused_named : (sizes : Extents) (s : State) (es : List Event) (t : State) (i : ℕ)
    → after_all sizes s es ≡ Some t → list_any (refuses i) es ≡ true → refused i t ≡ true
refused_named sizes s [] t i h any = absurd (cc)
refused_named sizes s (e ∷ es) t i h any =
    refused_on sizes s e es t i (after sizes s e) (refuses i e) refl refl
    (λ m. refused_named sizes m es t i) (sym (all_more sizes s e es) ∙ h) any

refused_only : (sizes : Extents) (es : List Event) (s : State) (i : ℕ) (any : Bool)
    → list_any (refuses i) es ≡ any → after_all sizes (at_first sizes) es ≡ Some s
    → refused i s ≡ true → any ≡ true
refused_only sizes es s i true is h so = refl
refused_only sizes es s i false is h so =
    let kept = kept_by_all (refused i) (refuses i) sizes (at_first sizes) es s
    (λ x e y k other. refused_stays sizes x e y i k other) h is in
    let first = ap (stands is_refused refl) (none_there i) in
    let wrong : true ≡ false = sym so ∙ kept ∙ first in
    absurd (cc)

refused_exactly : (sizes : Extents) (es : List Event) (s : State) (i : ℕ)
    → after_all sizes (at_first sizes) es ≡ Some s
    → (refused i s ≡ true) ↔ (list_any (refuses i) es ≡ true)
refused_exactly sizes es s i h = (
  refused_only sizes es s i (list_any (refuses i) es) refl h,
  refused_named sizes (at_first sizes) es s i h,
)

-- ---- exactly `want i`

wanted_by : (sizes : Extents) (s : State) (e : Event) (t : State) (i : ℕ)
    → after sizes s e ≡ Some t → wants i e ≡ true → wanted i t ≡ true
wanted_by sizes s (Start j f z) t i h is = absurd (cc)
wanted_by sizes s (Take c j) t i h is = absurd (cc)
wanted_by sizes s (Deploy c k j n) t i h is = absurd (cc)
wanted_by sizes s (Refill c g n) t i h is = absurd (cc)
wanted_by sizes s (Built c k d) t i h is = absurd (cc)
wanted_by sizes s (Keep k) t i h is = absurd (cc)
wanted_by sizes s (Dup k) t i h is = absurd (cc)
wanted_by sizes s (Drop k) t i h is = absurd (cc)
wanted_by sizes s (Evict c) t i h is = absurd (cc)
wanted_by sizes s (Park c) t i h is = absurd (cc)
wanted_by sizes s (End c) t i h is = absurd (cc)
wanted_by sizes s (Back n) t i h is = absurd (cc)
wanted_by sizes s (Refuse j) t i h is = absurd (cc)
wanted_by sizes s (Want j) t i h is = wanted_here sizes s t i
    (subst (λ k. after sizes s (Want k) ≡ Some t) (same j i is) h)
wanted_by sizes s (Answer j c u) t i h is = absurd (cc)

wanted_closed : (z : Standing) → is_wanted z ≡ true → is_open_standing z ≡ false
wanted_closed Open h = absurd (cc)
wanted_closed Answered h = refl
wanted_closed Refused h = refl
wanted_closed Wanted h = refl

wanted_at : (sizes : Extents) (s : State) (es : List Event) (t : State) (i : ℕ)
    (o : Option RequestState) → numbered s.requests i ≡ o → after_all sizes s es ≡ Some t
    → stands is_wanted refl o ≡ true → wanted i t ≡ true
wanted_at sizes s es t i None is h so = absurd (cc)
wanted_at sizes s es t i (Some r) is h so =
    ap (stands is_wanted refl)
    (closed_always sizes s es t i r h is (wanted_closed r.standing so)) ∙ so

wanted_always : (sizes : Extents) (s : State) (es : List Event) (t : State) (i : ℕ)
    → after_all sizes s es ≡ Some t → wanted i s ≡ true → wanted i t ≡ true
wanted_always sizes s es t i h so =
    wanted_at sizes s es t i (numbered s.requests i) refl h so

wanted_on : (sizes : Extents) (s : State) (e : Event) (es : List Event) (t : State) (i : ℕ)
    (next : Option State) (first : Bool) → after sizes s e ≡ next → wants i e ≡ first
    → ((m : State) → after_all sizes m es ≡ Some t → list_any (wants i) es ≡ true
    → wanted i t ≡ true)
    → go_on sizes es next ≡ Some t → (first || list_any (wants i) es) ≡ true
    → wanted i t ≡ true
wanted_on sizes s e es t i None first is so rest h any = absurd (none-some t h)
wanted_on sizes s e es t i (Some m) true is so rest h any =
    wanted_always sizes m es t i h (wanted_by sizes s e m i is so)
wanted_on sizes s e es t i (Some m) false is so rest h any = rest m h any

wanted_named : (sizes : Extents) (s : State) (es : List Event) (t : State) (i : ℕ)
    → after_all sizes s es ≡ Some t → list_any (wants i) es ≡ true → wanted i t ≡ true
wanted_named sizes s [] t i h any = absurd (cc)
wanted_named sizes s (e ∷ es) t i h any =
    wanted_on sizes s e es t i (after sizes s e) (wants i e) refl refl
    (λ m. wanted_named sizes m es t i) (sym (all_more sizes s e es) ∙ h) any

wanted_only : (sizes : Extents) (es : List Event) (s : State) (i : ℕ) (any : Bool)
    → list_any (wants i) es ≡ any → after_all sizes (at_first sizes) es ≡ Some s
    → wanted i s ≡ true → any ≡ true
wanted_only sizes es s i true is h so = refl
wanted_only sizes es s i false is h so =
    let kept = kept_by_all (wanted i) (wants i) sizes (at_first sizes) es s
    (λ x e y k other. wanted_stays sizes x e y i k other) h is in
    let first = ap (stands is_wanted refl) (none_there i) in
    let wrong : true ≡ false = sym so ∙ kept ∙ first in
    absurd (cc)

wanted_exactly : (sizes : Extents) (es : List Event) (s : State) (i : ℕ)
    → after_all sizes (at_first sizes) es ≡ Some s
    → (wanted i s ≡ true) ↔ (list_any (wants i) es ≡ true)
wanted_exactly sizes es s i h = (
  wanted_only sizes es s i (list_any (wants i) es) refl h,
  wanted_named sizes (at_first sizes) es s i h,
)

-- ---- lines

never_frames : (e : ReplyEnding) → end_of_ending e ≡ Some ends.Frames → ⊥
never_frames (Ran stop.Trigger) e = cc
never_frames (Ran stop.Budget) e = cc
never_frames (Ran (stop.Exception cause pc tval)) e = cc
never_frames (Ran stop.Rest) e = cc
never_frames (Ran (stop.Halt code)) e = cc
never_frames (NoLayer k stop.Trigger) e = cc
never_frames (NoLayer k stop.Budget) e = cc
never_frames (NoLayer k (stop.Exception cause pc tval)) e = cc
never_frames (NoLayer k stop.Rest) e = cc
never_frames (NoLayer k (stop.Halt code)) e = cc

frames_by : (plan : Outline) (given : ℕ → Option Given) (s : State) (i : ℕ)
    (request : RequestState) (shown : Shown) (standing : Standing)
    → ShowsClosed plan given s i request shown standing
    → (shown.end ≡ ends.Frames) ↔ (is_refused standing ≡ true)
frames_by plan given s i request shown Open h = absurd h
frames_by plan given s i request shown Answered h = (
  λ e. absurd (never_frames h.shows.reply.ending (h.shows.end_is ∙ ap Some e)),
  λ so. absurd (cc),
)
frames_by plan given s i request shown Refused h = (λ e. refl, λ so. ap (λ (x : Shown). x.end) h)
frames_by plan given s i request shown Wanted h = (
  λ e. let f = ap (λ (x : Shown). x.end) h in absurd (cc),
  λ so. absurd (cc),
)

-- the line of a request says `frames` exactly where the journal has that event
pub frames_exactly : (plan : Outline) (given : ℕ → Option Given) (sizes : Extents)
    (events : List Event) (s : State) (i : ℕ) (answer : AnswerLine)
    → after_all sizes (at_first sizes) events ≡ Some s → IsLineOf plan given s i answer
    → (answer.end ≡ ends.Frames) ↔ (list_any (refuses i) events ≡ true)
frames_exactly plan given sizes events s i answer h line =
    let here = ap (stands is_refused refl) line.request_is in
    let shown = frames_by plan given s i line.request (shown_in answer) line.request.standing
    line.shows in
    let event = refused_exactly sizes events s i h in
    (λ e. event.0 (here ∙ shown.0 e), λ any. shown.1 (sym here ∙ event.1 any))

never_memory : (e : ReplyEnding) → end_of_ending e ≡ Some ends.Memory → ⊥
never_memory (Ran stop.Trigger) e = cc
never_memory (Ran stop.Budget) e = cc
never_memory (Ran (stop.Exception cause pc tval)) e = cc
never_memory (Ran stop.Rest) e = cc
never_memory (Ran (stop.Halt code)) e = cc
never_memory (NoLayer k stop.Trigger) e = cc
never_memory (NoLayer k stop.Budget) e = cc
never_memory (NoLayer k (stop.Exception cause pc tval)) e = cc
never_memory (NoLayer k stop.Rest) e = cc
never_memory (NoLayer k (stop.Halt code)) e = cc

memory_by : (plan : Outline) (given : ℕ → Option Given) (s : State) (i : ℕ)
    (request : RequestState) (shown : Shown) (standing : Standing)
    → ShowsClosed plan given s i request shown standing
    → (shown.end ≡ ends.Memory) ↔ (is_wanted standing ≡ true)
memory_by plan given s i request shown Open h = absurd h
memory_by plan given s i request shown Answered h = (
  λ e. absurd (never_memory h.shows.reply.ending (h.shows.end_is ∙ ap Some e)),
  λ so. absurd (cc),
)
memory_by plan given s i request shown Refused h = (
  λ e. let f = ap (λ (x : Shown). x.end) h in absurd (cc),
  λ so. absurd (cc),
)
memory_by plan given s i request shown Wanted h = (λ e. refl, λ so. ap (λ (x : Shown). x.end) h)

-- the line of a request says `memory` exactly where the journal has that event
pub memory_exactly : (plan : Outline) (given : ℕ → Option Given) (sizes : Extents)
    (events : List Event) (s : State) (i : ℕ) (answer : AnswerLine)
    → after_all sizes (at_first sizes) events ≡ Some s → IsLineOf plan given s i answer
    → (answer.end ≡ ends.Memory) ↔ (list_any (wants i) events ≡ true)
memory_exactly plan given sizes events s i answer h line =
    let here = ap (stands is_wanted refl) line.request_is in
    let shown = memory_by plan given s i line.request (shown_in answer) line.request.standing
    line.shows in
    let event = wanted_exactly sizes events s i h in
    (λ e. event.0 (here ∙ shown.0 e), λ any. shown.1 (sym here ∙ event.1 any))
