-- What came earlier than a request, which no later event changes; and what an answer fixes.
use Rattle.std.proofs.Common.{◌≡◌, ◌≢◌, ℕ, ◌+◌, ◌<◌, ◌≤◌, List, [], ◌∷◌, ◌++◌, length}
use Rattle.std.proofs.Common.{Option, None, Some, refl, sym, ◌∙◌, ap, arith, subst, inl, inr}
use Rattle.std.specs.Prelude.{option_map}
use Rattle.std.proofs.lemmas.Option.{none-some, same_Some}
use Rattle.journal_model.specs.Extents.{Extents}
use Rattle.journal_model.specs.State.{State, numbered}
use Rattle.journal_model.specs.Legal as legal
use Rattle.journal_model.specs.Legal.{after, after_all, at_first, with_standing}
use Rattle.journal_model.specs.Reads.{answer_from, answers_below, served, earlier, earlier_one}
use Rattle.journal_model.specs.Reads.{service_of, service_of_one, place_at_end}
use Rattle.journal_model.specs.Reads.{place_at_end_of_one}
use Rattle.journal_model.specs.declared.event.Event.{Event}
use Rattle.journal_model.specs.declared.event.Event.TheVariants.{Start, Take, Deploy, Refill}
use Rattle.journal_model.specs.declared.event.Event.TheVariants.{Built, Keep, Dup, Drop, Evict}
use Rattle.journal_model.specs.declared.event.Event.TheVariants.{Park, End, Back, Refuse, Want}
use Rattle.journal_model.specs.declared.event.Event.TheVariants.{Answer}
use Rattle.journal_model.specs.declared.answer.How.{How}
use Rattle.journal_model.specs.declared.answer.How.TheVariants as how
use Rattle.journal_model.specs.declared.state.Standing.{Standing}
use Rattle.journal_model.specs.declared.state.Standing.TheVariants.{Answered, Refused, Wanted}
use Rattle.journal_model.specs.declared.state.RequestState.{RequestState}
use Rattle.journal_model.specs.declared.state.Duty.TheVariants.{Idle, Serves, Over}
use Rattle.journal_model.proofs.Frames.{stood}
use Rattle.journal_model.proofs.Folds.{go_on, all_more, none_first}
use Rattle.journal_model.proofs.Looks.{decide}
use Rattle.journal_model.proofs.Sound.{Sound, reached_sound}
use Rattle.journal_laws.specs.Rests.{used_in}
use Rattle.journal_laws.proofs.Folding.{joined_one}
use Rattle.journal_laws.proofs.Naming as naming
use Rattle.journal_laws.proofs.Naming.{IsOpenAt, open_is, next_request}
use Rattle.journal_laws.proofs.Numbers.{pushed_other, pushed_here, next_none, changed_here}
use Rattle.journal_laws.proofs.Ties.{given_cases, none_drawn}
use Rattle.journal_model.specs.Reads.{earlier_given, number_or_zero}
use Rattle.std.proofs.Common.{true}
use Rattle.journal_laws.proofs.Ties.{answer_entry, closing}
use Rattle.journal_laws.proofs.Serving.{earlier_so}
use Rattle.std.proofs.Common.{◌⊎◌}
use Rattle.journal_laws.proofs.Answering.{still_push, below_same}
use Rattle.journal_laws.proofs.Ties.{Tied, reached_tied, waiting_is, service_still, IsWaitingAt}
use Rattle.journal_laws.proofs.Ties.{duty_uses, push_uses, layer_uses, standing_still, answer_is}
use Rattle.journal_laws.proofs.Ties.{other_answer, used_here, used_other, deploy_quiet}
use Rattle.journal_laws.proofs.Ties.{refuse_parts, want_parts, IsAnswer, kept_field}
use Rattle.journal_laws.proofs.Serving.{take_waits}

-- the context that a request was given, and how often that was used
abbrev claim : Option RequestState → Option (Option ℕ × ℕ)
claim o = option_map (λ (r : RequestState). (r.context, r.used)) o

standing_claim : (i j : ℕ) (t : Standing) (p : Option ℕ) (rs : List RequestState) →
    claim (numbered (with_standing i t p rs) j) ≡ claim (numbered rs j)
unfolding with_standing
standing_claim i j t p rs = kept_field claim
    (λ (r : RequestState). record r { standing = t; place = p }) i j rs (λ r. refl)

-- a request that was given a context doesn't wait
claimed : (rs : List RequestState) (i j c u : ℕ) → IsWaitingAt rs i →
    claim (numbered rs j) ≡ Some (Some c, u) → j ≢ i
claimed rs i j c u w h e =
    let q : Some (w.open_at.one.context, w.open_at.one.used) ≡ Some (Some c, u) =
    sym (ap claim w.open_at.entry) ∙ (ap (λ n. claim (numbered rs n)) (sym e) ∙ h) in
    let k : w.open_at.one.context ≡ Some c = ap (λ z. z.0) (same_Some _ _ q) in
    none-some c (sym w.none ∙ k)

started : (rs : List RequestState) (j c u : ℕ) → claim (numbered rs j) ≡ Some (Some c, u) →
    j ≢ length rs + 1
started rs j c u h e = none-some (Some c, u) (sym (ap claim (next_none rs))
    ∙ (ap (λ n. claim (numbered rs n)) (sym e) ∙ h))

abbrev Holds : State → ℕ → ℕ → ℕ → Type 0
Holds s i c u = claim (numbered s.requests i) ≡ Some (Some c, u)

-- what a request was given stays
pub claim_stays : (sizes : Extents) (s : State) (e : Event) (t : State) (i c u : ℕ) →
    after sizes s e ≡ Some t → Holds s i c u → Holds t i c u
unfolding legal.after_start legal.after_take legal.after_deploy legal.after_refill
    legal.after_built legal.after_keep legal.after_dup legal.after_drop legal.after_evict
    legal.after_park legal.after_end legal.after_back legal.after_standing legal.after_answer
claim_stays sizes s (Start j f z) t i c u h k = let r = stood _ _ t h in
    let P : State → Type 0 = λ x. Holds x i c u in subst P r.1
    (ap claim (pushed_other s.requests i _ (started s.requests i c u k)) ∙ k)
claim_stays sizes s (Take d j) t i c u h k = let r = stood _ _ t h in
    let P : State → Type 0 = λ x. Holds x i c u in subst P r.1
    (ap claim (naming.service_other j i _ _ _ s.requests
    (claimed s.requests j i c u (waiting_is s j (take_waits s d j r.0)) k)) ∙ k)
claim_stays sizes s (Deploy d l j n) t i c u h k = let r = stood _ _ t h in
    let P : State → Type 0 = λ x. Holds x i c u in subst P r.1
    (ap claim (naming.service_other j i _ _ _ s.requests
    (claimed s.requests j i c u (waiting_is s j (deploy_quiet sizes s d l j n r.0).1) k)) ∙ k)
claim_stays sizes s (Refill d m n) t i c u h k = let r = stood _ _ t h in
    let P : State → Type 0 = λ x. Holds x i c u in subst P r.1 k
claim_stays sizes s (Built d l n) t i c u h k = let r = stood _ _ t h in
    let P : State → Type 0 = λ x. Holds x i c u in subst P r.1 k
claim_stays sizes s (Keep l) t i c u h k = let r = stood _ _ t h in
    let P : State → Type 0 = λ x. Holds x i c u in subst P r.1 k
claim_stays sizes s (Dup l) t i c u h k = let r = stood _ _ t h in
    let P : State → Type 0 = λ x. Holds x i c u in subst P r.1 k
claim_stays sizes s (Drop l) t i c u h k = let r = stood _ _ t h in
    let P : State → Type 0 = λ x. Holds x i c u in subst P r.1 k
claim_stays sizes s (Evict d) t i c u h k = let r = stood _ _ t h in
    let P : State → Type 0 = λ x. Holds x i c u in subst P r.1 k
claim_stays sizes s (Park d) t i c u h k = let r = stood _ _ t h in
    let P : State → Type 0 = λ x. Holds x i c u in subst P r.1 k
claim_stays sizes s (End d) t i c u h k = let r = stood _ _ t h in
    let P : State → Type 0 = λ x. Holds x i c u in subst P r.1 k
claim_stays sizes s (Back n) t i c u h k = let r = stood _ _ t h in
    let P : State → Type 0 = λ x. Holds x i c u in subst P r.1 k
claim_stays sizes s (Refuse j) t i c u h k = let r = stood _ _ t h in
    let P : State → Type 0 = λ x. Holds x i c u in
    subst P r.1 (standing_claim j i _ _ s.requests ∙ k)
claim_stays sizes s (Want j) t i c u h k = let r = stood _ _ t h in
    let P : State → Type 0 = λ x. Holds x i c u in
    subst P r.1 (standing_claim j i _ _ s.requests ∙ k)
claim_stays sizes s (Answer j d v) t i c u h k = let r = stood _ _ t h in
    let P : State → Type 0 = λ x. Holds x i c u in
    subst P r.1 (standing_claim j i _ _ s.requests ∙ k)

abbrev Stays : State → State → ℕ → ℕ → Type 0
Stays s t c v = answer_from c v 1 t.requests ≡ answer_from c v 1 s.requests

-- an answer that a context gave stays
pub answer_stays : (sizes : Extents) (s : State) (e : Event) (t : State) (c v : ℕ) →
    Sound sizes s → Tied sizes s → after sizes s e ≡ Some t → v < used_in s.contexts c →
    Stays s t c v
unfolding legal.after_start legal.after_take legal.after_deploy legal.after_refill
    legal.after_built legal.after_keep legal.after_dup legal.after_drop legal.after_evict
    legal.after_park legal.after_end legal.after_back legal.after_standing legal.after_answer
answer_stays sizes s (Start j f z) t c v q k h l = let r = stood _ _ t h in
    let P : State → Type 0 = λ x. Stays s x c v in
    subst P r.1 ((still_push s.requests _ refl).answer c v)
answer_stays sizes s (Take d j) t c v q k h l = let r = stood _ _ t h in
    let P : State → Type 0 = λ x. Stays s x c v in subst P r.1
    ((service_still how.Hot d (legal.answered_by s d) j s.requests
    (waiting_is s j (take_waits s d j r.0)).open_at).answer c v)
answer_stays sizes s (Deploy d m j n) t c v q k h l = let r = stood _ _ t h in
    let P : State → Type 0 = λ x. Stays s x c v in subst P r.1
    ((service_still _ d 0 j s.requests
    (waiting_is s j (deploy_quiet sizes s d m j n r.0).1).open_at).answer c v)
answer_stays sizes s (Refill d m n) t c v q k h l = let r = stood _ _ t h in
    let P : State → Type 0 = λ x. Stays s x c v in subst P r.1 refl
answer_stays sizes s (Built d m n) t c v q k h l = let r = stood _ _ t h in
    let P : State → Type 0 = λ x. Stays s x c v in subst P r.1 refl
answer_stays sizes s (Keep m) t c v q k h l = let r = stood _ _ t h in
    let P : State → Type 0 = λ x. Stays s x c v in subst P r.1 refl
answer_stays sizes s (Dup m) t c v q k h l = let r = stood _ _ t h in
    let P : State → Type 0 = λ x. Stays s x c v in subst P r.1 refl
answer_stays sizes s (Drop m) t c v q k h l = let r = stood _ _ t h in
    let P : State → Type 0 = λ x. Stays s x c v in subst P r.1 refl
answer_stays sizes s (Evict d) t c v q k h l = let r = stood _ _ t h in
    let P : State → Type 0 = λ x. Stays s x c v in subst P r.1 refl
answer_stays sizes s (Park d) t c v q k h l = let r = stood _ _ t h in
    let P : State → Type 0 = λ x. Stays s x c v in subst P r.1 refl
answer_stays sizes s (End d) t c v q k h l = let r = stood _ _ t h in
    let P : State → Type 0 = λ x. Stays s x c v in subst P r.1 refl
answer_stays sizes s (Back n) t c v q k h l = let r = stood _ _ t h in
    let P : State → Type 0 = λ x. Stays s x c v in subst P r.1 refl
answer_stays sizes s (Refuse j) t c v q k h l = let r = stood _ _ t h in
    let P : State → Type 0 = λ x. Stays s x c v in subst P r.1
    ((standing_still Refused _ j s.requests refl
    (open_is s j (refuse_parts s j r.0).1)).answer c v)
answer_stays sizes s (Want j) t c v q k h l = let r = stood _ _ t h in
    let P : State → Type 0 = λ x. Stays s x c v in subst P r.1
    ((standing_still Wanted _ j s.requests refl
    (open_is s j (want_parts s j r.0).1)).answer c v)
answer_stays sizes s (Answer j d w) t c v q k h l = let r = stood _ _ t h in
    let P : State → Type 0 = λ x. Stays s x c v in
    let a = answer_is sizes s j d w r.0 q k in subst P r.1
    (other_answer (legal.place_of s d) s.requests s.contexts j d w c v a
    (λ g y. (let e : used_in s.contexts c ≡ w = ap (used_in s.contexts) g ∙ a.count in
    omega arith)))

-- # How often a context was used when it was given

abbrev AreWithin : State → Type 0
AreWithin s = (i c u : ℕ) → Holds s i c u → u ≤ used_in s.contexts c

claim_is : (o : Option RequestState) (c u : ℕ) → claim o ≡ Some (Some c, u) →
    (r : RequestState) × (o ≡ Some r) × (r.context ≡ Some c) × (r.used ≡ u)
claim_is None c u h = absurd (none-some (Some c, u) h)
claim_is (Some r) c u h = let e = same_Some (r.context, r.used) (Some c, u) h in
    (r, refl, ap (λ z. z.0) e, ap (λ z. z.1) e)

-- a request's claim after it was given a context
given_claim : (w : How) (d u i j c v : ℕ) (rs : List RequestState) → IsWaitingAt rs i →
    claim (numbered (legal.with_service i w d u rs) j) ≡ Some (Some c, v) →
    ((c ≡ d) × (v ≡ u)) ⊎ (claim (numbered rs j) ≡ Some (Some c, v))
given_claim w d u i j c v rs z h =
    let r = claim_is (numbered (legal.with_service i w d u rs) j) c v h in
    elim (given_cases w d u i j c rs r.0 z r.1 r.2) [
      | inl p ↦ inl (p.1, sym r.3 ∙ p.2)
      | inr e ↦ inr (ap claim e ∙ (ap (λ z. Some (z, r.0.used)) r.2
          ∙ ap (λ n. Some (Some c, n)) r.3))
    ]

pushed_claim : (rs : List RequestState) (r : RequestState) (j c v : ℕ) → r.context ≡ None →
    claim (numbered (rs ++ r ∷ []) j) ≡ Some (Some c, v) →
    claim (numbered rs j) ≡ Some (Some c, v)
pushed_claim rs r j c v n h = elim (decide j (length rs + 1)) [
  | inl e ↦ absurd (let q : Some (r.context, r.used) ≡ Some (Some c, v) =
      sym (ap claim (pushed_here rs r)) ∙ (ap (λ m. claim (numbered (rs ++ r ∷ []) m)) (sym e)
      ∙ h) in
      none-some c (sym n ∙ ap (λ z. z.0) (same_Some _ _ q)))
  | inr k ↦ sym (ap claim (pushed_other rs j r k)) ∙ h
]

same_most : (a b c : ℕ) → a ≤ b → c ≡ b → a ≤ c
same_most a b c h e = omega arith

within_after : (sizes : Extents) (s : State) (e : Event) (t : State) → Sound sizes s →
    Tied sizes s → after sizes s e ≡ Some t → AreWithin s → AreWithin t
unfolding legal.after_start legal.after_take legal.after_deploy legal.after_refill
    legal.after_built legal.after_keep legal.after_dup legal.after_drop legal.after_evict
    legal.after_park legal.after_end legal.after_back legal.after_standing legal.after_answer
    legal.answered_by
within_after sizes s (Start j f z) t q k h w = let r = stood _ _ t h in
    let P : State → Type 0 = AreWithin in
    subst P r.1 (λ i c u g. w i c u (pushed_claim s.requests _ i c u refl g))
within_after sizes s (Take d j) t q k h w = let r = stood _ _ t h in
    let P : State → Type 0 = AreWithin in
    let z = waiting_is s j (take_waits s d j r.0) in
    subst P r.1 (λ i c u g. elim (given_claim how.Hot d (used_in s.contexts d) j i c u
    s.requests z g) [
      | inl p ↦ same_most u (used_in s.contexts d) _ (same_most u (used_in s.contexts d) _
          (let e = p.1 in omega arith) refl)
          (duty_uses d (Serves j) s.contexts c ∙ ap (used_in s.contexts) p.0)
      | inr e ↦ same_most u (used_in s.contexts c) _ (w i c u e)
          (duty_uses d (Serves j) s.contexts c)
    ])
within_after sizes s (Deploy d l j n) t q k h w = let r = stood _ _ t h in
    let P : State → Type 0 = AreWithin in
    let z = waiting_is s j (deploy_quiet sizes s d l j n r.0).1 in
    subst P r.1 (λ i c u g. elim (given_claim _ d 0 j i c u s.requests z g) [
      | inl p ↦ (let e = p.1 in omega arith)
      | inr e ↦ same_most u (used_in s.contexts c) _ (w i c u e) (push_uses s.contexts _ refl c)
    ])
within_after sizes s (Refill d m n) t q k h w = let r = stood _ _ t h in
    let P : State → Type 0 = AreWithin in subst P r.1 w
within_after sizes s (Built d l n) t q k h w = let r = stood _ _ t h in
    let P : State → Type 0 = AreWithin in subst P r.1 (λ i c u g.
    same_most u (used_in s.contexts c) _ (w i c u g) (layer_uses d l s.contexts c))
within_after sizes s (Keep l) t q k h w = let r = stood _ _ t h in
    let P : State → Type 0 = AreWithin in subst P r.1 w
within_after sizes s (Dup l) t q k h w = let r = stood _ _ t h in
    let P : State → Type 0 = AreWithin in subst P r.1 w
within_after sizes s (Drop l) t q k h w = let r = stood _ _ t h in
    let P : State → Type 0 = AreWithin in subst P r.1 w
within_after sizes s (Evict d) t q k h w = let r = stood _ _ t h in
    let P : State → Type 0 = AreWithin in subst P r.1 (λ i c u g.
    same_most u (used_in s.contexts c) _ (w i c u g) (duty_uses d Over s.contexts c))
within_after sizes s (Park d) t q k h w = let r = stood _ _ t h in
    let P : State → Type 0 = AreWithin in subst P r.1 (λ i c u g.
    same_most u (used_in s.contexts c) _ (w i c u g) (duty_uses d Idle s.contexts c))
within_after sizes s (End d) t q k h w = let r = stood _ _ t h in
    let P : State → Type 0 = AreWithin in subst P r.1 (λ i c u g.
    same_most u (used_in s.contexts c) _ (w i c u g) (duty_uses d Over s.contexts c))
within_after sizes s (Back n) t q k h w = let r = stood _ _ t h in
    let P : State → Type 0 = AreWithin in subst P r.1 w
within_after sizes s (Refuse j) t q k h w = let r = stood _ _ t h in
    let P : State → Type 0 = AreWithin in subst P r.1 (λ i c u g.
    w i c u (sym (standing_claim j i _ _ s.requests) ∙ g))
within_after sizes s (Want j) t q k h w = let r = stood _ _ t h in
    let P : State → Type 0 = AreWithin in subst P r.1 (λ i c u g.
    w i c u (sym (standing_claim j i _ _ s.requests) ∙ g))
within_after sizes s (Answer j d v) t q k h w = let r = stood _ _ t h in
    let P : State → Type 0 = AreWithin in
    let a = answer_is sizes s j d v r.0 q k in subst P r.1 (λ i c u g.
    (let l = w i c u (sym (standing_claim j i _ _ s.requests) ∙ g) in elim (decide c d) [
      | inl e ↦ (let x : used_in s.contexts c ≡ v = ap (used_in s.contexts) e ∙ a.count in
          let y : used_in (legal.with_used d (v + 1) s.contexts) c ≡ v + 1 =
          ap (used_in (legal.with_used d (v + 1) s.contexts)) e
          ∙ used_here d (v + 1) (Serves j) s.contexts a.duty in omega arith)
      | inr n ↦ same_most u (used_in s.contexts c) _ l (used_other d (v + 1) c s.contexts n)
    ]))

-- # From the beginning on

-- what holds at first and is kept by each event of a state that is reached holds always
pub kept_always : (sizes : Extents) (P : State → Type 0) →
    ((s : State) (e : Event) (t : State) → Sound sizes s → Tied sizes s →
    after sizes s e ≡ Some t → P s → P t) →
    (a : List Event) (s : State) (es : List Event) (t : State) →
    after_all sizes (at_first sizes) a ≡ Some s → P s → after_all sizes s es ≡ Some t → P t
kept_always sizes P f a s [] t h k g = let Q : State → Type 0 = P in
    subst Q (same_Some s t (sym (none_first sizes s) ∙ g)) k
kept_always sizes P f a s (e ∷ es) t h k g = kept_on a s e es (after sizes s e) t refl h k
    (λ m l n w. kept_always sizes P f (a ++ e ∷ []) m es t l n w)
    (sym (all_more sizes s e es) ∙ g)
  where
    kept_on : (a : List Event) (s : State) (e : Event) (es : List Event) (next : Option State)
        (t : State) → after sizes s e ≡ next → after_all sizes (at_first sizes) a ≡ Some s →
        P s → ((m : State) → after_all sizes (at_first sizes) (a ++ e ∷ []) ≡ Some m → P m →
        after_all sizes m es ≡ Some t → P t) → go_on sizes es next ≡ Some t → P t
    kept_on a s e es None t is h k rest g = absurd (none-some t g)
    kept_on a s e es (Some m) t is h k rest g =
        rest m (joined_one sizes (at_first sizes) s a e h ∙ is)
        (f s e m (reached_sound sizes a s h) (reached_tied sizes a s h) is k) g

first_within : (sizes : Extents) → AreWithin (at_first sizes)
first_within sizes i c u h = absurd (none-some (Some c, u) (sym (ap claim (none_drawn i)) ∙ h))

-- a context was never given when it had answered more than it answered in all
pub reached_within : (sizes : Extents) (es : List Event) (s : State) →
    after_all sizes (at_first sizes) es ≡ Some s → AreWithin s
reached_within sizes es s h = kept_always sizes AreWithin (λ s e t q k g w.
    within_after sizes s e t q k g w) [] (at_first sizes) es s
    (none_first sizes (at_first sizes)) (first_within sizes) h

earlier_claim : (rs : List RequestState) (o : Option RequestState) (c u : ℕ) →
    claim o ≡ Some (Some c, u) → earlier_one rs o ≡ answers_below c u rs
earlier_claim rs o c u h = let r = claim_is o c u h in
    ap (earlier_one rs) r.1 ∙ (ap (earlier_given rs r.0.used) r.2
    ∙ ap (λ n. answers_below c n rs) r.3)

earlier_is : (s : State) (i c u : ℕ) → Holds s i c u →
    earlier s i ≡ answers_below c u s.requests
unfolding earlier
earlier_is s i c u h = earlier_claim s.requests (numbered s.requests i) c u h

-- what came earlier than a request that was given a context stays
abbrev Keeps : State → ℕ → ℕ → ℕ → List ℕ → Type 0
Keeps s i c u xs = AreWithin s × Holds s i c u × (answers_below c u s.requests ≡ xs)

keeps_after : (sizes : Extents) (i c u : ℕ) (xs : List ℕ) (s : State) (e : Event) (t : State) →
    Sound sizes s → Tied sizes s → after sizes s e ≡ Some t → Keeps s i c u xs →
    Keeps t i c u xs
keeps_after sizes i c u xs s e t q k h z = (
  within_after sizes s e t q k h z.0,
  claim_stays sizes s e t i c u h z.1,
  below_same c u s.requests t.requests (λ v l. answer_stays sizes s e t c v q k h
      (let w = z.0 i c u z.1 in omega arith)) ∙ z.2,
)

given_holds : (s : State) (i c : ℕ) (o : Option RequestState) → numbered s.requests i ≡ o →
    legal.given_to_one o ≡ Some c → (u : ℕ) × Holds s i c u
given_holds s i c None e h = absurd (none-some c h)
given_holds s i c (Some r) e h = (r.used, ap claim e ∙ ap (λ z. Some (z, r.used)) h)

holds : (s : State) (i c : ℕ) → legal.given_to s i ≡ Some c → (u : ℕ) × Holds s i c u
unfolding legal.given_to
holds s i c h = given_holds s i c (numbered s.requests i) refl h

pub earlier_stays : (sizes : Extents) (a es : List Event) (s t : State) (i c : ℕ) →
    after_all sizes (at_first sizes) a ≡ Some s → after_all sizes s es ≡ Some t →
    legal.given_to s i ≡ Some c → earlier t i ≡ earlier s i
earlier_stays sizes a es s t i c h g k =
    let p = holds s i c k in
    let z = kept_always sizes (λ x. Keeps x i c p.0 (answers_below c p.0 s.requests))
    (keeps_after sizes i c p.0 (answers_below c p.0 s.requests)) a s es t h
    (reached_within sizes a s h, p.1, refl) g in
    earlier_is t i c p.0 z.1 ∙ (z.2 ∙ sym (earlier_is s i c p.0 p.1))

-- # What an answer fixes

answering : (sizes : Extents) (s t : State) (i c u : ℕ) →
    after sizes s (Answer i c u) ≡ Some t →
    (legal.may_answer s i c u ≡ true) × (legal.after_answer sizes s i c u ≡ t)
answering sizes s t i c u h = stood _ _ t h

entry_after : (sizes : Extents) (s : State) (i c u : ℕ) →
    (a : IsAnswer s.requests s.contexts i c u) →
    numbered (legal.after_answer sizes s i c u).requests i
    ≡ Some (closing Answered (legal.place_of s c) a.open_one.one)
unfolding legal.after_answer
entry_after sizes s i c u a = answer_entry (legal.place_of s c) s.requests i a.open_one

pub line_stays : (sizes : Extents) (s t : State) (i c u : ℕ) → Sound sizes s → Tied sizes s →
    after sizes s (Answer i c u) ≡ Some t → service_of t i ≡ service_of s i
unfolding service_of
line_stays sizes s t i c u q k h = let r = answering sizes s t i c u h in
    let a = answer_is sizes s i c u r.0 q k in
    let P : State → Type 0 =
    λ x. service_of_one (numbered x.requests i) ≡ service_of_one (numbered s.requests i) in
    subst P r.1 (ap service_of_one (entry_after sizes s i c u a)
    ∙ sym (ap service_of_one a.open_one.entry))

pub line_context : (sizes : Extents) (s : State) (i c u : ℕ) →
    IsAnswer s.requests s.contexts i c u → (service_of s i).context ≡ c
unfolding service_of
line_context sizes s i c u a = ap (λ o. (service_of_one o).context) a.open_one.entry
    ∙ ap number_or_zero a.context

pub line_used : (sizes : Extents) (s : State) (i c u : ℕ) →
    IsAnswer s.requests s.contexts i c u → (service_of s i).used ≡ u
unfolding service_of
line_used sizes s i c u a =
    ap (λ o. (service_of_one o).used) a.open_one.entry ∙ a.times

pub place_so : (sizes : Extents) (s t : State) (i c u : ℕ) → Sound sizes s → Tied sizes s →
    after sizes s (Answer i c u) ≡ Some t → place_at_end t i ≡ legal.place_of s c
unfolding place_at_end
place_so sizes s t i c u q k h = let r = answering sizes s t i c u h in
    let a = answer_is sizes s i c u r.0 q k in
    let P : State → Type 0 =
    λ x. place_at_end_of_one (numbered x.requests i) ≡ legal.place_of s c in
    subst P r.1 (ap place_at_end_of_one (entry_after sizes s i c u a))

open_so : (s : State) (i c u : ℕ) → IsAnswer s.requests s.contexts i c u →
    legal.is_open s i ≡ true
unfolding legal.is_open
open_so s i c u a = ap legal.is_open_one a.open_one.entry ∙ a.open_one.stands

given_here : (s : State) (i c u : ℕ) → IsAnswer s.requests s.contexts i c u →
    legal.given_to s i ≡ Some c
unfolding legal.given_to
given_here s i c u a = ap legal.given_to_one a.open_one.entry ∙ a.context

pub earlier_then : (sizes : Extents) (es : List Event) (s t : State) (i c u : ℕ) →
    after_all sizes (at_first sizes) es ≡ Some s → after sizes s (Answer i c u) ≡ Some t →
    earlier t i ≡ served s c
earlier_then sizes es s t i c u h g =
    let r = answering sizes s t i c u g in
    let a = answer_is sizes s i c u r.0 (reached_sound sizes es s h) (reached_tied sizes es s h) in
    earlier_stays sizes es (Answer i c u ∷ []) s t i c h
    (all_more sizes s (Answer i c u) [] ∙ (ap (go_on sizes []) g ∙ none_first sizes t))
    (given_here s i c u a)
    ∙ earlier_so sizes es s i c h (open_so s i c u a) (given_here s i c u a)

pub line_so : (sizes : Extents) (es : List Event) (s t : State) (i c u : ℕ) →
    after_all sizes (at_first sizes) es ≡ Some s → after sizes s (Answer i c u) ≡ Some t →
    (service_of t i ≡ service_of s i) × ((service_of t i).context ≡ c)
    × ((service_of t i).used ≡ u)
line_so sizes es s t i c u h g =
    let q = reached_sound sizes es s h in
    let k = reached_tied sizes es s h in
    let r = answering sizes s t i c u g in
    let a = answer_is sizes s i c u r.0 q k in
    let e = line_stays sizes s t i c u q k g in (
      e,
      ap (λ z. z.context) e ∙ line_context sizes s i c u a,
      ap (λ z. z.used) e ∙ line_used sizes s i c u a,
    )

pub place_then : (sizes : Extents) (es : List Event) (s t : State) (i c u : ℕ) →
    after_all sizes (at_first sizes) es ≡ Some s → after sizes s (Answer i c u) ≡ Some t →
    place_at_end t i ≡ legal.place_of s c
place_then sizes es s t i c u h g =
    place_so sizes s t i c u (reached_sound sizes es s h) (reached_tied sizes es s h) g

-- # What a refusal fixes

standing_entry : (z : Standing) (p : Option ℕ) (rs : List RequestState) (i : ℕ) →
    (o : IsOpenAt rs i) → numbered (with_standing i z p rs) i ≡ Some (closing z p o.one)
unfolding with_standing
standing_entry z p rs i o = changed_here (closing z p) i rs o.one o.entry

-- the line of a request that is closed stays, and its place is where its context stands
abbrev ClosesAt : State → State → ℕ → Type 0
ClosesAt s t i = (service_of t i ≡ service_of s i)
    × (place_at_end t i ≡ legal.place_of_given s (legal.given_to s i))

closes_at : (s : State) (i : ℕ) (z : Standing) → IsOpenAt s.requests i →
    ClosesAt s (legal.after_standing s i z) i
unfolding legal.after_standing service_of place_at_end
closes_at s i z o =
    let e = standing_entry z (legal.place_of_given s (legal.given_to s i)) s.requests i o in
    (ap service_of_one e ∙ sym (ap service_of_one o.entry), ap place_at_end_of_one e)

pub refuse_closes : (sizes : Extents) (s t : State) (i : ℕ) → after sizes s (Refuse i) ≡ Some t →
    ClosesAt s t i
refuse_closes sizes s t i h = let r = stood _ _ t h in
    let P : State → Type 0 = λ x. ClosesAt s x i in
    subst P r.1 (closes_at s i Refused (open_is s i (refuse_parts s i r.0).1))

pub want_closes : (sizes : Extents) (s t : State) (i : ℕ) → after sizes s (Want i) ≡ Some t →
    ClosesAt s t i
want_closes sizes s t i h = let r = stood _ _ t h in
    let P : State → Type 0 = λ x. ClosesAt s x i in
    subst P r.1 (closes_at s i Wanted (open_is s i (want_parts s i r.0).1))
