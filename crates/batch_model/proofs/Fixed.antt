-- What a journal fixes: the line of a request, the lines of a batch, and the pages of a layer.
use Rattle.std.proofs.Common.{◌≡◌, ℕ, List, [], ◌∷◌, map, Option, Some, slice_get, refl, sym}
use Rattle.std.proofs.Common.{◌∙◌, ap, subst}
use Rattle.std.proofs.lemmas.Option.{same_Some}
use Rattle.batch_model.specs.Events.{IsBuilt}
use Rattle.batch_model.specs.Replies.{Shown, shown_in, end_of_ending, Shows, ShowsAnswer}
use Rattle.batch_model.specs.Replies.{ShowsClosed, IsLineOf}
use Rattle.journal_model.specs.State.{State, numbered}
use Rattle.journal_model.specs.declared.answer.Answer.{Answer}
use Rattle.journal_model.specs.declared.state.RequestState.{RequestState}
use Rattle.journal_model.specs.declared.state.Standing.{Standing}
use Rattle.journal_model.specs.declared.state.Standing.TheVariants.{Open, Answered, Refused, Wanted}
use Rattle.layer_laws.proofs.Determined.{one_reply, one_place, layer_run_ends}
use Rattle.layer_model.specs.Layers.{IsPlace, IsLayerRun}
use Rattle.layer_model.specs.Replies.{Reply}
use Rattle.machine_model.specs.Machine.{written_count}
use Rattle.machine_model.specs.Run.{End as RunEnd}
use Rattle.machine_model.specs.declared.stop.Stop.TheVariants.{Trigger}
use Rattle.plan_model.specs.Outline.{Outline}
use Rattle.plan_model.specs.declared.layer.PlanLayer.{PlanLayer}
use Rattle.space_api.specs.declared.given.Given.{Given}

same_value : {A : Type 0} (o : Option A) (x y : A) → o ≡ Some x → o ≡ Some y → x ≡ y
same_value o x y p q = same_Some x y (sym p ∙ q)

-- ---- what is shown

shown_same : (x y : Shown) → x.end ≡ y.end → x.steps ≡ y.steps → x.net ≡ y.net
    → x.console ≡ y.console → x ≡ y
shown_same x y end steps net console =
    ap (λ e. record x { end = e }) end
    ∙ ap (λ n. record x { end = y.end; steps = n }) steps
    ∙ ap (λ ps. record y { net = ps; console = x.console }) net
    ∙ ap (λ c. record y { console = c }) console

pub one_shown : (plan : Outline) (function : ℕ) (place : Option ℕ) (served : List Given)
    (given : Given) (x y : Shown) → Shows plan function place served given x
    → Shows plan function place served given y → x ≡ y
one_shown plan function place served given x y p q =
    let same = one_reply plan function place served given p.reply q.reply p.replied q.replied in
    shown_same x y
    (same_Some x.end y.end (sym p.end_is ∙ ap (λ (r : Reply). end_of_ending r.ending) same
    ∙ q.end_is))
    (p.steps_are ∙ ap (λ (r : Reply). r.number) same ∙ sym q.steps_are)
    (p.net_is ∙ ap (λ (r : Reply). r.packets) same ∙ sym q.net_is)
    (p.console_is ∙ ap (λ (r : Reply). r.console) same ∙ sym q.console_is)

tails : {A : Type 0} (x y : A) (xs ys : List A) → x ∷ xs ≡ y ∷ ys → xs ≡ ys
tails x y xs ys e = cc

heads : {A : Type 0} (x y : A) (xs ys : List A) → x ∷ xs ≡ y ∷ ys → x ≡ y
heads x y xs ys e = cc

same_items : {A : Type 0} (xs ys : List A) → map Some xs ≡ map Some ys → xs ≡ ys
same_items [] [] e = refl
same_items [] (y ∷ ys) e = cc
same_items (x ∷ xs) [] e = cc
same_items (x ∷ xs) (y ∷ ys) e =
    let rest = same_items xs ys (tails (Some x) (Some y) (map Some xs) (map Some ys) e) in
    let front = same_Some x y (heads (Some x) (Some y) (map Some xs) (map Some ys) e) in
    ap (λ z. z ∷ xs) front ∙ ap (λ zs. y ∷ zs) rest

one_answered : (plan : Outline) (given : ℕ → Option Given) (s : State) (i : ℕ)
    (request : RequestState) (x y : Shown) → ShowsAnswer plan given s i request x
    → ShowsAnswer plan given s i request y → x ≡ y
one_answered plan given s i request x y p q =
    let before = same_items p.before q.before (p.before_are ∙ sym q.before_are) in
    let own = same_value (given i) p.own q.own p.own_is q.own_is in
    one_shown plan request.function request.place p.before p.own x y p.shows
    (subst (λ one. Shows plan request.function request.place p.before one y) (sym own)
    (subst (λ served. Shows plan request.function request.place served q.own y) (sym before)
    q.shows))

one_closed : (plan : Outline) (given : ℕ → Option Given) (s : State) (i : ℕ)
    (request : RequestState) (x y : Shown) (standing : Standing)
    → ShowsClosed plan given s i request x standing
    → ShowsClosed plan given s i request y standing → x ≡ y
one_closed plan given s i request x y Open p q = absurd p
one_closed plan given s i request x y Answered p q = one_answered plan given s i request x y p q
one_closed plan given s i request x y Refused p q = p ∙ sym q
one_closed plan given s i request x y Wanted p q = p ∙ sym q

-- ---- lines

answer_same : (a b : Answer) → a.i ≡ b.i → a.how ≡ b.how → a.context ≡ b.context
    → a.used ≡ b.used → shown_in a ≡ shown_in b → a ≡ b
answer_same a b number how context used shown =
    ap (λ n. record a { i = n }) number
    ∙ ap (λ h. record a { i = b.i; how = h }) how
    ∙ ap (λ c. record a { i = b.i; how = b.how; context = c }) context
    ∙ ap (λ u. record a { i = b.i; how = b.how; context = b.context; used = u }) used
    ∙ ap (λ (x : Shown). record b {
      end = x.end;
      steps = x.steps;
      net = x.net;
      console = x.console;
    }) shown

-- a request has one line
pub one_line : (plan : Outline) (given : ℕ → Option Given) (s : State) (i : ℕ) (a b : Answer)
    → IsLineOf plan given s i a → IsLineOf plan given s i b → a ≡ b
one_line plan given s i a b p q =
    let same = same_value (numbered s.requests i) p.request q.request p.request_is q.request_is in
    answer_same a b (p.number_is ∙ sym q.number_is) (p.how_is ∙ sym q.how_is)
    (p.context_is ∙ sym q.context_is) (p.used_is ∙ sym q.used_is)
    (one_closed plan given s i p.request (shown_in a) (shown_in b) p.request.standing p.shows
    (subst (λ (r : RequestState). ShowsClosed plan given s i r (shown_in b) r.standing) (sym same)
    q.shows))

-- ---- layers that are built

-- a layer is built with one number of pages
pub one_count : (plan : Outline) (number a b : ℕ) → IsBuilt plan number a
    → IsBuilt plan number b → a ≡ b
one_count plan number a b p q =
    let same = same_value (slice_get plan.layers number) p.layer q.layer p.layer_is q.layer_is in
    let here = same_value (slice_get plan.layers number) p.layer p.step.layer p.layer_is
    p.step.layer_is in
    let there = same_value (slice_get plan.layers number) p.layer q.step.layer p.layer_is
    q.step.layer_is in
    let below = one_place plan p.layer.start p.layer.below p.below q.below p.place
    (subst (λ (l : PlanLayer). IsPlace plan l.start l.below q.below) (sym same) q.place) in
    let first = subst (λ (l : PlanLayer). IsLayerRun plan l p.below
    (record { stop = Trigger; number = p.step.counted; machine = p.step.reached })) (sym here)
    p.step.run in
    let second = subst (λ m. IsLayerRun plan p.layer m
    (record { stop = Trigger; number = q.step.counted; machine = q.step.reached })) (sym below)
    (subst (λ (l : PlanLayer). IsLayerRun plan l q.below
    (record { stop = Trigger; number = q.step.counted; machine = q.step.reached })) (sym there)
    q.step.run) in
    let ends = layer_run_ends plan p.layer p.below
    (record { stop = Trigger; number = p.step.counted; machine = p.step.reached })
    (record { stop = Trigger; number = q.step.counted; machine = q.step.reached }) first second in
    p.pages_are ∙ ap (λ (end : RunEnd). written_count end.machine) ends ∙ sym q.pages_are
