-- What the definitions determine: a place, a layer, why one isn't there, a context, a reply.
use Rattle.std.proofs.Common.{◌≡◌, ℕ, List, [], ◌∷◌, Option, None, Some, slice_get, IsSomeAnd, ap}
use Rattle.std.proofs.Common.{sym, ◌∙◌, subst}
use Rattle.std.proofs.lemmas.Option.{same_Some}
use Rattle.journal_model.specs.State.{layer_above}
use Rattle.layer_model.specs.Layers.{quiet, settled, IsLayerRun, layer_limits, IsStep, Climbs}
use Rattle.layer_model.specs.Layers.{layers_to, IsPlace, IsLayer, IsNoLayer}
use Rattle.layer_model.specs.Replies.{IsServed, Serves, IsContext, IsRequestRun, request_limits}
use Rattle.layer_model.specs.Replies.{Reply, IsFunction, Answers, Misses, IsReply, By_run}
use Rattle.layer_model.specs.Replies.{By_miss}
use Rattle.layer_laws.specs.Requests.{run_reply, miss_reply}
use Rattle.machine_model.proofs.Runs.{one_end}
use Rattle.machine_model.specs.Loaded.{loaded}
use Rattle.machine_model.specs.Machine.{Machine}
use Rattle.machine_model.specs.Run.{End, give}
use Rattle.machine_model.specs.declared.stop.Stop.{Stop}
use Rattle.machine_model.specs.declared.stop.Stop.TheVariants.{Trigger, Rest}
use Rattle.plan_model.specs.Outline.{Outline}
use Rattle.plan_model.specs.Stacks.{stack}
use Rattle.plan_model.specs.declared.function.PlanFunction.{PlanFunction}
use Rattle.plan_model.specs.declared.layer.PlanLayer.{PlanLayer}
use Rattle.space_api.specs.declared.given.Given.{Given}

same_value : {A : Type 0} (o : Option A) (x y : A) → o ≡ Some x → o ≡ Some y → x ≡ y
same_value o x y p q = same_Some x y (sym p ∙ q)

-- ---- runs

pub layer_run_ends : (plan : Outline) (layer : PlanLayer) (below : Machine) (a b : End)
    → IsLayerRun plan layer below a → IsLayerRun plan layer below b → a ≡ b
layer_run_ends plan layer below a b p q =
    one_end 0 (layer_limits plan layer) (give below layer.packets) a b p q

pub request_run_ends : (plan : Outline) (m : Machine) (given : Given) (a b : End)
    → IsRequestRun plan m given a → IsRequestRun plan m given b → a ≡ b
request_run_ends plan m given a b p q =
    one_end given.clock (request_limits plan) (give m (given.packet ∷ [])) a b p q

-- ---- places

one_step_of : (plan : Outline) (layer other : PlanLayer) (below : Machine) (a b : End)
    → layer ≡ other → IsLayerRun plan layer below a → IsLayerRun plan other below b → a ≡ b
one_step_of plan layer other below a b same p q =
    layer_run_ends plan layer below a b p
    (subst (λ l. IsLayerRun plan l below b) (sym same) q)

pub one_step : (plan : Outline) (k : ℕ) (m a b : Machine) → IsStep plan k m a → IsStep plan k m b
    → a ≡ b
one_step plan k m a b p q =
    let same = same_value (slice_get plan.layers k) p.layer q.layer p.layer_is q.layer_is in
    let ends = one_step_of plan p.layer q.layer m
    (record { stop = Trigger; number = p.counted; machine = p.reached })
    (record { stop = Trigger; number = q.counted; machine = q.reached }) same p.run q.run in
    p.after_is ∙ ap (λ (end : End). quiet end.machine) ends ∙ sym q.after_is

pub one_climb : (plan : Outline) (ks : List ℕ) (m a b : Machine) → Climbs plan ks m a
    → Climbs plan ks m b → a ≡ b
one_climb plan [] m a b p q = sym p ∙ q
one_climb plan (k ∷ ks) m a b (mid, first, rest) (mid', first', rest') =
    let same = one_step plan k m mid mid' first first' in
    one_climb plan ks mid a b rest (subst (λ x. Climbs plan ks x b) (sym same) rest')

both_some : {A R : Type 0} {P Q : A → Type 0} (o : Option A) → ((x : A) → P x → Q x → R)
    → IsSomeAnd o P → IsSomeAnd o Q → R
both_some None f p q = absurd p
both_some (Some x) f p q = f x p q

pub one_place : (plan : Outline) (start : ℕ) (place : Option ℕ) (a b : Machine)
    → IsPlace plan start place a → IsPlace plan start place b → a ≡ b
one_place plan start place a b p q =
    both_some (slice_get plan.starts start)
    (λ layout. one_climb plan (layers_to plan.layers place) (loaded layout) a b) p q

-- ---- layers

pub one_layer : (plan : Outline) (k : ℕ) (a b : Machine) → IsLayer plan k a → IsLayer plan k b
    → a ≡ b
one_layer plan k a b p q =
    let same = same_value (slice_get plan.layers k) q.layer p.layer q.layer_is p.layer_is in
    one_place plan p.layer.start (Some k) a b p.place
    (subst (λ (l : PlanLayer). IsPlace plan l.start (Some k) b) same q.place)

one_why_of : (plan : Outline) (k : ℕ) (a b : Stop) (p : IsNoLayer plan k a)
    (q : IsNoLayer plan k b) → p.layer ≡ q.layer → a ≡ b
one_why_of plan k a b p q same =
    let there = subst (λ (l : PlanLayer). IsPlace plan l.start l.below q.below) (sym same) q.place
    in
    let below = one_place plan p.layer.start p.layer.below p.below q.below p.place there in
    let run = subst (λ m. IsLayerRun plan q.layer m
    (record { stop = b; number = q.counted; machine = q.stopped })) (sym below) q.run in
    let ends = one_step_of plan p.layer q.layer p.below
    (record { stop = a; number = p.counted; machine = p.stopped })
    (record { stop = b; number = q.counted; machine = q.stopped }) same p.run run in
    ap (λ (end : End). end.stop) ends

pub one_why : (plan : Outline) (k : ℕ) (a b : Stop) → IsNoLayer plan k a → IsNoLayer plan k b
    → a ≡ b
one_why plan k a b p q = one_why_of plan k a b p q
    (same_value (slice_get plan.layers k) p.layer q.layer p.layer_is q.layer_is)

-- ---- contexts

pub one_served : (plan : Outline) (m : Machine) (given : Given) (a b : Machine)
    → IsServed plan m given a → IsServed plan m given b → a ≡ b
one_served plan m given a b p q =
    let ends = request_run_ends plan m given
    (record { stop = Rest; number = p.counted; machine = p.rested })
    (record { stop = Rest; number = q.counted; machine = q.rested }) p.run q.run in
    p.after_is ∙ ap (λ (end : End). settled end.machine) ends ∙ sym q.after_is

pub one_serving : (plan : Outline) (served : List Given) (m a b : Machine) → Serves plan served m a
    → Serves plan served m b → a ≡ b
one_serving plan [] m a b p q = sym p ∙ q
one_serving plan (given ∷ more) m a b (mid, first, rest) (mid', first', rest') =
    let same = one_served plan m given mid mid' first first' in
    one_serving plan more mid a b rest (subst (λ x. Serves plan more x b) (sym same) rest')

pub one_context : (plan : Outline) (start : ℕ) (place : Option ℕ) (served : List Given)
    (a b : Machine) → IsContext plan start place served a → IsContext plan start place served b
    → a ≡ b
one_context plan start place served a b p q =
    let base = one_place plan start place p.base q.base p.stands q.stands in
    one_serving plan served p.base a b p.serves
    (subst (λ m. Serves plan served m b) (sym base) q.serves)

-- ---- replies

pub same_function : (plan : Outline) (number : ℕ) (f g : PlanFunction) (l m : PlanLayer)
    → IsFunction plan number f l → IsFunction plan number g m → f ≡ g
same_function plan number f g l m p q =
    same_value (slice_get plan.functions number) f g p.function_is q.function_is

pub same_layer : (plan : Outline) (number : ℕ) (f g : PlanFunction) (l m : PlanLayer)
    → IsFunction plan number f l → IsFunction plan number g m → l ≡ m
same_layer plan number f g l m p q =
    let same = same_function plan number f g l m p q in
    same_value (slice_get plan.layers f.layer) l m p.layer_is
    (ap (λ (h : PlanFunction). slice_get plan.layers h.layer) same ∙ q.layer_is)

one_answer : (plan : Outline) (number : ℕ) (place : Option ℕ) (served : List Given)
    (given : Given) (a b : Reply) → Answers plan number place served given a
    → Answers plan number place served given b → a ≡ b
one_answer plan number place served given a b p q =
    let layers = same_layer plan number p.function q.function p.layer q.layer p.function_is
    q.function_is in
    let there = subst (λ (l : PlanLayer). IsContext plan l.start place served q.context)
    (sym layers) q.context_is in
    let context = one_context plan p.layer.start place served p.context q.context p.context_is
    there in
    let run = subst (λ m. IsRequestRun plan m given
    (record { stop = q.stop; number = q.counted; machine = q.after })) (sym context) q.run in
    let ends = request_run_ends plan p.context given
    (record { stop = p.stop; number = p.counted; machine = p.after })
    (record { stop = q.stop; number = q.counted; machine = q.after }) p.run run in
    p.reply_is ∙ ap run_reply ends ∙ sym q.reply_is

one_miss : (plan : Outline) (number : ℕ) (place : Option ℕ) (a b : Reply)
    → Misses plan number place a → Misses plan number place b → a ≡ b
one_miss plan number place a b p q =
    let functions = same_function plan number p.function q.function p.layer q.layer p.function_is
    q.function_is in
    let above = same_value (layer_above place (stack plan.layers p.function.layer)) p.above q.above
    p.above_is
    (ap (λ (f : PlanFunction). layer_above place (stack plan.layers f.layer)) functions
    ∙ q.above_is) in
    let why = one_why plan p.above p.why q.why p.no_layer
    (subst (λ k. IsNoLayer plan k q.why) (sym above) q.no_layer) in
    p.reply_is ∙ ap (λ k. miss_reply k p.why) above ∙ ap (λ w. miss_reply q.above w) why
    ∙ sym q.reply_is

-- a context doesn't stand at its function's layer and below it
no_both : (plan : Outline) (number : ℕ) (place : Option ℕ) (served : List Given) (given : Given)
    (a b : Reply) → Answers plan number place served given a → Misses plan number place b → ⊥
no_both plan number place served given a b p q =
    let functions = same_function plan number p.function q.function p.layer q.layer p.function_is
    q.function_is in
    q.place_is (p.place_is ∙ ap (λ (f : PlanFunction). Some f.layer) functions)

pub one_reply : (plan : Outline) (number : ℕ) (place : Option ℕ) (served : List Given)
    (given : Given) (a b : Reply) → IsReply plan number place served given a
    → IsReply plan number place served given b → a ≡ b
one_reply plan number place served given a b (By_run p) (By_run q) =
    one_answer plan number place served given a b p q
one_reply plan number place served given a b (By_run p) (By_miss q) =
    absurd (no_both plan number place served given a b p q)
one_reply plan number place served given a b (By_miss p) (By_run q) =
    absurd (no_both plan number place served given b a q p)
one_reply plan number place served given a b (By_miss p) (By_miss q) =
    one_miss plan number place a b p q
