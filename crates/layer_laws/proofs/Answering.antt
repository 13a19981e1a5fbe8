-- Which replies there are.
use Rattle.std.proofs.Common.{◌≡◌, ◌≢◌, ◌↔◌, ℕ, List, [], ◌∷◌, ◌++◌, Option, Some, All, refl, ap}
use Rattle.std.proofs.Common.{sym, ◌∙◌, subst}
use Rattle.journal_model.specs.State.{layer_above}
use Rattle.layer_laws.proofs.Determined.{same_function, same_layer, one_context}
use Rattle.layer_laws.proofs.Standing.{place_quiet}
use Rattle.layer_laws.proofs.Validity.{context-valid, request-valid}
use Rattle.layer_laws.specs.Requests.{IsRequest, run_reply, miss_reply}
use Rattle.layer_model.proofs.Places.{context_more, context_less}
use Rattle.layer_model.specs.Layers.{settled, IsPlace, IsNoLayer}
use Rattle.layer_model.specs.Replies.{IsServed, Serves, IsContext, IsRequestRun, request_limits}
use Rattle.layer_model.specs.Replies.{Reply, IsFunction, Answers, IsReply, By_run, By_miss}
use Rattle.machine_model.proofs.Ends.{each_ends}
use Rattle.machine_model.specs.Machine.{Machine}
use Rattle.machine_model.specs.Run.{End, give}
use Rattle.machine_model.specs.declared.stop.Stop.{Stop}
use Rattle.plan_model.specs.Outline.{Outline, IsPlan}
use Rattle.plan_model.specs.Stacks.{stack}
use Rattle.plan_model.specs.declared.function.PlanFunction.{PlanFunction}
use Rattle.plan_model.specs.declared.layer.PlanLayer.{PlanLayer}
use Rattle.space_api.specs.declared.given.Given.{Given}

-- ---- contexts

pub new_context : (plan : Outline) (start : ℕ) (place : Option ℕ) (m : Machine)
    → IsContext plan start place [] m ↔ IsPlace plan start place m
new_context plan start place m = (
  λ is. subst (λ x. IsPlace plan start place x) is.serves is.stands,
  λ stands. record { base = m; stands = stands; serves = refl },
)

pub used_context : (plan : Outline) (start : ℕ) (place : Option ℕ) (served : List Given)
    (given : Given) (after : Machine) → IsContext plan start place (served ++ given ∷ []) after
    ↔ ((m : Machine) × IsContext plan start place served m × IsServed plan m given after)
used_context plan start place served given after = (
  λ is. context_less plan start place served given after is,
  λ parts. context_more plan start place served given parts.0 after parts.1 parts.2,
)

-- ---- at the function's layer

module _ (plan : Outline) (number : ℕ) (function : PlanFunction) (layer : PlanLayer)
    (served : List Given) (given : Given) (m : Machine)
    (is : IsFunction plan number function layer)
    (context : IsContext plan layer.start (Some function.layer) served m) where
  abbrev Shown : Reply → Type 0
  Shown reply = (end : End) × IsRequestRun plan m given end × (reply ≡ run_reply end)

  answer_shown : (place : Option ℕ) (reply : Reply) → place ≡ Some function.layer
      → Answers plan number place served given reply → Shown reply
  answer_shown place reply at p =
      let layers = same_layer plan number p.function function p.layer layer p.function_is is in
      let there = subst (λ (l : PlanLayer). IsContext plan l.start place served p.context) layers
      p.context_is in
      let here = subst (λ o. IsContext plan layer.start o served p.context) at there in
      let same = one_context plan layer.start (Some function.layer) served p.context m here context
      in
      let end : End = record { stop = p.stop; number = p.counted; machine = p.after } in
      (end, subst (λ x. IsRequestRun plan x given end) same p.run, p.reply_is)

  reply_shown : (reply : Reply) → IsReply plan number (Some function.layer) served given reply
      → Shown reply
  reply_shown reply (By_run p) = answer_shown (Some function.layer) reply refl p
  reply_shown reply (By_miss q) =
      let functions = same_function plan number function q.function layer q.layer is q.function_is
      in absurd (q.place_is (ap (λ (f : PlanFunction). Some f.layer) functions))

  shown_reply : (reply : Reply) → Shown reply
      → IsReply plan number (Some function.layer) served given reply
  shown_reply reply (end, run, reply_is) = By_run (record {
    function = function;
    layer = layer;
    function_is = is;
    place_is = refl;
    context = m;
    context_is = context;
    stop = end.stop;
    counted = end.number;
    after = end.machine;
    run = run;
    reply_is = reply_is;
  })

pub reply_at_layer : (plan : Outline) (number : ℕ) (function : PlanFunction) (layer : PlanLayer)
    (served : List Given) (given : Given) (m : Machine) (reply : Reply)
    → IsFunction plan number function layer
    → IsContext plan layer.start (Some function.layer) served m
    → IsReply plan number (Some function.layer) served given reply
    ↔ ((end : End) × IsRequestRun plan m given end × (reply ≡ run_reply end))
reply_at_layer plan number function layer served given m reply is context = (
  reply_shown plan number function layer served given m is context reply,
  shown_reply plan number function layer served given m is context reply,
)

pub reply_there : (plan : Outline) (number : ℕ) (function : PlanFunction) (layer : PlanLayer)
    (served : List Given) (given : Given) (m : Machine) → IsPlan plan
    → IsFunction plan number function layer → All IsRequest served → IsRequest given
    → IsContext plan layer.start (Some function.layer) served m
    → (reply : Reply) × IsReply plan number (Some function.layer) served given reply
reply_there plan number function layer served given m plan_is is all one context =
    let v = request-valid m given
    (context-valid plan layer.start (Some function.layer) served m plan_is all context) one in
    let ends = each_ends given.clock (request_limits plan) (give m (given.packet ∷ [])) one.clock v
    in (
      run_reply ends.0,
      (reply_at_layer plan number function layer served given m
          (run_reply ends.0) is context).1 (ends.0, ends.1, refl),
    )

-- ---- below it

module _ (plan : Outline) (number : ℕ) (function : PlanFunction) (layer : PlanLayer)
    (place : Option ℕ) (above : ℕ) (is : IsFunction plan number function layer)
    (elsewhere : place ≢ Some function.layer)
    (above_is : layer_above place (stack plan.layers function.layer) ≡ Some above) where
  abbrev Missed : Reply → Type 0
  Missed reply = (why : Stop) × IsNoLayer plan above why × (reply ≡ miss_reply above why)

  above_same : (q_above : ℕ) (q_function : PlanFunction) → function ≡ q_function
      → layer_above place (stack plan.layers q_function.layer) ≡ Some q_above → q_above ≡ above
  above_same q_above q_function same e = same_some q_above above (sym e ∙ there) where
    same_some : (x y : ℕ) → ◌≡◌ {A = Option ℕ} (Some x) (Some y) → x ≡ y
    same_some x y e = cc

    there : layer_above place (stack plan.layers q_function.layer) ≡ Some above
    there = ap (λ (f : PlanFunction). layer_above place (stack plan.layers f.layer)) (sym same)
        ∙ above_is

  reply_missed : (served : List Given) (given : Given) (reply : Reply)
      → IsReply plan number place served given reply → Missed reply
  reply_missed served given reply (By_run p) =
      let functions = same_function plan number p.function function p.layer layer p.function_is is
      in absurd (elsewhere (p.place_is ∙ ap (λ (f : PlanFunction). Some f.layer) functions))
  reply_missed served given reply (By_miss q) =
      let functions = same_function plan number function q.function layer q.layer is q.function_is
      in
      let same = above_same q.above q.function functions q.above_is in (
        q.why,
        subst (λ k. IsNoLayer plan k q.why) same q.no_layer,
        q.reply_is ∙ ap (λ k. miss_reply k q.why) same,
      )

  missed_reply : (served : List Given) (given : Given) (reply : Reply) → Missed reply
      → IsReply plan number place served given reply
  missed_reply served given reply (why, no_layer, reply_is) = By_miss (record {
    function = function;
    layer = layer;
    function_is = is;
    place_is = elsewhere;
    above = above;
    above_is = above_is;
    why = why;
    no_layer = no_layer;
    reply_is = reply_is;
  })

pub reply_below : (plan : Outline) (number : ℕ) (function : PlanFunction) (layer : PlanLayer)
    (place : Option ℕ) (above : ℕ) (served : List Given) (given : Given) (reply : Reply)
    → IsFunction plan number function layer → place ≢ Some function.layer
    → layer_above place (stack plan.layers function.layer) ≡ Some above
    → IsReply plan number place served given reply
    ↔ ((why : Stop) × IsNoLayer plan above why × (reply ≡ miss_reply above why))
reply_below plan number function layer place above served given reply is elsewhere above_is = (
  reply_missed plan number function layer place above is elsewhere above_is served given reply,
  missed_reply plan number function layer place above is elsewhere above_is served given reply,
)

-- ---- nothing is queued for a context between its runs

serves_settled : (plan : Outline) (served : List Given) (m after : Machine) → settled m ≡ m
    → Serves plan served m after → settled after ≡ after
serves_settled plan [] m after h same = subst (λ x. settled x ≡ x) same h
serves_settled plan (given ∷ more) m after h (mid, first, rest) =
    serves_settled plan more mid after
    (subst (λ x. settled x ≡ x) (sym first.after_is) refl) rest

pub context_settled : (plan : Outline) (start : ℕ) (place : Option ℕ) (served : List Given)
    (m : Machine) → IsContext plan start place served m → settled m ≡ m
context_settled plan start place served m is =
    let base = subst (λ x. settled x ≡ x) (place_quiet plan start place is.base is.stands) refl in
    serves_settled plan served is.base m base is.serves
