-- A service that set out takes its turn.
use Rattle.std.proofs.Common.{◌≡◌, ℕ, ◌+◌, ◌<◌, Option, Some, IfSome, IfOk, Result, sym, ◌∙◌, ap}
use Rattle.std.proofs.Common.{subst}
use Rattle.book_model.specs.Shared.{Shared}
use Rattle.context_runs.specs.declared.layer_run.LayerRun.{LayerRun}
use Rattle.context_runs.specs.declared.request_run.RequestRun.{RequestRun}
use Rattle.context_uc.specs.Views.{ContextView, LayerView}
use Rattle.deployer.specs.Grounds.{AreGrounds, IsSizedBy}
use Rattle.deployer.specs.Hosting.{Telling}
use Rattle.hyper_calls.specs.Exchange.{Exchange}
use Rattle.journal_model.specs.declared.answer.Answer.{Answer}
use Rattle.plan_model.specs.Outline.{Outline}
use Rattle.request_service.specs.Turns.{TurnsTo}
use Rattle.request_service.specs.UnderWay.{IsInLayer, IsInRequest, counted_in, level_in}
use Rattle.request_service.specs.declared.service.InRun.{InRun}
use Rattle.request_service.specs.declared.service.Origin.{Origin}
use Rattle.request_service.specs.declared.service.Turned.{Turned}
use Rattle.request_service.specs.declared.service.Turned.TheVariants.{Went, Answered}
use Rattle.request_service.specs.declared.service.Work.{Work}
use Rattle.request_service.specs.declared.service.Work.TheVariants.{Layer, Request}
use Rattle.service_turns.proofs.Running.{loses, ok_so}
use Rattle.service_turns.specs.Running.{RunsLayer, RunsRequest}
use Rattle.service_runs.specs.SettingOut.{IsOut, SetsOut}
use Rattle.service_runs.specs.declared.setting_out.SetOut.{SetOut}
use Rattle.service_runs.specs.declared.setting_out.SetOut.TheVariants.{InLayer, InRequest, Lost}
use Rattle.space_api.specs.Flat.{Flat}

-- the first of two facts, where what they stand on is there
pub some_first : {A : Type 0} (o : Option A) (x : A) (Q : Type 0) (P : A → Type 0) →
    o ≡ Some x → IfSome o (λ y. Q × P y) → Q
some_first o x Q P is h = (subst (λ p. IfSome p (λ y. Q × P y)) is h).0

module _ {S L H : Type 0} (plan : Outline) (telling : Telling S) (pause : Option ℕ) (i : ℕ)
    (work : Work (ContextView S) S) (from ticks : ℕ) (ports : Exchange)
    (old new : Shared (ContextView S) L H) where
  -- a turn counts from how far the service had come
  turns_from : (v : Work (ContextView S) S) → counted_in v ≡ counted_in work →
      level_in v ≡ level_in work → (turned : Turned (ContextView S) S) →
      TurnsTo plan telling pause i v from turned ports ticks old new →
      TurnsTo plan telling pause i work from turned ports ticks old new
  turns_from v counted level (Went next) goes = record {
    events = goes.events;
    took = goes.took;
    goes = goes.goes;
    number_is = goes.number_is;
    under_way = goes.under_way;
    ticks_are = ap (λ n. ticks + n) (sym counted) ∙ goes.ticks_are;
    progress = goes.progress;
    climbs = λ ne. subst (λ n. n < level_in next.work) level (goes.climbs ne);
  }
  turns_from v counted level (Answered answer) over = record {
    events = over.events;
    closes = over.closes;
    ticks_are = λ by. ap (λ n. ticks + n) (sym counted) ∙ over.ticks_are by;
  }

  -- the turn of a service that set out is a turn of the service
  turns_out : (o : Origin) (v : Work (ContextView S) S) (mid : Shared (ContextView S) L H)
      (before : Exchange) →
      IsOut plan telling i (counted_in work) (level_in work) o v before old mid → (p : Outline) →
      p ≡ plan → (turned : Turned (ContextView S) S) →
      TurnsTo p telling pause o.i v from turned ports ticks mid new →
      TurnsTo plan telling pause i work from turned ports ticks old new
  turns_out o v mid before out p same turned turns =
      turns_from v out.counted_is out.level_is turned
      (subst (λ b. TurnsTo plan telling pause i v from turned ports ticks b new) out.same
      (subst (λ n. TurnsTo plan telling pause n v from turned ports ticks mid new) out.number_is
      (subst (λ q. TurnsTo q telling pause o.i v from turned ports ticks mid new) same turns)))

module _ {S Z H : Type 0} (plan : Outline) (telling : Telling S) (flat : Z → Flat)
    (is_context : ContextView S → Type 0) (is_layer : LayerView Z → Type 0)
    (i counted level : ℕ) (out : SetOut (ContextView S)) (ports : Exchange)
    (old mid : Shared (ContextView S) (LayerView Z) H)
    (sets : SetsOut plan telling i counted level out ports old mid)
    (sizes : IsSizedBy plan old.sizes) (grounds : AreGrounds plan flat is_context is_layer) where
  -- a service that set out on the run of a layer is in it
  pub runs_layer : (at : InRun (ContextView S) LayerRun) → out ≡ InLayer at →
      RunsLayer telling flat is_context is_layer at ports mid
  runs_layer at is =
      let o : IsOut plan telling i counted level at.origin (Layer at.context at.run) ports old mid
      = subst (λ x. SetsOut plan telling i counted level x ports old mid) is sets in
      let same = sym o.under_way.at_it.hosts.in_service.is_usable.plan_is in record {
        sizes = subst (λ p. IsSizedBy p mid.sizes) same
            (subst (λ (b : Shared (ContextView S) (LayerView Z) H). IsSizedBy plan b.sizes)
            (sym o.same) sizes);
        grounds = subst (λ p. AreGrounds p flat is_context is_layer) same grounds;
        known = o.under_way.known;
        at_it = subst (λ p. IsInLayer p telling ports at.origin.i at.context at.run mid) same
            o.under_way.at_it;
      }

  -- and so is one that set out on that of its request
  pub runs_request : (at : InRun (ContextView S) RequestRun) → out ≡ InRequest at →
      RunsRequest telling flat is_context is_layer at ports mid
  runs_request at is =
      let o : IsOut plan telling i counted level at.origin (Request at.context at.run) ports old
      mid = subst (λ x. SetsOut plan telling i counted level x ports old mid) is sets in
      let same = sym o.under_way.at_it.hosts.in_service.is_usable.plan_is in record {
        sizes = subst (λ p. IsSizedBy p mid.sizes) same
            (subst (λ (b : Shared (ContextView S) (LayerView Z) H). IsSizedBy plan b.sizes)
            (sym o.same) sizes);
        grounds = subst (λ p. AreGrounds p flat is_context is_layer) same grounds;
        known = o.under_way.known;
        at_it = subst (λ p. IsInRequest p telling ports at.origin.i at.context at.run mid) same
            o.under_way.at_it;
      }

module _ {S L H E : Type 0} (plan : Outline) (telling : Telling S) (pause : Option ℕ) (i : ℕ)
    (work : Work (ContextView S) S) (from ticks : ℕ) (before ports : Exchange)
    (old mid new : Shared (ContextView S) L H) (out : SetOut (ContextView S))
    (sets : SetsOut plan telling i (counted_in work) (level_in work) out before old mid)
    (r : Result (Turned (ContextView S) S) E) where
  -- what its turn came to is what the service came to
  pub turns_layer : (at : InRun (ContextView S) LayerRun) → out ≡ InLayer at →
      IfOk r (λ turned. TurnsTo at.context.plan telling pause at.origin.i
      (Layer at.context at.run) from turned ports ticks mid new) →
      IfOk r (λ turned. TurnsTo plan telling pause i work from turned ports ticks old new)
  turns_layer at is turns =
      let o : IsOut plan telling i (counted_in work) (level_in work) at.origin
      (Layer at.context at.run) before old mid =
      subst (λ x. SetsOut plan telling i (counted_in work) (level_in work) x before old mid) is
      sets in
      ok_so r _ _ (turns_out plan telling pause i work from ticks ports old new at.origin
      (Layer at.context at.run) mid before o at.context.plan
      o.under_way.at_it.hosts.in_service.is_usable.plan_is) turns

  pub turns_request : (at : InRun (ContextView S) RequestRun) → out ≡ InRequest at →
      IfOk r (λ turned. TurnsTo at.context.plan telling pause at.origin.i
      (Request at.context at.run) from turned ports ticks mid new) →
      IfOk r (λ turned. TurnsTo plan telling pause i work from turned ports ticks old new)
  turns_request at is turns =
      let o : IsOut plan telling i (counted_in work) (level_in work) at.origin
      (Request at.context at.run) before old mid =
      subst (λ x. SetsOut plan telling i (counted_in work) (level_in work) x before old mid) is
      sets in
      ok_so r _ _ (turns_out plan telling pause i work from ticks ports old new at.origin
      (Request at.context at.run) mid before o at.context.plan
      o.under_way.at_it.hosts.in_service.is_usable.plan_is) turns

-- one that found no memory is over
pub turns_lost : {S L H : Type 0} (plan : Outline) (telling : Telling S) (pause : Option ℕ) (i : ℕ)
    (work : Work (ContextView S) S) (from ticks counted level : ℕ) (before ports : Exchange)
    (old new : Shared (ContextView S) L H) (out : SetOut (ContextView S)) (answer : Answer) →
    SetsOut plan telling i counted level out before old new → out ≡ Lost answer →
    TurnsTo plan telling pause i work from (Answered answer) ports ticks old new
turns_lost plan telling pause i work from ticks counted level before ports old new out answer sets
    is = loses plan telling pause i work from ticks ports old new answer
    (subst (λ x. SetsOut plan telling i counted level x before old new) is sets)
