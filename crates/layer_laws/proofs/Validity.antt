-- Places and contexts are valid machines: each run begins with one, and so ends with one.
use Rattle.std.proofs.Common.{◌≡◌, ℕ, ◌^◌, ◌<◌, not, ◌&&◌, List, [], ◌∷◌, Option, None, Some}
use Rattle.std.proofs.Common.{slice_get, IsSomeAnd, refl, sym, subst, arith, All}
use Rattle.std.proofs.lemmas.Option.{slice_get_within, get_or_from_slice_get}
use Rattle.std.proofs.lemmas.List.Elements.{All-get_or, All-nil, All-cons, All-head, All-tail}
use Rattle.image_model.specs.Layout.{Layout}
use Rattle.layer_model.specs.Layers.{quiet, settled, layer_limits, IsStep, Climbs, layers_to}
use Rattle.layer_model.specs.Layers.{IsPlace}
use Rattle.layer_model.specs.Replies.{request_limits, IsServed, Serves, IsContext}
use Rattle.layer_laws.specs.Requests.{IsRequest}
use Rattle.machine_model.proofs.Changes.{AreRegisters, registers_of, with_register-keeps}
use Rattle.machine_model.proofs.Choices.{of_either}
use Rattle.machine_model.proofs.Ends.{each_ends}
use Rattle.machine_model.proofs.Runs.{one_end}
use Rattle.machine_model.proofs.Start.{loaded-valid}
use Rattle.machine_model.specs.Hypercall.{packet_queued}
use Rattle.machine_model.specs.Loaded.{loaded}
use Rattle.machine_model.specs.Machine.{Machine, with_register}
use Rattle.machine_model.specs.Run.{Limits, End, IsRun, give, is_empty}
use Rattle.machine_model.specs.Valid.{IsValid, IsPacket}
use Rattle.machine_model.specs.declared.stop.Stop.TheVariants.{Trigger, Rest}
use Rattle.plan_model.specs.Outline.{Outline, IsPlan, IsStart}
use Rattle.plan_model.specs.declared.layer.PlanLayer.{PlanLayer}
use Rattle.space_api.specs.declared.given.Given.{Given}

pub all_at : {A : Type 0} (P : A → Type 0) (xs : List A) (i : ℕ) (x : A) → slice_get xs i ≡ Some x
    → All P xs → P x
all_at P xs i x e all =
    subst P (get_or_from_slice_get xs i x x e)
    (All-get_or P xs i x (slice_get_within xs i x e) all)

-- ---- what a run is given, and what is kept of it

no_bytes : All (λ (byte : ℕ). byte < 2 ^ 8) []
no_bytes = All-nil (λ (byte : ℕ). byte < 2 ^ 8)

pub give-valid : (m : Machine) (packets : List (List ℕ)) → IsValid m → All IsPacket packets
    → IsValid (give m packets)
give-valid m packets v all =
    let wakes = m.resting && not (is_empty packets) in
    let r = of_either AreRegisters wakes (with_register 10 packet_queued m.registers) m.registers
    (λ e. with_register-keeps 10 packet_queued m.registers (omega arith) (registers_of m v))
    (λ e. registers_of m v) in
    record {
      registers = r.number;
      words = r.words;
      zero = r.zero;
      pc = v.pc;
      aligned = v.aligned;
      memory = v.memory;
      readable = v.readable;
      below = v.below;
      written = v.written;
      queue = all;
      sent = All-nil IsPacket;
      sent_few = omega arith;
      sent_short = omega arith;
      console = no_bytes;
      console_short = omega arith;
    }

pub settled-valid : (m : Machine) → IsValid m → IsValid (settled m)
settled-valid m v = record {
  registers = v.registers;
  words = v.words;
  zero = v.zero;
  pc = v.pc;
  aligned = v.aligned;
  memory = v.memory;
  readable = v.readable;
  below = v.below;
  written = v.written;
  queue = All-nil IsPacket;
  sent = All-nil IsPacket;
  sent_few = omega arith;
  sent_short = omega arith;
  console = no_bytes;
  console_short = omega arith;
}

pub quiet-valid : (m : Machine) → IsValid m → IsValid (quiet m)
quiet-valid m v = record {
  registers = v.registers;
  words = v.words;
  zero = v.zero;
  pc = v.pc;
  aligned = v.aligned;
  memory = v.memory;
  readable = v.readable;
  below = v.below;
  written = λ page t. cc;
  queue = All-nil IsPacket;
  sent = All-nil IsPacket;
  sent_few = omega arith;
  sent_short = omega arith;
  console = no_bytes;
  console_short = omega arith;
}

-- ---- runs

pub run-valid : (clock : ℕ) (limits : Limits) (m : Machine) (end : End) → clock < 2 ^ 64
    → IsValid m → IsRun clock limits m end → IsValid end.machine
run-valid clock limits m end fits v run =
    let found = each_ends clock limits m fits v in
    subst (λ (e : End). IsValid e.machine) (one_end clock limits m found.0 end found.1 run) found.2

-- ---- places

pub packets_of : (plan : Outline) (k : ℕ) (layer : PlanLayer) → IsPlan plan
    → slice_get plan.layers k ≡ Some layer → All IsPacket layer.packets
packets_of plan k layer is found =
    all_at (λ (l : PlanLayer). All IsPacket l.packets) plan.layers k layer found is.packets

pub step-valid : (plan : Outline) (k : ℕ) (below after : Machine) → IsPlan plan → IsValid below
    → IsStep plan k below after → IsValid after
step-valid plan k below after is v step =
    subst IsValid (sym step.after_is) (quiet-valid step.reached
    (run-valid 0 (layer_limits plan step.layer) (give below step.layer.packets)
    (record { stop = Trigger; number = step.counted; machine = step.reached }) (omega arith)
    (give-valid below step.layer.packets v (packets_of plan k step.layer is step.layer_is))
    step.run))

climb-valid : (plan : Outline) (ks : List ℕ) (below after : Machine) → IsPlan plan
    → IsValid below → Climbs plan ks below after → IsValid after
climb-valid plan [] below after is v same = subst IsValid same v
climb-valid plan (k ∷ ks) below after is v (mid, first, rest) =
    climb-valid plan ks mid after is (step-valid plan k below mid is v first) rest

start-valid : (plan : Outline) (start : ℕ) (layout : Layout) → IsPlan plan
    → slice_get plan.starts start ≡ Some layout → IsValid (loaded layout)
start-valid plan start layout is found =
    let s = all_at IsStart plan.starts start layout found is.starts in
    loaded-valid layout s.entry s.layout s.bytes

-- what holds of a value that is there
pub at_some : {A R : Type 0} {P : A → Type 0} (o : Option A) → IsSomeAnd o P
    → ((x : A) → o ≡ Some x → P x → R) → R
at_some None is f = absurd is
at_some (Some x) is f = f x refl is

pub place-valid : (plan : Outline) (start : ℕ) (place : Option ℕ) (m : Machine) → IsPlan plan
    → IsPlace plan start place m → IsValid m
place-valid plan start place m is stands =
    at_some (slice_get plan.starts start) stands (λ layout found climbed.
    climb-valid plan (layers_to plan.layers place) (loaded layout) m is
    (start-valid plan start layout is found) climbed)

-- ---- contexts

given_packet : (given : Given) → IsRequest given → All IsPacket (given.packet ∷ [])
given_packet given is = All-cons IsPacket given.packet [] is.packet (All-nil IsPacket)

pub request-valid : (m : Machine) (given : Given) → IsValid m → IsRequest given
    → IsValid (give m (given.packet ∷ []))
request-valid m given v is = give-valid m (given.packet ∷ []) v (given_packet given is)

pub served-valid : (plan : Outline) (m : Machine) (given : Given) (after : Machine) → IsValid m
    → IsRequest given → IsServed plan m given after → IsValid after
served-valid plan m given after v is served =
    subst IsValid (sym served.after_is) (settled-valid served.rested
    (run-valid given.clock (request_limits plan) (give m (given.packet ∷ []))
    (record { stop = Rest; number = served.counted; machine = served.rested }) is.clock
    (request-valid m given v is) served.run))

serves-valid : (plan : Outline) (served : List Given) (m after : Machine) → IsValid m
    → All IsRequest served → Serves plan served m after → IsValid after
serves-valid plan [] m after v all same = subst IsValid same v
serves-valid plan (given ∷ more) m after v all (mid, first, rest) =
    serves-valid plan more mid after
    (served-valid plan m given mid v (All-head IsRequest given more all) first)
    (All-tail IsRequest given more all) rest

pub context-valid : (plan : Outline) (start : ℕ) (place : Option ℕ) (served : List Given)
    (m : Machine) → IsPlan plan → All IsRequest served → IsContext plan start place served m
    → IsValid m
context-valid plan start place served m is all context =
    serves-valid plan served context.base m
    (place-valid plan start place context.base is context.stands) all context.serves
