use Rattle.std.proofs.Common.{subst, sym, ap, ◌∙◌, ◌≡◌, ◌<◌, ◌+◌, ℕ, true, length, arith}
use Rattle.std.proofs.Common.{None}
use Rattle.journal_model.specs.Legal.{is_waiting, request_function, first_for}
use Rattle.journal_model.specs.State.{stack_of}
use Rattle.journal_model.specs.declared.event.Event.TheVariants.{Deploy}
use Rattle.space_api.specs.Holding.{Holding}
use Rattle.book_log.specs.Logged.{Logged}
use Rattle.book_model.specs.Shared.{Shared}
use Rattle.book_model.proofs.Changed.{below_there, changed_of}
use Rattle.book_model.proofs.DeployResults.{if_some_at, if_some_by, is_some_by, on_err}
use Rattle.book_model.proofs.DeployResults.{root_of, drawn_of, may_of}
use Rattle.book_model.proofs.DeployResults.{deploy_next, deploy_leads}
use Rattle.book_model.proofs.DeployResults.{placed, place_there, aimed, aimed_loose, below_again}
use Rattle.book_model.proofs.DeployResults.{none_is, refused_is, deploys_is}
use Rattle.book_model.proofs.DeployResults.{stands_refused, stands_drawn}
use Rattle.book_model.proofs.Deployment.{deploy_may, stake_left, drawn_few, from_is}
use Rattle.book_model.proofs.Holds.{book_of}
use Rattle.book_core.proofs.book.Book.deploy_from.Goals as goal
use Rattle.book_core.proofs.book.Book.deploy_from.Goals.{then-self-via-then-self}
use Rattle.book_core.proofs.book.Book.deploy_from.Goals.{then-self-via-else-self+then-is_err}

pub returns-then-self-clause-none : goal.returns-then-self-clause-none
returns-then-self-clause-none g c = none_is _ _ _ _ c.args.i _ _ _
    g.met.L.Kept.kept_is_itself (place_there _ _ _ _ _ _ _ c.args.i _ _ c.self.invariant.2.held
    c.self.view_is c.requires.waiting) c.self.view_is (elim c.then-self.branch [
      | then-self-via-then-self w ↦ w.self-is
      | then-self-via-else-self+then-is_err w ↦ w.self-is
          ∙ (ap (λ (y : Logged). book_of y c.self.inside.idle.entries c.self.inside.kept.entries
          c.self.inside.images.items c.self.inside.shelf c.self.inside.stopped)
          w.reserve.ensures.rest ∙ c.self.view_is)
    ])

pub index-requires : goal.index-requires
index-requires g c = subst (λ (n : ℕ). c.image_of-at.result < n)
    (sym c.self.inside.images.ok.0) (placed _ _ _ _ _ _ _ c.self.inside.log c.reserve.new.self
    c.args.i c.image_of-at.result _ _ _ _ _ _ c.self.invariant.2.held c.self.view_is
    c.requires.waiting c.reserve.ensures.rest c.image_of-at.ensures)

pub hart_below-hart-requires : goal.hart_below-hart-requires
hart_below-hart-requires g c =
    let below = below_there _ _ c.index.result.now _ c.highest-from.ensures in
    record { there = is_some_by _ below.0 below.1 }

pub index_mut-requires : goal.index_mut-requires
index_mut-requires g c = subst (λ (n : ℕ). c.image_of-at.result < n)
    (sym c.self.inside.images.ok.0) (placed _ _ _ _ _ _ _ c.self.inside.log c.reserve.new.self
    c.args.i c.image_of-at.result _ _ _ _ _ _ c.self.invariant.2.held c.self.view_is
    c.requires.waiting c.reserve.ensures.rest c.image_of-at.ensures)

pub deploy_below-requires-clause-there : goal.deploy_below-requires-clause-there
deploy_below-requires-clause-there g c κs within =
    let below = below_there _ _ c.index_mut.result.now _ c.highest-from.ensures in
    is_some_by _ below.0 below.1

pub deploy_below-requires-clause-loose : goal.deploy_below-requires-clause-loose
deploy_below-requires-clause-loose g c κs within =
    let aim = aimed _ _ _ _ _ _ _ c.self.inside.log c.reserve.new.self c.args.i
    c.image_of-at.result _ _ _ _ _ _ c.self.invariant.2.held c.self.view_is c.requires.waiting
    c.reserve.ensures.rest c.image_of-at.ensures c.highest-from.result c.index_mut.result.now _
    c.index_mut.ensures.value c.highest-from.ensures in
    if_some_by _ _ aim.below aim.below_is (aimed_loose _ _ _ _ _ _ _ c.self.inside.log
    c.reserve.new.self c.args.i c.image_of-at.result _ _ _ _ _ _ c.self.invariant.2.held
    c.self.view_is c.requires.waiting c.reserve.ensures.rest c.image_of-at.ensures
    c.highest-from.result c.index_mut.result.now aim)

pub deploy_below-requires-clause-stake : goal.deploy_below-requires-clause-stake
deploy_below-requires-clause-stake g c κs within =
    stake_left g.T.Space.Space.takes_frames c.self.inside.log.sizes.root
    (length c.self.inside.log.state.contexts) (g.H.Stock.stocked c.self.inside.shelf)
    (ap (λ (b : Shared _ _ _). b.sizes.root) c.self.view_is ∙ c.requires.root)
    (drawn_few _ _ _ _ _ _ _ _ c.self.invariant.2.held) c.self.invariant.2.held.stake

pub invariant_of-self-in_err-space : goal.invariant_of-self-in_err-space
invariant_of-self-in_err-space g c =
    let aim = aimed _ _ _ _ _ _ _ c.self.inside.log c.reserve.new.self c.args.i
    c.image_of-at.result _ _ _ _ _ _ c.self.invariant.2.held c.self.view_is c.requires.waiting
    c.reserve.ensures.rest c.image_of-at.ensures c.highest-from.result c.index_mut.result.now _
    c.index_mut.ensures.value c.highest-from.ensures in
    let changed = changed_of g.L.Kept.kept g.L.Held.pin g.G.Grounds.is_layer
    g.L.Tells.tells_same _ c.highest-from.result _ c.self.inside.kept c.deploy_below.new.kept
    c.index_mut.result.now c.deploy_below.new.image aim.below aim.below_is
    c.in_err-space.ensures.layers in
    stands_refused _ _ _ _ _ _ _ _ _ g.met.G.Grounds.layer_stays g.met.L.Kept.same_is_kept
    (λ a b e. ap (λ (h : Holding). h.pin) e) c.self.inside.log c.reserve.new.self _
    c.image_of-at.result c.highest-from.result _ c.self.inside.kept c.deploy_below.new.kept
    c.index_mut.result.now c.deploy_below.new.image _ _ c.deploy_below.new.shelf _ changed
    c.reserve.ensures.rest aim.image_is c.in_err-space.ensures.unchanged c.self.invariant

pub returns-in_err-space-clause-none : goal.returns-in_err-space-clause-none
returns-in_err-space-clause-none g c =
    let aim = aimed _ _ _ _ _ _ _ c.self.inside.log c.reserve.new.self c.args.i
    c.image_of-at.result _ _ _ _ _ _ c.self.invariant.2.held c.self.view_is c.requires.waiting
    c.reserve.ensures.rest c.image_of-at.ensures c.highest-from.result c.index_mut.result.now _
    c.index_mut.ensures.value c.highest-from.ensures in
    let changed = changed_of g.L.Kept.kept g.L.Held.pin g.G.Grounds.is_layer
    g.L.Tells.tells_same _ c.highest-from.result _ c.self.inside.kept c.deploy_below.new.kept
    c.index_mut.result.now c.deploy_below.new.image aim.below aim.below_is
    c.in_err-space.ensures.layers in
    on_err _ _ (refused_is _ _ _ _ _ _ c.self.inside.log c.reserve.new.self c.args.i
    c.image_of-at.result c.highest-from.result _ c.self.inside.kept c.deploy_below.new.kept
    c.index_mut.result.now c.deploy_below.new.image _ _ c.deploy_below.new.shelf _ _ changed
    c.reserve.ensures.rest c.self.view_is aim.place_is aim.image_is
    c.in_err-space.ensures.unchanged)

pub overflow_add-c : goal.overflow_add-c
overflow_add-c g c =
    let d = drawn_few _ _ _ _ _ _ _ _ c.self.invariant.2.held in
    let e = drawn_of c.self.inside.log c.reserve.new.self c.drawn-c.result
    c.reserve.ensures.rest c.drawn-c.ensures in
    omega (arith, d, e)

pub append-requires-clause-may : goal.append-requires-clause-may
append-requires-clause-may g c =
    let rest = c.reserve.ensures.rest in
    let held = c.self.invariant.2.held in
    let waits = subst (λ (b : Shared _ _ _). is_waiting b.state c.args.i ≡ true)
    (sym c.self.view_is) c.requires.waiting in
    let none = subst (λ (b : Shared _ _ _). first_for (request_function b.state c.args.i)
    b.state.contexts b.state.idle ≡ None) (sym c.self.view_is) c.requires.none_waits in
    let stack = subst (λ (b : Shared _ _ _). c.args.stack.now
    ≡ stack_of b.sizes (request_function b.state c.args.i)) (sym c.self.view_is)
    c.requires.stack in
    may_of c.self.inside.log c.reserve.new.self (Deploy (c.drawn-c.result + 1)
    c.highest-from.result c.args.i c.behind-self.inside.root) rest
    (deploy_may g.T.Space.Space.takes_frames c.self.inside.log.sizes c.self.inside.log.state
    (c.drawn-c.result + 1) c.highest-from.result c.args.i c.behind-self.inside.root _ _
    c.self.invariant.2.owes waits none
    (ap (λ (n : ℕ). n + 1) (drawn_of c.self.inside.log c.reserve.new.self c.drawn-c.result rest
    c.drawn-c.ensures))
    (from_is _ _ _ _ _ _ _ _ c.highest-from.result c.args.i _ held stack c.highest-from.ensures)
    (root_of c.self.inside.log c.reserve.new.self _ _ rest c.behind-self.view_is
    c.sizes.ensures)
    (ap (λ (b : Shared _ _ _). b.sizes.root) c.self.view_is ∙ c.requires.root)
    (held.free c.if-self.false) c.in_ok-space.ensures.gave)

pub invariant_of-self-2 : goal.invariant_of-self-2
invariant_of-self-2 g c =
    let aim = aimed _ _ _ _ _ _ _ c.self.inside.log c.reserve.new.self c.args.i
    c.image_of-at.result _ _ _ _ _ _ c.self.invariant.2.held c.self.view_is c.requires.waiting
    c.reserve.ensures.rest c.image_of-at.ensures c.highest-from.result c.index_mut.result.now _
    c.index_mut.ensures.value c.highest-from.ensures in
    let changed = changed_of g.L.Kept.kept g.L.Held.pin g.G.Grounds.is_layer
    g.L.Tells.tells_same _ c.highest-from.result _ c.self.inside.kept c.deploy_below.new.kept
    c.index_mut.result.now c.deploy_below.new.image aim.below aim.below_is
    c.in_ok-space.ensures.layers in
    let number = c.drawn-c.result + 1 in
    let root : c.behind-self.inside.root ≡ c.self.inside.log.sizes.root
    = root_of c.self.inside.log c.reserve.new.self _ _ c.reserve.ensures.rest
    c.behind-self.view_is c.sizes.ensures in
    let next = deploy_next c.self.inside.log c.reserve.new.self c.append.new.self number
    c.highest-from.result c.args.i c.behind-self.inside.root _ c.reserve.ensures.rest root
    c.append.ensures.rest in
    let leads = deploy_leads c.self.inside.log c.reserve.new.self c.append.new.self.state number
    c.highest-from.result c.args.i c.behind-self.inside.root c.reserve.ensures.rest root
    c.append.ensures.state in
    stands_drawn _ _ _ _ _ _ _ _ _ g.met.G.Grounds.layer_stays g.met.L.Kept.same_is_kept
    (λ a b e. ap (λ (h : Holding). h.pin) e) g.T.Space.Space.takes_frames c.self.inside.log
    c.append.new.self _ number c.args.i c.image_of-at.result c.highest-from.result _
    c.self.inside.kept c.deploy_below.new.kept c.index_mut.result.now
    c.deploy_below.new.image _ _ c.deploy_below.new.shelf _ changed next leads
    aim.image_is (ap (λ (b : Shared _ _ _). b.sizes.root) c.self.view_is ∙ c.requires.root)
    c.in_ok-space.ensures.gave c.self.invariant

pub returns-clause-deployed : goal.returns-clause-deployed
returns-clause-deployed g c =
    let aim = aimed _ _ _ _ _ _ _ c.self.inside.log c.reserve.new.self c.args.i
    c.image_of-at.result _ _ _ _ _ _ c.self.invariant.2.held c.self.view_is c.requires.waiting
    c.reserve.ensures.rest c.image_of-at.ensures c.highest-from.result c.index_mut.result.now _
    c.index_mut.ensures.value c.highest-from.ensures in
    let changed = changed_of g.L.Kept.kept g.L.Held.pin g.G.Grounds.is_layer
    g.L.Tells.tells_same _ c.highest-from.result _ c.self.inside.kept c.deploy_below.new.kept
    c.index_mut.result.now c.deploy_below.new.image aim.below aim.below_is
    c.in_ok-space.ensures.layers in
    let number = c.drawn-c.result + 1 in
    let root : c.behind-self.inside.root ≡ c.self.inside.log.sizes.root
    = root_of c.self.inside.log c.reserve.new.self _ _ c.reserve.ensures.rest
    c.behind-self.view_is c.sizes.ensures in
    let next = deploy_next c.self.inside.log c.reserve.new.self c.append.new.self number
    c.highest-from.result c.args.i c.behind-self.inside.root _ c.reserve.ensures.rest root
    c.append.ensures.rest in
    let leads = deploy_leads c.self.inside.log c.reserve.new.self c.append.new.self.state number
    c.highest-from.result c.args.i c.behind-self.inside.root c.reserve.ensures.rest root
    c.append.ensures.state in
    let again = below_again _ _ _ _ _ _ _ c.self.inside.log c.reserve.new.self c.args.i
    c.image_of-at.result _ _ _ _ _ _ c.self.invariant.2.held c.self.view_is c.requires.waiting
    c.reserve.ensures.rest c.image_of-at.ensures c.highest-from.result c.index_mut.result.now
    c.index.result.now changed.below aim.image_is changed.below_is c.index.ensures in
    deploys_is _ _ _ _ _ _ g.T.Space.Space.takes_frames c.self.inside.log c.append.new.self
    number c.args.i c.image_of-at.result c.highest-from.result c.hart_below-hart.result _ _ _
    c.self.inside.kept c.deploy_below.new.kept c.index_mut.result.now
    c.deploy_below.new.image _ _ c.deploy_below.new.shelf _ _ changed c.self.view_is
    aim.place_is aim.image_is next leads c.in_ok-space.ensures.gave
    (if_some_at _ _ changed.below again c.hart_below-hart.ensures)
    (if_some_at _ _ changed.below changed.below_is c.in_ok-space.ensures.space)
    (if_some_at _ _ changed.below changed.below_is c.in_ok-space.ensures.holds)
