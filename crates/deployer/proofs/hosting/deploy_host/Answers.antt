use Rattle.std.proofs.Common.{refl}
use Rattle.deployer.proofs.Deployed.{deployed_drawn, deployed_fresh, deploys_none, deploys_went}
use Rattle.deployer.proofs.Deployed.{function_there, stack_given}
use Rattle.deployer.proofs.hosting.deploy_host.Goals as goal

pub deploy_from-requires-clause-stack : goal.deploy_from-requires-clause-stack
deploy_from-requires-clause-stack g c κs within = stack_given c.args.plan.now
    c.args.book.now.sizes c.args.book.now.state c.args.function c.args.i c.stack.result.now
    c.is_sound.ensures c.requires.sizes c.requires.there c.requires.function c.stack.ensures

pub returns-in-Ok-clause-went : goal.returns-in-Ok-clause-went
returns-in-Ok-clause-went g c = deploys_went _ _ _ _ c.args.i _ _ _ _ _ _ c.args.book.now
    c.deploy_from.new.self c.in-Ok.ensures.deployed

pub returns-in-Ok-clause-fresh : goal.returns-in-Ok-clause-fresh
returns-in-Ok-clause-fresh g c =
    let t = function_there c.args.plan.now c.args.function c.is_sound.ensures c.requires.there in
    let held = c.is_sound-2.ensures.held in
    deployed_fresh c.args.plan.now _ _ _ _ _ _ c.args.i c.args.function c.in-Ok.deployed _ _
    c.args.book.now c.deploy_from.new.self c.in-Ok.ensures.deployed g.T.Frozen.Held.pin
    g.G.Grounds.is_layer c.is_sound.ensures t.function
    t.layer t.is c.requires.sizes c.requires.function (record {
      layers = held.layers;
      opened = held.images;
      of_plan = c.requires.grounds.layer;
    }) refl

pub returns-in-Ok-clause-drawn : goal.returns-in-Ok-clause-drawn
returns-in-Ok-clause-drawn g c = deployed_drawn c.args.plan.now (record {
  flat = g.T.Space.Space.flat;
  spares = g.T.Space.Space.spares;
  finished = g.T.Space.Space.finished;
  pin = g.T.Space.Held.pin;
}) _ _ _ _ _ c.args.i c.args.function c.in-Ok.deployed _ _ c.args.book.now
    c.deploy_from.new.self
    c.in-Ok.ensures.deployed c.requires.function

pub returns-in-Err-clause-waits : goal.returns-in-Err-clause-waits
returns-in-Err-clause-waits g c = deploys_none _ _ _ _ c.args.i c.args.book.now
    c.deploy_from.new.self c.in-Err.ensures.none
