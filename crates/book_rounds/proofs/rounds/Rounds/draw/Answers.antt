use Rattle.book_rounds.proofs.Working.{deployed_is}
use Rattle.book_rounds.proofs.rounds.Rounds.draw.Goals as goal

pub returns-clause-served : goal.returns-clause-served
returns-clause-served g c = deployed_is c.args.self.now.book.sizes c.args.self.now.book.state
    c.in-Ok.deployed.context c.in-Ok.deployed.from c.args.i c.args.self.now.book.sizes.root
    c.args.f c.deploy_from.new.self.state c.deploy_from.new.self.started _
    c.in-Ok.ensures.deployed.legal c.requires.function c.finished.ensures
