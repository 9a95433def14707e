use Rattle.game.proofs.Starting.{law_at_start}
use Rattle.game.proofs.matches.opening.begin.Goals as goal

pub returns-clause-law : goal.returns-clause-law
returns-clause-law g c loads passes =
    rw c.at.ensures (law_at_start (g.S.Store.meaning c.args.store.now) (g.met.S.Store.lawful c.args.store.now) loads c.args.row c.requires passes)
