use Rattle.game.proofs.Starting.{opened_from_accepted}
use Rattle.play.proofs.play.Goals as goal

-- on an accepted table a match is opened
pub returns-in_err-ready-clause-wins : goal.returns-in_err-ready-clause-wins
returns-in_err-ready-clause-wins g c accepted empty long =
    absurd (rw (← c.in_err-ready.ensures.answer) at (opened_from_accepted (g.S.Store.meaning c.args.store.now) (g.met.S.Store.lawful c.args.store.now) (g.P.Player.loads c.args.player.now) accepted empty))
