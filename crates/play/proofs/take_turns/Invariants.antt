use Rattle.std.proofs.Common.{◌≡◌, ℕ, ◌-◌, List, sum, Result}
use Rattle.certificate.specs.declared.fault.Fault.{Fault}
use Rattle.players.specs.Placing.{most_total}
use Rattle.game.specs.declared.matches.Ended.{Ended}
use Rattle.play.specs.Playing.{Turns}
use Rattle.play.proofs.take_turns.Given as goal

-- the rule stays, and whatever turns follow from here follow from the start
abbrev pub invariant-loop-next : goal.invariant-loop-next
invariant-loop-next g l =
    let c = g.S.Store.meaning l.store in
    let p = g.P.Player in
    let takes = p.takes l.initial.player in
    (p.takes l.player ≡ takes)
    × ((answer : Result Ended Fault) (loads bytes : List ℕ) → Turns c takes l.ready (p.loads l.player) l.record answer loads bytes → Turns c takes l.initial.ready (p.loads l.initial.player) l.initial.record answer loads bytes)

-- the loads rise with each turn, and have a limit
abbrev pub decreases-loop-next : goal.decreases-loop-next
decreases-loop-next g l = most_total - sum (g.P.Player.loads l.player)
