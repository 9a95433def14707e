use Rattle.std.proofs.Common.{◌≡◌, take}
use Rattle.game.proofs.loads.borne_loads.Given as goal

-- the loads of the first bins
abbrev pub invariant-loop-bin : goal.invariant-loop-bin
invariant-loop-bin g l = l.loads.items ≡ take l.bin (g.P.Player.loads l.player)
