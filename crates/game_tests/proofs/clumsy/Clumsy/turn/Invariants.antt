use Rattle.std.proofs.Common.{◌≡◌}
use Rattle.game_tests.proofs.clumsy.Clumsy.turn.Given as goal

-- the item is the one that the match shows
abbrev pub invariant-loop : goal.invariant-loop
invariant-loop l = l.item.size ≡ l.waiting.size
