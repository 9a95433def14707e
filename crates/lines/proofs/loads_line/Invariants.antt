use Rattle.std.proofs.Common.{◌≡◌, ◌++◌, codes, string_bytes}
use Rattle.lines.specs.Lines.{upto, load_of_bin}
use Rattle.lines.proofs.loads_line.Given as goal

-- the text has the loads so far
abbrev pub invariant-loop-bin : goal.invariant-loop-bin
invariant-loop-bin g l = string_bytes l.text ≡ codes "loads" ++ upto (load_of_bin (g.P.Player.loads l.player)) l.bin
