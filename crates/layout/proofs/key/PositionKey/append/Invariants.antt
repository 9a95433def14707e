use Rattle.std.proofs.Common.{◌≡◌, ◌+◌, ◌++◌, take}
use Rattle.layout.proofs.key.PositionKey.append.Given as goal

-- so many numbers were added
abbrev pub invariant-loop-number : goal.invariant-loop-number
invariant-loop-number l =
    (l.self.length ≡ l.initial.self.length + l.number-index)
    × (take l.self.length l.self.bytes ≡ take l.initial.self.length l.initial.self.bytes ++ take l.number-index l.numbers)
