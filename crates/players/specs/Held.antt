-- The loads that bins hold.
use Rattle.std.specs.Prelude.{ℕ, List, take}
use Rattle.players.specs.declared.bins.Bins.{Bins}

-- the load of each bin, in their order
abbrev pub held : Bins → List ℕ
held b = take b.count b.slots
