use Rattle.std.proofs.Common.{rules}
use Rattle.players.proofs.Empty.{empty_loads, empty_slots, empty_light}
use Rattle.players.proofs.bins.Bins.new.Goals as goal

pub invariant_of-result : goal.invariant_of-result
invariant_of-result c = record { sized = search rules; slotted = empty_slots c.args.count (search rules); light = empty_light c.args.count }

pub returns : goal.returns
returns c = (search rules, empty_loads c.args.count (search rules))
