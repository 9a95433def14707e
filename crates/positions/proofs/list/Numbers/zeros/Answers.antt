use Rattle.std.proofs.lemmas.List.{take-replicate}
use Rattle.positions.proofs.list.Numbers.zeros.Goals as goal

pub returns : goal.returns
returns c = take-replicate c.args.count 32 0 c.requires
