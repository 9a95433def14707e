use Rattle.std.proofs.Common.{rules}
use Rattle.std.proofs.lemmas.Slice.{overwrites}
use Rattle.players.specs.Held.{held}
use Rattle.books.proofs.Situations.{situated}
use Rattle.books.proofs.situation.Situation.new.Goals as goal

pub returns : goal.returns
returns c = situated c.copy_from_slice.new.self c.loads-loads.result.now (held c.args.bins.now) _ c.args.size c.copy_from_slice.ensures.after c.loads-loads.ensures (search (rules, overwrites))
