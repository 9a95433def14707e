use Rattle.std.proofs.Common.{ℕ, ◌+◌, leb, ◌∙◌, rules}
use Rattle.std.proofs.lemmas.Iterator.{YieldsList-from_slice}
use Rattle.std.proofs.lemmas.Iterator.Search.{position_from_yields_List}
use Rattle.players.proofs.LowestLoads.{position_first}
use Rattle.players.proofs.threshold.lowest_within.Goals as goal

pub returns : goal.returns
returns c =
    let test = λ (load : ℕ). leb (load + c.args.size) c.args.limit in
    position_from_yields_List test _ _ c.position.result c.position.ensures.ran (YieldsList-from_slice c.args.loads.now (cc)) (λ x b q k. search rules) ∙ position_first test c.args.loads.now
