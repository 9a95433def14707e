use Rattle.std.proofs.Common.{◌+◌, ltb, rules}
use Rattle.std.proofs.lemmas.Iterator.{YieldsList-from_slice}
use Rattle.std.proofs.lemmas.Iterator.Consumers.{YieldsList-at, YieldsList-from_enumerate, YieldsList-from_filter}
use Rattle.players.proofs.Picking.{picked}
use Rattle.players.proofs.FullestLoads.{fullest_picked}
use Rattle.players.proofs.best_fit.fullest_below.Goals as goal

pub returns : goal.returns
returns c =
    let loads = c.args.loads.now in
    fullest_picked c.args.target loads c.args.size (λ p. (p.0, p.1.now)) c.min_by_key.result c.map.result (search rules)
    (picked (λ p. (p.0, p.1.now)) _ _ (λ p. record { 0 = p.1 }) _ (λ x k q h. search rules) c.min_by_key.result c.min_by_key.ensures.ran
    (YieldsList-from_filter _ (λ p. ltb (p.1 + c.args.size) c.args.target) (YieldsList-at c.filter.ensures.source (YieldsList-from_enumerate (YieldsList-from_slice loads (cc)) (cc))) c.filter.ensures.closure (λ x r q k. search rules)))
