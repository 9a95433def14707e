use Rattle.std.proofs.Common.{◌≡◌, sym, subst, rules}
use Rattle.std.proofs.lemmas.Iterator.{YieldsList-from_slice}
use Rattle.std.proofs.lemmas.Iterator.Consumers.{YieldsList-from_enumerate}
use Rattle.std.specs.Ordering.{nat_cmp}
use Rattle.players.specs.Choosing.{least_full}
use Rattle.players.specs.Fitting.{LeastFull}
use Rattle.players.proofs.Picking.{picked}
use Rattle.players.proofs.LeastLoads.{least_picked, least_full_says}
use Rattle.players.proofs.bins.least_full.Goals as goal

pub returns : goal.returns
returns c =
    let loads = c.args.loads.now in
    let least = picked (λ p. (p.0, p.1.now)) _ nat_cmp (λ p. p.1) _ (λ x k q h. search rules) c.min_by_key-least.result c.min_by_key-least.ensures.ran (YieldsList-from_enumerate (YieldsList-from_slice loads (cc)) (cc)) in
    let answer : c.map_or.result ≡ least_full loads = least_picked loads (λ p. (p.0, p.1.now)) c.min_by_key-least.result c.map_or.result (search rules) least in
    record { answer = answer; least = λ h. subst (LeastFull loads) (sym answer) (least_full_says loads h) }
