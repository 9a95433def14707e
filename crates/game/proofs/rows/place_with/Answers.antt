use Rattle.std.proofs.Common.{◌≡◌, true, false, rules, tests}
use Rattle.std.proofs.lemmas.Iterator.{first_from_Range}
use Rattle.game.specs.Settling.{bears}
use Rattle.certificate.proofs.Firsts.{found_first}
use Rattle.game.proofs.rows.place_with.Goals as goal

pub returns-clause-answer : goal.returns-clause-answer
returns-clause-answer g c =
    let bears_it = bears (g.S.Store.meaning c.args.store.now) c.args.row c.args.load in
    let found = first_from_Range _ _ _ c.find.result (λ k. bears_it k ≡ true) (λ k. bears_it k ≡ false) c.find.ensures.ran (λ x q k. search (rules, tests)) (λ x q k. search (rules, tests)) in
    rw (← c.bins.ensures) (found_first bears_it c.bins.result c.find.result found)
