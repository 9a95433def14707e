use Rattle.std.proofs.Common.{◌≡◌, true, false, rules, tests}
use Rattle.std.proofs.lemmas.Iterator.{first_from_Range}
use Rattle.certificate.proofs.Firsts.{found_first}
use Rattle.certificate.proofs.rule.first_in_row.Goals as goal

pub returns : goal.returns
returns g c =
    let broken = (g.R.RuleOf.rule c.args.rule.now c.args.subject.now).broken c.args.row in
    found_first broken c.args.places c.find.result (first_from_Range _ _ _ c.find.result (λ k. broken k ≡ true) (λ k. broken k ≡ false) c.find.ensures.ran (λ x q k. search (rules, tests)) (λ x q k. search (rules, tests)))
