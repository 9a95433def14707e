use Rattle.std.proofs.Common.{◌≡◌, ℕ, Ok, Err, sym, refl, ap, ◌∙◌, subst, rules}
use Rattle.std.proofs.lemmas.Result.{err_from_is_err_and}
use Rattle.certificate.specs.Rules.{next_after}
use Rattle.certificate.specs.Certificates.{row_count}
use Rattle.plan.specs.Plan.{bound, verdict}
use Rattle.plan.specs.Winning.{ForcedWithin}
use Rattle.plan.proofs.Verdicts.{accepts, accepts_winning, refuses_least}
use Rattle.plan.proofs.Forces.{winning_forces, winning_forces_within}
use Rattle.plan.proofs.check.check.Goals as goal

pub returns-in_err-plan_holds : goal.returns-in_err-plan_holds
returns-in_err-plan_holds g c =
    let m = g.S.Store.meaning c.args.store.now in
    let fault = c.in_err-plan_holds.field-0.0 in
    let a : Err fault ≡ verdict m = ap (λ x. next_after x (Ok (record { rows = row_count m; bound = bound m }))) c.in_err-plan_holds.ensures in
    let p = err_from_is_err_and c.from_residual.result c.from_residual.ensures.1 in
    rw (p.1, p.2) (record { answer = a; winning = accepts_winning m (Err fault) a; least = refuses_least m (Err fault) a; forces = tt; within = tt })

pub returns-clause-answer : goal.returns-clause-answer
returns-clause-answer g c = accepts (g.S.Store.meaning c.args.store.now) (sym c.plan_holds.ensures ∙ c.in_ok-plan_holds.was) _ _ (search rules) (search rules)

pub returns-clause-winning : goal.returns-clause-winning
returns-clause-winning g c = accepts_winning (g.S.Store.meaning c.args.store.now) _ (returns-clause-answer g c)

pub returns-clause-least : goal.returns-clause-least
returns-clause-least g c = refuses_least (g.S.Store.meaning c.args.store.now) _ (returns-clause-answer g c)

pub returns-clause-forces : goal.returns-clause-forces
returns-clause-forces g c =
    let m = g.S.Store.meaning c.args.store.now in
    winning_forces m (g.met.S.Store.lawful c.args.store.now) ((returns-clause-winning g c).0 refl)

pub returns-clause-within : goal.returns-clause-within
returns-clause-within g c =
    let m = g.S.Store.meaning c.args.store.now in
    subst (λ (x : ℕ). ForcedWithin x m) (sym c.most_items.ensures) (winning_forces_within m (g.met.S.Store.lawful c.args.store.now) ((returns-clause-winning g c).0 refl))
