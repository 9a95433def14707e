use Rattle.std.proofs.Common.{[], ◌∷◌, vec_items, Result, sym, refl, ◌∙◌, subst}
use Rattle.certificate.specs.declared.fault.Fault.{Fault}
use Rattle.certificate.specs.Least.{Judges}
use Rattle.certificate.proofs.Least.{judges}
use Rattle.certificate.proofs.Rules.{judge_one}
use Rattle.programme.specs.Programmes.{programme_rule}
use Rattle.programme.proofs.Programme.check.Goals as goal

pub returns-clause-least : goal.returns-clause-least
returns-clause-least c =
    let rule = programme_rule (vec_items c.args.self.now.bytes) in
    subst (λ (r : Result (Unit {0}) Fault). Judges (rule ∷ []) r) (judge_one rule ∙ sym c.judge.ensures) (judges 0 (rule ∷ []) refl)
