-- What an answer of the check says: acceptance is a winning plan and forces the bound, and a refusal is the least fault.
use Rattle.std.proofs.Common.{◌≡◌, ◌↔◌, ℕ, true, is_ok, IsOk, Ok, Err, Result, sym, refl, ap, ◌∙◌, subst}
use Rattle.std.proofs.lemmas.Bool.{false≢true}
use Rattle.certificate.specs.declared.fault.Fault.{Fault}
use Rattle.certificate.specs.Rules.{judge_all, next_after}
use Rattle.certificate.specs.Certificates.{Certificate, row_count}
use Rattle.certificate.specs.Least.{Judges}
use Rattle.certificate.proofs.Least.{judges, judges_after}
use Rattle.plan.specs.declared.verdict.Verdict.{Verdict}
use Rattle.plan.specs.Plan.{plan_rules, bound, verdict}
use Rattle.plan.specs.Winning.{Winning}
use Rattle.plan.proofs.Plans.{winning_from_rules, rules_from_winning}

accepted_passes : {X : Type 0} (a : Result (Unit {0}) Fault) (x : X) → is_ok (next_after a (Ok x)) ≡ true → a ≡ Ok tt
accepted_passes (Ok u) x e = refl
accepted_passes (Err f) x e = absurd (false≢true e)

module _ (c : Certificate) (r : Result Verdict Fault) (answer : r ≡ verdict c) where
  abbrev own : Verdict
  own = record { rows = row_count c; bound = bound c }

  -- the verdict accepts exactly the winning plans
  pub accepts_winning : IsOk r ↔ Winning c
  accepts_winning = (
    (λ e. winning_from_rules c (accepted_passes (judge_all (plan_rules c)) own (ap is_ok (sym answer) ∙ e))),
    (λ w. ap is_ok (answer ∙ ap (λ a. next_after a (Ok own)) (rules_from_winning c w))),
  )

  -- a refusal is the least fault, and an acceptance breaks no rule
  pub refuses_least : Judges (plan_rules c) r
  refuses_least = subst (λ a. Judges (plan_rules c) a) (sym answer) (judges_after (plan_rules c) (judge_all (plan_rules c)) own (judges 0 (plan_rules c) refl))

-- where the rules pass, the answer is that of these rows and this bound, if they are the certificate's
pub accepts : (c : Certificate) → judge_all (plan_rules c) ≡ Ok tt → (n b : ℕ) → n ≡ row_count c → b ≡ bound c → Ok (record { rows = n; bound = b }) ≡ verdict c
accepts c told n b e f = λ t. next_after (sym told t) (Ok (record { rows = e t; bound = f t }))
