use Rattle.std.proofs.Common.{◌≡◌, ℕ, ◌<◌, false}
use Rattle.certificate.specs.Rules.{row_broken}
use Rattle.certificate.proofs.rule.judge.Given as goal

abbrev pub invariant-loop-row : goal.invariant-loop-row
invariant-loop-row g l = (k : ℕ) → k < l.row → row_broken (g.R.RuleOf.rule l.rule l.subject) k ≡ false
