use Rattle.std.proofs.Common.{◌≡◌, ◌<◌, false, is_some, Err, sym, ap, ◌∙◌, subst, arith, below_more}
use Rattle.certificate.specs.declared.rule.Scope.{Scope}
use Rattle.certificate.specs.Faults.{fault}
use Rattle.certificate.specs.Rules.{first, row_broken}
use Rattle.certificate.proofs.Rules.{judged_fault, judged_passes}
use Rattle.certificate.proofs.rule.judge.Goals as goal

pub returns-in-Some : goal.returns-in-Some
returns-in-Some g c =
    let rule = g.R.RuleOf.rule c.args.rule.now c.args.subject.now in
    let row = c.loop-row.row in
    let scope = c.scope-scope.ensures in
    let inside : row < rule.rows = subst (λ (s : Scope). row < s.rows) scope c.loop-row-test.true in
    ap (λ (s : Scope). Err (fault s.number row c.in-Some.place)) scope
    ∙ sym (judged_fault rule row c.in-Some.place inside (sym (c.in-Some.ensures ∙ ap (λ (s : Scope). first (rule.broken row) s.places) scope)) c.loop-row.invariant)

pub loop-row-preserved : goal.loop-row-preserved
loop-row-preserved g c =
    let rule = g.R.RuleOf.rule c.args.rule.now c.args.subject.now in
    let row = c.loop-row.row in
    let none = ap is_some (sym (c.in_default.ensures ∙ ap (λ (s : Scope). first (rule.broken row) s.places) c.scope-scope.ensures)) in
    below_more (λ k. row_broken rule k ≡ false) row c.loop-row.invariant none

pub returns : goal.returns
returns g c =
    let rule = g.R.RuleOf.rule c.args.rule.now c.args.subject.now in
    sym (judged_passes rule (λ k h. c.loop-row.invariant k (omega (arith, ap (λ (s : Scope). s.rows) c.scope-scope.ensures))))
