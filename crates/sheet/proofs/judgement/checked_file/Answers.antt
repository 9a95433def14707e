use Rattle.std.proofs.Common.{vec_items, sym, ap, ◌∙◌, subst}
use Rattle.certificate.specs.Certificates.{Certificate}
use Rattle.files.proofs.Opening.{opened_means}
use Rattle.flat.specs.Flat.{flat_rules}
use Rattle.flat.specs.Tables.{table_meant}
use Rattle.plan.specs.Bound.{Forces, ForcesWithin}
use Rattle.sheet.specs.Sheet.{checked}
use Rattle.sheet.proofs.judgement.checked_file.Goals as goal

pub returns : goal.returns
returns c =
    let file = vec_items c.args.file in
    let table = table_meant c.in_ok-table.table in
    let opening = c.in_ok-table.ensures.answer in
    let means = opened_means (flat_rules file) file table opening in
    record {
      answer = (sym (c.in_ok-verdict.ensures.answer ∙ ap checked opening), means);
      forces = subst (λ (m : Certificate). Forces m.bins m.capacity m.target) means c.in_ok-verdict.ensures.forces;
      within = subst (λ (m : Certificate). ForcesWithin c.in_ok-verdict.verdict.bound m.bins m.capacity m.target) means c.in_ok-verdict.ensures.within;
    }
