use Rattle.std.proofs.Common.{◌∙◌, ap, rules}
use Rattle.certificate.specs.Certificates.{class_count, row, count_at}
use Rattle.positions.specs.Positions.{gathered}
use Rattle.positions.proofs.Reading.{gathered_row, no_counts}
use Rattle.positions.proofs.steps.read_counts.Goals as goal

pub returns : goal.returns
returns g c =
    let m = g.S.Store.meaning c.args.store.now in
    let i = c.args.row in
    c.gathered.ensures (count_at m i) (λ k r l p. search rules)
    ∙ (ap (gathered (count_at m i)) c.classes.ensures ∙ gathered_row m i (class_count m) (row m i).counts ((g.met.S.Store.lawful c.args.store.now).all_counts i) (no_counts m i))
