use Rattle.std.proofs.Common.{◌∙◌, ap, rules}
use Rattle.certificate.specs.Certificates.{row, load_at}
use Rattle.positions.specs.Positions.{gathered}
use Rattle.positions.proofs.Reading.{gathered_row, no_loads}
use Rattle.positions.proofs.steps.read_loads.Goals as goal

pub returns : goal.returns
returns g c =
    let m = g.S.Store.meaning c.args.store.now in
    let i = c.args.row in
    c.gathered.ensures (load_at m i) (λ k r l p. search rules)
    ∙ (ap (gathered (load_at m i)) c.bins.ensures ∙ gathered_row m i m.bins (row m i).loads ((g.met.S.Store.lawful c.args.store.now).all_loads i) (no_loads m i))
