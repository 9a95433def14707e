use Rattle.std.proofs.Common.{◌≡◌, length, take, None, sym, ◌∙◌}
use Rattle.certificate.specs.Certificates.{class_count}
use Rattle.certificate.proofs.Finding.{found_says}
use Rattle.flat.specs.Tables.{table_meant}
use Rattle.flat.specs.TablesLemmas.{table_lawful}
use Rattle.flat.proofs.Finds.{other_shape, no_bytes, by_key}
use Rattle.flat.proofs.flat_table.FlatTable.row_at.Goals as goal
use Rattle.flat.proofs.flat_table.FlatTable.row_at.Goals.{then-loads-bins-via-then-loads-bins, then-loads-bins-via-else-loads-bins+then-counts-classes}

pub returns-then-loads-bins : goal.returns-then-loads-bins
returns-then-loads-bins c =
    let table = c.args.self.now in
    let loads = c.args.loads.now in
    let counts = c.args.counts.now in
    let shape : (length loads ≡ (table_meant table).bins) × (length counts ≡ class_count (table_meant table)) → ⊥ = elim c.then-loads-bins.branch [
      | then-loads-bins-via-then-loads-bins w ↦ (λ p. w.if-loads-bins.true (p.0 ∙ sym c.bins.ensures))
      | then-loads-bins-via-else-loads-bins+then-counts-classes w ↦ (λ p. w.if-counts-classes.true (p.1 ∙ sym w.classes.ensures))
    ] in
    let a = other_shape (table_meant table) (table_lawful table) loads counts shape in
    record { answer = a; found = found_says (table_meant table) loads counts None a }

pub returns-in_err-key : goal.returns-in_err-key
returns-in_err-key c =
    let table = c.args.self.now in
    let loads = c.args.loads.now in
    let counts = c.args.counts.now in
    let a = no_bytes (table_meant table) (table_lawful table) loads counts (c.if-loads-bins.false ∙ c.bins.ensures) (c.if-counts-classes.false ∙ c.classes.ensures) c.in_err-key.ensures in
    rw c.from_residual.ensures (record { answer = a; found = found_says (table_meant table) loads counts None a })

pub returns : goal.returns
returns c =
    let table = c.args.self.now in
    let loads = c.args.loads.now in
    let counts = c.args.counts.now in
    let key = c.in_ok-key.key in
    let a = by_key (table_meant table) (table_lawful table) loads counts (c.if-loads-bins.false ∙ c.bins.ensures) (take key.length key.bytes) c.in_ok-key.ensures c.search.result c.search.ensures.answer in
    record { answer = a; found = found_says (table_meant table) loads counts c.search.result a }
