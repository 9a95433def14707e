-- The laws of a flat table, from what its type keeps.
use Rattle.std.proofs.Common.{sym, ◌∙◌}
use Rattle.std.specs.Prelude.{vec_items}
use Rattle.certificate.specs.Certificates.{row_count, position}
use Rattle.certificate.specs.Lawful.{Lawful}
use Rattle.search.specs.Ascending.{Ascending}
use Rattle.flat.specs.declared.flat_table.FlatTable.{FlatTable}
use Rattle.flat.specs.Tables.{table_meant}
use Rattle.flat.specs.Laws.{flat_lawful, positions_ascend}

pub table_lawful : (t : FlatTable) → Lawful (table_meant t)
table_lawful t =
    let f = t.file in
    flat_lawful (vec_items f.bytes) f.header (record {
      read = f.read;
      long = sym f.bytes.ok.0 ∙ f.long;
      some_bins = f.some_bins;
      some_capacity = f.some_capacity;
      target_range = f.target_range;
      some_classes = f.some_classes;
      some_rows = f.some_rows;
    }) f.small t.sound

pub table_ascends : (t : FlatTable) → Ascending (position (table_meant t)) (row_count (table_meant t))
table_ascends t = positions_ascend (table_meant t) t.sound
