use Rattle.std.proofs.Common.{◌≤◌, get_or, vec_items, sym, ap, ◌∙◌, subst}
use Rattle.layout.specs.Layout.{header_read}
use Rattle.layout.proofs.Frames.{framed_from}
use Rattle.layout.proofs.Meanings.{rows_read}
use Rattle.files.proofs.row_file.RowFile.open.Goals as goal

pub invariant_of-result : goal.invariant_of-result
invariant_of-result c =
    let f = framed_from (vec_items c.args.bytes) c.in-Ok.header (ap header_read (sym c.deref.ensures.value) ∙ (sym c.read_header.ensures.answer ∙ c.in-Ok.is)) in
    record {
      read = f.read;
      counted = rows_read (vec_items c.args.bytes) c.in-Ok.header f.read;
      long = c.args.bytes.ok.0 ∙ f.long;
      some_bins = f.some_bins;
      some_capacity = f.some_capacity;
      target_range = f.target_range;
      some_classes = f.some_classes;
      some_rows = f.some_rows;
      small = λ i. subst (λ xs. get_or xs i 0 ≤ 255) c.deref.ensures.value (c.read_header.ensures.bytes i);
    }
