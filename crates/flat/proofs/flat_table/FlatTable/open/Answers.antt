use Rattle.std.proofs.Common.{Ok, Err, vec_items, ap, ◌∙◌}
use Rattle.std.proofs.lemmas.Result.{err_from_is_err_and}
use Rattle.files.specs.RowFiles.{meant}
use Rattle.flat.proofs.Opens.{frame_fault, rows_fault, no_fault, told_least}
use Rattle.flat.proofs.flat_table.FlatTable.open.Goals as goal

pub returns-in_err-file : goal.returns-in_err-file
returns-in_err-file c =
    let bytes = vec_items c.args.bytes in
    let refusal = c.in_err-file.field-0.0 in
    let told = c.in_err-file.ensures in
    let a = frame_fault bytes refusal.fault told.answer in
    let p = err_from_is_err_and c.from_residual.result c.from_residual.ensures.1 in
    rw (p.1, p.2) (record { answer = a; least = told_least bytes (Err refusal.fault) a; kept = told.holds })

pub returns-in-Ok : goal.returns-in-Ok
returns-in-Ok c =
    let bytes = vec_items c.args.bytes in
    let file = c.in_ok-file.file in
    let told = c.in_ok-file.ensures in
    let a = no_fault bytes (vec_items file.bytes) (ap vec_items told.holds) told.answer c.in-Ok.ensures in
    record { answer = a; least = told_least bytes (Ok (meant file)) a; kept = tt }

pub returns-in-Err : goal.returns-in-Err
returns-in-Err c =
    let bytes = vec_items c.args.bytes in
    let file = c.in_ok-file.file in
    let told = c.in_ok-file.ensures in
    let a = rows_fault bytes (vec_items file.bytes) (ap vec_items told.holds) told.answer c.in-Err.fault c.in-Err.ensures in
    record { answer = a; least = told_least bytes (Err c.in-Err.fault) a; kept = c.into_bytes.ensures ∙ told.holds }
