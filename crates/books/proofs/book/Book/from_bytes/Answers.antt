use Rattle.std.proofs.Common.{Err, vec_items, sym, rules}
use Rattle.books.proofs.Rows.{book_least, rows_rising, rows_known}
use Rattle.books.proofs.book.Book.from_bytes.Goals as goal

pub returns-in-Err-check-clause-least : goal.returns-in-Err-check-clause-least
returns-in-Err-check-clause-least c = book_least (vec_items c.args.bytes) (Err c.in-Err-check.fault) (search rules)

pub invariant_of-from_bins : goal.invariant_of-from_bins
invariant_of-from_bins c =
    let passed = sym c.in_default.ensures in
    record { rising = rows_rising (vec_items c.args.bytes) passed; known = rows_known (vec_items c.args.bytes) passed }
