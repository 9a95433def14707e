use Rattle.std.proofs.Common.{Some, None, vec_items, sym, arith, rules}
use Rattle.certificate.proofs.Firsts.{some_least}
use Rattle.search.specs.Ascending.{has_key}
use Rattle.books.specs.Books.{book_rows, situation_of}
use Rattle.players.specs.Held.{held}
use Rattle.books.proofs.Rows.{fits_book}
use Rattle.books.proofs.book.AdvicePlacingRule.preferred.Goals as goal

pub returns-in_err-row-clause-fits : goal.returns-in_err-row-clause-fits
returns-in_err-row-clause-fits c =
    let book = c.args.self.now in
    let bins = c.args.bins.now in
    rw c.from_residual.ensures (fits_book (vec_items book.pages.bytes) (held bins) c.args.size book.known book.pages.whole (omega (arith, bins.sized.0)) book.pages.octets None (search rules))

pub advised-requires : goal.advised-requires
advised-requires c =
    let bytes = vec_items c.args.self.now.pages.bytes in
    (some_least (has_key (situation_of bytes) _) (book_rows bytes) c.in_ok-row.row (sym c.in_ok-row.ensures.answer)).0

pub returns-clause-fits : goal.returns-clause-fits
returns-clause-fits c =
    let book = c.args.self.now in
    let bins = c.args.bins.now in
    rw c.advised.ensures (fits_book (vec_items book.pages.bytes) (held bins) c.args.size book.known book.pages.whole (omega (arith, bins.sized.0)) book.pages.octets (Some c.in_ok-row.row) (search rules))
