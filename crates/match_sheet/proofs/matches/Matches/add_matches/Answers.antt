use Rattle.std.proofs.Common.{◌≡◌, ◌+◌, ◌++◌, Global, vec_items, string_bytes, Err, rules, subst, arith}
use Rattle.std.proofs.lemmas.Result.{err_from_is_err_and}
use Rattle.programme.specs.Programmes.{match_count}
use Rattle.match_sheet.specs.Sheet.{matches_from, programme_text}
use Rattle.match_sheet.specs.Saying.{Adds}
use Rattle.match_sheet.proofs.Printing.{printed_on, printed_all, printed_last}
use Rattle.match_sheet.proofs.matches.Matches.add_matches.Goals as goal

pub returns-in_err-lines : goal.returns-in_err-lines
returns-in_err-lines g c =
    let m = g.S.Store.meaning c.args.self.now.store.now in
    let p = vec_items c.args.self.now.programme.now.bytes in
    let book = c.args.self.now.book.now in
    let e = err_from_is_err_and c.from_residual-in_err-lines.result c.from_residual-in_err-lines.ensures.1 in
    rw (e.1, e.2) (subst (λ j. Adds (string_bytes c.args.text.now) (string_bytes c.push_str.new.self) (programme_text j m p book) (Err c.in_err-lines.field-0.0)) c.in_ok-check.ensures.answer
    (printed_last m p book c.loop-number.number (match_count p + 1) (omega arith) (string_bytes c.loop-number.text) (string_bytes c.push_str.new.self) (string_bytes c.args.text.now) (matches_from m p book 1 (match_count p))
    c.loop-number.invariant (search rules) (string_bytes {Z = Global}) c.in_err-lines.field-0.0 c.in_err-lines.ensures))

pub loop-number-preserved : goal.loop-number-preserved
loop-number-preserved g c =
    let m = g.S.Store.meaning c.args.self.now.store.now in
    let p = vec_items c.args.self.now.programme.now.bytes in
    let book = c.args.self.now.book.now in
    printed_on m p book c.loop-number.number (match_count p + 1) (omega arith) (string_bytes c.loop-number.text) (string_bytes c.push_str.new.self) (string_bytes c.args.text.now) (matches_from m p book 1 (match_count p))
    c.loop-number.invariant (search rules) (string_bytes c.in_ok-lines.lines) (string_bytes c.push_str-in-loop-number.new.self) c.in_ok-lines.ensures (search rules)

pub returns-in_ok-push_str-2 : goal.returns-in_ok-push_str-2
returns-in_ok-push_str-2 g c =
    let m = g.S.Store.meaning c.args.self.now.store.now in
    let p = vec_items c.args.self.now.programme.now.bytes in
    let book = c.args.self.now.book.now in
    subst (λ j. string_bytes c.push_str-in-loop-number.new.self ≡ string_bytes c.args.text.now ++ programme_text j m p book) c.in_ok-check.ensures.answer
    (printed_all m p book c.loop-number.number (match_count p + 1) (omega arith) (string_bytes c.loop-number.text) (string_bytes c.push_str.new.self) (string_bytes c.args.text.now) (matches_from m p book 1 (match_count p))
    c.loop-number.invariant (search rules) (omega arith) (string_bytes c.in_ok-lines.lines) (string_bytes c.push_str-in-loop-number.new.self) c.in_ok-lines.ensures (search rules))
