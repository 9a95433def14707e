use Rattle.std.proofs.Common.{◌≡◌, vec_items, string_bytes, Err, sym, ap, ◌∙◌}
use Rattle.std.proofs.lemmas.Result.{err_from_is_err_and}
use Rattle.certificate.specs.Rules.{next_after}
use Rattle.players.specs.Placing.{bins_judged, by_choice}
use Rattle.players.specs.Choosing.{best_fit, threshold}
use Rattle.players.specs.Held.{held}
use Rattle.books.specs.Books.{book_bins, book_judged, book_choice}
use Rattle.programme.specs.declared.Entrant.TheVariants.{BestFit, Threshold, Book}
use Rattle.match_sheet.specs.Sheet.{match_by, match_of}
use Rattle.match_sheet.proofs.Entering.{made_says, entrant_says}
use Rattle.match_sheet.proofs.matches.Matches.entered_match.Goals as goal

pub returns-in_ok-new-in-BestFit : goal.returns-in_ok-new-in-BestFit
returns-in_ok-new-in-BestFit g c =
    let m = g.S.Store.meaning c.args.self.now.store.now in
    let r = c.played_match.result in
    let made = c.in_ok-new-in-BestFit.ensures in
    let says = c.played_match.ensures (best_fit m.target) (ap (λ t. by_choice (best_fit t)) (made.target ∙ c.target.ensures)) in
    entrant_says string_bytes m r c.args.self.now.book.now c.args.entrant BestFit c.in-BestFit.is
    (made_says string_bytes m r bins_judged (λ n. n) (λ _. best_fit m.target) c.bins.result m.bins c.bins.ensures made.empty.0 (held c.in_ok-new-in-BestFit.field-0.bins) made.empty.1 says)

pub returns-in_ok-new-in-Threshold : goal.returns-in_ok-new-in-Threshold
returns-in_ok-new-in-Threshold g c =
    let m = g.S.Store.meaning c.args.self.now.store.now in
    let limit = c.in-Threshold.limit in
    let r = c.played_match-in-Threshold.result in
    let made = c.in_ok-new-in-Threshold.ensures in
    let says = c.played_match-in-Threshold.ensures (threshold limit) (ap (λ t. by_choice (threshold t)) made.limit) in
    entrant_says string_bytes m r c.args.self.now.book.now c.args.entrant (Threshold limit) c.in-Threshold.is
    (made_says string_bytes m r bins_judged (λ n. n) (λ _. threshold limit) c.bins-in-Threshold.result m.bins c.bins-in-Threshold.ensures made.empty.0 (held c.in_ok-new-in-Threshold.field-0.bins) made.empty.1 says)

pub returns-in_ok-from_bytes-in-Book : goal.returns-in_ok-from_bytes-in-Book
returns-in_ok-from_bytes-in-Book g c =
    let m = g.S.Store.meaning c.args.self.now.store.now in
    let book = c.args.self.now.book.now in
    let r = c.played_match-in-Book.result in
    let copied = c.in_ok-to_vec-in-Book.ensures.items_if_clones_equal (λ x y h. h) in
    let made = c.in_ok-from_bytes-in-Book.ensures in
    let says = c.played_match-in-Book.ensures (book_choice book) (ap (λ b. by_choice (book_choice b)) (ap vec_items made.bytes ∙ copied)) in
    entrant_says string_bytes m r book c.args.entrant Book c.in-Book.is
    (made_says string_bytes m r book_judged book_bins book_choice (vec_items c.in_ok-to_vec-in-Book.field-0) book copied (sym made.judged) (held c.in_ok-from_bytes-in-Book.field-0.player.bins) made.empty says)

pub returns-in_err-from_bytes-in-Book : goal.returns-in_err-from_bytes-in-Book
returns-in_err-from_bytes-in-Book g c =
    let m = g.S.Store.meaning c.args.self.now.store.now in
    let book = c.args.self.now.book.now in
    let fault = c.in_err-from_bytes-in-Book.field-0.0.fault in
    let copied = c.in_ok-to_vec-in-Book.ensures.items_if_clones_equal (λ x y h. h) in
    let judged : Err fault ≡ book_judged book = c.in_err-from_bytes-in-Book.ensures.judged ∙ ap book_judged copied in
    let p = err_from_is_err_and c.from_residual-in_err-from_bytes-in-Book.result c.from_residual-in_err-from_bytes-in-Book.ensures.1 in
    rw (p.1, p.2) (ap (match_of m book) c.in-Book.is ∙ ap (λ a. next_after a (match_by m (book_choice book) (book_bins book))) (sym judged))
