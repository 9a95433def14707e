-- The printed sheet, as a function of the bytes of a certificate, a programme and a book.
use Rattle.std.specs.Prelude.{ℕ, zero, suc, ◌+◌, ◌*◌, cond, List, [], ◌++◌, take, replicate, is_ok, Ok, Err, Result}
use Rattle.certificate.specs.declared.fault.Fault.{Fault}
use Rattle.certificate.specs.Certificates.{Certificate}
use Rattle.certificate.specs.Lawful.{most_bins, most_capacity}
use Rattle.certificate.specs.Rules.{judged, next_after}
use Rattle.layout.specs.Layout.{certificate_of}
use Rattle.plan.specs.declared.verdict.Verdict.{Verdict}
use Rattle.sheet.specs.Sheet.{judgement}
use Rattle.players.specs.Placing.{bins_judged}
use Rattle.players.specs.Choosing.{best_fit, threshold}
use Rattle.books.specs.Books.{book_bins, book_judged, book_choice}
use Rattle.game.specs.declared.matches.Ended.{Ended}
use Rattle.play.specs.Playing.{Played, played}
use Rattle.lines.specs.Lines.{accepted_line, refused_line, match_line, record_lines, end_line, loads_line}
use Rattle.programme.specs.declared.Entrant.{Entrant}
use Rattle.programme.specs.declared.Entrant.TheVariants.{BestFit, Threshold, Book}
use Rattle.programme.specs.Programmes.{match_count, entrant_of, programme_rule}

-- ---- one match

-- a record that has room for every match of every table: two bytes for each of at most m × T items
abbrev pub blank_record : List ℕ
blank_record = replicate (2 * (most_bins * most_capacity)) 0

-- the lines of a match that has ended: each settlement, how it ended, and the loads
abbrev pub lines_of : Ended → List ℕ → List ℕ → List ℕ
lines_of e loads bytes = record_lines (take (2 * e.count) bytes) ++ (end_line e.outcome e.bin e.load ++ loads_line loads)

-- the lines of a match that was played, or the fault that stopped it
abbrev pub played_lines : Result Ended Fault → List ℕ → List ℕ → Result (List ℕ) Fault
played_lines (Ok e) loads bytes = Ok (lines_of e loads bytes)
played_lines (Err f) loads bytes = Err f

-- the lines of what was played, or its fault
abbrev pub lines_played : Played → Result (List ℕ) Fault
lines_played p = played_lines p.answer p.loads p.bytes

-- the lines of a match that a choice plays from loads of 0
abbrev pub match_by : Certificate → (List ℕ → ℕ → ℕ) → ℕ → Result (List ℕ) Fault
match_by c choose bins = lines_played (played c choose (replicate bins 0) blank_record)

-- the lines of the match of an entrant, once its player is made: best fit goes by the certificate's R, and the book's
-- player has the bins of the book
abbrev pub match_of : Certificate → List ℕ → Entrant → Result (List ℕ) Fault
match_of c book BestFit = next_after (bins_judged c.bins) (match_by c (best_fit c.target) c.bins)
match_of c book (Threshold limit) = next_after (bins_judged c.bins) (match_by c (threshold limit) c.bins)
match_of c book Book = next_after (book_judged book) (match_by c (book_choice book) (book_bins book))

-- the lines of the match that is entered at a place of the programme
abbrev pub match_entered : Certificate → List ℕ → Result Entrant Fault → Result (List ℕ) Fault
match_entered c book (Ok e) = match_of c book e
match_entered c book (Err f) = Err f

-- the lines of match k, or what refuses it
abbrev pub match_result : Certificate → List ℕ → List ℕ → ℕ → Result (List ℕ) Fault
match_result c programme book k = match_entered c book (entrant_of programme k)

-- ---- the sheet

-- the lines, or the line of the fault
abbrev pub lines_or_refusal : Result (List ℕ) Fault → List ℕ
lines_or_refusal (Ok lines) = lines
lines_or_refusal (Err f) = refused_line f

-- what match k prints
abbrev pub match_text : Certificate → List ℕ → List ℕ → ℕ → List ℕ
match_text c programme book k = match_line k ++ lines_or_refusal (match_result c programme book k)

-- n matches from match k on; a fault ends the sheet
abbrev pub matches_from : Certificate → List ℕ → List ℕ → ℕ → ℕ → List ℕ
matches_from c programme book k zero = []
matches_from c programme book k (suc n) = match_text c programme book k ++ cond (is_ok (match_result c programme book k)) (matches_from c programme book (k + 1) n) []

-- the programme is judged whole before its first match
abbrev pub programme_text : Result (Unit {0}) Fault → Certificate → List ℕ → List ℕ → List ℕ
programme_text (Ok u) c programme book = matches_from c programme book 1 (match_count programme)
programme_text (Err f) c programme book = refused_line f

-- what is printed behind the line of an accepted certificate
abbrev pub text_behind : Certificate → List ℕ → List ℕ → List ℕ
text_behind c programme book = programme_text (judged (programme_rule programme)) c programme book

-- what is printed behind the judgement of a certificate
abbrev pub sheet_after : Result Verdict Fault → Certificate → List ℕ → List ℕ → List ℕ
sheet_after (Ok v) c programme book = accepted_line v ++ text_behind c programme book
sheet_after (Err f) c programme book = refused_line f

-- the bytes that are printed for these three files
abbrev pub sheet : List ℕ → List ℕ → List ℕ → List ℕ
sheet file programme book = sheet_after (judgement file) (certificate_of file) programme book
