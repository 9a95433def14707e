-- A sheet whose programme does not name the book is the same with every book.
use Rattle.std.proofs.Common.{◌≡◌, ℕ, zero, suc, ◌+◌, ◌<◌, ◌≤◌, true, false, cond, List, [], ◌++◌, is_ok, Ok, Err, Result, refl, arith}
use Rattle.std.proofs.lemmas.Bool.{both_ways}
use Rattle.certificate.specs.declared.fault.Fault.{Fault}
use Rattle.certificate.specs.Certificates.{Certificate}
use Rattle.certificate.specs.Rules.{first, judged}
use Rattle.certificate.proofs.Firsts.{none_quiet}
use Rattle.certificate.proofs.Judged.{none_from_isSome}
use Rattle.plan.specs.declared.verdict.Verdict.{Verdict}
use Rattle.programme.specs.declared.Entrant.{Entrant}
use Rattle.programme.specs.declared.Entrant.TheVariants.{BestFit, Threshold, Book}
use Rattle.programme.specs.Programmes.{match_count, entrant_of, programme_rule, is_book, book_at, names_book}
use Rattle.match_sheet.specs.Sheet.{match_entered, lines_or_refusal, matches_from, programme_text, sheet_after}
use Rattle.lines.specs.Lines.{accepted_line, match_line}

-- an entrant that is not the book does not ask for it
entered_idle : (c : Certificate) (book other : List ℕ) (e : Result Entrant Fault) → is_book e ≡ false → match_entered c book e ≡ match_entered c other e
entered_idle c book other (Ok BestFit) h = refl
entered_idle c book other (Ok (Threshold n)) h = refl
entered_idle c book other (Ok Book) h = absurd (both_ways true h refl)
entered_idle c book other (Err f) h = refl

module _ (c : Certificate) (programme book other : List ℕ) (idle : names_book programme ≡ false) where
  quiet : (k : ℕ) → k < match_count programme + 1 → book_at programme k ≡ false
  quiet = none_quiet (book_at programme) (match_count programme + 1) (none_from_isSome (first (book_at programme) (match_count programme + 1)) idle)

  matches_idle : (n k : ℕ) → k + n ≤ match_count programme + 1 → matches_from c programme book k n ≡ matches_from c programme other k n
  matches_idle zero k h = refl
  matches_idle (suc n) k h =
      let same = entered_idle c book other (entrant_of programme k) (quiet k (omega arith)) in
      let rest = matches_idle n (k + 1) (omega arith) in
      λ i. (match_line k ++ lines_or_refusal (same i)) ++ cond (is_ok (same i)) (rest i) []

  programme_idle : (j : Result (Unit {0}) Fault) → programme_text j c programme book ≡ programme_text j c programme other
  programme_idle (Ok u) = matches_idle (match_count programme) 1 (omega arith)
  programme_idle (Err f) = refl

  -- the book does not matter
  pub sheet_idle : (v : Result Verdict Fault) → sheet_after v c programme book ≡ sheet_after v c programme other
  sheet_idle (Ok v) = λ i. accepted_line v ++ programme_idle (judged (programme_rule programme)) i
  sheet_idle (Err f) = refl
