-- A programme as bytes: P, then P kinds, then P numbers. Matches count from 1, so that match k has its kind at byte k.
use Rattle.std.specs.Prelude.{◌≡◌, ℕ, ◌+◌, ◌*◌, Bool, true, false, cond, not, ◌||◌, List, length, is_some, is_err, Ok, Err, Result, MatchResult, ◌==◌, nat_lt, slice_index}
use Rattle.certificate.specs.declared.fault.Fault.{Fault}
use Rattle.certificate.specs.declared.reason.Reason.{Reason}
use Rattle.certificate.specs.Faults.{fault, number_of}
use Rattle.certificate.specs.Rules.{Rule, first}
use Rattle.programme.specs.declared.Entrant.{Entrant}
use Rattle.programme.specs.declared.Entrant.TheVariants.{BestFit, Threshold, Book}

-- P, the number of matches
abbrev pub match_count : List ℕ → ℕ
match_count bytes = slice_index bytes 0

-- the entrant of a kind: 1 is best fit, 2 threshold with the number as its limit, 3 the book; 40 for any other, with the match
abbrev pub entrant_by : ℕ → ℕ → ℕ → Result Entrant Fault
entrant_by kind limit k = cond (kind == 1) (Ok BestFit) (cond (kind == 2) (Ok (Threshold limit)) (cond (kind == 3) (Ok Book) (Err (fault 40 k 0))))

-- what a kind with its number gives every match: the entrant, or the fault of this reason
abbrev pub Decodes : (ℕ × ℕ) → Result Entrant Reason → Type 0
Decodes (kind, limit) given = MatchResult given (λ e. (k : ℕ) → entrant_by kind limit k ≡ Ok e) (λ r. (k : ℕ) → entrant_by kind limit k ≡ Err (fault (number_of r) k 0))

-- who plays match k; 40 where there is no such match
abbrev pub entrant_of : List ℕ → ℕ → Result Entrant Fault
entrant_of bytes k = cond (k == 0 || nat_lt (match_count bytes) k) (Err (fault 40 k 0)) (entrant_by (slice_index bytes k) (slice_index bytes (match_count bytes + k)) k)

-- whether match k is of an unknown kind; the length counts as match 0
abbrev pub wrong_at : List ℕ → ℕ → ℕ → Bool
wrong_at bytes k _ = cond (k == 0) (not (length bytes == 1 + 2 * match_count bytes)) (is_err (entrant_of bytes k))

-- 40: the length is not 1 + 2 × P (0), or with that length a kind is not 1, 2 or 3 (match, from 1)
abbrev pub programme_rule : List ℕ → Rule
programme_rule bytes = record { number = 40; rows = match_count bytes + 1; places = 1; broken = wrong_at bytes }

-- whether an entrant is the book
abbrev pub is_book : Result Entrant Fault → Bool
is_book (Ok BestFit) = false
is_book (Ok (Threshold n)) = false
is_book (Ok Book) = true
is_book (Err f) = false

abbrev pub book_at : List ℕ → ℕ → Bool
book_at bytes k = is_book (entrant_of bytes k)

-- whether the book plays some match
abbrev pub names_book : List ℕ → Bool
names_book bytes = is_some (first (book_at bytes) (match_count bytes + 1))
