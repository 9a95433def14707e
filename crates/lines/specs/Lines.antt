-- The lines of a printed sheet, as bytes: words and decimal numbers, a space (32) between them and a newline (10) behind.
use Rattle.std.specs.Prelude.{ℕ, zero, suc, ◌+◌, ◌*◌, ◌/◌, List, [], ◌∷◌, ◌++◌, length, codes, decimal, slice_index}
use Rattle.certificate.specs.declared.fault.Fault.{Fault}
use Rattle.certificate.specs.Faults.{fault_text}
use Rattle.plan.specs.declared.verdict.Verdict.{Verdict}
use Rattle.plan.specs.Plan.{verdict_text}
use Rattle.game.specs.declared.matches.Outcome.{Outcome}
use Rattle.game.specs.Outcomes.{outcome_word}

-- f 0, f 1 and so on up to f (n - 1), one behind the other
abbrev pub upto : (ℕ → List ℕ) → ℕ → List ℕ
upto f zero = []
upto f (suc n) = upto f n ++ f n

-- "accepted", the number of rows and the bound
abbrev pub accepted_line : Verdict → List ℕ
accepted_line v = codes "accepted " ++ (verdict_text v ++ (10 ∷ []))

-- "refused", the number and both places
abbrev pub refused_line : Fault → List ℕ
refused_line f = codes "refused " ++ (fault_text f ++ (10 ∷ []))

-- "match" and its number
abbrev pub match_line : ℕ → List ℕ
match_line n = codes "match " ++ (decimal n ++ (10 ∷ []))

-- the size and the bin of a settlement
abbrev pub entry_text : ℕ → ℕ → List ℕ
entry_text size bin = decimal size ++ (32 ∷ (decimal bin ++ (10 ∷ [])))

-- settlement n of a record
abbrev pub entry_line : List ℕ → ℕ → List ℕ
entry_line bytes n = entry_text (slice_index bytes (2 * n)) (slice_index bytes (2 * n + 1))

-- every settlement of a record, two bytes each
abbrev pub record_lines : List ℕ → List ℕ
record_lines bytes = upto (entry_line bytes) (length bytes / 2)

-- how a match ended, the last placement's bin and its load
abbrev pub end_line : Outcome → ℕ → ℕ → List ℕ
end_line o bin load = outcome_word o ++ (32 ∷ entry_text bin load)

-- a load, with the space before it
abbrev pub load_text : ℕ → List ℕ
load_text load = 32 ∷ decimal load

-- the load of bin b
abbrev pub load_of_bin : List ℕ → ℕ → List ℕ
load_of_bin loads b = load_text (slice_index loads b)

-- "loads" and every load, in bin order
abbrev pub loads_line : List ℕ → List ℕ
loads_line loads = codes "loads" ++ (upto (load_of_bin loads) (length loads) ++ (10 ∷ []))
