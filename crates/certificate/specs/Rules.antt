-- Rules that are tried in order, and the first place that breaks one.
use Rattle.std.specs.Prelude.{ℕ, zero, suc, Bool, cond, List, [], ◌∷◌, is_some, Some, None, Ok, Err, Option, Result}
use Rattle.std.specs.Option.{unwrap_or}
use Rattle.certificate.specs.declared.fault.Fault.{Fault}
use Rattle.certificate.specs.Faults.{fault}

-- a rule: its number, how many rows it is tried on, how many places of each row, and which of them break it
pub record Rule : Type 0 where
  pub number : ℕ
  pub rows : ℕ
  pub places : ℕ
  pub broken : ℕ → ℕ → Bool

-- a rule of the whole input, with no place to name
abbrev pub whole : ℕ → Bool → Rule
whole n b = record { number = n; rows = 1; places = 1; broken = λ _ _. b }

-- what was found before, else the number here if it passes
abbrev pub or_here : Option ℕ → Bool → ℕ → Option ℕ
or_here (Some k) here n = Some k
or_here None here n = cond here (Some n) None

-- the least number below n that passes the test
abbrev pub first : (ℕ → Bool) → ℕ → Option ℕ
first test zero = None
first test (suc n) = or_here (first test n) (test n) n

-- the first broken place of row i
abbrev pub in_row : Rule → ℕ → Option ℕ
in_row r i = first (r.broken i) r.places

-- whether row i has a broken place
abbrev pub row_broken : Rule → ℕ → Bool
row_broken r i = is_some (in_row r i)

-- nothing where no row is broken, else the fault that names the row and its first broken place
abbrev pub reported : Rule → Option ℕ → Result (Unit {0}) Fault
reported r None = Ok tt
reported r (Some i) = Err (fault r.number i (unwrap_or (in_row r i) 0))

-- the fault at the first broken row and its first broken place
abbrev pub judged : Rule → Result (Unit {0}) Fault
judged r = reported r (first (row_broken r) r.rows)

-- a fault stands; else what comes next decides
abbrev pub next_after : {X : Type 0} → Result (Unit {0}) Fault → Result X Fault → Result X Fault
next_after (Ok u) after = after
next_after (Err f) after = Err f

-- the fault of the first rule that is broken
abbrev pub judge_all : List Rule → Result (Unit {0}) Fault
judge_all [] = Ok tt
judge_all (r ∷ rs) = next_after (judged r) (judge_all rs)
