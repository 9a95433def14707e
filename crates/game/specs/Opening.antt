-- Opening a match: when it is declined, and the match that it gives.
use Rattle.std.specs.Prelude.{ℕ, Bool, not, List, [], ◌∷◌, length, Ok, Option, Result, ◌==◌, slice_index}
use Rattle.std.specs.Option.{unwrap_or}
use Rattle.certificate.specs.declared.fault.Fault.{Fault}
use Rattle.certificate.specs.Certificates.{Certificate, find_row}
use Rattle.certificate.specs.Rules.{Rule, whole, judge_all, next_after}
use Rattle.positions.specs.Positions.{empty_loads, empty_counts}
use Rattle.plan.specs.Plan.{lacks}
use Rattle.game.specs.declared.matches.Ready.{Ready}
use Rattle.game.specs.Settling.{ready_at}

-- 31: the empty position has no row
abbrev pub start_rule : Certificate → Rule
start_rule c = whole 31 (lacks c (empty_loads c) (empty_counts c))

-- 32: the player's number of bins differs
abbrev pub bins_rule : Certificate → List ℕ → Rule
bins_rule c loads = whole 32 (not (length loads == c.bins))

-- whether bin b carries something
abbrev pub loaded : List ℕ → ℕ → ℕ → Bool
loaded loads b _ = not (slice_index loads b == 0)

-- 33: a bin is not empty (bin)
abbrev pub empty_rule : List ℕ → Rule
empty_rule loads = record { number = 33; rows = length loads; places = 1; broken = loaded loads }

abbrev pub opening_rules : Certificate → List ℕ → List Rule
opening_rules c loads = start_rule c ∷ (bins_rule c loads ∷ (empty_rule loads ∷ []))

-- the row of the empty position
abbrev pub start_row : Certificate → Option ℕ
start_row c = find_row c (empty_loads c) (empty_counts c)

-- the match is ready at the row of the empty position with no settlement accepted, else the first fault
abbrev pub opened : Certificate → List ℕ → Result Ready Fault
opened c loads = next_after (judge_all (opening_rules c loads)) (Ok (ready_at c (unwrap_or (start_row c) 0) 0))
