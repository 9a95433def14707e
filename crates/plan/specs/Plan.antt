-- The check: rules 21 to 26 in their order, and the verdict.
use Rattle.std.specs.Prelude.{ℕ, ◌+◌, ◌-◌, ◌*◌, ◌/◌, Bool, cond, not, ◌&&◌, List, [], ◌∷◌, ◌++◌, is_some, Ok, Result, decimal, ◌==◌, nat_lt}
use Rattle.certificate.specs.declared.fault.Fault.{Fault}
use Rattle.certificate.specs.Rules.{Rule, whole, judge_all, next_after}
use Rattle.certificate.specs.Certificates.{Certificate, class_count, row_count, row, size, load, count, offered, packed, find_row, total}
use Rattle.plan.specs.declared.verdict.Verdict.{Verdict}
use Rattle.positions.specs.Positions.{empty_loads, empty_counts, next_loads, next_counts, offer}

-- whether no row has this position
abbrev pub lacks : Certificate → List ℕ → List ℕ → Bool
lacks c loads counts = not (is_some (find_row c loads counts))

-- 21: the empty position has no row
abbrev pub starts_rule : Certificate → Rule
starts_rule c = whole 21 (lacks c (empty_loads c) (empty_counts c))

-- whether the load of bin j is above the one before it
abbrev pub rises : Certificate → ℕ → ℕ → Bool
rises c i j = not (j == 0) && nat_lt (load c i (j - 1)) (load c i j)

-- 22: a load is above the one before it (row, later bin)
abbrev pub descends_rule : Certificate → Rule
descends_rule c = record { number = 22; rows = row_count c; places = c.bins; broken = rises c }

-- the sum of the loads of row i, and the sum of its counts times their sizes
abbrev pub load_sum : Certificate → ℕ → ℕ
load_sum c i = total (load c i) c.bins

abbrev pub placed_volume : Certificate → ℕ → ℕ → ℕ
placed_volume c i k = count c i k * size c k

abbrev pub placed_sum : Certificate → ℕ → ℕ
placed_sum c i = total (placed_volume c i) (class_count c)

abbrev pub unaccounted : Certificate → ℕ → ℕ → Bool
unaccounted c i _ = not (load_sum c i == placed_sum c i)

-- 23: the sum of the loads differs from the sum of counts times sizes (row)
abbrev pub accounts_rule : Certificate → Rule
accounts_rule c = record { number = 23; rows = row_count c; places = 1; broken = unaccounted c }

-- what packing bin j of row i holds
abbrev pub packed_volume : Certificate → ℕ → ℕ → ℕ → ℕ
packed_volume c i j k = packed c i j k * size c k

abbrev pub packed_sum : Certificate → ℕ → ℕ → ℕ
packed_sum c i j = total (packed_volume c i j) (class_count c)

abbrev pub overfull : Certificate → ℕ → ℕ → Bool
overfull c i j = nat_lt c.capacity (packed_sum c i j)

-- 24: a packing bin is above T (row, bin)
abbrev pub packs_rule : Certificate → Rule
packs_rule c = record { number = 24; rows = row_count c; places = c.bins; broken = overfull c }

-- how many items of class k the witness of row i packs, over all packing bins
abbrev pub packed_in : Certificate → ℕ → ℕ → ℕ → ℕ
packed_in c i k j = packed c i j k

abbrev pub packed_total : Certificate → ℕ → ℕ → ℕ
packed_total c i k = total (packed_in c i k) c.bins

-- how many it has to pack: those placed, and the offered one
abbrev pub packed_due : Certificate → ℕ → ℕ → ℕ
packed_due c i k = count c i k + cond (k == offered c i) 1 0

abbrev pub misshared : Certificate → ℕ → ℕ → Bool
misshared c i k = not (packed_total c i k == packed_due c i k)

-- 25: a class's witness counts do not add up to its count, plus 1 for the offered class (row, class)
abbrev pub shares_rule : Certificate → Rule
shares_rule c = record { number = 25; rows = row_count c; places = class_count c; broken = misshared c }

-- whether the offered item keeps bin j below R, and no row has the position that follows
abbrev pub strands : Certificate → ℕ → ℕ → Bool
strands c i j = nat_lt (load c i j + offer c i) c.target && lacks c (next_loads (row c i).loads j (offer c i)) (next_counts (row c i).counts (offered c i))

-- 26: load plus offer is below R and the next position has no row (row, bin)
abbrev pub goes_on_rule : Certificate → Rule
goes_on_rule c = record { number = 26; rows = row_count c; places = c.bins; broken = strands c }

abbrev pub plan_rules : Certificate → List Rule
plan_rules c = starts_rule c ∷ (descends_rule c ∷ (accounts_rule c ∷ (packs_rule c ∷ (shares_rule c ∷ (goes_on_rule c ∷ [])))))

-- no offered size is below this
abbrev pub smallest : Certificate → ℕ
smallest c = size c 0

-- the whole part of m × T / s: no more items than that fit
abbrev pub bound : Certificate → ℕ
bound c = (c.bins * c.capacity) / smallest c

-- the number of rows and the bound of a certificate that breaks no rule, else the least fault
abbrev pub verdict : Certificate → Result Verdict Fault
verdict c = next_after (judge_all (plan_rules c)) (Ok (record { rows = row_count c; bound = bound c }))

-- the rows and the bound in decimal, a space (32) between them
abbrev pub verdict_text : Verdict → List ℕ
verdict_text v = decimal v.rows ++ (32 ∷ decimal v.bound)
