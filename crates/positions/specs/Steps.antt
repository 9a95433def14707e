-- Positions as the code holds them.
use Rattle.std.specs.Prelude.{◌≡◌, ℕ, ◌<◌, List, take, Some, None, Option}
use Rattle.certificate.specs.Certificates.{Certificate, row_count, row, offered}
use Rattle.positions.specs.declared.list.Numbers.{Numbers}
use Rattle.positions.specs.declared.steps.Position.{Position}
use Rattle.positions.specs.Positions.{next_loads, next_counts, offer}

-- the numbers that a short list holds
abbrev pub held : Numbers → List ℕ
held xs = take xs.length xs.items

-- the position that follows row i when its offer goes into bin j; none where there is no such row or bin
abbrev pub Following : Certificate → ℕ → ℕ → Option Position → Type 0
Following c i j None = (i < row_count c) × (j < c.bins) → ⊥
Following c i j (Some p) = (i < row_count c) × (j < c.bins) × (held p.loads ≡ next_loads (row c i).loads j (offer c i)) × (held p.counts ≡ next_counts (row c i).counts (offered c i))
