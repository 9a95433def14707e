-- A winning plan: what the rows of an accepted certificate do for the side that offers.
use Rattle.std.specs.Prelude.{◌≡◌, ℕ, ◌+◌, ◌<◌, ◌≤◌, List}
use Rattle.plan.specs.Bound.{Forces, ForcesWithin}
use Rattle.certificate.specs.Certificates.{Certificate, class_count, row_count, row, load, offered, Stands}
use Rattle.positions.specs.Positions.{empty_loads, empty_counts, next_loads, next_counts, offer}
use Rattle.plan.specs.Plan.{load_sum, placed_sum, packed_sum, packed_total, packed_due}

-- some row has this position
abbrev pub Covers : Certificate → List ℕ → List ℕ → Type 0
Covers c loads counts = (i : ℕ) × Stands c loads counts i

pub record Winning (c : Certificate) : Type 0 where
  -- the empty position has a row
  pub starts : Covers c (empty_loads c) (empty_counts c)
  -- no load is above the one before it
  pub descends : (i j : ℕ) → i < row_count c → j + 1 < c.bins → load c i (j + 1) ≤ load c i j
  -- the loads add up to what was placed
  pub accounts : (i : ℕ) → i < row_count c → load_sum c i ≡ placed_sum c i
  -- no packing bin holds more than T
  pub packs : (i j : ℕ) → i < row_count c → j < c.bins → packed_sum c i j ≤ c.capacity
  -- the packing bins hold what was placed and the offered item, and nothing else
  pub shares : (i k : ℕ) → i < row_count c → k < class_count c → packed_total c i k ≡ packed_due c i k
  -- wherever the offered item keeps a bin below R, the position that follows has a row
  pub goes_on : (i j : ℕ) → i < row_count c → j < c.bins → load c i j + offer c i < c.target → Covers c (next_loads (row c i).loads j (offer c i)) (next_counts (row c i).counts (offered c i))

-- the bound of a certificate is true: no algorithm keeps its m bins of capacity T below R
abbrev pub Forced : Certificate → Type 0
Forced c = Forces c.bins c.capacity c.target

-- and at most n items show it
abbrev pub ForcedWithin : ℕ → Certificate → Type 0
ForcedWithin n c = ForcesWithin n c.bins c.capacity c.target
