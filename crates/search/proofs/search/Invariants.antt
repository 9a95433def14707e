use Rattle.std.proofs.Common.{◌≡◌, ℕ, ◌-◌, ◌<◌, ◌≤◌}
use Rattle.search.proofs.search.Given as goal

-- no row below `low`, and none from `high` on, has the key
abbrev pub invariant-loop-low : goal.invariant-loop-low
invariant-loop-low g l =
    let t = g.T.OrderedRows in
    (l.high ≤ t.rows l.table)
    × ((i : ℕ) → i < l.low → t.key l.table i ≡ t.spelled l.sought → ⊥)
    × ((i : ℕ) → l.high ≤ i → i < t.rows l.table → t.key l.table i ≡ t.spelled l.sought → ⊥)

abbrev pub decreases-loop-low : goal.decreases-loop-low
decreases-loop-low g l = l.high - l.low
