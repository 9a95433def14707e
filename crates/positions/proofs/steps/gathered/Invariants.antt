use Rattle.std.proofs.Common.{◌≡◌, ℕ, ◌<◌, ◌≤◌, length, Option}
use Rattle.positions.specs.Positions.{gathered}
use Rattle.positions.proofs.steps.gathered.Given as goal

abbrev pub invariant-loop-place : goal.invariant-loop-place
invariant-loop-place g l =
    goal.F-IsAlwaysCallable g l.number
    × (length l.numbers.items ≤ l.place)
    × ((f : ℕ → Option ℕ) → ((k : ℕ) (r : Option ℕ) → k < l.count → goal.F-post g l.number k r → r ≡ f k) → l.numbers.items ≡ gathered f l.place)
