use Rattle.std.proofs.Common.{◌≡◌, ℕ, ◌*◌, ◌<◌, ◌≤◌}
use Rattle.certificate.specs.Certificates.{total}
use Rattle.plan.proofs.sums.sum_of.Given as goal

abbrev pub invariant-loop-place : goal.invariant-loop-place
invariant-loop-place g l =
    goal.F-IsAlwaysCallable g l.number
    × (l.sum ≤ l.place * 4294967295)
    × ((f : ℕ → ℕ) → ((k x : ℕ) → k < l.count → goal.F-post g l.number k x → x ≡ f k) → l.sum ≡ total f l.place)
