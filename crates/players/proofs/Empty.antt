-- Empty bins: their loads are all 0.
use Rattle.std.proofs.Common.{◌≡◌, ℕ, ◌≤◌, length, take, replicate, sum, arith}
use Rattle.std.proofs.lemmas.List.{length-take-le, take-replicate}
use Rattle.certificate.specs.Lawful.{most_bins}
use Rattle.players.specs.Placing.{most_total}
use Rattle.std.proofs.lemmas.List.Sums.{sum_by-take-le}

-- the first m of eight empty slots
pub empty_loads : (m : ℕ) → m ≤ most_bins → take {A = ℕ} m (replicate most_bins 0) ≡ replicate {A = ℕ} m 0
empty_loads m h = take-replicate {X = ℕ} m most_bins 0 h

-- there are m of them
pub empty_slots : (m : ℕ) → m ≤ most_bins → length (take {A = ℕ} m (replicate most_bins 0)) ≡ m
empty_slots m h = length-take-le m (replicate most_bins 0) h

-- they hold nothing
pub empty_light : (m : ℕ) → sum (take {A = ℕ} m (replicate most_bins 0)) ≤ most_total
empty_light m = omega (arith, sum_by-take-le (λ x. x) (replicate {A = ℕ} most_bins 0) m)
