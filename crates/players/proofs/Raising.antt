-- Raising one bin: what it does to the loads and to their sum.
use Rattle.std.proofs.Common.{◌≡◌, ℕ, ◌+◌, ◌<◌, min, List, length, get_or, take, set, sum, sym, ap, ◌∙◌, arith}
use lib.Seq.{take-set-lt}
use Rattle.std.proofs.lemmas.List.{length-take, length-set, get_or-take}
use Rattle.std.proofs.lemmas.List.Sums.{sum_by-set}
use Rattle.players.specs.Placing.{raised}

-- raising a bin's slot raises that bin's load
pub raised_slot : (n : ℕ) (slots : List ℕ) (b size : ℕ) → b < n → take n (set slots b (get_or slots b 0 + size)) ≡ raised (take n slots) b size
raised_slot n slots b size h =
    take-set-lt n slots b (get_or slots b 0 + size) h ∙ ap (λ x. set (take n slots) b (x + size)) (sym (get_or-take n slots b 0 h))

-- it leaves the number of bins
pub raised_slots : (n : ℕ) (slots : List ℕ) (b v : ℕ) → length (take n slots) ≡ n → length (take n (set slots b v)) ≡ n
raised_slots n slots b v e = length-take n (set slots b v) ∙ (ap (min n) (length-set slots b v) ∙ (sym (length-take n slots) ∙ e))

-- the sum of the loads rises by the size
pub sum_raised : (loads : List ℕ) (b size : ℕ) → b < length loads → sum (raised loads b size) ≡ sum loads + size
sum_raised loads b size h = omega (arith, sum_by-set (λ x. x) loads b (get_or loads b 0 + size) 0 h)
