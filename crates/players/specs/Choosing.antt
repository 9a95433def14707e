-- Which bin a player chooses, as definitions that compute it. Ties go to the lowest bin.
use Rattle.std.specs.Prelude.{ℕ, zero, suc, ◌+◌, Bool, true, cond, ◌&&◌, List, length, Some, None, Option, nat_le, nat_lt, slice_index}
use Rattle.certificate.specs.Rules.{first}

-- ---- the least full bin

-- the less full of two bins, the first one on a tie
abbrev pub less_full : List ℕ → ℕ → ℕ → ℕ
less_full loads a b = cond (nat_lt (slice_index loads b) (slice_index loads a)) b a

-- the least full of the first n bins
abbrev pub least_of : List ℕ → ℕ → ℕ
least_of loads zero = 0
least_of loads (suc n) = less_full loads (least_of loads n) n

-- the least full bin
abbrev pub least_full : List ℕ → ℕ
least_full loads = least_of loads (length loads)

-- the bin that is preferred, if there is such a bin, else the least full bin
abbrev pub or_least_full : Option ℕ → List ℕ → ℕ
or_least_full None loads = least_full loads
or_least_full (Some b) loads = cond (nat_lt b (length loads)) b (least_full loads)

-- the bin of a rule: the one that it prefers at these loads for this size, if there is such a bin, else the least full one
abbrev pub preferring : (List ℕ → ℕ → Option ℕ) → List ℕ → ℕ → ℕ
preferring prefers loads size = or_least_full (prefers loads size) loads

-- ---- best fit

-- whether bin b would stay below r with an item of this size
abbrev pub below : ℕ → List ℕ → ℕ → ℕ → Bool
below r loads size b = nat_lt (slice_index loads b + size) r

-- whether bin b is fuller than the best so far
abbrev pub fuller : List ℕ → Option ℕ → ℕ → Bool
fuller loads None b = true
fuller loads (Some best) b = nat_lt (slice_index loads best) (slice_index loads b)

-- the fullest of the first n bins that would stay below r
abbrev pub fullest_of : ℕ → List ℕ → ℕ → ℕ → Option ℕ
fullest_of r loads size zero = None
fullest_of r loads size (suc n) = cond (below r loads size n && fuller loads (fullest_of r loads size n) n) (Some n) (fullest_of r loads size n)

-- the fullest bin that would stay below r
abbrev pub fullest_below : ℕ → List ℕ → ℕ → Option ℕ
fullest_below r loads size = fullest_of r loads size (length loads)

-- best fit: the fullest bin that would stay below r, else the least full bin
abbrev pub best_fit : ℕ → List ℕ → ℕ → ℕ
best_fit r = preferring (fullest_below r)

-- ---- threshold

-- whether bin b would stay within a limit with an item of this size
abbrev pub within : ℕ → List ℕ → ℕ → ℕ → Bool
within limit loads size b = nat_le (slice_index loads b + size) limit

-- the lowest bin that would stay within the limit
abbrev pub lowest_within : ℕ → List ℕ → ℕ → Option ℕ
lowest_within limit loads size = first (within limit loads size) (length loads)

-- threshold: the lowest bin that would stay within the limit, else the least full bin
abbrev pub threshold : ℕ → List ℕ → ℕ → ℕ
threshold limit = preferring (lowest_within limit)
