-- How an item is placed: the limits, when placing is declined, and what it does to the loads.
use Rattle.std.specs.Prelude.{◌≡◌, ℕ, ◌+◌, ◌<◌, Bool, true, ◌||◌, List, [], ◌∷◌, length, replicate, IfOk, Ok, Err, sum, Option, Result, ◌==◌, nat_lt, slice_index, slice_set}
use Rattle.certificate.specs.declared.fault.Fault.{Fault}
use Rattle.certificate.specs.Certificates.{given}
use Rattle.certificate.specs.Lawful.{most_bins}
use Rattle.certificate.specs.Rules.{Rule, whole, judged, judge_all, next_after}

-- ---- the limits of a player

-- the fewest bins; the most are those of a certificate
abbrev pub least_bins : ℕ
least_bins = 2

-- the largest size that is placed
abbrev pub most_size : ℕ
most_size = 127

-- the most that all loads together may come to
abbrev pub most_total : ℕ
most_total = 4095

-- ---- when a player is not made, and when placing is declined

-- 16: the number of bins is outside its range
abbrev pub bins_rule : ℕ → Rule
bins_rule m = whole 16 (nat_lt m least_bins || nat_lt most_bins m)

-- whether a player of m bins can be made
abbrev pub bins_judged : ℕ → Result (Unit {0}) Fault
bins_judged m = judged (bins_rule m)

-- 38: the size is 0 or too large
abbrev pub size_rule : ℕ → Rule
size_rule size = whole 38 (size == 0 || nat_lt most_size size)

-- 39: all loads and the size together are too large
abbrev pub total_rule : List ℕ → ℕ → Rule
total_rule loads size = whole 39 (nat_lt most_total (sum loads + size))

-- whether an item of this size is declined at these loads, and with which fault
abbrev pub declined : List ℕ → ℕ → Result (Unit {0}) Fault
declined loads size = judge_all (size_rule size ∷ (total_rule loads size ∷ []))

-- ---- placing

-- the loads once bin b has taken an item
abbrev pub raised : List ℕ → ℕ → ℕ → List ℕ
raised loads b size = slice_set loads b (slice_index loads b + size)

-- one bin takes the item and the others stay; or it is declined, and all of them stay
abbrev pub Placed : List ℕ → ℕ → Result ℕ Fault → List ℕ → Type 0
Placed loads size (Ok b) after = (declined loads size ≡ Ok tt) × (b < length loads) × (after ≡ raised loads b size)
Placed loads size (Err f) after = (declined loads size ≡ Err f) × (after ≡ loads)

-- what placing answers where the item, if it is not declined, goes to bin b
abbrev pub answered : List ℕ → ℕ → ℕ → Result ℕ Fault
answered loads size b = next_after (declined loads size) (Ok b)

-- the rule of a player whose loads and the size decide: just the bin that it chooses
abbrev pub by_choice : (List ℕ → ℕ → ℕ) → List ℕ → ℕ → ℕ → Bool
by_choice choose loads size b = b == choose loads size

-- placing by a choice: the item goes into the bin that is chosen, where it is not declined, and that bin fits as it should;
-- that the rule takes the bin follows from what is chosen
pub record PlacedBy (choose : List ℕ → ℕ → ℕ) (Fits : List ℕ → ℕ → ℕ → Type 0) (loads : List ℕ) (size : ℕ) (r : Result ℕ Fault) (after : List ℕ) : Type 0 where
  pub placed : Placed loads size r after
  pub ruled : IfOk r (λ b. by_choice choose loads size b ≡ true)
  pub chosen : r ≡ answered loads size (choose loads size)
  pub fits : IfOk r (Fits loads size)

-- the load of bin b, none for a missing bin
abbrev pub load_of : List ℕ → ℕ → Option ℕ
load_of loads b = given (nat_lt b (length loads)) (slice_index loads b)

-- a player of m bins is made, and is empty; or it is refused for the number of bins
abbrev pub MadeEmpty : {P : Type 0} → (P → List ℕ) → ℕ → Result P Fault → Type 0
MadeEmpty loads m (Ok p) = (bins_judged m ≡ Ok tt) × (loads p ≡ replicate m 0)
MadeEmpty loads m (Err f) = bins_judged m ≡ Err f
