-- What a bound of online bin stretching says, of the game alone.
use Rattle.std.specs.Prelude.{◌≡◌, ℕ, ◌+◌, ◌<◌, ◌≤◌, cond, List, [], ◌∷◌, ◌++◌, length, ◌==◌}
use Rattle.std.specs.List.{AllByRecursion}

-- an online algorithm: the bin of the newest item, from the sizes of all items so far, the newest last
abbrev pub Algorithm : Type 0
Algorithm = List ℕ → ℕ

-- the bins that the algorithm gives to the items after those seen
abbrev pub bins_of : Algorithm → List ℕ → List ℕ → List ℕ
bins_of a seen [] = []
bins_of a seen (x ∷ xs) = a (seen ++ x ∷ []) ∷ bins_of a (seen ++ x ∷ []) xs

-- what bin b carries, where each item has its bin
abbrev pub carries : List ℕ → List ℕ → ℕ → ℕ
carries [] bs b = 0
carries (x ∷ xs) [] b = 0
carries (x ∷ xs) (c ∷ cs) b = cond (c == b) x 0 + carries xs cs b

-- the items can be shared out over m bins so that no bin's sizes add up to more than t
abbrev pub Fit : ℕ → ℕ → List ℕ → Type 0
Fit m t items = (bs : List ℕ) × (length bs ≡ length items) × AllByRecursion (λ b. b < m) bs × ((b : ℕ) → b < m → carries items bs b ≤ t)

-- these items fit m bins of capacity t, and the algorithm lets some bin reach r on them
abbrev pub Beaten : ℕ → ℕ → ℕ → Algorithm → List ℕ → Type 0
Beaten m t r a items = AllByRecursion (λ x. 1 ≤ x) items × Fit m t items × ((b : ℕ) × (b < m) × (r ≤ carries items (bins_of a [] items) b))

-- No algorithm keeps all of m bins below r on every list of items that fits m bins of capacity t.
abbrev pub Forces : ℕ → ℕ → ℕ → Type 0
Forces m t r = (a : Algorithm) → ((xs : List ℕ) → a xs < m) → (items : List ℕ) × Beaten m t r a items

-- the same, with at most n items
abbrev pub ForcesWithin : ℕ → ℕ → ℕ → ℕ → Type 0
ForcesWithin n m t r = (a : Algorithm) → ((xs : List ℕ) → a xs < m) → (items : List ℕ) × (length items ≤ n) × Beaten m t r a items
