-- What is meant by the least full bin, a best fit and a fit within a limit, in words of loads.
use Rattle.std.specs.Prelude.{ℕ, ◌+◌, ◌<◌, ◌≤◌, ◌⊎◌, List, length, slice_index, slice_index_or}

-- no bin is less full than b, and every bin before b is fuller
pub record LeastFull (loads : List ℕ) (b : ℕ) : Type 0 where
  pub there : b < length loads
  pub least : (k : ℕ) → k < length loads → slice_index loads b ≤ slice_index loads k
  pub lowest : (k : ℕ) → k < b → slice_index loads b < slice_index loads k

-- bin b would stay below r; of the bins that would, none is fuller, and those before b are less full
pub record FullestBelow (r : ℕ) (loads : List ℕ) (size b : ℕ) : Type 0 where
  pub there : b < length loads
  pub stays : slice_index_or loads b 0 + size < r
  pub fullest : (k : ℕ) → k < length loads → slice_index loads k + size < r → slice_index loads k ≤ slice_index loads b
  pub lowest : (k : ℕ) → k < b → slice_index loads k + size < r → slice_index loads k < slice_index loads b

-- bin b would stay within the limit, and no bin before it would
pub record LowestWithin (limit : ℕ) (loads : List ℕ) (size b : ℕ) : Type 0 where
  pub there : b < length loads
  pub stays : slice_index_or loads b 0 + size ≤ limit
  pub lowest : (k : ℕ) → k < b → slice_index loads k + size ≤ limit → ⊥

-- no bin is as wished
abbrev pub NoBin : List ℕ → (ℕ → Type 0) → Type 0
NoBin loads Wished = (k : ℕ) → k < length loads → Wished k → ⊥

-- best fit's bin: the fullest that would stay below r, or the least full where none would
abbrev pub BestFits : ℕ → List ℕ → ℕ → ℕ → Type 0
BestFits r loads size b = FullestBelow r loads size b ⊎ (NoBin loads (λ k. slice_index loads k + size < r) × LeastFull loads b)

-- threshold's bin: the lowest that would stay within the limit, or the least full where none would
abbrev pub FitsWithin : ℕ → List ℕ → ℕ → ℕ → Type 0
FitsWithin limit loads size b = LowestWithin limit loads size b ⊎ (NoBin loads (λ k. slice_index loads k + size ≤ limit) × LeastFull loads b)
