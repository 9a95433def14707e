-- Which lists of numbers have no bytes in a file.
use Rattle.std.specs.Prelude.{◌≡◌, ℕ, ◌+◌, ◌<◌, ◌⊎◌, List, ◌++◌, length, take, slice_index}
use Rattle.certificate.specs.Lawful.{most_bins, most_classes, most_count}

-- one of the numbers is more than a byte
abbrev pub AboveByte : List ℕ → Type 0
AboveByte xs = (i : ℕ) × (i < length xs) × (most_count < slice_index xs i)

-- after n numbers, these are too many for a position, or one of them is more than a byte
abbrev pub NoRoom : ℕ → List ℕ → Type 0
NoRoom n xs = (most_bins + most_classes < n + length xs) ⊎ AboveByte xs

abbrev pub Unspelled : List ℕ → Type 0
Unspelled xs = (most_bins + most_classes < length xs) ⊎ AboveByte xs

-- the first n bytes of a buffer and then these numbers are the first k bytes of the buffer now
abbrev pub Appended : ℕ → List ℕ → List ℕ → ℕ → List ℕ → Type 0
Appended n was xs k now = (k ≡ n + length xs) × (take k now ≡ take n was ++ xs)
