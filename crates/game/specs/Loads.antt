-- When a row's loads are a player's: they descend, and are the player's in some order.
use Rattle.std.specs.Prelude.{ℕ, Bool, true, ◌&&◌, List, [], ◌∷◌, length, ◌==◌, nat_le, count_by}
use Rattle.std.specs.List.{list_all}

-- how often v stands in a list
abbrev pub often : ℕ → List ℕ → ℕ
often v xs = count_by (λ x. x == v) xs

-- whether no number is above the one before it
abbrev pub descending : List ℕ → Bool
descending [] = true
descending (x ∷ []) = true
descending (x ∷ (y ∷ xs)) = nat_le y x && descending (y ∷ xs)

-- whether ys is xs in some order: equally long, and each number of xs stands as often in both
abbrev pub reordered : List ℕ → List ℕ → Bool
reordered xs ys = length xs == length ys && list_all (λ x. often x xs == often x ys) xs

-- whether the loads of a row descend and are a player's in some order
abbrev pub row_is : List ℕ → List ℕ → Bool
row_is xs ys = descending xs && reordered xs ys
