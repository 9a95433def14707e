-- The pairs of a list.
use Rattle.std.proofs.Common.{◌≡◌, ℕ, zero, suc, ◌+◌, ◌*◌, ◌<◌, List, [], get_or, drop, ap, ◌∙◌, arith}
use Rattle.std.specs.Simd.{first_chunks}
use Rattle.std.proofs.lemmas.List.{get_or-take, get_or-drop}

-- place j of pair i is place 2 × i + j of the list
pub pair_at : (k i j : ℕ) (xs : List ℕ) → i < k → j < 2 → get_or (get_or (first_chunks 2 k xs) i []) j 0 ≡ get_or xs (2 * i + j) 0
pair_at zero i j xs l m = absurd (omega arith)
pair_at (suc k) zero j xs l m = let e : j ≡ 2 * 0 + j = omega arith in get_or-take 2 xs j 0 m ∙ ap (λ n. get_or xs n 0) e
pair_at (suc k) (suc i) j xs l m = let e : 2 + (2 * i + j) ≡ 2 * suc i + j = omega arith in pair_at k i j (drop 2 xs) (omega arith) m ∙ (get_or-drop 2 xs (2 * i + j) 0 ∙ ap (λ n. get_or xs n 0) e)
