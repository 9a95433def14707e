-- Putting a number into a list and taking one out, as the standard library says it.
use Rattle.std.proofs.Common.{◌≡◌, ℕ, zero, suc, ◌+◌, cond, leb, List, [], ◌∷◌, length, sym, refl, ap, ◌∙◌, inl, inr, arith}
use Rattle.std.specs.List.{prefix_len, take_while, remove, insert as insert_at}
use Rattle.std.proofs.lemmas.Bool.{lt-ltb, le-ltb, le-leb, lt-leb, cases_lt}
use Rattle.std.proofs.lemmas.List.Folds.{length-prefix_len}
use Rattle.positions.specs.Positions.{without, insert}

-- the list without the number at a place
pub removed : (j : ℕ) (xs : List ℕ) → remove xs j ≡ without j xs
removed zero [] = refl
removed (suc j) [] = refl
removed zero (x ∷ xs) = refl
removed (suc j) (x ∷ xs) = ap (λ ys. x ∷ ys) (removed j xs)

behind : (x : ℕ) (xs : List ℕ) → insert_at xs (prefix_len (leb x) xs) x ≡ insert x xs
behind x [] = refl
behind x (y ∷ ys) =
    elim (cases_lt y x) [
      | inl l ↦ ap (λ b. insert_at (y ∷ ys) (cond b (1 + prefix_len (leb x) ys) 0) x) (lt-leb x y l) ∙ sym (ap (λ b. cond b (x ∷ (y ∷ ys)) (y ∷ insert x ys)) (lt-ltb y x l))
      | inr h ↦ ap (λ b. insert_at (y ∷ ys) (cond b (1 + prefix_len (leb x) ys) 0) x) (le-leb x y h)
          ∙ (ap (λ n. insert_at (y ∷ ys) n x) (let z : 1 + prefix_len (leb x) ys ≡ suc (prefix_len (leb x) ys) = omega arith in z)
          ∙ (ap (λ zs. y ∷ zs) (behind x ys) ∙ sym (ap (λ b. cond b (x ∷ (y ∷ ys)) (y ∷ insert x ys)) (le-ltb y x h))))
    ]

-- a number that stands behind all those in front that are not smaller
pub inserted : (x : ℕ) (xs : List ℕ) (p : ℕ) → p ≡ length (take_while (leb x) xs) → insert_at xs p x ≡ insert x xs
inserted x xs p e = ap (λ n. insert_at xs n x) (e ∙ length-prefix_len (leb x) xs) ∙ behind x xs
