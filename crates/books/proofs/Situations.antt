-- Situations as rows of numbers: how one is put together, and how a number of it stands to another.
use Rattle.std.proofs.Common.{◌≡◌, ℕ, ◌+◌, ◌<◌, List, [], ◌∷◌, ◌++◌, length, take, set, Ordering, ap, ◌∙◌}
use Rattle.std.specs.Ordering.{nat_cmp}
use Rattle.std.proofs.lemmas.List.{take_more_set, take_at}

-- loads that are copied to the front of some slots, with the size after them
pub situated : (copied loads held rest : List ℕ) (size : ℕ) → copied ≡ loads → loads ≡ held → length loads < length (copied ++ rest) → take (length loads + 1) (set (copied ++ rest) (length loads) size) ≡ held ++ (size ∷ [])
situated copied loads held rest size same meant l =
    take_more_set (copied ++ rest) (length loads) size l
    ∙ ap (λ xs. xs ++ (size ∷ [])) (take_at copied rest (length loads) (ap length same) ∙ (same ∙ meant))

-- what comparing a number that is x with y answers
pub ranked_as : (x' x y : ℕ) (order : Ordering) → x' ≡ x → order ≡ nat_cmp x' y → order ≡ nat_cmp x y
ranked_as x' x y order e h = h ∙ ap (λ z. nat_cmp z y) e
