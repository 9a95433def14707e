-- A loop that appends the numbers of a list, one at a time.
use Rattle.std.proofs.Common.{◌≡◌, ℕ, ◌+◌, ◌<◌, ◌≤◌, List, [], ◌∷◌, ◌++◌, length, get_or, take, sym, ap, ◌∙◌}
use Rattle.std.proofs.lemmas.List.{append_assoc, take_more, take_all}

module _ (start numbers : List ℕ) (i : ℕ) (so_far : List ℕ) (e : so_far ≡ start ++ take i numbers) where
  -- one number more
  pub append_more : i < length numbers → so_far ++ get_or numbers i 0 ∷ [] ≡ start ++ take (i + 1) numbers
  append_more h =
      ap (λ xs. xs ++ (get_or numbers i 0 ∷ [])) e
      ∙ (append_assoc start (take i numbers) (get_or numbers i 0 ∷ []) ∙ ap (λ xs. start ++ xs) (sym (take_more numbers i 0 h)))

  -- no number is left
  pub append_all : length numbers ≤ i → so_far ≡ start ++ numbers
  append_all l = e ∙ ap (λ xs. start ++ xs) (take_all i numbers l)
