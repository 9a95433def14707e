-- Finding a position among ascending rows.
use Rattle.std.proofs.Common.{◌≡◌, ℕ, ◌-◌, ◌<◌, ◌≤◌, List, ◌++◌, length, get_or, None, Option, sym, refl, ap, ◌∙◌, subst, inl, inr, arith}
use Rattle.std.proofs.lemmas.Bool.{cases_lt}
use Rattle.std.proofs.lemmas.List.{length-append, get_or_append_left, get_or-append_right}
use Rattle.certificate.specs.Certificates.{Certificate, class_count, row_count, row, position, Stands, stands, find_row}
use Rattle.certificate.specs.Lawful.{Lawful, most_count}
use Rattle.certificate.proofs.Firsts.{first_like}
use Rattle.certificate.proofs.Finding.{none_found, same_append}
use Rattle.search.specs.Ascending.{has_key, row_with}
use Rattle.layout.specs.Keys.{Unspelled}

module _ (c : Certificate) (lawful : Lawful c) (loads counts : List ℕ) where
  -- a position of another shape has no row
  pub other_shape : ((length loads ≡ c.bins) × (length counts ≡ class_count c) → ⊥) → None ≡ find_row c loads counts
  other_shape ne = sym (none_found c loads counts (λ i h. ne (sym (ap length h.1) ∙ lawful.all_loads i h.0, sym (ap length h.2) ∙ lawful.all_counts i h.0)))

  -- no row holds a number above 255
  all_bytes : (i : ℕ) → Stands c loads counts i → (k : ℕ) → k < length (loads ++ counts) → get_or (loads ++ counts) k 0 ≤ most_count
  all_bytes i h k l =
      elim (cases_lt k (length loads)) [
        | inl b ↦ let low = lawful.load_range i k h.0 (subst (λ n. k < n) (sym (ap length h.1) ∙ lawful.all_loads i h.0) b) in
            subst (λ x. x ≤ most_count) (ap (λ xs. get_or xs k 0) h.1 ∙ sym (get_or_append_left loads counts 0 k b)) (omega (arith, lawful.target_range.1, lawful.some_capacity.1))
        | inr b ↦ subst (λ x. x ≤ most_count) (ap (λ xs. get_or xs (k - length loads) 0) h.2 ∙ sym (get_or-append_right loads counts (length loads) k 0 refl b)) (lawful.count_range i (k - length loads))
      ]

  -- a position of the right shape that has no bytes has no row
  pub no_bytes : length loads ≡ c.bins → length counts ≡ class_count c → Unspelled (loads ++ counts) → None ≡ find_row c loads counts
  no_bytes a b (inl long) = absurd (omega (arith, length-append loads counts, lawful.some_bins.1, lawful.some_classes.1))
  no_bytes a b (inr (k, l, big)) = sym (none_found c loads counts (λ i h. omega (arith, all_bytes i h k l)))

  -- the row that has the bytes is the row that has the position
  pub by_key : length loads ≡ c.bins → (key : List ℕ) → key ≡ loads ++ counts → (r : Option ℕ) → r ≡ row_with (position c) (row_count c) key → r ≡ find_row c loads counts
  by_key a key e r h = h ∙ (ap (row_with (position c) (row_count c)) e ∙ first_like (has_key (position c) (loads ++ counts)) (stands c loads counts) (row_count c) (λ i l. same_append (row c i).loads loads (row c i).counts counts (lawful.all_loads i l ∙ sym a)))
