-- `find_row`: what is found has the position, and nothing is found exactly where no row has it.
use Rattle.std.proofs.Common.{◌≡◌, ℕ, ◌<◌, Bool, true, false, ◌&&◌, eqb, List, [], ◌∷◌, ◌++◌, length, is_some, Some, None, Option, sym, refl, ◌∙◌, subst, inl, inr, arith, MatchOption}
use Rattle.std.proofs.lemmas.Bool.{and_parts, and_from, eqb-true, eq-eqb, cases_Bool, both_ways}
use Rattle.certificate.specs.Certificates.{Certificate, row_count, row, same, Stands, stands, find_row}
use Rattle.certificate.specs.Lawful.{Lawful}
use Rattle.certificate.proofs.Firsts.{first_none, first_some, none_quiet, some_least}

-- the test says that the lists are equal: they are
pub equal_from_same : (xs ys : List ℕ) → same xs ys ≡ true → xs ≡ ys
equal_from_same [] [] e = refl
equal_from_same [] (y ∷ ys) e = absurd (both_ways false refl e)
equal_from_same (x ∷ xs) [] e = absurd (both_ways false refl e)
equal_from_same (x ∷ xs) (y ∷ ys) e =
    let both = and_parts (eqb x y) (same xs ys) e in
    let heads = eqb-true x y both.0 in
    let tails = equal_from_same xs ys both.1 in
    cc

-- the test says so of each list and itself
pub same_itself : (xs : List ℕ) → same xs xs ≡ true
same_itself [] = refl
same_itself (x ∷ xs) = and_from (eqb x x) (same xs xs) (eq-eqb x x refl) (same_itself xs)

-- the lists are equal: the test says so
pub same_from_equal : (xs ys : List ℕ) → xs ≡ ys → same xs ys ≡ true
same_from_equal xs ys e = subst (λ zs. same xs zs ≡ true) e (same_itself xs)

module _ (c : Certificate) (loads counts : List ℕ) where
  -- a row that has the position passes the test
  pub passes_from_stands : (i : ℕ) → Stands c loads counts i → stands c loads counts i ≡ true
  passes_from_stands i h =
      let loads-same = same_from_equal (row c i).loads loads h.1 in
      let Counts-same = same_from_equal (row c i).counts counts h.2 in
      and_from (same (row c i).loads loads) (same (row c i).counts counts) loads-same Counts-same

  -- a row that passes the test has the position
  pub stands_from_passes : (i : ℕ) → i < row_count c → stands c loads counts i ≡ true → Stands c loads counts i
  stands_from_passes i l e =
      let both = and_parts (same (row c i).loads loads) (same (row c i).counts counts) e in
      (l, equal_from_same (row c i).loads loads both.0, equal_from_same (row c i).counts counts both.1)

  -- a row that does not have the position fails the test
  fails_from_not : (i : ℕ) → i < row_count c → (Stands c loads counts i → ⊥) → stands c loads counts i ≡ false
  fails_from_not i l lacks =
      elim (cases_Bool (stands c loads counts i)) [
        | inl e ↦ absurd (lacks (stands_from_passes i l e))
        | inr e ↦ e
      ]

  -- a row that is found has the position
  pub found_stands : (i : ℕ) → find_row c loads counts ≡ Some i → Stands c loads counts i
  found_stands i e =
      let least = some_least (stands c loads counts) (row_count c) i e in
      stands_from_passes i least.0 least.1

  -- in a lawful certificate a row that has the position is the one that is found
  pub stands_found : Lawful c → (i : ℕ) → Stands c loads counts i → find_row c loads counts ≡ Some i
  stands_found lawful i h =
      let same_row = λ (k : ℕ) (p : Stands c loads counts k). lawful.distinct k i p.0 h.0 (p.1 ∙ sym h.1) (p.2 ∙ sym h.2) in
      let other = λ (k : ℕ) (l : k < i) (p : Stands c loads counts k). let z : ⊥ = omega (arith, same_row k p) in z in
      let before = λ (k : ℕ) (l : k < i). fails_from_not k (omega (arith, h.0)) (other k l) in
      first_some (stands c loads counts) (row_count c) i h.0 (passes_from_stands i h) before

  -- none is found: no row has the position
  pub none_stands : find_row c loads counts ≡ None → (i : ℕ) → Stands c loads counts i → ⊥
  none_stands e i h =
      both_ways (stands c loads counts i) (none_quiet (stands c loads counts) (row_count c) e i h.0) (passes_from_stands i h)

  -- no row has the position: none is found
  pub none_found : ((i : ℕ) → Stands c loads counts i → ⊥) → find_row c loads counts ≡ None
  none_found h = first_none (stands c loads counts) (row_count c) (λ i l. fails_from_not i l (h i))

  -- a row that is some answer's has the position
  some_row : (o : Option ℕ) → find_row c loads counts ≡ o → is_some o ≡ true → (i : ℕ) × Stands c loads counts i
  some_row None e p = absurd (both_ways false refl p)
  some_row (Some i) e p = (i, found_stands i e)

  -- some row is found: it has the position
  pub row_from_found : is_some (find_row c loads counts) ≡ true → (i : ℕ) × Stands c loads counts i
  row_from_found = some_row (find_row c loads counts) refl

  -- where a row has the position, the answer is a row
  is_found : (i : ℕ) → Stands c loads counts i → (o : Option ℕ) → find_row c loads counts ≡ o → is_some o ≡ true
  is_found i h None e = absurd (none_stands e i h)
  is_found i h (Some k) e = refl

  -- a row has the position: some row is found
  pub found_from_row : (i : ℕ) → Stands c loads counts i → is_some (find_row c loads counts) ≡ true
  found_from_row i h = is_found i h (find_row c loads counts) refl

-- an answer that equals the definition is a row that has the position, or none where no row has it
pub found_says : (c : Certificate) (loads counts : List ℕ) (r : Option ℕ) → r ≡ find_row c loads counts → MatchOption r ((i : ℕ) → Stands c loads counts i → ⊥) (Stands c loads counts)
found_says c loads counts None e = none_stands c loads counts (sym e)
found_says c loads counts (Some i) e = found_stands c loads counts i (sym e)

-- lists in two parts are the same where both parts are
pub same_append : (xs ys us vs : List ℕ) → length xs ≡ length ys → same (xs ++ us) (ys ++ vs) ≡ (same xs ys && same us vs)
same_append [] [] us vs e = refl
same_append [] (y ∷ ys) us vs e = absurd (omega arith)
same_append (x ∷ xs) [] us vs e = absurd (omega arith)
same_append (x ∷ xs) (y ∷ ys) us vs e = step (eqb x y) (same_append xs ys us vs (omega arith))
  where
    step : (b : Bool) → same (xs ++ us) (ys ++ vs) ≡ (same xs ys && same us vs) → (b && same (xs ++ us) (ys ++ vs)) ≡ ((b && same xs ys) && same us vs)
    step true h = h
    step false h = refl
