-- The two turns of a search by halving: what a comparison rules out.
use Rattle.std.proofs.Common.{◌≡◌, ℕ, zero, suc, ◌+◌, ◌<◌, ◌≤◌, false, List, Some, None, Less, Equal, Greater, sym, ap, ◌∙◌, subst, ⊎_elim, add-one, arith}
use Rattle.std.proofs.lemmas.Bool.{cases_eq, cases_Bool}
use Rattle.certificate.proofs.Firsts.{first_none, first_some}
use Rattle.certificate.proofs.Finding.{equal_from_same, same_from_equal}
use Rattle.search.specs.Ascending.{standing, Ascending, has_key, row_with}
use Rattle.search.proofs.Orders.{less_from_test, not_before_itself, turned, level_equal, chain}

module _ (key : ℕ → List ℕ) (n : ℕ) (up : Ascending key n) where
  neighbour : (i : ℕ) → suc i < n → standing (key i) (key (suc i)) ≡ Less
  neighbour i l = subst (λ k. standing (key i) (key k) ≡ Less) (add-one i) (less_from_test (standing (key i) (key (i + 1))) (up i (omega arith)))

  -- an earlier key comes before a later one
  pub earlier : (i j : ℕ) → i < j → j < n → standing (key i) (key j) ≡ Less
  earlier i zero l h = absurd (omega arith)
  earlier i (suc j) l h =
      ⊎_elim (λ (e : i ≡ j). subst (λ k. standing (key k) (key (suc j)) ≡ Less) (sym e) (neighbour j h))
      (λ (ne : i ≡ j → ⊥). chain (key i) (key j) (key (suc j)) (earlier i j (omega arith) (omega arith)) (neighbour j h))
      (cases_eq i j)

  module _ (sought : List ℕ) where
    -- no row up to the middle has a key that stands after the middle's
    pub not_below : (middle : ℕ) → middle < n → standing (key middle) sought ≡ Less → (i : ℕ) → i < middle + 1 → key i ≡ sought → ⊥
    not_below middle h less i l e =
        ⊎_elim (λ (p : i ≡ middle). not_before_itself sought (subst (λ k. standing k sought ≡ Less) (ap key (sym p) ∙ e) less))
        (λ (p : i ≡ middle → ⊥). not_before_itself sought (subst (λ k. standing k sought ≡ Less) e (chain (key i) (key middle) sought (earlier i middle (omega arith) h) less)))
        (cases_eq i middle)

    -- no row from the middle on has a key that stands before the middle's
    pub not_above : (middle : ℕ) → standing (key middle) sought ≡ Greater → (i : ℕ) → middle ≤ i → i < n → key i ≡ sought → ⊥
    not_above middle greater i l h e =
        let less = turned (key middle) sought greater in
        ⊎_elim (λ (p : i ≡ middle). not_before_itself sought (subst (λ k. standing sought k ≡ Less) (ap key (sym p) ∙ e) less))
        (λ (p : i ≡ middle → ⊥). not_before_itself sought (subst (λ k. standing sought k ≡ Less) e (chain sought (key middle) (key i) less (earlier middle i (omega arith) h))))
        (cases_eq i middle)

    -- a row whose key stands level is the row that has the key
    pub level_found : (middle : ℕ) → middle < n → standing (key middle) sought ≡ Equal → Some middle ≡ row_with key n sought
    level_found middle h level =
        let same_key = level_equal (key middle) sought level in
        let before : (k : ℕ) → k < middle → has_key key sought k ≡ false
        = λ k l. ⊎_elim (λ e. absurd (not_before_itself sought (subst (λ (x : List ℕ). standing x sought ≡ Less) (equal_from_same (key k) sought e) (subst (λ (x : List ℕ). standing (key k) x ≡ Less) same_key (earlier k middle l h))))) (λ e. e) (cases_Bool (has_key key sought k))
        in
        sym (first_some (has_key key sought) n middle h (same_from_equal (key middle) sought same_key) before)

    -- no row has the key
    pub none_with : ((i : ℕ) → i < n → key i ≡ sought → ⊥) → None ≡ row_with key n sought
    none_with h = sym (first_none (has_key key sought) n (λ k l. ⊎_elim (λ e. absurd (h k l (equal_from_same (key k) sought e))) (λ e. e) (cases_Bool (has_key key sought k))))
