-- `first`: nothing is found exactly where no number passes, and what is found is the least that does.
use Rattle.std.proofs.Common.{◌≡◌, ℕ, zero, suc, ◌<◌, ◌≤◌, Bool, true, false, Some, None, Option, sym, refl, ap, subst, ⊎_elim, arith, MatchOption}
use Rattle.std.proofs.lemmas.Bool.{cases_eq, cases_lt, both_ways}
use Rattle.certificate.specs.Rules.{first, or_here}

module _ (test : ℕ → Bool) where
  -- no number below n passes
  abbrev pub Quiet : ℕ → Type 0
  Quiet n = (k : ℕ) → k < n → test k ≡ false

  -- the least number below n that passes is i
  abbrev pub LeastAt : ℕ → ℕ → Type 0
  LeastAt n i = (i < n) × (test i ≡ true) × Quiet i

  quiet_more : (n : ℕ) → Quiet n → test n ≡ false → Quiet (suc n)
  quiet_more n q e k h = ⊎_elim (λ (p : k ≡ n). subst (λ x. test x ≡ false) (sym p) e) (λ (p : k ≡ n → ⊥). q k (omega arith)) (cases_eq k n)

  step : (n : ℕ) (o : Option ℕ) (b : Bool) → test n ≡ b → MatchOption o (Quiet n) (LeastAt n) → MatchOption (or_here o b n) (Quiet (suc n)) (LeastAt (suc n))
  step n None true e h = (omega arith, e, h)
  step n None false e h = quiet_more n h e
  step n (Some i) b e h = (omega (arith, h.0), h.1, h.2)

  -- what `first` answers, by cases
  pub first_says : (n : ℕ) → MatchOption (first test n) (Quiet n) (LeastAt n)
  first_says zero = λ k h. absurd (omega arith)
  first_says (suc n) = step n (first test n) (test n) refl (first_says n)

  none_is : (n : ℕ) (o : Option ℕ) → MatchOption o (Quiet n) (LeastAt n) → Quiet n → o ≡ None
  none_is n None h q = refl
  none_is n (Some i) h q = absurd (both_ways (test i) (q i h.0) h.1)

  -- no number passes: nothing is found
  pub first_none : (n : ℕ) → Quiet n → first test n ≡ None
  first_none n = none_is n (first test n) (first_says n)

  least_is : (n i k : ℕ) → LeastAt n i → LeastAt n k → i ≡ k
  least_is n i k h p = ⊎_elim (λ (e : i ≡ k). e) (λ (ne : i ≡ k → ⊥). absurd (⊎_elim (λ (l : i < k). both_ways (test i) (p.2 i l) h.1) (λ (l : k ≤ i). both_ways (test k) (h.2 k (omega arith)) p.1) (cases_lt i k))) (cases_eq i k)

  some_is : (n i : ℕ) (o : Option ℕ) → MatchOption o (Quiet n) (LeastAt n) → LeastAt n i → o ≡ Some i
  some_is n i None h p = absurd (both_ways (test i) (h i p.0) p.1)
  some_is n i (Some k) h p = ap Some (least_is n k i h p)

  -- i passes and no number below it does: i is found
  pub first_some : (n i : ℕ) → i < n → test i ≡ true → Quiet i → first test n ≡ Some i
  first_some n i l e q = some_is n i (first test n) (first_says n) (l, e, q)

  -- nothing found: no number passes
  pub none_quiet : (n : ℕ) → first test n ≡ None → Quiet n
  none_quiet n e = subst (λ o. MatchOption o (Quiet n) (LeastAt n)) e (first_says n)

  -- i is found: it passes, and no number below it does
  pub some_least : (n i : ℕ) → first test n ≡ Some i → LeastAt n i
  some_least n i e = subst (λ o. MatchOption o (Quiet n) (LeastAt n)) e (first_says n)

-- tests that agree below n find the same number
pub first_like : (f g : ℕ → Bool) (n : ℕ) → ((k : ℕ) → k < n → f k ≡ g k) → first f n ≡ first g n
first_like f g zero h = refl
first_like f g (suc n) h = λ t. or_here (first_like f g n (λ k l. h k (omega arith)) t) (h n (omega arith) t) n

-- what a search from 0 up to n answers: a number that passes while none before it does, or none where none passes
pub found_first : (test : ℕ → Bool) (n : ℕ) (o : Option ℕ) → MatchOption o ((k : ℕ) → 0 ≤ k → k < n → test k ≡ false) (λ i. (0 ≤ i) × (i < n) × (test i ≡ true) × ((k : ℕ) → 0 ≤ k → k < i → test k ≡ false)) → o ≡ first test n
found_first test n None none = sym (first_none test n (λ k l. none k (omega arith) l))
found_first test n (Some i) found = sym (first_some test n i found.1 found.2 (λ k l. found.3 k (omega arith) l))
