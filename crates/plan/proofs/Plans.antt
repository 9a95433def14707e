-- A certificate breaks none of the plan's rules exactly where its plan is winning.
use Rattle.std.proofs.Common.{◌≡◌, ℕ, ◌+◌, ◌-◌, ◌<◌, ◌≤◌, false, not, eqb, ltb, ◌⊎◌, List, is_some, Ok, subst, inl, inr, arith}
use Rattle.std.specs.List.{AllByRecursion}
use Rattle.std.proofs.lemmas.Bool.{not-false, not_from_true, and_cases, and_left, and_right, both_ways, eqb-true, eq-eqb, ne_eqb, ltb-false, lt-ltb, le-ltb, cases_lt, cases_eq}
use Rattle.certificate.specs.Rules.{judge_all}
use Rattle.certificate.specs.Certificates.{Certificate, row_count, row, load, offered, find_row}
use Rattle.certificate.proofs.Judged.{Holds, judge_all_from_hold, hold_from_judge_all}
use Rattle.certificate.proofs.Finding.{row_from_found, found_from_row}
use Rattle.positions.specs.Positions.{empty_loads, empty_counts, next_loads, next_counts, offer}
use Rattle.plan.specs.Plan.{lacks, rises, strands, load_sum, placed_sum, packed_sum, packed_total, packed_due, plan_rules}
use Rattle.plan.specs.Plan.{starts_rule, descends_rule, accounts_rule, packs_rule, shares_rule, goes_on_rule}
use Rattle.plan.specs.Winning.{Covers, Winning}

-- no difference is found: the numbers are equal
equal_from_test : (x y : ℕ) → not (eqb x y) ≡ false → x ≡ y
equal_from_test x y e = eqb-true x y (not-false (eqb x y) e)

-- the numbers are equal: no difference is found
test_from_equal : (x y : ℕ) → x ≡ y → not (eqb x y) ≡ false
test_from_equal x y e = not_from_true (eqb x y) (eq-eqb x y e)

module _ (c : Certificate) where
  -- a position that no test finds lacking has a row
  covers_from_lacks : (loads counts : List ℕ) → lacks c loads counts ≡ false → Covers c loads counts
  covers_from_lacks loads counts e = row_from_found c loads counts (not-false (is_some (find_row c loads counts)) e)

  -- a position that has a row is not lacking
  lacks_from_covers : (loads counts : List ℕ) → Covers c loads counts → lacks c loads counts ≡ false
  lacks_from_covers loads counts h =
      not_from_true (is_some (find_row c loads counts)) (found_from_row c loads counts h.0 h.1)

  -- no rise at the later of two bins: its load is not above the one before it
  falls_from_rises : (i j : ℕ) → rises c i (j + 1) ≡ false → load c i (j + 1) ≤ load c i j
  falls_from_rises i j e =
      let before : (j + 1) - 1 ≡ j = omega arith in
      let later : eqb (j + 1) 0 ≡ false = ne_eqb (j + 1) 0 (λ p. omega arith) in
      elim (and_cases (not (eqb (j + 1) 0)) (ltb (load c i ((j + 1) - 1)) (load c i (j + 1))) e) [
        | inl p ↦ absurd (both_ways (eqb (j + 1) 0) later (not-false (eqb (j + 1) 0) p))
        | inr p ↦ subst (λ x. load c i (j + 1) ≤ load c i x) before (ltb-false (load c i ((j + 1) - 1)) (load c i (j + 1)) p)
      ]

  -- the first bin, and one whose load is not above the one before it, is no rise
  rises_from_falls : (i j : ℕ) → (j ≡ 0) ⊎ (load c i j ≤ load c i (j - 1)) → rises c i j ≡ false
  rises_from_falls i j (inl p) = and_left (not (eqb j 0)) (ltb (load c i (j - 1)) (load c i j)) (test_from_equal j 0 p)
  rises_from_falls i j (inr p) =
      let above = ltb (load c i (j - 1)) (load c i j) in
      and_right (not (eqb j 0)) above (le-ltb (load c i (j - 1)) (load c i j) p)

  -- the position that follows row i, where the offered item is placed at place j, has a row
  abbrev Goes_on : ℕ → ℕ → Type 0
  Goes_on i j = Covers c (next_loads (row c i).loads j (offer c i)) (next_counts (row c i).counts (offered c i))

  -- a place is not stranded and stays below the target: the position that follows has a row
  goes_on_from_strands : (i j : ℕ) → strands c i j ≡ false → load c i j + offer c i < c.target → Goes_on i j
  goes_on_from_strands i j e l =
      let below = ltb (load c i j + offer c i) c.target in
      let loads = next_loads (row c i).loads j (offer c i) in
      let counts = next_counts (row c i).counts (offered c i) in
      elim (and_cases below (lacks c loads counts) e) [
        | inl p ↦ absurd (both_ways below p (lt-ltb (load c i j + offer c i) c.target l))
        | inr p ↦ covers_from_lacks loads counts p
      ]

  -- if it stays below the target, the position that follows has a row: a place is not stranded
  strands_from_goes_on : (i j : ℕ) → (load c i j + offer c i < c.target → Goes_on i j) → strands c i j ≡ false
  strands_from_goes_on i j h =
      let below = ltb (load c i j + offer c i) c.target in
      let loads = next_loads (row c i).loads j (offer c i) in
      let counts = next_counts (row c i).counts (offered c i) in
      elim (cases_lt (load c i j + offer c i) c.target) [
        | inl l ↦ and_right below (lacks c loads counts) (lacks_from_covers loads counts (h l))
        | inr l ↦ and_left below (lacks c loads counts) (le-ltb (load c i j + offer c i) c.target l)
      ]

  -- no rule is broken: the plan is winning
  pub winning_from_kept : AllByRecursion Holds (plan_rules c) → Winning c
  winning_from_kept h = record {
    starts = covers_from_lacks (empty_loads c) (empty_counts c) (h.0 0 0 (omega arith) (omega arith));
    descends = λ i j l p. falls_from_rises i j (h.1.0 i (j + 1) l p);
    accounts = λ i l. equal_from_test (load_sum c i) (placed_sum c i) (h.1.1.0 i 0 l (omega arith));
    packs = λ i j l p. ltb-false c.capacity (packed_sum c i j) (h.1.1.1.0 i j l p);
    shares = λ i k l p. equal_from_test (packed_total c i k) (packed_due c i k) (h.1.1.1.1.0 i k l p);
    goes_on = λ i j l p. goes_on_from_strands i j (h.1.1.1.1.1.0 i j l p);
  }

  -- in a winning plan, each bin after the first carries no more than the one before it
  falls : Winning c → (i j : ℕ) → i < row_count c → j < c.bins → (j ≡ 0) ⊎ (load c i j ≤ load c i (j - 1))
  falls w i j l p =
      elim (cases_eq j 0) [
        | inl e ↦ inl e
        | inr ne ↦
            let later : (j - 1) + 1 ≡ j = omega arith in
            inr (subst (λ x. load c i x ≤ load c i (j - 1)) later (w.descends i (j - 1) l (omega arith)))
      ]

  -- the plan is winning: no rule is broken
  pub kept_from_winning : Winning c → AllByRecursion Holds (plan_rules c)
  kept_from_winning w =
      let starts : Holds (starts_rule c) = λ i j l p. lacks_from_covers (empty_loads c) (empty_counts c) w.starts in
      let descends : Holds (descends_rule c) = λ i j l p. rises_from_falls i j (falls w i j l p) in
      let accounts : Holds (accounts_rule c) = λ i j l p. test_from_equal (load_sum c i) (placed_sum c i) (w.accounts i l) in
      let packs : Holds (packs_rule c) = λ i j l p. le-ltb c.capacity (packed_sum c i j) (w.packs i j l p) in
      let shares : Holds (shares_rule c) = λ i k l p. test_from_equal (packed_total c i k) (packed_due c i k) (w.shares i k l p) in
      let goes_on : Holds (goes_on_rule c) = λ i j l p. strands_from_goes_on i j (w.goes_on i j l p) in
      (starts, (descends, (accounts, (packs, (shares, (goes_on, tt))))))

-- the check accepts: the plan is winning
pub winning_from_rules : (c : Certificate) → judge_all (plan_rules c) ≡ Ok tt → Winning c
winning_from_rules c e = winning_from_kept c (hold_from_judge_all (plan_rules c) e)

-- the plan is winning: the check accepts
pub rules_from_winning : (c : Certificate) → Winning c → judge_all (plan_rules c) ≡ Ok tt
rules_from_winning c w = judge_all_from_hold (plan_rules c) (kept_from_winning c w)
