-- Keys that no place of the order's rule breaks ascend.
use Rattle.std.proofs.Common.{◌≡◌, ℕ, ◌+◌, ◌-◌, true, not, ltb, List, subst, inl, inr, arith}
use Rattle.std.proofs.lemmas.Bool.{ltb-false, not-false, and_cases}
use Rattle.certificate.proofs.Judged.{Holds}
use Rattle.search.specs.Ascending.{precedes, Ascending, order_rule}

pub ascending_from_rule : (number : ℕ) (key : ℕ → List ℕ) (n : ℕ) → Holds (order_rule number key n) → Ascending key n
ascending_from_rule number key n holds i l =
    let first_of : (i + 1) - 1 ≡ i = omega arith in
    let above = not (precedes (key ((i + 1) - 1)) (key (i + 1))) in
    elim (and_cases (ltb 0 (i + 1)) above (holds (i + 1) 0 l (omega arith))) [
      | inl p ↦ absurd (omega (arith, ltb-false 0 (i + 1) p))
      | inr p ↦ subst (λ x. precedes (key x) (key (i + 1)) ≡ true) first_of (not-false (precedes (key ((i + 1) - 1)) (key (i + 1))) p)
    ]
