-- What is known of an item that is not declined.
use Rattle.std.proofs.Common.{◌≡◌, ℕ, ◌+◌, ◌<◌, ◌≤◌, true, ltb, List, [], ◌∷◌, length, get_or, take, set, IfOk, Ok, Err, sum, Result, sym, refl, ap, subst, arith}
use Rattle.std.proofs.lemmas.List.{get_or-take}
use Rattle.std.proofs.lemmas.List.Sums.{get_or-le-sum_by}
use Rattle.std.proofs.lemmas.Bool.{ltb-false, eq-eqb}
use Rattle.certificate.specs.declared.fault.Fault.{Fault}
use Rattle.certificate.specs.Rules.{next_after}
use Rattle.certificate.proofs.Rules.{passed, whole_passed}
use Rattle.players.specs.Placing.{most_total, size_rule, total_rule, declined, answered, by_choice, Placed, PlacedBy}
use Rattle.players.proofs.Raising.{raised_slot, sum_raised}

-- all loads and the size together stay within their limit
pub admitted : (loads : List ℕ) (size : ℕ) → declined loads size ≡ Ok tt → sum loads + size ≤ most_total
admitted loads size e =
    let both = passed (size_rule size) (total_rule loads size ∷ []) e in
    let last = passed (total_rule loads size) [] both.1 in
    ltb-false most_total (sum loads + size) (whole_passed 39 (ltb most_total (sum loads + size)) last.0)

module _ (n : ℕ) (slots : List ℕ) (b size : ℕ) (e : declined (take n slots) size ≡ Ok tt) (there : b < n) (h : b < length (take n slots)) where
  -- one bin with the item stays within the limit of all of them
  pub slot_room : get_or slots b 0 + size ≤ most_total
  slot_room = omega (arith, admitted (take n slots) size e, get_or-le-sum_by (λ x. x) (take n slots) b 0 h, get_or-take n slots b 0 there)

  -- and so do all of them once it is raised
  pub raised_light : sum (take n (set slots b (get_or slots b 0 + size))) ≤ most_total
  raised_light = omega (arith, admitted (take n slots) size e, sum_raised (take n slots) b size h, ap sum (raised_slot n slots b size there))

-- what holds of the bin that is chosen holds of the bin that is answered
pub made_answered : (loads : List ℕ) (size b : ℕ) (P : ℕ → Type 0) (r : Result ℕ Fault) → r ≡ answered loads size b → P b → IfOk r P
made_answered loads size b P r e h = subst (λ a. IfOk a P) (sym e) (made_after (declined loads size))
  where
    made_after : (d : Result (Unit {0}) Fault) → IfOk (next_after d (Ok b)) P
    made_after (Ok u) = h
    made_after (Err f) = tt

-- the bin that is answered is the one that the choice gives
pub ruled_answered : (choose : List ℕ → ℕ → ℕ) (loads : List ℕ) (size : ℕ) (r : Result ℕ Fault) → r ≡ answered loads size (choose loads size) → IfOk r (λ b. by_choice choose loads size b ≡ true)
ruled_answered choose loads size r e = made_answered loads size (choose loads size) (λ b. by_choice choose loads size b ≡ true) r e (eq-eqb (choose loads size) (choose loads size) refl)

-- and so an item that is placed where the choice says is placed by it
pub placed_by : (choose : List ℕ → ℕ → ℕ) (Fits : List ℕ → ℕ → ℕ → Type 0) (loads : List ℕ) (size : ℕ) (r : Result ℕ Fault) (after : List ℕ)
    → Placed loads size r after → r ≡ answered loads size (choose loads size) → Fits loads size (choose loads size) → PlacedBy choose Fits loads size r after
placed_by choose Fits loads size r after p e h =
    record { placed = p; ruled = ruled_answered choose loads size r e; chosen = e; fits = made_answered loads size (choose loads size) (Fits loads size) r e h }
