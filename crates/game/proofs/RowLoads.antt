-- The loads of the row that stands for a game: they descend, and are the player's in some order.
use Rattle.std.proofs.Common.{◌≡◌, ℕ, zero, suc, ◌+◌, ◌<◌, ◌≤◌, Bool, true, false, eqb, leb, List, [], ◌∷◌, length, get_or, sum, sym, refl, ◌∙◌, suc-add, arith}
use Rattle.std.specs.List.{IsAllAdjacentAnswer, list_all}
use Rattle.std.proofs.lemmas.Bool.{and_from, and_left, and_right, eq-eqb, leb-true, le-leb}
use Rattle.std.proofs.lemmas.Bool.Decides.{nat_tests}
use Rattle.std.proofs.lemmas.List.Recursion.{is_count_by}
use Rattle.std.proofs.lemmas.List.Elements.{All-from_get_or}
use Rattle.std.proofs.lemmas.List.Sums.{list_all-from_AllPass, sum_by-le}
use Rattle.certificate.specs.Certificates.{Certificate, row}
use Rattle.certificate.specs.Lawful.{Lawful}
use Rattle.plan.specs.Winning.{Winning}
use Rattle.plan.proofs.Counting.{often as stands-often}
use Rattle.plan.proofs.Step.{Reached, reached_loads}
use Rattle.game.specs.Loads.{often, descending, reordered, row_is}

-- numbers that do not rise from place to place descend
descends : (xs : List ℕ) → ((j : ℕ) → j + 1 < length xs → get_or xs (j + 1) 0 ≤ get_or xs j 0) → descending xs ≡ true
descends [] h = refl
descends (x ∷ []) h = refl
descends (x ∷ (y ∷ xs)) h = and_from (leb y x) (descending (y ∷ xs)) (le-leb y x (h 0 (omega arith))) (descends (y ∷ xs) (λ j l. rw suc-add at (h (suc j) (omega arith))))

-- numbers that rise at some place do not
rises : (xs : List ℕ) (j : ℕ) → j + 1 < length xs → leb (get_or xs (j + 1) 0) (get_or xs j 0) ≡ false → descending xs ≡ false
rises [] j l e = absurd (omega arith)
rises (x ∷ []) j l e = absurd (omega arith)
rises (x ∷ (y ∷ xs)) zero l e = and_left (leb y x) (descending (y ∷ xs)) e
rises (x ∷ (y ∷ xs)) (suc j) l e = and_right (leb y x) (descending (y ∷ xs)) (rises (y ∷ xs) j (omega arith) (rw suc-add at e))

-- what `is_sorted_by` answers says whether numbers descend
pub sorted_descends : (xs : List ℕ) (r : Bool) → IsAllAdjacentAnswer (λ x y b. b ≡ leb y x) xs r → r ≡ descending xs
sorted_descends xs true h = sym (descends xs (λ j l. leb-true (get_or xs (j + 1) 0) (get_or xs j 0) (sym (h j 0 l))))
sorted_descends xs false (j, l, h) = sym (rises xs j l (sym (h 0)))

-- the count here is the one that the steps of a game are stated by
often_is : (v : ℕ) (xs : List ℕ) → stands-often v xs ≡ often v xs
often_is v xs = is_count_by (stands-often v) (λ x. eqb x v) refl (λ x ys. grind (arith, nat_tests)) xs

-- the row that stands for a game has the loads of its bins
pub row_is_reached :
    (c : Certificate) → Lawful c → Winning c → (loads : List ℕ) {ks : List ℕ} (i : ℕ) → length loads ≡ c.bins → Reached c ks (λ b. get_or loads b 0) i
    → row_is (row c i).loads loads ≡ true
row_is_reached c lawful winning loads i e r =
    let xs = (row c i).loads in
    let size : length xs ≡ c.bins = lawful.all_loads i r.there in
    let as-often = λ (v : ℕ). sym (often_is v xs) ∙ (reached_loads c loads e r v ∙ often_is v loads) in
    let down = descends xs (λ j l. winning.descends i j r.there (omega (arith, size))) in
    let each = list_all-from_AllPass (λ x. eqb (often x xs) (often x loads)) xs (λ k d l. eq-eqb (often (get_or xs k d) xs) (often (get_or xs k d) loads) (as-often (get_or xs k d))) in
    let order = and_from (eqb (length xs) (length loads)) (list_all (λ x. eqb (often x xs) (often x loads)) xs) (eq-eqb (length xs) (length loads) (size ∙ sym e)) each in
    and_from (descending xs) (reordered xs loads) down order

-- bins that are below the target weigh little
pub sum_light : (c : Certificate) → Lawful c → (xs : List ℕ) → length xs ≡ c.bins → ((b : ℕ) → b < c.bins → get_or xs b 0 < c.target) → sum xs ≤ 2032
sum_light c lawful xs e h =
    let each = All-from_get_or (λ x. x ≤ 254) xs 0 (λ b l. omega (arith, h b (omega arith), lawful.target_range.1, lawful.some_capacity.1)) in
    omega (arith, sum_by-le (λ x. x) 254 xs each, lawful.some_bins.1)
