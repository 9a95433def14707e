-- A winning plan forces the bound: against each algorithm it finds items that fit, and a bin that they raise to the target.
use Rattle.std.proofs.Common.{◌≡◌, ℕ, zero, suc, ◌+◌, ◌*◌, ◌<◌, ◌≤◌, ◌⊎◌, List, [], ◌∷◌, ◌++◌, map, length, sum, sym, refl, ap, ◌∙◌, subst, inl, inr, arith}
use Rattle.std.proofs.lemmas.Bool.{cases_lt}
use Rattle.std.proofs.lemmas.List.{append_assoc, map_push, length-map}
use Rattle.std.proofs.lemmas.List.Sums.{sum_by_push}
use Rattle.certificate.specs.Certificates.{Certificate, size, offered}
use Rattle.certificate.specs.Lawful.{Lawful}
use Rattle.positions.specs.Positions.{offer}
use Rattle.plan.specs.Plan.{bound}
use Rattle.plan.specs.Winning.{Winning}
use Rattle.plan.specs.Bound.{Algorithm, bins_of, carries, Beaten, Forces, ForcesWithin}
use Rattle.plan.proofs.Packing.{fit_sum}
use Rattle.plan.proofs.Sizes.{items_some, fit_bound}
use Rattle.plan.proofs.Step.{Reached, raised, raised_own, reached_start, reached_like, reached_on, classes_more, offer_fits}

-- the algorithm gives a bin to each item
pub length_bins_of : (a : Algorithm) (seen xs : List ℕ) → length (bins_of a seen xs) ≡ length xs
length_bins_of a seen [] = refl
length_bins_of a seen (x ∷ xs) = ap suc (length_bins_of a (seen ++ x ∷ []) xs)

-- one more item gets one more bin, and those before it keep theirs
pub bins_of_push :
    (a : Algorithm) (seen xs : List ℕ) (x : ℕ)
    → bins_of a seen (xs ++ x ∷ []) ≡ bins_of a seen xs ++ a (seen ++ (xs ++ x ∷ [])) ∷ []
bins_of_push a seen [] x = refl
bins_of_push a seen (y ∷ xs) x =
    let now = seen ++ y ∷ [] in
    let all = append_assoc seen (y ∷ []) (xs ++ x ∷ []) in
    ap (λ bs. a now ∷ bs) (bins_of_push a now xs x ∙ ap (λ zs. bins_of a now xs ++ a zs ∷ []) all)

-- one more item raises its bin
pub carries_push :
    (xs bs : List ℕ) (x b y : ℕ) → length bs ≡ length xs
    → carries (xs ++ x ∷ []) (bs ++ b ∷ []) y ≡ raised (carries xs bs) b x y
carries_push [] [] x b y e = omega arith
carries_push [] (d ∷ bs) x b y e = absurd (omega arith)
carries_push (z ∷ xs) [] x b y e = absurd (omega arith)
carries_push (z ∷ xs) (d ∷ bs) x b y e = omega (arith, carries_push xs bs x b y (omega arith))

-- what bin b carries of the items, where the algorithm places them
abbrev pub carried_by : Algorithm → List ℕ → ℕ → ℕ
carried_by a items = carries items (bins_of a [] items)

-- one more item raises the bin that the algorithm gives it
pub carried_by_push :
    (a : Algorithm) (xs : List ℕ) (x y : ℕ)
    → carried_by a (xs ++ x ∷ []) y ≡ raised (carried_by a xs) (a (xs ++ x ∷ [])) x y
carried_by_push a xs x y =
    ap (λ bs. carries (xs ++ x ∷ []) bs y) (bins_of_push a [] xs x)
    ∙ carries_push xs (bins_of a [] xs) x (a (xs ++ x ∷ [])) y (length_bins_of a [] xs)

module _ (c : Certificate) (lawful : Lawful c) (winning : Winning c) (a : Algorithm) (in-range : (xs : List ℕ) → a xs < c.bins) where
  -- what the plan reaches: items that fit, and a bin that they raise to the target
  abbrev Won : Type 0
  Won = (items : List ℕ) × (length items ≤ bound c) × Beaten c.bins c.capacity c.target a items

  -- the items of these classes
  abbrev items_of : List ℕ → List ℕ
  items_of ks = map (size c) ks

  -- what bin b carries, after items of these classes
  abbrev loads_of : List ℕ → ℕ → ℕ
  loads_of ks = carried_by a (items_of ks)

  -- row i stands for the game after items of these classes, which the algorithm placed
  abbrev Played : List ℕ → ℕ → Type 0
  Played ks i = Reached c ks (loads_of ks) i

  -- one more item raises the bin that the algorithm gives it
  loads_more :
      (ks : List ℕ) (k y : ℕ)
      → loads_of (ks ++ k ∷ []) y ≡ raised (loads_of ks) (a (items_of (ks ++ k ∷ []))) (size c k) y
  loads_more ks k y =
      let Raised : List ℕ → Type 0 = λ xs. carried_by a xs y ≡ raised (loads_of ks) (a xs) (size c k) y in
      subst Raised (sym (map_push (size c) ks k)) (carried_by_push a (items_of ks) (size c k) y)

  -- the offered item adds to the sum, which does not grow beyond the bins together
  sum_grows :
      (ks : List ℕ) (i : ℕ) → Played ks i
      → (sum (items_of ks) < sum (items_of (ks ++ offered c i ∷ []))) × (sum (items_of (ks ++ offered c i ∷ [])) ≤ c.bins * c.capacity)
  sum_grows ks i r =
      let k = offered c i in
      let some = (lawful.size_range k (lawful.offered_range i r.there)).0 in
      let more = ap sum (map_push (size c) ks k) ∙ sum_by_push (λ n. n) (items_of ks) (size c k) in
      let room = fit_sum c.bins c.capacity (items_of (ks ++ k ∷ [])) (offer_fits c lawful winning r) in
      (omega arith, room)

  -- one turn: the algorithm places the offered item, and a bin reaches the target or the plan goes on
  turn : (ks : List ℕ) (i : ℕ) → Played ks i → Won ⊎ ((next : ℕ) × Played (ks ++ offered c i ∷ []) next)
  turn ks i r =
      let k = offered c i in
      let more = ks ++ k ∷ [] in
      let b = a (items_of more) in
      let b_there : b < c.bins = in-range (items_of more) in
      let load : loads_of more b ≡ loads_of ks b + offer c i = loads_more ks k b ∙ raised_own (loads_of ks) b (offer c i) in
      elim (cases_lt (loads_of ks b + offer c i) c.target) [
        | inl l ↦
            let on = reached_on c lawful winning b r b_there l in
            inr (on.0, reached_like c (loads_of more) on.1 (λ y q. sym (loads_more ks k y)))
        | inr l ↦
            let some = items_some c lawful more (classes_more c lawful r) in
            let fits = offer_fits c lawful winning r in
            let few : length (items_of more) ≤ bound c = omega (arith, length-map more (size c), fit_bound c lawful more (classes_more c lawful r) fits) in
            inl (items_of more, few, (some, fits, (b, b_there, omega arith)))
      ]

  -- the play from row i: `left` is more than the room that is left in the bins, and falls with each item
  play : (left : ℕ) (ks : List ℕ) (i : ℕ) → Played ks i → c.bins * c.capacity + 1 ≤ left + sum (items_of ks) → Won
  play zero ks i r enough = absurd (omega (arith, sum_grows ks i r))
  play (suc left) ks i r enough =
      elim (turn ks i r) [
        | inl w ↦ w
        | inr on ↦ play left (ks ++ offered c i ∷ []) on.0 on.1 (omega (arith, sum_grows ks i r))
      ]

  -- the plan wins from the empty position
  won : Won
  won =
      let start = winning.starts in
      play (c.bins * c.capacity + 1) [] start.0 (reached_start c start.0 start.1) (omega arith)

-- a winning plan forces the bound, with no more items than can fit
pub winning_forces_within : (c : Certificate) → Lawful c → Winning c → ForcesWithin (bound c) c.bins c.capacity c.target
winning_forces_within c lawful winning a in-range = won c lawful winning a in-range

-- a winning plan forces the bound
pub winning_forces : (c : Certificate) → Lawful c → Winning c → Forces c.bins c.capacity c.target
winning_forces c lawful winning a in-range = let w = winning_forces_within c lawful winning a in-range in (w.0, w.2)
