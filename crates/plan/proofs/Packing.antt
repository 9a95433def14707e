-- Items fit where a packing has room for them, and items that fit have no larger sum than the bins together.
use Rattle.std.proofs.Common.{◌≡◌, ℕ, suc, ◌+◌, ◌-◌, ◌*◌, ◌<◌, ◌≤◌, cond, ◌&&◌, eqb, List, [], ◌∷◌, map, length, sum, sym, refl, ap, ◌∙◌, subst, inl, inr, suc-mul, add-one, arith}
use Rattle.std.specs.List.{AllByRecursion}
use Rattle.std.proofs.lemmas.Bool.{eq-eqb, ne_eqb, cases_eq, and_left, and_right, and_from, cond-true, cond-false}
use Rattle.std.proofs.lemmas.List.{length-map}
use Rattle.std.proofs.lemmas.List.Sums.{sum_by-cons}
use Rattle.certificate.specs.Certificates.{total}
use Rattle.plan.specs.Bound.{carries, Fit}
use Rattle.plan.proofs.Counting.{is_one, is_one_same, is_one_other, often}
use Rattle.plan.proofs.Counting.{total_like, total_most, total_plus, total_none, total_change, total_place}

-- a packing: how many items of each class each packing bin holds
abbrev pub Packing : Type 0
Packing = ℕ → ℕ → ℕ

-- how many items of class k the first m bins hold
abbrev pub held : Packing → ℕ → ℕ → ℕ
held W m k = total (λ j. W j k) m

-- what bin j holds of the first K classes, where class k has size z k
abbrev pub volume : Packing → (ℕ → ℕ) → ℕ → ℕ → ℕ
volume W z K j = total (λ k. W j k * z k) K

-- what bin b gets of an item of size x that is placed into bin c
abbrev pub share : ℕ → ℕ → ℕ → ℕ
share c b x = cond (eqb c b) x 0

-- its own bin gets all of it
pub share_own : (c x : ℕ) → share c c x ≡ x
share_own c x = cond-true (eqb c c) x 0 (eq-eqb c c refl)

-- any other bin gets nothing
pub share_other : (c b x : ℕ) → (c ≡ b → ⊥) → share c b x ≡ 0
share_other c b x ne = cond-false (eqb c b) x 0 (ne_eqb c b ne)

-- the packing without one item of class k in bin j
abbrev pub taken : Packing → ℕ → ℕ → Packing
taken W j k x y = W x y - cond (eqb x j && eqb y k) 1 0

module _ (W : Packing) (j k : ℕ) where
  -- another bin holds what it held
  other_bin : (x y : ℕ) → (x ≡ j → ⊥) → taken W j k x y ≡ W x y
  other_bin x y ne = ap (λ t. W x y - cond t 1 0) (and_left (eqb x j) (eqb y k) (ne_eqb x j ne)) ∙ (omega arith)

  -- of another class each bin holds what it held
  other_class : (x y : ℕ) → (y ≡ k → ⊥) → taken W j k x y ≡ W x y
  other_class x y ne = ap (λ t. W x y - cond t 1 0) (and_right (eqb x j) (eqb y k) (ne_eqb y k ne)) ∙ (omega arith)

  -- the bin has one item less of the class
  one_less : 1 ≤ W j k → taken W j k j k + 1 ≡ W j k
  one_less h =
      let here = ap (λ t. W j k - cond t 1 0) (and_from (eqb j j) (eqb k k) (eq-eqb j j refl) (eq-eqb k k refl)) in
      omega (arith, here)

  -- all bins together have one item less of the class, and as many of another
  held_taken : (m y : ℕ) → j < m → 1 ≤ W j k → held (taken W j k) m y + is_one k y ≡ held W m y
  held_taken m y l h =
      elim (cases_eq k y) [
        | inl e ↦
            let change = total_change (λ x. taken W j k x k) (λ x. W x k) j m l (λ x p q. other_bin x k q) in
            let less : held (taken W j k) m k + is_one k k ≡ held W m k = omega (arith, is_one_same k k refl, one_less h) in
            subst (λ z. held (taken W j k) m z + is_one k z ≡ held W m z) e less
        | inr ne ↦
            let rest = total_like (λ x. taken W j k x y) (λ x. W x y) m (λ x p. other_class x y (λ q. ne (sym q))) in
            omega (arith, is_one_other k y ne)
      ]

  -- what the bin holds of the class is the item's size less
  product_less : (z : ℕ → ℕ) → 1 ≤ W j k → W j k * z k ≡ taken W j k j k * z k + z k
  product_less z h = ap (λ n. n * z k) (sym (one_less h) ∙ add-one (taken W j k j k)) ∙ suc-mul (taken W j k j k) (z k)

  -- the bin has the item's size less, and each other bin what it had
  volume_taken : (z : ℕ → ℕ) (K b : ℕ) → k < K → 1 ≤ W j k → share j b (z k) + volume (taken W j k) z K b ≡ volume W z K b
  volume_taken z K b l h =
      let before : ℕ → ℕ → ℕ = λ x y. W x y * z y in
      let after : ℕ → ℕ → ℕ = λ x y. taken W j k x y * z y in
      elim (cases_eq j b) [
        | inl e ↦
            let change = total_change (after j) (before j) k K l (λ y p q. ap (λ n. n * z y) (other_class j y q)) in
            let less : share j j (z k) + total (after j) K ≡ total (before j) K = omega (arith, share_own j (z k), product_less z h) in
            subst (λ x. share j x (z k) + total (after x) K ≡ total (before x) K) e less
        | inr ne ↦
            let rest = total_like (after b) (before b) K (λ y p. ap (λ n. n * z y) (other_bin b y (λ q. ne (sym q)))) in
            omega (arith, share_other j b (z k) ne)
      ]

-- the items of these classes are given bins below m so that no bin gets more than the packing's bin holds
abbrev pub PackedInto : Packing → (ℕ → ℕ) → ℕ → ℕ → List ℕ → Type 0
PackedInto W z m K ks =
    (bs : List ℕ) × (length bs ≡ length ks) × AllByRecursion (λ b. b < m) bs
    × ((b : ℕ) → b < m → carries (map z ks) bs b ≤ volume W z K b)

-- no class stands among the items more often than the packing holds it:
-- each item is given a bin that still has one of its class
pub packed_into :
    (W : Packing) (z : ℕ → ℕ) (m K : ℕ) (ks : List ℕ) → AllByRecursion (λ k. k < K) ks
    → ((k : ℕ) → k < K → often k ks ≤ held W m k) → PackedInto W z m K ks
packed_into W z m K [] below enough = ([], refl, tt, λ b l. omega arith)
packed_into W z m K (k ∷ ks) below enough =
    let place = total_place (λ j. W j k) m (omega (arith, is_one_same k k refl, enough k below.0)) in
    let j = place.0 in
    let fewer = λ (y : ℕ). held_taken W j k m y place.1 place.2 in
    let rest = packed_into (taken W j k) z m K ks below.1 (λ y l. omega (arith, enough y l, fewer y)) in
    let lighter = λ (b : ℕ). volume_taken W j k z K b below.0 place.2 in
    (j ∷ rest.0, ap suc rest.1, (place.1, rest.2), λ b l. omega (arith, rest.3 b l, lighter b))

-- and where no packing bin holds more than t, the items fit
pub fit_from_packing :
    (W : Packing) (z : ℕ → ℕ) (m t K : ℕ) (ks : List ℕ) → AllByRecursion (λ k. k < K) ks
    → ((k : ℕ) → k < K → often k ks ≤ held W m k) → ((j : ℕ) → j < m → volume W z K j ≤ t) → Fit m t (map z ks)
fit_from_packing W z m t K ks below enough room =
    let packed = packed_into W z m K ks below enough in
    (packed.0, packed.1 ∙ sym (length-map ks z), packed.2, λ b l. omega (arith, packed.3 b l, room b l))

-- ---- the sum of items that fit

-- a number counted at its bin alone
one_bin : (x c m : ℕ) → c < m → total (λ b. share c b x) m ≡ x
one_bin x c m l =
    let change = total_change (λ b. share c b x) (λ b. 0) c m l (λ b p q. share_other c b x (λ e. q (sym e))) in
    omega (arith, share_own c x, total_none m)

-- the bins together carry all items
pub carried_sum : (m : ℕ) (xs bs : List ℕ) → length bs ≡ length xs → AllByRecursion (λ b. b < m) bs → total (carries xs bs) m ≡ sum xs
carried_sum m [] bs e below = total_none m
carried_sum m (x ∷ xs) [] e below = absurd (omega arith)
carried_sum m (x ∷ xs) (c ∷ cs) e below =
    let rest = carried_sum m xs cs (omega arith) below.1 in
    omega (arith, total_plus (λ b. share c b x) (carries xs cs) m, one_bin x c m below.0, sum_by-cons (λ n. n) x xs)

-- items that fit add up to at most m times t
pub fit_sum : (m t : ℕ) (items : List ℕ) → Fit m t items → sum items ≤ m * t
fit_sum m t items fit = omega (arith, carried_sum m items fit.0 fit.1 fit.2, total_most (carries items fit.0) t m fit.3)

-- items of size s and more add up to at least s for each
pub sum_least : (s : ℕ) (items : List ℕ) → AllByRecursion (λ x. s ≤ x) items → length items * s ≤ sum items
sum_least s [] h = omega arith
sum_least s (x ∷ xs) h = rw suc-mul (omega (arith, sum_least s xs h.1, h.0, sum_by-cons (λ n. n) x xs))

-- so many items of size s and more fit, and no more
pub fit_few : (m t s : ℕ) (items : List ℕ) → AllByRecursion (λ x. s ≤ x) items → Fit m t items → length items * s ≤ m * t
fit_few m t s items h fit = omega (arith, sum_least s items h, fit_sum m t items fit)
