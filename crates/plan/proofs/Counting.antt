-- How often a number stands in a list, and sums over the numbers below a bound.
use Rattle.std.proofs.Common.{◌≡◌, ℕ, zero, suc, ◌+◌, ◌*◌, ◌<◌, ◌≤◌, cond, eqb, ltb, List, [], ◌∷◌, ◌++◌, length, get_or, set, replicate, sym, refl, ap, subst, inl, inr, suc-mul, arith}
use Rattle.std.proofs.lemmas.Bool.{eq-eqb, ne_eqb, cases_eq, cases_lt, cond_both, cond-true, cond-false}
use Rattle.std.proofs.lemmas.List.{get_or-set_same, get_or-set_other}
use Rattle.certificate.specs.Certificates.{total}
use Rattle.positions.specs.Positions.{without, insert, next_loads, next_counts}

-- 1 where x is v, else 0
abbrev pub is_one : ℕ → ℕ → ℕ
is_one x v = cond (eqb x v) 1 0

-- so it is 1 where they are equal
pub is_one_same : (x v : ℕ) → x ≡ v → is_one x v ≡ 1
is_one_same x v e = cond-true (eqb x v) 1 0 (eq-eqb x v e)

-- and 0 where they are not
pub is_one_other : (x v : ℕ) → (x ≡ v → ⊥) → is_one x v ≡ 0
is_one_other x v ne = cond-false (eqb x v) 1 0 (ne_eqb x v ne)

-- how often v stands in a list
abbrev pub often : ℕ → List ℕ → ℕ
often v [] = 0
often v (x ∷ xs) = is_one x v + often v xs

-- how many of the bins below m carry v, where bin b carries L b
abbrev pub bearing : (ℕ → ℕ) → ℕ → ℕ → ℕ
bearing L v m = total (λ b. is_one (L b) v) m

-- ---- sums over the numbers below n

-- equal terms, equal sums
pub total_like : (f g : ℕ → ℕ) (n : ℕ) → ((k : ℕ) → k < n → f k ≡ g k) → total f n ≡ total g n
total_like f g zero h = refl
total_like f g (suc n) h = let rest = total_like f g n (λ k l. h k (omega arith)) in omega (arith, h n (omega arith))

-- each term is at most t: the sum is at most n times t
pub total_most : (f : ℕ → ℕ) (t n : ℕ) → ((k : ℕ) → k < n → f k ≤ t) → total f n ≤ n * t
total_most f t zero h = omega arith
total_most f t (suc n) h = let rest = total_most f t n (λ k l. h k (omega arith)) in rw suc-mul (omega (arith, h n (omega arith)))

-- the sum of two terms is summed apart
pub total_plus : (f g : ℕ → ℕ) (n : ℕ) → total (λ k. f k + g k) n ≡ total f n + total g n
total_plus f g zero = refl
total_plus f g (suc n) = omega (arith, total_plus f g n)

-- no term, no sum
pub total_none : (n : ℕ) → total (λ k. 0) n ≡ 0
total_none zero = refl
total_none (suc n) = omega (arith, total_none n)

-- the terms differ at one place only: so much do the sums
pub total_change : (f g : ℕ → ℕ) (j n : ℕ) → j < n → ((k : ℕ) → k < n → (k ≡ j → ⊥) → f k ≡ g k) → total f n + g j ≡ total g n + f j
total_change f g j zero l h = absurd (omega arith)
total_change f g j (suc n) l h =
    elim (cases_eq j n) [
      | inl e ↦
          let rest = total_like f g n (λ k p. h k (omega arith) (λ q. omega arith)) in
          subst (λ x. (total f n + f n) + g x ≡ (total g n + g n) + f x) (sym e) (omega arith)
      | inr ne ↦
          let rest = total_change f g j n (omega arith) (λ k p q. h k (omega arith) q) in
          omega (arith, h n (omega arith) (λ q. ne (sym q)))
    ]

-- a sum that is not 0 has a term that is not 0
pub total_place : (f : ℕ → ℕ) (n : ℕ) → 1 ≤ total f n → (j : ℕ) × (j < n) × (1 ≤ f j)
total_place f zero h = absurd (omega arith)
total_place f (suc n) h =
    elim (cases_lt 0 (f n)) [
      | inl l ↦ (n, omega arith, l)
      | inr l ↦ let below = total_place f n (omega arith) in (below.0, omega (arith, below.1), below.2)
    ]

-- a term is at most the sum
pub total_at : (f : ℕ → ℕ) (j n : ℕ) → j < n → f j ≤ total f n
total_at f j zero l = absurd (omega arith)
total_at f j (suc n) l =
    elim (cases_eq j n) [
      | inl e ↦ subst (λ x. f x ≤ total f n + f n) (sym e) (omega arith)
      | inr ne ↦ omega (arith, total_at f j n (omega arith))
    ]

-- the first term taken apart from the others
pub total_first : (f : ℕ → ℕ) (n : ℕ) → total f (suc n) ≡ f 0 + total (λ k. f (suc k)) n
total_first f zero = omega arith
total_first f (suc n) = omega (arith, total_first f n)

-- ---- how often a number stands in a list

-- one more at the end
pub often_push : (v : ℕ) (xs : List ℕ) (x : ℕ) → often v (xs ++ x ∷ []) ≡ often v xs + is_one x v
often_push v [] x = omega arith
often_push v (y ∷ xs) x = omega (arith, often_push v xs x)

-- one more put in
pub often_insert : (v x : ℕ) (xs : List ℕ) → often v (insert x xs) ≡ often v xs + is_one x v
often_insert v x [] = omega arith
often_insert v x (y ∷ xs) =
    let One-more : List ℕ → Type 0 = λ zs. often v zs ≡ (is_one y v + often v xs) + is_one x v in
    cond_both (ltb y x) (x ∷ (y ∷ xs)) (y ∷ insert x xs) One-more (λ _. omega arith) (λ _. omega (arith, often_insert v x xs))

-- one taken out
pub often_without : (v j : ℕ) (xs : List ℕ) → j < length xs → often v (without j xs) + is_one (get_or xs j 0) v ≡ often v xs
often_without v j [] l = absurd (omega arith)
often_without v zero (x ∷ xs) l = omega arith
often_without v (suc j) (x ∷ xs) l = omega (arith, often_without v j xs (omega arith))

-- the load at place j is raised by s: what it was stands once less, and what it becomes once more
pub often_next_loads :
    (v : ℕ) (loads : List ℕ) (j s : ℕ) → j < length loads
    → often v (next_loads loads j s) + is_one (get_or loads j 0) v ≡ often v loads + is_one (get_or loads j 0 + s) v
often_next_loads v loads j s l = omega (arith, often_insert v (get_or loads j 0 + s) (without j loads), often_without v j loads l)

-- what stands in a list has a place there
pub often_place : (v : ℕ) (xs : List ℕ) → 1 ≤ often v xs → (j : ℕ) × (j < length xs) × (get_or xs j 0 ≡ v)
often_place v [] h = absurd (omega arith)
often_place v (x ∷ xs) h =
    elim (cases_eq x v) [
      | inl e ↦ (0, omega arith, e)
      | inr ne ↦ let rest = often_place v xs (omega (arith, is_one_other x v ne)) in (suc rest.0, omega (arith, rest.1), rest.2)
    ]

-- a list of n zeros
pub often_zeros : (v n : ℕ) → often v (replicate n 0) ≡ bearing (λ b. 0) v n
often_zeros v zero = refl
often_zeros v (suc n) = omega (arith, often_zeros v n)

-- ---- how many bins carry a number

-- the loads of a list, read by place
pub often_bearing : (v : ℕ) (xs : List ℕ) → often v xs ≡ bearing (λ b. get_or xs b 0) v (length xs)
often_bearing v [] = refl
often_bearing v (x ∷ xs) = omega (arith, often_bearing v xs, total_first (λ b. is_one (get_or (x ∷ xs) b 0) v) (length xs))

-- equal loads are borne equally
pub bearing_like : (L M : ℕ → ℕ) (v m : ℕ) → ((b : ℕ) → b < m → L b ≡ M b) → bearing L v m ≡ bearing M v m
bearing_like L M v m h = total_like (λ b. is_one (L b) v) (λ b. is_one (M b) v) m (λ b l. ap (λ x. is_one x v) (h b l))

-- a bin's own load is borne
pub bearing_own : (L : ℕ → ℕ) (b m : ℕ) → b < m → 1 ≤ bearing L (L b) m
bearing_own L b m l = omega (arith, is_one_same (L b) (L b) refl, total_at (λ x. is_one (L x) (L b)) b m l)

-- one bin's load changes: what it was is borne once less, and what it becomes once more
pub bearing_change :
    (L M : ℕ → ℕ) (v b m : ℕ) → b < m → ((x : ℕ) → x < m → (x ≡ b → ⊥) → L x ≡ M x)
    → bearing L v m + is_one (M b) v ≡ bearing M v m + is_one (L b) v
bearing_change L M v b m l h =
    total_change (λ x. is_one (L x) v) (λ x. is_one (M x) v) b m l (λ x p q. ap (λ y. is_one y v) (h x p q))

-- ---- the counts of the position that follows

-- one more item of class k is placed, and as many of any other
pub next_counts_at : (counts : List ℕ) (k y : ℕ) → k < length counts → get_or (next_counts counts k) y 0 ≡ get_or counts y 0 + is_one k y
next_counts_at counts k y l =
    let n = get_or counts k 0 + 1 in
    let At : ℕ → Type 0 = λ x. get_or (set counts k n) x 0 ≡ get_or counts x 0 + is_one k x in
    elim (cases_eq k y) [
      | inl e ↦ subst At e (omega (arith, is_one_same k k refl, get_or-set_same counts k n 0 l))
      | inr ne ↦ omega (arith, is_one_other k y ne, get_or-set_other counts k y n 0 (λ q. ne (sym q)))
    ]
