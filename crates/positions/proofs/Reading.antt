-- Reading a row number by number, from a store's answers.
use Rattle.std.proofs.Common.{◌≡◌, ℕ, zero, suc, add-one, ◌<◌, ◌≤◌, Bool, true, false, ◌&&◌, ltb, ◌⊎◌, List, [], ◌++◌, length, get_or, take, Some, None, Option, option_to_list, unwrap_or, sym, refl, ap, ◌∙◌, subst, inl, inr, arith}
use Rattle.std.proofs.lemmas.Bool.{ltb-true, ltb-false, lt-ltb, le-ltb, and_parts, and_from, and_cases, cases_lt, both_ways}
use Rattle.std.proofs.lemmas.List.{get_or_past, take_more, take_all}
use Rattle.certificate.specs.Certificates.{Certificate, Row, no_row, given, class_count, row_count, row, size, load, count, offered, packed, size_at, load_at, count_at, offered_at, packed_at}
use Rattle.certificate.specs.Lawful.{Lawful}
use Rattle.positions.specs.Positions.{gathered}

-- what is given is there
pub given_some : (b : Bool) (y x : ℕ) → Some x ≡ given b y → (b ≡ true) × (x ≡ y)
given_some true y x e = (refl, cc)
given_some false y x e = let z : ◌≡◌ {A = ℕ} 0 1 = cc in absurd (omega arith)

-- what is not given is not there
pub given_none : (b : Bool) (y : ℕ) → None ≡ given b y → b ≡ false
given_none true y e = let z : ◌≡◌ {A = ℕ} 0 1 = cc in absurd (omega arith)
given_none false y e = refl

-- a missing row has no numbers
pub missing_row : (c : Certificate) (i : ℕ) → row_count c ≤ i → row c i ≡ no_row
missing_row c i l = get_or_past c.rows i no_row l

module _ (c : Certificate) (i n : ℕ) (xs : List ℕ) (full : i < row_count c → length xs ≡ n) (none : row_count c ≤ i → xs ≡ []) where
  -- what is told of place j of a list of n numbers that row i has
  abbrev told : ℕ → Option ℕ
  told j = given (ltb i (row_count c) && ltb j n) (get_or xs j 0)

  there : i < row_count c → (j : ℕ) → j ≤ n → gathered told j ≡ take j xs
  there l zero h = refl
  there l (suc j) h =
      let inside : j < length xs = omega (arith, full l) in
      let one : told j ≡ Some (get_or xs j 0) = ap (λ b. given b (get_or xs j 0)) (and_from (ltb i (row_count c)) (ltb j n) (lt-ltb i (row_count c) l) (lt-ltb j n (omega arith))) in
      (λ t. there l j (omega arith) t ++ option_to_list (one t)) ∙ (sym (take_more xs j 0 inside) ∙ ap (λ m. take m xs) (add-one j))

  missing : row_count c ≤ i → (j : ℕ) → gathered told j ≡ []
  missing l zero = refl
  missing l (suc j) =
      let nothing : told j ≡ None = ap (λ b. given (b && ltb j n) (get_or xs j 0)) (le-ltb i (row_count c) l) in
      λ t. missing l j t ++ option_to_list (nothing t)

  -- all that is told of the row's numbers is all of them
  pub gathered_row : gathered told n ≡ xs
  gathered_row =
      elim (cases_lt i (row_count c)) [
        | inl l ↦ there l n (omega arith) ∙ take_all n xs (omega (arith, full l))
        | inr l ↦ missing l n ∙ sym (none l)
      ]

-- the loads and the counts of a missing row
pub no_loads : (c : Certificate) (i : ℕ) → row_count c ≤ i → (row c i).loads ≡ []
no_loads c i l = ap (λ (r : Row). r.loads) (missing_row c i l)

pub no_counts : (c : Certificate) (i : ℕ) → row_count c ≤ i → (row c i).counts ≡ []
no_counts c i l = ap (λ (r : Row). r.counts) (missing_row c i l)

-- ---- what an answer tells

module _ (c : Certificate) where
  pub load_told : (i j x : ℕ) → Some x ≡ load_at c i j → (i < row_count c) × (j < c.bins) × (x ≡ load c i j)
  load_told i j x e =
      let p = given_some (ltb i (row_count c) && ltb j c.bins) (load c i j) x e in
      let q = and_parts (ltb i (row_count c)) (ltb j c.bins) p.0 in
      (ltb-true i (row_count c) q.0, ltb-true j c.bins q.1, p.1)

  pub offered_told : (i k : ℕ) → Some k ≡ offered_at c i → (i < row_count c) × (k ≡ offered c i)
  offered_told i k e =
      let p = given_some (ltb i (row_count c)) (offered c i) k e in
      (ltb-true i (row_count c) p.0, p.1)

  -- a size that is there
  pub size_told : (k x : ℕ) → k < class_count c → x ≡ unwrap_or (size_at c k) 0 → x ≡ size c k
  size_told k x l e = e ∙ ap (λ b. unwrap_or (given b (size c k)) 0) (lt-ltb k (class_count c) l)

  -- an answer of none is about a missing row or bin
  pub load_none : (i j : ℕ) → None ≡ load_at c i j → (i < row_count c) × (j < c.bins) → ⊥
  load_none i j e h =
      both_ways (ltb i (row_count c) && ltb j c.bins) (given_none (ltb i (row_count c) && ltb j c.bins) (load c i j) e) (and_from (ltb i (row_count c)) (ltb j c.bins) (lt-ltb i (row_count c) h.0) (lt-ltb j c.bins h.1))

  pub offered_none : (i : ℕ) → None ≡ offered_at c i → i < row_count c → ⊥
  offered_none i e l = both_ways (ltb i (row_count c)) (given_none (ltb i (row_count c)) (offered c i) e) (lt-ltb i (row_count c) l)

  module _ (lawful : Lawful c) (i : ℕ) (l : i < row_count c) where
    -- a bin has a load in the row
    pub load_there : (xs : List ℕ) → xs ≡ (row c i).loads → (j : ℕ) → j < c.bins → j < length xs
    load_there xs e j b = subst (λ n. j < n) (sym (lawful.all_loads i l) ∙ ap length (sym e)) b

    -- the offered class has a count in the row, which is a byte
    pub offered_there : (xs : List ℕ) → xs ≡ (row c i).counts → (k : ℕ) → k ≡ offered c i → (k < length xs) × (get_or xs k 0 < 65536)
    offered_there xs e k p =
        let inside : k < class_count c = subst (λ x. x < class_count c) (sym p) (lawful.offered_range i l) in
        (subst (λ n. k < n) (sym (lawful.all_counts i l) ∙ ap length (sym e)) inside, subst (λ ys. get_or ys k 0 < 65536) (sym e) (omega (arith, lawful.count_range i k)))

-- ---- a number that is read, 0 where it is missing

past_given : (b : Bool) (y : ℕ) → (b ≡ false → y ≡ 0) → unwrap_or (given b y) 0 ≡ y
past_given true y h = refl
past_given false y h = sym (h refl)

module _ (c : Certificate) (lawful : Lawful c) where
  pub size_read : (k : ℕ) → unwrap_or (size_at c k) 0 ≡ size c k
  size_read k = past_given (ltb k (class_count c)) (size c k) (λ e. get_or_past c.sizes k 0 (ltb-false k (class_count c) e))

  -- the number at place j of a list of n numbers that a row has
  row_read : (i j n : ℕ) (xs : List ℕ) → (i < row_count c → length xs ≡ n) → (row_count c ≤ i → xs ≡ []) → unwrap_or (given (ltb i (row_count c) && ltb j n) (get_or xs j 0)) 0 ≡ get_or xs j 0
  row_read i j n xs full none = past_given (ltb i (row_count c) && ltb j n) (get_or xs j 0) (λ e. get_or_past xs j 0 (elim (cases_lt i (row_count c)) [
    | inr b ↦ omega (arith, ap length (none b))
    | inl b ↦ elim (and_cases (ltb i (row_count c)) (ltb j n) e) [
      | inl p ↦ absurd (both_ways (ltb i (row_count c)) p (lt-ltb i (row_count c) b))
      | inr p ↦ omega (arith, full b, ltb-false j n p)
    ]
  ]))

  pub load_read : (i j : ℕ) → unwrap_or (load_at c i j) 0 ≡ load c i j
  load_read i j = row_read i j c.bins (row c i).loads (lawful.all_loads i) (no_loads c i)

  pub count_read : (i k : ℕ) → unwrap_or (count_at c i k) 0 ≡ count c i k
  count_read i k = row_read i k (class_count c) (row c i).counts (lawful.all_counts i) (no_counts c i)

  pub offered_read : (i : ℕ) → unwrap_or (offered_at c i) 0 ≡ offered c i
  offered_read i = past_given (ltb i (row_count c)) (offered c i) (λ e. ap (λ (r : Row). r.offered) (missing_row c i (ltb-false i (row_count c) e)))

  -- the counts of a packing bin that is missing
  no_packed : (i j : ℕ) → (row_count c ≤ i) ⊎ (c.bins ≤ j) → get_or (row c i).witness j [] ≡ []
  no_packed i j (inl h) = ap (λ (r : Row). get_or r.witness j []) (missing_row c i h)
  no_packed i j (inr h) = elim (cases_lt i (row_count c)) [
    | inl b ↦ get_or_past (row c i).witness j [] (omega (arith, lawful.all_packed i b))
    | inr b ↦ ap (λ (r : Row). get_or r.witness j []) (missing_row c i b)
  ]

  pub packed_read : (i j k : ℕ) → unwrap_or (packed_at c i j k) 0 ≡ packed c i j k
  packed_read i j k = past_given (ltb i (row_count c) && (ltb j c.bins && ltb k (class_count c))) (packed c i j k) (λ e. elim (cases_lt i (row_count c)) [
    | inr b ↦ ap (λ xs. get_or xs k 0) (no_packed i j (inl b))
    | inl b ↦ elim (cases_lt j c.bins) [
      | inr d ↦ ap (λ xs. get_or xs k 0) (no_packed i j (inr d))
      | inl d ↦ get_or_past (get_or (row c i).witness j []) k 0 (elim (cases_lt k (class_count c)) [
        | inr f ↦ omega (arith, lawful.all_packed_counts i j b d)
        | inl f ↦ absurd (both_ways (ltb i (row_count c) && (ltb j c.bins && ltb k (class_count c))) e (and_from (ltb i (row_count c)) (ltb j c.bins && ltb k (class_count c)) (lt-ltb i (row_count c) b) (and_from (ltb j c.bins) (ltb k (class_count c)) (lt-ltb j c.bins d) (lt-ltb k (class_count c) f))))
      ])
    ]
  ])
