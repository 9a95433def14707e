-- The game along the rows: what a row says of the items placed so far, and the row that follows when one more is placed.
use Rattle.std.proofs.Common.{◌≡◌, ℕ, ◌+◌, ◌<◌, ◌≤◌, List, [], ◌∷◌, ◌++◌, map, length, get_or, set, sym, ap, ◌∙◌, subst, inl, inr, arith}
use Rattle.std.specs.List.{AllByRecursion}
use Rattle.std.proofs.lemmas.Bool.{cases_eq}
use Rattle.std.proofs.lemmas.Bool.Decides.{nat_tests}
use Rattle.std.proofs.lemmas.List.{get_or-replicate, get_or-set_same, get_or-set_other, length_push}
use Rattle.std.proofs.ByRecursion.{All-push}
use Rattle.certificate.specs.Certificates.{Certificate, class_count, row_count, row, size, load, count, offered, packed, Stands}
use Rattle.certificate.specs.Lawful.{Lawful}
use Rattle.positions.specs.Positions.{empty_loads, empty_counts, next_loads, next_counts, offer}
use Rattle.plan.specs.Plan.{packed_due, bound}
use Rattle.plan.specs.Winning.{Winning}
use Rattle.plan.specs.Bound.{Fit}
use Rattle.plan.proofs.Counting.{is_one, often, often_push, often_next_loads, often_place, often_zeros, next_counts_at}
use Rattle.plan.proofs.Counting.{bearing, often_bearing, bearing_like, bearing_own, bearing_change}
use Rattle.plan.proofs.Packing.{share, share_own, share_other, fit_from_packing}
use Rattle.plan.proofs.Sizes.{fit_bound}

-- the loads after an item of size s is placed into bin b
abbrev pub raised : (ℕ → ℕ) → ℕ → ℕ → ℕ → ℕ
raised L b s x = L x + share b x s

-- the bin itself carries s more
pub raised_own : (L : ℕ → ℕ) (b s : ℕ) → raised L b s b ≡ L b + s
raised_own L b s = ap (λ n. L b + n) (share_own b s)

-- another bin carries what it did
pub raised_other : (L : ℕ → ℕ) (b s x : ℕ) → (x ≡ b → ⊥) → raised L b s x ≡ L x
raised_other L b s x ne = omega (arith, share_other b x s (λ e. ne (sym e)))

-- row i stands for the game in which items of the classes ks were placed, oldest first, and bin b carries L b
pub record Reached (c : Certificate) (ks : List ℕ) (L : ℕ → ℕ) (i : ℕ) : Type 0 where
  pub there : i < row_count c
  pub classes : AllByRecursion (λ k. k < class_count c) ks
  pub counted : (k : ℕ) → k < class_count c → often k ks ≡ count c i k
  pub carried : (v : ℕ) → often v (row c i).loads ≡ bearing L v c.bins

-- row `next` has the position that follows row i when the offered item is placed onto the load at place j
abbrev pub Follows : Certificate → ℕ → ℕ → ℕ → Type 0
Follows c i j next = Stands c (next_loads (row c i).loads j (offer c i)) (next_counts (row c i).counts (offered c i)) next

module _ (c : Certificate) where
  -- the row of the empty position stands for the game with no item
  pub reached_start : (i : ℕ) → Stands c (empty_loads c) (empty_counts c) i → Reached c [] (λ b. 0) i
  reached_start i h = record {
    there = h.0;
    classes = tt;
    counted = λ k l. sym (ap (λ xs. get_or xs k 0) h.2 ∙ get_or-replicate (class_count c) k 0 0 l);
    carried = λ v. ap (often v) h.1 ∙ often_zeros v c.bins;
  }

  -- only the loads of the bins that there are matter
  pub reached_like :
      {ks : List ℕ} {L : ℕ → ℕ} {i : ℕ} (M : ℕ → ℕ) → Reached c ks L i
      → ((b : ℕ) → b < c.bins → L b ≡ M b) → Reached c ks M i
  reached_like {L = L} M r h = record {
    there = r.there;
    classes = r.classes;
    counted = r.counted;
    carried = λ v. r.carried v ∙ bearing_like L M v c.bins h;
  }

  -- the packing of a row holds its items and the offered one
  due_is : (i k : ℕ) → packed_due c i k ≡ count c i k + is_one (offered c i) k
  due_is i k = grind (arith, nat_tests)

  -- items fit if no class stands among them more often than the row has it placed and offered
  pub row_fits :
      Winning c → (i : ℕ) → i < row_count c → (ks : List ℕ) → AllByRecursion (λ k. k < class_count c) ks
      → ((k : ℕ) → k < class_count c → often k ks ≤ packed_due c i k)
      → Fit c.bins c.capacity (map (size c) ks)
  row_fits winning i l ks below enough =
      let held = λ (k : ℕ) (p : k < class_count c). winning.shares i k l p in
      let heavy = λ (j : ℕ) (p : j < c.bins). winning.packs i j l p in
      let fit = fit_from_packing (packed c i) (size c) c.bins c.capacity (class_count c) ks below in
      fit (λ k p. omega (arith, enough k p, held k p)) heavy

  -- the items placed fit
  pub placed_fit : Winning c → {ks : List ℕ} {L : ℕ → ℕ} {i : ℕ} → Reached c ks L i → Fit c.bins c.capacity (map (size c) ks)
  placed_fit winning {ks} {L} {i} r =
      row_fits winning i r.there ks r.classes (λ k l. omega (arith, r.counted k l, due_is i k))

  module _ (lawful : Lawful c) where
    -- the load of each bin stands in the row
    pub place_of_bin :
        {ks : List ℕ} {L : ℕ → ℕ} {i : ℕ} (b : ℕ) → Reached c ks L i → b < c.bins
        → (j : ℕ) × (j < c.bins) × (load c i j ≡ L b)
    place_of_bin {L = L} {i = i} b r l =
        let place = often_place (L b) (row c i).loads (omega (arith, r.carried (L b), bearing_own L b c.bins l)) in
        (place.0, omega (arith, place.1, lawful.all_loads i r.there), place.2)

    -- one more class is offered, and each is in range
    pub classes_more : {ks : List ℕ} {L : ℕ → ℕ} {i : ℕ} → Reached c ks L i → AllByRecursion (λ k. k < class_count c) (ks ++ offered c i ∷ [])
    classes_more {ks} {L} {i} r = All-push (λ k. k < class_count c) ks (offered c i) r.classes (lawful.offered_range i r.there)

    -- the offered item is placed into bin b, whose load stands at place j of row i:
    -- the row of the position that follows stands for the game that follows
    pub reached_next :
        {ks : List ℕ} {L : ℕ → ℕ} {i : ℕ} (b j next : ℕ) → Reached c ks L i → b < c.bins → j < c.bins → load c i j ≡ L b
        → Follows c i j next → Reached c (ks ++ offered c i ∷ []) (raised L b (offer c i)) next
    reached_next {ks} {L} {i} b j next r l p e h =
        let k = offered c i in
        let s = offer c i in
        let k-below : k < class_count c = lawful.offered_range i r.there in
        let in-loads : j < length (row c i).loads = omega (arith, lawful.all_loads i r.there) in
        let in-counts : k < length (row c i).counts = omega (arith, lawful.all_counts i r.there) in
        record {
          there = h.0;
          classes = classes_more r;
          counted = λ y q.
              let counts = ap (λ xs. get_or xs y 0) h.2 ∙ next_counts_at (row c i).counts k y in-counts in
              omega (arith, often_push y ks k, r.counted y q);
          carried = λ v.
              let loads = ap (often v) h.1 in
              let was = ap (λ x. is_one x v) e in
              let becomes = ap (λ x. is_one (x + s) v) e in
              let own = ap (λ x. is_one x v) (raised_own L b s) in
              let moved = often_next_loads v (row c i).loads j s in-loads in
              let change = bearing_change (raised L b s) L v b c.bins l (λ x q ne. raised_other L b s x ne) in
              omega (arith, r.carried v);
        }

    -- the plan goes on: where the offered item keeps a bin below the target, a row stands for the game that follows
    pub reached_on :
        Winning c → {ks : List ℕ} {L : ℕ → ℕ} {i : ℕ} (b : ℕ) → Reached c ks L i → b < c.bins → L b + offer c i < c.target
        → (next : ℕ) × Reached c (ks ++ offered c i ∷ []) (raised L b (offer c i)) next
    reached_on winning {ks} {L} {i} b r l below =
        let place = place_of_bin b r l in
        let covers = winning.goes_on i place.0 r.there place.1 (omega (arith, place.2)) in
        (covers.0, reached_next b place.0 covers.0 r l place.1 place.2 covers.1)

    -- the items placed and the offered one fit
    pub offer_fits :
        Winning c → {ks : List ℕ} {L : ℕ → ℕ} {i : ℕ} → Reached c ks L i
        → Fit c.bins c.capacity (map (size c) (ks ++ offered c i ∷ []))
    offer_fits winning {ks} {L} {i} r =
        let more = λ (y : ℕ). often_push y ks (offered c i) in
        row_fits winning i r.there (ks ++ offered c i ∷ []) (classes_more r) (λ y l. omega (arith, more y, r.counted y l, due_is i y))

    -- the bound leaves room for the offered item: fewer items than it says were placed
    pub offer_in_bound : Winning c → {ks : List ℕ} {L : ℕ → ℕ} {i : ℕ} → Reached c ks L i → length ks + 1 ≤ bound c
    offer_in_bound winning {ks} {L} {i} r =
        omega (arith, length_push ks (offered c i), fit_bound c lawful (ks ++ offered c i ∷ []) (classes_more r) (offer_fits winning r))

-- ---- the loads of the bins as a list

-- an item placed into bin b of a list of loads raises that bin
pub raised_set :
    (loads : List ℕ) (b s x : ℕ) → b < length loads
    → get_or (set loads b (get_or loads b 0 + s)) x 0 ≡ raised (λ y. get_or loads y 0) b s x
raised_set loads b s x l =
    let before : ℕ → ℕ = λ y. get_or loads y 0 in
    let after : ℕ → ℕ = λ y. get_or (set loads b (get_or loads b 0 + s)) y 0 in
    elim (cases_eq x b) [
      | inl e ↦
          let here = get_or-set_same loads b (get_or loads b 0 + s) 0 l ∙ sym (raised_own before b s) in
          subst (λ y. after y ≡ raised before b s y) (sym e) here
      | inr ne ↦ get_or-set_other loads b x (get_or loads b 0 + s) 0 ne ∙ sym (raised_other before b s x ne)
    ]

-- each load stands in the list of loads as often as in the row
pub reached_loads :
    (c : Certificate) (loads : List ℕ) {ks : List ℕ} {i : ℕ} → length loads ≡ c.bins → Reached c ks (λ b. get_or loads b 0) i
    → (v : ℕ) → often v (row c i).loads ≡ often v loads
reached_loads c loads e r v = r.carried v ∙ sym (often_bearing v loads ∙ ap (bearing (λ b. get_or loads b 0) v) e)
