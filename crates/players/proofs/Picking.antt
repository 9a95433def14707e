-- What `min_by_key` picks of the loads with their bins, as a recursion over the bins.
use Rattle.std.proofs.Common.{◌≡◌, ℕ, zero, suc, ◌+◌, Bool, true, false, cond, ltb, List, [], ◌∷◌, length, get_or, drop, map, filter, Some, None, Option, Ordering, Less, Equal, Greater, sym, refl, ap, ◌∙◌, subst, add-one, arith, Bor}
use Rattle.std.specs.Fn.{CalledAt}
use Rattle.std.specs.Iterator.{KeyTurn, PicksMinByKey}
use Rattle.std.specs.List.{FoldsTo, fold, enumerate_from}
use Rattle.std.specs.Option.{option_map}
use Rattle.std.specs.Ordering.{nat_cmp, min_by_ordering}
use Rattle.std.proofs.iter.Yields.{gives_Drains}
use Rattle.std.proofs.lemmas.Iterator.{YieldsList}
use Rattle.std.proofs.lemmas.Bool.Decides.{nat_tests}
use Rattle.std.proofs.lemmas.List.{drop_more, drop_all}
use denote.Param.Members.{Mut}

-- the first of the items with the least key, with one more item
abbrev pub lesser : {B K : Type 0} → (K → K → Ordering) → (B → K) → Option B → B → Option B
lesser cmp key None x = Some x
lesser cmp key (Some best) x = Some (min_by_ordering (cmp (key best) (key x)) best x)

-- what is read of the lesser is the lesser of what is read
lesser_read : {A B : Type 0} (v : A → B) (o : Ordering) (a b : A) → v (min_by_ordering o a b) ≡ min_by_ordering o (v a) (v b)
lesser_read v Less a b = refl
lesser_read v Equal a b = refl
lesser_read v Greater a b = refl

-- of two numbers the second is the lesser only where it is below the first
pub lesser_number : {B : Type 0} (x y : ℕ) (p q : B) → min_by_ordering (nat_cmp x y) p q ≡ cond (ltb y x) q p
lesser_number x y p q = grind (arith, nat_tests)

-- a choice of what f gives is what f gives of the choice
pub cond_of : {A B : Type 0} (f : A → B) (t : Bool) (x y : A) → f (cond t x y) ≡ cond t (f x) (f y)
cond_of f true x y = refl
cond_of f false x y = refl

module _ {A B F K : Type 0} (v : A → B) (g : Mut F (Bor A × Unit {0}) K) (cmp : K → K → Ordering) (key : B → K) (f : F) (called : (x : A) (k : K) (q : F) → CalledAt g f x k q → (q ≡ f) × (k ≡ key (v x))) where
  turns : (xs : List A) (p q : (F × K) × A) → p.0.0 ≡ f → p.0.1 ≡ key (v p.1) → FoldsTo (KeyTurn min_by_ordering min_by_ordering g cmp) p xs q → fold (lesser cmp key) (Some (v p.1)) (map v xs) ≡ Some (v q.1)
  turns [] p q e k h = ap (λ w. Some (v w.1)) h
  turns (x ∷ xs) p q e k h =
      let j = h.0 in
      let order = h.1.1 in
      let made = called x h.1.0 j.0.0 (subst (λ z. CalledAt g z x h.1.0 j.0.0) e h.1.2) in
      let same : order ≡ cmp (key (v p.1)) (key (v x)) = sym h.1.3 ∙ (λ i. cmp (k i) (made.1 i)) in
      let item : v j.1 ≡ min_by_ordering order (v p.1) (v x) = ap v h.1.5 ∙ lesser_read v order p.1 x in
      let its_key : j.0.1 ≡ key (v j.1) = h.1.4 ∙ ((λ i. min_by_ordering order (k i) (made.1 i)) ∙ (sym (lesser_read key order (v p.1) (v x)) ∙ ap key (sym item))) in
      ap (λ b. fold (lesser cmp key) (Some b) (map v xs)) (sym (item ∙ ap (λ o. min_by_ordering o (v p.1) (v x)) same)) ∙ turns xs j q made.0 its_key h.2

  -- `min_by_key` over a chain of items picks the first of those with the least key
  pub picked : {S : Type 0} {steps : S → Option A → S → Type 0} {s : S} {all : List B} (r : Option A) → PicksMinByKey steps g cmp s f r → YieldsList steps v s all → option_map v r ≡ fold (lesser cmp key) None all
  picked {steps = steps} {s} {all} None h e = ap (fold (lesser cmp key) None) (gives_Drains steps v [] all s e.runs h)
  picked {steps = steps} {s} {all} (Some y) h e =
      let made = called h.0 h.2 h.3 h.6 in
      sym (turns h.1 ((h.3, h.2), h.0) (h.4, y) made.0 made.1 h.7) ∙ ap (fold (lesser cmp key) None) (gives_Drains steps v (h.0 ∷ h.1) all s e.runs h.5)

-- a fold over the items that pass leaves the others out
pub fold_filter : {B C : Type 0} (h : C → B → C) (test : B → Bool) (c : C) (xs : List B) → fold h c (filter test xs) ≡ fold (λ a x. cond (test x) (h a x) a) c xs
fold_filter h test c [] = refl
fold_filter {C = C} h test c (x ∷ xs) = by_test (test x) (λ a. fold_filter h test a xs)
  where
    by_test : (t : Bool) → ((a : C) → fold h a (filter test xs) ≡ fold (λ a y. cond (test y) (h a y) a) a xs) → fold h c (cond t (x ∷ filter test xs) (filter test xs)) ≡ fold (λ a y. cond (test y) (h a y) a) (cond t (h c x) c) xs
    by_test true more = more (h c x)
    by_test false more = more c

module _ (loads : List ℕ) where
  -- a bin with its load
  abbrev pub at : ℕ → ℕ × ℕ
  at b = (b, get_or loads b 0)

  module _ {C : Type 0} (h : C → ℕ × ℕ → C) (s : ℕ → C) (step : (n : ℕ) → s (suc n) ≡ h (s n) (at n)) where
    from_bin : (k n : ℕ) → n + k ≡ length loads → fold h (s n) (enumerate_from n (drop n loads)) ≡ s (length loads)
    from_bin zero n e = ap (λ xs. fold h (s n) (enumerate_from n xs)) (drop_all n loads (omega arith)) ∙ ap s (omega arith)
    from_bin (suc k) n e =
        ap (λ xs. fold h (s n) (enumerate_from n xs)) (drop_more loads n 0 (omega arith))
        ∙ (ap (λ c. fold h c (enumerate_from (n + 1) (drop (n + 1) loads))) (sym (step n) ∙ ap s (sym (add-one n)))
        ∙ from_bin k (n + 1) (omega arith))

    -- a fold over the bins with their loads is the recursion over the bins that takes the same steps
    pub fold_bins : fold h (s 0) (enumerate_from 0 loads) ≡ s (length loads)
    fold_bins = from_bin (length loads) 0 (omega arith)
