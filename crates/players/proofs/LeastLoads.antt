-- The least full bin: no bin is less full, and every bin before it is fuller.
use Rattle.std.proofs.Common.{◌≡◌, ℕ, zero, suc, ◌+◌, ◌<◌, Bool, true, false, cond, ltb, List, length, get_or, Some, None, Option, MatchOption, subst, sym, refl, ap, ◌∙◌, add-one, arith, rules}
use Rattle.std.specs.List.{fold, enumerate_from}
use Rattle.std.specs.Option.{option_map}
use Rattle.std.specs.Ordering.{nat_cmp}
use Rattle.std.specs.Cmp.{IsStrictWeakOrder}
use Rattle.std.specs.List.{IsFirstBest}
use Rattle.std.proofs.Padding.{cond_same}
use Rattle.std.proofs.lemmas.List.MinMax.{IsStrictWeakOrder-by_number, IsFirstBest-none, IsFirstBest-keeps, IsFirstBest-takes}
use Rattle.std.proofs.lemmas.List.{get_or_default}
use Rattle.std.proofs.lemmas.Bool.{ltb-true, ltb-false}
use Rattle.players.specs.Choosing.{least_of, least_full}
use Rattle.players.specs.Fitting.{LeastFull}
use Rattle.players.proofs.Picking.{lesser, lesser_number, cond_of, at, fold_bins}

module _ (loads : List ℕ) where
  order : IsStrictWeakOrder ltb
  order = IsStrictWeakOrder-by_number (λ x. x)

  -- the least full of the first n + 1 bins is the first of those with the least load
  best : (n : ℕ) → n < length loads → IsFirstBest ltb loads (suc n) (least_of loads (suc n))
  best zero h = subst (IsFirstBest ltb loads 1) (sym (cond_same (ltb (get_or loads 0 0) (get_or loads 0 0)) 0 0 0 refl refl)) (IsFirstBest-none order loads)
  best (suc n) h = one_more (ltb new old) refl (best n (omega arith))
    where
      new : ℕ
      new = get_or loads (suc n) 0

      old : ℕ
      old = get_or loads (least_of loads (suc n)) 0

      longer : {b : ℕ} → IsFirstBest ltb loads (suc n + 1) b → IsFirstBest ltb loads (suc (suc n)) b
      longer {b} = subst (λ m. IsFirstBest ltb loads m b) (add-one (suc n))

      one_more : (t : Bool) → ltb new old ≡ t → IsFirstBest ltb loads (suc n) (least_of loads (suc n)) → IsFirstBest ltb loads (suc (suc n)) (cond t (suc n) (least_of loads (suc n)))
      one_more true e f = longer (IsFirstBest-takes order loads (suc n) (least_of loads (suc n)) new old f h (search (rules, get_or_default)) (search (rules, get_or_default)) e)
      one_more false e f = longer (IsFirstBest-keeps order loads (suc n) (least_of loads (suc n)) new old f h (search (rules, get_or_default)) (search (rules, get_or_default)) e)

  -- some bin is least full: `least_full` is that bin
  pub least_full_says : 0 < length loads → LeastFull loads (least_full loads)
  least_full_says h = says (length loads) refl h
    where
      says : (n : ℕ) → length loads ≡ n → 0 < n → LeastFull loads (least_of loads n)
      says zero e l = absurd (omega arith)
      says (suc n) e l =
          let f = best n (omega arith) in
          record { there = omega (arith, f.0); least = λ k p. ltb-false (get_or loads k 0) (get_or loads (least_of loads (suc n)) 0) (f.1 k 0 (omega arith)); lowest = λ k p. ltb-true (get_or loads (least_of loads (suc n)) 0) (get_or loads k 0) (f.2 k 0 p) }

  -- the least full of the first n bins with its load, none of no bins
  abbrev picked_upto : ℕ → Option (ℕ × ℕ)
  picked_upto zero = None
  picked_upto (suc n) = Some (at loads (least_of loads (suc n)))

  picked_more : (n : ℕ) → picked_upto (suc n) ≡ lesser nat_cmp (λ p. p.1) (picked_upto n) (at loads n)
  picked_more zero = ap (λ b. Some (at loads b)) (cond_same (ltb (get_or loads 0 0) (get_or loads 0 0)) 0 0 0 refl refl)
  picked_more (suc n) =
      let least = least_of loads (suc n) in
      ap Some (cond_of (at loads) (ltb (get_or loads (suc n) 0) (get_or loads least 0)) (suc n) least ∙ sym (lesser_number (get_or loads least 0) (get_or loads (suc n) 0) (at loads least) (at loads (suc n))))

  -- the first of the bins with the least load is the least full bin
  pub least_picked : {A : Type 0} (v : A → ℕ × ℕ) (r : Option A) (bin : ℕ) → MatchOption r (bin ≡ 0) (λ x. bin ≡ (v x).0) → option_map v r ≡ fold (lesser nat_cmp (λ p. p.1)) None (enumerate_from 0 loads) → bin ≡ least_full loads
  least_picked v r bin m e = told (length loads) r m (e ∙ fold_bins loads (lesser nat_cmp (λ p. p.1)) picked_upto picked_more)
    where
      told : (n : ℕ) (o : Option _) → MatchOption o (bin ≡ 0) (λ x. bin ≡ (v x).0) → option_map v o ≡ picked_upto n → bin ≡ least_of loads n
      told zero None h p = h
      told zero (Some x) h p = (cc)
      told (suc n) None h p = (cc)
      told (suc n) (Some x) h p = (cc)
