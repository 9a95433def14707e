-- The fullest bin that stays below a target: of the bins that would, none is fuller, and those before it are less full.
use Rattle.std.proofs.Common.{◌≡◌, ℕ, zero, suc, ◌+◌, ◌<◌, ◌≤◌, Bool, true, false, cond, ◌&&◌, ltb, List, length, get_or, filter, Some, None, Option, sym, refl, ap, ◌∙◌, subst, inl, inr, ⊎_elim, arith, MatchOption}
use Rattle.std.specs.declared.cmp.Reverse.{Reverse}
use Rattle.std.specs.List.{fold, enumerate_from}
use Rattle.std.specs.Option.{option_map}
use Rattle.std.specs.Ordering.{nat_cmp}
use Rattle.std.proofs.lemmas.Bool.{cases_eq, cond-true, lt-ltb, ltb-true, ltb-false, and_from, and_parts, and_cases, both_ways}
use Rattle.players.specs.Choosing.{below, fuller, fullest_of, fullest_below, least_full, best_fit, or_least_full}
use Rattle.players.specs.Fitting.{FullestBelow, BestFits}
use Rattle.players.proofs.LeastLoads.{least_full_says}
use Rattle.players.proofs.Picking.{lesser, lesser_number, cond_of, fold_filter, at, fold_bins}

module _ (r : ℕ) (loads : List ℕ) (size : ℕ) where
  -- none of the first n bins would stay below r
  abbrev pub NoneUpto : ℕ → Type 0
  NoneUpto n = (k : ℕ) → k < n → get_or loads k 0 + size < r → ⊥

  -- the fullest of the first n bins that would is b, and those before it are less full
  abbrev pub FullestUpto : ℕ → ℕ → Type 0
  FullestUpto n b =
      (b < n)
      × (get_or loads b 0 + size < r)
      × ((k : ℕ) → k < n → get_or loads k 0 + size < r → get_or loads k 0 ≤ get_or loads b 0)
      × ((k : ℕ) → k < b → get_or loads k 0 + size < r → get_or loads k 0 < get_or loads b 0)

  -- what is known of the first n bins and of bin n is known of the first n + 1
  none_more : (n : ℕ) → NoneUpto n → (get_or loads n 0 + size < r → ⊥) → NoneUpto (suc n)
  none_more n h here k l p =
      ⊎_elim (λ (q : k ≡ n). here (omega (arith, ap (λ x. get_or loads x 0) q))) (λ (q : k ≡ n → ⊥). h k (omega arith) p) (cases_eq k n)

  keeps : (n b : ℕ) → FullestUpto n b → (get_or loads n 0 + size < r → get_or loads n 0 ≤ get_or loads b 0) → FullestUpto (suc n) b
  keeps n b h here = (
    omega (arith, h.0),
    h.1,
    λ k l p. ⊎_elim (λ (q : k ≡ n). let e = ap (λ x. get_or loads x 0) q in omega (arith, e, here (omega (arith, e)))) (λ (q : k ≡ n → ⊥). h.2 k (omega arith) p) (cases_eq k n),
    h.3,
  )

  takes : (n : ℕ) → get_or loads n 0 + size < r → ((k : ℕ) → k < n → get_or loads k 0 + size < r → get_or loads k 0 < get_or loads n 0) → FullestUpto (suc n) n
  takes n stays less = (
    omega arith,
    stays,
    λ k l p. ⊎_elim (λ (q : k ≡ n). omega (arith, ap (λ x. get_or loads x 0) q)) (λ (q : k ≡ n → ⊥). omega (arith, less k (omega arith) p)) (cases_eq k n),
    less,
  )

  step : (n : ℕ) (o : Option ℕ) (t : Bool) → (below r loads size n && fuller loads o n) ≡ t → MatchOption o (NoneUpto n) (FullestUpto n) → MatchOption (cond t (Some n) o) (NoneUpto (suc n)) (FullestUpto (suc n))
  step n None true e h =
      let both = and_parts (below r loads size n) true e in
      takes n (ltb-true (get_or loads n 0 + size) r both.0) (λ k l p. absurd (h k l p))
  step n (Some b) true e h =
      let both = and_parts (below r loads size n) (ltb (get_or loads b 0) (get_or loads n 0)) e in
      let more = ltb-true (get_or loads b 0) (get_or loads n 0) both.1 in
      takes n (ltb-true (get_or loads n 0 + size) r both.0) (λ k l p. omega (arith, h.2 k l p))
  step n None false e h =
      none_more n h
      (λ p. both_ways (below r loads size n && true) e (and_from (below r loads size n) true (lt-ltb (get_or loads n 0 + size) r p) refl))
  step n (Some b) false e h =
      keeps n b h
      (λ p.
      ⊎_elim (λ q. absurd (both_ways (below r loads size n) q (lt-ltb (get_or loads n 0 + size) r p)))
      (λ q. ltb-false (get_or loads b 0) (get_or loads n 0) q)
      (and_cases (below r loads size n) (ltb (get_or loads b 0) (get_or loads n 0)) e))

  -- what `fullest_of` answers, by cases
  pub fullest_of_says : (n : ℕ) → MatchOption (fullest_of r loads size n) (NoneUpto n) (FullestUpto n)
  fullest_of_says zero = λ k l p. absurd (omega arith)
  fullest_of_says (suc n) = step n (fullest_of r loads size n) (below r loads size n && fuller loads (fullest_of r loads size n) n) refl (fullest_of_says n)

  else_least : (o : Option ℕ) → MatchOption o (NoneUpto (length loads)) (FullestUpto (length loads)) → 0 < length loads → BestFits r loads size (or_least_full o loads)
  else_least None h some = inr (h, least_full_says loads some)
  else_least (Some b) h some =
      inl (subst (FullestBelow r loads size) (sym (cond-true (ltb b (length loads)) b (least_full loads) (lt-ltb b (length loads) h.0))) record { there = h.0; stays = h.1; fullest = h.2; lowest = h.3 })

  -- best fit's bin is the fullest that stays below r, or the least full where none does
  pub best_fit_says : 0 < length loads → BestFits r loads size (best_fit r loads size)
  best_fit_says = else_least (fullest_below r loads size) (fullest_of_says (length loads))

  -- ---- the chain that picks it

  -- the bin whose load is the greater, the first on a tie
  abbrev greater : Option (ℕ × ℕ) → ℕ × ℕ → Option (ℕ × ℕ)
  greater = lesser (λ (x y : Reverse ℕ). nat_cmp y.0 x.0) (λ p. record { 0 = p.1 })

  picked_more : (o : Option ℕ) (t : Bool) (n : ℕ) → option_map (at loads) (cond (t && fuller loads o n) (Some n) o) ≡ cond t (greater (option_map (at loads) o) (at loads n)) (option_map (at loads) o)
  picked_more None true n = refl
  picked_more None false n = refl
  picked_more (Some b) false n = refl
  picked_more (Some b) true n =
      let t = fuller loads (Some b) n in
      cond_of (option_map (at loads)) t (Some n) (Some b)
      ∙ (sym (cond_of Some t (at loads n) (at loads b)) ∙ ap Some (sym (lesser_number (get_or loads n 0) (get_or loads b 0) (at loads b) (at loads n))))

  -- of the bins that stay below r with their loads, the first of the fullest is the fullest bin that does
  pub fullest_picked : {A : Type 0} (v : A → ℕ × ℕ) (o : Option A) (bin : Option ℕ) → MatchOption o (bin ≡ None) (λ x. bin ≡ Some (v x).0)
      → option_map v o ≡ fold greater None (filter (λ p. ltb (p.1 + size) r) (enumerate_from 0 loads)) → bin ≡ fullest_below r loads size
  fullest_picked v o bin m e =
      told o (fullest_below r loads size) m
      (e
      ∙ (fold_filter greater (λ p. ltb (p.1 + size) r) None (enumerate_from 0 loads)
      ∙ fold_bins loads (λ a p. cond (ltb (p.1 + size) r) (greater a p) a) (λ n. option_map (at loads) (fullest_of r loads size n)) (λ n. picked_more (fullest_of r loads size n) (below r loads size n) n)))
    where
      told : (a : Option _) (f : Option ℕ) → MatchOption a (bin ≡ None) (λ x. bin ≡ Some (v x).0) → option_map v a ≡ option_map (at loads) f → bin ≡ f
      told None None h p = h
      told None (Some b) h p = (cc)
      told (Some x) None h p = (cc)
      told (Some x) (Some b) h p = (cc)
