-- The lowest bin that stays within a limit, or the least full where none does.
use Rattle.std.proofs.Common.{◌≡◌, ℕ, ◌+◌, ◌<◌, ◌≤◌, Bool, true, false, cond, ltb, List, length, get_or, Some, None, Option, sym, refl, subst, inl, inr, arith, MatchOption}
use Rattle.std.specs.List.{position, position_or_len}
use Rattle.std.proofs.lemmas.Bool.{cond-true, lt-ltb, le-leb, leb-true, ltb-true, ltb-false, both_ways}
use Rattle.std.proofs.lemmas.List.Sums.{passes_at_first, fails_before_first}
use Rattle.certificate.specs.Rules.{first}
use Rattle.certificate.proofs.Firsts.{Quiet, LeastAt, first_says, first_none, first_some}
use Rattle.players.specs.Choosing.{least_full, or_least_full, within, lowest_within, threshold}
use Rattle.players.specs.Fitting.{LowestWithin, FitsWithin}
use Rattle.players.proofs.LeastLoads.{least_full_says}

module _ (limit : ℕ) (loads : List ℕ) (size : ℕ) where
  -- a bin that fails the test would not stay within the limit
  over : (k : ℕ) → within limit loads size k ≡ false → get_or loads k 0 + size ≤ limit → ⊥
  over k e p = both_ways (within limit loads size k) e (le-leb (get_or loads k 0 + size) limit p)

  else_least : (o : Option ℕ) → MatchOption o (Quiet (within limit loads size) (length loads)) (LeastAt (within limit loads size) (length loads)) → 0 < length loads → FitsWithin limit loads size (or_least_full o loads)
  else_least None h some = inr (λ k l. over k (h k l), least_full_says loads some)
  else_least (Some b) h some =
      inl (subst (LowestWithin limit loads size) (sym (cond-true (ltb b (length loads)) b (least_full loads) (lt-ltb b (length loads) h.0)))
      record { there = h.0; stays = leb-true (get_or loads b 0 + size) limit h.1; lowest = λ k l. over k (h.2 k l) })

  -- threshold's bin is the lowest that stays within the limit, or the least full where none does
  pub threshold_says : 0 < length loads → FitsWithin limit loads size (threshold limit loads size)
  threshold_says = else_least (lowest_within limit loads size) (first_says (within limit loads size) (length loads))

-- the first load that passes is that of the first bin that does
pub position_first : (test : ℕ → Bool) (xs : List ℕ) → position test xs ≡ first (λ k. test (get_or xs k 0)) (length xs)
position_first test xs = by_length (ltb (position_or_len test xs) (length xs)) refl
  where
    by_length : (t : Bool) → ltb (position_or_len test xs) (length xs) ≡ t → cond t (Some (position_or_len test xs)) None ≡ first (λ k. test (get_or xs k 0)) (length xs)
    by_length true e =
        let there = ltb-true (position_or_len test xs) (length xs) e in
        sym (first_some (λ k. test (get_or xs k 0)) (length xs) (position_or_len test xs) there (passes_at_first test xs 0 there) (λ k l. fails_before_first test xs k 0 l))
    by_length false e = sym (first_none (λ k. test (get_or xs k 0)) (length xs) (λ k l. fails_before_first test xs k 0 (omega (arith, ltb-false (position_or_len test xs) (length xs) e))))
