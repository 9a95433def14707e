-- A list of rules with rising numbers is judged by its least fault.
use Rattle.std.proofs.Common.{◌≡◌, ℕ, ◌<◌, Bool, true, false, ◌&&◌, ltb, ◌⊎◌, List, [], ◌∷◌, is_some, Some, None, Ok, Err, Option, Result, unwrap_or, sym, refl, subst, inl, inr, ⊎_elim, arith, MatchOption, MatchResult}
use Rattle.std.proofs.lemmas.Bool.{both_ways, false≢true, and_parts, ltb-true}
use Rattle.certificate.specs.declared.fault.Fault.{Fault}
use Rattle.certificate.specs.Faults.{fault}
use Rattle.certificate.specs.Rules.{Rule, first, in_row, row_broken, reported, judged, judge_all, next_after}
use Rattle.certificate.specs.Least.{Breaks, Broken, Before, Least, Judges}
use Rattle.certificate.proofs.Firsts.{Quiet, LeastAt, first_says, none_quiet, some_least}
use Rattle.certificate.proofs.Judged.{Holds, none_from_isSome, all_hold}

-- the rules' numbers rise from above n
abbrev pub rising : ℕ → List Rule → Bool
rising n [] = true
rising n (r ∷ rs) = ltb n r.number && rising r.number rs

-- the fault breaks the rule, and none before it does
abbrev pub FirstOf : Rule → Fault → Type 0
FirstOf r f = Breaks r f × ((g : Fault) → Before g f → Breaks r g → ⊥)

module _ (r : Rule) where
  -- a place before the first broken place of the first broken row is not broken
  none_earlier : (i j : ℕ) → Quiet (row_broken r) i → LeastAt (r.broken i) r.places j → (g : Fault) → Before g (fault r.number i j) → Breaks r g → ⊥
  none_earlier i j q p g (inl n) b = omega (arith, b.0)
  none_earlier i j q p g (inr (n, inl l)) b =
      both_ways (r.broken g.first g.second) (none_quiet (r.broken g.first) r.places (none_from_isSome (in_row r g.first) (q g.first l)) g.second b.2) b.3
  none_earlier i j q p g (inr (n, inr (e, l))) b =
      both_ways (r.broken g.first g.second) (subst (λ x. r.broken x g.second ≡ false) (sym e) (p.2 g.second l)) b.3

  at_row : (i : ℕ) (o : Option ℕ) → in_row r i ≡ o → is_some o ≡ true → LeastAt (row_broken r) r.rows i → FirstOf r (fault r.number i (unwrap_or o 0))
  at_row i None e s p = absurd (false≢true s)
  at_row i (Some j) e s p =
      let h : LeastAt (r.broken i) r.places j = some_least (r.broken i) r.places j e in
      ((refl, p.0, h.0, h.1), none_earlier i j p.2 h)

  reported_says : (o : Option ℕ) → MatchOption o (Quiet (row_broken r) r.rows) (LeastAt (row_broken r) r.rows) → MatchResult (reported r o) (λ _. Holds r) (FirstOf r)
  reported_says None h = all_hold r h
  reported_says (Some i) h = at_row i (in_row r i) refl h.1 h

  -- what a rule's judgement says
  pub judged_says : MatchResult (judged r) (λ _. Holds r) (FirstOf r)
  judged_says = reported_says (first (row_broken r) r.rows) (first_says (row_broken r) r.rows)

  -- a rule that holds is broken nowhere
  pub holds_unbroken : Holds r → (f : Fault) → Breaks r f → ⊥
  holds_unbroken h f b = both_ways (r.broken f.first f.second) (h f.first f.second b.1 b.2) b.3

-- a fault of rules that rise from above n has a number above n
above : (n : ℕ) (rs : List Rule) → rising n rs ≡ true → (f : Fault) → Broken rs f → n < f.number
above n [] e f b = absurd b
above n (r ∷ rs) e f b =
    let p = and_parts (ltb n r.number) (rising r.number rs) e in
    let l = ltb-true n r.number p.0 in
    ⊎_elim (λ (x : Breaks r f). omega (arith, x.0)) (λ (x : Broken rs f). omega (arith, above r.number rs p.1 f x)) b

module _ (r : Rule) (rs : List Rule) (up : rising r.number rs ≡ true) where
  kept_least : (f : Fault) → FirstOf r f → Least (r ∷ rs) f
  kept_least f h = record {
    broken = inl h.0;
    none_before = λ g b x. ⊎_elim (h.1 g b) (λ (y : Broken rs g). not_after g b (above r.number rs up g y)) x;
  }
    where
      not_after : (g : Fault) → Before g f → r.number < g.number → ⊥
      not_after g b l = ⊎_elim (λ (x : g.number < f.number). omega (arith, h.0.0)) (λ (x : (g.number ≡ f.number) × ((g.first < f.first) ⊎ ((g.first ≡ f.first) × (g.second < f.second)))). omega (arith, h.0.0, x.0)) b

  passed_least : Holds r → (f : Fault) → Least rs f → Least (r ∷ rs) f
  passed_least h f l = record {
    broken = inr l.broken;
    none_before = λ g b x. ⊎_elim (holds_unbroken r h g) (l.none_before g b) x;
  }

  passed_clean : Holds r → ((f : Fault) → Broken rs f → ⊥) → (f : Fault) → Broken (r ∷ rs) f → ⊥
  passed_clean h k f x = ⊎_elim (holds_unbroken r h f) (k f) x

  more : (a b : Result (Unit {0}) Fault) → MatchResult a (λ _. Holds r) (FirstOf r) → Judges rs b → Judges (r ∷ rs) (next_after a b)
  more (Ok u) (Ok v) h k = passed_clean h k
  more (Ok u) (Err f) h k = passed_least h f k
  more (Err f) b h k = kept_least f h

-- the answer of a list of rules with rising numbers is its least fault, or none where nothing is broken
pub judges : (n : ℕ) (rs : List Rule) → rising n rs ≡ true → Judges rs (judge_all rs)
judges n [] e = λ f b. b
judges n (r ∷ rs) e =
    let p = and_parts (ltb n r.number) (rising r.number rs) e in
    more r rs p.1 (judged r) (judge_all rs) (judged_says r) (judges r.number rs p.1)

-- what is answered where nothing is broken does not change what a judgement says
pub judges_after : {X : Type 0} (rs : List Rule) (a : Result (Unit {0}) Fault) (x : X) → Judges rs a → Judges rs (next_after a (Ok x))
judges_after rs (Ok u) x h = h
judges_after rs (Err f) x h = h
