-- `judged` and `judge_all`: nothing is reported exactly where no place is broken, and what is reported is the least fault.
use Rattle.std.proofs.Common.{◌≡◌, ℕ, ◌<◌, Bool, true, false, cond, List, [], ◌∷◌, ◌++◌, is_some, Some, Ok, Err, Result, unwrap_or, sym, refl, ap, ◌∙◌, arith}
use Rattle.certificate.specs.declared.fault.Fault.{Fault}
use Rattle.certificate.specs.Faults.{fault}
use Rattle.certificate.specs.Rules.{Rule, whole, in_row, row_broken, reported, judged, judge_all, next_after}
use Rattle.certificate.proofs.Firsts.{first_none, first_some}

-- a row is broken, at place j first, and no row before it is
pub judged_fault : (r : Rule) (i j : ℕ) → i < r.rows → in_row r i ≡ Some j → ((k : ℕ) → k < i → row_broken r k ≡ false) → judged r ≡ Err (fault r.number i j)
judged_fault r i j l e q = ap (reported r) (first_some (row_broken r) r.rows i l (ap is_some e) q) ∙ ap (λ o. Err (fault r.number i (unwrap_or o 0))) e

-- no row is broken
pub judged_passes : (r : Rule) → ((k : ℕ) → k < r.rows → row_broken r k ≡ false) → judged r ≡ Ok tt
judged_passes r q = ap (reported r) (first_none (row_broken r) r.rows q)

-- ---- lists of rules

-- a rule of the whole input, by its test
pub judged_whole : (n : ℕ) (b : Bool) → judged (whole n b) ≡ cond b (Err (fault n 0 0)) (Ok tt)
judged_whole n true = refl
judged_whole n false = refl

-- three judgements in turn
pub next_after_assoc : {X : Type 0} (a b : Result (Unit {0}) Fault) (d : Result X Fault) → next_after (next_after a b) d ≡ next_after a (next_after b d)
next_after_assoc (Ok u) b d = refl
next_after_assoc (Err f) b d = refl

-- one list of rules after another
pub judge_append : (rs ss : List Rule) → judge_all (rs ++ ss) ≡ next_after (judge_all rs) (judge_all ss)
judge_append [] ss = refl
judge_append (r ∷ rs) ss = ap (next_after (judged r)) (judge_append rs ss) ∙ sym (next_after_assoc (judged r) (judge_all rs) (judge_all ss))

-- a list of one rule
pub judge_one : (r : Rule) → judge_all (r ∷ []) ≡ judged r
judge_one r = last (judged r)
  where
    last : (a : Result (Unit {0}) Fault) → next_after a (Ok tt) ≡ a
    last (Ok u) = refl
    last (Err f) = refl

-- what passes passes in both parts
pub next_after_ok : {X : Type 0} (a : Result (Unit {0}) Fault) (b : Result X Fault) (x : X) → next_after a b ≡ Ok x → (a ≡ Ok tt) × (b ≡ Ok x)
next_after_ok (Ok u) b x e = (refl, e)
next_after_ok (Err f) b x e = let z : ◌≡◌ {A = ℕ} 0 1 = cc in absurd (omega arith)

-- a list of rules passes: its first does, and the others do
pub passed : (r : Rule) (rs : List Rule) → judge_all (r ∷ rs) ≡ Ok tt → (judged r ≡ Ok tt) × (judge_all rs ≡ Ok tt)
passed r rs e = next_after_ok (judged r) (judge_all rs) tt e

-- a rule of the whole input passes: its test does not
pub whole_passed : (n : ℕ) (b : Bool) → judged (whole n b) ≡ Ok tt → b ≡ false
whole_passed n true e = let z : ◌≡◌ {A = ℕ} 0 1 = cc in absurd (omega arith)
whole_passed n false e = refl
