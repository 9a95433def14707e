-- A rule passes exactly where none of its places is broken, and a list of rules exactly where each of them passes.
use Rattle.std.proofs.Common.{◌≡◌, ℕ, ◌<◌, false, List, [], ◌∷◌, is_some, Some, None, Ok, Option, refl, ap, ◌∙◌, arith}
use Rattle.std.specs.List.{AllByRecursion}
use Rattle.certificate.specs.Rules.{Rule, in_row, row_broken, reported, judged, next_after, judge_all}
use Rattle.certificate.proofs.Firsts.{Quiet, first_none, none_quiet}
use Rattle.certificate.proofs.Rules.{judged_passes, passed}

-- no place of the rule is broken
abbrev pub Holds : Rule → Type 0
Holds r = (i j : ℕ) → i < r.rows → j < r.places → r.broken i j ≡ false

-- no place is broken: the rule passes
pub judged_from_holds : (r : Rule) → Holds r → judged r ≡ Ok tt
judged_from_holds r h = judged_passes r (λ i l. ap is_some (first_none (r.broken i) r.places (λ j p. h i j l p)))

-- the test says that nothing is there: nothing is
pub none_from_isSome : (o : Option ℕ) → is_some o ≡ false → o ≡ None
none_from_isSome None e = refl
none_from_isSome (Some x) e = absurd (let z : ◌≡◌ {A = ℕ} 0 1 = cc in omega arith)

-- no row is broken: no place is
pub all_hold : (r : Rule) → Quiet (row_broken r) r.rows → Holds r
all_hold r q i j h l = none_quiet (r.broken i) r.places (none_from_isSome (in_row r i) (q i h)) j l

-- nothing is reported: no row is broken
none_from_reported : (r : Rule) (o : Option ℕ) → reported r o ≡ Ok tt → o ≡ None
none_from_reported r None e = refl
none_from_reported r (Some x) e = absurd (let z : ◌≡◌ {A = ℕ} 0 1 = cc in omega arith)

-- the rule passes: no place is broken
pub holds_from_judged : (r : Rule) → judged r ≡ Ok tt → Holds r
holds_from_judged r e = all_hold r (none_quiet (row_broken r) r.rows (none_from_reported r _ e))

-- each rule passes: the list passes
pub judge_all_from_hold : (rs : List Rule) → AllByRecursion Holds rs → judge_all rs ≡ Ok tt
judge_all_from_hold [] h = refl
judge_all_from_hold (r ∷ rs) h = ap (λ u. next_after u (judge_all rs)) (judged_from_holds r h.0) ∙ judge_all_from_hold rs h.1

-- the list passes: each rule does
pub hold_from_judge_all : (rs : List Rule) → judge_all rs ≡ Ok tt → AllByRecursion Holds rs
hold_from_judge_all [] e = tt
hold_from_judge_all (r ∷ rs) e =
    let both = passed r rs e in
    (holds_from_judged r both.0, hold_from_judge_all rs both.1)
