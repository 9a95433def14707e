-- A match that was opened keeps the law.
use Rattle.std.proofs.Common.{◌≡◌, ℕ, ◌<◌, true, not, eqb, List, length, get_or, is_some, is_ok, Some, Ok, refl, ap, ◌∙◌, arith, MatchResult}
use Rattle.std.proofs.lemmas.Bool.{not-false, not_from_true, eqb-true, eq-eqb}
use Rattle.std.proofs.lemmas.List.{length-replicate, get_or-replicate}
use Rattle.certificate.specs.Certificates.{Certificate}
use Rattle.certificate.specs.Lawful.{Lawful}
use Rattle.certificate.specs.Rules.{judge_all}
use Rattle.certificate.proofs.Finding.{found_stands, stands_found}
use Rattle.certificate.proofs.Judged.{hold_from_judge_all, judge_all_from_hold}
use Rattle.positions.specs.Positions.{empty_loads, empty_counts}
use Rattle.plan.specs.Plan.{verdict}
use Rattle.plan.specs.Winning.{Winning}
use Rattle.plan.proofs.Verdicts.{accepts_winning}
use Rattle.game.specs.Settling.{ready_at}
use Rattle.game.specs.Opening.{opening_rules, start_row, opened}
use Rattle.game.specs.Law.{Keeps, Law}
use Rattle.game.proofs.Keeping.{keeps_from_start}

module _ (c : Certificate) (lawful : Lawful c) (loads : List ℕ) where
  -- a table that the check accepts is a winning plan
  wins : is_ok (verdict c) ≡ true → Winning c
  wins = (accepts_winning c (verdict c) refl).0

  -- nothing is wrong at opening: the match at the empty position's row keeps the law
  pub law_at_start : (i : ℕ) → start_row c ≡ Some i → judge_all (opening_rules c loads) ≡ Ok tt → Law c loads (ready_at c i 0)
  law_at_start i found passes accepted =
      let hold = hold_from_judge_all (opening_rules c loads) passes in
      let bins : length loads ≡ c.bins = eqb-true (length loads) c.bins (not-false (eqb (length loads) c.bins) (hold.1.0 0 0 (omega arith) (omega arith))) in
      let none = λ (b : ℕ) (l : b < c.bins). eqb-true (get_or loads b 0) 0 (not-false (eqb (get_or loads b 0) 0) (hold.1.1.0 b 0 (omega arith) (omega arith))) in
      keeps_from_start c lawful (wins accepted) i loads (found_stands c (empty_loads c) (empty_counts c) i found) bins none

  -- where the check accepts and the bins are empty, a match is opened that keeps the law
  pub opened_from_accepted : is_ok (verdict c) ≡ true → loads ≡ empty_loads c → MatchResult (opened c loads) (Keeps c loads) (λ _. ⊥)
  opened_from_accepted accepted e =
      let (i, stands) = (wins accepted).starts in
      let found = stands_found c (empty_loads c) (empty_counts c) lawful i stands in
      let long : length loads ≡ c.bins = ap length e ∙ length-replicate c.bins 0 in
      let none = λ (b : ℕ) (l : b < c.bins). ap (λ xs. get_or xs b 0) e ∙ get_or-replicate c.bins b 0 0 l in
      let starts = ap (λ o. not (is_some o)) found in
      let bins = not_from_true (eqb (length loads) c.bins) (eq-eqb (length loads) c.bins long) in
      let empty = λ (b : ℕ) (l : b < length loads). not_from_true (eqb (get_or loads b 0) 0) (eq-eqb (get_or loads b 0) 0 (none b (omega arith))) in
      let passes = judge_all_from_hold (opening_rules c loads) ((λ _ _ _ _. starts), ((λ _ _ _ _. bins), ((λ b _ l _. empty b l), tt))) in
      rw (passes, found) (keeps_from_start c lawful (wins accepted) i loads stands long none)
