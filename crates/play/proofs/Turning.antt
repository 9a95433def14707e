-- What a turn does, and what turns by a choice come to.
use Rattle.std.proofs.Common.{◌≡◌, ℕ, zero, suc, ◌+◌, ◌*◌, ◌/◌, ◌<◌, ◌≤◌, Bool, List, [], ◌∷◌, length, get_or, IfOk, Ok, sum, Result, sym, ap, ◌∙◌, arith, length-set}
use Rattle.std.proofs.lemmas.Bool.{eqb-true, leb-false}
use Rattle.std.proofs.lemmas.Bool.Decides.{nat_tests}
use Rattle.certificate.specs.declared.fault.Fault.{Fault}
use Rattle.certificate.specs.Certificates.{Certificate}
use Rattle.certificate.specs.Rules.{judge_all}
use Rattle.certificate.proofs.Judged.{hold_from_judge_all}
use Rattle.certificate.proofs.Rules.{next_after_ok}
use Rattle.players.specs.Placing.{most_total, size_rule, total_rule, declined, by_choice}
use Rattle.players.proofs.Declining.{admitted}
use Rattle.players.proofs.Raising.{sum_raised}
use Rattle.game.specs.declared.matches.Ready.{Ready}
use Rattle.game.specs.declared.matches.Waiting.{Waiting}
use Rattle.game.specs.declared.matches.Item.{Item}
use Rattle.game.specs.declared.matches.Ended.{Ended}
use Rattle.game.specs.declared.matches.Next.{Next}
use Rattle.game.specs.declared.matches.Next.TheVariants.{GoesOn, Ends}
use Rattle.game.specs.Turns.{number_of, waits}
use Rattle.game.specs.Law.{reached}
use Rattle.game.specs.Settling.{settling, settling_rules, Settled}
use Rattle.game.proofs.Progress.{leads_number}
use Rattle.play.specs.Playing.{Turn, Turns, stops, ends, goes, Played, followed, turned, turns_by}

module _ {c : Certificate} {w : Waiting} {token token' : Item} {bytes loads bytes' loads' : List ℕ} {b : ℕ} {next : Next} (s : Settled c w token bytes loads b next token' bytes' loads') where
  -- nothing speaks against it, nor against placing the item
  passes : (judge_all (settling_rules c w token.size (length bytes) loads) ≡ Ok tt) × (declined loads token.size ≡ Ok tt)
  passes = next_after_ok (judge_all (settling_rules c w token.size (length bytes) loads)) (declined loads token.size) tt s.admitted

  -- a settlement raises the loads
  pub settled_raises : sum loads < sum loads'
  settled_raises =
      let sized = (hold_from_judge_all (size_rule token.size ∷ (total_rule loads token.size ∷ [])) passes.1).0 0 0 (omega arith) (omega arith) in
      let some : 0 < token.size = grind (arith, nat_tests) in
      omega (arith, ap sum s.placed, sum_raised loads b token.size s.there)

  -- and keeps them within their limit
  pub settled_light : sum loads' ≤ most_total
  settled_light = omega (arith, ap sum s.placed, sum_raised loads b token.size s.there, admitted loads token.size passes.1)

  -- the record keeps its length
  pub settled_length : length bytes' ≡ length bytes
  settled_length = ap length s.written ∙ simp length-set

  -- the record has room for it
  pub settled_room : 2 * (w.count + 1) ≤ length bytes
  settled_room =
      let long = (hold_from_judge_all (settling_rules c w token.size (length bytes) loads) passes.0).1.1.1.0 0 0 (omega arith) (omega arith) in
      omega (arith, leb-false (length bytes / 2) w.count long)

  -- and one more settlement is counted
  pub settled_number : number_of (reached next) ≡ w.count + 1
  settled_number = rw s.leading (leads_number c (w.count + 1) w.row b (get_or loads b 0) token.size)

-- the record has room for every settlement
pub turns_room : {c : Certificate} {takes : List ℕ → ℕ → ℕ → Bool} {m : Ready} {loads bytes loads' bytes' : List ℕ} {answer : Result Ended Fault} → Turns c takes m loads bytes answer loads' bytes' → IfOk answer (λ e. 2 * e.count ≤ length bytes)
turns_room (stops f t) = tt
turns_room (ends e t) = omega (arith, settled_room t.2, settled_number t.2)
turns_room {answer = answer} (goes next t rest) = rw (← settled_length t.2) (turns_room rest)

module _ (c : Certificate) (takes : List ℕ → ℕ → ℕ → Bool) (choose : List ℕ → ℕ → ℕ) (e : takes ≡ by_choice choose) where
  -- a turn by a choice is the one that is computed
  turn_by : {m : Ready} {loads bytes loads' bytes' : List ℕ} (next : Next) → Turn c takes m loads bytes (Ok next) loads' bytes' → (rest : Ready → List ℕ → List ℕ → Played)
      → turned (settling c (waits m) m.size (length bytes) loads) c (choose loads m.size) m loads bytes rest ≡ followed next loads' bytes' rest
  turn_by {m} {loads} next (b, taken, s) rest =
      let chosen = sym (eqb-true b (choose loads m.size) (rw e at taken)) in
      rw (s.admitted, chosen, s.leading, s.placed, s.written)

  -- turns by a choice are those that are computed, where so many are allowed that the loads would pass their limit
  pub turns_computed : (n : ℕ) {m : Ready} {loads bytes loads' bytes' : List ℕ} {answer : Result Ended Fault} → sum loads ≤ most_total → most_total < n + sum loads
      → Turns c takes m loads bytes answer loads' bytes' → record { answer = answer; loads = loads'; bytes = bytes' } ≡ turns_by c choose n m loads bytes
  turns_computed zero light room run = absurd (omega arith)
  turns_computed (suc n) light room (stops f t) = rw (t.0, t.1, t.2)
  turns_computed (suc n) {m} light room (ends x t) = sym (turn_by {m = m} (Ends x) t (turns_by c choose n))
  turns_computed (suc n) {m} light room (goes next t run) =
      turns_computed n (settled_light t.2) (omega (arith, settled_raises t.2)) run ∙ sym (turn_by {m = m} (GoesOn next) t (turns_by c choose n))
