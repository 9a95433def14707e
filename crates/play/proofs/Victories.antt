-- On an accepted table the turns of a match end it as over, within the bound.
use Rattle.std.proofs.Common.{◌≡◌, ℕ, ◌*◌, ◌<◌, ◌≤◌, Bool, List, ◌∷◌, length, IfOk, Ok, Err, sum, Result, sym, refl, ◌∙◌, arith, MatchResult}
use Rattle.certificate.specs.Lawful.{Lawful}
use Rattle.players.specs.Placing.{most_total}
use Rattle.game.specs.Opening.{opened}
use Rattle.game.proofs.Starting.{opened_from_accepted}
use Rattle.play.specs.Playing.{Plays, Computed, WinsFrom, most_turns}
use Rattle.play.proofs.Turning.{turns_computed, turns_room}
use Rattle.std.proofs.lemmas.Bool.{false≢true}
use Rattle.certificate.specs.declared.fault.Fault.{Fault}
use Rattle.certificate.specs.Certificates.{Certificate}
use Rattle.plan.specs.Plan.{bound}
use Rattle.game.specs.declared.matches.Outcome.{Outcome}
use Rattle.game.specs.declared.matches.Outcome.TheVariants.{Over, Escape, Forfeit}
use Rattle.game.specs.declared.matches.Ready.{Ready}
use Rattle.game.specs.declared.matches.Ended.{Ended}
use Rattle.game.specs.Turns.{as_ready, as_waiting, waits, offered_by}
use Rattle.game.specs.Law.{Call, gave, Run, offer, settle, accepted, Keeps, IsOver}
use Rattle.play.specs.Playing.{Turns, stops, ends, goes, Wins}
use Rattle.play.proofs.Turning.{settled_length}

-- the outcome is over
is_over_says : (o : Outcome) → IsOver o → o ≡ Over
is_over_says Over h = refl
is_over_says Escape h = absurd h
is_over_says Forfeit h = absurd h

module _ (c : Certificate) (takes : List ℕ → ℕ → ℕ → Bool) (first : Ready) (empty : List ℕ) (keeps : Keeps c empty first) where
  -- a ready match offers
  offers : {m : Ready} {loads : List ℕ} {cs : List Call} → Run c first empty cs (as_ready m) loads → Run c first empty (gave m.size ∷ cs) (as_waiting (waits m)) loads
  offers {m} run = offer (waits m) (offered_by m) run (refl, refl)

  -- turns of a match that keeps the law, from a moment when it is ready
  pub turns_win : {m : Ready} {loads bytes loads' bytes' : List ℕ} {answer : Result Ended Fault} {cs : List Call} → 2 * bound c ≤ length bytes → Run c first empty cs (as_ready m) loads
      → Turns c takes m loads bytes answer loads' bytes' → MatchResult answer (Wins c loads') (λ _. ⊥)
  turns_win {m} {loads} {bytes} {cs = cs} long run (stops f t) =
      let kept = keeps _ _ _ (offers run) in
      let last : accepted cs ≡ bound c → ⊥ = kept.last in
      let room : accepted cs < bound c = omega (arith, kept.few, last) in
      absurd (false≢true (kept.welcome (offered_by m) bytes refl (omega arith) (Err (record { fault = f; waiting = waits m })) (offered_by m) bytes loads
      (record { faulty = t.0; match_kept = refl; item_kept = refl; record_kept = refl; loads_kept = refl })))
  turns_win {m} long run (ends e t) =
      let kept = keeps _ _ _ (settle _ _ _ _ _ _ _ (offers run) t.2) in
      let over = kept.ends tt in
      let (there, carried, high) = kept.named over in
      record {
        over = is_over_says e.outcome over;
        few = omega (arith, kept.few, kept.counted.0);
        there = there;
        carried = carried ∙ sym (kept.bins_carry.1 e.bin there);
        reached = high;
      }
  turns_win {m} long run (goes next t rest) =
      turns_win (omega (arith, settled_length t.2)) (settle _ _ _ _ _ _ _ (offers run) t.2) rest

-- what turns of a match that was just opened come to
pub turns_say : {c : Certificate} {takes : List ℕ → ℕ → ℕ → Bool} {m : Ready} {loads bytes loads' bytes' : List ℕ} {answer : Result Ended Fault} → Lawful c → sum loads ≤ most_total → opened c loads ≡ Ok m → Turns c takes m loads bytes answer loads' bytes'
    → Plays c takes loads bytes answer loads' bytes' × Computed c takes loads bytes answer loads' bytes' × WinsFrom c loads bytes answer loads' × IfOk answer (λ e. 2 * e.count ≤ length bytes)
turns_say {c} {takes} {m} {loads} lawful light start turns = (
  rw start turns,
  (λ choose e. rw start (turns_computed c takes choose e most_turns light (omega arith) turns)),
  (λ accepted empty long. turns_win c takes m loads (rw start at (opened_from_accepted c lawful loads accepted empty)) long Run.opened turns),
  turns_room turns,
)
