-- A match that is played to its end: turn after turn, an offer and the settlement of its item.
use Rattle.std.specs.Prelude.{◌≡◌, ℕ, zero, suc, ◌+◌, ◌*◌, ◌<◌, ◌≤◌, Bool, true, List, length, is_ok, Ok, Err, Result, MatchResult, slice_index}
use Rattle.certificate.specs.declared.fault.Fault.{Fault}
use Rattle.certificate.specs.Faults.{fault}
use Rattle.certificate.specs.Certificates.{Certificate}
use Rattle.positions.specs.Positions.{empty_loads}
use Rattle.plan.specs.Plan.{verdict, bound}
use Rattle.players.specs.Placing.{most_total, raised, by_choice}
use Rattle.game.specs.declared.matches.Outcome.TheVariants.{Over}
use Rattle.game.specs.declared.matches.Ready.{Ready}
use Rattle.game.specs.declared.matches.Ended.{Ended}
use Rattle.game.specs.declared.matches.Next.{Next}
use Rattle.game.specs.declared.matches.Next.TheVariants.{GoesOn, Ends}
use Rattle.game.specs.Turns.{waits, offered_by, spent}
use Rattle.game.specs.Settling.{settling, leads, entered, Settled}
use Rattle.game.specs.Opening.{opened}

-- ---- by the bins that the player takes

-- One turn of a ready match, with a player of these loads and a record of these bytes: the item goes into a bin that the
-- rule takes, as a settlement has it; or the settlement is declined, and loads and record stay.
abbrev pub Turn : Certificate → (List ℕ → ℕ → ℕ → Bool) → Ready → List ℕ → List ℕ → Result Next Fault → List ℕ → List ℕ → Type 0
Turn c takes m loads bytes (Ok next) loads' bytes' = (b : ℕ) × (takes loads m.size b ≡ true) × Settled c (waits m) (offered_by m) bytes loads b next spent bytes' loads'
Turn c takes m loads bytes (Err f) loads' bytes' = (settling c (waits m) m.size (length bytes) loads ≡ Err f) × (loads' ≡ loads) × (bytes' ≡ bytes)

-- turns from a ready match until it ends or one is declined, with what the player and the record hold then
pub data Turns (c : Certificate) (takes : List ℕ → ℕ → ℕ → Bool) : Ready → List ℕ → List ℕ → Result Ended Fault → List ℕ → List ℕ → Type 0 where
  stops : {m : Ready} {loads bytes loads' bytes' : List ℕ} (f : Fault) → Turn c takes m loads bytes (Err f) loads' bytes' → Turns c takes m loads bytes (Err f) loads' bytes'
  ends : {m : Ready} {loads bytes loads' bytes' : List ℕ} (e : Ended) → Turn c takes m loads bytes (Ok (Ends e)) loads' bytes' → Turns c takes m loads bytes (Ok e) loads' bytes'
  goes : {m : Ready} {loads bytes loads' bytes' loads'' bytes'' : List ℕ} {answer : Result Ended Fault} (next : Ready)
      → Turn c takes m loads bytes (Ok (GoesOn next)) loads' bytes' → Turns c takes next loads' bytes' answer loads'' bytes'' → Turns c takes m loads bytes answer loads'' bytes''

-- what is played from an opening: its fault, with nothing changed, or turns from the match that it gave
abbrev pub PlaysFrom : Result Ready Fault → Certificate → (List ℕ → ℕ → ℕ → Bool) → List ℕ → List ℕ → Result Ended Fault → List ℕ → List ℕ → Type 0
PlaysFrom (Ok m) c takes loads bytes answer loads' bytes' = Turns c takes m loads bytes answer loads' bytes'
PlaysFrom (Err f) c takes loads bytes answer loads' bytes' = (answer ≡ Err f) × (loads' ≡ loads) × (bytes' ≡ bytes)

-- a match is opened and played
abbrev pub Plays : Certificate → (List ℕ → ℕ → ℕ → Bool) → List ℕ → List ℕ → Result Ended Fault → List ℕ → List ℕ → Type 0
Plays c takes loads bytes answer loads' bytes' = PlaysFrom (opened c loads) c takes loads bytes answer loads' bytes'

-- ---- where the loads and the size decide the bin: what is played, computed

-- what a played match leaves: how it ended or the fault that stopped it, the player's loads and the record
pub record Played : Type 0 where
  pub answer : Result Ended Fault
  pub loads : List ℕ
  pub bytes : List ℕ

-- the most turns that a match can have: each accepted one adds 1 or more to loads that never come to more than `most_total`,
-- and one more may be declined
abbrev pub most_turns : ℕ
most_turns = most_total + 1

-- after a settlement that was admitted: the match ends, or the turns that follow are played
abbrev pub followed : Next → List ℕ → List ℕ → (Ready → List ℕ → List ℕ → Played) → Played
followed (Ends e) loads bytes rest = record { answer = Ok e; loads = loads; bytes = bytes }
followed (GoesOn m) loads bytes rest = rest m loads bytes

-- one turn by a choice, and the turns that follow
abbrev pub turned : Result (Unit {0}) Fault → Certificate → ℕ → Ready → List ℕ → List ℕ → (Ready → List ℕ → List ℕ → Played) → Played
turned (Err f) c b m loads bytes rest = record { answer = Err f; loads = loads; bytes = bytes }
turned (Ok u) c b m loads bytes rest = followed (leads c (m.count + 1) m.row b (slice_index loads b) m.size) (raised loads b m.size) (entered bytes m.count m.size b) rest

-- at most n turns by a choice; number 0, which no call reports, where these do not suffice
abbrev pub turns_by : Certificate → (List ℕ → ℕ → ℕ) → ℕ → Ready → List ℕ → List ℕ → Played
turns_by c choose zero m loads bytes = record { answer = Err (fault 0 0 0); loads = loads; bytes = bytes }
turns_by c choose (suc n) m loads bytes = turned (settling c (waits m) m.size (length bytes) loads) c (choose loads m.size) m loads bytes (turns_by c choose n)

-- what is played from an opening
abbrev pub played_from : Result Ready Fault → Certificate → (List ℕ → ℕ → ℕ) → List ℕ → List ℕ → Played
played_from (Ok m) c choose loads bytes = turns_by c choose most_turns m loads bytes
played_from (Err f) c choose loads bytes = record { answer = Err f; loads = loads; bytes = bytes }

-- a match that is opened and played by a choice
abbrev pub played : Certificate → (List ℕ → ℕ → ℕ) → List ℕ → List ℕ → Played
played c choose loads bytes = played_from (opened c loads) c choose loads bytes

-- where the player's rule is a choice, what is played is what is computed
abbrev pub Computed : Certificate → (List ℕ → ℕ → ℕ → Bool) → List ℕ → List ℕ → Result Ended Fault → List ℕ → List ℕ → Type 0
Computed c takes loads bytes answer loads' bytes' = (choose : List ℕ → ℕ → ℕ) → takes ≡ by_choice choose → record { answer = answer; loads = loads'; bytes = bytes' } ≡ played c choose loads bytes

-- ---- what an accepted table is worth

-- the match is over within the bound's number of settlements: the bin that it names carries the target or more
pub record Wins (c : Certificate) (loads : List ℕ) (e : Ended) : Type 0 where
  pub over : e.outcome ≡ Over
  pub few : e.count ≤ bound c
  pub there : e.bin < c.bins
  pub carried : e.load ≡ slice_index loads e.bin
  pub reached : c.target ≤ e.load

-- on an accepted table, from empty bins and with a record that is long enough, playing is not stopped and the match is won
abbrev pub WinsFrom : Certificate → List ℕ → List ℕ → Result Ended Fault → List ℕ → Type 0
WinsFrom c loads bytes answer loads' = is_ok (verdict c) ≡ true → loads ≡ empty_loads c → 2 * bound c ≤ length bytes → MatchResult answer (Wins c loads') (λ _. ⊥)
