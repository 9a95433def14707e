-- Settling an item: when it is declined, what it changes, and what it leads to.
use Rattle.std.specs.Prelude.{◌≡◌, ℕ, ◌+◌, ◌*◌, ◌/◌, ◌<◌, Bool, true, false, not, ◌&&◌, List, [], ◌∷◌, length, Some, None, Ok, Err, Option, Result, ◌==◌, nat_le, nat_lt, slice_index, slice_set}
use Rattle.certificate.specs.declared.fault.Fault.{Fault}
use Rattle.certificate.specs.Certificates.{Certificate, row_count, row, load, offered, find_row}
use Rattle.certificate.specs.Rules.{Rule, whole, first, judge_all, next_after}
use Rattle.positions.specs.Positions.{next_loads, next_counts, offer}
use Rattle.players.specs.Placing.{declined, raised}
use Rattle.game.specs.declared.matches.Outcome.TheVariants.{Over, Escape}
use Rattle.game.specs.declared.matches.Ready.{Ready}
use Rattle.game.specs.declared.matches.Waiting.{Waiting}
use Rattle.game.specs.declared.matches.Declined.{Declined}
use Rattle.game.specs.declared.matches.Item.{Item}
use Rattle.game.specs.declared.matches.Next.{Next}
use Rattle.game.specs.declared.matches.Next.TheVariants.{GoesOn, Ends}
use Rattle.game.specs.Loads.{row_is}
use Rattle.game.specs.Turns.{spent}

-- ---- when a settlement is declined

-- whether the certificate has row i, and offers size s there
abbrev pub still_offers : Certificate → ℕ → ℕ → Bool
still_offers c i s = nat_lt i (row_count c) && offer c i == s

-- 34: the store lacks the match's row or offers another size there
abbrev pub row_rule : Certificate → Waiting → Rule
row_rule c w = whole 34 (not (still_offers c w.row w.size))

-- 35: the row's loads do not descend or are not the player's in some order
abbrev pub loads_rule : Certificate → Waiting → List ℕ → Rule
loads_rule c w loads = whole 35 (not (row_is (row c w.row).loads loads))

-- 36: the item's size is not the one shown
abbrev pub item_rule : Waiting → ℕ → Rule
item_rule w s = whole 36 (not (s == w.size))

-- 37: the record, of this length, has no room for two more bytes after those of the settlements before
abbrev pub record_rule : Waiting → ℕ → Rule
record_rule w len = whole 37 (nat_le (len / 2) w.count)

abbrev pub settling_rules : Certificate → Waiting → ℕ → ℕ → List ℕ → List Rule
settling_rules c w s len loads = row_rule c w ∷ (loads_rule c w loads ∷ (item_rule w s ∷ (record_rule w len ∷ [])))

-- whether an item of size s is settled with a record of this length and a player of these loads, or the fault:
-- 34 to 37, then what placing declines
abbrev pub settling : Certificate → Waiting → ℕ → ℕ → List ℕ → Result (Unit {0}) Fault
settling c w s len loads = next_after (judge_all (settling_rules c w s len loads)) (declined loads s)

-- ---- what an accepted settlement leads to

-- a match that is ready at row i after n accepted settlements
abbrev pub ready_at : Certificate → ℕ → ℕ → Ready
ready_at c i n = record { row = i; size = offer c i; count = n }

-- whether place j of row i has load v
abbrev pub bears : Certificate → ℕ → ℕ → ℕ → Bool
bears c i v j = load c i j == v

-- the first place of row i that has load v
abbrev pub place_of : Certificate → ℕ → ℕ → Option ℕ
place_of c i v = first (bears c i v) c.bins

-- the row of the position that follows row i when its offer goes onto place j
abbrev pub row_after : Certificate → ℕ → Option ℕ → Option ℕ
row_after c i None = None
row_after c i (Some j) = find_row c (next_loads (row c i).loads j (offer c i)) (next_counts (row c i).counts (offered c i))

-- the row of the next position for a bin that carried v
abbrev pub next_row : Certificate → ℕ → ℕ → Option ℕ
next_row c i v = row_after c i (place_of c i v)

-- the match is over where bin b carries the target or more; else it goes on at the row that follows;
-- it is an escape where there is none
abbrev pub led : Certificate → ℕ → ℕ → ℕ → Bool → Option ℕ → Next
led c n b v true found = Ends (record { outcome = Over; bin = b; load = v; count = n })
led c n b v false None = Ends (record { outcome = Escape; bin = b; load = v; count = n })
led c n b v false (Some i) = GoesOn (ready_at c i n)

-- after n settlements, this one counted, where an item of size s went from row i into bin b, which carried v before
abbrev pub leads : Certificate → ℕ → ℕ → ℕ → ℕ → ℕ → Next
leads c n i b v s = led c n b (v + s) (nat_le c.target (v + s)) (next_row c i v)

-- size and bin are written at bytes 2n and 2n + 1, and every other byte stays
abbrev pub entered : List ℕ → ℕ → ℕ → ℕ → List ℕ
entered bytes n s b = slice_set (slice_set bytes (2 * n) s) (2 * n + 1) b

-- the player had bin b take the item: what the call leaves behind, and what it leads to
pub record Settled (c : Certificate) (w : Waiting) (token : Item) (bytes loads : List ℕ) (b : ℕ) (next : Next) (token' : Item) (bytes' loads' : List ℕ) : Type 0 where
  pub admitted : settling c w token.size (length bytes) loads ≡ Ok tt
  pub there : b < length loads
  pub placed : loads' ≡ raised loads b token.size
  pub written : bytes' ≡ entered bytes w.count token.size b
  pub paid : token' ≡ spent
  pub leading : next ≡ leads c (w.count + 1) w.row b (slice_index loads b) token.size

-- the fault, and the match, the item, the record and the loads, all as before
pub record Refused (c : Certificate) (w : Waiting) (token : Item) (bytes loads : List ℕ) (f : Fault) (w' : Waiting) (token' : Item) (bytes' loads' : List ℕ) : Type 0 where
  pub faulty : settling c w token.size (length bytes) loads ≡ Err f
  pub match_kept : w' ≡ w
  pub item_kept : token' ≡ token
  pub record_kept : bytes' ≡ bytes
  pub loads_kept : loads' ≡ loads

-- a settlement is accepted, with the bin that the player chose, or refused
abbrev pub Settles : Certificate → Waiting → Item → List ℕ → List ℕ → Result Next Declined → Item → List ℕ → List ℕ → Type 0
Settles c w token bytes loads (Ok next) token' bytes' loads' = (b : ℕ) × Settled c w token bytes loads b next token' bytes' loads'
Settles c w token bytes loads (Err d) token' bytes' loads' = Refused c w token bytes loads d.fault d.waiting token' bytes' loads'

-- the same, where the bin is one that the player's rule takes
abbrev pub SettlesBy : Certificate → (List ℕ → ℕ → ℕ → Bool) → Waiting → Item → List ℕ → List ℕ → Result Next Declined → Item → List ℕ → List ℕ → Type 0
SettlesBy c takes w token bytes loads (Ok next) token' bytes' loads' = (b : ℕ) × (takes loads token.size b ≡ true) × Settled c w token bytes loads b next token' bytes' loads'
SettlesBy c takes w token bytes loads (Err d) token' bytes' loads' = Refused c w token bytes loads d.fault d.waiting token' bytes' loads'
