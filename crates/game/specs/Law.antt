-- The law of a match: what holds after every list of offers, settlements and questions on it.
use Rattle.std.specs.Prelude.{◌≡◌, ℕ, ◌+◌, ◌*◌, ◌<◌, ◌≤◌, true, cond, List, [], ◌∷◌, ◌++◌, length, is_ok, Result, ◌==◌, slice_index}
use Rattle.certificate.specs.declared.fault.Fault.{Fault}
use Rattle.certificate.specs.Certificates.{Certificate}
use Rattle.plan.specs.Plan.{verdict, bound}
use Rattle.plan.specs.Bound.{Fit}
use Rattle.game.specs.declared.matches.Outcome.{Outcome}
use Rattle.game.specs.declared.matches.Outcome.TheVariants.{Over, Escape, Forfeit}
use Rattle.game.specs.declared.matches.Ready.{Ready}
use Rattle.game.specs.declared.matches.Waiting.{Waiting}
use Rattle.game.specs.declared.matches.Declined.{Declined}
use Rattle.game.specs.declared.matches.Item.{Item}
use Rattle.game.specs.declared.matches.Next.{Next}
use Rattle.game.specs.declared.matches.Next.TheVariants.{GoesOn, Ends}
use Rattle.game.specs.Turns.{Match, as_ready, as_waiting, as_ended, number_of, Tells, Shows, Offers}
use Rattle.game.specs.Settling.{Settled, Refused, Settles}

-- a call and what it gave
pub data Call : Type 0 where
  -- an offer gave an item of this size
  gave : ℕ → Call
  -- a settlement was accepted: an item of this size went into this bin
  put : ℕ → ℕ → Call
  -- a settlement was declined
  refused : Fault → Call
  -- a question for the number of accepted settlements was answered
  told : ℕ → Call
  -- a question for the size on the table was answered
  shown : ℕ → Call

-- the match that a settlement leads to
abbrev pub reached : Next → Match
reached (GoesOn m) = as_ready m
reached (Ends m) = as_ended m

-- Lists of calls from a match m and a player of these loads, newest call first, with the match and the loads that they
-- lead to. Every settlement is with this certificate's store and this player; the item and the record may be any.
pub data Run (c : Certificate) (m : Ready) (loads : List ℕ) : List Call → Match → List ℕ → Type 0 where
  opened : Run c m loads [] (as_ready m) loads
  offer : {cs : List Call} {r : Ready} {now : List ℕ} (w : Waiting) (token : Item) → Run c m loads cs (as_ready r) now → Offers r w token
      → Run c m loads (gave token.size ∷ cs) (as_waiting w) now
  settle : {cs : List Call} {w : Waiting} {now : List ℕ} (token : Item) (bytes : List ℕ) (b : ℕ) (next : Next) (token' : Item) (bytes' now' : List ℕ)
      → Run c m loads cs (as_waiting w) now → Settled c w token bytes now b next token' bytes' now'
      → Run c m loads (put token.size b ∷ cs) (reached next) now'
  refuse : {cs : List Call} {w : Waiting} {now : List ℕ} (token : Item) (bytes : List ℕ) (f : Fault) (w' : Waiting) (token' : Item) (bytes' now' : List ℕ)
      → Run c m loads cs (as_waiting w) now → Refused c w token bytes now f w' token' bytes' now'
      → Run c m loads (refused f ∷ cs) (as_waiting w') now'
  ask : {cs : List Call} {x : Match} {now : List ℕ} (n : ℕ) → Run c m loads cs x now → Tells x n → Run c m loads (told n ∷ cs) x now
  look : {cs : List Call} {w : Waiting} {now : List ℕ} (s : ℕ) → Run c m loads cs (as_waiting w) now → Shows w s → Run c m loads (shown s ∷ cs) (as_waiting w) now

-- ---- what is read off a list of calls

-- the items that the offers gave, oldest first
abbrev pub items : List Call → List ℕ
items [] = []
items (gave s ∷ cs) = items cs ++ s ∷ []
items (put s b ∷ cs) = items cs
items (refused f ∷ cs) = items cs
items (told n ∷ cs) = items cs
items (shown n ∷ cs) = items cs

-- the items that accepted settlements placed, oldest first
abbrev pub placed_items : List Call → List ℕ
placed_items [] = []
placed_items (gave s ∷ cs) = placed_items cs
placed_items (put s b ∷ cs) = placed_items cs ++ s ∷ []
placed_items (refused f ∷ cs) = placed_items cs
placed_items (told n ∷ cs) = placed_items cs
placed_items (shown n ∷ cs) = placed_items cs

-- how many settlements were accepted
abbrev pub accepted : List Call → ℕ
accepted [] = 0
accepted (gave s ∷ cs) = accepted cs
accepted (put s b ∷ cs) = accepted cs + 1
accepted (refused f ∷ cs) = accepted cs
accepted (told n ∷ cs) = accepted cs
accepted (shown n ∷ cs) = accepted cs

-- what bin b carries: the sizes that accepted settlements had the player place there
abbrev pub carried : List Call → ℕ → ℕ
carried [] b = 0
carried (gave s ∷ cs) b = carried cs b
carried (put s x ∷ cs) b = carried cs b + cond (x == b) s 0
carried (refused f ∷ cs) b = carried cs b
carried (told n ∷ cs) b = carried cs b
carried (shown n ∷ cs) b = carried cs b

-- each answer to a question is right: the number of settlements accepted before it, or the size of the one item that was
-- given before it and not yet placed
abbrev pub ToldRight : List Call → Type 0
ToldRight [] = Unit {0}
ToldRight (gave s ∷ cs) = ToldRight cs
ToldRight (put s b ∷ cs) = ToldRight cs
ToldRight (refused f ∷ cs) = ToldRight cs
ToldRight (told n ∷ cs) = (n ≡ accepted cs) × ToldRight cs
ToldRight (shown s ∷ cs) = (items cs ≡ placed_items cs ++ s ∷ []) × ToldRight cs

-- the item on the table, where the match waits
abbrev pub on_table : Match → List ℕ
on_table (as_ready m) = []
on_table (as_waiting m) = m.size ∷ []
on_table (as_ended m) = []

-- the outcome is over
abbrev pub IsOver : Outcome → Type 0
IsOver Over = Unit {0}
IsOver Escape = ⊥
IsOver Forfeit = ⊥

-- the outcome is an escape
abbrev pub IsEscape : Outcome → Type 0
IsEscape Over = ⊥
IsEscape Escape = Unit {0}
IsEscape Forfeit = ⊥

-- the match is over
abbrev pub OverNow : Match → Type 0
OverNow (as_ready m) = ⊥
OverNow (as_waiting m) = ⊥
OverNow (as_ended m) = IsOver m.outcome

-- the match ended as an escape
abbrev pub Escaped : Match → Type 0
Escaped (as_ready m) = ⊥
Escaped (as_waiting m) = ⊥
Escaped (as_ended m) = IsEscape m.outcome

-- the match has ended
abbrev pub EndedNow : Match → Type 0
EndedNow (as_ready m) = ⊥
EndedNow (as_waiting m) = ⊥
EndedNow (as_ended m) = Unit {0}

-- some bin carries the target or more
abbrev pub Reaches : Certificate → List Call → Type 0
Reaches c cs = (b : ℕ) × (b < c.bins) × (c.target ≤ carried cs b)

-- an over match names a bin, with what it carries, the target or more
abbrev pub Named : Certificate → List Call → Match → Type 0
Named c cs (as_ready m) = Unit {0}
Named c cs (as_waiting m) = Unit {0}
Named c cs (as_ended m) = IsOver m.outcome → (m.bin < c.bins) × (m.load ≡ carried cs m.bin) × (c.target ≤ m.load)

-- while the match waits, a settlement with an item of the size shown and a record that is long enough is accepted
abbrev pub Welcome : Certificate → List Call → Match → List ℕ → Type 0
Welcome c cs (as_ready m) loads = Unit {0}
Welcome c cs (as_waiting m) loads =
    (token : Item) (bytes : List ℕ) → token.size ≡ m.size → 2 * accepted cs + 2 ≤ length bytes
    → (answer : Result Next Declined) (token' : Item) (bytes' loads' : List ℕ)
    → Settles c m token bytes loads answer token' bytes' loads'
    → is_ok answer ≡ true
Welcome c cs (as_ended m) loads = Unit {0}

-- what holds after the calls cs, which led to the match x and a player of these loads
pub record KeptAfter (c : Certificate) (cs : List Call) (x : Match) (loads : List ℕ) : Type 0 where
  -- all items offered, the one on the table among them, fit into m bins of size T
  pub fits : Fit c.bins c.capacity (items cs)
  -- no settlement has ended as an escape, which follows from the next line
  pub no_escape : Escaped x → ⊥
  -- a match that has ended is over
  pub ends : EndedNow x → OverNow x
  -- the match is over exactly when some bin carries R or more
  pub over : (OverNow x → Reaches c cs) × (Reaches c cs → OverNow x)
  -- the match's number is that of the settlements accepted, and every answer to a question was right
  pub counted : (number_of x ≡ accepted cs) × ToldRight cs
  -- accepted settlements never outnumber the whole part of m × T / s
  pub few : accepted cs ≤ bound c
  -- and at that number the match is over
  pub last : accepted cs ≡ bound c → OverNow x
  -- what was offered is what was placed or lies on the table
  pub placed : items cs ≡ placed_items cs ++ on_table x
  -- the player's loads are what the calls placed, bin by bin
  pub bins_carry : (length loads ≡ c.bins) × ((b : ℕ) → b < c.bins → slice_index loads b ≡ carried cs b)
  -- an over match names its bin and load
  pub named : Named c cs x
  -- a fitting item and a record that is long enough are always welcome
  pub welcome : Welcome c cs x loads

-- whatever calls are made on the match, with this player, KeptAfter holds
abbrev pub Keeps : Certificate → List ℕ → Ready → Type 0
Keeps c loads m = (cs : List Call) (x : Match) (now : List ℕ) → Run c m loads cs x now → KeptAfter c cs x now

-- if the check accepts, the match keeps the law
abbrev pub Law : Certificate → List ℕ → Ready → Type 0
Law c loads m = is_ok (verdict c) ≡ true → Keeps c loads m
