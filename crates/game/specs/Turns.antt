-- What an offer, a forfeit and a question do.
use Rattle.std.specs.Prelude.{◌≡◌, ℕ, Ok, Err, Result, ◌≢◌}
use Rattle.certificate.specs.Faults.{fault}
use Rattle.game.specs.declared.matches.Outcome.TheVariants.{Forfeit}
use Rattle.game.specs.declared.matches.Ready.{Ready}
use Rattle.game.specs.declared.matches.Waiting.{Waiting}
use Rattle.game.specs.declared.matches.Ended.{Ended}
use Rattle.game.specs.declared.matches.Declined.{Declined}
use Rattle.game.specs.declared.matches.Item.{Item}

-- a match in one of its states
pub data Match : Type 0 where
  as_ready : Ready → Match
  as_waiting : Waiting → Match
  as_ended : Ended → Match

-- how many settlements a match says were accepted
abbrev pub number_of : Match → ℕ
number_of (as_ready m) = m.count
number_of (as_waiting m) = m.count
number_of (as_ended m) = m.count

-- what the question for the number of accepted settlements answers
abbrev pub Tells : Match → ℕ → Type 0
Tells x n = n ≡ number_of x

-- what the question for the size on the table answers
abbrev pub Shows : Waiting → ℕ → Type 0
Shows w s = s ≡ w.size

-- the match once it has offered: it waits at the same row
abbrev pub waits : Ready → Waiting
waits m = record { row = m.row; size = m.size; count = m.count }

-- the item that it has offered
abbrev pub offered_by : Ready → Item
offered_by m = record { size = m.size }

-- an offer: the match waits at the same row, and it and the item show the size that the row offers
abbrev pub Offers : Ready → Waiting → Item → Type 0
Offers m w item = (w ≡ waits m) × (item ≡ offered_by m)

-- an item that is spent
abbrev pub spent : Item
spent = record { size = 0 }

-- a forfeit ends the match and spends its item; 36: the item's size is not the one shown, and all stays
abbrev pub Forfeits : Waiting → Item → Result Ended Declined → Item → Type 0
Forfeits w item (Ok e) after = (item.size ≡ w.size) × (e ≡ record { outcome = Forfeit; bin = 0; load = 0; count = w.count }) × (after ≡ spent)
Forfeits w item (Err d) after = (item.size ≢ w.size) × (d ≡ record { fault = fault 36 0 0; waiting = w }) × (after ≡ item)
