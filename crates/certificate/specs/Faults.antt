-- A refusal as a value: its number and its two places, and how it is printed.
use Rattle.std.specs.Prelude.{ℕ, List, ◌∷◌, ◌++◌, decimal}
use Rattle.certificate.specs.declared.fault.Fault.{Fault}
use Rattle.certificate.specs.declared.reason.Reason.{Reason}
use Rattle.certificate.specs.declared.reason.Reason.TheVariants.{ShortFile, Bins, Capacity, Target, Classes, Rows, FileLength, Size, Load, Offer, PositionOrder, PlayerBins, BookLength, SituationOrder, AdvisedBin, NoStart, LoadRises, SumsDiffer, Overfull, Misshared, Stranded, NoFirstRow, OtherBins, LoadedBin, OtherRow, OtherLoads, OtherItem, ShortRecord, ItemSize, TotalLoad, Programme}

-- the fault of number n at places p and q; a place that the number does not name is 0
abbrev pub fault : ℕ → ℕ → ℕ → Fault
fault n p q = record { number = n; first = p; second = q }

-- the number and both places in decimal, a space (32) between them
abbrev pub fault_text : Fault → List ℕ
fault_text f = decimal f.number ++ (32 ∷ (decimal f.first ++ (32 ∷ decimal f.second)))

-- the number of each reason
abbrev pub number_of : Reason → ℕ
number_of ShortFile = 1
number_of Bins = 2
number_of Capacity = 3
number_of Target = 4
number_of Classes = 5
number_of Rows = 6
number_of FileLength = 7
number_of Size = 8
number_of Load = 9
number_of Offer = 10
number_of PositionOrder = 11
number_of PlayerBins = 16
number_of BookLength = 17
number_of SituationOrder = 18
number_of AdvisedBin = 19
number_of NoStart = 21
number_of LoadRises = 22
number_of SumsDiffer = 23
number_of Overfull = 24
number_of Misshared = 25
number_of Stranded = 26
number_of NoFirstRow = 31
number_of OtherBins = 32
number_of LoadedBin = 33
number_of OtherRow = 34
number_of OtherLoads = 35
number_of OtherItem = 36
number_of ShortRecord = 37
number_of ItemSize = 38
number_of TotalLoad = 39
number_of Programme = 40
