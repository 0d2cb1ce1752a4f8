-- "Grounds for refusing": the number of each.
use Rattle.std.specs.Prelude.{ℕ, Result, Ok, Err}
use Rattle.refusal.specs.declared.Refusal.{Refusal}
use Rattle.refusal.specs.declared.Refusal.TheVariants.{CutShort, UnknownByte, OutOfTurn, OutsideLimits, Repeated, NotRunning, NotOneRoot, ParentFirst, PeakAboveBound, FewStarts, ShortList, RootUnreached, BoundBelowBooked}

abbrev pub number_of : Refusal → ℕ
number_of CutShort = 1
number_of UnknownByte = 2
number_of OutOfTurn = 3
number_of OutsideLimits = 4
number_of Repeated = 5
number_of NotRunning = 6
number_of NotOneRoot = 7
number_of ParentFirst = 8
number_of PeakAboveBound = 9
number_of FewStarts = 10
number_of ShortList = 11
number_of RootUnreached = 12
number_of BoundBelowBooked = 13

-- the number of the ground that is answered, and 0 where there is none
abbrev pub number_in : {T : Type 0} → Result T Refusal → ℕ
number_in (Ok _) = 0
number_in (Err refusal) = number_of refusal
