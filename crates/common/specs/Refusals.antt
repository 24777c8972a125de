-- The rows of the table of refusals (If a call declines): their numbers, and what a call answers by them.
use Rattle.std.specs.Prelude.{ℕ, Result, Ok, Err}
use Rattle.common.specs.declared.refusal.Refusal.{Refusal}
use Rattle.common.specs.declared.refusal.Refusal.TheVariants.{NoProfile, NoWeekday, Unfit, OutOfRange, Unsound, NoBoundary, AlreadyThere, OutOfOrder, TooMuch, NotThere, TooFewReadings, TooGreat, BadFile, NoDay, NoRoom, BadList, TooMuchLoad, NoBase}
use Rattle.common.specs.declared.refusal.Fault.{Fault}

-- the number that the paper gives each row
abbrev pub number_of : Refusal → ℕ
number_of NoProfile = 1
number_of NoWeekday = 2
number_of Unfit = 3
number_of OutOfRange = 4
number_of Unsound = 5
number_of NoBoundary = 6
number_of AlreadyThere = 7
number_of OutOfOrder = 8
number_of TooMuch = 9
number_of NotThere = 10
number_of TooFewReadings = 11
number_of TooGreat = 12
number_of BadFile = 13
number_of NoDay = 14
number_of NoRoom = 15
number_of BadList = 16
number_of TooMuchLoad = 17
number_of NoBase = 18

-- a row whose place is 0, or that has none
abbrev pub at_zero : Refusal → Fault
at_zero r = record { refusal = r; place = 0 }

-- the number that a call answers; 0 is done
abbrev pub number : {A : Type 0} → Result A Refusal → ℕ
number (Ok x) = 0
number (Err r) = number_of r

-- the value that it gives; 0 where a row declines it
abbrev pub value : Result ℕ Refusal → ℕ
value (Ok x) = x
value (Err r) = 0
