-- What a call answers whose refusals have a place (If a call declines): the number and the place, 0 where it is done, and the value.
use Rattle.std.specs.Prelude.{ℕ, Result, Ok, Err}
use Rattle.common.specs.declared.refusal.Fault.{Fault}
use Rattle.common.specs.Refusals.{number_of}

-- the number that a call answers; 0 is done
abbrev pub number : {A : Type 0} → Result A Fault → ℕ
number (Ok x) = 0
number (Err f) = number_of f.refusal

-- the place that goes with it
abbrev pub place : {A : Type 0} → Result A Fault → ℕ
place (Ok x) = 0
place (Err f) = f.place

-- the value that it gives; 0 where a row declines it
abbrev pub value : Result ℕ Fault → ℕ
value (Ok x) = x
value (Err f) = 0
