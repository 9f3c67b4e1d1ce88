-- The numbers that a call returns for the end of a run or a reading.
use Rattle.std.specs.Prelude.{ℕ, Option, Some, None}
use Rattle.board_text.specs.declared.faults.Fault.{Fault}
use Rattle.board_c.specs.declared.TheConstants.{DONE}

-- the result of the call
abbrev pub answer_of : Option Fault → ℕ
answer_of None = DONE
answer_of (Some f) = f.code

-- the number of the fault's record, or 0 if there is none
abbrev pub record_of : Option Fault → ℕ
record_of None = 0
record_of (Some f) = f.place
