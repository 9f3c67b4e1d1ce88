-- The bytes that `board_replay` and `board_trace` leave in their caller's buffer, and the number that they return.
use Rattle.std.specs.Prelude.{◌≡◌, ◌<◌, ℕ, ◌⊎◌, List, Option, Some, None, length, take, nat_le, if◌then◌else◌}
use Rattle.council_core.specs.declared.refusals.Refusal.TheVariants.{OutOfMemory, WriteFault}
use Rattle.board_text.specs.Text.{Run, fault_at, output}
use Rattle.board_text.specs.declared.faults.Fault.{Fault}
use Rattle.board_runs.specs.Ended.{IsBrokenOff}
use Rattle.board_c.specs.Ends.{answer_of, record_of}

-- out of memory: a prefix of the run's lines, each whole, followed by the line of that fault
abbrev pub ShowsOutOfMemory : Run → List ℕ → Option Fault → Type 0
ShowsOutOfMemory run text end = (end ≡ Some (fault_at OutOfMemory 0)) × IsBrokenOff run (fault_at OutOfMemory 0) text

-- a text of the run and its end: all that the run writes, with the run's own end; or the text left
-- after out of memory
abbrev pub IsTextOf : Run → List ℕ → Option Fault → Type 0
IsTextOf run text end = ((text ≡ output run) × (end ≡ run.end)) ⊎ ShowsOutOfMemory run text end

-- the end for a buffer of n bytes: that of the text if it fits, or else WriteFault
abbrev pub end_in : ℕ → List ℕ → Option Fault → Option Fault
end_in n text end = if nat_le (length text) n then end else Some (fault_at WriteFault 0)

-- a buffer of n bytes gets a text of the run, or as long a prefix of it as fits; `answer` and
-- `place` are those of its end
pub record ShowsRun (run : Run) (n : ℕ) (shown : List ℕ) (answer place : ℕ) : Type 0 where
  pub text : List ℕ
  pub end : Option Fault
  pub of_the_run : IsTextOf run text end
  pub front : shown ≡ take n text
  pub number : answer ≡ answer_of (end_in n text end)
  pub at : place ≡ record_of (end_in n text end)

-- n is the length of a text of the run; `answer` and `place` are those of its end
pub record Measures (run : Run) (n answer place : ℕ) : Type 0 where
  pub text : List ℕ
  pub end : Option Fault
  pub of_the_run : IsTextOf run text end
  pub bytes : n ≡ length text
  pub number : answer ≡ answer_of end
  pub at : place ≡ record_of end

-- no fault ended the run, and all of its text is in the buffer
abbrev pub IsWhole : Run → List ℕ → Type 0
IsWhole run shown = (run.end ≡ None) × (shown ≡ output run)

-- a text of the run is longer than n bytes
abbrev pub IsLonger : Run → ℕ → Type 0
IsLonger run n = (text : List ℕ) × (end : Option Fault) × IsTextOf run text end × (n < length text)
