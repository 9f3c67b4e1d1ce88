-- A script carried out record by record: the lines that it prints, and how it ends.
use Rattle.std.specs.Prelude.{ℕ, ◌+◌, List, [], ◌∷◌, ◌++◌, Result, Ok, Err}
use Rattle.std.specs.Result.{result_err}
use Rattle.csv.specs.Reading.{default_config, records, strip_bom}
use Rattle.council_core.specs.Ledgers.{Ledger}
use Rattle.council_core.specs.declared.refusals.Refusal.{Refusal}
use Rattle.board_text.specs.Lines.{LineBytes}
use Rattle.board_text.specs.Requests.{Row}
use Rattle.board_text.specs.declared.bounds.Limits.{Limits}
use Rattle.board_text.specs.declared.faults.Fault.{Fault}
use Rattle.board_text.specs.Text.{Started, Run, started_after, started_of, fault_at, preamble_of}

-- the effect of what is asked for on a state: the lines that it prints, and the state after it
abbrev pub Effect : Type 0 → Type 0 → Type 0
Effect S A = S → A → List LineBytes × S

-- the course of a script: the lines that it printed, and the state after it or the fault that ended it
pub record Course (S : Type 0) : Type 0 where
  pub lines : List LineBytes
  pub end : Result S Fault

-- a course as a run, which has no state
abbrev pub run_in : {S : Type 0} → Course S → Run
run_in c = record { lines = c.lines; end = result_err c.end }

abbrev pub stopped_course : {S : Type 0} → Fault → Course S
stopped_course f = record { lines = []; end = Err f }

-- lines and a state, followed by the rest of the course
abbrev pub course_from : {S : Type 0} → List LineBytes × S → (S → Course S) → Course S
course_from p more = record { lines = p.0 ++ (more p.1).lines; end = (more p.1).end }

-- the course of record number k: of what it asks for, or, if it is refused, its fault
abbrev pub record_course : {S A : Type 0} → ℕ → Result A Refusal → (A → Course S) → Course S
record_course k (Err why) course = stopped_course (fault_at why k)
record_course k (Ok a) course = course a

-- the script's records in order, each carried out before the next is looked at; k is the number of
-- the first
unfoldable pub script_course : {S A : Type 0} → (Row → Result A Refusal) → Effect S A → S → ℕ → List Row → Course S
script_course parsed effect s k [] = record { lines = []; end = Ok s }
script_course parsed effect s k (r ∷ rs) =
    record_course k (parsed r) (λ a. course_from (effect s a) (λ t. script_course parsed effect t (k + 1) rs))

-- the course of a script from its start, or of the fault before it
abbrev pub started_course : {S : Type 0} → (Started → Course S) → Result Started Fault → Course S
started_course interpret (Err f) = stopped_course f
started_course interpret (Ok b) = interpret b

-- the course of a script on the state opened over the register at its start
abbrev pub course_of_script : {S A : Type 0} → (Limits → Ledger → S) → (Limits → Row → Result A Refusal)
    → Effect S A → Limits → Started → Course S
course_of_script opened parsed effect lim b = script_course (parsed lim) effect (opened lim b.0) b.1 b.2

-- the course of the records of a whole text, whose length and limits aren't checked here
abbrev pub text_course : {S A : Type 0} → (Limits → Ledger → S) → (Limits → Row → Result A Refusal) → Effect S A
    → Limits → List ℕ → Course S
text_course opened parsed effect lim text = started_course (course_of_script opened parsed effect lim)
    (started_after lim (preamble_of (records default_config (strip_bom text))))

-- the course of these bytes, for an interpreter that opens its state, parses and carries out so
abbrev pub interpreted_course : {S A : Type 0} → (Limits → Ledger → S) → (Limits → Row → Result A Refusal)
    → Effect S A → Limits → List ℕ → Course S
interpreted_course opened parsed effect lim bytes =
    started_course (course_of_script opened parsed effect lim) (started_of lim bytes)
