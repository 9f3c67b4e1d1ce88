-- The output and the exit status of the program.
use Rattle.std.specs.Prelude.{◌≡◌, ◌≢◌, ℕ, ◌⊎◌, ⊤, List, [], ◌∷◌, ◌++◌, map, Some, Result, Ok, Err, codes}
use Rattle.std.specs.Prelude.{String}
use Rattle.std.specs.Global.{Global}
use Rattle.std.specs.Io.KnownBytes.{Keeps}
use Rattle.std.specs.IoError.{error_kind}
use Rattle.std.specs.String.{string_bytes}
use Rattle.std.specs.Vec.Iter.{into_iter_items}
use Rattle.std.specs.declared.io.Error.{Error}
use Rattle.std.specs.declared.io.ErrorKind.TheVariants as kind
use Rattle.std.specs.declared.vec.IntoIter.{IntoIter}
use Rattle.clap.specs.Words.{Text}
use Rattle.recording_io.specs.Tapes.{OfInput, ReaderRecord, WriterRecord}
use Rattle.council_core.specs.Refusals.{code_of}
use Rattle.council_core.specs.declared.refusals.Refusal.TheVariants.{OutOfMemory}
use Rattle.board_report.specs.Calls.{Asks, AskText, HaveFault}
use Rattle.board_report.specs.declared.calls.Invocation.{Invocation}
use Rattle.board_report.specs.declared.calls.Invocation.TheVariants.{Replay, Trace, Serve}
use Rattle.board_text.specs.Lines.{fault_name}
use Rattle.board_text.specs.Output.{AppendsFront}
use Rattle.board_text.specs.Text.{run_limits}
use Rattle.board_text.specs.declared.faults.Fault.{Fault}
use Rattle.board_runs.specs.Ended.{RecordsOutput}
use Rattle.board_runs.specs.Replays.{run_of}
use Rattle.board_runs.specs.Traces.{trace_of}
use Rattle.board_serve.specs.Plans.{plan_of}
use Rattle.board_serve.specs.Serving.{RecordsServeOutput}
use Rattle.board_serve.specs.declared.serving.Served.{Served}

-- the call over these bytes ended in this result, and has written what that result says
abbrev pub CallEnds : Invocation → List ℕ → WriterRecord → WriterRecord → Result ⊤ Fault → Type 0
CallEnds (Replay readers journal) bytes old new ended =
    RecordsOutput old new ended (run_of (run_limits readers journal) bytes)
CallEnds (Trace readers journal) bytes old new ended =
    RecordsOutput old new ended (trace_of (run_limits readers journal) bytes)
CallEnds (Serve journal) bytes old new (Ok done) =
    (served : Served) × RecordsServeOutput old new (Ok served) (plan_of journal bytes)
CallEnds (Serve journal) bytes old new (Err f) = RecordsServeOutput old new (Err f) (plan_of journal bytes)

-- the text on standard error for a fault with this number
abbrev pub failure_text : ℕ → List ℕ
failure_text code = codes "board: " ++ fault_name code ++ 10 ∷ []

-- standard output and standard error before and after the program
pub record Streams : Type 0 where
  pub out_old : WriterRecord
  pub out_new : WriterRecord
  pub err_old : WriterRecord
  pub err_new : WriterRecord

-- what two writers have recorded, before and after the program
abbrev pub streams_of : WriterRecord → WriterRecord → WriterRecord → WriterRecord → Streams
streams_of out_old out_new err_old err_new =
    record { out_old = out_old; out_new = out_new; err_old = err_old; err_new = err_new }

-- nothing was written
abbrev pub IsUnwritten : WriterRecord → WriterRecord → Type 0
IsUnwritten old new = Keeps (Some old.bytes) (Some new.bytes)

-- a prefix of the text was written
abbrev pub WritesFront : WriterRecord → WriterRecord → List ℕ → Type 0
WritesFront old new text = AppendsFront (Some old.bytes) (Some new.bytes) text

-- out of memory before any call ran: status 1 and a prefix of that fault's text on standard error
pub record LacksMemory (status : ℕ) (s : Streams) : Type 0 where
  pub status_is : status ≡ 1
  pub out_kept : IsUnwritten s.out_old s.out_new
  pub said : WritesFront s.err_old s.err_new (failure_text (code_of OutOfMemory))

-- status 0: the help or the version is shown on standard output; status 2: the arguments are
-- refused on standard error; or out of memory
abbrev pub AnswersWords : List (List ℕ) → ℕ → Streams → Type 0
AnswersWords words status s =
    ((status ≡ 0) × IsUnwritten s.err_old s.err_new × AskText words)
    ⊎ ((status ≡ 2) × IsUnwritten s.out_old s.out_new × HaveFault words)
    ⊎ LacksMemory status s

-- the text on standard error for arguments that are not text
abbrev pub no_text : List ℕ
no_text = codes "error: the arguments are not text" ++ 10 ∷ []

-- the arguments could not be read: out of memory, or status 2 and a prefix of `no_text` on standard error
pub record LacksWords (error : Error) (status : ℕ) (s : Streams) : Type 0 where
  pub memory : error_kind error ≡ kind.OutOfMemory → LacksMemory status s
  pub refused : error_kind error ≢ kind.OutOfMemory
      → (status ≡ 2) × IsUnwritten s.out_old s.out_new × WritesFront s.err_old s.err_new no_text

-- status 0: the call over these bytes returned Ok; status 1: it returned a fault, and a prefix of
-- that fault's text went to standard error; or out of memory before the call
abbrev pub CallExits : Invocation → List ℕ → ℕ → Streams → Type 0
CallExits call bytes status s =
    ((status ≡ 0) × CallEnds call bytes s.out_old s.out_new (Ok tt) × IsUnwritten s.err_old s.err_new)
    ⊎ ((status ≡ 1)
    × ((f : Fault) × CallEnds call bytes s.out_old s.out_new (Err f)
    × WritesFront s.err_old s.err_new (failure_text f.code)))
    ⊎ LacksMemory status s

-- any command line: it asks for a call, which ran over the input, or it is answered without one
abbrev pub IsHandled : ReaderRecord → ReaderRecord → List Text → ℕ → Streams → Type 0
IsHandled from to words status s =
    ((call : Invocation) × Asks words call × OfInput from to (λ bytes. CallExits call bytes status s))
    ⊎ AnswersWords words status s

-- the words of a command line
abbrev pub words_of : IntoIter (String Global) Global → List Text
words_of args = map string_bytes (into_iter_items args)
