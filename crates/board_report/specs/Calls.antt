-- The call that the arguments ask for, and the result of arguments that ask for none.
use Rattle.std.specs.Prelude.{◌≡◌, ℕ, ◌<◌, ◌^◌, ◌⊎◌, ⊤, List, [], Option, Some, None, Result, Ok}
use Rattle.std.specs.Prelude.{Err, codes}
use Rattle.std.specs.Str.Parse.{IsNumeral, digits_value, without_leading_plus}
use Rattle.clap.specs.Words.{IsAmong, Row, Text, fault_of, one_of, subcommand_of}
use Rattle.clap.specs.declared.error.kind.ErrorKind.{ErrorKind}
use Rattle.clap.specs.declared.error.kind.ErrorKind.TheVariants.{DisplayHelp, DisplayVersion}
use Rattle.board_report.specs.Commands.{board_app}
use Rattle.board_report.specs.declared.calls.Invocation.{Invocation}
use Rattle.board_report.specs.declared.calls.Invocation.TheVariants.{Replay, Trace, Serve}
use Rattle.board_report.specs.declared.calls.NoCall.{NoCall}
use Rattle.board_report.specs.declared.calls.NoCall.TheVariants.{Shown, Refused, OutOfMemory}

-- the value is such a one, or there is none
abbrev pub IsFound : {A : Type 0} → Option A → (A → Type 0) → Type 0
IsFound {A} None Is = (x : A) → Is x → ⊥
IsFound (Some x) Is = Is x

-- the text is a decimal numeral, with or without a leading plus sign, of a number below 2^bits
pub record Says (bits : ℕ) (text : Text) (n : ℕ) : Type 0 where
  pub numeral : IsNumeral 10 (without_leading_plus text)
  pub small : digits_value 10 (without_leading_plus text) < 2 ^ bits
  pub same : n ≡ digits_value 10 (without_leading_plus text)

-- a text is there, and it is this number, which fits in `bits` bits
abbrev pub IsSaid : ℕ → Option Text → ℕ → Type 0
IsSaid bits None n = ⊥
IsSaid bits (Some text) n = Says bits text n

-- clap found this number of readers
abbrev pub HasReaders : List Row → ℕ → Type 0
HasReaders rows readers = IsSaid 8 (one_of (codes "readers") rows) readers

-- clap found this journal limit, in commands
abbrev pub HasJournal : List Row → ℕ → Type 0
HasJournal rows journal = IsSaid 32 (one_of (codes "journal") rows) journal

-- clap found both limits
pub record HasLimits (rows : List Row) (readers journal : ℕ) : Type 0 where
  pub readers_said : HasReaders rows readers
  pub journal_said : HasJournal rows journal

-- the command that clap found, if any, by its name and its values, is this call
abbrev pub IsCall : Option (Text × List Row) → Invocation → Type 0
IsCall None call = ⊥
IsCall (Some found) (Replay readers journal) = (found.0 ≡ codes "replay") × HasLimits found.1 readers journal
IsCall (Some found) (Trace readers journal) = (found.0 ≡ codes "trace") × HasLimits found.1 readers journal
IsCall (Some found) (Serve journal) = (found.0 ≡ codes "serve") × HasJournal found.1 journal

-- the arguments ask for this call, without a fault
abbrev pub Asks : List Text → Invocation → Type 0
Asks words call = (fault_of board_app words ≡ []) × IsCall (subcommand_of board_app words) call

-- the arguments ask for no call
abbrev pub AskForNone : List Text → Type 0
AskForNone words = (call : Invocation) → Asks words call → ⊥

-- the kind of a text that clap shows on request: the help or the version
abbrev pub IsShownText : ErrorKind → Type 0
IsShownText k = (k ≡ DisplayHelp) ⊎ (k ≡ DisplayVersion)

-- one of the kinds that clap's definition gives for the arguments is a text that they ask for
abbrev pub AskText : List Text → Type 0
AskText words = (k : ErrorKind) × IsAmong k (fault_of board_app words) × IsShownText k

-- one of the kinds that clap's definition gives for the arguments is a fault; or there is none, and
-- they ask for no call
abbrev pub HaveFault : List Text → Type 0
HaveFault words = ((k : ErrorKind) × IsAmong k (fault_of board_app words) × (IsShownText k → ⊥))
    ⊎ ((fault_of board_app words ≡ []) × AskForNone words)

-- why the arguments give no call: a text that they ask for, a fault in them, or out of memory
abbrev pub Explains : List Text → NoCall → Type 0
Explains words (Shown text) = AskText words
Explains words (Refused text) = HaveFault words
Explains words OutOfMemory = ⊤

-- the result for any arguments: the call that they ask for, or why there is none
abbrev pub AnswersLine : List Text → Result Invocation NoCall → Type 0
AnswersLine words (Ok call) = Asks words call
AnswersLine words (Err why) = Explains words why
