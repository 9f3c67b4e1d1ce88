-- The sequential register, and the legal records of readers.
use Rattle.std.specs.Prelude.{◌≡◌, ℕ, ◌+◌, ◌≤◌, List, [], ◌∷◌, length, take, Result, Ok, Err}
use Rattle.std.specs.Prelude.{⊤, Contains, All}
use Rattle.std.specs.List.Sorted.{IsNonDecreasing}
use Rattle.council_core.specs.Rolls.{Opening, IsLegal, sheet}
use Rattle.council_core.specs.Sheets.{front_of}
use Rattle.council_core.specs.Ledgers.{Ledger, verdict_of, ledger_with}
use Rattle.council_core.specs.declared.refusals.Refusal.{Refusal}
use Rattle.council_core.specs.declared.calls.Order.{Order}
use Rattle.council_core.specs.declared.calls.Order.TheVariants as order
use Rattle.council_core.specs.declared.calls.Answer.{Answer}
use Rattle.council_core.specs.declared.calls.Answer.TheVariants as answer
use Rattle.council_core.specs.declared.commands.Command.{Command}

pub record Sequential : Type 0 where
  pub ledger : Ledger
  pub published : ℕ

-- a call of the register's writer, or of a reader
pub data Call : Type 0 where
  ordered : Order → Call
  read : Call

abbrev pub submit : Command → Call
submit command = ordered (order.Submit command)

abbrev pub publish : Call
publish = ordered order.Publish

-- the answer to an order, or the sheet that a reader read
pub data Reply : Type 0 where
  answered : Answer → Reply
  reading : List ℕ → Reply

-- the published sheet
abbrev pub published_sheet : Sequential → List ℕ
published_sheet s = sheet s.ledger.opening (take s.published s.ledger.journal)

-- the state and the reply after a submitted command; a refused command changes nothing
abbrev pub submit_response : Sequential → Command → Result ⊤ Refusal → Sequential × Reply
submit_response s command (Ok u) =
    (record s { ledger = ledger_with s.ledger command }, answered (answer.Accepted (length s.ledger.journal + 1)))
submit_response s command (Err why) = (s, answered (answer.Refused why))

-- the next state and the reply
abbrev pub response_to : Sequential → Call → Sequential × Reply
response_to s (ordered (order.Submit command)) = submit_response s command (verdict_of s.ledger command)
response_to s (ordered order.Publish) =
    (record s { published = length s.ledger.journal }, answered (answer.Published (length s.ledger.journal)))
response_to s read = (s, reading (published_sheet s))

-- the order is a command that the register would accept
abbrev pub WouldAccept : Sequential → Order → Type 0
WouldAccept s (order.Submit command) = verdict_of s.ledger command ≡ Ok tt
WouldAccept s order.Publish = ⊥

-- the replies to a list of calls
abbrev pub replies_of : Sequential → List Call → List Reply
replies_of s [] = []
replies_of s (call ∷ calls) = (response_to s call).1 ∷ replies_of (response_to s call).0 calls

-- the state after a list of calls
abbrev pub state_after : Sequential → List Call → Sequential
state_after s [] = s
state_after s (call ∷ calls) = state_after (response_to s call).0 calls

-- cuts: ascending, each at most the number of commands
abbrev pub AreCuts : List Command → List ℕ → Type 0
AreCuts commands cuts = IsNonDecreasing cuts × All (λ cut. cut ≤ length commands) cuts

-- these words are the sheet of one of the cuts
abbrev pub IsCutSheet : Opening → List Command → List ℕ → List ℕ → Type 0
IsCutSheet opening commands cuts words =
    (cut : ℕ) × Contains cuts cut × (words ≡ sheet opening (take cut commands))

-- readings of one reader, oldest first: each is the sheet of a cut, and no front is below the one
-- before it
abbrev pub IsRecordFrom : Opening → List Command → List ℕ → ℕ → List (List ℕ) → Type 0
IsRecordFrom opening commands cuts low [] = Unit {0}
IsRecordFrom opening commands cuts low (words ∷ rest) =
    IsCutSheet opening commands cuts words × (low ≤ front_of words)
    × IsRecordFrom opening commands cuts (front_of words) rest

-- the readings of every reader are such a record
abbrev pub AreRecords : Opening → List Command → List ℕ → List (List (List ℕ)) → Type 0
AreRecords opening commands cuts [] = Unit {0}
AreRecords opening commands cuts (sheets ∷ rest) =
    IsRecordFrom opening commands cuts 0 sheets × AreRecords opening commands cuts rest

-- legal records: a legal list of commands, cuts of it in order, and each reader's readings of
-- sheets of cuts
pub record AreLegalRecords (opening : Opening) (commands : List Command) (cuts : List ℕ)
    (records : List (List (List ℕ))) : Type 0 where
  pub legal : IsLegal opening commands
  pub in_order : AreCuts commands cuts
  pub readings : AreRecords opening commands cuts records
