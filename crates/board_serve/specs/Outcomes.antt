-- The results of the work of all threads.
use Rattle.std.specs.Prelude.{◌≡◌, ℕ, List, [], ◌∷◌, length, map, All}
use Rattle.council_core.specs.Rolls.{IsLegal}
use Rattle.council_core.specs.Sequential.{AreLegalRecords, Call, Reply, answered, ordered, replies_of, state_after}
use Rattle.majority_rule.specs.declared.majorities.Majority.{Majority}
use Rattle.board_share.specs.Readers.{IsLegalSheet}
use Rattle.council_core.specs.declared.calls.Answer.{Answer}
use Rattle.board_serve.specs.Plans.{Planned}
use Rattle.board_serve.specs.Work.{IsRising, cuts_of, omegas}
use Rattle.board_serve.specs.declared.serving.Served.{Served}
use Rattle.board_serve.specs.declared.threads.AllWork.{AllWork}

-- by reader, the sheets that it read
abbrev pub sheets_of : Served → List (List (List ℕ))
sheets_of s = map (λ v. v.items) s.readings.items

-- by reader, the numbers of winning coalitions that it returned
abbrev pub winning_of : Served → List (List ℕ)
winning_of s = map (λ v. v.items) s.winning.items

-- the results of the threads, combined; the journal is the writer's
pub record IsCollected (done : AllWork) (answers : List Answer) (s : Served) : Type 0 where
  pub replies : answers ≡ done.writer.answers.items
  pub journal : s.journal.items ≡ done.writer.writer.ledger.journal
  pub legal : IsLegal done.writer.writer.ledger.opening s.journal.items
  pub cuts : s.cuts.items ≡ done.writer.cuts.items
  pub readings : sheets_of s ≡ done.first.sheets.items ∷ done.second.sheets.items ∷ []
  pub winning : winning_of s ≡ done.first.winning.items ∷ done.second.winning.items ∷ []

-- the sequential register's calls for the writer's records
abbrev pub calls_of : Planned → List Call
calls_of p = map ordered p.records.orders

-- the sequential register's replies to the writer's records
abbrev pub reported_by : Planned → List Reply
reported_by p = replies_of p.start (calls_of p)

-- by reader, omega of each sheet at its record's majority
abbrev pub omegas_by : List (List Majority) → List (List (List ℕ)) → List (List ℕ)
omegas_by [] sheets = []
omegas_by (ms ∷ mss) [] = []
omegas_by (ms ∷ mss) (words ∷ sheets) = omegas ms words ∷ omegas_by mss sheets

-- the journal and the cuts are those that the sequential register gives for the writer's records;
-- each reader has one sheet for each of its records, each the sheet after some legal list of
-- commands, with fronts that never decrease, and omega of it at the record's majority
pub record IsServed (p : Planned) (s : Served) : Type 0 where
  pub journal : s.journal.items ≡ (state_after p.start (calls_of p)).ledger.journal
  pub legal_journal : IsLegal p.start.ledger.opening s.journal.items
  pub cuts : s.cuts.items ≡ cuts_of (reported_by p)
  pub counts : map length (sheets_of s) ≡ map length p.records.asked
  pub legal : All (λ sheets. All (IsLegalSheet p.start.ledger.opening) sheets) (sheets_of s)
  pub rising : All (IsRising 0) (sheets_of s)
  pub winning : winning_of s ≡ omegas_by p.records.asked (sheets_of s)

-- the journal, the cuts, with the start's cut 0 before them, and the readings are legal records
abbrev pub ServedLegalRecords : Planned → Served → Type 0
ServedLegalRecords p s = AreLegalRecords p.start.ledger.opening s.journal.items (0 ∷ s.cuts.items) (sheets_of s)

-- the answers are the sequential register's replies, and IsServed holds
pub record IsOutcome (p : Planned) (answers : List Answer) (s : Served) : Type 0 where
  pub replies : map answered answers ≡ reported_by p
  pub served : IsServed p s
