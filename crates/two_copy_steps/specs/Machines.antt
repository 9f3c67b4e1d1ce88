-- The fields of a machine, and the machine as contracts see it.
use Rattle.std.specs.Prelude.{◌≡◌, ℕ, ◌≤◌, Bool, true, List, length, take, Ok}
use Rattle.council_core.specs.Rolls.{sheet}
use Rattle.council_core.specs.Ledgers.{Ledger, verdict_of}
use Rattle.council_core.specs.Sheets.{front_of}
use Rattle.two_copy_steps.specs.declared.events.Event.{Event}
use Rattle.two_copy_steps.specs.declared.events.Event.TheVariants.{Submit}
use Rattle.two_copy_steps.specs.declared.views.Stage.{Stage}
use Rattle.two_copy_steps.specs.declared.views.Phase.{Phase}
use Rattle.two_copy_steps.specs.declared.table.TheConstants.{READERS}
use Rattle.two_copy_steps.specs.Lawful.{IsPublishable}
use Rattle.two_copy_steps.specs.Transitions.{MachineState, is_idle}
use Rattle.two_copy_steps.specs.Auxiliary.{Auxiliary, IsLawfulMachine}

-- the machine by its fields, which have the number of published commands and the sheet of the
-- staged ones
abbrev pub seen_as : Ledger → List ℕ → ℕ → ℕ → List ℕ → Phase → List Bool → List Stage
    → MachineState
seen_as ledger words side published staged phase seen_out readers =
    record {
      ledger = ledger;
      words = words;
      writer = record {
        side = side;
        published = take published ledger.journal;
        staged = take (front_of staged) ledger.journal;
        phase = phase;
        seen_out = seen_out;
      };
      readers = readers;
    }

-- the fields meet the invariant, for some cuts and records
pub record IsMachine (ledger : Ledger) (words : List ℕ) (side published : ℕ) (staged : List ℕ) (phase : Phase)
    (seen_out : List Bool) (readers : List Stage) : Type 0 where
  pub published_within : published ≤ length ledger.journal
  pub staged_within : front_of staged ≤ length ledger.journal
  pub sheet_is : staged ≡ sheet ledger.opening (take (front_of staged) ledger.journal)
  pub lawful : (a : Auxiliary)
      × IsLawfulMachine IsPublishable (seen_as ledger words side published staged phase seen_out readers) a

-- from one to READERS readers
abbrev pub IsFew : ℕ → Type 0
IsFew readers = (1 ≤ readers) × (readers ≤ READERS)

-- an event that can need memory: a command that the register accepts, while no publication is in
-- progress
abbrev pub WantsMemory : MachineState → Event → Type 0
WantsMemory m (Submit command) = (is_idle m.writer.phase ≡ true) × (verdict_of m.ledger command ≡ Ok tt)
WantsMemory m event = ⊥
