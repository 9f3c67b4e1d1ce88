-- What an event does, case by case.
use Rattle.two_copy_steps.proofs.Names.{[], Accepted, after_reader_step, Auxiliary, auxiliary_reader_step}
use Rattle.two_copy_steps.proofs.Names.{auxiliary_step, Began, Bool, Command, cond, Err, Event, false, is_idle}
use Rattle.two_copy_steps.proofs.Names.{is_pending, ledger_with, length, machine_and_note, MachineState, None, Note, Ok}
use Rattle.two_copy_steps.proofs.Names.{Option, Publish, Published, published_by, Reader, reader_transition, refl}
use Rattle.two_copy_steps.proofs.Names.{Refusal, Refused, Result, Skipped, slice_get, Some, Stage, stage_note, Submit}
use Rattle.two_copy_steps.proofs.Names.{suc, transition, true, verdict_of, Writer, zero, ℕ, ⊤, ◌+◌, ◌≡◌}
use Rattle.two_copy_steps.specs.Actions.{writing_of_staged}
use Rattle.two_copy_steps.specs.Transitions.{writer_transition}

-- the machine after an event, the cuts and the records then, and the output
pub data Outcome (m : MachineState) (aux : Auxiliary) : Event → MachineState → Auxiliary → Note → Type 0 where
  skipped : (event : Event) → Outcome m aux event m aux Skipped
  accepted : (command : Command) → verdict_of m.ledger command ≡ Ok tt → Outcome m aux (Submit command) (record m { ledger = ledger_with m.ledger command }) aux (Accepted (length m.ledger.journal + 1))
  refused : (command : Command) (why : Refusal) → Outcome m aux (Submit command) m aux (Refused why)
  current : Outcome m aux Publish m aux (Published (length m.writer.published))
  began : is_pending m ≡ true → Outcome m aux Publish (record m { writer = writing_of_staged m.ledger.journal m.writer }) aux Began
  wrote : Outcome m aux Writer (writer_transition m).0 (auxiliary_step m aux Writer) (writer_transition m).1
  stepped : (r : ℕ) (stage : Stage) → slice_get m.readers r ≡ Some stage → Outcome m aux (Reader (suc r)) (after_reader_step m r stage) (auxiliary_reader_step m aux r (Some stage)) (stage_note (suc r) stage)

module _ (m : MachineState) (aux : Auxiliary) where
  abbrev Gives : Event → MachineState × Note → Auxiliary → Type 0
  Gives event t after = Outcome m aux event t.0 after t.1

  submitted : (command : Command) (v : Result ⊤ Refusal) → verdict_of m.ledger command ≡ v → Gives (Submit command) (machine_and_note m command v) aux
  submitted command (Ok u) e = accepted command e
  submitted command (Err why) e = refused command why

  begun : (b : Bool) → is_pending m ≡ b → Gives Publish (published_by m b) aux
  begun true e = began e
  begun false e = current

  read : (r : ℕ) (o : Option Stage) → slice_get m.readers r ≡ o → Gives (Reader (suc r)) (reader_transition m r o) (auxiliary_reader_step m aux r o)
  read r None e = skipped (Reader (suc r))
  read r (Some stage) e = stepped r stage e

  idle_or : (event : Event) (b : Bool) (t : MachineState × Note) → Gives event t aux → Gives event (cond b t (m, Skipped)) aux
  idle_or event true t h = h
  idle_or event false t h = skipped event

  pub outcome : (event : Event) → Gives event (transition m event) (auxiliary_step m aux event)
  outcome (Submit command) = idle_or (Submit command) (is_idle m.writer.phase) _ (submitted command (verdict_of m.ledger command) refl)
  outcome Publish = idle_or Publish (is_idle m.writer.phase) _ (begun (is_pending m) refl)
  outcome Writer = wrote
  outcome (Reader zero) = skipped (Reader zero)
  outcome (Reader (suc r)) = read r (slice_get m.readers r) refl

-- cuts and records, for facts in which they don't occur
abbrev pub no_auxiliary : Auxiliary
no_auxiliary = record { cuts = []; records = [] }
