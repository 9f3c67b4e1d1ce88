-- The plan of a run with threads, as a function of the bytes that it reads.
use Rattle.std.specs.Prelude.{ℕ, zero, suc, ◌-◌, ◌++◌, List, [], ◌∷◌, map, Result}
use Rattle.council_core.specs.Ledgers.{Ledger}
use Rattle.council_core.specs.Sequential.{Sequential}
use Rattle.majority_rule.specs.declared.majorities.Majority.{Majority}
use Rattle.board_text.specs.Lines.{LineBytes}
use Rattle.board_text.specs.Scripts.{interpreted_course}
use Rattle.board_text.specs.Text.{request_within, unpublished_register}
use Rattle.board_text.specs.declared.bounds.Limits.{Limits}
use Rattle.board_text.specs.declared.faults.Fault.{Fault}
use Rattle.board_text.specs.declared.requests.Request.{Request}
use Rattle.board_text.specs.declared.requests.Request.TheVariants as ask
use Rattle.council_core.specs.declared.calls.Order.{Order}
use Rattle.board_serve.specs.declared.plan.Records.{Records}
use Rattle.board_serve.specs.declared.plan.TheConstants.{SERVED_READERS}

-- the writer's records, and by reader the majorities of its readings
pub record ThreadRecords : Type 0 where
  pub orders : List Order
  pub asked : List (List Majority)

-- no records yet, for a writer and two readers
abbrev pub no_records : ThreadRecords
no_records = record { orders = []; asked = [] ∷ [] ∷ [] }

-- the records that the code keeps, as lists
abbrev pub records_of : Records → ThreadRecords
records_of r = record { orders = r.orders.items; asked = map (λ v. v.items) r.asked }

-- the register at its start, and the records
pub record Planned : Type 0 where
  pub start : Sequential
  pub records : ThreadRecords

-- a plan over a register of which nothing is published
abbrev pub plan_over : Ledger → ThreadRecords → Planned
plan_over ledger records = record { start = unpublished_register ledger; records = records }

-- limits of two readers and a journal of at most `journal` commands
abbrev pub two_readers : ℕ → Limits
two_readers journal = record { readers = SERVED_READERS; journal = journal }

-- appends an item to the list at this index
abbrev pub add_at : {A : Type 0} → ℕ → A → List (List A) → List (List A)
add_at index a [] = []
add_at zero a (list ∷ lists) = (list ++ a ∷ []) ∷ lists
add_at (suc index) a (list ∷ lists) = list ∷ add_at index a lists

-- appends one request to the records of the writer or of its reader; readers are numbered from 1
abbrev pub with_request : ThreadRecords → Request → ThreadRecords
with_request s (ask.Order o) = record s { orders = s.orders ++ o ∷ [] }
with_request s (ask.Read reader m) = record s { asked = add_at (reader - 1) m s.asked }

-- a plan at the start of a script
abbrev pub plan_start : Limits → Ledger → Planned
plan_start lim ledger = plan_over ledger no_records

-- a request is added to the plan and prints nothing
abbrev pub plan_effect : Planned → Request → List LineBytes × Planned
plan_effect p q = ([], record p { records = with_request p.records q })

-- the plan of these bytes, or their fault: all records of the script are looked at before any is
-- carried out
abbrev pub plan_of : ℕ → List ℕ → Result Planned Fault
plan_of journal bytes = (interpreted_course plan_start request_within plan_effect (two_readers journal) bytes).end
