-- Plans of records, computed; and what a run that serves to its end says of its plan.
use Rattle.std.proofs.Common.{◌≡◌, ◌++◌, ◌⊎◌, inl, inr, arith, ℕ, List, [], ◌∷◌, length, map, Option, Some, None, Ok, Err, refl, sym, ap, subst}
use Rattle.std.specs.Prelude.{codes}
use Rattle.std.specs.Fmt.{digits}
use Rattle.csv.specs.Machine.{next_record}
use Rattle.csv.specs.Reading.{records_from, strip_bom}
use Rattle.council_core.specs.declared.calls.Order.TheVariants as order
use Rattle.council_core.specs.declared.commands.Command.TheVariants.{Open}
use Rattle.council_core.specs.declared.refusals.Refusal.TheVariants.{BadHeader, BadReader, BadRecord}
use Rattle.council_core.specs.Rolls.{IsLegal}
use Rattle.board_serve.proofs.Replies.{accepted, published}
use Rattle.majority_rule.specs.declared.majorities.Majority.TheVariants.{Half, Seventy, Quorum}
use Rattle.board_text.specs.Scripts.{script_course}
use Rattle.board_text.specs.Text.{started_of, fault_at, ledger_at_start, preamble_after_header, printed_run, run_limits, stopped_run}
use Rattle.board_text.specs.Lines.{LineBytes, audit_line}
use Rattle.board_text.specs.declared.faults.Fault.{Fault}
use Rattle.board_text.specs.declared.stops.Stop.TheVariants as stop
use Rattle.std.proofs.lemmas.List.{length-append}
use Rattle.board_text.specs.declared.requests.Request.TheVariants as ask
use Rattle.board_serve.specs.Outcomes.{IsServed, ServedLegalRecords, sheets_of}
use Rattle.board_serve.specs.Plans.{Planned, ThreadRecords, add_at, no_records, plan_of, plan_over, with_request}
use Rattle.board_serve.specs.Serving.{Differs, EndsAfter, EndsBroken, EndsBeforeThreads, WritesServeRun, WritesAllOfServe, WritesServeUntilStop, count_lines, lines_of_work, work_lines}
use Rattle.board_serve.specs.declared.serving.Served.{Served}
use Rattle.board_serve.proofs.WorkedCases.{one_reading}

-- an item goes to the end of the list at its index, if there is one
added : (add_at {A = ℕ} 0 7 ((1 ∷ []) ∷ (2 ∷ []) ∷ []) ≡ (1 ∷ 7 ∷ []) ∷ (2 ∷ []) ∷ []) × (add_at {A = ℕ} 1 7 ((1 ∷ []) ∷ (2 ∷ []) ∷ []) ≡ (1 ∷ []) ∷ (2 ∷ 7 ∷ []) ∷ []) × (add_at {A = ℕ} 2 7 ((1 ∷ []) ∷ (2 ∷ []) ∷ []) ≡ (1 ∷ []) ∷ (2 ∷ []) ∷ [])
added = (refl, refl, refl)

-- each request goes to the writer, or to its reader, after those before it
abbrev shared : ThreadRecords
shared = with_request (with_request (with_request (with_request no_records (ask.Read 1 Half)) (ask.Order order.Publish)) (ask.Read 2 Seventy)) (ask.Read 1 Quorum)

shares_of_four : shared ≡ record { orders = order.Publish ∷ []; asked = (Half ∷ Quorum ∷ []) ∷ (Seventy ∷ []) ∷ [] }
shares_of_four = refl

-- the plan of an input, and its fault: a third reader, or a record that isn't well formed
abbrev start : List ℕ
start = codes "member,votes\nAAA,3\nscript\nopen,1\nread,2,half\npublish\n"

planned : plan_of 9 start ≡ Ok (plan_over (ledger_at_start (run_limits 2 9) ((65 ∷ 65 ∷ 65 ∷ [], 3) ∷ [])) (record { orders = order.Submit (Open 1) ∷ order.Publish ∷ []; asked = [] ∷ (Half ∷ []) ∷ [] }))
unfolding started_of preamble_after_header script_course records_from strip_bom next_record
planned = refl

third_reader : plan_of 9 (start ++ codes "read,3,half\nread") ≡ Err (fault_at BadReader 7)
unfolding started_of preamble_after_header script_course records_from strip_bom next_record
third_reader = refl

no_record : plan_of 9 (start ++ codes "read,3\nread") ≡ Err (fault_at BadRecord 7)
unfolding started_of preamble_after_header script_course records_from strip_bom next_record
no_record = refl

-- readers are numbered from 1, and come after the writer's replies
counted : count_lines 1 (3 ∷ 0 ∷ []) ≡ codes "reader,1,3" ∷ codes "reader,2,0" ∷ []
unfolding digits
counted = refl

worked : lines_of_work (accepted 1 ∷ published 1 ∷ []) (3 ∷ 0 ∷ []) ≡ codes "accepted,1" ∷ codes "published,1" ∷ codes "reader,1,3" ∷ codes "reader,2,0" ∷ []
unfolding digits
worked = refl

-- a run that serves to its end has taken the reading that was asked for, and its records are legal
served_whole : (old new : Option (List ℕ)) (s : Served) → WritesAllOfServe old new s (Ok one_reading) → map length (sheets_of s) ≡ 1 ∷ 0 ∷ []
served_whole old new s h =
    let same : one_reading ≡ h.0 = cc h.1 in
    (subst (λ (p : Planned). IsServed p s) (sym same) h.2).counts

served_legally : (old new : Option (List ℕ)) (s : Served) → WritesAllOfServe old new s (Ok one_reading) → IsLegal one_reading.start.ledger.opening s.journal.items
served_legally old new s h =
    let same : one_reading ≡ h.0 = cc h.1 in
    subst (λ (p : Planned). IsLegal p.start.ledger.opening s.journal.items) (sym same) h.3.legal

-- readings that differ are of the plan too, and are no legal records
differs_served : Differs one_reading → (s : Served) × (map length (sheets_of s) ≡ 1 ∷ 0 ∷ []) × (ServedLegalRecords one_reading s → ⊥)
differs_served (s, served, other) = (s, served.counts, other)

-- before the line of a fault, the run has that end and its lines are written; after a failed write, a prefix of its output
abbrev bad : Fault
bad = fault_at BadRecord 2

good_run_stopped : WritesServeUntilStop (Some []) (Some []) (Some bad) (printed_run []) → ⊥
good_run_stopped h = let e = h.0 in cc e

byte_before_the_fault : WritesServeUntilStop (Some []) (Some (7 ∷ [])) (Some bad) (stopped_run bad) → ⊥
byte_before_the_fault h = let e = h.1 in cc e

byte_after_a_failure : WritesServeUntilStop (Some []) (Some (7 ∷ [])) None (printed_run []) → ⊥
byte_after_a_failure ([], whole, new) = let e = new in cc e
byte_after_a_failure (byte ∷ front, whole, new) = let e = whole.1 in cc e

-- an input with a fault stops no run by another
stopped_by_another : WritesServeRun (Some []) (Some []) (Err (stop.Fault (fault_at BadHeader 0))) (Err bad) → ⊥
stopped_by_another (run, is, stops) = by_end run.lines run.end is stops.0
  where
    code : {f g : Fault} → f ≡ g → f.code ≡ g.code
    code e = ap (λ (f : Fault). f.code) e

    other : (lines : List LineBytes) (f : Fault) → f.code ≡ 21 → EndsBeforeThreads bad lines f ⊎ EndsBroken lines f → ⊥
    other lines f header (inl (none, e)) = omega (arith, header, code e)
    other lines f header (inr (none, inl e)) = omega (arith, header, code e)
    other lines f header (inr (none, inr e)) = omega (arith, header, code e)

    by_end : (lines : List LineBytes) (end : Option Fault) → EndsAfter (Err bad) lines end → end ≡ Some (fault_at BadHeader 0) → ⊥
    by_end lines None e is = e
    by_end lines (Some f) e is = let same : f ≡ fault_at BadHeader 0 = cc is in other lines f (code same) e

-- a run that ends well ends with the audit's line
ends_without_the_audit : EndsAfter (Ok one_reading) [] None → ⊥
ends_without_the_audit e = let long = ap length e in absurd (no_lines long)
  where
    no_lines : 0 ≡ length (work_lines one_reading ++ audit_line ∷ []) → ⊥
    no_lines e = omega (arith, e, length-append (work_lines one_reading) (audit_line ∷ []))
