-- Which faults may end a run of the threads, and after which lines; and what the definitions exclude.
use Rattle.std.proofs.Common.{◌≡◌, ◌++◌, ◌∙◌, ◌⊎◌, inl, inr, ℕ, true, false, List, [], ◌∷◌, length, map, replicate, Option, Some, None, Ok, Err, refl, sym, ap, arith, ⊎_elim, All, get_or, subst}
use Rattle.std.proofs.lemmas.List.{length-append}
use Rattle.std.proofs.lemmas.Option.{none-some}
use Rattle.std.proofs.lemmas.List.Elements.{recursion_from_All}
use Rattle.std.specs.Io.KnownBytes.{Appends}
use Rattle.council_core.specs.Rolls.{IsLegal}
use Rattle.council_core.specs.Sequential.{Sequential, answered}
use Rattle.council_core.specs.declared.calls.Answer.{Answer}
use Rattle.board_serve.proofs.Replies.{accepted, published, refused}
use Rattle.council_core.specs.declared.calls.Order.TheVariants as order
use Rattle.council_core.specs.declared.commands.Command.TheVariants.{Close, Open}
use Rattle.council_core.specs.declared.refusals.Refusal.TheVariants as refusal
use Rattle.majority_rule.specs.declared.majorities.Majority.TheVariants.{Half}
use Rattle.board_share.specs.Readers.{IsLegalSheet}
use Rattle.board_text.specs.Lines.{LineBytes, audit_line}
use Rattle.board_text.specs.Output.{AppendsFront, WritesRun}
use Rattle.board_text.specs.Text.{fault_at, output, stopped_run, text_of}
use Rattle.board_text.specs.declared.faults.Fault.{Fault}
use Rattle.board_text.specs.declared.stops.Stop.{Stop}
use Rattle.board_text.specs.declared.stops.Stop.TheVariants as stop
use Rattle.board_serve.specs.Outcomes.{IsOutcome, IsServed, omegas_by, sheets_of, winning_of}
use Rattle.board_serve.specs.Plans.{Planned}
use Rattle.board_serve.specs.Serving.{Differs, EndsAfter, EndsHeldUp, WritesServeOutput, WritesAllOfServe, audited_run, work_lines}
use Rattle.board_serve.specs.declared.serving.Served.{Served}
use Rattle.board_serve.specs.Work.{CanEnd, IsClosed, IsRising, StopsAt, StopsWithin, ThreadEnds, cuts_of, returned_stop}
use Rattle.board_serve.specs.declared.plan.TheConstants.{SERVED_READERS}
use Rattle.board_serve.proofs.ServeFacts.{stopped-fault}
use Rattle.std.specs.Option.{option_or}
use Rattle.std.specs.Prelude.{IfSome}

-- the number of readers of `serve`, so that a changed constant is rejected
readers : SERVED_READERS ≡ 2
readers = refl

-- one reading is asked of the first of two readers, over a register of one member
abbrev register : Sequential
register = record { ledger = record { opening = (65 ∷ 65 ∷ 65 ∷ [], 10) ∷ []; journal = []; limit = 100 }; published = 0 }

abbrev pub one_reading : Planned
one_reading = record { start = register; records = record { orders = []; asked = (Half ∷ []) ∷ [] ∷ [] } }

has_lines : work_lines one_reading ≡ [] → ⊥
has_lines e = cc

-- what is said of one refusal's fault is not said of another's
other_fault : (a b : ℕ) → (a ≡ b → ⊥) → {i j : ℕ} → ◌≡◌ {A = Fault} (record { code = a; place = i }) (record { code = b; place = j }) → ⊥
other_fault a b apart e = apart (ap (λ (f : Fault). f.code) e)

-- a mismatch comes after the lines of the work, and where readings differ
no_mismatch_at_first : EndsAfter (Ok one_reading) [] (Some (fault_at refusal.Mismatch 0)) → ⊥
no_mismatch_at_first (inl (none, inl e)) = other_fault 24 10 (λ e. omega (arith, e)) e
no_mismatch_at_first (inl (none, inr e)) = other_fault 24 19 (λ e. omega (arith, e)) e
no_mismatch_at_first (inr (inl stopped)) =
    ⊎_elim (other_fault 24 10 (λ e. omega (arith, e))) (other_fault 24 27 (λ e. omega (arith, e))) (stopped-fault one_reading [] (fault_at refusal.Mismatch 0) stopped)
no_mismatch_at_first (inr (inr other)) = has_lines (sym other.0)

mismatch_differs : EndsAfter (Ok one_reading) (work_lines one_reading) (Some (fault_at refusal.Mismatch 0)) → Differs one_reading
mismatch_differs (inl broken) = absurd (has_lines broken.0)
mismatch_differs (inr (inl stopped)) = absurd (has_lines stopped.0)
mismatch_differs (inr (inr other)) = other.2

-- after the lines of the work no gate closes, and memory doesn't run out
nothing_behind : (f : Fault) → (f ≡ fault_at refusal.Mismatch 0 → ⊥) → EndsAfter (Ok one_reading) (work_lines one_reading) (Some f) → ⊥
nothing_behind f apart (inl broken) = has_lines broken.0
nothing_behind f apart (inr (inl stopped)) = has_lines stopped.0
nothing_behind f apart (inr (inr other)) = apart other.1

no_gate_behind : EndsAfter (Ok one_reading) (work_lines one_reading) (Some (fault_at refusal.GateClosed 0)) → ⊥
no_gate_behind = nothing_behind (fault_at refusal.GateClosed 0) (other_fault 27 24 (λ e. omega (arith, e)))

no_memory_behind : EndsAfter (Ok one_reading) (work_lines one_reading) (Some (fault_at refusal.OutOfMemory 0)) → ⊥
no_memory_behind = nothing_behind (fault_at refusal.OutOfMemory 0) (other_fault 10 24 (λ e. omega (arith, e)))

-- a run that ends well has all its lines
no_audit_line : EndsAfter (Ok one_reading) (work_lines one_reading) None → ⊥
no_audit_line h = let e = ap length h in omega (arith, e, length-append (work_lines one_reading) (audit_line ∷ []))

-- an input with a fault ends in that fault, before any line
no_other_fault : EndsAfter (Err (fault_at refusal.BadRecord 2)) [] (Some (fault_at refusal.BadHeader 1)) → ⊥
no_other_fault (inl input) = other_fault 21 17 (λ e. omega (arith, e)) input.1
no_other_fault (inr (none, inl e)) = other_fault 21 10 (λ e. omega (arith, e)) e
no_other_fault (inr (none, inr e)) = other_fault 21 19 (λ e. omega (arith, e)) e

no_lines_before : EndsAfter (Err (fault_at refusal.BadRecord 2)) (work_lines one_reading) (Some (fault_at refusal.BadRecord 2)) → ⊥
no_lines_before (inl input) = has_lines input.0
no_lines_before (inr broken) = has_lines broken.0

-- readings that differ do not pass as legal, nor legal ones as a mismatch
differing_not_passed : (old new : Option (List ℕ)) → WritesRun {A = Unit {0}} old new (Ok tt) (audited_run false) → ⊥
differing_not_passed old new h = cc h.0

legal_not_refused : (old new : Option (List ℕ)) → WritesRun {A = Unit {0}} old new (Err (stop.Fault (fault_at refusal.Mismatch 0))) (audited_run true) → ⊥
legal_not_refused old new h = cc h.0

-- memory may run out for a command that the register accepts, and not for one that it refuses or a publication; a gate may close at any
no_memory_to_open : StopsWithin register (order.Publish ∷ order.Submit (Open 1) ∷ []) stop.OutOfMemory
no_memory_to_open = (1, order.Submit (Open 1), refl, inl (refl, refl))

no_memory_for_a_refusal : StopsAt register (order.Submit (Close 1)) stop.OutOfMemory → ⊥
no_memory_for_a_refusal (inl lacks) = let e = lacks.1 in cc e
no_memory_for_a_refusal (inr closed) = cc closed

no_memory_to_publish : StopsAt register order.Publish stop.OutOfMemory → ⊥
no_memory_to_publish (inl lacks) = lacks.1
no_memory_to_publish (inr closed) = cc closed

closed_at_a_publication : StopsAt register order.Publish (stop.Fault (fault_at refusal.GateClosed 0))
closed_at_a_publication = inr refl

nothing_to_stop_at : (e : Stop) → StopsWithin register [] e → ⊥
nothing_to_stop_at e stops = none-some stops.1 stops.2

-- of a writer without memory and a reader at a closed gate the run ends in the want of memory, and in no closed gate
abbrev closed : Stop
closed = stop.Fault (fault_at refusal.GateClosed 0)

abbrev lack_and_gate : ThreadEnds
lack_and_gate = record { writer = Some stop.OutOfMemory; first = Some closed; second = None }

memory_first : returned_stop lack_and_gate ≡ Some stop.OutOfMemory
memory_first = refl

no_gate_without_memory : returned_stop lack_and_gate ≡ Some closed → ⊥
no_gate_without_memory e = cc e

-- so where a run ends in a closed gate, the writer had memory
closed_with_memory : (ends : ThreadEnds) → returned_stop ends ≡ Some closed → ends.writer ≡ Some stop.OutOfMemory → ⊥
closed_with_memory ends is lacks =
    let by : Some stop.OutOfMemory ≡ Some closed = ap (λ (w : Option Stop). option_or w (option_or ends.first ends.second)) (sym lacks) ∙ is in cc by

-- a gate that is closed to a reader ends the run where the writer did its work, and no reader lacks memory
closed_to_a_reader : EndsHeldUp one_reading [] (fault_at refusal.GateClosed 0)
closed_to_a_reader = (refl, (closed, inr (record { writer = None; first = Some closed; second = None }, record { writer = tt; first = refl; second = tt }, refl), refl))

no_memory_to_read : (ends : ThreadEnds) → ends.first ≡ Some stop.OutOfMemory → CanEnd register [] ends → ⊥
no_memory_to_read ends lacks can =
    let P : Option Stop → Type 0 = λ end. IfSome end IsClosed in
    let e : IsClosed stop.OutOfMemory = subst P lacks can.first in cc e

-- and without orders nothing stops the writer
no_order_to_stop_at : (ends : ThreadEnds) (e : Stop) → ends.writer ≡ Some e → CanEnd register [] ends → ⊥
no_order_to_stop_at ends e is can = nothing_to_stop_at e (subst (λ (end : Option Stop). IfSome end (StopsWithin register [])) is can.writer)

-- the cuts are the numbers that publications answered, also one that published nothing new
cuts_of_two : cuts_of (accepted 1 ∷ published 1 ∷ refused refusal.ChairOpen ∷ published 1 ∷ []) ≡ 1 ∷ 1 ∷ []
cuts_of_two = refl

-- a sheet of no command after a sheet of one command: the front decreases
falling : IsRising 0 ((replicate 33 0 ++ 1 ∷ []) ∷ (replicate 33 0 ++ 0 ∷ []) ∷ []) → ⊥
falling h = omega (arith, h.1.0)

-- of a sheet on which chair 1 has all 10 votes one coalition wins, and a reader without readings has no number
counted : omegas_by ((Half ∷ []) ∷ [] ∷ []) (((11 ∷ replicate 31 0 ++ 10 ∷ 2 ∷ []) ∷ []) ∷ [] ∷ []) ≡ (1 ∷ []) ∷ [] ∷ []
counted = refl

-- what an input with a bad record 2 may have written: a prefix of the output of a run that its fault, a failed read or
-- memory that ran out ends
abbrev bad : Fault
bad = fault_at refusal.BadRecord 2

abbrev seven : Option (List ℕ)
seven = Some (7 ∷ [])

abbrev code_in : Option Fault → ℕ
code_in None = 0
code_in (Some f) = f.code

-- the output of a run that ends at once begins with an f, and so does each prefix of it that isn't empty
no_seven : (f : Fault) → AppendsFront (Some []) seven (output (stopped_run f)) → ⊥
no_seven f w =
    let first : 102 ≡ 7 = ap (λ (bytes : List ℕ). get_or bytes 0 0) (w.1.1 ∙ ap (λ (front : List ℕ). front ++ w.1.0) (sym w.2)) in
    omega (arith, first)

-- the fault of an input comes before any line, and isn't a failed write
no_line : (f : Fault) (lines : List LineBytes) → EndsAfter (Err bad) lines (Some f) → lines ≡ []
no_line f lines (inl input) = input.0
no_line f lines (inr broken) = broken.0

no_write : (f : Fault) → f.code ≡ 20 → (lines : List LineBytes) → EndsAfter (Err bad) lines (Some f) → ⊥
no_write f twenty lines (inl (none, is)) = let other : f.code ≡ 17 = ap (λ (g : Fault). g.code) is in omega (arith, twenty, other)
no_write f twenty lines (inr (none, inl is)) = let other : f.code ≡ 10 = ap (λ (g : Fault). g.code) is in omega (arith, twenty, other)
no_write f twenty lines (inr (none, inr is)) = let other : f.code ≡ 19 = ap (λ (g : Fault). g.code) is in omega (arith, twenty, other)

no_other_byte : WritesServeOutput (Unit {0}) (Some []) seven (Err (fault_at refusal.WriteFault 0)) (Err bad) → ⊥
no_other_byte h = by_end h.0.lines h.0.end h.1 h.2
  where
    by_end : (lines : List LineBytes) (end : Option Fault) → EndsAfter (Err bad) lines end
        → ((end ≡ Some (fault_at refusal.WriteFault 0)) × Appends (Some []) seven (output (record { lines = lines; end = end })))
        ⊎ ((fault_at refusal.WriteFault 0 ≡ fault_at refusal.WriteFault 0) × Unit {0} × AppendsFront (Some []) seven (output (record { lines = lines; end = end }))) → ⊥
    by_end lines None e t = e
    by_end lines (Some f) e (inl t) =
        let twenty : f.code ≡ 20 = ap code_in t.0 in
        no_write f twenty lines e
    by_end lines (Some f) e (inr t) =
        let P : List LineBytes → Type 0 = λ ls. AppendsFront (Some []) seven (output (record { lines = ls; end = Some f })) in
        no_seven f (subst P (no_line f lines e) t.2)

-- nor does the run that ends in the fault leave another byte
no_other_line : WritesServeOutput (Unit {0}) (Some []) seven (Err bad) (Err bad) → ⊥
no_other_line h = by_end h.0.lines h.0.end h.1 h.2
  where
    by_end : (lines : List LineBytes) (end : Option Fault) → EndsAfter (Err bad) lines end
        → ((end ≡ Some bad) × Appends (Some []) seven (output (record { lines = lines; end = end })))
        ⊎ ((bad ≡ fault_at refusal.WriteFault 0) × Unit {0} × AppendsFront (Some []) seven (output (record { lines = lines; end = end }))) → ⊥
    by_end lines None e t = e
    by_end lines (Some f) e (inl t) =
        let P : List LineBytes → Type 0 = λ ls. Appends (Some []) seven (output (record { lines = ls; end = Some f })) in
        let is : 7 ∷ [] ≡ output (stopped_run f) = subst P (no_line f lines e) t.1 in
        let first : 7 ≡ 102 = ap (λ (bytes : List ℕ). get_or bytes 0 0) is in
        omega (arith, first)
    by_end lines (Some f) e (inr t) = other_fault 17 20 (λ e. omega (arith, e)) t.0

-- nor is there a WriteFault where no write failed
no_failure : (old new : Option (List ℕ)) → WritesServeOutput ⊥ old new (Err (fault_at refusal.WriteFault 0)) (Err bad) → ⊥
no_failure old new h = by_end h.0.lines h.0.end h.1 h.2
  where
    by_end : (lines : List LineBytes) (end : Option Fault) → EndsAfter (Err bad) lines end
        → ((end ≡ Some (fault_at refusal.WriteFault 0)) × Appends old new (output (record { lines = lines; end = end })))
        ⊎ ((fault_at refusal.WriteFault 0 ≡ fault_at refusal.WriteFault 0) × ⊥ × AppendsFront old new (output (record { lines = lines; end = end }))) → ⊥
    by_end lines None e t = e
    by_end lines (Some f) e (inl t) =
        let twenty : f.code ≡ 20 = ap code_in t.0 in
        no_write f twenty lines e
    by_end lines (Some f) e (inr t) = t.1

-- a run that serves to its end writes its lines
no_silence : (s : Served) → WritesAllOfServe (Some []) (Some []) s (Ok one_reading) → ⊥
no_silence s h =
    let same : one_reading ≡ h.0 = cc h.1 in
    let is : [] ≡ text_of (work_lines one_reading ++ audit_line ∷ []) = h.4 ∙ ap (λ (p : Planned). text_of (work_lines p ++ audit_line ∷ [])) (sym same) in
    let first : 0 ≡ 114 = ap (λ (bytes : List ℕ). get_or bytes 0 0) is in
    omega (arith, first)

-- what is served of this plan: no command and no cut, one reading of the first reader, of a legal list, and its omega
module _ (s : Served) (h : IsServed one_reading s) where
  no_command : s.journal.items ≡ []
  no_command = h.journal

  no_cut : s.cuts.items ≡ []
  no_cut = h.cuts

  legal_commands : IsLegal one_reading.start.ledger.opening s.journal.items
  legal_commands = h.legal_journal

  one_sheet : map length (sheets_of s) ≡ 1 ∷ 0 ∷ []
  one_sheet = h.counts

  legal_sheets : All (λ sheets. All (IsLegalSheet one_reading.start.ledger.opening) sheets) (sheets_of s)
  legal_sheets = h.legal

  omega_of_sheet : (words : List ℕ) → sheets_of s ≡ (words ∷ []) ∷ [] ∷ [] → winning_of s ≡ omegas_by ((Half ∷ []) ∷ [] ∷ []) ((words ∷ []) ∷ [] ∷ [])
  omega_of_sheet words is = h.winning ∙ ap (omegas_by ((Half ∷ []) ∷ [] ∷ [])) is

  no_falling_fronts : sheets_of s ≡ ((replicate 33 0 ++ 1 ∷ []) ∷ (replicate 33 0 ++ 0 ∷ []) ∷ []) ∷ [] ∷ [] → ⊥
  no_falling_fronts is =
      let P : List (List (List ℕ)) → Type 0 = λ sheets. All (IsRising 0) sheets in
      let found : All (IsRising 0) (((replicate 33 0 ++ 1 ∷ []) ∷ (replicate 33 0 ++ 0 ∷ []) ∷ []) ∷ [] ∷ []) = subst P is h.rising in
      falling (recursion_from_All (IsRising 0) (((replicate 33 0 ++ 1 ∷ []) ∷ (replicate 33 0 ++ 0 ∷ []) ∷ []) ∷ [] ∷ []) found).0

-- an outcome of a plan without commands has no answer
no_answer : (answers : List Answer) (s : Served) → IsOutcome one_reading answers s → map answered answers ≡ []
no_answer answers s h = h.replies

outcome_served : (answers : List Answer) (s : Served) → IsOutcome one_reading answers s → map length (sheets_of s) ≡ 1 ∷ 0 ∷ []
outcome_served answers s h = h.served.counts
