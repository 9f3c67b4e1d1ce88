-- Records and lines of the three chairs' input, computed; and what definitions of writing take and refuse.
use Rattle.std.proofs.Common.{◌≡◌, ◌+◌, ℕ, inl, inr, false, true, [], ◌∷◌, Some, None, Result, Ok, Err, refl, ap, arith}
use Rattle.std.specs.Prelude.{codes}
use Rattle.std.specs.Fmt.{digits}
use Rattle.council_core.specs.declared.commands.Command.TheVariants.{Open, Move}
use Rattle.council_core.specs.Rolls.{Opening}
use Rattle.council_core.specs.declared.refusals.Refusal.TheVariants.{BadHeader, BadLimit, BadRecord, ChairOpen, OutOfMemory, ReadFault, TooLong, WriteFault}
use Rattle.recording_io.specs.Tapes.{Calls, CallsWithin, WriterRecord}
use Rattle.board_text.specs.Streams.{WriteFailed, IsOfDevice, IsReadFault, RunsWithin, WritesWithin, most_reads, most_reads_by}
use Rattle.board_text.specs.declared.stops.Stop.{Stop}
use Rattle.board_text.specs.Output.{StopsReading, IsBadLimit, IsBroken, IsMemoryOrWrite, WritesRun, Starts}
use Rattle.board_text.specs.Text.{fault_at, printed_run, stopped_run}
use Rattle.board_text.specs.declared.bounds.Limits.{Limits}
use Rattle.board_text.specs.declared.faults.Fault.{Fault}
use Rattle.council_core.specs.declared.limits.TheConstants.{CHAIRS}
use Rattle.board_text.specs.declared.input.TheConstants.{INTERRUPTIONS, READS}
use Rattle.board_text.specs.declared.bounds.TheConstants.{READERS}
use Rattle.board_text.specs.declared.stops.Stop.TheVariants as stop
use Rattle.board_text.specs.Requests.{member_of, request_of, submission}
use Rattle.board_text.specs.Lines.{accepted_line, refused_line, published_line, chair_line}
use Rattle.board_text.specs.OutputStates.{CallsAtMost, IsSameOutput, HasFailed, IsWrittenBy, EachWriteAccepts, OutputState}

pub member : member_of (codes "BBB" ∷ codes "49" ∷ []) ≡ Some (66 ∷ 66 ∷ 66 ∷ [], 49)
member = refl

pub opens : request_of (codes "open" ∷ codes "2" ∷ []) ≡ Some (submission (Open 2))
opens = refl

pub moves : request_of (codes "move" ∷ codes "AAA" ∷ codes "1" ∷ []) ≡ Some (submission (Move (65 ∷ 65 ∷ 65 ∷ []) (Some 1)))
moves = refl

pub no_request : request_of (codes "open" ∷ codes "33" ∷ []) ≡ None
no_request = refl

pub accepted : accepted_line 6 ≡ codes "accepted,6"
unfolding digits
accepted = refl

pub refused : refused_line ChairOpen ≡ codes "refused,1,ChairOpen"
unfolding digits
refused = refl

pub published : published_line 6 ≡ codes "published,6"
unfolding digits
published = refl

-- chair 2 of 49 votes, whose power is that of chair 3
pub second_chair : chair_line record {
  chair = 2;
  weight = 49;
  swings = 1;
  banzhaf = record { num = 1; den = 4 };
  share = Some (record { num = 1; den = 5 });
  prevent = Some (record { num = 1; den = 3 });
  initiate = record { num = 1; den = 5 };
} ≡ codes "chair,2,49,1,1/4,1/5,1/3,1/5"
unfolding digits
second_chair = refl

-- a writer after this many writes, some of them empty and some interrupted
abbrev writer : ℕ → ℕ → ℕ → WriterRecord
writer made empty interrupted = record { writer = 0; at_start = None; contents = None; bytes = []; calls = record { made = made; empty = empty; interrupted = interrupted } }

-- an output after `retried` retried interruptions and `made` writes, `none` of which accepted no byte
abbrev output_after : ℕ → ℕ → ℕ → OutputState
output_after retried made none = record { writer = 0; start = writer 0 0 0; now = writer made none 0; contents = None; retried = retried; failed = false }

goes_on : IsSameOutput (output_after 1 2 1) (output_after 2 5 2)
goes_on = (refl, refl, omega arith)

-- an interruption is not forgotten, and the writer stays
forgotten_interruption : IsSameOutput (output_after 1 1 1) (output_after 0 1 1) → ⊥
forgotten_interruption h = absurd (omega (arith, h.2))

another_writer : IsSameOutput (output_after 1 1 1) (record (output_after 1 1 1) { writer = 7 }) → ⊥
another_writer h = let e = h.0 in cc e

another_start : IsSameOutput (output_after 1 1 1) (record (output_after 1 1 1) { start = record (writer 0 0 0) { writer = 1 } }) → ⊥
another_start h = let e = ap (λ (w : WriterRecord). w.writer) h.1 in cc e

-- of two bytes, two writes and an interruption that was retried
asks_thrice : CallsAtMost (output_after 0 0 0) (output_after 1 3 1) 2
asks_thrice = omega arith

asks_too_often : CallsAtMost (output_after 0 0 0) (output_after 0 3 1) 2 → ⊥
asks_too_often h = absurd (omega (arith, h))

-- one write of both bytes, and another of none
one_write : EachWriteAccepts {A = Unit {0}} {E = Unit {0}} (output_after 0 0 0) (output_after 0 1 0) (Ok tt)
one_write = omega arith

write_in_vain : EachWriteAccepts {A = Unit {0}} {E = Unit {0}} (output_after 0 0 0) (output_after 0 2 1) (Ok tt) → ⊥
write_in_vain h = absurd (omega (arith, h))

uncounted_retry : EachWriteAccepts {A = Unit {0}} {E = Unit {0}} (output_after 0 0 0) (output_after 1 1 0) (Ok tt) → ⊥
uncounted_retry h = absurd (omega (arith, h))

failed_write : EachWriteAccepts {A = Unit {0}} {E = Unit {0}} (output_after 0 0 0) (output_after 0 1 1) (Err tt)
failed_write = omega arith

-- an error without a failure: no write, one that took a byte, or an interruption that was retried
error_without_a_write : EachWriteAccepts {A = Unit {0}} {E = Unit {0}} (output_after 0 0 0) (output_after 0 0 0) (Err tt) → ⊥
error_without_a_write h = absurd (omega (arith, h))

no_failure : HasFailed (output_after 0 0 0) (output_after 0 1 0) → ⊥
no_failure h = absurd (omega (arith, h))

retried_and_no_failure : HasFailed (output_after 0 0 0) (output_after 1 1 1) → ⊥
retried_and_no_failure h = absurd (omega (arith, h))

written_twice_and_failed : EachWriteAccepts {A = Unit {0}} {E = Unit {0}} (output_after 0 0 0) (output_after 0 2 2) (Err tt) → ⊥
written_twice_and_failed h = absurd (omega (arith, h))

-- after a write that failed there is no other
abbrev failed_output : ℕ → OutputState
failed_output made = record (output_after 0 made 1) { failed = true }

nothing_behind_a_failure : EachWriteAccepts {A = Unit {0}} {E = Unit {0}} (failed_output 1) (failed_output 1) (Err tt)
nothing_behind_a_failure = refl

written_behind_a_failure : EachWriteAccepts {A = Unit {0}} {E = Unit {0}} (failed_output 1) (failed_output 2) (Err tt) → ⊥
written_behind_a_failure h = let e = ap (λ (s : OutputState). s.now.calls.made) h in cc e

-- WriteFault comes after a failure alone
not_without_failure : IsMemoryOrWrite (output_after 0 1 0) stop.WriteFault → ⊥
not_without_failure (inl e) = cc e
not_without_failure (inr (is, failed)) = let e = failed in cc e

-- two bytes of a writer and three writes of them, one interrupted and retried; and a fourth that failed
abbrev two_written : ℕ → ℕ → ℕ → WriterRecord
two_written made empty interrupted = record (writer made empty interrupted) { bytes = 7 ∷ 8 ∷ [] }

three_writes : IsWrittenBy (writer 0 0 0) (two_written 3 0 1) 1 false
three_writes = record { same = (refl, refl); grown = omega arith; calls = record { made = omega arith; empty = omega arith; interrupted = omega arith }; empty_grown = omega arith; retries = omega arith; failure = λ e. cc e }

fourth_write : IsWrittenBy (writer 0 0 0) (two_written 4 0 1) 1 false → ⊥
fourth_write h = absurd (omega (arith, h.calls.made))

failed_fourth_write : IsWrittenBy (writer 0 0 0) (two_written 4 1 1) 1 true
failed_fourth_write = record { same = (refl, refl); grown = omega arith; calls = record { made = omega arith; empty = omega arith; interrupted = omega arith }; empty_grown = omega arith; retries = omega arith; failure = λ e. inl (omega arith) }

unseen_failure : IsWrittenBy (writer 0 0 0) (two_written 3 1 0) 0 false → ⊥
unseen_failure h = absurd (omega (arith, h.calls.empty))

uncounted_interruption : IsWrittenBy (writer 0 0 0) (two_written 3 0 1) 0 false → ⊥
uncounted_interruption h = absurd (omega (arith, h.calls.interrupted))

forgotten_call : IsWrittenBy (writer 0 4 0) (two_written 4 3 0) 0 false → ⊥
forgotten_call h = absurd (omega (arith, h.empty_grown))

unmade_retry : IsWrittenBy (writer 0 0 0) (two_written 3 0 1) 2 false → ⊥
unmade_retry h = absurd (omega (arith, h.retries))

failure_without_a_call : IsWrittenBy (writer 0 0 0) (two_written 3 0 1) 1 true → ⊥
failure_without_a_call h = no_call_failed (h.failure refl)
  where
    no_call_failed : WriteFailed (writer 0 0 0).calls (two_written 3 0 1).calls → ⊥
    no_call_failed (inl e) = absurd (omega (arith, e))
    no_call_failed (inr e) = absurd (omega (arith, e))

-- a call fails that moves no byte, or that is interrupted once more than is retried
abbrev calls_of : ℕ → ℕ → Calls
calls_of empty interrupted = record { made = 2000; empty = empty; interrupted = interrupted }

moved_no_byte : WriteFailed (calls_of 3 4) (calls_of 4 4)
moved_no_byte = inl (omega arith)

interrupted_once_more : WriteFailed (calls_of 3 4) (calls_of 3 1005)
interrupted_once_more = inr (omega arith)

interrupted_as_often : WriteFailed (calls_of 3 4) (calls_of 3 1004) → ⊥
interrupted_as_often (inl e) = absurd (omega (arith, e))
interrupted_as_often (inr e) = absurd (omega (arith, e))

bytes_lost : IsWrittenBy (two_written 0 0 0) (writer 0 0 0) 0 false → ⊥
bytes_lost h = absurd (omega (arith, h.grown))

-- of two bytes, as many writes as there are bytes and retries, and one more that fails, and no write after it
all_retried : WritesWithin (writer 0 0 0) (two_written (INTERRUPTIONS + 3) 1 INTERRUPTIONS)
all_retried = record { made = omega arith; empty = omega arith; interrupted = omega arith }

a_write_more : WritesWithin (writer 0 0 0) (two_written (INTERRUPTIONS + 4) 1 INTERRUPTIONS) → ⊥
a_write_more h = absurd (omega (arith, h.made))

a_write_behind_a_failure : WritesWithin (writer 0 0 0) (two_written 4 2 0) → ⊥
a_write_behind_a_failure h = absurd (omega (arith, h.empty))

a_retry_too_many : WritesWithin (writer 0 0 0) (two_written (INTERRUPTIONS + 2) 0 (INTERRUPTIONS + 2)) → ⊥
a_retry_too_many h = absurd (omega (arith, h.interrupted))

a_write_of_nothing : WritesWithin (writer 5 0 0) (writer (INTERRUPTIONS + 7) 0 0) → ⊥
a_write_of_nothing h = absurd (omega (arith, h.made))

-- the reads of an input so far: this many, this many of them empty, and this many interrupted
abbrev reads_made : ℕ → ℕ → ℕ → Calls
reads_made made empty interrupted = record { made = made; empty = empty; interrupted = interrupted }

abbrev ReadsTo : Result (Unit {0}) Stop → Calls → Type 0
ReadsTo r to = CallsWithin (most_reads_by r) (reads_made 0 0 0) to

-- one read found the end, or failed, after an interruption
end_found : ReadsTo (Ok tt) (reads_made 3 1 1)
end_found = record { made = omega arith; empty = omega arith; interrupted = omega arith }

read_behind_the_end : ReadsTo (Ok tt) (reads_made 3 2 0) → ⊥
read_behind_the_end h = absurd (omega (arith, h.empty))

one_failed_read : ReadsTo (Err stop.ReadFault) (reads_made 2 1 0)
one_failed_read = record { made = omega arith; empty = omega arith; interrupted = omega arith }

read_after_a_failure : ReadsTo (Err stop.ReadFault) (reads_made 3 2 0) → ⊥
read_after_a_failure h = absurd (omega (arith, h.empty))

-- where memory was refused, or the input is too long, each read gave a byte or was interrupted
read_without_memory : ReadsTo (Err stop.OutOfMemory) (reads_made 1 1 0) → ⊥
read_without_memory h = absurd (omega (arith, h.empty))

read_for_a_failed_write : ReadsTo (Err stop.WriteFault) (reads_made 1 1 0) → ⊥
read_for_a_failed_write h = absurd (omega (arith, h.empty))

read_behind_too_long : ReadsTo (Err (stop.Fault (fault_at TooLong 0))) (reads_made 1 1 0) → ⊥
read_behind_too_long h = absurd (omega (arith, h.empty))

-- after all retries the next interruption is a failed read, and there is no other
too_many_interruptions : ReadsTo (Err stop.ReadFault) (reads_made 1001 0 (INTERRUPTIONS + 1))
too_many_interruptions = record { made = omega arith; empty = omega arith; interrupted = omega arith }

retried_once_more : ReadsTo (Err stop.ReadFault) (reads_made 1002 0 (INTERRUPTIONS + 2)) → ⊥
retried_once_more h = absurd (omega (arith, h.interrupted))

read_after_all_retries : ReadsTo (Ok tt) (reads_made 1001 0 (INTERRUPTIONS + 1)) → ⊥
read_after_all_retries h = absurd (omega (arith, h.interrupted))

-- of at most two retries the third interruption is a failed read, and there is no fourth
abbrev five_reads : Calls
five_reads = reads_made 5 1 2

retried_twice : RunsWithin {A = Unit {0}} IsReadFault five_reads (reads_made 0 0 0) (reads_made 5 1 2) (Ok tt)
retried_twice = record { made = omega arith; empty = omega arith; interrupted = omega arith }

retried_thrice : RunsWithin {A = Unit {0}} IsReadFault five_reads (reads_made 0 0 0) (reads_made 4 1 3) (Ok tt) → ⊥
retried_thrice h = absurd (omega (arith, h.interrupted))

third_interruption : RunsWithin {A = Unit {0}} IsReadFault five_reads (reads_made 0 0 0) (reads_made 3 0 3) (Err stop.ReadFault)
third_interruption = inr (refl, record { made = omega arith; empty = omega arith; interrupted = omega arith })

fourth_interruption : RunsWithin {A = Unit {0}} IsReadFault five_reads (reads_made 0 0 0) (reads_made 4 0 4) (Err stop.ReadFault) → ⊥
fourth_interruption (inl bound) = absurd (omega (arith, bound.interrupted))
fourth_interruption (inr more) = absurd (omega (arith, more.1.interrupted))

retried_thrice_without_memory : RunsWithin {A = Unit {0}} IsReadFault five_reads (reads_made 0 0 0) (reads_made 3 0 3) (Err stop.OutOfMemory) → ⊥
retried_thrice_without_memory (inl bound) = absurd (omega (arith, bound.interrupted))
retried_thrice_without_memory (inr more) = let e = more.0 in cc e

retried_thrice_for_a_failed_write : RunsWithin {A = Unit {0}} IsReadFault five_reads (reads_made 0 0 0) (reads_made 3 0 3) (Err stop.WriteFault) → ⊥
retried_thrice_for_a_failed_write (inl bound) = absurd (omega (arith, bound.interrupted))
retried_thrice_for_a_failed_write (inr more) = let e = more.0 in cc e

retried_thrice_and_too_long : RunsWithin {A = Unit {0}} IsReadFault five_reads (reads_made 0 0 0) (reads_made 3 0 3) (Err (stop.Fault (fault_at TooLong 0))) → ⊥
retried_thrice_and_too_long (inl bound) = absurd (omega (arith, bound.interrupted))
retried_thrice_and_too_long (inr more) = let e = more.0 in cc e

-- a run that reads once too often, once more behind the end, or again after one interruption too many
run_reads_too_often : RunsWithin {A = Unit {0}} IsReadFault most_reads (reads_made 0 0 0) (reads_made (READS + 1) 0 0) (Ok tt) → ⊥
run_reads_too_often h = absurd (omega (arith, h.made))

run_reads_behind_the_end : RunsWithin {A = Unit {0}} IsReadFault most_reads (reads_made 0 0 0) (reads_made 2 2 0) (Ok tt) → ⊥
run_reads_behind_the_end h = absurd (omega (arith, h.empty))

run_retries_too_often : RunsWithin {A = Unit {0}} IsReadFault most_reads (reads_made 0 0 0) (reads_made 1001 0 (INTERRUPTIONS + 1)) (Ok tt) → ⊥
run_retries_too_often h = absurd (omega (arith, h.interrupted))

-- the number of a fault's refusal, and of its record
code : {f g : Fault} → f ≡ g → f.code ≡ g.code
code e = ap (λ (f : Fault). f.code) e

place : {f g : Fault} → f ≡ g → f.place ≡ g.place
place e = ap (λ (f : Fault). f.place) e

abbrev fails : Fault → Result (Unit {0}) Fault
fails f = Err f

reported : {f g : Fault} → fails f ≡ fails g → f ≡ g
reported e = cc e

-- the same of whole runs
run_retried_thrice : RunsWithin {A = Unit {0}} IsOfDevice five_reads (reads_made 0 0 0) (reads_made 4 1 3) (Ok tt) → ⊥
run_retried_thrice h = absurd (omega (arith, h.interrupted))

bad_record_behind_three : RunsWithin {A = Unit {0}} IsOfDevice five_reads (reads_made 0 0 0) (reads_made 4 1 3) (Err (fault_at BadRecord 5)) → ⊥
bad_record_behind_three (inl bound) = absurd (omega (arith, bound.interrupted))
bad_record_behind_three (inr (inl e, more)) = absurd (omega (arith, code e))
bad_record_behind_three (inr (inr e, more)) = absurd (omega (arith, code e))

failed_run_behind_four : RunsWithin {A = Unit {0}} IsOfDevice five_reads (reads_made 0 0 0) (reads_made 4 0 4) (Err (fault_at ReadFault 0)) → ⊥
failed_run_behind_four (inl bound) = absurd (omega (arith, bound.interrupted))
failed_run_behind_four (inr more) = absurd (omega (arith, more.1.interrupted))

-- a fault of a record is no device's, and a device's has no record
record_of_a_device : IsOfDevice (fault_at ReadFault 5) → ⊥
record_of_a_device (inl e) = absurd (omega (arith, place e))
record_of_a_device (inr e) = absurd (omega (arith, place e))

-- limits out of range are answered as BadLimit
another_limit : IsBadLimit {A = Unit {0}} (Err (fault_at BadHeader 0)) → ⊥
another_limit (inl e) = absurd (omega (arith, code (reported e)))
another_limit (inr e) = absurd (omega (arith, code (reported e)))

limit_of_a_record : IsBadLimit {A = Unit {0}} (Err (fault_at BadLimit 1)) → ⊥
limit_of_a_record (inl e) = absurd (omega (arith, place (reported e)))
limit_of_a_record (inr e) = absurd (omega (arith, place (reported e)))

limit_taken : IsBadLimit {A = Unit {0}} (Ok tt) → ⊥
limit_taken (inl e) = cc e
limit_taken (inr e) = cc e

-- a run breaks off without memory or at a failed read, at no record
broken_by_a_record : IsBroken (fault_at BadRecord 0) → ⊥
broken_by_a_record (inl e) = absurd (omega (arith, code e))
broken_by_a_record (inr e) = absurd (omega (arith, code e))

broken_by_a_write : IsBroken (fault_at WriteFault 0) → ⊥
broken_by_a_write (inl e) = absurd (omega (arith, code e))
broken_by_a_write (inr e) = absurd (omega (arith, code e))

broken_at_a_record : IsBroken (fault_at OutOfMemory 5) → ⊥
broken_at_a_record (inl e) = absurd (omega (arith, place e))
broken_at_a_record (inr e) = absurd (omega (arith, place e))

-- reading an input writes nothing, and starting a register reads nothing
input_not_written : StopsReading {A = Unit {0}} stop.WriteFault (Ok tt) → ⊥
input_not_written h = h

another_fault_reported : StopsReading {A = Unit {0}} (stop.Fault (fault_at BadRecord 2)) (Err (fault_at BadRecord 3)) → ⊥
another_fault_reported e = absurd (omega (arith, place (reported e)))

start_reads_nothing : (lim : Limits) (members : Opening) → Starts lim members (Err stop.ReadFault) → ⊥
start_reads_nothing lim members h = h

start_writes_nothing : (lim : Limits) (members : Opening) → Starts lim members (Err stop.WriteFault) → ⊥
start_writes_nothing lim members h = h

-- a run that stops is not played to its end, nor does another fault stop it
stopped_run_played : WritesRun {A = Unit {0}} (Some []) (Some []) (Ok tt) (stopped_run (fault_at BadRecord 5)) → ⊥
stopped_run_played h = let e = h.0 in cc e

stopped_by_another : WritesRun {A = Unit {0}} (Some []) (Some []) (Err (stop.Fault (fault_at BadRecord 6))) (stopped_run (fault_at BadRecord 5)) → ⊥
stopped_by_another h = let e : fault_at BadRecord 5 ≡ fault_at BadRecord 6 = let d = h.0 in cc d in absurd (omega (arith, place e))

line_left_out : WritesRun {A = Unit {0}} (Some []) (Some []) (Ok tt) (printed_run (codes "began" ∷ [])) → ⊥
line_left_out h = let e = h.1 in cc e

-- the limits of chairs, reads, retries and readers by number, so that a changed constant is rejected
chairs : CHAIRS ≡ 32
chairs = refl

retries : INTERRUPTIONS ≡ 1000
retries = refl

most_readers : READERS ≡ 4
most_readers = refl

reads : READS ≡ 4195305
reads = refl
