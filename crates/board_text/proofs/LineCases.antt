-- The lines of worked examples, computed; and what the definitions of reading, starting and writing exclude.
use Rattle.std.proofs.Common.{◌≡◌, ◌++◌, ◌∷◌, inl, inr, ℕ, Bool, true, false, List, [], replicate, Some, None, Ok, Err, refl, ap, arith}
use Rattle.std.specs.Prelude.{codes}
use Rattle.std.specs.Fmt.{digits}
use Rattle.council_core.specs.Ledgers.{Ledger}
use Rattle.council_core.specs.Sequential.{answered, reading}
use Rattle.council_core.specs.declared.calls.Answer.TheVariants as answer
use Rattle.council_core.specs.declared.calls.Order.TheVariants as order
use Rattle.council_core.specs.declared.refusals.Refusal.TheVariants.{BadHeader, BadIndex, BadLimit, BadRecord, ChairOpen, OutOfMemory, ReadFault, WriteFault}
use Rattle.majority_rule.specs.declared.majorities.Majority.TheVariants.{Half, Seventy, EightyFive, Quorum}
use Rattle.power_index.specs.Indices.{fraction}
use Rattle.recording_io.specs.Tapes.{Calls, ReaderRecord, WriterRecord, no_calls}
use Rattle.board_text.specs.Inputs.{Reads}
use Rattle.board_text.specs.Lines.{audit_line, fault_line, fault_name, fraction_if_any, reader_line, reading_lines, reply_line, reply_lines}
use Rattle.board_text.specs.Output.{Ends, EndsRun, WritesRun, ReadTo, Starts, Writes, WritesSome, fault_of, stop_of}
use Rattle.board_text.specs.OutputStates.{OutputState}
use Rattle.board_text.specs.Text.{fault_at, ledger_at_start, output, printed_run, run_limits, stopped_run, text_of, with_lines}
use Rattle.majority_rule.specs.Majorities.{word_of_majority}
use Rattle.board_text.specs.declared.faults.Fault.{Fault}
use Rattle.board_text.specs.declared.requests.Request.TheVariants as ask
use Rattle.board_text.specs.declared.stops.Stop.TheVariants as stop

-- chairs 2, 4, 6 and 9 with 40, 30, 15 and 5 of 100 votes, after 11 commands: all numbers of a line are different
abbrev four_chairs : List ℕ
four_chairs = 0 ∷ 41 ∷ 0 ∷ 31 ∷ 0 ∷ 16 ∷ 0 ∷ 0 ∷ 6 ∷ replicate 23 0 ++ 100 ∷ 11 ∷ []

read_by_half : reading_lines 3 Half four_chairs ≡ codes "reading,3,11,half,4,46,90,100,7,16" ∷ codes "chair,2,40,5,5/8,5/12,5/7,5/9"
    ∷ codes "chair,4,30,3,3/8,3/12,3/7,3/9" ∷ codes "chair,6,15,3,3/8,3/12,3/7,3/9" ∷ codes "chair,9,5,1,1/8,1/12,1/7,1/9" ∷ []
unfolding digits
read_by_half = refl

-- chair 1 with 60 of 100 votes, after five commands
abbrev one_chair : List ℕ
one_chair = 61 ∷ replicate 31 0 ++ 100 ∷ 5 ∷ []

-- nothing wins, so that two of the fractions are absent
read_by_seventy : reading_lines 3 Seventy one_chair ≡ codes "reading,3,5,70,1,70,60,100,0,2" ∷ codes "chair,1,60,0,0/1,-,-,0/2" ∷ []
unfolding digits
read_by_seventy = refl

words_of_majorities : (word_of_majority Half ≡ codes "half") × (word_of_majority Seventy ≡ codes "70") × (word_of_majority EightyFive ≡ codes "85") × (word_of_majority Quorum ≡ codes "quorum")
words_of_majorities = (refl, refl, refl, refl)

fractions : (fraction (record { num = 3; den = 40 }) ≡ codes "3/40") × (fraction_if_any None ≡ codes "-")
unfolding digits
fractions = (refl, refl)

-- the line of each reply of the register
printed_replies : (reply_line (answered (answer.Accepted 6)) ≡ codes "accepted,6") × (reply_line (answered (answer.Refused ChairOpen)) ≡ codes "refused,1,ChairOpen") × (reply_line (answered (answer.Published 6)) ≡ codes "published,6")
unfolding digits
printed_replies = (refl, refl, refl)

replies_to_requests : (reply_lines (ask.Order order.Publish) (answered (answer.Published 6)) ≡ codes "published,6" ∷ []) × (reply_lines (ask.Read 3 Half) (reading one_chair) ≡ reading_lines 3 Half one_chair)
unfolding digits
replies_to_requests = (refl, refl)

-- the line of a fault has its place and its name
faults_of_no_record : (fault_line (fault_at BadHeader 0) ≡ codes "fault,0,BadHeader") × (fault_line (fault_at BadRecord 17) ≡ codes "fault,17,BadRecord") × (fault_name 35 ≡ codes "BadIndex") × (fault_name 36 ≡ [])
unfolding digits
faults_of_no_record = (refl, refl, refl, refl)

numbers_of_faults : ((fault_at BadIndex 3).code ≡ 35) × ((fault_at BadIndex 3).place ≡ 3)
numbers_of_faults = (refl, refl)

served_lines : (reader_line 2 15 ≡ codes "reader,2,15") × (audit_line ≡ codes "audit,ok")
unfolding digits
served_lines = (refl, refl)

-- each line ends in a line feed, and a fault's line is the last
text_of_two : text_of (codes "began" ∷ codes "skipped" ∷ []) ≡ codes "began\nskipped\n"
text_of_two = refl

outputs : (output (printed_run (codes "began" ∷ [])) ≡ codes "began\n") × (output (with_lines (codes "began" ∷ []) (stopped_run (fault_at BadRecord 5))) ≡ codes "began\nfault,5,BadRecord\n")
unfolding digits
outputs = (refl, refl)

-- what becomes of each stop
faults_of_stops : (fault_of stop.OutOfMemory ≡ Some (fault_at OutOfMemory 0)) × (fault_of stop.ReadFault ≡ Some (fault_at ReadFault 0)) × (fault_of stop.WriteFault ≡ None) × (fault_of (stop.Fault (fault_at BadRecord 5)) ≡ Some (fault_at BadRecord 5))
faults_of_stops = (refl, refl, refl, refl)

stops_of_refusals : (stop_of OutOfMemory ≡ stop.OutOfMemory) × (stop_of BadLimit ≡ stop.Fault (fault_at BadLimit 0))
stops_of_refusals = (refl, refl)

-- a write of a text appends all of it, or fails and appends a prefix
abbrev seven : List ℕ
seven = 7 ∷ []

-- the first byte of a text, or 0
abbrev first_of : List ℕ → ℕ
first_of [] = 0
first_of (byte ∷ bytes) = byte

text_left_out : Writes (Some []) (Some []) (Ok tt) seven → ⊥
text_left_out h = cc h

failed_otherwise : Writes (Some []) (Some []) (Err stop.ReadFault) seven → ⊥
failed_otherwise h = let e = h.0 in cc e

another_byte_written : Writes (Some []) (Some (8 ∷ [])) (Err stop.WriteFault) seven → ⊥
another_byte_written (failed, ([], whole, new)) = let e = new in cc e
another_byte_written (failed, (byte ∷ front, whole, new)) = omega (arith, ap first_of whole.1, ap first_of new)

more_than_the_text : WritesSome (Some []) (Some seven) (Ok 2) seven → ⊥
more_than_the_text h = omega (arith, h.0)

one_byte_left_out : WritesSome (Some []) (Some []) (Ok 1) seven → ⊥
one_byte_left_out h = let e = h.1 in cc e

some_failed_otherwise : WritesSome (Some []) (Some []) (Err stop.ReadFault) seven → ⊥
some_failed_otherwise h = let e = h.0 in cc e

some_of_another : WritesSome (Some []) (Some (8 ∷ [])) (Err stop.WriteFault) seven → ⊥
some_of_another (failed, ([], whole, new)) = let e = new in cc e
some_of_another (failed, (byte ∷ front, whole, new)) = omega (arith, ap first_of whole.1, ap first_of new)

-- a run that stops has written the lines before the fault, or some of them where memory ran out
fault_in_a_good_run : WritesRun {A = Unit {0}} (Some []) (Some []) (Err (stop.Fault (fault_at BadRecord 5))) (printed_run []) → ⊥
fault_in_a_good_run h = let e = h.0 in cc e

line_before_a_fault_left_out : WritesRun {A = Unit {0}} (Some []) (Some []) (Err (stop.Fault (fault_at BadRecord 5))) (with_lines (codes "began" ∷ []) (stopped_run (fault_at BadRecord 5))) → ⊥
line_before_a_fault_left_out h = let e = h.1 in cc e

line_made_up : WritesRun {A = Unit {0}} (Some []) (Some seven) (Err stop.OutOfMemory) (printed_run []) → ⊥
line_made_up ([], whole, new) = let e = new in cc e
line_made_up (line ∷ front, whole, new) = let e = whole.1 in cc e

line_made_up_after_a_failed_read : WritesRun {A = Unit {0}} (Some []) (Some seven) (Err stop.ReadFault) (printed_run []) → ⊥
line_made_up_after_a_failed_read ([], whole, new) = let e = new in cc e
line_made_up_after_a_failed_read (line ∷ front, whole, new) = let e = whole.1 in cc e

byte_made_up : WritesRun {A = Unit {0}} (Some []) (Some seven) (Err stop.WriteFault) (printed_run []) → ⊥
byte_made_up ([], whole, new) = let e = new in cc e
byte_made_up (byte ∷ front, whole, new) = let e = whole.1 in cc e

-- what is read is all of it, except where the reading stopped
part_called_whole : ReadTo {T = Unit {0}} (Ok tt) [] seven → ⊥
part_called_whole e = cc e

another_part : ReadTo {T = Unit {0}} (Err stop.OutOfMemory) (8 ∷ []) seven → ⊥
another_part h = omega (arith, ap first_of h.1)

another_part_of_a_failed_input : ReadTo {T = Unit {0}} (Err stop.ReadFault) (8 ∷ []) seven → ⊥
another_part_of_a_failed_input h = omega (arith, ap first_of h.1)

another_part_before_a_failed_write : ReadTo {T = Unit {0}} (Err stop.WriteFault) (8 ∷ []) seven → ⊥
another_part_before_a_failed_write h = omega (arith, ap first_of h.1)

part_refused_as_the_whole : ReadTo {T = Unit {0}} (Err (stop.Fault (fault_at BadRecord 5))) [] seven → ⊥
part_refused_as_the_whole e = cc e

-- a register starts as it was asked, or is refused as the definition says
starts_otherwise : Starts (run_limits 1 9) [] (Ok (ledger_at_start (run_limits 1 8) [])) → ⊥
starts_otherwise h = let e = ap (λ (l : Ledger). l.limit) h.1 in omega (arith, e)

started_without_room : Starts (run_limits 1 0) [] (Ok (ledger_at_start (run_limits 1 0) [])) → ⊥
started_without_room h = let e = h.0 in cc e

refused_without_reason : Starts (run_limits 1 9) [] (Err (stop.Fault (fault_at BadLimit 0))) → ⊥
refused_without_reason (why, is, same) = let e = is in cc e

refused_at_a_record : Starts (run_limits 1 0) [] (Err (stop.Fault (fault_at BadLimit 5))) → ⊥
refused_at_a_record (why, is, same) = let e = ap (λ (f : Fault). f.place) same in omega (arith, e)

-- an output with these contents, of which a write has failed or not
abbrev contents_then : List ℕ → Bool → OutputState
contents_then bytes failed =
    let at_start : WriterRecord = record { writer = 4; at_start = None; contents = None; bytes = []; calls = no_calls } in
    record { writer = 5; start = at_start; now = record at_start { bytes = bytes }; contents = Some bytes; retried = 3; failed = failed }

abbrev nothing_yet : OutputState
nothing_yet = contents_then [] false

-- the line of a fault is written, and the fault returned, or a write failed
fault_without_its_line : Ends nothing_yet nothing_yet (fault_at BadRecord 5) (fault_at BadRecord 5) → ⊥
unfolding digits
fault_without_its_line (inl h) = let e = h.1 in cc e
fault_without_its_line (inr h) = let e = ap (λ (f : Fault). f.code) h.0 in omega (arith, e)

another_fault_returned : Ends nothing_yet (contents_then (codes "fault,5,BadRecord\n") false) (fault_at BadRecord 5) (fault_at BadRecord 6) → ⊥
another_fault_returned (inl h) = let e = ap (λ (f : Fault). f.place) h.0 in omega (arith, e)
another_fault_returned (inr h) = let e = ap (λ (f : Fault). f.place) h.0 in omega (arith, e)

another_line_written : Ends nothing_yet (contents_then seven true) (fault_at BadRecord 5) (fault_at WriteFault 0) → ⊥
unfolding digits
another_line_written (inl h) = let e = ap (λ (f : Fault). f.place) h.0 in omega (arith, e)
another_line_written (inr (same, failed, ([], whole, new))) = let e = new in cc e
another_line_written (inr (same, failed, (byte ∷ front, whole, new))) = omega (arith, ap first_of whole.1, ap first_of new)

part_of_its_line : Ends nothing_yet (contents_then (codes "fault") true) (fault_at BadRecord 5) (fault_at WriteFault 0)
unfolding digits
part_of_its_line = inr (refl, refl, (codes "fault", (codes ",5,BadRecord\n", refl), refl))

no_write_failed : Ends nothing_yet (contents_then (codes "fault") false) (fault_at BadRecord 5) (fault_at WriteFault 0) → ⊥
no_write_failed (inl h) = let e = ap (λ (f : Fault). f.place) h.0 in omega (arith, e)
no_write_failed (inr (same, failed, front)) = let e = failed in cc e

-- a run that ends well writes nothing more and keeps its value, and no run ends well after a stop
written_behind_the_run : EndsRun {A = Unit {0}} nothing_yet (contents_then seven false) (Ok tt) (Ok tt) → ⊥
written_behind_the_run h = let e = ap (λ (s : OutputState). s.contents) h.1 in cc e

another_value : EndsRun {A = ℕ} nothing_yet nothing_yet (Ok 1) (Ok 2) → ⊥
another_value h = let e = h.0 in cc e

stop_forgotten : EndsRun {A = Unit {0}} nothing_yet nothing_yet (Err stop.WriteFault) (Ok tt) → ⊥
stop_forgotten h = h

written_after_a_failure : EndsRun {A = Unit {0}} nothing_yet (contents_then seven false) (Err stop.WriteFault) (Err (fault_at WriteFault 0)) → ⊥
written_after_a_failure h = let e = ap (λ (s : OutputState). s.contents) h.1 in cc e

failure_called_otherwise : EndsRun {A = Unit {0}} nothing_yet nothing_yet (Err stop.WriteFault) (Err (fault_at ReadFault 0)) → ⊥
failure_called_otherwise h = let e = ap (λ (f : Fault). f.code) h.0 in omega (arith, e)

stopped_without_its_line : EndsRun {A = Unit {0}} nothing_yet nothing_yet (Err (stop.Fault (fault_at BadRecord 5))) (Err (fault_at BadRecord 5)) → ⊥
stopped_without_its_line h = fault_without_its_line h

-- one read: bytes were given, or it was interrupted and counted, or the input has ended
abbrev reader : List ℕ → ℕ → ℕ → ReaderRecord
reader bytes empty interrupted = record { left = None; bytes = bytes; ended = false; calls = record { made = 1; empty = empty; interrupted = interrupted } }

abbrev unread : ReaderRecord
unread = record (reader [] 0 0) { calls = no_calls }

uncounted_retry : Reads unread (reader [] 0 1) 0 0 seven None → ⊥
uncounted_retry h = omega (arith, h.0)

no_interruption : Reads unread (reader [] 1 0) 0 1 seven None → ⊥
no_interruption h = omega (arith, ap (λ (c : Calls). c.interrupted) h.2)

interrupted_with_a_byte : Reads unread (reader seven 0 1) 0 1 seven None → ⊥
interrupted_with_a_byte h = let e = h.1.bytes in cc e

retried_in_vain : Reads unread (reader [] 1 1) 0 1 seven None → ⊥
retried_in_vain h = omega (arith, ap (λ (c : Calls). c.empty) h.2)

counted_a_byte : Reads unread (reader seven 0 0) 0 1 seven (Some 1) → ⊥
counted_a_byte h = let e = h.0 in omega (arith, e)

more_than_the_piece : Reads unread (reader seven 0 0) 0 0 seven (Some 2) → ⊥
more_than_the_piece h = let e = h.1 in omega (arith, e)

another_byte_given : Reads unread (reader (8 ∷ []) 0 0) 0 0 seven (Some 1) → ⊥
another_byte_given h = let e = h.2.bytes in cc e

end_made_up : Reads unread (reader [] 1 0) 0 0 seven (Some 0) → ⊥
end_made_up h = let e = (h.3 refl (omega arith)).0 in cc e

byte_in_vain : Reads unread (reader seven 1 0) 0 0 seven (Some 1) → ⊥
byte_in_vain h = omega (arith, ap (λ (c : Calls). c.empty) h.4)

interruption_of_a_byte : Reads unread (reader seven 0 1) 0 0 seven (Some 1) → ⊥
interruption_of_a_byte h = omega (arith, ap (λ (c : Calls). c.interrupted) h.4)
