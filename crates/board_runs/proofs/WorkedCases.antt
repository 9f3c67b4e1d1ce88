-- What the definitions of how a run ends take and refuse, and a run of each kind.
use Rattle.std.proofs.Common.{◌≡◌, ℕ, inl, inr, List, [], ◌∷◌, ◌++◌, Option, Some, Ok, Err, get_or, refl, sym, ap, ◌∙◌, subst, arith}
use Rattle.std.specs.Prelude.{codes}
use Rattle.std.specs.Fmt.{digits}
use Rattle.csv.specs.Machine.{next_record}
use Rattle.csv.specs.Reading.{records_from, strip_bom}
use Rattle.council_core.specs.declared.refusals.Refusal.TheVariants.{BadRecord, OutOfMemory, ReadFault, WriteFault}
use Rattle.board_text.specs.Lines.{LineBytes, fault_line}
use Rattle.board_text.specs.Output.{IsBroken}
use Rattle.board_text.specs.Scripts.{script_course}
use Rattle.board_text.specs.Text.{Run, started_of, fault_at, preamble_after_header, printed_run, run_limits, stopped_run, text_of}
use Rattle.board_text.specs.declared.faults.Fault.{Fault}
use Rattle.board_runs.specs.Ended.{WritesSomeLines, WritesSomeBytes, WritesAllLines, IsBrokenOff, IsOutputOf, WritesOutput}
use Rattle.board_runs.specs.Replays.{run_of}
use Rattle.board_runs.specs.Traces.{trace_of}

-- a run of one line
abbrev one_line : Run
one_line = printed_run (codes "began" ∷ [])

abbrev its_text : List ℕ
its_text = codes "began" ++ 10 ∷ []

-- the line of a fault of no record
abbrev line_of_no_record : List ℕ → List ℕ
line_of_no_record name = codes "fault,0," ++ name ++ 10 ∷ []

abbrev bad_record : Fault
bad_record = fault_at BadRecord 5

code : {f g : Fault} → f ≡ g → f.code ≡ g.code
code e = ap (λ (f : Fault). f.code) e

place : {f g : Fault} → f ≡ g → f.place ≡ g.place
place e = ap (λ (f : Fault). f.place) e

-- the byte of a text at a place
at : (n : ℕ) {a b : List ℕ} → a ≡ b → get_or a n 0 ≡ get_or b n 0
at n e = ap (λ (bytes : List ℕ). get_or bytes n 0) e

-- that a write failed, or didn't
abbrev Any : Type 0
Any = Unit {0}

-- Ok is a run without a fault, whose lines are all written
one_line_replayed : WritesOutput {A = Unit {0}} Any (Some []) (Some its_text) (Ok tt) one_line
one_line_replayed = (refl, refl)

faulty_run_ends_well : (text : List ℕ) → WritesOutput {A = Unit {0}} Any (Some []) (Some text) (Ok tt) (stopped_run bad_record) → ⊥
faulty_run_ends_well text h = let e = h.0 in cc e

line_left_out : WritesOutput {A = Unit {0}} Any (Some []) (Some []) (Ok tt) one_line → ⊥
line_left_out h = let e = h.1 in cc e

-- a fault of the input is the run's own, and its line is written
fault_of_a_good_run : (old new : Option (List ℕ)) → WritesAllLines old new bad_record one_line → ⊥
fault_of_a_good_run old new h = let e = h.0 in cc e

fault_of_another_record : (old new : Option (List ℕ)) → WritesAllLines old new (fault_at BadRecord 6) (stopped_run bad_record) → ⊥
fault_of_another_record old new h =
    let same : bad_record ≡ fault_at BadRecord 6 = let e = h.0 in cc e in
    absurd (omega (arith, place same))

fault_without_its_line : WritesAllLines (Some []) (Some []) bad_record (stopped_run bad_record) → ⊥
unfolding digits
fault_without_its_line h = let e = h.1 in cc e

-- only a lack of memory and a failed read break a run off, and these have no record
broken_by_a_write : IsBroken (fault_at WriteFault 0) → ⊥
broken_by_a_write (inl e) = absurd (omega (arith, code e))
broken_by_a_write (inr e) = absurd (omega (arith, code e))

broken_by_a_record : (number : ℕ) → IsBroken (fault_at BadRecord number) → ⊥
broken_by_a_record number (inl e) = absurd (omega (arith, code e))
broken_by_a_record number (inr e) = absurd (omega (arith, code e))

breaks_off : WritesSomeLines (Some []) (Some (line_of_no_record (codes "ReadFault"))) (fault_at ReadFault 0) one_line
unfolding digits
breaks_off = (inr refl, (_, ([], (_, refl), refl), refl))

breaks_off_by_a_record : (old new : Option (List ℕ)) (run : Run) → WritesSomeLines old new (fault_at BadRecord 0) run → ⊥
breaks_off_by_a_record old new run h = broken_by_a_record 0 h.0

breaks_off_at_a_record : (old new : Option (List ℕ)) (run : Run) → WritesSomeLines old new (fault_at ReadFault 5) run → ⊥
breaks_off_at_a_record old new run (inl e, rest) = absurd (omega (arith, place e))
breaks_off_at_a_record old new run (inr e, rest) = absurd (omega (arith, place e))

-- no line before it is cut
cut_line_before_a_fault : IsBrokenOff one_line (fault_at OutOfMemory 0) (codes "beg" ++ line_of_no_record (codes "OutOfMemory")) → ⊥
unfolding digits
cut_line_before_a_fault ([], front, same) = absurd (omega (arith, at 0 same))
cut_line_before_a_fault (l ∷ ls, front, same) =
    let first : codes "began" ≡ l = let e = front.1 in cc e in
    let P : LineBytes → Type 0 = λ x. codes "beg" ++ line_of_no_record (codes "OutOfMemory") ≡ text_of ((x ∷ ls) ++ fault_line (fault_at OutOfMemory 0) ∷ []) in
    absurd (omega (arith, at 3 (subst P (sym first) same)))

-- what a run of no lines writes, with the fault's line that breaks it off
broken_off_as : (f : Fault) (text : List ℕ) → IsBrokenOff (printed_run []) f text → text ≡ text_of (fault_line f ∷ [])
broken_off_as f text ([], front, same) = same
broken_off_as f text (l ∷ ls, front, same) = let e = front.1 in cc e

broken_off_by_a_record : IsOutputOf (printed_run []) (line_of_no_record (codes "BadRecord")) → ⊥
unfolding digits
broken_off_by_a_record (inl e) = absurd (omega (arith, at 0 e))
broken_off_by_a_record (inr (f, inl same, off)) =
    let P : Fault → Type 0 = λ g. line_of_no_record (codes "BadRecord") ≡ text_of (fault_line g ∷ []) in
    absurd (omega (arith, at 8 (subst P same (broken_off_as f _ off))))
broken_off_by_a_record (inr (f, inr same, off)) =
    let P : Fault → Type 0 = λ g. line_of_no_record (codes "BadRecord") ≡ text_of (fault_line g ∷ []) in
    absurd (omega (arith, at 8 (subst P same (broken_off_as f _ off))))

-- a failed write gives WriteFault and leaves a prefix of the text that would have been written; 7
-- is no such prefix
abbrev seven : List ℕ
seven = 7 ∷ []

cuts_off_for_a_record : (old new : Option (List ℕ)) (run : Run) → WritesSomeBytes Any old new (fault_at BadRecord 0) run → ⊥
cuts_off_for_a_record old new run h = absurd (omega (arith, code h.0))

begins_with_seven : (text front rest : List ℕ) → text ≡ front ++ rest → seven ≡ front → text ≡ 7 ∷ rest
begins_with_seven text front rest e same = e ∙ ap (λ l. l ++ rest) (sym same)

no_text_with_seven : (text rest : List ℕ) → IsOutputOf (printed_run []) text → text ≡ 7 ∷ rest → ⊥
no_text_with_seven text rest (inl e) s = cc (e, s)
no_text_with_seven text rest (inr (f, broken, off)) s = let e = sym (broken_off_as f text off) ∙ s in cc e

cuts_off_to_seven : WritesSomeBytes Any (Some []) (Some seven) (fault_at WriteFault 0) (printed_run []) → ⊥
cuts_off_to_seven (reported, failed, (text, written, (front, whole, new))) =
    no_text_with_seven text whole.0 written (begins_with_seven text front whole.0 whole.1 new)

replays_to_seven : WritesOutput {A = Unit {0}} Any (Some []) (Some seven) (Err (fault_at WriteFault 0)) (printed_run []) → ⊥
replays_to_seven (inl reported) = let e = reported.0 in cc e
replays_to_seven (inr (inl broken)) = broken_by_a_write broken.0
replays_to_seven (inr (inr cut)) = cuts_off_to_seven cut

-- a failed write in the middle of a line
cuts_off : WritesSomeBytes Any (Some []) (Some (codes "beg")) (fault_at WriteFault 0) one_line
cuts_off = (refl, tt, (its_text, inl refl, (codes "beg", (codes "an" ++ 10 ∷ [], refl), refl)))

-- and none where no write failed
cuts_off_by_itself : (old new : Option (List ℕ)) (run : Run) → WritesSomeBytes ⊥ old new (fault_at WriteFault 0) run → ⊥
cuts_off_by_itself old new run h = h.1

-- member,votes / AAA,1 / script / writer,1
abbrev pub schedule : List ℕ
schedule = codes "member,votes\nAAA,1\nscript\nwriter,1"

-- the fourth record is a step of the two-copy machine
pub of_the_machine : trace_of (run_limits 1 10) schedule ≡ printed_run (codes "skipped" ∷ [])
unfolding started_of preamble_after_header script_course records_from strip_bom next_record
of_the_machine = refl

-- and nothing that a replay carries out
pub of_the_register : run_of (run_limits 1 10) schedule ≡ stopped_run (fault_at BadRecord 4)
unfolding started_of preamble_after_header script_course records_from strip_bom next_record
of_the_register = refl
