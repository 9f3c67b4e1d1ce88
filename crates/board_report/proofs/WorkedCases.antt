-- What the definitions of how the program ends take and refuse.
use Rattle.std.proofs.Common.{◌≡◌, ℕ, List, [], ◌∷◌, ◌++◌, ◌⊎◌, get_or, Option, None, Some, Ok, Err, codes, inl, inr, refl, sym, ap, ◌∙◌, subst, arith, append-nil}
use Rattle.std.specs.IoError.{error_kind}
use Rattle.std.specs.declared.io.Error.{Error}
use Rattle.std.specs.declared.io.ErrorKind.TheVariants as kind
use Rattle.recording_io.specs.Tapes.{ReaderRecord, WriterRecord, given_since, no_calls}
use Rattle.council_core.specs.Refusals.{code_of}
use Rattle.council_core.specs.declared.refusals.Refusal.TheVariants.{BadHeader, BadLimit, BadRecord, OutOfMemory, ReadFault, WriteFault}
use Rattle.board_text.specs.Lines.{LineBytes}
use Rattle.board_text.specs.Output.{AppendsFront}
use Rattle.board_text.specs.Streams.{WriteFailed}
use Rattle.board_text.specs.Text.{started_of, fault_at, stopped_run, run_limits}
use Rattle.board_text.specs.declared.faults.Fault.{Fault}
use Rattle.board_runs.specs.Replays.{run_of}
use Rattle.board_serve.specs.Serving.{EndsAfter, EndsBroken, EndsBeforeThreads}
use Rattle.board_report.proofs.WordCases.{plain, replay_asks_no_text, replay_has_no_fault}
use Rattle.board_report.specs.declared.calls.Invocation.{Invocation}
use Rattle.board_report.specs.declared.calls.Invocation.TheVariants.{Replay, Serve, Trace}
use Rattle.board_report.specs.Programs.{AnswersWords, CallEnds, CallExits, IsHandled, LacksMemory, LacksWords, Streams, failure_text}

abbrev one : List ℕ
one = 7 ∷ []

-- what was written since the program began, to output and to error
abbrev recorder : List ℕ → WriterRecord
recorder bytes = record { writer = 0; at_start = None; contents = None; bytes = bytes; calls = no_calls }

abbrev written_streams : List ℕ → List ℕ → Streams
written_streams out err = record { out_old = recorder []; out_new = recorder out; err_old = recorder []; err_new = recorder err }

-- a byte came to standard output, or to standard error
abbrev to_output : Streams
to_output = written_streams one []

abbrev to_error : Streams
to_error = written_streams [] one

-- where memory was refused, standard output stays, and the status is 1
output_without_memory : LacksMemory 1 to_output → ⊥
output_without_memory h = let e = h.out_kept in cc e

-- a program that has written nothing may end so, with that status and no other
abbrev unwritten : Streams
unwritten = written_streams [] []

nothing_said : LacksMemory 1 unwritten
nothing_said = record { status_is = refl; out_kept = refl; said = ([], (_, refl), refl) }

no_other_status : (LacksMemory 0 unwritten → ⊥) × (LacksMemory 2 unwritten → ⊥)
no_other_status = (λ h. omega (arith, h.status_is), λ h. omega (arith, h.status_is))

-- help leaves standard error as it is, and a refusal standard output
help_to_error : (words : List (List ℕ)) → AnswersWords words 0 to_error → ⊥
help_to_error words (inl shown) = let e = shown.1 in cc e
help_to_error words (inr (inl refused)) = let e = refused.0 in cc e
help_to_error words (inr (inr lacks)) = let e = lacks.status_is in cc e

refusal_to_output : (words : List (List ℕ)) → AnswersWords words 2 to_output → ⊥
refusal_to_output words (inl shown) = let e = shown.0 in cc e
refusal_to_output words (inr (inl refused)) = let e = refused.1 in cc e
refusal_to_output words (inr (inr lacks)) = let e = lacks.status_is in cc e

-- a run that ends well leaves standard error as it is
good_end_to_error : (call : Invocation) (bytes : List ℕ) → CallExits call bytes 0 to_error → ⊥
good_end_to_error call bytes (inl well) = let e = well.2 in cc e
good_end_to_error call bytes (inr (inl fault)) = let e = fault.0 in cc e
good_end_to_error call bytes (inr (inr lacks)) = let e = lacks.status_is in cc e

-- words that ask for a call ask for no text, and no fault is in them
replay_taken_for_help : AnswersWords (plain (codes "replay")) 0 to_output → ⊥
replay_taken_for_help (inl shown) = replay_asks_no_text shown.2
replay_taken_for_help (inr (inl refused)) = let e = refused.0 in cc e
replay_taken_for_help (inr (inr lacks)) = let e = lacks.status_is in cc e

replay_refused : AnswersWords (plain (codes "replay")) 2 to_error → ⊥
replay_refused (inl shown) = let e = shown.0 in cc e
replay_refused (inr (inl refused)) = replay_has_no_fault refused.2
replay_refused (inr (inr lacks)) = let e = lacks.status_is in cc e

-- any command line that could be read is carried out or answered: with no call and no answer there is no such end
module _ (from to : ReaderRecord) where
  carried_out_by_another_status : (words : List (List ℕ)) → IsHandled from to words 3 unwritten → ⊥
  carried_out_by_another_status words (inl (call, asks, ends)) = ended (ends (given_since from to) (inr ([], sym (append-nil (given_since from to)), λ e. refl)))
    where
      ended : CallExits call (given_since from to) 3 unwritten → ⊥
      ended (inl well) = omega (arith, well.0)
      ended (inr (inl fault)) = omega (arith, fault.0)
      ended (inr (inr lacks)) = omega (arith, lacks.status_is)
  carried_out_by_another_status words (inr (inl shown)) = omega (arith, shown.0)
  carried_out_by_another_status words (inr (inr (inl refused))) = omega (arith, refused.0)
  carried_out_by_another_status words (inr (inr (inr lacks))) = omega (arith, lacks.status_is)

-- arguments that could not be read are a want of memory, or no text
module _ (e : Error) where
  no_memory_for_words : error_kind e ≡ kind.OutOfMemory → LacksWords e 2 unwritten → ⊥
  no_memory_for_words is h = omega (arith, (h.memory is).status_is)

  words_of_no_text : error_kind e ≡ kind.InvalidData → LacksWords e 1 unwritten → ⊥
  words_of_no_text is h = omega (arith, (h.refused (λ lacks. let same : kind.InvalidData ≡ kind.OutOfMemory = sym is ∙ lacks in cc same)).0)

-- what standard error gets
name_of_a_fault : failure_text (code_of BadRecord) ≡ codes "board: BadRecord" ++ 10 ∷ []
name_of_a_fault = refl

-- with no reader a run stops before it reads
no_reader : (bytes : List ℕ) → run_of (run_limits 0 1) bytes ≡ stopped_run (fault_at BadLimit 0)
unfolding started_of
no_reader bytes = refl

-- then the status is not 0
abbrev reported_well : Streams
reported_well = written_streams (codes "fault,0,BadLimit" ++ 10 ∷ []) []

stopped_run_exits_well : (bytes : List ℕ) → CallExits (Replay 0 1) bytes 0 reported_well → ⊥
unfolding started_of
stopped_run_exits_well bytes (inl well) = let e = well.1.0 in cc e
stopped_run_exits_well bytes (inr (inl fault)) = let e = fault.0 in cc e
stopped_run_exits_well bytes (inr (inr lacks)) = let e = lacks.status_is in cc e

stopped_trace_exits_well : (bytes : List ℕ) → CallExits (Trace 0 1) bytes 0 reported_well → ⊥
unfolding started_of
stopped_trace_exits_well bytes (inl well) = let e = well.1.0 in cc e
stopped_trace_exits_well bytes (inr (inl fault)) = let e = fault.0 in cc e
stopped_trace_exits_well bytes (inr (inr lacks)) = let e = lacks.status_is in cc e

-- and another fault's name is not what standard error gets
abbrev another_name : List ℕ
another_name = codes "board: BadHeader" ++ 10 ∷ []

abbrev reported_another : Streams
reported_another = written_streams (codes "fault,0,BadLimit" ++ 10 ∷ []) another_name

begins : (x text : List ℕ) → AppendsFront (Some []) (Some x) text → (rest : List ℕ) × (text ≡ x ++ rest)
begins x text (front, whole, new) = (whole.0, whole.1 ∙ ap (λ l. l ++ whole.0) (sym new))

-- the byte of a text at a place
at : (n : ℕ) {a b : List ℕ} → a ≡ b → get_or a n 0 ≡ get_or b n 0
at n e = ap (λ (bytes : List ℕ). get_or bytes n 0) e

abbrev IsSaid : Fault → Type 0
IsSaid f = AppendsFront (Some []) (Some another_name) (failure_text f.code)

not_of_the_limit : IsSaid (fault_at BadLimit 0) → ⊥
not_of_the_limit h = absurd (omega (arith, at 10 (begins another_name _ h).1))

not_of_memory : IsSaid (fault_at OutOfMemory 0) → ⊥
not_of_memory h = absurd (omega (arith, at 7 (begins another_name _ h).1))

not_of_a_read : IsSaid (fault_at ReadFault 0) → ⊥
not_of_a_read h = absurd (omega (arith, at 7 (begins another_name _ h).1))

not_of_a_write : IsSaid (fault_at WriteFault 0) → ⊥
not_of_a_write h = absurd (omega (arith, at 7 (begins another_name _ h).1))

another_fault_named : (bytes : List ℕ) → CallExits (Replay 0 1) bytes 1 reported_another → ⊥
unfolding started_of
another_fault_named bytes (inl well) = let e = well.0 in cc e
another_fault_named bytes (inr (inl (one, (f, inl (end, new), said)))) =
    let same : f ≡ fault_at BadLimit 0 = cc end in not_of_the_limit (subst IsSaid same said)
another_fault_named bytes (inr (inl (one, (f, inr (inl (inl same, new)), said)))) = not_of_memory (subst IsSaid same said)
another_fault_named bytes (inr (inl (one, (f, inr (inl (inr same, new)), said)))) = not_of_a_read (subst IsSaid same said)
another_fault_named bytes (inr (inl (one, (f, inr (inr (same, failed, new)), said)))) = not_of_a_write (subst IsSaid same said)
another_fault_named bytes (inr (inr lacks)) = not_of_memory lacks.said

-- where no write failed, WriteFault is not what it gets
abbrev cut_by_itself : Streams
cut_by_itself = written_streams (codes "fault,0") (codes "board: WriteFault" ++ 10 ∷ [])

abbrev IsSaidOfAWrite : Fault → Type 0
IsSaidOfAWrite f = AppendsFront (Some []) (Some (codes "board: WriteFault" ++ 10 ∷ [])) (failure_text f.code)

another_said : (f : Fault) → IsSaidOfAWrite f → get_or (failure_text f.code) 7 0 ≡ 87
another_said f h = at 7 (begins (codes "board: WriteFault" ++ 10 ∷ []) (failure_text f.code) h).1

no_call_failed : WriteFailed no_calls no_calls → ⊥
no_call_failed (inl e) = absurd (omega (arith, e))
no_call_failed (inr e) = absurd (omega (arith, e))

cut_without_a_failure : (bytes : List ℕ) → CallExits (Replay 0 1) bytes 1 cut_by_itself → ⊥
unfolding started_of
cut_without_a_failure bytes (inl well) = let e = well.0 in cc e
cut_without_a_failure bytes (inr (inl (one, (f, inl (end, new), said)))) =
    let same : f ≡ fault_at BadLimit 0 = cc end in absurd (omega (arith, another_said (fault_at BadLimit 0) (subst IsSaidOfAWrite same said)))
cut_without_a_failure bytes (inr (inl (one, (f, inr (inl (inl same, new)), said)))) = absurd (omega (arith, another_said (fault_at OutOfMemory 0) (subst IsSaidOfAWrite same said)))
cut_without_a_failure bytes (inr (inl (one, (f, inr (inl (inr same, new)), said)))) = absurd (omega (arith, another_said (fault_at ReadFault 0) (subst IsSaidOfAWrite same said)))
cut_without_a_failure bytes (inr (inl (one, (f, inr (inr (same, failed, new)), said)))) = no_call_failed failed
cut_without_a_failure bytes (inr (inr lacks)) = absurd (omega (arith, another_said (fault_at OutOfMemory 0) lacks.said))

-- no serve with a journal of no commands ends well
serve_without_a_journal : (bytes : List ℕ) (old new : WriterRecord) → CallEnds (Serve 0) bytes old new (Ok tt) → ⊥
unfolding started_of
serve_without_a_journal bytes old new h = cc h.1.1

-- and it ends in no fault but that of the limit
same_code : {f g : Fault} → f ≡ g → f.code ≡ g.code
same_code e = ap (λ (f : Fault). f.code) e

no_header : (lines : List LineBytes) (f : Fault) → f.code ≡ 21 → EndsBeforeThreads (fault_at BadLimit 0) lines f ⊎ EndsBroken lines f → ⊥
no_header lines f header (inl (none, e)) = omega (arith, header, same_code e)
no_header lines f header (inr (none, inl e)) = omega (arith, header, same_code e)
no_header lines f header (inr (none, inr e)) = omega (arith, header, same_code e)

ends_by_the_limit : (lines : List LineBytes) (end : Option Fault) → EndsAfter (Err (fault_at BadLimit 0)) lines end → end ≡ Some (fault_at BadHeader 0) → ⊥
ends_by_the_limit lines None e is = e
ends_by_the_limit lines (Some f) e is = let same : f ≡ fault_at BadHeader 0 = cc is in no_header lines f (same_code same) e

serve_ends_in_another_fault : (bytes : List ℕ) (old new : WriterRecord) → CallEnds (Serve 0) bytes old new (Err (fault_at BadHeader 0)) → ⊥
unfolding started_of
serve_ends_in_another_fault bytes old new (run, is, inl (end, wrote)) = ends_by_the_limit run.lines run.end is end
serve_ends_in_another_fault bytes old new (run, is, inr (same, failed, wrote)) = let e = same_code same in absurd (omega (arith, e))
