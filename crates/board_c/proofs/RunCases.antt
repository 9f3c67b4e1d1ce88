-- Worked examples and refutations of what a caller finds.
use Rattle.std.proofs.lemmas.List.{append-nil}
use Rattle.std.proofs.Common.{◌≡◌, ◌++◌, ◌∙◌, Some, length, arith, length-append, inl, ℕ, List, [], ◌∷◌, None, get_or, refl, sym, ap}
use Rattle.std.specs.Prelude.{codes}
use Rattle.council_core.specs.Refusals.{code_of}
use Rattle.council_core.specs.declared.refusals.Refusal.TheVariants.{BadRecord, OutOfMemory, WriteFault}
use Rattle.board_text.specs.Text.{Run, fault_at, line_text, output, printed_run, run_limits, stopped_run, text_of}
use Rattle.board_runs.proofs.Face.{of_the_machine, of_the_register, schedule}
use Rattle.board_c.specs.Kinds.{run_as}
use Rattle.board_c.specs.Shown.{ShowsOutOfMemory, ShowsRun}
use Rattle.board_c.specs.declared.runs.kinds.Kind.TheVariants as kind
use Rattle.board_c.specs.declared.TheConstants.{DONE}
use Rattle.board_text.specs.Lines.{fault_line}
use Rattle.board_text.proofs.Face.{text-after}
use Rattle.board_c.proofs.KindFacts.{kind-ends}
use Rattle.board_c.proofs.TextFacts.{shows-done, shows-place}

-- the answer of a run without a fault
done : DONE ≡ 0
done = refl

-- a run of one line, "A"
abbrev pub one_line : Run
one_line = printed_run ((65 ∷ []) ∷ [])

-- two bytes are room enough for it
whole : ShowsRun one_line 2 (65 ∷ 10 ∷ []) DONE 0
whole = record { text = 65 ∷ 10 ∷ []; end = None; of_the_run = inl (refl, refl); front = refl; number = refl; at = refl }

-- one byte isn't
cut : ShowsRun one_line 1 (65 ∷ []) (code_of WriteFault) 0
cut = record { text = 65 ∷ 10 ∷ []; end = None; of_the_run = inl (refl, refl); front = refl; number = refl; at = refl }

-- its text is not left out
no_text : ShowsRun one_line 2 [] DONE 0 → ⊥
no_text shows = let is = shows-done one_line (λ f ended. cc ended) 2 _ DONE 0 shows refl in cc is.1

-- where memory was refused, the line of that fault is not left out
no_line : ShowsOutOfMemory one_line [] (Some (fault_at OutOfMemory 0)) → ⊥
no_line lacks =
    let front = lacks.1.0 in
    let line = fault_line (fault_at OutOfMemory 0) in
    let is : [] ≡ text_of front ++ line_text line = lacks.1.2 ∙ text-after front (line ∷ []) ∙ ap (λ t. text_of front ++ t) (append-nil (line_text line)) in
    omega (arith, ap length is, length-append (text_of front) (line_text line))

-- a run that a fault at record 5 ends
abbrev pub one_fault : Run
one_fault = stopped_run (fault_at BadRecord 5)

-- the number of another record is refused
another_record : (n : ℕ) (shown : List ℕ) → ShowsRun one_fault n shown (code_of BadRecord) 6 → ⊥
another_record n shown shows = let is = shows-place one_fault (fault_at BadRecord 5) n shown 6 shows refl (λ at. cc at) (λ at. cc at) in cc is

-- an input whose fourth record is a step of the two-copy machine, and nothing that a replay carries out: no replay of it
-- ends without a fault
replay_ends_well : (n : ℕ) (shown : List ℕ) (place : ℕ) → ShowsRun (run_as kind.Replay (run_limits 1 10) schedule) n shown DONE place → ⊥
replay_ends_well n shown place shows =
    let is = shows-done _ (kind-ends kind.Replay (run_limits 1 10) schedule) n shown DONE place shows refl in
    let ended : Some (fault_at BadRecord 4) ≡ None = sym (ap (λ (r : Run). r.end) of_the_register) ∙ is.0 in
    cc ended

-- and its text is none of a trace that ends without one
text_of_a_replay : (n place : ℕ) → ShowsRun (run_as kind.Trace (run_limits 1 10) schedule) n (codes "fault,4,BadRecord\n") DONE place → ⊥
text_of_a_replay n place shows =
    let is = shows-done _ (kind-ends kind.Trace (run_limits 1 10) schedule) n _ DONE place shows refl in
    let first : 102 ≡ 115 = ap (λ (bytes : List ℕ). get_or bytes 0 0) (is.1 ∙ ap output of_the_machine) in
    omega (arith, first)
