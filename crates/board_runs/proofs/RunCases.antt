-- A whole replay and a whole trace, computed from the bytes of their inputs to their last lines; and the counts that a desk keeps.
use Rattle.std.proofs.Common.{◌≡◌, ◌++◌, ℕ, List, [], ◌∷◌, Some, refl, ap, arith, replicate}
use Rattle.std.specs.Prelude.{codes}
use Rattle.std.specs.Fmt.{digits}
use Rattle.csv.specs.Machine.{next_record}
use Rattle.csv.specs.Reading.{records_from, strip_bom}
use Rattle.council_core.specs.declared.refusals.Refusal.TheVariants.{BadReader, BadRecord}
use Rattle.majority_rule.specs.declared.majorities.Majority.TheVariants.{Half}
use Rattle.power_index.specs.Indices.{indices_of}
use Rattle.power_index.specs.declared.indices.Indices.{Indices}
use Rattle.board_text.specs.Scripts.{script_course}
use Rattle.board_text.specs.Text.{started_of, fault_at, preamble_after_header, printed_run, run_limits, stopped_run, with_lines}
use Rattle.board_runs.specs.Desks.{AreCounted}
use Rattle.board_runs.specs.Replays.{run_of}
use Rattle.board_runs.specs.Traces.{trace_of}

-- a member takes its chair, is published and read; the ninth record asks for a reader that there isn't
abbrev script : List ℕ
script = codes "member,votes\nAAA,3\nscript\nopen,1\nopen,1\nmove,AAA,1\npublish\nread,1,half\nread,2,half\nopen,2"

replayed : run_of (run_limits 1 10) script
    ≡ with_lines (codes "accepted,1" ∷ codes "refused,1,ChairOpen" ∷ codes "accepted,2" ∷ codes "published,2" ∷ codes "reading,1,2,half,1,2,3,3,1,2" ∷ codes "chair,1,3,1,1/1,1/1,1/1,1/1" ∷ [])
    (stopped_run (fault_at BadReader 9))
unfolding started_of preamble_after_header script_course records_from strip_bom next_record digits
replayed = refl

-- nothing is read that isn't published
abbrev unpublished : List ℕ
unpublished = codes "member,votes\nAAA,3\nscript\nopen,1\nread,1,half\nread"

read_before_a_publication : run_of (run_limits 1 10) unpublished
    ≡ with_lines (codes "accepted,1" ∷ codes "reading,1,0,half,0,1,0,3,0,1" ∷ []) (stopped_run (fault_at BadRecord 6))
unfolding started_of preamble_after_header script_course records_from strip_bom next_record digits
read_before_a_publication = refl

-- a publication of 35 steps and a reading of 37; the eighth record asks for too many steps
abbrev schedule : List ℕ
schedule = codes "member,votes\nAAA,3\nscript\nsubmit,open,1\npublish\nwriter,35\nreader,1,37\nwriter,1001\npublish"

traced : trace_of (run_limits 1 10) schedule
    ≡ with_lines (codes "accepted,1" ∷ codes "began" ∷ codes "published,1" ∷ codes "sheet,1,1,0,3" ∷ []) (stopped_run (fault_at BadRecord 8))
unfolding started_of preamble_after_header script_course records_from strip_bom next_record digits
traced = refl

-- the machine takes an event as often as is asked for, and prints the outputs
abbrev three_steps : List ℕ
three_steps = codes "member,votes\nAAA,3\nscript\nwriter,3\nreader,1,2\npublish"

steps_taken : trace_of (run_limits 1 10) three_steps ≡ printed_run (codes "skipped" ∷ codes "skipped" ∷ codes "skipped" ∷ codes "published,0" ∷ [])
unfolding started_of preamble_after_header script_course records_from strip_bom next_record digits
steps_taken = refl

-- the counts kept are those of the sheet
abbrev after_one : List ℕ
after_one = replicate 32 0 ++ 3 ∷ 1 ∷ []

abbrev after_two : List ℕ
after_two = replicate 32 0 ++ 3 ∷ 2 ∷ []

counts_of_another : AreCounted (Some (indices_of Half after_one)) after_two → ⊥
counts_of_another h = let e = ap (λ (i : Indices). i.front) (h (indices_of Half after_one) refl) in omega (arith, e)
