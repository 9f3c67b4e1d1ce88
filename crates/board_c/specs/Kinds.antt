-- The run of each kind.
use Rattle.std.specs.Prelude.{ℕ, List}
use Rattle.board_text.specs.Text.{Run}
use Rattle.board_text.specs.declared.bounds.Limits.{Limits}
use Rattle.board_runs.specs.Replays.{run_of}
use Rattle.board_runs.specs.Traces.{trace_of}
use Rattle.board_c.specs.declared.runs.kinds.Kind.{Kind}
use Rattle.board_c.specs.declared.runs.kinds.Kind.TheVariants as kind

-- the run of these bytes: on the register, or on the two-copy machine
abbrev pub run_as : Kind → Limits → List ℕ → Run
run_as kind.Replay lim bytes = run_of lim bytes
run_as kind.Trace lim bytes = trace_of lim bytes
