use Rattle.std.proofs.Common.{◌≡◌, ◌-◌, ◌++◌, List, replicate}
use Rattle.std.specs.Io.KnownBytes.{Appends}
use Rattle.two_copy_steps.specs.Transitions.{state_after_events}
use Rattle.board_text.specs.Lines.{LineBytes}
use Rattle.board_text.specs.OutputStates.{IsSameOutput}
use Rattle.board_text.specs.Text.{text_of}
use Rattle.board_runs.specs.Traces.{output_lines}
use Rattle.board_runs.proofs.tracing.carry_out_events.Given as goal

-- the lines so far, and then those of the events that are left, are the lines of all
abbrev pub invariant-loop-turn : goal.invariant-loop-turn
invariant-loop-turn g l = record {
  so_far : (done : List LineBytes)
      × Appends l.fn.out.contents l.out.contents (text_of done)
      × (output_lines l.fn.machine (replicate l.count l.event) ≡ done ++ output_lines l.machine (replicate (l.count - l._turn) l.event));
  state : state_after_events l.fn.machine (replicate l.count l.event) ≡ state_after_events l.machine (replicate (l.count - l._turn) l.event);
  same_output : IsSameOutput l.fn.out l.out;
}
