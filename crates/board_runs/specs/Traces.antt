-- The effect of a schedule's records on the two-copy machine.
use Rattle.std.specs.Prelude.{ℕ, List, replicate}
use Rattle.std.specs.List.{flat_map}
use Rattle.council_core.specs.Ledgers.{Ledger}
use Rattle.two_copy_steps.specs.Transitions.{MachineState, state_after_events, notes}
use Rattle.two_copy_steps.specs.Transitions as machine
use Rattle.two_copy_steps.specs.declared.events.Event.{Event}
use Rattle.board_text.specs.Lines.{LineBytes}
use Rattle.board_text.specs.Text.{Run}
use Rattle.board_text.specs.Scripts.{interpreted_course, run_in}
use Rattle.board_text.specs.declared.bounds.Limits.{Limits}
use Rattle.board_runs.specs.Notes.{note_lines}
use Rattle.board_runs.specs.Schedules.{Events, events_within}

-- the lines of the outputs of these events
abbrev pub output_lines : MachineState → List Event → List LineBytes
output_lines m events = flat_map note_lines (notes m events)

-- the machine takes an event as often as is asked for, and its outputs are printed
abbrev pub trace_effect : MachineState → Events → List LineBytes × MachineState
trace_effect m e = (output_lines m (replicate e.1 e.0), state_after_events m (replicate e.1 e.0))

-- the machine over a register at its start
abbrev pub trace_start : Limits → Ledger → MachineState
trace_start lim ledger = machine.machine_at_start ledger lim.readers

-- the text that `trace` writes for these bytes and how it ends, if memory is available and the
-- devices work
abbrev pub trace_of : Limits → List ℕ → Run
trace_of lim bytes = run_in (interpreted_course trace_start events_within trace_effect lim bytes)
