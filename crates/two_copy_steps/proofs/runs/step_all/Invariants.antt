use Rattle.two_copy_steps.proofs.Names.{length, notes, state_after_events, take, ◌≡◌, ◌≤◌}
use Rattle.std.proofs.Common.{vec_len, vec_capacity}
use Rattle.two_copy_steps.proofs.runs.step_all.Given as goal

abbrev pub invariant-loop-done : goal.invariant-loop-done
invariant-loop-done l =
    (l.machine ≡ state_after_events l.fn.machine (take l.done l.events)) × (l.reported.items ≡ notes l.fn.machine (take l.done l.events))
    × (length l.events ≤ vec_capacity l.reported) × (vec_len l.reported ≡ l.done)
