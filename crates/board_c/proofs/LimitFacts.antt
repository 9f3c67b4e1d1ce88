-- Limits that are out of range have one run of each kind.
use Rattle.std.proofs.Common.{◌≡◌, ◌<◌, ◌&&◌, ℕ, List, Bool, Result, Err, true, false, nat_le, sym, ap, refl, ◌∙◌}
use Rattle.std.proofs.lemmas.Bool.{lt-leb}
use Rattle.council_core.specs.declared.refusals.Refusal.{Refusal}
use Rattle.council_core.specs.declared.refusals.Refusal.TheVariants.{BadLimit}
use Rattle.council_core.specs.declared.limits.TheConstants.{MAX_COMMANDS}
use Rattle.board_text.specs.declared.bounds.TheConstants.{READERS}
use Rattle.board_text.specs.Text.{started_of, fault_at, in_range, request_within}
use Rattle.board_text.specs.declared.bounds.Limits.{Limits}
use Rattle.council_core.specs.Ledgers.{Ledger}
use Rattle.board_text.specs.Requests.{Row}
use Rattle.board_text.specs.Scripts.{Effect, started_course, course_of_script, interpreted_course, run_in}
use Rattle.board_runs.specs.Replays.{replay_effect, replay_start}
use Rattle.board_runs.specs.Schedules.{events_within}
use Rattle.board_runs.specs.Traces.{trace_effect, trace_start}
use Rattle.board_c.specs.Kinds.{run_as}
use Rattle.board_c.specs.declared.runs.kinds.Kind.{Kind}
use Rattle.board_c.specs.declared.runs.kinds.Kind.TheVariants as kind

begun-out_of_range : (lim : Limits) (bytes : List ℕ) → in_range lim ≡ false → started_of lim bytes ≡ Err (fault_at BadLimit 0)
unfolding started_of
begun-out_of_range lim bytes out = rw out refl

interpreted-out_of_range : {S A : Type 0} (opened : Limits → Ledger → S) (parsed : Limits → Row → Result A Refusal) (effect : Effect S A) (a b : Limits) (bytes : List ℕ) → in_range a ≡ false → in_range b ≡ false → interpreted_course opened parsed effect a bytes ≡ interpreted_course opened parsed effect b bytes
interpreted-out_of_range opened parsed effect a b bytes first second =
    ap (started_course (course_of_script opened parsed effect a)) (begun-out_of_range a bytes first)
    ∙ sym (ap (started_course (course_of_script opened parsed effect b)) (begun-out_of_range b bytes second))

pub same-out_of_range : (k : Kind) (a b : Limits) (bytes : List ℕ) → in_range a ≡ false → in_range b ≡ false → run_as k a bytes ≡ run_as k b bytes
same-out_of_range kind.Replay a b bytes first second = ap run_in (interpreted-out_of_range replay_start request_within replay_effect a b bytes first second)
same-out_of_range kind.Trace a b bytes first second = ap run_in (interpreted-out_of_range trace_start events_within trace_effect a b bytes first second)

second-false : (a c d : Bool) → (((a && false) && c) && d) ≡ false
second-false true c d = refl
second-false false c d = refl

pub too_many-out_of_range : (lim : Limits) → READERS < lim.readers → in_range lim ≡ false
too_many-out_of_range lim many = rw (lt-leb lim.readers READERS many) (second-false (nat_le 1 lim.readers) (nat_le 1 lim.journal) (nat_le lim.journal MAX_COMMANDS))
