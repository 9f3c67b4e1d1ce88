-- What holds of the runs of each kind.
use Rattle.std.proofs.Common.{◌≡◌, ℕ, List, Some, IsTrue}
use Rattle.board_text.specs.declared.bounds.Limits.{Limits}
use Rattle.board_text.specs.declared.faults.Fault.{Fault}
use Rattle.board_runs.proofs.Face.{is_of_input, run-ends, trace-ends}
use Rattle.board_c.specs.Kinds.{run_as}
use Rattle.board_c.specs.declared.runs.kinds.Kind.{Kind}
use Rattle.board_c.specs.declared.runs.kinds.Kind.TheVariants as kind

-- the fault that ends a run, where one does, is one that the input has
pub kind-ends : (k : Kind) (lim : Limits) (bytes : List ℕ) (f : Fault) → (run_as k lim bytes).end ≡ Some f → IsTrue (is_of_input f.code)
kind-ends kind.Replay lim bytes f is = run-ends lim bytes f is
kind-ends kind.Trace lim bytes f is = trace-ends lim bytes f is
