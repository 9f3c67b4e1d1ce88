-- The effect of a script's records on the sequential register.
use Rattle.std.specs.Prelude.{ℕ, List}
use Rattle.council_core.specs.Ledgers.{Ledger}
use Rattle.council_core.specs.Sequential.{Sequential, response_to}
use Rattle.board_text.specs.Lines.{LineBytes, reply_lines}
use Rattle.board_text.specs.Requests.{call_of}
use Rattle.board_text.specs.declared.bounds.Limits.{Limits}
use Rattle.board_text.specs.declared.requests.Request.{Request}
use Rattle.board_text.specs.Scripts.{interpreted_course, run_in}
use Rattle.board_text.specs.Text.{Run, request_within, unpublished_register}

-- a request is a call of the sequential register, and its lines print the reply
abbrev pub replay_effect : Sequential → Request → List LineBytes × Sequential
replay_effect s q = (reply_lines q (response_to s (call_of q)).1, (response_to s (call_of q)).0)

-- a replay's start, which doesn't depend on the limits: nothing is published
abbrev pub replay_start : Limits → Ledger → Sequential
replay_start lim ledger = unpublished_register ledger

-- the text that `replay` writes for these bytes and how it ends, if memory is available and the
-- devices work
abbrev pub run_of : Limits → List ℕ → Run
run_of lim bytes = run_in (interpreted_course replay_start request_within replay_effect lim bytes)
