-- What an input contains: its members, its script's items, and the end of a replay of its records.
use Rattle.std.specs.Prelude.{ℕ, ◌+◌, ◌&&◌, List, [], ◌∷◌, Option, Result, Ok, Err, length}
use Rattle.std.specs.Prelude.{nat_le, if◌then◌else◌}
use Rattle.std.specs.Result.{result_err}
use Rattle.council_core.specs.Rolls.{Opening}
use Rattle.council_core.specs.Sequential.{Sequential}
use Rattle.council_core.specs.declared.refusals.Refusal.{Refusal}
use Rattle.board_text.specs.Requests.{Row}
use Rattle.board_text.specs.Scripts.{script_course}
use Rattle.board_text.specs.Text.{Started, started_of, in_range, members_in, request_within}
use Rattle.board_text.specs.declared.bounds.Limits.{Limits}
use Rattle.board_text.specs.declared.faults.Fault.{Fault}
use Rattle.board_text.specs.declared.input.TheConstants.{INPUT_LIMIT}
use Rattle.board_text.specs.declared.requests.Request.{Request}
use Rattle.board_runs.specs.Replays.{replay_effect}
use Rattle.board_c.specs.Items.{item_as}
use Rattle.board_c.specs.Spans.{input_rows}
use Rattle.board_c.specs.declared.script.items.BoardItem.{BoardItem}

-- the members of an input
abbrev pub members_of : Limits → List ℕ → Opening
members_of lim bytes =
    if in_range lim && nat_le (length bytes) INPUT_LIMIT then members_in (input_rows bytes)
    else []

abbrev pub item_then : ℕ → Result Request Refusal → List BoardItem → List BoardItem
item_then k (Ok q) more = item_as k q ∷ more
item_then k (Err why) more = []

-- the items of a script's records without their spans, up to the first record with a fault; k is
-- the number of the first
unfoldable pub items_from : Limits → ℕ → List Row → List BoardItem
items_from lim k [] = []
items_from lim k (r ∷ rs) = item_then k (request_within lim r) (items_from lim (k + 1) rs)

-- the fault that ends a replay of records on a register, if any; k is the number of the first
abbrev pub end_from : Limits → ℕ → Sequential → List Row → Option Fault
end_from lim k s rows = result_err (script_course (request_within lim) replay_effect s k rows).end

abbrev pub items_started : Limits → Result Started Fault → List BoardItem
items_started lim (Err f) = []
items_started lim (Ok b) = items_from lim b.1 b.2

-- the items of an input without their spans: those of the script that `replay` carries out
abbrev pub items_of : Limits → List ℕ → List BoardItem
items_of lim bytes = items_started lim (started_of lim bytes)
