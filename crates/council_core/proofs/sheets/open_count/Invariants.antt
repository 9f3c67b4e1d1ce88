use Rattle.std.proofs.Common.{◌≡◌, ◌≤◌, length, take}
use Rattle.council_core.specs.Sheets.{open_from}
use Rattle.council_core.proofs.sheets.open_count.Given as goal

abbrev pub invariant-loop-i : goal.invariant-loop-i
invariant-loop-i l = record { count : l.chairs ≡ length (open_from 1 (take l.i l.words)); bound : l.chairs ≤ l.i }
