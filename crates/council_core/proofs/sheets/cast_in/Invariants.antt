use Rattle.std.proofs.Common.{◌≡◌, ◌*◌, ◌^◌, ◌≤◌, take, sum_by}
use Rattle.council_core.specs.Sheets.{weight_in}
use Rattle.council_core.proofs.sheets.cast_in.Given as goal

abbrev pub invariant-loop-i : goal.invariant-loop-i
invariant-loop-i l = record { sum : l.cast ≡ sum_by weight_in (take l.i l.words); room : l.cast ≤ l.i * 2 ^ 48 }
