use Rattle.std.proofs.Common.{◌≡◌, map, take}
use Rattle.c_values.specs.Given.{entry_as}
use Rattle.board_c.specs.Written.{overlaid}
use Rattle.board_c.proofs.script.members.write_members.Given as goal

abbrev pub invariant-loop-index : goal.invariant-loop-index
invariant-loop-index l = l.entries ≡ overlaid (map entry_as (take l.index l.members)) l.fn.entries
