use Rattle.std.proofs.Common.{◌≡◌, drop}
use Rattle.board_text.specs.Numbers.{number_from}
use Rattle.board_text.proofs.numbers.number_of_field.Given as goal

-- the digits that are left say the number after those so far
abbrev pub invariant-loop-digit : goal.invariant-loop-digit
invariant-loop-digit l = number_from l.number (drop l.digit-index l.field) ≡ number_from 0 l.field
