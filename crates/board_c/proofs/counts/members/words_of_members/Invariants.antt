use Rattle.std.proofs.Common.{◌≡◌, ◌-◌, [], ◌∷◌, ◌++◌, map, take, replicate}
use Rattle.council_core.specs.Rolls.{chair_numbers}
use Rattle.board_c.specs.Members.{member_word}
use Rattle.board_c.proofs.counts.members.words_of_members.Given as goal

abbrev pub invariant-loop-index : goal.invariant-loop-index
invariant-loop-index l = l.words ≡ map (member_word l.members l.mask) (take l.index chair_numbers) ++ (replicate (32 - l.index) 0 ++ l.total ∷ 0 ∷ [])
