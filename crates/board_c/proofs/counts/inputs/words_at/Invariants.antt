use Rattle.std.proofs.Common.{◌≡◌, ◌+◌, ◌-◌, [], ◌∷◌, ◌++◌, map, take, replicate}
use Rattle.board_c.proofs.counts.inputs.words_at.Given as goal

abbrev pub invariant-loop-index : goal.invariant-loop-index
invariant-loop-index l =
    l.words ≡ map (λ w. w + 1) (take l.index l.weights) ++ (replicate (32 - l.index) 0 ++ l.total ∷ 0 ∷ [])
