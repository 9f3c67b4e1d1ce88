use Rattle.std.proofs.Common.{◌≡◌, ℕ, ◌-◌, ◌+◌, [], ◌∷◌, ◌++◌, replicate, get_or, arith}
use Rattle.std.proofs.lemmas.List.FromFn.{get_or-range_with_len, length-range_with_len}
use Rattle.council_core.specs.Rolls.{chair_numbers}
use Rattle.board_c.specs.Members.{member_word}
use Rattle.c_values.proofs.Face.{first_left, next_image}
use Rattle.board_c.proofs.counts.members.words_of_members.Goals as goal

pub loop-index-preserved : goal.loop-index-preserved
loop-index-preserved c =
    let at = c.loop-index.index in
    let back = replicate (32 - (at + 1)) 0 ++ c.in_ok-total.total ∷ 0 ∷ [] in
    let here : at + 1 ≡ get_or chair_numbers at (at + 1) = omega (arith, get_or-range_with_len 1 32 at (at + 1) (omega arith)) in
    let next = next_image (member_word c.args.members.now c.args.mask) chair_numbers at (at + 1) 0 back (omega (arith, length-range_with_len 1 32)) here in
    rw (c.loop-index.invariant, first_left {X = ℕ} 32 at 0 (omega arith), c.word_of.ensures.word) next
