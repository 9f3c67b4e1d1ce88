use Rattle.std.proofs.Common.{◌≡◌, ℕ, List, ◌++◌, length, drop, replicate, arith, ap}
use Rattle.std.proofs.lemmas.Grind.{common_steps}
use Rattle.std.proofs.lemmas.List.{take_at, get_or_append_left, get_or-append_right}
use Rattle.swing_walk.proofs.pairs.counts_of.Goals as goal
use borrow.Rule.Slice.PartMut.{put_mid}
use Rattle.half_sums.specs.declared.groups.TheConstants.{SLOTS}

-- sixteen numbers written after sixteen others
behind : (first second rest : List ℕ) → length first ≡ SLOTS → put_mid SLOTS SLOTS (first ++ rest) second ≡ first ++ (second ++ drop SLOTS (drop SLOTS (first ++ rest)))
behind first second rest long = ap (λ xs. xs ++ (second ++ drop SLOTS (drop SLOTS (first ++ rest)))) (take_at first rest SLOTS long)

pub returns : goal.returns
returns c =
    let copied = c.copy_from_slice.ensures in
    let copied-2 = c.copy_from_slice-2.ensures in
    let all = behind c.copy_from_slice.new.self c.copy_from_slice-2.new.self (replicate SLOTS 0) copied.len in
    record {
      winning = c.total.ensures.total;
      left = λ slot h. rw all (grind (arith, common_steps, get_or_append_left, copied.len, copied.after, c.by_slot.ensures.marked slot h));
      right = λ slot h. rw all (grind (arith, common_steps, get_or_append_left, get_or-append_right, copied.len, copied-2.len, copied-2.after, c.by_slot-2.ensures.marked slot h));
    }
