use Rattle.std.proofs.Common.{◌≡◌, ℕ, ◌-◌, List, ◌++◌, length, drop, replicate, arith, rules, ap, inl, inr}
use Rattle.std.proofs.lemmas.Bool.{cases_lt}
use Rattle.std.proofs.lemmas.Grind.{common_steps}
use Rattle.std.proofs.lemmas.List.{take_at, get_or_append_left, get_or-append_right}
use Rattle.swing_walk.proofs.Weights.{low_slot, high_slot}
use Rattle.swing_walk.proofs.tally.MaskTally.by_slot.Goals as goal
use borrow.Rule.Slice.PartMut.{put_mid}

-- eight numbers written after eight others
behind : (first second rest : List ℕ) → length first ≡ 8 → put_mid 8 8 (first ++ rest) second ≡ first ++ (second ++ drop 8 (drop 8 (first ++ rest)))
behind first second rest long = ap (λ xs. xs ++ (second ++ drop 8 (drop 8 (first ++ rest)))) (take_at first rest 8 long)

pub returns : goal.returns
returns c =
    let copied = c.copy_from_slice.ensures in
    let copied-2 = c.copy_from_slice-2.ensures in
    let all = behind c.copy_from_slice.new.self c.copy_from_slice-2.new.self (replicate 8 0) copied.len in
    record {
      marked = λ slot h.
          elim (cases_lt slot 8) [
            | inl below ↦ rw (all, low_slot slot c.args.self.now.low c.args.self.now.high below) (grind (arith, common_steps, get_or_append_left, copied.len, copied.after, c.by_bit.ensures.each slot below))
            | inr above ↦ rw (all, high_slot slot (slot - 8) c.args.self.now.low c.args.self.now.high (omega arith) (search rules))
                (grind (arith, common_steps, get_or_append_left, get_or-append_right, copied.len, copied-2.len, copied-2.after, c.by_bit-2.ensures.each (slot - 8) (omega arith)))
          ];
    }
