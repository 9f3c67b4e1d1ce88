use Rattle.std.proofs.Common.{◌≡◌, ◌+◌, ◌-◌, ◌*◌, ◌%◌, ◌^◌, ◌≤◌, ◌∙◌, arith, refl, inl, inr, length}
use Rattle.std.proofs.lemmas.Nat.{one_shl}
use Rattle.std.proofs.Math.Pow.{pow_mono}
use Rattle.std.proofs.lemmas.Bool.{cases_eq}
use Rattle.std.proofs.lemmas.List.{get_or-set_same, get_or-set_other, length-set}
use Rattle.swing_walk.proofs.Weights.{folds_start, folds_next, fold_sum, FoldsTo, IsFold}
use Rattle.swing_walk.proofs.tally.by_bit.Goals as goal

pub loop-bit-init : goal.loop-bit-init
loop-bit-init c = record {
  within = omega arith;
  size = c.told-table;
  totals_size = refl;
  folds = folds_start c.args.table.now 8 c.told-table;
  done = λ k low high. absurd (omega arith);
}

pub loop-bit-preserved : goal.loop-bit-preserved
loop-bit-preserved c =
    let bit = c.loop-bit.bit - 1 in
    let inv = c.loop-bit.invariant in
    let half : (1 * 2 ^ bit) % 2 ^ 64 ≡ 2 ^ bit = one_shl bit 64 (omega (arith, inv.within)) in
    let up : bit + 1 ≡ c.loop-bit.bit = omega arith in
    let less : bit ≤ 7 = omega (arith, inv.within) in
    let long : 2 ^ bit + 2 ^ bit ≤ length c.loop-bit.folded = omega (arith, inv.size, pow_mono less) in
    let before : FoldsTo c.args.table.now c.loop-bit.folded (bit + 1) = rw up inv.folds in
    let fold : IsFold c.loop-bit.folded c.fold.new.table bit c.fold.result = record { upper = rw half at c.fold.ensures.upper; folded = λ w. rw half at (c.fold.ensures.folded w) } in
    record {
      within = omega (arith, inv.within);
      size = c.fold.array_long;
      totals_size = length-set c.loop-bit.totals bit c.fold.result ∙ inv.totals_size;
      folds = folds_next _ _ _ bit _ long before fold;
      done = λ k low high.
          elim (cases_eq k bit) [
            | inl same ↦ rw same (get_or-set_same c.loop-bit.totals bit c.fold.result 0 (omega (arith, inv.totals_size, inv.within)) ∙ fold_sum _ _ _ bit _ long before fold)
            | inr other ↦ get_or-set_other c.loop-bit.totals bit k c.fold.result 0 other ∙ inv.done k (omega (arith, other)) high
          ];
    }
