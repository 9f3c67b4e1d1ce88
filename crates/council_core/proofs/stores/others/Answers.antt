use Rattle.std.proofs.Common.{◌≡◌, ◌<◌, suc, ◌+◌, ap, ◌∙◌, subst, arith, length, get_or, remove, slice_set, take}
use Rattle.council_core.specs.Rolls.{RollEntry}
use Rattle.council_core.proofs.StoreLemmas.{at_place, next_other, length_set, length_without, row_at}
use Rattle.council_core.proofs.stores.others.Goals.{then-place-index, else-place-index}
use Rattle.council_core.proofs.stores.others.Goals as goal

pub loop-place-preserved : goal.loop-place-preserved
loop-place-preserved c =
    let es = c.args.members.now.entries in
    let place = c.loop-place.place in
    let row : RollEntry = c.row.result in
    let one : suc place ≡ place + 1 = omega arith in
    let short : suc place < length es = omega (arith, c.loop-place-test.true, c.len-place-end.ensures.len) in
    let there : row ≡ get_or es c.if-place-index.from row = row_at es c.if-place-index.from row c.row.ensures in
    let at : row ≡ get_or (remove es c.args.index) place row =
    elim c.if-place-index.branch [
      | then-place-index w ↦
          at_place es c.args.index place row c.requires.within short
          (λ h. there ∙ ap (λ n. get_or es n row) w.from-is)
          (λ h. absurd (omega (arith, h, w.if-place-index.true)))
      | else-place-index w ↦
          at_place es c.args.index place row c.requires.within short
          (λ h. absurd (omega (arith, h, w.if-place-index.false)))
          (λ h. there ∙ ap (λ n. get_or es n row) (omega (arith, w.from-is)))
    ] in
    record {
      long = length_set c.loop-place.rows place row ∙ c.loop-place.invariant.long;
      others = subst (λ n. take n (slice_set c.loop-place.rows place row) ≡ take n (remove es c.args.index)) one
          (next_other c.loop-place.rows (remove es c.args.index) place row
          (omega (arith, short, c.loop-place.invariant.long, c.requires.few))
          (omega (arith, short, length_without es c.args.index c.requires.within))
          at c.loop-place.invariant.others);
    }
