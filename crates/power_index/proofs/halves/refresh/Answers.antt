use Rattle.std.proofs.Common.{◌≡◌, ◌≤◌, sym, subst, List, eqb, map, ◌<◌, ◌^◌, arith}
use Rattle.std.specs.List.{enumerate_from, All, IsDistinct}
use Rattle.council_core.specs.Sheets.{Chair, weight_of}
use Rattle.power_index.proofs.HalfLemmas.{slotted_slots, slotted_distinct, slotted_sum}
use Rattle.half_sums.specs.declared.groups.TheConstants.{SLOTS}
use Rattle.power_index.proofs.halves.refresh.Goals as goal

pub rebuild-requires-clause-slots : goal.rebuild-requires-clause-slots
rebuild-requires-clause-slots c =
    let same : c.as_slice.result.now ≡ enumerate_from 0 c.args.new.now = cc in
    subst (λ (l : List Chair). All (λ (ch : Chair). ch.0 < SLOTS) l) (sym same) (slotted_slots c.args.new.now c.requires.bound)

pub rebuild-requires-clause-distinct : goal.rebuild-requires-clause-distinct
rebuild-requires-clause-distinct c =
    let same : c.as_slice.result.now ≡ enumerate_from 0 c.args.new.now = cc in
    subst (λ (l : List Chair). IsDistinct eqb (map (λ (ch : Chair). ch.0) l)) (sym same) (slotted_distinct 0 c.args.new.now)

pub rebuild-requires-clause-small : goal.rebuild-requires-clause-small
rebuild-requires-clause-small c =
    let same : c.as_slice.result.now ≡ enumerate_from 0 c.args.new.now = cc in
    subst (λ (l : List Chair). weight_of l ≤ 2 ^ 48) (sym same) (omega (arith, slotted_sum 0 c.args.new.now, c.requires.small))
