use Rattle.std.proofs.Common.{◌≡◌, ◌≤◌, sym, subst, List, eqb, map, ◌<◌, ◌^◌, arith}
use Rattle.std.specs.List.{enumerate_from, All, IsDistinct}
use Rattle.council_core.specs.Sheets.{Chair, weight_of}
use Rattle.power_index.proofs.HalfLemmas.{slotted_slots, slotted_distinct, slotted_sum, sets_fit}
use Rattle.half_sums.specs.declared.groups.TheConstants.{SLOTS}
use Rattle.power_index.proofs.lent.listed.Goals as goal

pub list_subsets-requires-clause-slots : goal.list_subsets-requires-clause-slots
list_subsets-requires-clause-slots c =
    let same : c.as_slice.result.now ≡ enumerate_from 0 c.args.weights.now = cc in
    subst (λ (l : List Chair). All (λ (ch : Chair). ch.0 < SLOTS) l) (sym same) (slotted_slots c.args.weights.now c.requires.bound)

pub list_subsets-requires-clause-distinct : goal.list_subsets-requires-clause-distinct
list_subsets-requires-clause-distinct c =
    let same : c.as_slice.result.now ≡ enumerate_from 0 c.args.weights.now = cc in
    subst (λ (l : List Chair). IsDistinct eqb (map (λ (ch : Chair). ch.0) l)) (sym same) (slotted_distinct 0 c.args.weights.now)

pub list_subsets-requires-clause-small : goal.list_subsets-requires-clause-small
list_subsets-requires-clause-small c =
    let same : c.as_slice.result.now ≡ enumerate_from 0 c.args.weights.now = cc in
    subst (λ (l : List Chair). weight_of l ≤ 2 ^ 48) (sym same) (omega (arith, slotted_sum 0 c.args.weights.now, c.requires.small))

pub list_subsets-requires-clause-room : goal.list_subsets-requires-clause-room
list_subsets-requires-clause-room c =
    let same : c.as_slice.result.now ≡ enumerate_from 0 c.args.weights.now = cc in
    rw same (sets_fit c.args.weights.now c.args.words.now c.requires.bound c.requires.room)
