use Rattle.std.proofs.Common.{List, ℕ, get_or, ◌∙◌}
use Rattle.power_index.specs.Counts.{AreCounts}
use Rattle.power_index.proofs.Bounds.{omega_by_majority}
use Rattle.power_index.proofs.TallyLemmas.{are_counts, swings_in_order}
use Rattle.power_index.proofs.listed.tally.Goals as goal

pub swings-by_place-requires : goal.swings-by_place-requires
swings-by_place-requires c =
    let counts : AreCounts c.args.quota c.args.least_size c.args.sheet.now c.count_lists-counts.result.winning (λ place. get_or c.count_lists-counts.result.with_chair place 0) =
    are_counts c.args.quota c.args.least_size c.args.sheet.now _ _ _ _ c.requires.halves c.count_lists-counts.ensures.winning c.count_lists-counts.ensures.with_chair in
    record { bound = counts.bound; within = counts.within; half = counts.half }

pub returns-clause-counts : goal.returns-clause-counts
returns-clause-counts c =
    let held : List ℕ = c.args.sheet.now in
    let counts : AreCounts c.args.quota c.args.least_size held c.count_lists-counts.result.winning (λ place. get_or c.count_lists-counts.result.with_chair place 0) =
    are_counts c.args.quota c.args.least_size held _ _ _ _ c.requires.halves c.count_lists-counts.ensures.winning c.count_lists-counts.ensures.with_chair in
    record {
      omega = counts.omega ∙ omega_by_majority c.args.quota c.args.least_size c.args.majority held c.requires.quota;
      each = swings_in_order c.args.quota c.args.least_size c.args.majority held _ _ _ _ _ c.chairs.ensures.same c.in_order.ensures.count c.in_order.ensures.each counts c.swings-by_place.ensures.each c.requires.quota;
    }
