use Rattle.std.proofs.Common.{◌∙◌, ap, take, length}
use Rattle.half_sums.specs.Groups.{all_groups}
use Rattle.half_sums.proofs.GroupFacts.{sizes_few, groups_whole, grouped_each}
use Rattle.half_sums.proofs.sums.HalfSums.entries.Goals as goal

pub returns-clause-grouped : goal.returns-clause-grouped
returns-clause-grouped c =
    let groups = c.self.inside.groups.items.items in
    ap (take c.len.result) c.deref.ensures.value
    ∙ ap (λ n. take n groups) (c.len.ensures.count ∙ ap length c.ascending.ensures.same)
    ∙ groups_whole c.self.inside.ordered (take (length c.self.inside.ordered) groups) c.self.inside.starts c.self.invariant.1 c.self.invariant.0
    ∙ ap all_groups c.self.view_is

pub returns-clause-each_once : goal.returns-clause-each_once
returns-clause-each_once c =
    rw (returns-clause-grouped c, ← c.self.view_is) (grouped_each c.self.inside.ordered (sizes_few c.self.inside.ordered c.self.invariant.0.slots))
