use Rattle.std.proofs.Common.{◌≡◌, ◌-◌, ◌+◌, ◌∙◌, arith, sym, ap, subst, List, [], take, drop, get_or, length}
use Rattle.half_sums.specs.declared.entry.Entry.{Entry}
use Rattle.half_sums.specs.Entries.{IsHalf}
use Rattle.half_sums.specs.Groups.{group_of}
use Rattle.half_sums.proofs.GroupFacts.{sizes_few, group_none, group_ends, group_part_is, IsHalf-group}
use Rattle.half_sums.proofs.sums.HalfSums.group.Goals as goal

pub returns-then-size-ge-SIZES-clause-same : goal.returns-then-size-ge-SIZES-clause-same
returns-then-size-ge-SIZES-clause-same c =
    subst (λ (es : List Entry). [] ≡ group_of c.args.size es) c.self.view_is
    (sym (group_none c.args.size c.self.inside.ordered (omega arith) (sizes_few c.self.inside.ordered c.self.invariant.0.slots)))

pub part-requires-clause-ordered : goal.part-requires-clause-ordered
part-requires-clause-ordered c =
    (group_ends c.from-size.result c.self.inside.ordered (take (length c.self.inside.ordered) c.self.inside.groups.items.items) c.self.inside.starts (omega arith) c.self.invariant.1).0

pub part-requires-clause-within : goal.part-requires-clause-within
part-requires-clause-within c =
    let groups = take (length c.self.inside.ordered) c.self.inside.groups.items.items in
    let shown : take c.len.result c.deref.result.now ≡ groups = ap (take c.len.result) c.deref.ensures.value ∙ ap (λ n. take n c.self.inside.groups.items.items) (c.len.ensures.count ∙ ap length c.ascending.ensures.same) in
    rw shown (group_ends c.from-size.result c.self.inside.ordered groups c.self.inside.starts (omega arith) c.self.invariant.1).1

pub returns-clause-same : goal.returns-clause-same
returns-clause-same c =
    let starts = c.self.inside.starts in
    let size = c.from-size.result in
    let groups = take (length c.self.inside.ordered) c.self.inside.groups.items.items in
    let shown : take c.len.result c.deref.result.now ≡ groups = ap (take c.len.result) c.deref.ensures.value ∙ ap (λ n. take n c.self.inside.groups.items.items) (c.len.ensures.count ∙ ap length c.ascending.ensures.same) in
    c.part.ensures.part
    ∙ ap (λ (es : List Entry). take (get_or starts (size + 1) 0 - get_or starts size 0) (drop (get_or starts size 0) es)) shown
    ∙ group_part_is size c.self.inside.ordered groups starts (omega arith) c.self.invariant.1
    ∙ ap (group_of size) c.self.view_is
    ∙ ap (λ k. group_of k c.args.self.now) c.from-size.ensures

pub returns-clause-half : goal.returns-clause-half
returns-clause-half c =
    subst IsHalf (sym (returns-clause-same c)) (IsHalf-group c.args.size c.args.self.now (subst IsHalf c.self.view_is c.self.invariant.0))
