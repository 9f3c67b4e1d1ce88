use Rattle.std.proofs.Common.{◌-◌, arith, ap}
use Rattle.std.proofs.lemmas.Bool.{ltb-true}
use Rattle.std.proofs.lemmas.List.{get_or_default}
use Rattle.half_sums.specs.declared.entry.Entry.{Entry}
use Rattle.half_sums.specs.Entries.{zero_entry}
use Rattle.half_sums.proofs.lists.SumList.is_below_limit.Goals as goal

pub returns-else-is_empty : goal.returns-else-is_empty
returns-else-is_empty c = record {
  below = λ t k d inside.
      (let last = c.len.result - 1 in
      omega (arith, ltb-true _ _ t, ap (λ (e : Entry). e.sum) c.at.ensures.same, c.len.ensures.count, ap (λ (e : Entry). e.sum) (get_or_default c.args.self.now last d zero_entry (omega (arith, c.len.ensures.count))), c.at.ensures.half.ascending k last d (omega (arith, c.len.ensures.count)) (omega (arith, c.len.ensures.count))));
}
