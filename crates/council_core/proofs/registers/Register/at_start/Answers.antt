use Rattle.std.proofs.Common.{rules, List, [], sym, subst, arith}
use Rattle.indexmap.specs.IndexMap.{spare}
use Rattle.council_core.specs.declared.commands.Command.{Command}
use Rattle.council_core.specs.Rolls.{Opening}
use Rattle.council_core.proofs.MirrorLemmas.{Kept, IsBeside}
use Rattle.council_core.proofs.StartLemmas.{IsStart, IsKept-start}
use Rattle.council_core.proofs.registers.Register.at_start.Goals as goal

pub invariant_of-result : goal.invariant_of-result
invariant_of-result c =
    let entered = c.enter_all.new.members in
    let begun : Kept = record { entries = entered.entries; spare = spare entered; totals = c.start.result } in
    let start : IsStart c.args.members.now c.args.journal_limit begun = record {
      beginning = record {
        made = c.enter_all.ensures.entries;
        bound = omega arith;
        words = c.start.ensures.words;
        counts = c.start.ensures.counts;
        total = c.start.ensures.total;
        votes = c.start.ensures.small;
      };
      room = c.enter_all.ensures.room;
      apart = search rules;
      small = omega arith;
    } in
    let beside = IsKept-start c.args.members.now c.args.journal_limit begun start in
    let opened = subst (λ (o : Opening). IsBeside (record { opening = o; journal = []; limit = c.args.journal_limit }) begun) (sym c.in_ok-opening.ensures.ok) beside in
    subst (λ (j : List Command). IsBeside (record { opening = c.in_ok-opening.opening.items; journal = j; limit = c.args.journal_limit }) begun) (sym c.new.ensures.items) opened
