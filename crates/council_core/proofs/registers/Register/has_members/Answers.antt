use Rattle.std.proofs.Common.{◌==◌, not, sym, ◌∙◌, ap, ◌+◌}
use Rattle.council_core.specs.Rolls.{has_members}
use Rattle.council_core.specs.Ledgers.{Ledger, roll_of}
use Rattle.council_core.proofs.MirrorLemmas.{has_members_is}
use Rattle.council_core.proofs.registers.Register.has_members.Goals as goal

pub returns : goal.returns
returns c =
    let m = c.self.invariant.mirrors in
    let l : Ledger = record { opening = c.self.inside.opening.items; journal = c.self.inside.journal.items; limit = c.self.inside.limit } in
    ap (λ n. not (n == 0)) (m.each_count c.index_of.result c.index_of.ensures.within)
    ∙ sym (has_members_is (c.index_of.result + 1) (roll_of l).members)
    ∙ ap (has_members (roll_of l)) c.index_of.ensures.index
    ∙ ap (λ v. has_members (roll_of v) c.args.chair) c.self.view_is
