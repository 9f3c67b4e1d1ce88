use Rattle.std.proofs.Common.{subst, ◌+◌, List, arith}
use Rattle.std.specs.Iterator.{YieldsFirst}
use Rattle.council_core.specs.Ledgers.{roll_of}
use Rattle.council_core.specs.Members.{rows_from}
use Rattle.council_core.specs.declared.commands.MemberRow.{MemberRow}
use Rattle.council_core.proofs.MemberLemmas.{row_is_first}
use Rattle.council_core.proofs.member_rows.MemberRowsIterator.next.Goals as goal

pub returns-clause-steps : goal.returns-clause-steps
returns-clause-steps c =
    let roll = roll_of c.self.inside.register.now in
    subst (λ (rows : List MemberRow). YieldsFirst (λ rest. rest) rows c.member_at.result (rows_from (c.self.inside.index + 1) roll)) c.self.view_is
    (row_is_first c.self.inside.index roll.members c.member_at.result (omega (arith, c.self.invariant, c.members.ensures.number, c.if-index-members.false)) c.member_at.ensures.row)
