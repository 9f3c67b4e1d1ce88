use Rattle.std.proofs.lemmas.Result.{err_from_is_err_and}
use Rattle.board_text.specs.Text.{members_in}
use Rattle.board_text.proofs.MemberFacts.{none-broken}
use Rattle.board_text.proofs.opening.read_preamble.Goals as goal

pub returns-in_err-next-clause-members : goal.returns-in_err-next-clause-members
returns-in_err-next-clause-members c =
    let p = err_from_is_err_and c.from_residual.result c.from_residual.ensures.1 in
    rw p.1 (none-broken c.in_err-next.field-0.0 p.0 c.args.members.now.items (members_in c.args.script.now) c.in_err-next.ensures.causes p.2 c.requires.none)
