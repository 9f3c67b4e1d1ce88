use Rattle.std.proofs.Common.{inr, Err, ◌∙◌, sym, ap}
use Rattle.std.proofs.lemmas.Result.{err_from_is_err_and}
use Rattle.c_values.proofs.OpeningFacts.{opening_more, opening_refused, opening_done}
use Rattle.c_values.proofs.entries.opening_of.Goals as goal

pub returns-in_err-member-clause-refused : goal.returns-in_err-member-clause-refused
returns-in_err-member-clause-refused c =
    let p = err_from_is_err_and c.from_residual.result c.from_residual.ensures.1 in
    rw p.1 (inr (opening_refused c.args.entries.now c.loop-index.index c.loop-index.members.items p.0 _ c.loop-index-test.true
    (sym c.entry_of.ensures ∙ c.in_err-member.was ∙ ap Err (sym p.2)) c.loop-index.invariant))

pub loop-index-preserved : goal.loop-index-preserved
loop-index-preserved c =
    rw c.in_ok-push.ensures.items (opening_more c.args.entries.now c.loop-index.index c.loop-index.members.items c.in_ok-member.member _ c.loop-index-test.true
    (sym c.entry_of.ensures ∙ c.in_ok-member.was) c.loop-index.invariant)

pub returns-clause-given : goal.returns-clause-given
returns-clause-given c = opening_done c.args.entries.now c.loop-index.index c.loop-index.members.items c.loop-index-test.false c.loop-index.invariant
