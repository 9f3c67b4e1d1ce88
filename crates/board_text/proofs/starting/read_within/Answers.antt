use Rattle.std.proofs.Common.{sym}
use Rattle.board_text.proofs.StartingFacts.{fails-by_limits, fails-input}
use Rattle.board_text.proofs.starting.read_within.Goals as goal

pub returns-then-not-is_in_range-clause-fault : goal.returns-then-not-is_in_range-clause-fault
returns-then-not-is_in_range-clause-fault g c =
    fails-by_limits c.args.input.now c.args.input.now c.at.result c.args.limits (sym c.if-not-is_in_range.ensures.known) c.at.ensures.same

pub returns-clause-fault : goal.returns-clause-fault
returns-clause-fault g c =
    fails-input c.args.input.now c.read_input.new.input c.read_input.result c.args.limits (sym c.if-not-is_in_range.ensures.known) c.read_input.ensures.causes c.read_input.ensures.too_long
