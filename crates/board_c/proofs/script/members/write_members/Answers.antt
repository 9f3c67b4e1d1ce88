use Rattle.c_values.specs.Given.{entry_as}
use Rattle.board_c.proofs.ListFacts.{overlaid-image}
use Rattle.board_c.proofs.script.members.write_members.Goals as goal

pub loop-index-preserved : goal.loop-index-preserved
loop-index-preserved c =
    overlaid-image entry_as c.args.members.now c.loop-index.index c.index-members-index.result c.args.entries.now c.loop-index.entries c.put.new.list
    c.loop-index-test.true c.index-members-index.is c.loop-index.invariant (rw c.entry_for.ensures.written at c.put.ensures)
