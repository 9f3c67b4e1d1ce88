use Rattle.board_text.specs.Text.{run_limits}
use Rattle.board_c.specs.Kinds.{run_as}
use Rattle.board_c.proofs.KindFacts.{kind-ends}
use Rattle.board_c.proofs.TextFacts.{shows-done, shows-reads, shows-writes}
use Rattle.board_c.proofs.runs.showing.show_run.Goals as goal

pub returns-clause-done : goal.returns-clause-done
returns-clause-done c =
    let lim = run_limits c.args.readers c.args.journal in
    let shows = rw (c.limits_of.ensures.same c.args.kind c.args.input.now) at c.run_into.ensures.shows in
    shows-done (run_as c.args.kind lim c.args.input.now) (kind-ends c.args.kind lim c.args.input.now) _ _ _ _ shows

pub returns-clause-reads : goal.returns-clause-reads
returns-clause-reads c =
    let lim = run_limits c.args.readers c.args.journal in
    let shows = rw (c.limits_of.ensures.same c.args.kind c.args.input.now) at c.run_into.ensures.shows in
    shows-reads (run_as c.args.kind lim c.args.input.now) (kind-ends c.args.kind lim c.args.input.now) _ _ _ _ shows

pub returns-clause-writes : goal.returns-clause-writes
returns-clause-writes c =
    let lim = run_limits c.args.readers c.args.journal in
    let shows = rw (c.limits_of.ensures.same c.args.kind c.args.input.now) at c.run_into.ensures.shows in
    shows-writes (run_as c.args.kind lim c.args.input.now) (kind-ends c.args.kind lim c.args.input.now) _ _ _ _ shows
