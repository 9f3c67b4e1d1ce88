use Rattle.std.proofs.Common.{add-one, ◌∙◌, ap, rules}
use Rattle.board_c.specs.TextLines.{line_after, lines_end}
use Rattle.board_c.proofs.script.lines.end_of_lines.Goals as goal

pub loop-passed-init : goal.loop-passed-init
unfolding lines_end
loop-passed-init c = search rules

pub loop-passed-preserved : goal.loop-passed-preserved
unfolding lines_end
loop-passed-preserved c = record {
  within = c.line_after-at.ensures.within;
  same = rw add-one (ap (λ l. l.to) c.line_after-at.ensures.line ∙ ap (λ at. (line_after c.args.text.now at).to) c.loop-passed.invariant.same);
}
