use Rattle.std.proofs.Common.{ap, ◌∙◌}
use Rattle.council_core.specs.Sequential.{published_sheet}
use Rattle.board_runs.proofs.DeskFacts.{keeps-counted}
use Rattle.board_runs.proofs.desks.Desk.keep.Goals as goal

pub invariant_of-self : goal.invariant_of-self
invariant_of-self c = keeps-counted _ _ c.args.indices c.requires.counted (c.shown.ensures.published ∙ ap published_sheet c.self.view_is)
