use Rattle.std.proofs.Common.{◌≡◌, ◌∙◌, ap, sym, rules}
use Rattle.council_core.specs.Sequential.{published_sheet}
use Rattle.power_index.specs.Indices.{indices_of}
use Rattle.board_runs.proofs.DeskFacts.{kept-counted}
use Rattle.board_runs.proofs.desks.Desk.indices.Goals as goal

pub returns-in_default-clause-counted : goal.returns-in_default-clause-counted
returns-in_default-clause-counted c =
    c.evaluate.ensures.same ∙ ap (indices_of c.args.majority) (c.set.ensures.held ∙ c.shown-sheet.ensures.published ∙ ap published_sheet c.self.view_is)

pub returns-in-Some-clause-counted : goal.returns-in-Some-clause-counted
returns-in-Some-clause-counted c =
    let at : c.in-Some.indices.majority ≡ c.args.majority = search rules in
    let same : c.self.inside.sheet ≡ c.shown-sheet.result.now = c.is_same.ensures (search rules) in
    kept-counted c.self.inside.counted c.self.inside.sheet (published_sheet c.args.self.now) c.in-Some.indices c.args.majority
    c.self.invariant (sym c.take.ensures.value ∙ c.in-Some.is) (same ∙ c.shown-sheet.ensures.published ∙ ap published_sheet c.self.view_is) at
