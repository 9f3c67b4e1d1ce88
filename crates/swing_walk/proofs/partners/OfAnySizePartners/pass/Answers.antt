use Rattle.std.proofs.Common.{◌∙◌}
use Rattle.swing_walk.proofs.WinningPairs.{any_partners}
use Rattle.swing_walk.proofs.partners.OfAnySizePartners.pass.Goals as goal

pub returns-clause-partners : goal.returns-clause-partners
returns-clause-partners c =
    c.partners.ensures.chosen ∙ any_partners c.args.next.falls c.args.next c.args.route.now c.args.position c.requires.counted
