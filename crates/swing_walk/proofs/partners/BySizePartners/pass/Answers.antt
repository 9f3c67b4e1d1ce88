use Rattle.std.proofs.Common.{◌≤◌, ◌∙◌, arith, refl}
use Rattle.half_sums.specs.declared.groups.TheConstants.{SIZES}
use Rattle.swing_walk.proofs.SizeLemmas.{reads, partners-read, passed}
use Rattle.swing_walk.proofs.partners.BySizePartners.pass.Goals as goal

pub overflow_sub-left-2 : goal.overflow_sub-left-2
overflow_sub-left-2 c =
    let bound : c.lacking-lane.result ≤ SIZES = omega (arith, c.lacking-lane.ensures.lacking) in
    let read = reads c.args.self.now c.lacking-lane.result c.args.route.now c.args._position c.requires.counted bound c.requires.bound c.requires.rest in
    omega (arith, read.room, c.from.ensures, c.len.ensures.count)

pub returns-clause-partners : goal.returns-clause-partners
returns-clause-partners c =
    let bound : c.lacking-lane.result ≤ SIZES = omega (arith, c.lacking-lane.ensures.lacking) in
    let read = reads c.args.self.now c.lacking-lane.result c.args.route.now c.args._position c.requires.counted bound c.requires.bound c.requires.rest in
    c.either.ensures.chosen
    ∙ partners-read c.args.next.falls c.args.self.now c.args.next c.args.route.now c.args._position c.lacking-lane.result _ _ read (rw c.mask-mask.ensures.mask at c.lacking-lane.ensures.lacking) (omega (arith, c.from.ensures, c.len.ensures.count)) c.from-gone.ensures

pub returns-clause-counted : goal.returns-clause-counted
returns-clause-counted c =
    passed c.args.next.falls c.args.next c.args.route.now c.args._position c.args.self.now (record { passed = c.count_on.new.sides; fewer = c.args.self.now.fewer }) c.mask-mask.result c.requires.counted c.requires.next c.requires.rest
    (record { is_mask = c.mask-mask.ensures.mask; fewer = refl; rising = c.count_on.ensures.rising; falling = c.count_on.ensures.falling })
