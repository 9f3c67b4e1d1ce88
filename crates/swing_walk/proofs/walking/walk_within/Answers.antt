use Rattle.std.proofs.Common.{◌≡◌, ◌≤◌, ℕ, length, arith}
use Rattle.swing_walk.proofs.walking.walk_within.Goals as goal

pub returns-clause-stand : goal.returns-clause-stand
returns-clause-stand g c =
    let inv = c.loop-walked.invariant in
    let steps : ℕ = c.steps_within-steps.result in
    let end : c.loop-walked.walked ≡ steps = omega (arith, c.loop-walked.auto.walked-end, c.loop-walked-test.false) in
    let rising : steps ≤ length c.args.route.now.rising = rw c.copy-own.ensures.same at c.steps_within-steps.ensures.rising in
    let falling : steps ≤ length c.args.route.now.falling = rw c.copy-own.ensures.same at c.steps_within-steps.ensures.falling in
    rw (c.at_step.ensures.at, c.at_step-2.ensures.at, c.copy-own.ensures.same, c.turned-other.ensures.turned, ← end) record {
      front_passed = omega (arith, falling, end);
      back_passed = omega (arith, rising, end);
      front_stands = inv.front;
      back_stands = inv.back;
    }
