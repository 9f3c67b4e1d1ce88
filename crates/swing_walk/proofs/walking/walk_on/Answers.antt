use Rattle.std.proofs.Common.{◌≡◌, ◌+◌, arith}
use Rattle.swing_walk.proofs.Meeting.{lefts_credited, rights_credited}
use Rattle.swing_walk.proofs.walking.walk_on.Goals as goal

pub returns-then-steps-eq1 : goal.returns-then-steps-eq1
returns-then-steps-eq1 g c =
    let stands = c.pass.ensures.stands in
    let back = c.loop-walked.invariant.back in
    let all : c.pass.result.up + c.loop-walked.from_back.up ≡ c.pass.result.rest + c.loop-walked.from_back.rest =
    omega (arith, c.pass.ensures.next, c.loop-walked.invariant.front_passed, c.loop-walked.invariant.back_passed, c.loop-walked.invariant.steps, c.loop-walked.auto.walked-end (omega (arith, c.requires.within, c.len.ensures.count, c.len-2.ensures.count))) in
    record { lefts = lefts_credited _ _ _ _ _ stands back all; rights = rights_credited _ _ _ _ _ stands back all }

pub returns-else-steps-eq1 : goal.returns-else-steps-eq1
returns-else-steps-eq1 g c =
    let stands = c.loop-walked.invariant.front in
    let back = c.loop-walked.invariant.back in
    let all : c.loop-walked.from_front.up + c.loop-walked.from_back.up ≡ c.loop-walked.from_front.rest + c.loop-walked.from_back.rest =
    omega (arith, c.loop-walked.invariant.front_passed, c.loop-walked.invariant.back_passed, c.loop-walked.invariant.steps, c.loop-walked.auto.walked-end (omega (arith, c.requires.within, c.len.ensures.count, c.len-2.ensures.count))) in
    record { lefts = lefts_credited _ _ _ _ _ stands back all; rights = rights_credited _ _ _ _ _ stands back all }
