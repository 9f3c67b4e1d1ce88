use Rattle.two_copy_steps.proofs.Names.{arith, inr, length, sym, ◌<◌, ◌≡◌, ◌⊎◌}
use Rattle.std.proofs.Common.{inl}
use Rattle.two_copy_steps.proofs.Steps.{skipped_at, seat_here, seat_within, seat_readable, read_at, read_machine}
use Rattle.two_copy_steps.proofs.machine.Machine.read.Goals as goal
use Rattle.two_copy_steps.proofs.machine.Machine.read.Goals.{then-number-eq0-via-then-number-eq0, then-number-eq0-via-else-number-eq0+then-len-number}

none : (c : goal.Joined-then-number-eq0) → (c.args.number ≡ 0) ⊎ (length c.self.inside.stages < c.args.number)
none c =
    elim c.then-number-eq0.branch [
      | then-number-eq0-via-then-number-eq0 w ↦ inl w.if-number-eq0.true
      | then-number-eq0-via-else-number-eq0+then-len-number w ↦ inr (let e = w.len.ensures in let h = w.if-len-number.true in omega arith)
    ]

pub returns-then-number-eq0 : goal.returns-then-number-eq0
returns-then-number-eq0 c = sym (skipped_at _ _ _ _ _ _ _ _ c.self.invariant _ c.self.view_is c.args.number (none c))

pub advance-requires : goal.advance-requires
advance-requires c =
    let e = c.len.ensures in
    let h = c.if-len-number.false in
    record {
      here = seat_here _ _ _ _ _ _ _ _ c.self.invariant _ c.self.view_is _ c.if-number-eq0.false (omega arith);
      within = seat_within _ _ _ _ _ _ _ _ c.self.invariant _ c.self.view_is _ c.if-number-eq0.false (omega arith);
      readable = seat_readable _ _ _ _ _ _ _ _ c.self.invariant _ c.self.view_is _ c.if-number-eq0.false (omega arith);
    }

pub invariant_of-self : goal.invariant_of-self
invariant_of-self c =
    let e = c.len.ensures in
    let h = c.if-len-number.false in
    read_machine _ _ _ _ _ _ _ _ c.self.invariant _ c.self.view_is _ c.if-number-eq0.false (omega arith) _ _ c.advance.ensures.words c.advance.ensures.stages

pub returns : goal.returns
returns c =
    let e = c.len.ensures in
    let h = c.if-len-number.false in
    read_at _ _ _ _ _ _ _ _ c.self.invariant _ c.self.view_is _ c.if-number-eq0.false (omega arith) _ _ c.advance.ensures.words c.advance.ensures.stages _ c.advance.ensures.note
