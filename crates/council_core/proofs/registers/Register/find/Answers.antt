use Rattle.std.proofs.Common.{◌≡◌, true, ◌∙◌, Some, subst, ap}
use Rattle.council_core.specs.Rolls.{can_receive, standing_among}
use Rattle.council_core.specs.Ledgers.{Ledger, roll_of}
use Rattle.council_core.proofs.MirrorLemmas.{own_seats}
use Rattle.council_core.proofs.registers.Register.find.Goals as goal

pub returns-in-Some-clause-seat : goal.returns-in-Some-clause-seat
returns-in-Some-clause-seat c =
    let m = c.self.invariant.mirrors in
    let l : Ledger = record { opening = c.self.inside.opening.items; journal = c.self.inside.journal.items; limit = c.self.inside.limit } in
    subst (λ (v : Ledger). can_receive (roll_of v) c.in-Some.standing.now.chair ≡ true) c.self.view_is
    (own_seats (roll_of l) c.args.code m.closed_empty (Some c.in-Some.standing.now)
    (c.in-Some.ensures.value ∙ ap (standing_among c.args.code) m.same_members))
