use Rattle.std.proofs.Common.{rules, ◌≡◌, ◌∷◌, [], ◌++◌, List, Ok, refl, sym, subst, ap, ◌∙◌}
use Rattle.council_core.specs.Ledgers.{Ledger, room_of, roll_of}
use Rattle.council_core.specs.declared.commands.Command.{Command}
use Rattle.council_core.proofs.MirrorLemmas.{IsBeside, kept_of, kept_in, IsKept-appended}
use Rattle.council_core.proofs.RegisterLemmas.{planned_as, planned_ok, room_is}
use Rattle.council_core.proofs.registers.Register.apply.Goals as goal

pub carry_out-requires-clause-due : goal.carry_out-requires-clause-due
carry_out-requires-clause-due c =
    let i = c.self.inside in
    let l : Ledger = record { opening = i.opening.items; journal = i.journal.items; limit = i.limit } in
    (roll_of l, c.args.command, c.self.invariant.mirrors, planned_as l _ c.args.command _ _ c.self.view_is refl c.in_ok-change.ensures.planned)

pub invariant_of-self-2 : goal.invariant_of-self-2
invariant_of-self-2 c =
    let i = c.self.inside in
    let l : Ledger = record { opening = i.opening.items; journal = i.journal.items; limit = i.limit } in
    let planned = planned_as l _ c.args.command _ _ c.self.view_is refl c.in_ok-change.ensures.planned in
    let room : room_of l ≡ Ok tt = subst (λ (v : Ledger). room_of v ≡ Ok tt) (sym c.self.view_is) (search rules) in
    let now = kept_in c.carry_out.new.members c.carry_out.new.totals in
    let grown = c.append.ensures ∙ ap (λ (j : List Command). j ++ c.args.command ∷ []) c.make_room.ensures.same in
    subst (λ (j : List Command). IsBeside (record { opening = l.opening; journal = j; limit = l.limit }) now) (sym grown)
    (IsKept-appended l (kept_of i) c.self.invariant c.args.command (planned_ok (roll_of l) c.args.command _ planned)
    (room_is l room c.self.invariant.within) c.votes-votes.ensures now c.carry_out.ensures.room
    (c.carry_out.ensures.done (roll_of l) c.args.command c.self.invariant.mirrors planned))
