use Rattle.std.proofs.Common.{sym, subst, take}
use Rattle.council_core.specs.Changes.{AgreesWith}
use Rattle.council_core.specs.Rolls.{Roll, fold_from}
use Rattle.council_core.proofs.ChangeLemmas.{fold_from-next}
use Rattle.council_core.proofs.RollLemmas.{accepted-at}
use Rattle.council_core.proofs.changes.replay.Goals as goal

pub change_of-change-requires : goal.change_of-change-requires
change_of-change-requires c =
    let a = c.requires.accepted in
    let commands = c.args.commands.now in
    let i = c.loop-command.command-index in (
      fold_from a.0 (take i commands),
      (c.loop-command.invariant.so_far a.0 a.1 a.2).same_members,
      accepted-at a.0 commands i c.command-item.result a.2 c.loop-command-test.true c.command-item.is,
    )

pub carry_out-requires-clause-due : goal.carry_out-requires-clause-due
carry_out-requires-clause-due c =
    let a = c.requires.accepted in
    let commands = c.args.commands.now in
    let i = c.loop-command.command-index in
    let roll = fold_from a.0 (take i commands) in
    let m = c.loop-command.invariant.so_far a.0 a.1 a.2 in
    let ok = accepted-at a.0 commands i c.command-item.result a.2 c.loop-command-test.true c.command-item.is in
    (roll, c.command-item.result, m, c.change_of-change.ensures roll c.loop-command.totals m ok)

pub loop-command-preserved : goal.loop-command-preserved
loop-command-preserved c =
    let commands = c.args.commands.now in
    let i = c.loop-command.command-index in
    let command = c.command-item.result in
    record {
      room = c.carry_out.ensures.room;
      so_far = λ first before all.
          let roll = fold_from first (take i commands) in
          let m = c.loop-command.invariant.so_far first before all in
          let ok = accepted-at first commands i command all c.loop-command-test.true c.command-item.is in
          let done = c.carry_out.ensures.done roll command m (c.change_of-change.ensures roll c.loop-command.totals m ok) in
          subst (λ (r : Roll). AgreesWith r c.carry_out.new.members.entries c.carry_out.new.totals)
          (sym (fold_from-next first commands i command c.loop-command-test.true c.command-item.is)) done;
    }
