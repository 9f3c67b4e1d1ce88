use Rattle.two_copy_steps.proofs.Names.{ap, FrontsNeverFall, inr, IsLedger, length, machine_at_start, MachineState}
use Rattle.two_copy_steps.proofs.Names.{notes, refl, state_after_events, subst, sym, take, ℕ, ◌∙◌, ◌≡◌, ◌≤◌}
use Rattle.two_copy_steps.specs.Runs.{KeepsRecordsReported, WantsMemoryFrom}
use Rattle.two_copy_steps.proofs.EventLists.{ledger_records, run_answers, run_apart}
use Rattle.two_copy_steps.proofs.ReportedRecords.{run_reported, run_never_older}
use Rattle.two_copy_steps.proofs.runs.run.Goals as goal

-- the register given is the one that the machine started with
given : (c : goal.In-Ok-step_all) → IsLedger c.args.register
given c = subst (λ (m : MachineState). IsLedger m.ledger) c.in-Ok.ensures.started c.in-Ok.ensures.ledger

reported_is : (c : goal.In-Ok-step_all) → c.step_all.new.reported.items ≡ notes (machine_at_start c.args.register c.args.readers) c.args.events.now
reported_is c = c.in-Ok-step_all.ensures.notes ∙ ap (λ (m : MachineState). notes m c.args.events.now) c.in-Ok.ensures.started

pub returns-in-Ok-step_all-clause-notes : goal.returns-in-Ok-step_all-clause-notes
returns-in-Ok-step_all-clause-notes c = reported_is c

pub returns-in-Ok-step_all-clause-machine : goal.returns-in-Ok-step_all-clause-machine
returns-in-Ok-step_all-clause-machine c = c.in-Ok-step_all.ensures.machine ∙ ap (λ (m : MachineState). state_after_events m c.args.events.now) c.in-Ok.ensures.started

pub returns-in-Ok-step_all-clause-replies : goal.returns-in-Ok-step_all-clause-replies
returns-in-Ok-step_all-clause-replies c = run_answers c.args.register c.args.readers (given c).legal.0 c.args.events.now

pub returns-in-Ok-step_all-clause-records : goal.returns-in-Ok-step_all-clause-records
returns-in-Ok-step_all-clause-records c = λ k. ledger_records c.args.register c.args.readers (given c) (take k c.args.events.now)

pub returns-in-Ok-step_all-clause-apart : goal.returns-in-Ok-step_all-clause-apart
returns-in-Ok-step_all-clause-apart c = λ k. run_apart c.args.register c.args.readers (given c).legal.0 (take k c.args.events.now)

pub returns-in-Ok-step_all-clause-reported : goal.returns-in-Ok-step_all-clause-reported
returns-in-Ok-step_all-clause-reported c =
    subst (KeepsRecordsReported c.args.register c.args.readers c.args.events.now) (sym (reported_is c))
    (run_reported c.args.register c.args.readers c.args.events.now)

pub returns-in-Ok-step_all-clause-never_older : goal.returns-in-Ok-step_all-clause-never_older
returns-in-Ok-step_all-clause-never_older c =
    subst FrontsNeverFall (sym (reported_is c)) (run_never_older c.args.register c.args.readers c.args.events.now (ledger_records c.args.register c.args.readers (given c) c.args.events.now).readings)

pub returns-in-Err-step_all-clause-fault : goal.returns-in-Err-step_all-clause-fault
returns-in-Err-step_all-clause-fault c =
    let done = c.fault-in-Err-step_all.ensures.done in
    record {
      within = subst (λ (n : ℕ). n ≤ length c.args.events.now) (sym done) c.in-Err-step_all.ensures.within;
      left = c.fault-in-Err-step_all.ensures.register
          ∙ (ap (λ (m : MachineState). m.ledger) (c.in-Err-step_all.ensures.left ∙ ap (λ (m : MachineState). state_after_events m (take c.in-Err-step_all.done c.args.events.now)) c.in-Ok.ensures.started)
          ∙ ap (λ (n : ℕ). (state_after_events (machine_at_start c.args.register c.args.readers) (take n c.args.events.now)).ledger) (sym done));
      cause = inr (
        c.in-Ok.ensures.in_range.0 refl,
        c.fault-in-Err-step_all.ensures.why,
        inr (subst (WantsMemoryFrom (machine_at_start c.args.register c.args.readers) c.args.events.now) (sym done)
            (subst (λ (m : MachineState). WantsMemoryFrom m c.args.events.now c.in-Err-step_all.done) c.in-Ok.ensures.started c.in-Err-step_all.ensures.wanted)),
      );
    }
