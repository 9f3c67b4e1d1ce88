-- Names that many of the proofs import.
pub use Rattle.council_core.specs.Ledgers.{IsLedger, Ledger, ledger_with, verdict_of}
pub use Rattle.council_core.specs.Rolls.{Opening, sheet}
pub use Rattle.council_core.specs.Sequential.{AreLegalRecords, IsRecordFrom, reading, replies_of, Reply, response_to}
pub use Rattle.council_core.specs.Sequential.{Sequential, state_after}
pub use Rattle.council_core.specs.Sheets.{front_of}
pub use Rattle.council_core.specs.declared.commands.Command.{Command}
pub use Rattle.council_core.specs.declared.commands.Command.TheVariants.{Close, Open, SetVotes}
pub use Rattle.council_core.specs.declared.refusals.Refusal.{Refusal}
pub use Rattle.std.proofs.Common.{[], ap, append-nil, append_assoc, arith, Bool, cond, Contains, eq-eqb, eqb, Err}
pub use Rattle.std.proofs.Common.{false, get_or, get_or-set_other, inr, le_trans, length, length-append, length-set}
pub use Rattle.std.proofs.Common.{length-take, List, map, ne_eqb, None, Ok, Option, refl, replicate, Result, set}
pub use Rattle.std.proofs.Common.{slice_get, Some, subst, suc, sym, take, true, true≢false, zero, ℕ, ⊎_elim, ◌++◌, ◌+◌}
pub use Rattle.std.proofs.Common.{◌<◌, ◌^◌, ◌∙◌, ◌∷◌, ◌≡◌, ◌≢◌, ◌≤◌, ◌⊎◌}
pub use Rattle.std.proofs.Math.Seq.{take-length}
pub use Rattle.std.proofs.lemmas.List.{set-get_or, take-append-le}
pub use Rattle.std.proofs.lemmas.Option.{none-some, same_Some}
pub use Rattle.std.specs.Prelude.{⊤}
pub use Rattle.two_copy_steps.specs.Actions.{abandoned_writing, all_true, copy_word, cuts_past, first_false, other_side}
pub use Rattle.two_copy_steps.specs.Actions.{phase_action, pin, reader_action, readings_after, seen_writing}
pub use Rattle.two_copy_steps.specs.Actions.{stage_action, stage_with_words}
pub use Rattle.two_copy_steps.specs.Auxiliary.{Auxiliary, auxiliary_reader_step, auxiliary_start, auxiliary_step}
pub use Rattle.two_copy_steps.specs.Auxiliary.{auxiliary_steps, IsApart, IsLawfulMachine, record_at, side_held}
pub use Rattle.two_copy_steps.specs.Auxiliary.{state_of}
pub use Rattle.two_copy_steps.specs.Effects.{effects, replied_at, sequential_start, sequential_step, SequentialRun}
pub use Rattle.two_copy_steps.specs.Lawful.{Fills, HoldsCopy, IsLawfulState, IsPublishable, pin_of, read_by, ReaderOk}
pub use Rattle.two_copy_steps.specs.Lawful.{ShowsSheet, Stands, State, WriterOk}
pub use Rattle.two_copy_steps.specs.Laws.{HasVotesInRange}
pub use Rattle.two_copy_steps.specs.Machines.{IsMachine, seen_as}
pub use Rattle.two_copy_steps.specs.Publications.{IsLeastUnseen}
pub use Rattle.two_copy_steps.specs.Records.{FrontsNeverFall, sheets_reported}
pub use Rattle.two_copy_steps.specs.Runs.{auxiliary_after, machine_after}
pub use Rattle.two_copy_steps.specs.Stages.{about_to_leave, IsReadable, sheet_read, steps_taken}
pub use Rattle.two_copy_steps.specs.Transitions.{after_reader_step, is_idle, is_pending, machine_and_note}
pub use Rattle.two_copy_steps.specs.Transitions.{machine_at_start, MachineState, notes, phase_note, published_by}
pub use Rattle.two_copy_steps.specs.Transitions.{reader_transition, stage_note, state_after_events, transition}
pub use Rattle.two_copy_steps.specs.declared.events.Event.{Event}
pub use Rattle.two_copy_steps.specs.declared.events.Event.TheVariants.{Publish, Reader, Submit, Writer}
pub use Rattle.two_copy_steps.specs.declared.events.Note.{Note}
pub use Rattle.two_copy_steps.specs.declared.events.Note.TheVariants.{Accepted, Began, Busy, Moved, Published, Read}
pub use Rattle.two_copy_steps.specs.declared.events.Note.TheVariants.{Refused, Skipped}
pub use Rattle.two_copy_steps.specs.declared.table.TheConstants.{COPY_WORDS}
pub use Rattle.two_copy_steps.specs.declared.views.Phase.{Phase}
pub use Rattle.two_copy_steps.specs.declared.views.Phase.TheVariants.{Filling, Idle, Seeing, Swapping}
pub use Rattle.two_copy_steps.specs.declared.views.ReaderView.{ReaderView}
pub use Rattle.two_copy_steps.specs.declared.views.Stage.{Stage}
pub use Rattle.two_copy_steps.specs.declared.views.Stage.TheVariants.{Arrived, AtRest, Leaving, Reading}
pub use Rattle.two_copy_steps.specs.declared.views.Writing.{Writing}
pub use mathlib.Core.Logic.{dite}
pub use native.Mathlib.Decide.{ℕ_discrete}
