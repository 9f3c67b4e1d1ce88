-- Names that many of the proofs import.
pub use Rattle.atomic_table.proofs.Lists.{at_set}
pub use Rattle.atomic_table.specs.Seated.{TableId}
pub use Rattle.atomic_table.specs.Table.{Allows, Me}
pub use Rattle.board_share.specs.Histories.{Adds, first_history, history_with, is_readers, is_writers, known_after}
pub use Rattle.board_share.specs.Histories.{KnowsAfter, last_reported, machine_of}
pub use Rattle.board_share.specs.Laws.{SeatsReader, SeatsWriter}
pub use Rattle.board_share.specs.Openings.{IsSplitting, new_readers}
pub use Rattle.board_share.specs.Readers.{IsLegalSheet, IsReader, known_by, new_reader, number_of, reader_at}
pub use Rattle.board_share.specs.Readers.{ReaderState, seat_view, TookStep}
pub use Rattle.board_share.specs.Rule.{first_reader, HoldsBy, KnowsPrefix, opening_view, RuleHolds}
pub use Rattle.board_share.specs.Seats.{as_reader, as_writer, but_first, first_only, Part, part_at, seat_of_reader}
pub use Rattle.board_share.specs.Seats.{Seated}
pub use Rattle.board_share.specs.Steps.{bare_seat, IsStepOn, with_writer}
pub use Rattle.board_share.specs.Writers.{due_at, held_by, IsWriter, look_count, MayBegin, publication_steps, WriterState}
pub use Rattle.board_share.specs.Writers.{writer_at, Publishing, TookTry, not_quiescent, writer_or, WriterTook}
pub use Rattle.board_share.specs.declared.views.History.{History}
pub use Rattle.board_share.specs.declared.views.ShareStart.{ShareStart}
pub use Rattle.board_share.specs.declared.views.View.{View}
pub use Rattle.council_core.specs.Ledgers.{Ledger}
pub use Rattle.council_core.specs.Rolls.{Opening, sheet}
pub use Rattle.council_core.specs.declared.commands.Command.{Command}
pub use Rattle.council_core.specs.declared.commands.Command.TheVariants.{Open}
pub use Rattle.std.proofs.Common.{[], add-one, ap, append-nil, append_assoc, arith, Bool, cond, eq-eqb, eqb, Err, false}
pub use Rattle.std.proofs.Common.{get_or, length, length-set, List, map, ne_eqb, None, Ok, Option, refl, replicate}
pub use Rattle.std.proofs.Common.{Result, set, slice_get, Some, subst, suc, sym, take, true, true≢false, zero, ℕ}
pub use Rattle.std.proofs.Common.{⊎_elim, ◌++◌, ◌+◌, ◌-◌, ◌<◌, ◌∙◌, ◌∷◌, ◌≡◌, ◌≢◌, ◌≤◌}
pub use Rattle.std.proofs.lemmas.List.{length-replicate, length-take-le}
pub use Rattle.std.proofs.lemmas.Option.{none-some, same_Some}
pub use Rattle.std.specs.Arc.{arc_value}
pub use Rattle.std.specs.List.{filter, last_or}
pub use Rattle.two_copy_steps.proofs.Face.{IsAccepted}
pub use Rattle.two_copy_steps.specs.Actions.{all_true, readings_after, seeing_phase, stage_action, stage_with_words}
pub use Rattle.two_copy_steps.specs.Auxiliary.{auxiliary_start}
pub use Rattle.two_copy_steps.specs.Lawful.{IsPublishable}
pub use Rattle.two_copy_steps.specs.States.{IsKnown, IsLawfulBoard}
pub use Rattle.two_copy_steps.specs.Transitions.{is_idle, machine_at_start, MachineState, phase_note, stage_note}
pub use Rattle.two_copy_steps.specs.Transitions.{transition}
pub use Rattle.two_copy_steps.specs.declared.events.Event.{Event}
pub use Rattle.two_copy_steps.specs.declared.events.Event.TheVariants.{Publish, Reader, Submit, Writer}
pub use Rattle.two_copy_steps.specs.declared.events.Note.{Note}
pub use Rattle.two_copy_steps.specs.declared.events.Note.TheVariants.{Busy, Moved, Published, Read, Skipped}
pub use Rattle.two_copy_steps.specs.declared.table.TheConstants.{COPY_WORDS}
pub use Rattle.two_copy_steps.specs.declared.views.Phase.{Phase}
pub use Rattle.two_copy_steps.specs.declared.views.Phase.TheVariants.{Filling, Idle, Seeing, Swapping}
pub use Rattle.two_copy_steps.specs.declared.views.ReaderView.{ReaderView}
pub use Rattle.two_copy_steps.specs.declared.views.Stage.{Stage}
pub use Rattle.two_copy_steps.specs.declared.views.Stage.TheVariants.{Arrived, AtRest, Leaving, Reading}
pub use Rattle.two_copy_steps.specs.declared.views.WriterView.{WriterView}
pub use Rattle.two_copy_steps.specs.declared.views.Writing.{Writing}
pub use lib.ListN.{get_elem?}
pub use mathlib.Core.Option.{some, some-injective, some-ne-none}
