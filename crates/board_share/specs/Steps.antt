-- The effect of a step on the seat that takes it.
use Rattle.std.specs.Prelude.{◌≡◌, ℕ, suc, List, [], ◌∷◌, ◌++◌, slice_get, Option, Some, None}
use Rattle.atomic_table.specs.Table.{Me}
use Rattle.council_core.specs.declared.commands.Command.{Command}
use Rattle.council_core.specs.Rolls.{Opening, sheet}
use Rattle.two_copy_steps.specs.declared.events.Event.{Event}
use Rattle.two_copy_steps.specs.declared.events.Event.TheVariants.{Publish, Writer, Reader}
use Rattle.two_copy_steps.specs.declared.views.ReaderView.{ReaderView}
use Rattle.two_copy_steps.specs.declared.views.WriterView.{WriterView}
use Rattle.two_copy_steps.specs.Actions.{reader_action, writer_action, writing_of_staged}
use Rattle.two_copy_steps.specs.States.{IsKnown}
use Rattle.two_copy_steps.specs.Transitions.{stage_note, phase_note}
use Rattle.board_share.specs.declared.views.View.{View}
use Rattle.board_share.specs.declared.views.History.{History}
use Rattle.board_share.specs.Histories.{Adds, KnowsAfter, handed_over, is_readers, is_writers, known_after, last_reported}
use Rattle.board_share.specs.Seats.{seat_of_reader}

-- a seat of the shared table with this view and nothing else
abbrev pub bare_seat : View → Me Unit View
bare_seat v = (v, [])

-- one event of the reader at r was added, with its output and with the reader's view after it
pub record ReaderActed (r : ℕ) (before after : History) (v w : ReaderView) : Type 0 where
  pub adds : Adds (is_readers (suc r)) (Reader (suc r) ∷ []) before after
  pub knows : slice_get (known_after after).readers r ≡ Some w
  pub reported : last_reported after ≡ Some (stage_note (suc r) v.stage)

-- the seat's reader took its step, which left this number in its word
abbrev pub IsStepOn : Me Unit View → ℕ → Me Unit View → Type 0
IsStepOn me found me' =
    (r : ℕ) (opening : Opening) (v : ReaderView) (h : History) → me ≡ bare_seat (seat_of_reader h r (opening, v))
    → let w = (reader_action r v).after found in
    (h' : History) × (me' ≡ bare_seat (seat_of_reader h' r (opening, w))) × IsKnown opening w × ReaderActed r h h' v w

-- the writer begins to publish these commands, if any
abbrev pub writer_begun_with : Option (List Command) → WriterView → WriterView
writer_begun_with None v = v
writer_begun_with (Some list) v = record v { state = writing_of_staged list v.state }

-- the view with another writer, after a history
abbrev pub with_writer : View → Opening → WriterView → History → View
with_writer v opening w h = record v { writer = Some (opening, w); history = h }

-- the events at the start of a publication: its new commands are submitted, and the publication
-- begins
abbrev pub begin_events : Option (List Command) → WriterView → List Event
begin_events None v = []
begin_events (Some list) v = handed_over v.state.staged list ++ Publish ∷ []

-- a step of the writer was added, after the start of a publication if there was one, with its
-- output and with the writer's view after it
pub record WriterActed (list : Option (List Command)) (found : ℕ) (before after : History) (v w : WriterView)
    : Type 0 where
  pub adds : Adds is_writers (begin_events list v ++ Writer ∷ []) before after
  pub knows : KnowsAfter after w
  pub reported : last_reported after
      ≡ Some (phase_note (writer_begun_with list v).state (writer_begun_with list v).state.phase found)

-- the writer took its step, and began to publish these commands before it, if any
abbrev pub write_then : Option (List Command) → Me Unit View → ℕ → Me Unit View → Type 0
write_then list me found me' =
    (opening : Opening) (v : WriterView) → me.0.writer ≡ Some (opening, v)
    → let w = (writer_action (sheet opening) (writer_begun_with list v)).after found in
    (me' ≡ (with_writer me.0 opening w me'.0.history, me.1))
    × WriterActed list found me.0.history me'.0.history v w
