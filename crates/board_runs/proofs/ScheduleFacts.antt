-- The records of a schedule, written and read back.
use Rattle.std.proofs.Common.{◌≡◌, ℕ, List, ◌∷◌, Some, refl, ap, ◌∙◌, arith}
use Rattle.std.specs.Prelude.{codes, decimal, option_map}
use Rattle.std.proofs.lemmas.Bool.{le-leb}
use Rattle.council_core.specs.Commands.{parts_of_command, word_of_kind}
use Rattle.council_core.specs.declared.kinds.Parts.{Parts}
use Rattle.council_core.specs.declared.kinds.Parts.TheVariants.{Chair, Member, Seat, Votes}
use Rattle.two_copy_steps.specs.declared.events.Event.TheVariants as event
use Rattle.board_text.specs.Laws.{ReadsBack}
use Rattle.board_text.specs.Requests.{command_of}
use Rattle.board_text.specs.Writing.{parts_row}
use Rattle.board_text.proofs.Face.{IsPlainRow, command-back, command-plain, number-back, number-plain, reads-back}
use Rattle.board_runs.specs.Schedules.{Events, count_of, events_of, one_submission}
use Rattle.board_runs.specs.Writing.{AreEvents, IsCount, events_row}

count-back : (n : ℕ) → IsCount n → count_of (decimal n) ≡ Some n
count-back n is = rw (number-back n (omega (arith, is.1))) (rw (le-leb 1 n is.0, le-leb n 1000 is.1) refl)

submitted : (word : List ℕ) (p : Parts) → events_of (codes "submit" ∷ word ∷ parts_row p) ≡ option_map one_submission (command_of (word ∷ parts_row p))
submitted word (Chair c) = refl
submitted word (Member code) = refl
submitted word (Seat code to) = refl
submitted word (Votes code n) = refl

events-back : (e : Events) → AreEvents e → events_of (events_row e) ≡ Some e
events-back (event.Submit c, count) is = rw is.1 (submitted (word_of_kind (parts_of_command c).0) (parts_of_command c).1 ∙ ap (option_map one_submission) (command-back c is.0))
events-back (event.Publish, count) is = rw is refl
events-back (event.Writer, count) is = rw (count-back count is) refl
events-back (event.Reader number, count) is = rw (number-back number is.0, count-back count is.1) refl

events-plain : (e : Events) → AreEvents e → IsPlainRow (events_row e)
events-plain (event.Submit command, count) is = record { starts = omega arith; plain = (refl, (command-plain command is.0).plain) }
events-plain (event.Publish, count) is = record { starts = omega arith; plain = (refl, tt) }
events-plain (event.Writer, count) is = record { starts = omega arith; plain = (refl, (number-plain count (omega (arith, is.1)), tt)) }
events-plain (event.Reader number, count) is = record { starts = omega arith; plain = (refl, (number-plain number is.0, (number-plain count (omega (arith, is.1.1)), tt))) }

pub schedule-law : (e : Events) → AreEvents e → ReadsBack events_of (events_row e) e
schedule-law e is = reads-back events_of (events_row e) e (events-plain e is) (events-back e is)
