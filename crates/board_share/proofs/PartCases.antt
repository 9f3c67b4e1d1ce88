-- What is said of a writer with and without pending commands, computed; and of the steps, seats and histories of a board, part by part.
use Rattle.board_share.proofs.Names.{[], Adds, ap, as_reader, Command, Event, false, filter, first_history, get_elem?}
use Rattle.board_share.proofs.Names.{held_by, History, is_readers, is_writers, IsLawfulBoard, IsLegalSheet, known_after}
use Rattle.board_share.proofs.Names.{known_by, KnowsAfter, KnowsPrefix, length, List, look_count, machine_of, None}
use Rattle.board_share.proofs.Names.{number_of, Open, Opening, Option, Part, publication_steps, Publish, WriterState}
use Rattle.board_share.proofs.Names.{writer_at, Reader, ReaderState, refl, replicate, RuleHolds, same_Some, Seated}
use Rattle.board_share.proofs.Names.{ShareStart, sheet, slice_get, Some, some, Submit, sym, TookTry, true, View, Writer}
use Rattle.board_share.proofs.Names.{WriterView, ℕ, ◌++◌, ◌∙◌, ◌∷◌, ◌≡◌}
use Rattle.atomic_table.specs.Table as table
use Rattle.council_core.specs.Rolls.{IsLegal}
use Rattle.board_share.specs.Histories.{handed_over}
use Rattle.board_share.specs.Readers.{TookSteps}
use Rattle.board_share.specs.Writers.{IsViewOf, TookTries, cuts_after, has_pending, seen_out_after}
use Rattle.board_share.proofs.WorkedCases.{origin, seated, table}

-- events of the writer, and of a reader by its number
whose : (is_writers (Submit (Open 1)) ≡ true) × (is_writers Publish ≡ true) × (is_writers Writer ≡ true) × (is_writers (Reader 1) ≡ false) × (is_readers 1 (Reader 1) ≡ true) × (is_readers 1 (Reader 2) ≡ false) × (is_readers 1 Writer ≡ false)
whose = (refl, refl, refl, refl, refl, refl, refl)

-- the commands after those staged are submitted
handed : (handed_over [] seated ≡ Submit (Open 1) ∷ handed_over (Open 1 ∷ []) seated) × (handed_over seated seated ≡ [])
handed = (refl, refl)

-- a writer that has published none or one of its commands, with the first of two readers quiescent
abbrev writer_with : List Command → WriterState
writer_with published = record {
  table = table;
  ledger = record origin.register { journal = Open 1 ∷ [] };
  published = published;
  cuts = 0 ∷ [];
  seen_out = true ∷ false ∷ [];
  history = first_history origin;
}

one_pending : (has_pending (writer_with []) ≡ true) × (cuts_after (writer_with []) ≡ 0 ∷ 1 ∷ []) × (seen_out_after (writer_with []) ≡ false ∷ false ∷ [])
one_pending = (refl, refl, refl)

none_pending : (has_pending (writer_with (Open 1 ∷ [])) ≡ false) × (cuts_after (writer_with (Open 1 ∷ [])) ≡ 0 ∷ []) × (seen_out_after (writer_with (Open 1 ∷ [])) ≡ true ∷ false ∷ [])
none_pending = (refl, refl, refl)

-- with all readers quiescent, or none of four
steps_of_publications : (publication_steps (true ∷ []) ≡ 35) × (publication_steps (replicate 4 false) ≡ 39) × (look_count (false ∷ []) (false ∷ []) ≡ 1)
steps_of_publications = (refl, refl, refl)

-- a history after another has its events first
module _ (own : List Event) (before after : History) (added : Adds is_writers own before after) where
  earlier_first : after.events ≡ before.events ++ added.events
  earlier_first = ap (λ (h : History). h.events) added.longer_by

  own_alone : filter is_writers added.events ≡ own
  own_alone = added.own_are

-- a reader's steps are its own, and it has the view of the machine's reader after them
module _ (before after : ReaderState) (took : TookSteps 2 before after) where
  two_steps : Adds (is_readers (number_of before)) (Reader (number_of before) ∷ Reader (number_of before) ∷ []) before.history after.history
  two_steps = took.adds

  reader_after_them : slice_get (known_after after.history).readers after.index ≡ Some (known_by after)
  reader_after_them = took.knows

-- the machine's writer after a history, and its register
module _ (h : History) (v : WriterView) (knows : KnowsAfter h v) where
  its_writer : (known_after h).writer ≡ v
  its_writer = knows.writer

  its_register : (machine_of h).ledger ≡ record h.origin.register { journal = v.state.staged }
  its_register = knows.register

-- a legal sheet is that of a legal list
sheet_of_legal : (opening : Opening) (words : List ℕ) → IsLegalSheet opening words → (list : List Command) × IsLegal opening list × (words ≡ sheet opening list)
sheet_of_legal opening words is = (is.0, is.1, is.2)

-- each seat knows a prefix of the history, and no later event is of an actor that it holds
module _ (v : View) (whole : History) (knows : KnowsPrefix v whole) where
  prefix_first : whole.events ≡ v.history.events ++ knows.rest
  prefix_first = ap (λ (h : History). h.events) knows.whole_is

  no_later_step_of_the_writer : (opening : Opening) (w : WriterView) → v.writer ≡ Some (opening, w) → filter is_writers knows.rest ≡ []
  no_later_step_of_the_writer opening w is = knows.writer (opening, w) is

  no_later_step_of_a_reader : (x : Part) → as_reader 1 v ≡ Some x → filter (is_readers 2) knows.rest ≡ []
  no_later_step_of_a_reader x is = knows.readers 1 x is

-- a part that is there is in one seat and in no other
module _ (part : View → Option Part) (views : List View) (x : Part) (seated : Seated part views (Some x)) where
  in_some_seat : (id : ℕ) × (v : View) × (get_elem? views id ≡ some v) × (part v ≡ Some x)
  in_some_seat = seated.covered x refl

  the_same_part : (id : ℕ) (v : View) (y : Part) → get_elem? views id ≡ some v → part v ≡ Some y → Some x ≡ Some y
  the_same_part = seated.same

  in_one_seat : (i j : ℕ) (u v : View) → get_elem? views i ≡ some u → get_elem? views j ≡ some v → part u ≡ Some x → part v ≡ Some x → i ≡ j
  in_one_seat i j u v at_i at_j in_u in_v = seated.alone i j u v x x at_i at_j in_u in_v

-- where the rule holds, the words and the seats are those after a history of this board, which is lawful and has all readers
module _ (origin : ShareStart) (s : table.State Unit View) (rule : RuleHolds origin s) where
  words_after : s.words ≡ (known_after rule.history).words
  words_after = rule.after.words

  prefixes_known : (id : ℕ) (v : View) → get_elem? s.views id ≡ some v → KnowsPrefix v rule.history
  prefixes_known = rule.after.prefixes

  of_this_board : rule.history.origin ≡ origin
  of_this_board = rule.same_origin

  register_staged : KnowsAfter rule.history (known_after rule.history).writer
  register_staged = rule.register

  lawful_after : IsLawfulBoard origin.register.opening (known_after rule.history)
  lawful_after = rule.lawful

  all_readers : length (known_after rule.history).readers ≡ origin.readers
  all_readers = rule.count

-- a writer's seat has its opening, published commands, cuts and history, and its first commands
module _ (b : WriterState) (v : View) (is : IsViewOf b v) where
  writer_of_seat : v.writer ≡ Some (b.ledger.opening, held_by v)
  writer_of_seat = is.writes

  staged_accepted : b.ledger.journal ≡ (held_by v).state.staged ++ is.staged.0
  staged_accepted = is.staged.1

  view_of_seat : b ≡ writer_at b.table b.ledger v
  view_of_seat = is.same

  cuts_of_seat : b.cuts ≡ (held_by v).cuts
  cuts_of_seat = ap (λ (x : WriterState). x.cuts) is.same

-- a seat without a writer, with other members, with another history or with other cuts is not its
no_writer_seated : (b : WriterState) (v : View) → v.writer ≡ None → IsViewOf b v → ⊥
no_writer_seated b v none is = cc (none, is.writes)

other_members_seated : (b : WriterState) (v : View) (opening : Opening) (held : WriterView) → v.writer ≡ Some (opening, held) → (opening ≡ b.ledger.opening → ⊥) → IsViewOf b v → ⊥
other_members_seated b v opening held writes other is =
    other (ap (λ (p : Opening × WriterView). p.0) (same_Some (opening, held) (b.ledger.opening, held_by v) (sym writes ∙ is.writes)))

other_history_seated : (b : WriterState) (v : View) → (v.history ≡ b.history → ⊥) → IsViewOf b v → ⊥
other_history_seated b v other is = other (sym (ap (λ (x : WriterState). x.history) is.same))

other_cuts_seated : (b : WriterState) (v : View) → (b.cuts ≡ (held_by v).cuts → ⊥) → IsViewOf b v → ⊥
other_cuts_seated b v other is = other (cuts_of_seat b v is)

-- a publication after one that was abandoned: both are tries, and the register between them is the same
module _ (before after : WriterState) (took : TookTries 1 before after) where
  first_abandoned : TookTry (look_count before.seen_out took.0.seen_out) before took.0
  first_abandoned = took.1

  register_between : took.0.ledger ≡ before.ledger
  register_between = took.2

  then_published : TookTry (publication_steps took.0.seen_out) took.0 after
  then_published = took.3
