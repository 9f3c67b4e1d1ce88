-- What is said of the work of each thread when it is done, and of the work of all.
use Rattle.std.proofs.Common.{◌≡◌, ◌*◌, ◌++◌, ℕ, List, [], ◌∷◌, length, map, replicate, arith, refl, subst, All}
use Rattle.council_core.specs.Rolls.{IsLegal}
use Rattle.council_core.specs.Sequential.{answered}
use Rattle.council_core.specs.declared.calls.Answer.{Answer}
use Rattle.council_core.specs.declared.calls.Order.TheVariants as order
use Rattle.board_serve.proofs.Replies.{published}
use Rattle.majority_rule.specs.declared.majorities.Majority.TheVariants.{Half, Seventy}
use Rattle.two_copy_steps.specs.Lawful.{last_front}
use Rattle.board_share.specs.Analysts.{AnalystState}
use Rattle.two_copy_steps.specs.Stages.{reading_steps}
use Rattle.two_copy_steps.specs.declared.events.Event.TheVariants.{Reader}
use Rattle.board_share.specs.Histories.{Adds, is_readers}
use Rattle.board_share.specs.Readers.{IsLegalSheet, number_of}
use Rattle.board_share.specs.Writers.{WriterState}
use Rattle.board_serve.specs.Outcomes.{IsCollected, sheets_of, winning_of}
use Rattle.board_serve.specs.Work.{AreDone, IsRead, IsReadFrom, IsRising, IsWritten, omegas, register_of}
use Rattle.board_serve.specs.declared.reader_work.ReaderWork.{ReaderWork}
use Rattle.board_serve.specs.declared.serving.Served.{Served}
use Rattle.board_serve.specs.declared.threads.AllWork.{AllWork}
use Rattle.board_serve.specs.declared.writer_work.WriterWork.{WriterWork}

-- of two chairs with 60 and 40 of 100 votes, two coalitions win by half, and one by 70 per cent; of three with 60, 30
-- and 10, four and three
abbrev two_chairs : List ℕ
two_chairs = 61 ∷ 41 ∷ replicate 30 0 ++ 100 ∷ 2 ∷ []

abbrev three_chairs : List ℕ
three_chairs = 61 ∷ 31 ∷ 11 ∷ replicate 29 0 ++ 100 ∷ 3 ∷ []

won : (omegas (Half ∷ Seventy ∷ []) (two_chairs ∷ three_chairs ∷ []) ≡ 2 ∷ 3 ∷ []) × (omegas (Seventy ∷ Half ∷ []) (two_chairs ∷ three_chairs ∷ []) ≡ 1 ∷ 4 ∷ [])
    × (omegas [] (two_chairs ∷ []) ≡ []) × (omegas (Half ∷ []) [] ≡ [])
won = (refl, refl, refl, refl)

-- a writer without orders has answered nothing, has no cut, and is the register that it was, over the same table
module _ (before : WriterState) (done : WriterWork) (h : IsWritten before [] done) where
  no_answer : map answered done.answers.items ≡ []
  no_answer = h.answers

  no_cut : done.cuts.items ≡ []
  no_cut = h.cuts

  same_register : register_of done.writer ≡ register_of before
  same_register = h.register

  same_table : done.writer.table ≡ before.table
  same_table = h.table

-- one that was asked to publish answers with the number of its commands, which is a cut
module _ (before : WriterState) (done : WriterWork) (h : IsWritten before (order.Publish ∷ []) done) where
  one_answer : map answered done.answers.items ≡ published (length before.ledger.journal) ∷ []
  one_answer = h.answers

  one_cut : done.cuts.items ≡ length before.ledger.journal ∷ []
  one_cut = h.cuts

-- a reader that was asked once has one sheet, and its omega
module _ (done : ReaderWork) (h : IsRead (Half ∷ []) done) where
  one_sheet : length done.sheets.items ≡ 1
  one_sheet = h.count

  its_omega : done.sheets.items ≡ two_chairs ∷ [] → done.winning.items ≡ 2 ∷ []
  its_omega is = subst (λ (sheets : List (List ℕ)). done.winning.items ≡ omegas (Half ∷ []) sheets) is h.winning

-- its record has grown by its sheets, each legal, and none older than the one before; it is the same reader of the same table
module _ (before : AnalystState) (done : ReaderWork) (h : IsReadFrom before done) where
  record_grown : done.analyst.reader.readings ≡ before.reader.readings ++ done.sheets.items
  record_grown = h.grown

  legal_sheets : All (IsLegalSheet before.reader.opening) done.sheets.items
  legal_sheets = h.legal

  none_older : before.reader.readings ≡ [] → done.sheets.items ≡ two_chairs ∷ (replicate 33 0 ++ 1 ∷ []) ∷ [] → ⊥
  none_older none are =
      let rises : IsRising 0 done.sheets.items = subst (λ (earlier : List (List ℕ)). IsRising (last_front 0 earlier) done.sheets.items) none h.rising in
      let falls : IsRising 0 (two_chairs ∷ (replicate 33 0 ++ 1 ∷ []) ∷ []) = subst (IsRising 0) are rises in
      omega (arith, falls.1.0)

  no_step_without_a_sheet : done.sheets.items ≡ [] → Adds (is_readers (number_of before.reader)) [] before.reader.history done.analyst.reader.history
  no_step_without_a_sheet none =
      let own = number_of before.reader in
      subst (λ (sheets : List (List ℕ)). Adds (is_readers own) (replicate (length sheets * reading_steps) (Reader own)) before.reader.history done.analyst.reader.history) none h.steps

  same_reader : number_of done.analyst.reader ≡ number_of before.reader
  same_reader = h.number

  same_table_read : done.analyst.reader.table ≡ before.reader.table
  same_table_read = h.table

  same_opening : done.analyst.reader.opening ≡ before.reader.opening
  same_opening = h.opening

-- the work of all threads is done when each has done its own
module _ (work done : AllWork) (h : AreDone work done) where
  first_read : length done.first.sheets.items ≡ length work.first.asked.items
  first_read = h.first.read.count

  second_read : length done.second.sheets.items ≡ length work.second.asked.items
  second_read = h.second.read.count

  second_grown : done.second.analyst.reader.readings ≡ work.second.analyst.reader.readings ++ done.second.sheets.items
  second_grown = h.second.grown.grown

  table_written : done.writer.writer.table ≡ work.writer.writer.table
  table_written = h.written.table

-- the results are those of the writer, of the first reader and of the second
module _ (done : AllWork) (answers : List Answer) (s : Served) (h : IsCollected done answers s) where
  writers_answers : answers ≡ done.writer.answers.items
  writers_answers = h.replies

  writers_journal : s.journal.items ≡ done.writer.writer.ledger.journal
  writers_journal = h.journal

  legal_journal : IsLegal done.writer.writer.ledger.opening s.journal.items
  legal_journal = h.legal

  writers_cuts : s.cuts.items ≡ done.writer.cuts.items
  writers_cuts = h.cuts

  readers_sheets : sheets_of s ≡ done.first.sheets.items ∷ done.second.sheets.items ∷ []
  readers_sheets = h.readings

  readers_omegas : winning_of s ≡ done.first.winning.items ∷ done.second.winning.items ∷ []
  readers_omegas = h.winning
