-- The results of all threads are those of the plan.
use Rattle.std.proofs.Common.{◌≡◌, ℕ, List, [], ◌∷◌, length, map, All, IfOk, Result, Ok, Err, refl, sym, ap, ◌∙◌, subst}
use Rattle.std.proofs.lemmas.List.Elements.{All-cons, All-nil}
use Rattle.council_core.specs.Ledgers.{Ledger}
use Rattle.council_core.specs.Rolls.{IsLegal, Opening}
use Rattle.council_core.specs.Sequential.{Call, Sequential, answered, ordered, replies_of, state_after}
use Rattle.two_copy_steps.specs.Lawful.{last_front}
use Rattle.board_share.specs.Openings.{share_start, new_writer, new_readers}
use Rattle.board_share.specs.Readers.{IsLegalSheet, ReaderState, new_reader}
use Rattle.board_share.specs.Writers.{WriterState}
use Rattle.board_text.specs.Text.{unpublished_register}
use Rattle.council_core.specs.declared.calls.Answer.{Answer}
use Rattle.board_text.specs.declared.stops.Stop.{Stop}
use Rattle.board_serve.specs.Outcomes.{IsCollected, IsOutcome, calls_of, reported_by}
use Rattle.board_serve.specs.Plans.{Planned, plan_over, records_of}
use Rattle.board_serve.specs.Work.{AreDone, AreRead, HasAsked, HasWritten, IsRising, cuts_of, register_of}
use Rattle.board_serve.specs.declared.plan.Records.{Records}
use Rattle.board_serve.specs.declared.reader_work.ReaderWork.{ReaderWork}
use Rattle.board_serve.specs.declared.serving.Served.{Served}
use Rattle.board_serve.specs.declared.threads.AllWork.{AllWork}
use Rattle.board_serve.specs.declared.writer_work.WriterWork.{WriterWork}
use Rattle.board_serve.proofs.WorkFacts.{opening-kept}

-- a new writer of a register with no command is the register with none published
new-register : (writer : WriterState) (ledger : Ledger) → writer ≡ new_writer writer.table ledger 2 → ledger.journal ≡ [] → register_of writer ≡ unpublished_register ledger
new-register writer ledger new none = ap register_of new ∙ ap (λ (n : ℕ). let s : Sequential = record { ledger = ledger; published = n } in s) (ap length none)

-- all threads returned their work, done
pub all-done : (work : AllWork) (writer : Result WriterWork Stop) (first second : Result ReaderWork Stop) (r : Result AllWork Stop)
    → HasWritten work.writer writer → HasAsked work.first first → HasAsked work.second second
    → IfOk r (λ d. writer ≡ Ok d.writer) → IfOk r (λ d. first ≡ Ok d.first) → IfOk r (λ d. second ≡ Ok d.second) → IfOk r (AreDone work)
all-done work writer first second (Err e) written one two w a b = tt
all-done work writer first second (Ok d) written one two w a b =
    record { written = subst (HasWritten work.writer) w written; first = subst (HasAsked work.first) a one; second = subst (HasAsked work.second) b two }

-- the reader is of this opening, and has read nothing
abbrev pub IsNew : Opening → ReaderState → Type 0
IsNew opening reader = (reader.opening ≡ opening) × (reader.readings ≡ [])

-- a new writer and new readers have the plan's records
pub record IsSeated (p : Planned) (work : AllWork) : Type 0 where
  pub start : register_of work.writer.writer ≡ p.start
  pub orders : work.writer.orders.items ≡ p.records.orders
  pub first : IsNew p.start.ledger.opening work.first.analyst.reader
  pub second : IsNew p.start.ledger.opening work.second.analyst.reader
  pub asked : p.records.asked ≡ work.first.asked.items ∷ work.second.asked.items ∷ []

-- the first two of the new readers of a board
new-pair : (register : Ledger) (writer : WriterState) (a b : ReaderState) → (a ∷ b ∷ []) ≡ new_readers writer.table (share_start register 2) 2 → IsNew register.opening a × IsNew register.opening b
new-pair register writer a b same =
    let first : a ≡ new_reader writer.table (share_start register 2) 0 = cc in
    let second : b ≡ new_reader writer.table (share_start register 2) 1 = cc in
    ((ap (λ (r : ReaderState). r.opening) first, ap (λ (r : ReaderState). r.readings) first), (ap (λ (r : ReaderState). r.opening) second, ap (λ (r : ReaderState). r.readings) second))

-- what the start of a board gave to the threads
pub seated : (register : Ledger) (records : Records) (work : AllWork) → register.journal ≡ [] → work.writer.writer ≡ new_writer work.writer.writer.table register 2 → work.writer.orders ≡ records.orders
    → (work.first.analyst.reader ∷ work.second.analyst.reader ∷ []) ≡ new_readers work.writer.writer.table (share_start register 2) 2
    → (work.first.asked ∷ work.second.asked ∷ []) ≡ records.asked → IsSeated (plan_over register (records_of records)) work
seated register records work none writer orders readers asked =
    let new = new-pair register work.writer.writer work.first.analyst.reader work.second.analyst.reader readers in
    record {
      start = new-register work.writer.writer register writer none;
      orders = ap (λ v. v.items) orders;
      first = new.0;
      second = new.1;
      asked = sym (ap (map (λ v. v.items)) asked);
    }

legal-of : (opening : Opening) (work done : ReaderWork) → IsNew opening work.analyst.reader → AreRead work done → All (IsLegalSheet opening) done.sheets.items
legal-of opening work done new read = subst (λ (o : Opening). All (IsLegalSheet o) done.sheets.items) new.0 read.grown.legal

rising-of : (opening : Opening) (work done : ReaderWork) → IsNew opening work.analyst.reader → AreRead work done → IsRising 0 done.sheets.items
rising-of opening work done new read = subst (λ (l : List (List ℕ)). IsRising (last_front 0 l) done.sheets.items) new.1 read.grown.rising

two-of : {A : Type 0} (P : A → Type 0) (x y : A) → P x → P y → All P (x ∷ y ∷ [])
two-of P x y p q = All-cons P x (y ∷ []) p (All-cons P y [] q (All-nil P))

pub outcome-of : (p : Planned) (work done : AllWork) (answers : List Answer) (s : Served) → IsSeated p work → AreDone work done → IsCollected done answers s → IsOutcome p answers s
outcome-of p work done answers s seated ran b =
    let calls : List Call = map ordered work.writer.orders.items in
    let written = ran.written in
    let asked : calls ≡ calls_of p = ap (map ordered) seated.orders in
    let reported : replies_of (register_of work.writer.writer) calls ≡ reported_by p = ap (λ (s : Sequential). replies_of s calls) seated.start ∙ ap (replies_of p.start) asked in
    let state : register_of done.writer.writer ≡ state_after p.start (calls_of p) = written.register ∙ ap (λ (s : Sequential). state_after s calls) seated.start ∙ ap (state_after p.start) asked in
    let opening : done.writer.writer.ledger.opening ≡ p.start.ledger.opening = ap (λ (s : Sequential). s.ledger.opening) state ∙ opening-kept p.start (calls_of p) in
    let first = done.first.sheets.items in
    let second = done.second.sheets.items in
    let one = ran.first.read in
    let two = ran.second.read in
    let legal = two-of (λ sheets. All (IsLegalSheet p.start.ledger.opening) sheets) first second (legal-of _ _ _ seated.first ran.first) (legal-of _ _ _ seated.second ran.second) in
    let rising = two-of (IsRising 0) first second (rising-of _ _ _ seated.first ran.first) (rising-of _ _ _ seated.second ran.second) in
    record {
      replies = ap (map answered) b.replies ∙ written.answers ∙ reported;
      served = record {
        journal = b.journal ∙ ap (λ (s : Sequential). s.ledger.journal) state;
        legal_journal = subst (λ (l : Opening). IsLegal l s.journal.items) opening b.legal;
        cuts = b.cuts ∙ written.cuts ∙ ap cuts_of reported;
        counts = rw (b.readings, seated.asked, one.count, two.count) refl;
        legal = rw b.readings legal;
        rising = rw b.readings rising;
        winning = b.winning ∙ (rw (one.winning, two.winning, seated.asked, b.readings) refl);
      };
    }
