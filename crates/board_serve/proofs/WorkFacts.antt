-- The work of the threads, one record more at a time.
use Rattle.std.proofs.Common.{◌≡◌, ◌⊎◌, ◌+◌, ◌*◌, ◌≤◌, ℕ, List, [], ◌∷◌, ◌++◌, length, map, replicate, take, Some, Ok, Err, Result, inl, inr, refl, sym, ap, subst, ◌∙◌, arith, append_assoc}
use Rattle.std.proofs.lemmas.List.{append-nil, length-append, map-append, replicate-append-replicate, take_more}
use Rattle.std.proofs.lemmas.List.Elements.{All-append, All-cons, All-nil}
use Rattle.std.proofs.lemmas.Grind.{flat_map-append}
use Rattle.std.proofs.lemmas.Option.{slice_get-get_or}
use Rattle.std.specs.Option.{option_or}
use Rattle.std.specs.Prelude.{⊤, IfErr, IfSome, Option, None}
use Rattle.std.specs.Result.{result_err}
use Rattle.council_core.specs.Ledgers.{verdict_of}
use Rattle.council_core.specs.Sequential.{Sequential, Call, Reply, answered, ordered, read, response_to, replies_of, state_after, submit_response}
use Rattle.council_core.specs.declared.commands.Command.{Command}
use Rattle.council_core.specs.declared.refusals.Refusal.{Refusal}
use Rattle.council_core.specs.Sheets.{front_of}
use Rattle.majority_rule.specs.declared.majorities.Majority.{Majority}
use Rattle.two_copy_steps.specs.Lawful.{last_front}
use Rattle.two_copy_steps.specs.Stages.{reading_steps}
use Rattle.two_copy_steps.specs.declared.events.Event.{Event}
use Rattle.two_copy_steps.specs.declared.events.Event.TheVariants.{Reader}
use Rattle.board_share.specs.Analysts.{AnalystState}
use Rattle.board_share.specs.Histories.{Adds, is_readers}
use Rattle.board_share.specs.Readers.{IsLegalSheet, TookSteps, last_front_of, number_of}
use Rattle.board_share.proofs.Face.{adds_then, longer_none}
use Rattle.board_share.specs.Writers.{WriterState}
use Rattle.council_core.specs.declared.calls.Answer.{Answer}
use Rattle.board_text.specs.declared.stops.Stop.{Stop}
use Rattle.board_text.specs.declared.stops.Stop.TheVariants as stop
use Rattle.board_text.proofs.Face.{first-more, StandsAt}
use Rattle.board_serve.specs.Work.{CanAsk, HasAsked, HasWritten, IsClosed, IsRead, IsReadFrom, IsRising, IsWritten, StopsAll, StopsAt, StopsWithin, cuts_of, cuts_of_reply, ends_of, omega_at, omegas, register_of, returned_stop}
use Rattle.council_core.specs.declared.calls.Order.{Order}
use Rattle.council_core.specs.declared.calls.Order.TheVariants as order
use Rattle.board_serve.specs.declared.reader_work.ReaderWork.{ReaderWork}
use Rattle.board_serve.specs.declared.threads.AllWork.{AllWork}
use Rattle.board_serve.specs.declared.writer_work.WriterWork.{WriterWork}

-- the replies to one call more
replies-more : (s : Sequential) (calls : List Call) (call : Call) → replies_of s (calls ++ call ∷ []) ≡ replies_of s calls ++ (response_to (state_after s calls) call).1 ∷ []
replies-more s [] call = refl
replies-more s (c ∷ cs) call = ap (λ (rs : List Reply). (response_to s c).1 ∷ rs) (replies-more (response_to s c).0 cs call)

state-more : (s : Sequential) (calls : List Call) (call : Call) → state_after s (calls ++ call ∷ []) ≡ (response_to (state_after s calls) call).0
state-more s [] call = refl
state-more s (c ∷ cs) call = state-more (response_to s c).0 cs call

-- the order at this index was carried out, and its answer kept
pub record CarriedOut (orders : List Order) (i : ℕ) (order : Order) (after next : WriterWork) : Type 0 where
  pub answer : Answer
  pub stands : StandsAt orders i order
  pub replied : answered answer ≡ (response_to (register_of after.writer) (ordered order)).1
  pub register : register_of next.writer ≡ (response_to (register_of after.writer) (ordered order)).0
  pub table : next.writer.table ≡ after.writer.table
  pub answers : next.answers.items ≡ after.answers.items ++ answer ∷ []
  pub cuts : next.cuts.items ≡ after.cuts.items ++ cuts_of_reply (answered answer)

-- one order more was carried out
pub written-more : (before : WriterState) (orders : List Order) (i : ℕ) (o : Order) (after next : WriterWork)
    → IsWritten before (take i orders) after → CarriedOut orders i o after next → IsWritten before (take (i + 1) orders) next
written-more before orders i o after next done one =
    let a = one.answer in
    let s = register_of before in
    let calls = map ordered (take i orders) in
    let call = ordered o in
    let more = first-more ordered orders i o one.stands in
    let now : answered a ≡ (response_to (state_after s calls) call).1 = one.replied ∙ ap (λ (t : Sequential). (response_to t call).1) done.register in
    let all : replies_of s (map ordered (take (i + 1) orders)) ≡ replies_of s calls ++ answered a ∷ [] =
    ap (replies_of s) more ∙ replies-more s calls call ∙ ap (λ (r : Reply). replies_of s calls ++ r ∷ []) (sym now) in
    let kept : map answered next.answers.items ≡ map answered after.answers.items ++ answered a ∷ [] = ap (map answered) one.answers ∙ map-append answered after.answers.items (a ∷ []) in
    record {
      answers = kept ∙ ap (λ (rs : List Reply). rs ++ answered a ∷ []) done.answers ∙ sym all;
      register = one.register ∙ ap (λ (t : Sequential). (response_to t call).0) done.register ∙ sym (state-more s calls call) ∙ ap (state_after s) (sym more);
      table = one.table ∙ done.table;
      cuts = one.cuts ∙ ap (λ (ns : List ℕ). ns ++ cuts_of_reply (answered a)) done.cuts ∙ sym (ap cuts_of all ∙ flat_map-append cuts_of_reply (replies_of s calls) (answered a ∷ []) ∙ ap (λ (ns : List ℕ). cuts_of (replies_of s calls) ++ ns) (append-nil (cuts_of_reply (answered a))));
    }

kept-by : (s : Sequential) (command : Command) (v : Result ⊤ Refusal) → (submit_response s command v).0.ledger.opening ≡ s.ledger.opening
kept-by s command (Ok u) = refl
kept-by s command (Err e) = refl

kept-one : (s : Sequential) (call : Call) → (response_to s call).0.ledger.opening ≡ s.ledger.opening
kept-one s (ordered (order.Submit command)) = kept-by s command (verdict_of s.ledger command)
kept-one s (ordered order.Publish) = refl
kept-one s read = refl

-- no call changes the opening
pub opening-kept : (s : Sequential) (calls : List Call) → (state_after s calls).ledger.opening ≡ s.ledger.opening
opening-kept s [] = refl
opening-kept s (call ∷ calls) = opening-kept (response_to s call).0 calls ∙ kept-one s call

pub last-more : (low : ℕ) (xs ys : List (List ℕ)) → last_front low (xs ++ ys) ≡ last_front (last_front low xs) ys
last-more low [] ys = refl
last-more low (x ∷ xs) ys = last-more (front_of x) xs ys

rising-more : (low : ℕ) (xs : List (List ℕ)) (w : List ℕ) → IsRising low xs → last_front low xs ≤ front_of w → IsRising low (xs ++ w ∷ [])
rising-more low [] w r above = (above, tt)
rising-more low (x ∷ xs) w r above = (r.0, rising-more (front_of x) xs w r.1 above)

-- one sheet more was read: it is of some legal list, and not older than the one before
pub record SheetRead (after next : ReaderWork) : Type 0 where
  pub table : next.analyst.reader.table ≡ after.analyst.reader.table
  pub number : number_of next.analyst.reader ≡ number_of after.analyst.reader
  pub steps : TookSteps reading_steps after.analyst.reader next.analyst.reader
  pub opening : next.analyst.reader.opening ≡ after.analyst.reader.opening
  pub grown : next.analyst.reader.readings ≡ after.analyst.reader.readings ++ next.analyst.sheet ∷ []
  pub legal : IsLegalSheet after.analyst.reader.opening next.analyst.sheet
  pub not_older : last_front_of after.analyst.reader ≤ front_of next.analyst.sheet
  pub sheets : next.sheets.items ≡ after.sheets.items ++ next.analyst.sheet ∷ []

-- the steps of the readings of some sheets, and of one sheet more
steps-more : (n : ℕ) (sheets more : List (List ℕ)) (words : List ℕ) → more ≡ sheets ++ words ∷ []
    → replicate (length sheets * reading_steps) (Reader n) ++ replicate reading_steps (Reader n) ≡ replicate (length more * reading_steps) (Reader n)
steps-more n sheets more words is =
    let long : length more ≡ length sheets + 1 = ap length is ∙ length-append sheets (words ∷ []) in
    replicate-append-replicate (length sheets * reading_steps) reading_steps (Reader n) ∙ ap (λ (k : ℕ). replicate k (Reader n)) (omega arith)

-- no reading was asked for yet
pub none-read : (work : ReaderWork) → CanAsk work → IsReadFrom work.analyst work
none-read work ready =
    let p = work.analyst.reader in
    record {
      table = refl;
      number = refl;
      steps = rw ready.no_sheets record { events = []; longer_by = sym (longer_none p.history); own_are = refl };
      opening = refl;
      grown = rw ready.no_sheets (sym (append-nil p.readings));
      legal = rw ready.no_sheets (All-nil (IsLegalSheet p.opening));
      rising = rw ready.no_sheets tt;
    }

-- one sheet more was read and kept
pub read-more : (before : AnalystState) (after next : ReaderWork) → IsReadFrom before after → SheetRead after next → IsReadFrom before next
read-more before after next done one =
    let old = after.analyst.reader in
    let words = next.analyst.sheet in
    let above : last_front 0 old.readings ≤ front_of words = one.not_older in
    let low : last_front (last_front 0 before.reader.readings) after.sheets.items ≡ last_front 0 old.readings =
    sym (last-more 0 before.reader.readings after.sheets.items) ∙ ap (last_front 0) (sym done.grown) in
    let n : ℕ = number_of before.reader in
    let own : Adds (is_readers n) (replicate reading_steps (Reader n)) old.history next.analyst.reader.history =
    subst (λ (m : ℕ). Adds (is_readers m) (replicate reading_steps (Reader m)) old.history next.analyst.reader.history) done.number one.steps.adds in
    record {
      table = one.table ∙ done.table;
      number = one.number ∙ done.number;
      steps = subst (λ (l : List Event). Adds (is_readers n) l before.reader.history next.analyst.reader.history) (steps-more n after.sheets.items next.sheets.items words one.sheets)
          (adds_then (is_readers n) before.reader.history old.history next.analyst.reader.history _ _ done.steps own);
      opening = one.opening ∙ done.opening;
      grown = one.grown ∙ ap (λ (l : List (List ℕ)). l ++ words ∷ []) done.grown ∙ append_assoc before.reader.readings after.sheets.items (words ∷ []) ∙ ap (λ (l : List (List ℕ)). before.reader.readings ++ l) (sym one.sheets);
      legal = rw one.sheets (All-append (IsLegalSheet before.reader.opening) after.sheets.items (words ∷ []) done.legal (All-cons (IsLegalSheet before.reader.opening) words [] (rw done.opening at one.legal) (All-nil (IsLegalSheet before.reader.opening))));
      rising = rw one.sheets (rising-more (last_front 0 before.reader.readings) after.sheets.items words done.rising (rw low above));
    }

omegas-more : (ms : List Majority) (sheets : List (List ℕ)) (m : Majority) (words : List ℕ) → length sheets ≡ length ms → omegas (ms ++ m ∷ []) (sheets ++ words ∷ []) ≡ omegas ms sheets ++ omega_at m words ∷ []
omegas-more [] [] m words e = refl
omegas-more [] (w ∷ ws) m words e = cc
omegas-more (k ∷ ms) [] m words e = cc
omegas-more (k ∷ ms) (w ∷ ws) m words e = ap (λ (l : List ℕ). omega_at k w ∷ l) (omegas-more ms ws m words (omega (arith, e)))

-- the record at this index was answered, and the sheet and the number kept
pub record Answered (asked : List Majority) (i : ℕ) (majority : Majority) (after next : ReaderWork) : Type 0 where
  pub words : List ℕ
  pub number : ℕ
  pub stands : StandsAt asked i majority
  pub counted : number ≡ omega_at majority words
  pub sheets : next.sheets.items ≡ after.sheets.items ++ words ∷ []
  pub winning : next.winning.items ≡ after.winning.items ++ number ∷ []

-- one record more was answered
pub answered-more : (asked : List Majority) (i : ℕ) (m : Majority) (after next : ReaderWork) → IsRead (take i asked) after → Answered asked i m after next → IsRead (take (i + 1) asked) next
answered-more asked i m after next done one =
    let words = one.words in
    let sheets = one.sheets in
    let at = one.stands in
    let more : take (i + 1) asked ≡ take i asked ++ m ∷ [] = take_more asked i m at.within ∙ ap (λ y. take i asked ++ (y ∷ [])) (sym at.here) in
    let old = done.count in
    record {
      count = rw (sheets, more) (omega (arith, old, length-append after.sheets.items (words ∷ []), length-append (take i asked) (m ∷ [])));
      winning = rw (sheets, more) (one.winning ∙ ap (λ (ns : List ℕ). ns ++ one.number ∷ []) done.winning ∙ ap (λ k. omegas (take i asked) after.sheets.items ++ k ∷ []) one.counted ∙ sym (omegas-more (take i asked) after.sheets.items m words old));
    }

-- an order that was not carried out, after those before it were
pub stopped-at : (s now : Sequential) (orders : List Order) (i : ℕ) (o : Order) (e returned : Stop) → StandsAt orders i o → now ≡ state_after s (map ordered (take i orders)) → returned ≡ e → StopsAt now o e → StopsWithin s orders returned
stopped-at s now orders i o e returned at is same stops =
    (i, o, slice_get-get_or orders i o at.within ∙ ap (λ (x : Order). Some x) (sym at.here), subst (λ (z : Sequential × Stop). StopsAt z.0 o z.1) (λ k. (is k, sym same k)) stops)

-- the errors that end the writer's work early: out of memory, or a closed gate
abbrev pub IsHeldUp : Stop → Type 0
IsHeldUp e = (e ≡ stop.OutOfMemory) ⊎ IsClosed e

-- a writer that was stopped was held up
stopped-held : (s : Sequential) (orders : List Order) (e : Stop) → StopsWithin s orders e → IsHeldUp e
stopped-held s orders e (place, order, here, inl lacks) = inl lacks.0
stopped-held s orders e (place, order, here, inr closed) = inr closed

-- what stopped the work of all: out of memory, or a closed gate
pub all-held : (s : Sequential) (orders : List Order) (e : Stop) → StopsAll s orders e → IsHeldUp e
all-held s orders e (inl memory) = inl memory
all-held s orders e (inr (ends, can, is)) = by-writer ends.writer can.writer is
  where
    by-second : (second : Option Stop) → IfSome second IsClosed → second ≡ Some e → IsHeldUp e
    by-second None closed same = cc same
    by-second (Some d) closed same = let e_is : d ≡ e = cc same in inr (subst IsClosed e_is closed)

    by-first : (first : Option Stop) → IfSome first IsClosed → option_or first ends.second ≡ Some e → IsHeldUp e
    by-first None closed same = by-second ends.second can.second same
    by-first (Some d) closed same = let e_is : d ≡ e = cc same in inr (subst IsClosed e_is closed)

    by-writer : (writer : Option Stop) → IfSome writer (StopsWithin s orders) → option_or writer (option_or ends.first ends.second) ≡ Some e → IsHeldUp e
    by-writer None stops same = by-first ends.first can.first same
    by-writer (Some d) stops same = let e_is : d ≡ e = cc same in subst IsHeldUp e_is (stopped-held s orders d stops)

writer-end : (work : WriterWork) (r : Result WriterWork Stop) → HasWritten work r → IfSome (result_err r) (StopsWithin (register_of work.writer) work.orders.items)
writer-end work (Ok done) h = tt
writer-end work (Err e) h = h

reader-end : (work : ReaderWork) (r : Result ReaderWork Stop) → HasAsked work r → IfSome (result_err r) IsClosed
reader-end work (Ok done) h = tt
reader-end work (Err e) h = h

-- the error of all, where all threads were started
pub all-stopped : (work : AllWork) (writer : Result WriterWork Stop) (first second : Result ReaderWork Stop) (r : Result AllWork Stop)
    → HasWritten work.writer writer → HasAsked work.first first → HasAsked work.second second
    → IfErr r (λ e. returned_stop (ends_of writer first second) ≡ Some e) → IfErr r (StopsAll (register_of work.writer.writer) work.writer.orders.items)
all-stopped work writer first second (Ok d) w a b is = tt
all-stopped work writer first second (Err e) w a b is =
    inr (ends_of writer first second, record { writer = writer-end work.writer writer w; first = reader-end work.first first a; second = reader-end work.second second b }, is)
