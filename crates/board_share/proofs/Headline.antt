-- The headline: what a history's calls were answered, and what the seats of a state know.
use Rattle.board_share.proofs.Names.{[], ap, append-nil, append_assoc, arith, Arrived, AtRest, auxiliary_start, Bool}
use Rattle.board_share.proofs.Names.{Busy, Command, cond, COPY_WORDS, eq-eqb, eqb, Err, Event, false, Filling, filter}
use Rattle.board_share.proofs.Names.{get_elem?, get_or, held_by, History, history_with, Idle, is_idle, is_readers}
use Rattle.board_share.proofs.Names.{is_writers, IsAccepted, IsLawfulBoard, IsReader, IsWriter, known_after, known_by}
use Rattle.board_share.proofs.Names.{KnowsAfter, Leaving, Ledger, length, List, machine_at_start, machine_of}
use Rattle.board_share.proofs.Names.{MachineState, map, Me, Moved, ne_eqb, None, Note, number_of, Ok, Opening, Option}
use Rattle.board_share.proofs.Names.{Phase, phase_note, Publish, Published, WriterState, writer_at, Read, Reader}
use Rattle.board_share.proofs.Names.{ReaderState, Reading, refl, Result, RuleHolds, same_Some, seat_view, SeatsReader}
use Rattle.board_share.proofs.Names.{SeatsWriter, Seeing, set, ShareStart, sheet, Skipped, slice_get, Some, some, Stage}
use Rattle.board_share.proofs.Names.{stage_action, stage_note, Submit, subst, suc, Swapping, sym, TableId, take}
use Rattle.board_share.proofs.Names.{transition, true, View, Writer, WriterView, Writing, zero, ℕ, ⊎_elim, ◌++◌, ◌<◌}
use Rattle.board_share.proofs.Names.{◌∙◌, ◌∷◌, ◌≡◌, ◌≢◌}
use Rattle.std.proofs.Common.{All, option_to_list}
use Rattle.std.specs.Prelude.{⊤}
use Rattle.std.proofs.lemmas.List.{map-append}
use Rattle.std.proofs.Math.Seq.{take-append_seam}
use Rattle.atomic_table.specs.Table as table
use Rattle.council_core.specs.declared.refusals.Refusal.{Refusal}
use Rattle.council_core.specs.Ledgers.{IsLedger, verdict_of}
use Rattle.council_core.specs.Sequential.{Sequential, Call, Reply, response_to, reading, replies_of, state_after, submit, publish, AreRecords, AreLegalRecords}
use Rattle.two_copy_steps.specs.declared.events.Note.TheVariants.{Accepted, Refused, Began}
use Rattle.two_copy_steps.specs.Actions.{cuts_past, first_false, phase_action, writing_with_quiescent}
use Rattle.two_copy_steps.specs.Auxiliary.{Auxiliary, auxiliary_step, auxiliary_steps, auxiliary_reader_step, IsLawfulMachine}
use Rattle.two_copy_steps.specs.Effects.{effect, effects, reader_effect, stage_effect, phase_effect, SequentialRun, sequential_start, sequential_step, sequential_steps, replied_after, replied_at, replied_to, OutputIsReply}
use Rattle.two_copy_steps.specs.Lawful.{IsPrefix}
use Rattle.two_copy_steps.specs.Records.{reported_of, sheets_reported}
use Rattle.two_copy_steps.specs.Stages.{about_to_leave}
use Rattle.two_copy_steps.specs.Transitions.{machine_and_note, published_by, is_pending, reader_transition, state_after_events, notes}
use Rattle.two_copy_steps.proofs.Face.{at_set, event_agrees, HasCuts, Held, one_run, run_cuts, run_reported, sequential_of, start_together, state_records, Together, together_on}
use Rattle.board_share.specs.Headline.{Made, Tells, CallsTell, ReadsFrom, WritesTo, IsAwaited, HeadlineLaw, CallsLaw, PlacesLaw, TellsLaw, answers_in, calls_from, calls_in, cuts_replied, fronts_after, maker, published_in, register_after, register_before, replies_from, replies_to}
use Rattle.board_share.specs.Histories.{reported_in}
use Rattle.board_share.specs.Rule.{IsAfter}
use Rattle.board_share.proofs.Histories.{auxiliary_of, viewed_back}
use Rattle.board_share.proofs.Parts.{only_here}
use Rattle.board_share.proofs.ReaderSteps.{with_opening_is}

-- the machine, its cuts and records, and the sequential register side by side, to the end of a list of events
together_end : (events : List Event) (t : SequentialRun) (m : MachineState) (aux : Auxiliary) → Together t m aux
    → Together (sequential_steps t m events) (state_after_events m events) (auxiliary_steps m aux events)
together_end [] t m aux h = h
together_end (event ∷ events) t m aux h = together_end events (sequential_step t m event) (transition m event).0 (auxiliary_step m aux event) (together_on t m aux h event)

-- the published commands are the first ones of the journal
shown : (m : MachineState) (aux : Auxiliary) → IsLawfulMachine IsAccepted m aux → take (length m.writer.published) m.ledger.journal ≡ m.writer.published
shown m aux l =
    let w = m.writer in
    let b = l.state.writer.begins in
    let e = l.extends in
    let whole : m.ledger.journal ≡ w.published ++ (b.0 ++ e.0) = e.1 ∙ (ap (λ (c : List Command). c ++ e.0) b.1 ∙ append_assoc w.published b.0 e.0) in
    ap (take (length w.published)) whole ∙ take-append_seam w.published (b.0 ++ e.0)

-- the replies to the calls of some events: those for which `own` holds
abbrev replies_own : (Event → Bool) → Sequential → MachineState → List Event → List Reply
replies_own own s m [] = []
replies_own own s m (event ∷ events) = cond (own event) (replies_of s (effect m event)) [] ++ replies_own own (state_after s (effect m event)) (transition m event).0 events

no_matter : (b : Bool) → cond {A = List Reply} b [] [] ≡ []
no_matter true = refl
no_matter false = refl

-- the calls of one event first
event_replies : (number who : ℕ) (calls : List Call) (s : Sequential) (rest : List Made)
    → replies_from number s (map (λ (call : Call). let x : Made = (who, call) in x) calls ++ rest) ≡ cond (eqb who number) (replies_of s calls) [] ++ replies_from number (state_after s calls) rest
event_replies number who [] s rest = ap (λ (rs : List Reply). rs ++ replies_from number s rest) (sym (no_matter (eqb who number)))
event_replies number who (call ∷ calls) s rest =
    let first : Reply = (response_to s call).1 in
    let next : Sequential = (response_to s call).0 in
    let more : List Reply = replies_of next calls in
    let last : List Reply = replies_from number (state_after next calls) rest in
    ap (λ (rs : List Reply). cond (eqb who number) (first ∷ []) [] ++ rs) (event_replies number who calls next rest)
    ∙ elim (eqb who number) as (λ b. cond b (first ∷ []) [] ++ (cond b more [] ++ last) ≡ cond b (first ∷ more) [] ++ last) [ true ↦ refl | false ↦ refl ]

-- the events that make the calls of a number
abbrev Alike : ℕ → (Event → Bool) → Type 0
Alike number own = (m : MachineState) (event : Event) (s : Sequential) → cond (eqb (maker event) number) (replies_of s (effect m event)) [] ≡ cond (own event) (replies_of s (effect m event)) []

alike_all : (number : ℕ) (own : Event → Bool) → Alike number own → (events : List Event) (s : Sequential) (m : MachineState) → replies_from number s (calls_from m events) ≡ replies_own own s m events
alike_all number own alike [] s m = refl
alike_all number own alike (event ∷ events) s m =
    event_replies number (maker event) (effect m event) s (calls_from (transition m event).0 events)
    ∙ (λ i. alike m event s i ++ alike_all number own alike events (state_after s (effect m event)) (transition m event).0 i)

by_writer : Alike 0 is_writers
by_writer m (Submit command) s = ap (λ (b : Bool). cond b (replies_of s (effect m (Submit command))) []) (eq-eqb 0 0 refl)
by_writer m Publish s = ap (λ (b : Bool). cond b (replies_of s (effect m Publish)) []) (eq-eqb 0 0 refl)
by_writer m Writer s = ap (λ (b : Bool). cond b (replies_of s (effect m Writer)) []) (eq-eqb 0 0 refl)
by_writer m (Reader zero) s = no_matter (eqb zero 0)
by_writer m (Reader (suc r)) s = ap (λ (b : Bool). cond b (replies_of s (effect m (Reader (suc r)))) []) (ne_eqb (suc r) 0 (λ e. omega arith))

by_reader : (r : ℕ) → Alike (suc r) (is_readers (suc r))
by_reader r m (Submit command) s = ap (λ (b : Bool). cond b (replies_of s (effect m (Submit command))) []) (ne_eqb 0 (suc r) (λ e. omega arith))
by_reader r m Publish s = ap (λ (b : Bool). cond b (replies_of s (effect m Publish)) []) (ne_eqb 0 (suc r) (λ e. omega arith))
by_reader r m Writer s = ap (λ (b : Bool). cond b (replies_of s (effect m Writer)) []) (ne_eqb 0 (suc r) (λ e. omega arith))
by_reader r m (Reader number) s = refl

-- the calls without their makers
calls_alone : (who : ℕ) (calls : List Call) → map (λ (x : Made). x.1) (map (λ (call : Call). let x : Made = (who, call) in x) calls) ≡ calls
calls_alone who [] = refl
calls_alone who (call ∷ calls) = ap (λ (cs : List Call). call ∷ cs) (calls_alone who calls)

calls_are : (events : List Event) (m : MachineState) → map (λ (x : Made). x.1) (calls_from m events) ≡ effects m events
calls_are [] m = refl
calls_are (event ∷ events) m =
    map-append (λ (x : Made). x.1) (map (λ (call : Call). let x : Made = (maker event, call) in x) (effect m event)) (calls_from (transition m event).0 events)
    ∙ (λ i. calls_alone (maker event) (effect m event) i ++ calls_are events (transition m event).0 i)

-- a longer list of events
calls_append : (events more : List Event) (m : MachineState) → calls_from m (events ++ more) ≡ calls_from m events ++ calls_from (state_after_events m events) more
calls_append [] more m = refl
calls_append (event ∷ events) more m =
    let first : List Made = map (λ (call : Call). let x : Made = (maker event, call) in x) (effect m event) in
    ap (λ (calls : List Made). first ++ calls) (calls_append events more (transition m event).0)
    ∙ sym (append_assoc first (calls_from (transition m event).0 events) (calls_from (state_after_events (transition m event).0 events) more))

pub places : PlacesLaw
places h events = calls_append h.events events (machine_at_start h.origin.register h.origin.readers)

-- events of which none is an actor's own make no calls of it
none_own : (own : Event → Bool) (rest : List Event) (s : Sequential) (m : MachineState) → filter own rest ≡ [] → replies_own own s m rest ≡ []
none_own own [] s m e = refl
none_own own (event ∷ rest) s m e =
    let replies : List Reply = replies_of s (effect m event) in
    let later : List Reply = replies_own own (state_after s (effect m event)) (transition m event).0 rest in
    (elim (own event) as (λ b. cond b (event ∷ filter own rest) (filter own rest) ≡ [] → cond b replies [] ++ later ≡ [])
    [ true ↦ λ f. absurd (no_event event (filter own rest) f) | false ↦ λ f. none_own own rest (state_after s (effect m event)) (transition m event).0 f ]) e
  where
    no_event : (x : Event) (xs : List Event) → x ∷ xs ≡ [] → ⊥
    no_event x xs f = cc

own_first : (own : Event → Bool) (events rest : List Event) (s : Sequential) (m : MachineState) → filter own rest ≡ [] → replies_own own s m (events ++ rest) ≡ replies_own own s m events
own_first own [] rest s m e = none_own own rest s m e
own_first own (event ∷ events) rest s m e =
    ap (λ (rs : List Reply). cond (own event) (replies_of s (effect m event)) [] ++ rs) (own_first own events rest (state_after s (effect m event)) (transition m event).0 e)

-- all calls of an actor are in a history after which it took no step
calls_known : (number : ℕ) (own : Event → Bool) → Alike number own → (known h : History) (rest : List Event) → h ≡ history_with known rest → filter own rest ≡ []
    → replies_to number h.origin (calls_in known) ≡ replies_to number h.origin (calls_in h)
calls_known number own alike known h rest e none =
    let m : MachineState = machine_at_start known.origin.register known.origin.readers in
    let s : Sequential = register_before known.origin in
    subst (λ (x : History). replies_to number x.origin (calls_in known) ≡ replies_to number x.origin (calls_in x)) (sym e)
    (alike_all number own alike known.events s m ∙ (sym (own_first own known.events rest s m none) ∙ sym (alike_all number own alike (known.events ++ rest) s m)))

-- The cuts.

-- an event with this output leads from these published commands and cuts to those
abbrev Cut : Writing → List ℕ → Note → Writing → List ℕ → Type 0
Cut w cuts note w' cuts' = (rest : List Note) → cuts' ++ fronts_after (length w'.published) (answers_in rest) ≡ cuts ++ fronts_after (length w.published) (answers_in (note ∷ rest))

cut_written : (opening : Opening) (w : Writing) (p : Phase) (found : ℕ) (cuts : List ℕ) → w.phase ≡ p → HasCuts w cuts
    → Cut w cuts (phase_note w p found) ((phase_action (sheet opening) w p).after found) (cuts_past p w.staged cuts)
cut_written opening w Idle found cuts e h rest = refl
cut_written opening w Seeing found cuts e h rest =
    elim (eqb found 0) as (λ b. cuts ++ fronts_after (length (cond b (writing_with_quiescent w (set w.seen_out (first_false w.seen_out) true)) (record w { phase = Idle })).published) (answers_in rest)
    ≡ cuts ++ fronts_after (length w.published) (answers_in (cond b Moved (Busy (suc (first_false w.seen_out))) ∷ rest))) [ true ↦ refl | false ↦ refl ]
cut_written opening w (Filling k) found cuts e h rest = refl
cut_written opening w Swapping found cuts e h rest =
    let n : ℕ = length w.staged in
    let more : length w.published < n = h.longer (ap is_idle e) in
    append_assoc cuts (n ∷ []) (fronts_after n (answers_in rest))
    ∙ ap (λ (b : Bool). cuts ++ cond b (fronts_after (length w.published) (answers_in rest)) (n ∷ fronts_after n (answers_in rest))) (sym (ne_eqb n (length w.published) (λ same. omega arith)))

cut_begun : (m : MachineState) (cuts : List ℕ) (b : Bool) → Cut m.writer cuts (published_by m b).1 (published_by m b).0.writer cuts
cut_begun m cuts true rest = refl
cut_begun m cuts false rest =
    let n : ℕ = length m.writer.published in
    ap (λ (b : Bool). cuts ++ cond b (fronts_after n (answers_in rest)) (n ∷ fronts_after n (answers_in rest))) (sym (eq-eqb n n refl))

cut_submitted : (m : MachineState) (command : Command) (v : Result ⊤ Refusal) (cuts : List ℕ) → Cut m.writer cuts (machine_and_note m command v).1 (machine_and_note m command v).0.writer cuts
cut_submitted m command (Ok u) cuts rest = refl
cut_submitted m command (Err refusal) cuts rest = refl

cut_read : (m : MachineState) (aux : Auxiliary) (r : ℕ) (o : Option Stage) → Cut m.writer aux.cuts (reader_transition m r o).1 (reader_transition m r o).0.writer (auxiliary_reader_step m aux r o).cuts
cut_read m aux r None rest = refl
cut_read m aux r (Some AtRest) rest = refl
cut_read m aux r (Some Arrived) rest = refl
cut_read m aux r (Some (Reading side words)) rest = refl
cut_read m aux r (Some (Leaving side words)) rest = refl

cut_event : (m : MachineState) (aux : Auxiliary) → HasCuts m.writer aux.cuts → (event : Event) → Cut m.writer aux.cuts (transition m event).1 (transition m event).0.writer (auxiliary_step m aux event).cuts
cut_event m aux h (Submit command) =
    elim (is_idle m.writer.phase) as (λ b. let t = cond b (machine_and_note m command (verdict_of m.ledger command)) (m, Skipped) in Cut m.writer aux.cuts t.1 t.0.writer aux.cuts)
    [ true ↦ cut_submitted m command (verdict_of m.ledger command) aux.cuts | false ↦ λ rest. refl ]
cut_event m aux h Publish =
    elim (is_idle m.writer.phase) as (λ b. let t = cond b (published_by m (is_pending m)) (m, Skipped) in Cut m.writer aux.cuts t.1 t.0.writer aux.cuts)
    [ true ↦ cut_begun m aux.cuts (is_pending m) | false ↦ λ rest. refl ]
cut_event m aux h Writer =
    cut_written m.ledger.opening m.writer m.writer.phase (get_or m.words (phase_action (sheet m.ledger.opening) m.writer m.writer.phase).word 0) aux.cuts refl h
cut_event m aux h (Reader zero) = λ rest. refl
cut_event m aux h (Reader (suc r)) = cut_read m aux r (slice_get m.readers r)

cuts_all : (events : List Event) (m : MachineState) (aux : Auxiliary) → ((k : ℕ) → HasCuts (state_after_events m (take k events)).writer (auxiliary_steps m aux (take k events)).cuts)
    → (auxiliary_steps m aux events).cuts ++ [] ≡ aux.cuts ++ fronts_after (length m.writer.published) (answers_in (notes m events))
cuts_all [] m aux h = refl
cuts_all (event ∷ events) m aux h =
    cuts_all events (transition m event).0 (auxiliary_step m aux event) (λ k. h (suc k))
    ∙ cut_event m aux (h 0) event (notes (transition m event).0 events)

-- The writer's answers.

answers_pushed : (note : Note) (rest : List Note) → answers_in (note ∷ rest) ≡ answers_in (note ∷ []) ++ answers_in rest
answers_pushed note rest =
    elim note as (λ n. answers_in (n ∷ rest) ≡ answers_in (n ∷ []) ++ answers_in rest)
    [ Accepted count ↦ refl | Refused why ↦ refl | Began ↦ refl | Moved ↦ refl | Published front ↦ refl | Busy number ↦ refl | Read number words ↦ refl | Skipped ↦ refl ]

answer_submitted : (m : MachineState) (command : Command) (v : Result ⊤ Refusal) (replies : List Reply) (replied : ℕ → Option Reply)
    → OutputIsReply replies replied (machine_and_note m command v).1 → replies ≡ answers_in ((machine_and_note m command v).1 ∷ [])
answer_submitted m command (Ok u) replies replied h = h
answer_submitted m command (Err refusal) replies replied h = h

answer_written : (s : Sequential) (replied : ℕ → Option Reply) (w : Writing) (p : Phase) (found : ℕ) → OutputIsReply (replies_of s (phase_effect p)) replied (phase_note w p found)
    → replies_of s (phase_effect p) ≡ answers_in (phase_note w p found ∷ [])
answer_written s replied w Idle found h = refl
answer_written s replied w Seeing found h =
    elim (eqb found 0) as (λ b. [] ≡ answers_in (cond b Moved (Busy (suc (first_false w.seen_out))) ∷ [])) [ true ↦ refl | false ↦ refl ]
answer_written s replied w (Filling k) found h = refl
answer_written s replied w Swapping found h = h

answer_read : (m : MachineState) (r : ℕ) (o : Option Stage) → [] ≡ answers_in ((reader_transition m r o).1 ∷ [])
answer_read m r None = refl
answer_read m r (Some AtRest) = refl
answer_read m r (Some Arrived) = refl
answer_read m r (Some (Reading side words)) = refl
answer_read m r (Some (Leaving side words)) = refl

answer_event : (t : SequentialRun) (m : MachineState) (event : Event) → OutputIsReply (replies_of t.register (effect m event)) t.replied (transition m event).1
    → cond (is_writers event) (replies_of t.register (effect m event)) [] ≡ answers_in ((transition m event).1 ∷ [])
answer_event t m (Submit command) h =
    (elim (is_idle m.writer.phase) as (λ b. let n = (cond b (machine_and_note m command (verdict_of m.ledger command)) (m, Skipped)).1 in
    let rs = replies_of t.register (cond b (submit command ∷ []) []) in OutputIsReply rs t.replied n → rs ≡ answers_in (n ∷ []))
    [ true ↦ answer_submitted m command (verdict_of m.ledger command) (replies_of t.register (submit command ∷ [])) t.replied | false ↦ λ g. g ]) h
answer_event t m Publish h =
    (elim (is_idle m.writer.phase) as (λ b. let n = (cond b (published_by m (is_pending m)) (m, Skipped)).1 in
    let rs = replies_of t.register (cond b (cond (is_pending m) [] (publish ∷ [])) []) in OutputIsReply rs t.replied n → rs ≡ answers_in (n ∷ [])) [
      | true ↦ elim (is_pending m) as (λ c. let n = (published_by m c).1 in let rs = replies_of t.register (cond c [] (publish ∷ [])) in OutputIsReply rs t.replied n → rs ≡ answers_in (n ∷ [])) [ true ↦ λ g. g | false ↦ λ g. g ]
      | false ↦ λ g. g
    ]) h
answer_event t m Writer h = answer_written t.register t.replied m.writer m.writer.phase _ h
answer_event t m (Reader zero) h = refl
answer_event t m (Reader (suc r)) h = answer_read m r (slice_get m.readers r)

answers_all : (events : List Event) (t : SequentialRun) (m : MachineState) (aux : Auxiliary) → Together t m aux → replies_own is_writers t.register m events ≡ answers_in (notes m events)
answers_all [] t m aux h = refl
answers_all (event ∷ events) t m aux h =
    let first = answer_event t m event (event_agrees IsAccepted m aux h.lawful t h.agrees event).1.0 in
    let rest = answers_all events (sequential_step t m event) (transition m event).0 (auxiliary_step m aux event) (together_on t m aux h event) in
    (λ i. first i ++ rest i) ∙ sym (answers_pushed (transition m event).1 (notes (transition m event).0 events))

-- The readings.

-- what a reader was replied and has not put out
abbrev pending : Option Reply → Stage → List Reply
pending given AtRest = []
pending given Arrived = []
pending given (Reading side words) = option_to_list given
pending given (Leaving side words) = option_to_list given

-- what each reader was replied is what it has put out, and what is pending
abbrev Owed : MachineState → (ℕ → Option Reply) → (ℕ → List Reply) → (ℕ → List Reply) → Type 0
Owed m replied told out = (r : ℕ) (stage : Stage) → slice_get m.readers r ≡ Some stage → told r ≡ out r ++ pending (replied (suc r)) stage

owed_still : (m : MachineState) (replied : ℕ → Option Reply) (told out : ℕ → List Reply) → Owed m replied told out → Owed m replied (λ r. told r ++ []) (λ r. out r ++ [])
owed_still m replied told out h r stage at =
    append-nil (told r) ∙ (h r stage at ∙ ap (λ (rs : List Reply). rs ++ pending (replied (suc r)) stage) (sym (append-nil (out r))))

owed_more : (told out before added put after : List Reply) → told ≡ out ++ before → before ++ added ≡ put ++ after → told ++ added ≡ (out ++ put) ++ after
owed_more told out before added put after e f =
    ap (λ (rs : List Reply). rs ++ added) e ∙ (append_assoc out before added ∙ (ap (λ (rs : List Reply). out ++ rs) f ∙ sym (append_assoc out put after)))

-- the next step of a reader
owed_own : (t : SequentialRun) (words : List ℕ) (q found : ℕ) (stage : Stage) → Held words (t.replied (suc q)) stage
    → pending (t.replied (suc q)) stage ++ replies_of t.register (stage_effect stage)
    ≡ map reading (reported_of (suc q) (stage_note (suc q) stage)) ++ pending (replied_at t (suc q) stage (suc q)) ((stage_action q stage).after found)
owed_own t words q found AtRest h = refl
owed_own t words q found Arrived h =
    ap (λ (b : Bool). option_to_list (cond b (slice_get (replies_of t.register (stage_effect Arrived)) 0) (t.replied (suc q)))) (sym (eq-eqb (suc q) (suc q) refl))
owed_own t words q found (Reading side loaded) h =
    append-nil (option_to_list (t.replied (suc q)))
    ∙ elim (eqb (length (loaded ++ found ∷ [])) COPY_WORDS) as (λ b. option_to_list (t.replied (suc q)) ≡ pending (t.replied (suc q)) (cond b (Leaving side (loaded ++ found ∷ [])) (Reading side (loaded ++ found ∷ [])))) [ true ↦ refl | false ↦ refl ]
owed_own t words q found (Leaving side loaded) h =
    append-nil (option_to_list (t.replied (suc q)))
    ∙ (ap option_to_list h ∙ (ap (λ (b : Bool). map reading (cond b (loaded ∷ []) [])) (sym (eq-eqb (suc q) (suc q) refl)) ∙ sym (append-nil (map reading (cond (eqb (suc q) (suc q)) (loaded ∷ []) [])))))

-- it is nothing to the others
put_else : (r q : ℕ) (stage : Stage) → r ≢ q → reported_of (suc r) (stage_note (suc q) stage) ≡ []
put_else r q AtRest ne = refl
put_else r q Arrived ne = refl
put_else r q (Reading side words) ne = refl
put_else r q (Leaving side words) ne = ap (λ (b : Bool). cond b (words ∷ []) []) (ne_eqb (suc q) (suc r) (λ e. ne (omega arith)))

given_else : (t : SequentialRun) (r q : ℕ) (stage : Stage) → r ≢ q → replied_at t (suc q) stage (suc r) ≡ t.replied (suc r)
given_else t r q AtRest ne = ap (λ (b : Bool). cond b None (t.replied (suc r))) (ne_eqb (suc r) (suc q) (λ e. ne (omega arith)))
given_else t r q Arrived ne = ap (λ (b : Bool). cond b (slice_get (replies_of t.register (stage_effect Arrived)) 0) (t.replied (suc r))) (ne_eqb (suc r) (suc q) (λ e. ne (omega arith)))
given_else t r q (Reading side words) ne = refl
given_else t r q (Leaving side words) ne = refl

-- after an event
abbrev OwedAfter : SequentialRun → (ℕ → List Reply) → (ℕ → List Reply) → Event → List Reply → Note → MachineState → (ℕ → Option Reply) → Type 0
OwedAfter t told out event replies note m' replied' =
    Owed m' replied' (λ r. told r ++ cond (is_readers (suc r) event) replies []) (λ r. out r ++ map reading (reported_of (suc r) note))

owed_submitted : (t : SequentialRun) (m : MachineState) (told out : ℕ → List Reply) → Owed m t.replied told out → (command : Command) (replies : List Reply) (v : Result ⊤ Refusal)
    → OwedAfter t told out (Submit command) replies (machine_and_note m command v).1 (machine_and_note m command v).0 t.replied
owed_submitted t m told out h command replies (Ok u) = owed_still m t.replied told out h
owed_submitted t m told out h command replies (Err refusal) = owed_still m t.replied told out h

owed_begun : (t : SequentialRun) (m : MachineState) (told out : ℕ → List Reply) → Owed m t.replied told out → (replies : List Reply) (b : Bool)
    → OwedAfter t told out Publish replies (published_by m b).1 (published_by m b).0 t.replied
owed_begun t m told out h replies true = owed_still m t.replied told out h
owed_begun t m told out h replies false = owed_still m t.replied told out h

put_written : (w : Writing) (number found : ℕ) (p : Phase) → reported_of number (phase_note w p found) ≡ []
put_written w number found Idle = refl
put_written w number found Seeing = elim (eqb found 0) as (λ b. reported_of number (cond b Moved (Busy (suc (first_false w.seen_out)))) ≡ []) [ true ↦ refl | false ↦ refl ]
put_written w number found (Filling k) = refl
put_written w number found Swapping = refl

owed_read : (t : SequentialRun) (m : MachineState) (told out : ℕ → List Reply) → Owed m t.replied told out
    → ((r : ℕ) (stage : Stage) → slice_get m.readers r ≡ Some stage → Held m.words (t.replied (suc r)) stage) → (q : ℕ) (o : Option Stage) → slice_get m.readers q ≡ o
    → OwedAfter t told out (Reader (suc q)) (replies_of t.register (reader_effect o)) (reader_transition m q o).1 (reader_transition m q o).0 (λ k. replied_to t (suc q) o k)
owed_read t m told out h held q None at r later there =
    ap (λ (rs : List Reply). told r ++ rs) (no_matter (eqb (suc q) (suc r))) ∙ owed_still m t.replied told out h r later there
owed_read t m told out h held q (Some stage) at r later there =
    let found : ℕ = get_or m.words (stage_action q stage).word 0 in
    let replies : List Reply = replies_of t.register (stage_effect stage) in
    ⊎_elim
    (λ (e : (r ≡ q) × ((stage_action q stage).after found ≡ later)).
    let own : told q ++ cond (eqb (suc q) (suc q)) replies [] ≡ (out q ++ map reading (reported_of (suc q) (stage_note (suc q) stage))) ++ pending (replied_at t (suc q) stage (suc q)) ((stage_action q stage).after found) =
    ap (λ (b : Bool). told q ++ cond b replies []) (eq-eqb (suc q) (suc q) refl)
    ∙ owed_more (told q) (out q) (pending (t.replied (suc q)) stage) replies (map reading (reported_of (suc q) (stage_note (suc q) stage))) (pending (replied_at t (suc q) stage (suc q)) ((stage_action q stage).after found))
    (h q stage at) (owed_own t m.words q found stage (held q stage at)) in
    subst (λ (z : ℕ × Stage). told z.0 ++ cond (eqb (suc q) (suc z.0)) replies [] ≡ (out z.0 ++ map reading (reported_of (suc z.0) (stage_note (suc q) stage))) ++ pending (replied_at t (suc q) stage (suc z.0)) z.1)
    (λ i. (sym e.0 i, e.1 i)) own)
    (λ (e : (r ≢ q) × (slice_get m.readers r ≡ Some later)).
    ap (λ (b : Bool). told r ++ cond b replies []) (ne_eqb (suc q) (suc r) (λ s. e.0 (omega arith)))
    ∙ (owed_still m t.replied told out h r later e.1
    ∙ (λ i. (out r ++ map reading (sym (put_else r q stage e.0) i)) ++ pending (sym (given_else t r q stage e.0) i) later)))
    (at_set m.readers q r ((stage_action q stage).after found) later there)

owed_event : (t : SequentialRun) (m : MachineState) (told out : ℕ → List Reply) → Owed m t.replied told out
    → ((r : ℕ) (stage : Stage) → slice_get m.readers r ≡ Some stage → Held m.words (t.replied (suc r)) stage) → (event : Event)
    → OwedAfter t told out event (replies_of t.register (effect m event)) (transition m event).1 (transition m event).0 (λ k. replied_after t m event k)
owed_event t m told out h held (Submit command) =
    elim (is_idle m.writer.phase) as (λ b. let x = cond b (machine_and_note m command (verdict_of m.ledger command)) (m, Skipped) in OwedAfter t told out (Submit command) (replies_of t.register (cond b (submit command ∷ []) [])) x.1 x.0 t.replied)
    [ true ↦ owed_submitted t m told out h command (replies_of t.register (submit command ∷ [])) (verdict_of m.ledger command) | false ↦ owed_still m t.replied told out h ]
owed_event t m told out h held Publish =
    elim (is_idle m.writer.phase) as (λ b. let x = cond b (published_by m (is_pending m)) (m, Skipped) in OwedAfter t told out Publish (replies_of t.register (cond b (cond (is_pending m) [] (publish ∷ [])) [])) x.1 x.0 t.replied)
    [ true ↦ owed_begun t m told out h (replies_of t.register (cond (is_pending m) [] (publish ∷ []))) (is_pending m) | false ↦ owed_still m t.replied told out h ]
owed_event t m told out h held Writer = λ r stage at.
    owed_still m t.replied told out h r stage at ∙ ap (λ (rs : List (List ℕ)). (out r ++ map reading rs) ++ pending (t.replied (suc r)) stage) (sym (put_written m.writer (suc r) _ m.writer.phase))
owed_event t m told out h held (Reader zero) = λ r stage at. ap (λ (rs : List Reply). told r ++ rs) (no_matter (eqb zero (suc r))) ∙ owed_still m t.replied told out h r stage at
owed_event t m told out h held (Reader (suc q)) = owed_read t m told out h held q (slice_get m.readers q) refl

owed_all : (events : List Event) (t : SequentialRun) (m : MachineState) (aux : Auxiliary) → Together t m aux → (told out : ℕ → List Reply) → Owed m t.replied told out
    → Owed (state_after_events m events) (sequential_steps t m events).replied (λ r. told r ++ replies_own (is_readers (suc r)) t.register m events) (λ r. out r ++ map reading (sheets_reported (suc r) (notes m events)))
owed_all [] t m aux k told out h = owed_still m t.replied told out h
owed_all (event ∷ events) t m aux k told out h = λ r stage at.
    let note : Note = (transition m event).1 in
    let own : List Reply = cond (is_readers (suc r) event) (replies_of t.register (effect m event)) [] in
    let rest : List Reply = replies_own (is_readers (suc r)) (state_after t.register (effect m event)) (transition m event).0 events in
    let sheets : List (List ℕ) = sheets_reported (suc r) (notes (transition m event).0 events) in
    let given : List Reply = pending ((sequential_steps t m (event ∷ events)).replied (suc r)) stage in
    sym (append_assoc (told r) own rest)
    ∙ (owed_all events (sequential_step t m event) (transition m event).0 (auxiliary_step m aux event) (together_on t m aux k event)
    (λ q. told q ++ cond (is_readers (suc q) event) (replies_of t.register (effect m event)) []) (λ q. out q ++ map reading (reported_of (suc q) note))
    (owed_event t m told out h k.agrees.held event) r stage at
    ∙ (ap (λ (rs : List Reply). rs ++ given) (append_assoc (out r) (map reading (reported_of (suc r) note)) (map reading sheets))
    ∙ ap (λ (rs : List Reply). (out r ++ rs) ++ given) (sym (map-append reading (reported_of (suc r) note) sheets))))

-- nothing is pending at the start
none_pending : (stage : Stage) → [] ≡ pending None stage
none_pending AtRest = refl
none_pending Arrived = refl
none_pending (Reading side words) = refl
none_pending (Leaving side words) = refl

-- what a reader was replied, by its stage: what it has read, and the sheet that it is to read
pub record Replied (stage : Stage) (readings : List (List ℕ)) (replies : List Reply) : Type 0 where
  pub due : List (List ℕ)
  pub is_due : IsAwaited stage due
  pub same : replies ≡ map reading (readings ++ due)

no_more : (readings sheets : List (List ℕ)) (replies : List Reply) → readings ≡ sheets ++ [] → replies ≡ map reading sheets ++ [] → replies ≡ map reading (readings ++ [])
no_more readings sheets replies e f =
    f ∙ (append-nil (map reading sheets) ∙ ap (map reading) (sym (append-nil sheets) ∙ (sym e ∙ sym (append-nil readings))))

by_stage : (words : List ℕ) (given : Option Reply) (stage : Stage) (readings sheets : List (List ℕ)) (replies : List Reply) → Held words given stage
    → readings ≡ sheets ++ about_to_leave stage → replies ≡ map reading sheets ++ pending given stage → Replied stage readings replies
by_stage words given AtRest readings sheets replies h e f = record { due = []; is_due = refl; same = no_more readings sheets replies e f }
by_stage words given Arrived readings sheets replies h e f = record { due = []; is_due = refl; same = no_more readings sheets replies e f }
by_stage words given (Reading side loaded) readings sheets replies h e f =
    record {
      due = h.0 ∷ [];
      is_due = (h.0, refl);
      same = f ∙ (ap (λ (o : Option Reply). map reading sheets ++ option_to_list o) h.1 ∙ (sym (map-append reading sheets (h.0 ∷ [])) ∙ ap (λ (l : List (List ℕ)). map reading (l ++ h.0 ∷ [])) (sym (e ∙ append-nil sheets))));
    }
by_stage words given (Leaving side loaded) readings sheets replies h e f =
    record {
      due = [];
      is_due = refl;
      same = f ∙ (ap (λ (o : Option Reply). map reading sheets ++ option_to_list o) h ∙ (sym (map-append reading sheets (loaded ∷ [])) ∙ ap (map reading) (sym e ∙ sym (append-nil readings))));
    }

-- The seats.

seat_there : (h : History) (s : table.State Unit View) → IsAfter h s → (p : ReaderState) → SeatsReader s p
    → (p.opening ≡ h.origin.register.opening) × (slice_get (known_after h).readers p.index ≡ Some (known_by p))
seat_there h s after p seat =
    let e = with_opening_is h.origin.register.opening p.opening (slice_get (known_after h).readers p.index) (known_by p)
    ((after.readers p.index).same seat.0 (seat_view p) (p.opening, known_by p) seat.1 (only_here p.index (p.opening, known_by p))) in
    (sym e.0, e.1)

-- what a `Writer` and a `Reader` hold, by their invariants: where their seats are seats of a state, so are they
pub writer_in : (s : table.State Unit View) (id side : ℕ) (board seat : TableId) (me : Me Unit View) (ledger : Ledger) (out : List Bool) → IsWriter board seat me ledger side out → get_elem? s.views id ≡ some me.0
    → SeatsWriter s (writer_at board ledger me.0)
writer_in s id side board seat me ledger out h at = (id, me.0, at, record { writes = h.writes; staged = h.staged_begins; same = refl })

pub reader_in : (s : table.State Unit View) (id : ℕ) (board seat : TableId) (me : Me Unit View) (p : ReaderState) → IsReader board seat me p → get_elem? s.views id ≡ some me.0 → SeatsReader s p
reader_in s id board seat me p h at = (id, at ∙ ap (λ (z : Me Unit View). some z.0) h.alone)

-- All that a history tells.
module _ (h : History) (k : IsLedger h.origin.register) where
  abbrev m : MachineState
  m = machine_at_start h.origin.register h.origin.readers

  abbrev t : SequentialRun
  t = sequential_start h.origin.register

  abbrev aux : Auxiliary
  aux = auxiliary_start h.origin.register h.origin.readers

  begins : Together t m aux
  begins = start_together h.origin.register h.origin.readers k.legal.0

  ends : Together (sequential_steps t m h.events) (machine_of h) (auxiliary_of h)
  ends = together_end h.events t m aux begins

  register_is : register_after h.origin (calls_in h) ≡ sequential_of (machine_of h)
  register_is = ap (state_after (register_before h.origin)) (calls_are h.events m) ∙ ((one_run h.events t m).1 ∙ ends.agrees.register)

  published_is : published_in h.origin (calls_in h) ≡ (machine_of h).writer.published
  published_is = ap (λ (s : Sequential). take s.published s.ledger.journal) register_is ∙ shown (machine_of h) (auxiliary_of h) ends.lawful

  answers_are : answers_in (reported_in h) ≡ replies_to 0 h.origin (calls_in h)
  answers_are = sym (alike_all 0 is_writers by_writer h.events (register_before h.origin) m ∙ answers_all h.events t m aux begins)

  cuts_are : cuts_replied h.origin (calls_in h) ≡ (auxiliary_of h).cuts
  cuts_are =
      let first : ℕ = length h.origin.register.journal in
      ap (λ (rs : List Reply). first ∷ fronts_after first rs) (sym answers_are)
      ∙ (sym (cuts_all h.events m aux (λ i. run_cuts h.origin.register h.origin.readers (take i h.events))) ∙ append-nil (auxiliary_of h).cuts)

  owed : Owed (machine_of h) (sequential_steps t m h.events).replied (λ r. replies_own (is_readers (suc r)) (register_before h.origin) m h.events) (λ r. map reading (sheets_reported (suc r) (reported_in h)))
  owed = owed_all h.events t m aux begins (λ r. []) (λ r. []) (λ r stage at. none_pending stage)

  module _ (s : table.State Unit View) (after : IsAfter h s) where
    puts : (p : ReaderState) → SeatsReader s p → p.readings ≡ sheets_reported (number_of p) (reported_in h) ++ about_to_leave p.stage
    puts p seat =
        let found = viewed_back (machine_of h).readers (auxiliary_of h).records p.index (known_by p) (seat_there h s after p seat).1 in
        sym found.1 ∙ run_reported h.origin.register h.origin.readers h.events p.index p.stage found.0

    reads : (p : ReaderState) → SeatsReader s p → ReadsFrom h.origin (calls_in h) p
    reads p seat =
        let there = seat_there h s after p seat in
        let found = viewed_back (machine_of h).readers (auxiliary_of h).records p.index (known_by p) there.1 in
        let told : List Reply = replies_own (is_readers (number_of p)) (register_before h.origin) m h.events in
        let r = by_stage (machine_of h).words ((sequential_steps t m h.events).replied (number_of p)) p.stage p.readings (sheets_reported (number_of p) (reported_in h)) told
        (ends.agrees.held p.index p.stage found.0) (puts p seat) (owed p.index p.stage found.0) in
        record {
          opening = there.0;
          due = r.due;
          is_due = r.is_due;
          replies = alike_all (number_of p) (is_readers (number_of p)) (by_reader p.index) h.events (register_before h.origin) m ∙ r.same;
        }

    writes : KnowsAfter h (known_after h).writer → (b : WriterState) → SeatsWriter s b → WritesTo h.origin (calls_in h) b
    writes knows b seat =
        let v : View = seat.1 in
        let there : (h.origin.register.opening, (known_after h).writer) ≡ (b.ledger.opening, held_by v) =
        same_Some _ (b.ledger.opening, held_by v) (after.writer.same seat.0 v (b.ledger.opening, held_by v) seat.2 seat.3.writes) in
        let held : (known_after h).writer ≡ held_by v = ap (λ (z : Opening × WriterView). z.1) there in
        let journal : (register_after h.origin (calls_in h)).ledger.journal ≡ (held_by v).state.staged =
        ap (λ (x : Sequential). x.ledger.journal) register_is ∙ (ap (λ (x : Ledger). x.journal) knows.register ∙ ap (λ (x : WriterView). x.state.staged) held) in
        record {
          opening = ap (λ (z : Opening × WriterView). z.0) (sym there);
          accepted = subst (λ (commands : List Command). IsPrefix commands b.ledger.journal) (sym journal) seat.3.staged;
          published = ap (λ (x : WriterState). x.published) seat.3.same ∙ (ap (λ (x : WriterView). x.state.published) (sym held) ∙ sym published_is);
          cuts = ap (λ (x : WriterState). x.cuts) seat.3.same ∙ (ap (λ (x : WriterView). x.cuts) (sym held) ∙ sym cuts_are);
        }

    each_record : IsLawfulBoard h.origin.register.opening (known_after h) → (ps : List ReaderState) → All (SeatsReader s) ps
        → AreRecords h.origin.register.opening (machine_of h).writer.published (auxiliary_of h).cuts (map (λ (p : ReaderState). p.readings) ps)
    each_record l [] seats = tt
    each_record l (p ∷ ps) seats = (
      (l.each_reader p.index (known_by p) (seat_there h s after p (seats 0 p (omega arith))).1).record_legal,
      each_record l ps (λ i d less. seats (suc i) d (omega arith)),
    )

    pub tells : IsLawfulBoard h.origin.register.opening (known_after h) → KnowsAfter h (known_after h).writer → Tells h s
    tells l knows =
        record {
          order = after.prefixes;
          reads = λ p seat.
              let knows = after.prefixes seat.0 (seat_view p) seat.1 in
              calls_known (number_of p) (is_readers (number_of p)) (by_reader p.index) p.history h knows.rest knows.whole_is (knows.readers p.index (p.opening, known_by p) (only_here p.index (p.opening, known_by p)));
          orders = λ b seat.
              let knows = after.prefixes seat.0 seat.1 seat.2 in
              subst (λ (x : History). replies_to 0 h.origin (calls_in x) ≡ replies_to 0 h.origin (calls_in h)) (ap (λ (x : WriterState). x.history) (sym seat.3.same))
              (calls_known 0 is_writers by_writer seat.1.history h knows.rest knows.whole_is (knows.writer (b.ledger.opening, held_by seat.1) seat.3.writes));
          calls = record {
            writer = writes knows;
            readers = reads;
            records = λ ps seats.
                let legal = state_records h.origin.register.opening (known_after h) l in
                subst (λ (z : List Command × List ℕ). AreLegalRecords h.origin.register.opening z.0 z.1 (map (λ (p : ReaderState). p.readings) ps)) (λ i. (sym published_is i, sym cuts_are i))
                record { legal = legal.legal; in_order = legal.in_order; readings = each_record l ps seats };
          };
          answers = answers_are;
          sheets = puts;
        }

-- by the history by which the rule holds
tells_of : (origin : ShareStart) (s : table.State Unit View) → IsLedger origin.register → (k : RuleHolds origin s) → Tells k.history s
tells_of origin s ledger k =
    let b = sym k.same_origin in
    tells k.history (subst (λ (x : ShareStart). IsLedger x.register) b ledger) s k.after (subst (λ (x : ShareStart). IsLawfulBoard x.register.opening (known_after k.history)) b k.lawful) k.register

pub told : TellsLaw
told origin h s ledger by = subst (λ (x : History). Tells x s) by.1 (tells_of origin s ledger by.0)

pub headline : HeadlineLaw RuleHolds
headline origin s ledger k = (k.history, k.same_origin, tells_of origin s ledger k)

pub explained : CallsLaw RuleHolds
explained origin s ledger k =
    let h = headline origin s ledger k in
    (calls_in h.0, subst (λ (x : ShareStart). CallsTell x (calls_in h.0) s) h.1 h.2.calls)
