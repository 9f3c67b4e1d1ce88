-- The machine after a longer history.
use Rattle.board_share.proofs.Names.{[], ap, append-nil, append_assoc, arith, AtRest, auxiliary_start, Bool, Command}
use Rattle.board_share.proofs.Names.{cond, Err, Event, false, History, history_with, is_idle, IsAccepted, known_after}
use Rattle.board_share.proofs.Names.{last_or, last_reported, Ledger, length, length-replicate, length-set, List}
use Rattle.board_share.proofs.Names.{machine_at_start, machine_of, MachineState, map, ne_eqb, None, none-some, Ok}
use Rattle.board_share.proofs.Names.{Option, Publish, Reader, ReaderView, refl, Result, same_Some, Skipped, slice_get}
use Rattle.board_share.proofs.Names.{Some, Stage, stage_note, Submit, subst, suc, sym, transition, true, Writer, zero}
use Rattle.board_share.proofs.Names.{ℕ, ◌++◌, ◌<◌, ◌∙◌, ◌∷◌, ◌≡◌, ◌≤◌}
use Rattle.std.proofs.Common.{◌&&◌, is_ok, IsTrue, length-append}
use Rattle.std.specs.Prelude.{⊤}
use Rattle.std.specs.Result.{result_and}
use Rattle.std.proofs.lemmas.Bool.{lt-ltb}
use Rattle.council_core.specs.declared.refusals.Refusal.{Refusal}
use Rattle.council_core.specs.declared.refusals.Refusal.TheVariants.{JournalFull}
use Rattle.council_core.specs.Rolls.{Roll, opening_roll, fold_from, step, all_accepted}
use Rattle.council_core.specs.Rolls as rolls
use Rattle.council_core.specs.Ledgers.{roll_of, room_of, verdict_of, ledger_with}
use Rattle.two_copy_steps.specs.Actions.{writing_of_staged}
use Rattle.two_copy_steps.specs.Lawful.{read_by, written_by, begun_by}
use Rattle.two_copy_steps.specs.Transitions.{state_after_events, notes, machine_and_note, published_by, is_pending, reader_transition}
use Rattle.two_copy_steps.specs.Auxiliary.{Auxiliary, auxiliary_step, auxiliary_steps, record_at, reader_views, auxiliary_reader_step, state_of}
use Rattle.two_copy_steps.proofs.Face.{after_append, notes_append, reader_is, view_at}

-- the cuts and records after one list of events and then another
pub auxiliary_append : (events more : List Event) (m : MachineState) (p : Auxiliary) → auxiliary_steps m p (events ++ more) ≡ auxiliary_steps (state_after_events m events) (auxiliary_steps m p events) more
auxiliary_append [] more m p = refl
auxiliary_append (event ∷ events) more m p = auxiliary_append events more (transition m event).0 (auxiliary_step m p event)

-- there is a record for each reader
by_submit : (m : MachineState) (command : Command) (v : Result ⊤ Refusal) → (machine_and_note m command v).0.readers ≡ m.readers
by_submit m command (Ok u) = refl
by_submit m command (Err refusal) = refl

even_transition : (m : MachineState) (p : Auxiliary) → length p.records ≡ length m.readers → (event : Event) → length (auxiliary_step m p event).records ≡ length (transition m event).0.readers
even_transition m p e (Submit command) =
    elim (is_idle m.writer.phase) as (λ b. length p.records ≡ length (cond b (machine_and_note m command (verdict_of m.ledger command)) (m, Skipped)).0.readers)
    [ true ↦ e ∙ ap (length {A = Stage}) (sym (by_submit m command (verdict_of m.ledger command))) | false ↦ e ]
even_transition m p e Publish =
    elim (is_idle m.writer.phase) as (λ b. length p.records ≡ length (cond b (published_by m (is_pending m)) (m, Skipped)).0.readers) [
      | true ↦ elim (is_pending m) as (λ c. length p.records ≡ length (published_by m c).0.readers) [ true ↦ e | false ↦ e ]
      | false ↦ e
    ]
even_transition m p e Writer = e
even_transition m p e (Reader zero) = e
even_transition m p e (Reader (suc r)) = even_reader (slice_get m.readers r)
  where
    even_reader : (o : Option Stage) → length (auxiliary_reader_step m p r o).records ≡ length (reader_transition m r o).0.readers
    even_reader None = e
    even_reader (Some stage) = length-set p.records r _ ∙ (e ∙ sym (length-set m.readers r _))

even_after : (events : List Event) (m : MachineState) (p : Auxiliary) → length p.records ≡ length m.readers → length (auxiliary_steps m p events).records ≡ length (state_after_events m events).readers
even_after [] m p e = e
even_after (event ∷ events) m p e = even_after events (transition m event).0 (auxiliary_step m p event) (even_transition m p e event)

pub even_of : (h : History) → length (auxiliary_steps (machine_at_start h.origin.register h.origin.readers) (auxiliary_start h.origin.register h.origin.readers) h.events).records ≡ length (machine_of h).readers
even_of h =
    even_after h.events (machine_at_start h.origin.register h.origin.readers) (auxiliary_start h.origin.register h.origin.readers)
    (length-replicate h.origin.readers [] ∙ sym (length-replicate h.origin.readers AtRest))

abbrev pub auxiliary_of : History → Auxiliary
auxiliary_of h = auxiliary_steps (machine_at_start h.origin.register h.origin.readers) (auxiliary_start h.origin.register h.origin.readers) h.events

-- what is known after a longer history
pub machine_longer : (h : History) (events : List Event) → machine_of (history_with h events) ≡ state_after_events (machine_of h) events
machine_longer h events = after_append h.events events (machine_at_start h.origin.register h.origin.readers)

pub known_longer : (h : History) (events : List Event) → known_after (history_with h events) ≡ state_of (state_after_events (machine_of h) events) (auxiliary_steps (machine_of h) (auxiliary_of h) events)
known_longer h events =
    (λ i. state_of (machine_longer h events i) (auxiliary_append h.events events (machine_at_start h.origin.register h.origin.readers) (auxiliary_start h.origin.register h.origin.readers) i))

-- the last item of a list with one more
pub last_pushed : {A : Type 0} (o : Option A) (items : List A) (last : A) → last_or o (items ++ last ∷ []) ≡ Some last
last_pushed o [] last = refl
last_pushed o (x ∷ items) last = last_pushed (Some x) items last

pub reported_last : (h : History) (events : List Event) (event : Event) → last_reported (history_with h (events ++ event ∷ [])) ≡ Some (transition (state_after_events (machine_of h) events) event).1
reported_last h events event =
    let m = machine_at_start h.origin.register h.origin.readers in
    ap (λ (l : List Event). last_or None (notes m l)) (sym (append_assoc h.events events (event ∷ [])))
    ∙ (ap (last_or None) (notes_append (h.events ++ events) (event ∷ []) m)
    ∙ (last_pushed None (notes m (h.events ++ events)) (transition (state_after_events m (h.events ++ events)) event).1
    ∙ ap (λ (n : MachineState). Some (transition n event).1) (machine_longer h events)))

pub longer_none : (h : History) → history_with h [] ≡ h
longer_none h = ap (λ (l : List Event). let x : History = record h { events = l } in x) (append-nil h.events)

pub longer_twice : (h : History) (events more : List Event) → history_with (history_with h events) more ≡ history_with h (events ++ more)
longer_twice h events more = ap (λ (l : List Event). let x : History = record h { events = l } in x) (append_assoc h.events events more)

-- a reader in the state is one of the machine
pub viewed_back : (stages : List Stage) (records : List (List (List ℕ))) (r : ℕ) (v : ReaderView) → slice_get (reader_views stages records) r ≡ Some v
    → (slice_get stages r ≡ Some v.stage) × (record_at records r ≡ v.readings)
viewed_back [] records r v e = absurd (none-some v e)
viewed_back (x ∷ stages) [] zero v e = let s = same_Some _ v e in (ap (λ (w : ReaderView). Some w.stage) s, ap (λ (w : ReaderView). w.readings) s)
viewed_back (x ∷ stages) [] (suc r) v e = viewed_back stages [] r v e
viewed_back (x ∷ stages) (y ∷ records) zero v e = let s = same_Some _ v e in (ap (λ (w : ReaderView). Some w.stage) s, ap (λ (w : ReaderView). w.readings) s)
viewed_back (x ∷ stages) (y ∷ records) (suc r) v e = viewed_back stages records r v e

-- the next step of a reader
module _ (h : History) (r : ℕ) (v : ReaderView) (there : slice_get (known_after h).readers r ≡ Some v) where
  abbrev found_there : (slice_get (machine_of h).readers r ≡ Some v.stage) × (record_at (auxiliary_of h).records r ≡ v.readings)
  found_there = viewed_back (machine_of h).readers (auxiliary_of h).records r v there

  pub reader_known : known_after (history_with h (Reader (suc r) ∷ [])) ≡ read_by (known_after h) r v
  reader_known =
      known_longer h (Reader (suc r) ∷ [])
      ∙ (reader_is (machine_of h) (auxiliary_of h) (even_of h) r v.stage found_there.0
      ∙ ap (λ (readings : List (List ℕ)). read_by (known_after h) r (view_at v.stage readings)) found_there.1)

  pub reader_reported : last_reported (history_with h (Reader (suc r) ∷ [])) ≡ Some (stage_note (suc r) v.stage)
  reader_reported = reported_last h [] (Reader (suc r)) ∙ ap (λ (o : Option Stage). Some (reader_transition (machine_of h) r o).1) found_there.0

  pub reader_register : (machine_of (history_with h (Reader (suc r) ∷ []))).ledger ≡ (machine_of h).ledger
  reader_register =
      ap (λ (m : MachineState). m.ledger) (machine_longer h (Reader (suc r) ∷ []))
      ∙ ap (λ (o : Option Stage). (reader_transition (machine_of h) r o).0.ledger) found_there.0

-- the writer submits commands that the register accepts
and_left : (a b : Bool) → IsTrue (a && b) → IsTrue a
and_left true b h = refl
and_left false b h = cc

and_right : (a b : Bool) → IsTrue (a && b) → IsTrue b
and_right true b h = h
and_right false b h = cc

accepted_there : (r : Roll) (commands : List Command) (command : Command) (rest : List Command) → IsTrue (all_accepted r (commands ++ command ∷ rest)) → IsTrue (is_ok (step (fold_from r commands) command))
accepted_there r [] command rest h = and_left (is_ok (step r command)) _ h
accepted_there r (c ∷ cs) command rest h = accepted_there (rolls.next_roll r c) cs command rest (and_right (is_ok (step r c)) _ h)

verdict_is : (v : Result Roll Refusal) (room : Result ⊤ Refusal) → IsTrue (is_ok v) → result_and v room ≡ room
verdict_is (Ok r) room h = refl
verdict_is (Err why) room h = cc

room_is : (ledger : Ledger) → length ledger.journal < ledger.limit → room_of ledger ≡ Ok tt
room_is ledger h = ap (λ (b : Bool). let x : Result ⊤ Refusal = cond b (Err JournalFull) (Ok tt) in x) (ne_eqb (length ledger.journal) ledger.limit (λ e. omega arith))

-- the register with more commands
abbrev pub with_journal : MachineState → List Command → MachineState
with_journal m journal = record m { ledger = record m.ledger { journal = journal } }

-- more commands fit into a register
pub record Fits (ledger : Ledger) (rest : List Command) : Type 0 where
  pub accepted : IsAccepted ledger.opening (ledger.journal ++ rest)
  pub within : length (ledger.journal ++ rest) ≤ ledger.limit

fits_on : (ledger : Ledger) (command : Command) (rest : List Command) → Fits ledger (command ∷ rest) → Fits (ledger_with ledger command) rest
fits_on ledger command rest h =
    let e = sym (append_assoc ledger.journal (command ∷ []) rest) in
    record { accepted = subst (IsAccepted ledger.opening) e h.accepted; within = subst (λ (l : List Command). length l ≤ ledger.limit) e h.within }

submit_transition : (m : MachineState) (command : Command) (rest : List Command) → is_idle m.writer.phase ≡ true → Fits m.ledger (command ∷ rest) → (transition m (Submit command)).0 ≡ record m { ledger = ledger_with m.ledger command }
submit_transition m command rest idle h =
    let within = h.within in
    let ok : verdict_of m.ledger command ≡ Ok tt = verdict_is (step (roll_of m.ledger) command) (room_of m.ledger) (accepted_there (opening_roll m.ledger.opening) m.ledger.journal command rest h.accepted)
    ∙ room_is m.ledger (omega (arith, length-append m.ledger.journal (command ∷ rest))) in
    ap (λ (b : Bool). (cond b (machine_and_note m command (verdict_of m.ledger command)) (m, Skipped)).0) idle ∙ ap (λ (v : Result ⊤ Refusal). (machine_and_note m command v).0) ok

pub submits_transition : (rest : List Command) (m : MachineState) (p : Auxiliary) → is_idle m.writer.phase ≡ true → Fits m.ledger rest
    → (state_after_events m (map Submit rest) ≡ with_journal m (m.ledger.journal ++ rest)) × (auxiliary_steps m p (map Submit rest) ≡ p)
submits_transition [] m p idle h = (ap (with_journal m) (sym (append-nil m.ledger.journal)), refl)
submits_transition (command ∷ rest) m p idle h =
    let n : MachineState = record m { ledger = ledger_with m.ledger command } in
    let e : (transition m (Submit command)).0 ≡ n = submit_transition m command rest idle h in
    let more = submits_transition rest n p idle (fits_on m.ledger command rest h) in
    (ap (λ (k : MachineState). state_after_events k (map Submit rest)) e ∙ (more.0 ∙ ap (with_journal m) (append_assoc m.ledger.journal (command ∷ []) rest)), ap (λ (k : MachineState). auxiliary_steps k p (map Submit rest)) e ∙ more.1)

-- the writer's next step
pub writer_known : (h : History) → known_after (history_with h (Writer ∷ [])) ≡ written_by (machine_of h).ledger.opening (known_after h)
writer_known h = known_longer h (Writer ∷ [])

pub writer_register : (h : History) → (machine_of (history_with h (Writer ∷ []))).ledger ≡ (machine_of h).ledger
writer_register h = ap (λ (m : MachineState). m.ledger) (machine_longer h (Writer ∷ []))

-- a publication begins over a journal that extends what the register had
module _ (h : History) (rest : List Command) (idle : is_idle (machine_of h).writer.phase ≡ true) (fits : Fits (machine_of h).ledger rest)
    (more : length (machine_of h).writer.published < length ((machine_of h).ledger.journal ++ rest)) where
  abbrev m : MachineState
  m = machine_of h

  abbrev journal : List Command
  journal = m.ledger.journal ++ rest

  -- the machine with all commands handed over
  abbrev handed : MachineState
  handed = with_journal m journal

  begun_transition : (transition handed Publish).0 ≡ record handed { writer = writing_of_staged journal m.writer }
  begun_transition =
      ap (λ (b : Bool). (cond b (published_by handed (is_pending handed)) (handed, Skipped)).0) idle
      ∙ ap (λ (b : Bool). (published_by handed b).0) (lt-ltb (length m.writer.published) (length journal) more)

  begin_after : state_after_events m (map Submit rest ++ Publish ∷ []) ≡ record handed { writer = writing_of_staged journal m.writer }
  begin_after = after_append (map Submit rest) (Publish ∷ []) m ∙ (ap (λ (n : MachineState). (transition n Publish).0) (submits_transition rest m (auxiliary_of h) idle fits).0 ∙ begun_transition)

  begin_auxiliary : auxiliary_steps m (auxiliary_of h) (map Submit rest ++ Publish ∷ []) ≡ auxiliary_of h
  begin_auxiliary = auxiliary_append (map Submit rest) (Publish ∷ []) m (auxiliary_of h) ∙ (submits_transition rest m (auxiliary_of h) idle fits).1

  pub begin_known : known_after (history_with h (map Submit rest ++ Publish ∷ [])) ≡ begun_by (known_after h) journal
  begin_known = known_longer h (map Submit rest ++ Publish ∷ []) ∙ (λ i. state_of (begin_after i) (begin_auxiliary i))

  pub begin_register : (machine_of (history_with h (map Submit rest ++ Publish ∷ []))).ledger ≡ record m.ledger { journal = journal }
  begin_register = ap (λ (n : MachineState). n.ledger) (machine_longer h (map Submit rest ++ Publish ∷ []) ∙ begin_after)
