-- What the machine keeps, step by step.
use Rattle.two_copy_steps.proofs.Names.{[], abandoned_writing, all_true, ap, arith, Arrived, AtRest, Auxiliary}
use Rattle.two_copy_steps.proofs.Names.{auxiliary_start, auxiliary_step, Began, Bool, Busy, Command, cond, copy_word}
use Rattle.two_copy_steps.proofs.Names.{COPY_WORDS, eq-eqb, eqb, Err, Event, false, Filling, Fills, first_false}
use Rattle.two_copy_steps.proofs.Names.{front_of, get_or, Idle, is_idle, is_pending, IsLawfulMachine, IsLedger}
use Rattle.two_copy_steps.proofs.Names.{IsMachine, IsPublishable, IsReadable, Leaving, Ledger, ledger_with, length}
use Rattle.two_copy_steps.proofs.Names.{length-append, length-take, List, machine_and_note, machine_at_start}
use Rattle.two_copy_steps.proofs.Names.{MachineState, Moved, ne_eqb, Note, Ok, Option, Phase, phase_action, phase_note}
use Rattle.two_copy_steps.proofs.Names.{pin, Publish, Published, published_by, Reader, reader_transition, Reading}
use Rattle.two_copy_steps.proofs.Names.{record_at, refl, Refusal, replicate, Result, Seeing, seen_as, seen_writing, set}
use Rattle.two_copy_steps.proofs.Names.{set-get_or, sheet, Skipped, slice_get, Some, Stage, stage_action, stage_note}
use Rattle.two_copy_steps.proofs.Names.{Stands, state_of, Submit, subst, suc, Swapping, sym, take, take-append-le}
use Rattle.two_copy_steps.proofs.Names.{take-length, transition, true, verdict_of, Writer, zero, ℕ, ⊎_elim, ⊤, ◌++◌}
use Rattle.two_copy_steps.proofs.Names.{◌+◌, ◌<◌, ◌∙◌, ◌∷◌, ◌≡◌, ◌≢◌, ◌≤◌, ◌⊎◌}
use Rattle.std.proofs.Common.{◌-◌, IfOk, OnErr}
use Rattle.std.specs.Prelude.{nat_lt}
use Rattle.std.proofs.lemmas.Bool.{lt-ltb}
use Rattle.std.proofs.lemmas.Option.{slice_get-get_or, slice_get_past}
use Rattle.council_core.specs.Ledgers.{sheet_of}
use Rattle.council_core.specs.Sheets.{IsSheet}
use Rattle.two_copy_steps.specs.Transitions.{ledger_and_note}
use Rattle.two_copy_steps.proofs.ReaderSteps.{leaving_reads}
use Rattle.two_copy_steps.proofs.WriterSteps.{first_inside}
use Rattle.two_copy_steps.proofs.TransitionSteps.{view_at, viewed_at, viewed_length, written_keeps, publish_keeps, accepted_keeps, step_keeps}
use Rattle.two_copy_steps.proofs.Starts.{start_lawful}

-- the contract of a register's `sheet`, as a fact about its journal
pub publishable : (L : Ledger) (words : List ℕ) → IsLedger L → words ≡ sheet_of L → IsSheet words → IsPublishable L.opening L.journal
publishable L words legal is in_range = (legal.legal, subst IsSheet is in_range)

-- the writer's step, by its phase
abbrev wrote : MachineState → Phase → MachineState × Note
wrote m phase =
    let d = phase_action (sheet m.ledger.opening) m.writer phase in
    let found = get_or m.words d.word 0 in
    (record m { words = set m.words d.word (d.becomes found); writer = d.after found }, phase_note m.writer phase found)

wrote_at : (m : MachineState) (phase : Phase) → m.writer.phase ≡ phase → wrote m phase ≡ transition m Writer
wrote_at m phase e = ap (wrote m) (sym e)

module _ (L : Ledger) (W : List ℕ) (s n : ℕ) (t : List ℕ) (ph : Phase) (so : List Bool) (R : List Stage) where
  abbrev old : MachineState
  old = seen_as L W s n t ph so R

  -- a load changes no word
  abbrev looked : List ℕ → Bool → MachineState × Note
  looked words b =
      (record old { words = words; writer = cond b (seen_writing old.writer (first_false so)) (abandoned_writing old.writer) }, cond b Moved (Busy (suc (first_false so))))

  looks : (b : Bool) → ph ≡ Seeing → eqb (get_or W (pin (first_false so)) 0) 0 ≡ b → looked W b ≡ transition old Writer
  looks b e is = ap (looked W) (sym is) ∙ (ap (λ words. looked words (eqb (get_or W (pin (first_false so)) 0) 0)) (sym (set-get_or W (pin (first_false so)) 0)) ∙ wrote_at old Seeing e)

  pub gave_up : ph ≡ Seeing → get_or W (pin (first_false so)) 0 ≢ 0 → (seen_as L W s n t Idle so R, Busy (suc (first_false so))) ≡ transition old Writer
  gave_up e ne = looks false e (ne_eqb (get_or W (pin (first_false so)) 0) 0 ne)

  pub saw_out : ph ≡ Seeing → get_or W (pin (first_false so)) 0 ≡ 0
      → (seen_as L W s n t (cond (all_true (set so (first_false so) true)) (Filling 0) Seeing) (set so (first_false so) true) R, Moved) ≡ transition old Writer
  saw_out e is = looks true e (eq-eqb (get_or W (pin (first_false so)) 0) 0 is)

  -- the reader's step
  pub no_reader : (number : ℕ) → (number ≡ 0) ⊎ (length R < number) → (transition old (Reader number)) ≡ (old, Skipped)
  no_reader zero none = refl
  no_reader (suc r) none = ap (reader_transition old r) (slice_get_past R r (⊎_elim (λ (e : suc r ≡ 0). let z : length R ≤ r = omega arith in z) (λ (past : length R < suc r). let z : length R ≤ r = omega arith in z) none))

  pub reader_reads : (number r : ℕ) (stage : Stage) (W' : List ℕ) (R' : List Stage) → number ≡ suc r → slice_get R r ≡ Some stage
      → (let d = stage_action r stage in (W' ≡ set W d.word (d.becomes (get_or W d.word 0))) × (R' ≡ set R r (d.after (get_or W d.word 0))))
      → (seen_as L W' s n t ph so R', stage_note (suc r) stage) ≡ transition old (Reader number)
  reader_reads number r stage W' R' e at h =
      (λ i. (seen_as L (h.0 i) s n t ph so (h.1 i), stage_note (suc r) stage)) ∙ (ap (λ (o : Option Stage). reader_transition old r o) (sym at) ∙ ap (λ (k : ℕ). transition old (Reader k)) (sym e))

  module _ (k : IsMachine L W s n t ph so R) where
    abbrev aux : Auxiliary
    aux = k.lawful.0

    -- there is a word for the pin of each reader
    pub wide_enough : pin (length R) ≤ length W
    wide_enough = let wide = k.lawful.1.state.wide in omega (arith, viewed_length R aux.records)

    pub first_there : ph ≡ Seeing → (first_false so < length so) × (pin (first_false so) < length W)
    first_there e =
        let some : all_true so ≡ false = subst (Fills L.opening (IsPublishable L.opening) W old.writer) e k.lawful.1.state.writer.fills in
        let below = first_inside so some in
        let flags = k.lawful.1.state.writer.flags in
        let wide = wide_enough in
        let long = viewed_length R aux.records in
        (below, omega arith)

    pub readable : (r : ℕ) (stage : Stage) → slice_get R r ≡ Some stage → IsReadable stage
    readable r stage at =
        by_stage stage at (k.lawful.1.state.each_reader r (view_at stage (record_at aux.records r)) (viewed_at R aux.records r stage at)).stands
      where
        by_stage : (stage : Stage) → slice_get R r ≡ Some stage → Stands L.opening (IsPublishable L.opening) W (state_of old k.lawful.0).writer (record_at k.lawful.0.records r) r stage → IsReadable stage
        by_stage AtRest at h = tt
        by_stage Arrived at h = tt
        by_stage (Reading side words) at h = h.1
        by_stage (Leaving side words) at h =
            let is = leaving_reads L.opening (IsPublishable L.opening) (state_of old k.lawful.0) k.lawful.1.state r side words (record_at k.lawful.0.records r)
            (viewed_at R k.lawful.0.records r (Leaving side words) at) in
            (h.1, subst IsSheet (sym is.1) is.2.1)

    -- a word is stored
    pub filled_in : (j : ℕ) (W' : List ℕ) → ph ≡ Filling j → W' ≡ set W (copy_word (1 - s) j) (get_or t j 0)
        → (seen_as L W' s n t (cond (eqb (j + 1) COPY_WORDS) Swapping (Filling (j + 1))) so R, Moved) ≡ transition old Writer
    filled_in j W' e is =
        ap (λ (words : List ℕ). (seen_as L words s n t (cond (eqb (j + 1) COPY_WORDS) Swapping (Filling (j + 1))) so R, Moved))
        (is ∙ ap (λ (numbers : List ℕ). set W (copy_word (1 - s) j) (get_or numbers j 0)) k.sheet_is)
        ∙ wrote_at old (Filling j) e

    -- side is stored
    pub swapped_in : ph ≡ Swapping → (seen_as L (set W 0 (1 - s)) (1 - s) (front_of t) t Idle (replicate (length so) false) R, Published (front_of t)) ≡ transition old Writer
    swapped_in e =
        let long : front_of t ≡ length (take (front_of t) L.journal) = let within = k.staged_within in omega (arith, length-take (front_of t) L.journal) in
        (λ i. (seen_as L (set W 0 (1 - s)) (1 - s) (front_of t) t Idle (replicate (length so) false) R, Published (long i))) ∙ wrote_at old Swapping e

    -- a publication begins
    published_long : length (take n L.journal) ≡ n
    published_long = let within = k.published_within in length-take n L.journal ∙ omega arith

    pub begun_in : is_idle ph ≡ true → n < length L.journal → (seen_as L W s n (sheet_of L) (cond (all_true so) (Filling 0) Seeing) so R, Began) ≡ transition old Publish
    begun_in idle pending =
        let is : is_pending old ≡ true = ap (λ (x : ℕ). nat_lt x (length L.journal)) published_long ∙ lt-ltb n (length L.journal) pending in
        ap (λ (commands : List Command). let m : MachineState = record old { writer = record { side = s; published = take n L.journal; staged = commands; phase = cond (all_true so) (Filling 0) Seeing; seen_out = so } } in (m, Began)) (take-length L.journal)
        ∙ (ap (λ (b : Bool). published_by old b) (sym is) ∙ ap (λ (b : Bool). cond b (published_by old (is_pending old)) (old, Skipped)) (sym idle))

    -- the invariant after an event: of the machine then, and the staged sheet is that of some commands
    -- of the journal
    record KeptAfter (event : Event) (words : List ℕ) (side published : ℕ) (staged : List ℕ) (phase : Phase) (seen_out : List Bool) (readers : List Stage) : Type 0 where
      pub machine : seen_as L words side published staged phase seen_out readers ≡ (transition old event).0
      pub published_within : published ≤ length L.journal
      pub staged_within : front_of staged ≤ length L.journal
      pub sheet_is : staged ≡ sheet L.opening (take (front_of staged) L.journal)
      pub lawful : IsLawfulMachine IsPublishable (transition old event).0 (auxiliary_step old aux event)

    stays : (event : Event) (W' : List ℕ) (s' n' : ℕ) (t' : List ℕ) (ph' : Phase) (so' : List Bool) (R' : List Stage) → KeptAfter event W' s' n' t' ph' so' R' → IsMachine L W' s' n' t' ph' so' R'
    stays event W' s' n' t' ph' so' R' h =
        record {
          published_within = h.published_within;
          staged_within = h.staged_within;
          sheet_is = h.sheet_is;
          lawful = (auxiliary_step old aux event, subst (λ (m : MachineState). IsLawfulMachine IsPublishable m (auxiliary_step old aux event)) (sym h.machine) h.lawful);
        }

    -- the writer's steps
    pub writer_stays : (W' : List ℕ) (s' n' : ℕ) (ph' : Phase) (so' : List Bool) (note : Note) → (seen_as L W' s' n' t ph' so' R, note) ≡ transition old Writer → n' ≤ length L.journal → IsMachine L W' s' n' t ph' so' R
    writer_stays W' s' n' ph' so' note is within =
        stays Writer W' s' n' t ph' so' R record {
          machine = ap (λ (x : MachineState × Note). x.0) is;
          published_within = within;
          staged_within = k.staged_within;
          sheet_is = k.sheet_is;
          lawful = written_keeps IsPublishable old aux k.lawful.1;
        }

    reader_stays : (number : ℕ) (W' : List ℕ) (R' : List Stage) (note : Note) → (seen_as L W' s n t ph so R', note) ≡ transition old (Reader number) → IsMachine L W' s n t ph so R'
    reader_stays number W' R' note is =
        stays (Reader number) W' s n t ph so R' record {
          machine = ap (λ (x : MachineState × Note). x.0) is;
          published_within = k.published_within;
          staged_within = k.staged_within;
          sheet_is = k.sheet_is;
          lawful = step_keeps IsPublishable old aux k.lawful.1 number;
        }

    pub publish_stays : (t' : List ℕ) (ph' : Phase) → t' ≡ sheet_of L → IsPublishable L.opening L.journal → (seen_as L W s n t' ph' so R, Began) ≡ transition old Publish → IsMachine L W s n t' ph' so R
    publish_stays t' ph' e legal is =
        let front : front_of t' ≡ length L.journal = ap front_of e in
        stays Publish W s n t' ph' so R record {
          machine = ap (λ (x : MachineState × Note). x.0) is;
          published_within = k.published_within;
          staged_within = omega arith;
          sheet_is = e ∙ ap (sheet L.opening) (sym (take-length L.journal) ∙ ap (λ (x : ℕ). take x L.journal) (sym front));
          lawful = publish_keeps IsPublishable old aux k.lawful.1 legal;
        }

    -- a command is accepted
    pub submitted_in : (L' : Ledger) (command : Command) → L' ≡ ledger_with L command → seen_as L' W s n t ph so R ≡ (let m : MachineState = record old { ledger = ledger_with L command } in m)
    submitted_in L' command e =
        ap (λ (l : Ledger). seen_as l W s n t ph so R) e
        ∙ (λ i. let m : MachineState = record {
          ledger = ledger_with L command;
          words = W;
          writer = record {
            side = s;
            published = take-append-le n L.journal (command ∷ []) k.published_within i;
            staged = take-append-le (front_of t) L.journal (command ∷ []) k.staged_within i;
            phase = ph;
            seen_out = so;
          };
          readers = R;
        } in m)

    pub submit_stays : (L' : Ledger) (command : Command) → L' ≡ ledger_with L command → is_idle ph ≡ true → IsMachine L' W s n t ph so R
    submit_stays L' command e idle =
        let more = length-append L.journal (command ∷ []) in
        let within = k.published_within in
        let staged = k.staged_within in
        let F : Ledger → Type 0 = λ l. IsMachine l W s n t ph so R in
        subst F (sym e) record {
          published_within = omega arith;
          staged_within = omega arith;
          sheet_is = k.sheet_is ∙ ap (sheet L.opening) (sym (take-append-le (front_of t) L.journal (command ∷ []) k.staged_within));
          lawful = (aux, subst (λ (m : MachineState). IsLawfulMachine IsPublishable m aux) (sym (submitted_in (ledger_with L command) command refl)) (accepted_keeps IsPublishable old aux k.lawful.1 command idle));
        }

    -- for any verdict
    handed_in : (L' : Ledger) (command : Command) (v : Result ⊤ Refusal) (note : Note) → (L', note) ≡ ledger_and_note L command v → (seen_as L' W s n t ph so R, note) ≡ machine_and_note old command v
    handed_in L' command (Ok u) note e = (λ i. (submitted_in L' command (ap (λ (x : Ledger × Note). x.0) e) i, (e i).1))
    handed_in L' command (Err refusal) note e = (λ i. (seen_as (e i).0 W s n t ph so R, (e i).1))

    handed_stays : (L' : Ledger) (command : Command) (v : Result ⊤ Refusal) → L' ≡ (ledger_and_note L command v).0 → is_idle ph ≡ true → IsMachine L' W s n t ph so R
    handed_stays L' command (Ok u) e idle = submit_stays L' command e idle
    handed_stays L' command (Err refusal) e idle = let F : Ledger → Type 0 = λ l. IsMachine l W s n t ph so R in subst F (sym e) k

    pub handed_machine : (L' : Ledger) (command : Command) (r : Result Note Refusal) → is_idle ph ≡ true → IfOk r (λ note. (L', note) ≡ ledger_and_note L command (verdict_of L command)) → OnErr r (L' ≡ L)
        → IsMachine L' W s n t ph so R
    handed_machine L' command (Ok note) idle reported same = handed_stays L' command (verdict_of L command) (ap (λ (x : Ledger × Note). x.0) reported) idle
    handed_machine L' command (Err refusal) idle reported same = let F : Ledger → Type 0 = λ l. IsMachine l W s n t ph so R in subst F (sym same) k

    pub handed_transition : (L' : Ledger) (command : Command) (r : Result Note Refusal) → is_idle ph ≡ true → IfOk r (λ note. (L', note) ≡ ledger_and_note L command (verdict_of L command))
        → IfOk r (λ note. (seen_as L' W s n t ph so R, note) ≡ transition old (Submit command))
    handed_transition L' command (Ok note) idle reported = handed_in L' command (verdict_of L command) note reported ∙ ap (λ (b : Bool). cond b (machine_and_note old command (verdict_of L command)) (old, Skipped)) (sym idle)
    handed_transition L' command (Err refusal) idle reported = tt

    -- the same steps, as the code takes them
    module _ (now : MachineState) (is : old ≡ now) where
      phase_is : (phase : Phase) → now.writer.phase ≡ phase → ph ≡ phase
      phase_is phase e = ap (λ (m : MachineState). m.writer.phase) is ∙ e

      pub wrote_stays : (W' : List ℕ) (s' n' : ℕ) (ph' : Phase) (so' : List Bool) (note : Note) → (seen_as L W' s' n' t ph' so' R, note) ≡ transition now Writer → n' ≤ length L.journal → IsMachine L W' s' n' t ph' so' R
      wrote_stays W' s' n' ph' so' note step = writer_stays W' s' n' ph' so' note (step ∙ ap (λ (m : MachineState). transition m Writer) (sym is))

      pub first_at : now.writer.phase ≡ Seeing → (r : ℕ) → r ≡ first_false so → (r < length so) × (pin r < length W)
      first_at e r first = subst (λ (x : ℕ). (x < length so) × (pin x < length W)) (sym first) (first_there (phase_is Seeing e))

      pub gave_up_at : now.writer.phase ≡ Seeing → (r found : ℕ) → r ≡ first_false so → found ≡ get_or W (pin r) 0 → (found ≡ 0 → ⊥) → (seen_as L W s n t Idle so R, Busy (r + 1)) ≡ transition now Writer
      gave_up_at e r found first load ne =
          let number : r + 1 ≡ suc (first_false so) = omega (arith, first) in
          ap (λ (x : ℕ). (seen_as L W s n t Idle so R, Busy x)) number
          ∙ (gave_up (phase_is Seeing e) (λ z. ne (load ∙ (ap (λ (x : ℕ). get_or W (pin x) 0) first ∙ z))) ∙ ap (λ (m : MachineState). transition m Writer) is)

      pub saw_out_at : now.writer.phase ≡ Seeing → (r found : ℕ) (so' : List Bool) (ph' : Phase) → r ≡ first_false so → found ≡ get_or W (pin r) 0 → found ≡ 0 → so' ≡ set so r true
          → ph' ≡ cond (all_true so') (Filling 0) Seeing → (seen_as L W s n t ph' so' R, Moved) ≡ transition now Writer
      saw_out_at e r found so' ph' first load z out next =
          let set_is : so' ≡ set so (first_false so) true = out ∙ ap (λ (x : ℕ). set so x true) first in
          let phase : ph' ≡ cond (all_true (set so (first_false so) true)) (Filling 0) Seeing = next ∙ ap (λ (x : List Bool). let y : Phase = cond (all_true x) (Filling 0) Seeing in y) set_is in
          (λ i. (seen_as L W s n t (phase i) (set_is i) R, Moved)) ∙ (saw_out (phase_is Seeing e) (sym (load ∙ ap (λ (x : ℕ). get_or W (pin x) 0) first) ∙ z) ∙ ap (λ (m : MachineState). transition m Writer) is)

      pub filled_at : (j at : ℕ) (words W' : List ℕ) (ph' : Phase) → now.writer.phase ≡ Filling j → words ≡ t → at ≡ copy_word (1 - s) j → W' ≡ set W at (get_or words j 0)
          → ph' ≡ cond (eqb (j + 1) COPY_WORDS) Swapping (Filling (j + 1)) → (seen_as L W' s n t ph' so R, Moved) ≡ transition now Writer
      filled_at j at words W' ph' e same there stored next =
          ap (λ (x : Phase). (seen_as L W' s n t x so R, Moved)) next
          ∙ (filled_in j W' (phase_is (Filling j) e) (stored ∙ ((λ i. set W (there i) (get_or words j 0)) ∙ ap (λ (x : List ℕ). set W (copy_word (1 - s) j) (get_or x j 0)) same)) ∙ ap (λ (m : MachineState). transition m Writer) is)

      pub swapped_at : (W' : List ℕ) (n' : ℕ) (so' : List Bool) → now.writer.phase ≡ Swapping → W' ≡ set W 0 (1 - s) → n' ≡ front_of t → so' ≡ replicate (length so) false
          → (seen_as L W' (1 - s) n' t Idle so' R, Published n') ≡ transition now Writer
      swapped_at W' n' so' e stored front out = (λ i. (seen_as L (stored i) (1 - s) (front i) t Idle (out i) R, Published (front i))) ∙ (swapped_in (phase_is Swapping e) ∙ ap (λ (m : MachineState). transition m Writer) is)

      pub skipped_at : (number : ℕ) → (number ≡ 0) ⊎ (length R < number) → (transition now (Reader number)) ≡ (now, Skipped)
      skipped_at number none = subst (λ (m : MachineState). (transition m (Reader number)) ≡ (m, Skipped)) is (no_reader number none)

      module _ (number : ℕ) (some : number ≡ 0 → ⊥) (within : number ≤ length R) where
        number_is : number ≡ suc (number - 1)
        number_is = by_cases number some
          where
            by_cases : (x : ℕ) → (x ≡ 0 → ⊥) → x ≡ suc (x - 1)
            by_cases zero h = absurd (h refl)
            by_cases (suc x) h = omega arith

        abbrev stage : Stage
        stage = get_or R (number - 1) AtRest

        pub seat_here : number - 1 < length R
        seat_here = let h = number_is in omega arith

        found : slice_get R (number - 1) ≡ Some stage
        found = slice_get-get_or R (number - 1) AtRest seat_here

        pub seat_within : pin (number - 1) < length W
        seat_within = let wide = wide_enough in let h = number_is in omega arith

        pub seat_readable : IsReadable stage
        seat_readable = readable (number - 1) stage found

        module _ (W' : List ℕ) (R' : List Stage) (words : let d = stage_action (number - 1) stage in W' ≡ set W d.word (d.becomes (get_or W d.word 0)))
            (stages : let d = stage_action (number - 1) stage in R' ≡ set R (number - 1) (d.after (get_or W d.word 0))) where
          reads : (seen_as L W' s n t ph so R', stage_note (suc (number - 1)) stage) ≡ transition old (Reader number)
          reads = reader_reads number (number - 1) stage W' R' number_is found (words, stages)

          pub read_at : (note : Note) → note ≡ stage_note (suc (number - 1)) stage → (seen_as L W' s n t ph so R', note) ≡ transition now (Reader number)
          read_at note e = ap (λ (x : Note). (seen_as L W' s n t ph so R', x)) e ∙ (reads ∙ ap (λ (m : MachineState). transition m (Reader number)) is)

          pub read_machine : IsMachine L W' s n t ph so R'
          read_machine = reader_stays number W' R' (stage_note (suc (number - 1)) stage) reads

-- the machine at its start
pub started_in : (L : Ledger) (readers : ℕ) → seen_as L (0 ∷ sheet_of L ++ sheet_of L ++ replicate readers 0) 0 (length L.journal) (sheet_of L) Idle (replicate readers true) (replicate readers AtRest) ≡ machine_at_start L readers
started_in L readers =
    λ i. let m : MachineState = record {
      ledger = L;
      words = 0 ∷ sheet_of L ++ sheet_of L ++ replicate readers 0;
      writer = record { side = 0; published = take-length L.journal i; staged = take-length L.journal i; phase = Idle; seen_out = replicate readers true };
      readers = replicate readers AtRest;
    } in m

-- the machine at its start: both copies have the register's sheet, all of it is published, and all
-- readers are quiescent and at rest
pub record AtStart (ledger : Ledger) (readers : ℕ) (words : List ℕ) (published : ℕ) (staged : List ℕ) (seen_out : List Bool) (stages : List Stage) : Type 0 where
  pub legal : IsPublishable ledger.opening ledger.journal
  pub words_are : words ≡ 0 ∷ sheet_of ledger ++ sheet_of ledger ++ replicate readers 0
  pub published_all : published ≡ length ledger.journal
  pub staged_all : staged ≡ sheet_of ledger
  pub all_out : seen_out ≡ replicate readers true
  pub all_rest : stages ≡ replicate readers AtRest

pub start_is : (L : Ledger) (readers : ℕ) (W : List ℕ) (n : ℕ) (t : List ℕ) (so : List Bool) (R : List Stage) → AtStart L readers W n t so R
    → (seen_as L W 0 n t Idle so R ≡ machine_at_start L readers) × IsMachine L W 0 n t Idle so R
start_is L readers W n t so R h =
    let is : seen_as L W 0 n t Idle so R ≡ machine_at_start L readers = (λ i. seen_as L (h.words_are i) 0 (h.published_all i) (h.staged_all i) Idle (h.all_out i) (h.all_rest i)) ∙ started_in L readers in
    let all : n ≡ length L.journal = h.published_all in
    let front : front_of t ≡ length L.journal = ap front_of h.staged_all in (
      is,
      record {
        published_within = omega arith;
        staged_within = omega arith;
        sheet_is = h.staged_all ∙ ap (sheet L.opening) (sym (take-length L.journal) ∙ ap (λ (y : ℕ). take y L.journal) (sym front));
        lawful = (auxiliary_start L readers, subst (λ (m : MachineState). IsLawfulMachine IsPublishable m (auxiliary_start L readers)) (sym is) (start_lawful IsPublishable L readers h.legal));
      },
    )
