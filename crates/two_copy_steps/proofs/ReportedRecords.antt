-- Over every list of events a record is the sheets in its reader's outputs.
use Rattle.two_copy_steps.proofs.Names.{[], about_to_leave, after_reader_step, ap, append-nil, append_assoc, arith}
use Rattle.two_copy_steps.proofs.Names.{Arrived, AtRest, Auxiliary, auxiliary_reader_step, auxiliary_start}
use Rattle.two_copy_steps.proofs.Names.{auxiliary_step, auxiliary_steps, Bool, Busy, Command, cond, COPY_WORDS, eq-eqb}
use Rattle.two_copy_steps.proofs.Names.{eqb, Event, false, Filling, front_of, FrontsNeverFall, get_or, Idle}
use Rattle.two_copy_steps.proofs.Names.{IsRecordFrom, le_trans, Leaving, Ledger, length, length-set, List}
use Rattle.two_copy_steps.proofs.Names.{machine_at_start, MachineState, Moved, ne_eqb, None, none-some, Note, notes}
use Rattle.two_copy_steps.proofs.Names.{Opening, Option, Phase, phase_note, Read, Reading, readings_after, record_at}
use Rattle.two_copy_steps.proofs.Names.{refl, replicate, same_Some, Seeing, set, sheets_reported, slice_get, Some}
use Rattle.two_copy_steps.proofs.Names.{Stage, stage_action, stage_note, state_after_events, subst, suc, Swapping, sym}
use Rattle.two_copy_steps.proofs.Names.{take, take-append-le, transition, true, Writing, zero, ℕ, ⊎_elim, ◌++◌, ◌<◌}
use Rattle.two_copy_steps.proofs.Names.{◌∙◌, ◌∷◌, ◌≡◌, ◌≢◌, ◌≤◌}
use Rattle.std.specs.List.Sorted.{IsNonDecreasingBy}
use Rattle.std.proofs.lemmas.List.{take_all}
use Rattle.std.proofs.lemmas.List.Sorted.{IsNonDecreasingBy-from_default, IsNonDecreasingBy-short, IsNonDecreasingBy-take}
use Rattle.council_core.specs.Sequential.{AreRecords}
use Rattle.two_copy_steps.specs.Actions.{readings_with}
use Rattle.two_copy_steps.specs.Records.{reported_of, RecordsAreReported}
use Rattle.two_copy_steps.proofs.Outcomes.{Outcome, outcome, no_auxiliary, skipped, accepted, refused, current, began, wrote, stepped}
use Rattle.two_copy_steps.proofs.Lists.{at_set, inside, there}

-- a record after a write
record_here : (records : List (List (List ℕ))) (r : ℕ) (x : List (List ℕ)) → r < length records → record_at (set records r x) r ≡ x
record_here [] r x h = absurd (omega arith)
record_here (y ∷ records) zero x h = refl
record_here (y ∷ records) (suc r) x h = record_here records r x (omega arith)

record_else : (records : List (List (List ℕ))) (r q : ℕ) (x : List (List ℕ)) → q ≢ r → record_at (set records r x) q ≡ record_at records q
record_else [] r q x ne = refl
record_else (y ∷ records) zero zero x ne = absurd (ne refl)
record_else (y ∷ records) zero (suc q) x ne = refl
record_else (y ∷ records) (suc r) zero x ne = refl
record_else (y ∷ records) (suc r) (suc q) x ne = record_else records r q x (λ e. ne (ap suc e))

-- the part that a reader's own step adds, to its record and to the sheets in its outputs
own_loaded : (side : ℕ) (words : List ℕ) (b : Bool) (readings reported : List (List ℕ)) → readings ≡ reported ++ []
    → readings_with (cond b (Leaving side words) (Reading side words)) readings ≡ (reported ++ []) ++ about_to_leave (cond b (Leaving side words) (Reading side words))
own_loaded side words true readings reported e = ap (λ (l : List (List ℕ)). l ++ words ∷ []) e
own_loaded side words false readings reported e = e ∙ sym (append-nil (reported ++ []))

own : (r found : ℕ) (stage : Stage) (readings reported : List (List ℕ)) → readings ≡ reported ++ about_to_leave stage
    → readings_after stage ((stage_action r stage).after found) readings ≡ (reported ++ reported_of (suc r) (stage_note (suc r) stage)) ++ about_to_leave ((stage_action r stage).after found)
own r found AtRest readings reported e = e ∙ sym (append-nil (reported ++ []))
own r found Arrived readings reported e = e ∙ sym (append-nil (reported ++ []))
own r found (Reading side words) readings reported e = own_loaded side (words ++ found ∷ []) (eqb (length (words ++ found ∷ [])) COPY_WORDS) readings reported e
own r found (Leaving side words) readings reported e =
    e ∙ (ap (λ (b : Bool). reported ++ cond b (words ∷ []) []) (sym (eq-eqb (suc r) (suc r) refl)) ∙ sym (append-nil (reported ++ reported_of (suc r) (Read (suc r) words))))

-- another reader's step adds no sheet to this one's outputs
others : (r number : ℕ) (stage : Stage) → number ≢ suc r → reported_of number (stage_note (suc r) stage) ≡ []
others r number AtRest ne = refl
others r number Arrived ne = refl
others r number (Reading side words) ne = refl
others r number (Leaving side words) ne = ap (λ (b : Bool). cond b (words ∷ []) []) (ne_eqb (suc r) number (λ e. ne (sym e)))

-- events that change no reader and no record, and whose outputs have no sheet
abbrev Reports : MachineState → Auxiliary → (ℕ → List (List ℕ)) → Type 0
Reports m aux reported = (r : ℕ) (stage : Stage) → slice_get m.readers r ≡ Some stage → record_at aux.records r ≡ reported r ++ about_to_leave stage

abbrev After : MachineState → Auxiliary → (ℕ → List (List ℕ)) → Note → Type 0
After m aux reported note = Reports m aux (λ r. reported r ++ reported_of (suc r) note)

silent : (m : MachineState) (aux : Auxiliary) (reported : ℕ → List (List ℕ)) → Reports m aux reported → Reports m aux (λ r. reported r ++ [])
silent m aux reported h r stage at = h r stage at ∙ ap (λ (l : List (List ℕ)). l ++ about_to_leave stage) (sym (append-nil (reported r)))

quiet_look : (number k : ℕ) (b : Bool) → reported_of number (cond b Moved (Busy k)) ≡ []
quiet_look number k true = refl
quiet_look number k false = refl

quiet_writer : (w : Writing) (number found : ℕ) (phase : Phase) → reported_of number (phase_note w phase found) ≡ []
quiet_writer w number found Idle = refl
quiet_writer w number found Seeing = quiet_look number _ _
quiet_writer w number found (Filling k) = refl
quiet_writer w number found Swapping = refl

after_read : (m : MachineState) (aux : Auxiliary) (reported : ℕ → List (List ℕ)) → Reports m aux reported → length aux.records ≡ length m.readers → (r : ℕ) (stage : Stage) → slice_get m.readers r ≡ Some stage
    → After (after_reader_step m r stage) (auxiliary_reader_step m aux r (Some stage)) reported (stage_note (suc r) stage)
after_read m aux reported h long r stage at = λ q later there.
    let d = stage_action r stage in
    let found : ℕ = get_or m.words d.word 0 in
    let readings : List (List ℕ) = readings_after stage (d.after found) (record_at aux.records r) in
    let here : r < length aux.records = let i = inside m.readers r stage at in omega arith in
    ⊎_elim
    (λ (e : (q ≡ r) × (d.after found ≡ later)).
    ap (λ (k : ℕ). record_at (set aux.records r readings) k) e.0
    ∙ (record_here aux.records r readings here
    ∙ (own r found stage (record_at aux.records r) (reported r) (h r stage at)
    ∙ λ i. (reported (sym e.0 i) ++ reported_of (suc (sym e.0 i)) (stage_note (suc r) stage)) ++ about_to_leave (e.1 i))))
    (λ (e : (q ≢ r) × (slice_get m.readers q ≡ Some later)).
    record_else aux.records r q readings e.0
    ∙ (h q later e.1
    ∙ ap (λ (l : List (List ℕ)). l ++ about_to_leave later) (sym (append-nil (reported q)) ∙ ap (λ (l : List (List ℕ)). reported q ++ l) (sym (others r (suc q) stage (λ s. e.0 (omega arith)))))))
    (at_set m.readers r q (d.after found) later there)

after_event : (m : MachineState) (aux : Auxiliary) (reported : ℕ → List (List ℕ)) → Reports m aux reported → length aux.records ≡ length m.readers → {next : MachineState} {after : Auxiliary} {event : Event} {note : Note} → Outcome m aux event next after note
    → After next after reported note
after_event m aux reported h long (stepped r stage at) = after_read m aux reported h long r stage at
after_event m aux reported h long wrote = λ r stage at.
    silent m aux reported h r stage at ∙ ap (λ (l : List (List ℕ)). (reported r ++ l) ++ about_to_leave stage) (sym (quiet_writer m.writer (suc r) _ m.writer.phase))
after_event m aux reported h long (skipped event) = silent m aux reported h
after_event m aux reported h long (accepted command ok) = silent m aux reported h
after_event m aux reported h long (refused command why) = silent m aux reported h
after_event m aux reported h long current = silent m aux reported h
after_event m aux reported h long (began pending) = silent m aux reported h

-- there are always as many readers, and as many records
as_many_after : (m : MachineState) (aux : Auxiliary) {next : MachineState} {after : Auxiliary} {event : Event} {note : Note} → Outcome m aux event next after note
    → (length next.readers ≡ length m.readers) × (length after.records ≡ length aux.records)
as_many_after m aux (stepped r stage at) =
    let d = stage_action r stage in
    let found : ℕ = get_or m.words d.word 0 in
    (length-set m.readers r (d.after found), length-set aux.records r (readings_after stage (d.after found) (record_at aux.records r)))
as_many_after m aux wrote = (refl, refl)
as_many_after m aux (skipped event) = (refl, refl)
as_many_after m aux (accepted command ok) = (refl, refl)
as_many_after m aux (refused command why) = (refl, refl)
as_many_after m aux current = (refl, refl)
as_many_after m aux (began pending) = (refl, refl)

as_many : (m : MachineState) (aux : Auxiliary) → length aux.records ≡ length m.readers → (event : Event) → length (auxiliary_step m aux event).records ≡ length (transition m event).0.readers
as_many m aux long event = let same = as_many_after m aux (outcome m aux event) in same.1 ∙ (long ∙ sym same.0)

reported_all : (events : List Event) (m : MachineState) (aux : Auxiliary) (reported : ℕ → List (List ℕ)) → Reports m aux reported → length aux.records ≡ length m.readers
    → Reports (state_after_events m events) (auxiliary_steps m aux events) (λ r. reported r ++ sheets_reported (suc r) (notes m events))
reported_all [] m aux reported h long = silent m aux reported h
reported_all (event ∷ events) m aux reported h long = λ r stage at.
    reported_all events (transition m event).0 (auxiliary_step m aux event) (λ q. reported q ++ reported_of (suc q) (transition m event).1) (after_event m aux reported h long (outcome m aux event)) (as_many m aux long event) r stage at
    ∙ ap (λ (l : List (List ℕ)). l ++ about_to_leave stage) (append_assoc (reported r) (reported_of (suc r) (transition m event).1) (sheets_reported (suc r) (notes (transition m event).0 events)))

stage_at_start : (n r : ℕ) (stage : Stage) → slice_get (replicate n AtRest) r ≡ Some stage → AtRest ≡ stage
stage_at_start zero r stage e = absurd (none-some stage e)
stage_at_start (suc n) zero stage e = same_Some AtRest stage e
stage_at_start (suc n) (suc r) stage e = stage_at_start n r stage e

record_at_start : (n r : ℕ) → record_at (replicate n []) r ≡ []
record_at_start zero r = refl
record_at_start (suc n) zero = refl
record_at_start (suc n) (suc r) = record_at_start n r

as_many_at_start : (n : ℕ) → length {A = List (List ℕ)} (replicate n []) ≡ length {A = Stage} (replicate n AtRest)
as_many_at_start zero = refl
as_many_at_start (suc n) = ap suc (as_many_at_start n)

-- a reader that does not exist has no outputs
absent_set : {A : Type 0} (xs : List A) (i j : ℕ) (x : A) → slice_get xs j ≡ None → slice_get (set xs i x) j ≡ None
absent_set [] i j x e = refl
absent_set (y ∷ xs) zero zero x e = absurd (none-some y (sym e))
absent_set (y ∷ xs) zero (suc j) x e = e
absent_set (y ∷ xs) (suc i) zero x e = e
absent_set (y ∷ xs) (suc i) (suc j) x e = absent_set xs i j x e

abbrev IsAbsent : MachineState → ℕ → Type 0
IsAbsent m number = (r : ℕ) → number ≡ suc r → slice_get m.readers r ≡ None

absent_after : (m : MachineState) (number : ℕ) → IsAbsent m number → {next : MachineState} {aux after : Auxiliary} {event : Event} {note : Note} → Outcome m aux event next after note → IsAbsent next number × (reported_of number note ≡ [])
absent_after m number h (stepped r stage at) =
    (λ q e. absent_set m.readers r q ((stage_action r stage).after _) (h q e), others r number stage (λ e. none-some stage (sym (h r e) ∙ at)))
absent_after m number h wrote = (h, quiet_writer m.writer number _ m.writer.phase)
absent_after m number h (skipped event) = (h, refl)
absent_after m number h (accepted command ok) = (h, refl)
absent_after m number h (refused command why) = (h, refl)
absent_after m number h current = (h, refl)
absent_after m number h (began pending) = (h, refl)

absent_all : (events : List Event) (m : MachineState) (number : ℕ) → IsAbsent m number → sheets_reported number (notes m events) ≡ []
absent_all [] m number h = refl
absent_all (event ∷ events) m number h =
    let t = absent_after m number h (outcome m no_auxiliary event) in
    ap (λ (l : List (List ℕ)). l ++ sheets_reported number (notes (transition m event).0 events)) t.1 ∙ absent_all events (transition m event).0 number t.0

-- the fronts of a record never fall
fronts_above : (opening : Opening) (commands : List Command) (cuts : List ℕ) (low : ℕ) (readings : List (List ℕ)) → IsRecordFrom opening commands cuts low readings
    → (j : ℕ) → j < length readings → low ≤ front_of (get_or readings j [])
fronts_above opening commands cuts low [] h j lt = absurd (omega arith)
fronts_above opening commands cuts low (words ∷ rest) h zero lt = h.1
fronts_above opening commands cuts low (words ∷ rest) h (suc j) lt = le_trans h.1 (fronts_above opening commands cuts (front_of words) rest h.2 j (omega arith))

fronts_rise : (opening : Opening) (commands : List Command) (cuts : List ℕ) (low : ℕ) (readings : List (List ℕ)) → IsRecordFrom opening commands cuts low readings
    → (i j : ℕ) → i ≤ j → j < length readings → front_of (get_or readings i []) ≤ front_of (get_or readings j [])
fronts_rise opening commands cuts low [] h i j le lt = absurd (omega arith)
fronts_rise opening commands cuts low (words ∷ rest) h zero zero le lt = omega arith
fronts_rise opening commands cuts low (words ∷ rest) h zero (suc j) le lt = fronts_above opening commands cuts (front_of words) rest h.2 j (omega arith)
fronts_rise opening commands cuts low (words ∷ rest) h (suc i) zero le lt = absurd (omega arith)
fronts_rise opening commands cuts low (words ∷ rest) h (suc i) (suc j) le lt = fronts_rise opening commands cuts (front_of words) rest h.2 i j (omega arith) (omega arith)

record_of : (opening : Opening) (commands : List Command) (cuts : List ℕ) (records : List (List (List ℕ))) → AreRecords opening commands cuts records → (r : ℕ) → IsRecordFrom opening commands cuts 0 (record_at records r)
record_of opening commands cuts [] h r = tt
record_of opening commands cuts (x ∷ records) h zero = h.0
record_of opening commands cuts (x ∷ records) h (suc r) = record_of opening commands cuts records h.1 r

first_rise : (readings rest whole : List (List ℕ)) → whole ≡ readings ++ rest → IsNonDecreasingBy front_of whole → IsNonDecreasingBy front_of readings
first_rise readings rest whole e up =
    subst (IsNonDecreasingBy front_of) (ap (take (length readings)) e ∙ (take-append-le (length readings) readings rest (omega arith) ∙ take_all (length readings) readings (omega arith)))
    (IsNonDecreasingBy-take front_of (length readings) whole up)

nothing_falls : IsNonDecreasingBy front_of []
nothing_falls = IsNonDecreasingBy-short front_of [] (omega arith)

readers_all : (events : List Event) (m : MachineState) → length (state_after_events m events).readers ≡ length m.readers
readers_all [] m = refl
readers_all (event ∷ events) m = readers_all events (transition m event).0 ∙ (as_many_after m no_auxiliary (outcome m no_auxiliary event)).0

module _ (ledger : Ledger) (readers : ℕ) (events : List Event) where
  abbrev m : MachineState
  m = state_after_events (machine_at_start ledger readers) events

  abbrev aux : Auxiliary
  aux = auxiliary_steps (machine_at_start ledger readers) (auxiliary_start ledger readers) events

  abbrev reported : ℕ → List (List ℕ)
  reported number = sheets_reported number (notes (machine_at_start ledger readers) events)

  pub run_reported : RecordsAreReported (state_after_events (machine_at_start ledger readers) events) (auxiliary_steps (machine_at_start ledger readers) (auxiliary_start ledger readers) events) (notes (machine_at_start ledger readers) events)
  run_reported =
      reported_all events (machine_at_start ledger readers) (auxiliary_start ledger readers) (λ r. [])
      (λ r stage at. record_at_start readers r ∙ ap about_to_leave (stage_at_start readers r stage at)) (as_many_at_start readers)

  from_record : AreRecords m.ledger.opening m.writer.published aux.cuts aux.records → (r : ℕ) (stage : Stage) → slice_get m.readers r ≡ Some stage → IsNonDecreasingBy front_of (reported (suc r))
  from_record legal r stage at =
      first_rise (reported (suc r)) (about_to_leave stage) (record_at aux.records r) (run_reported r stage at)
      (IsNonDecreasingBy-from_default front_of (record_at aux.records r) []
      (fronts_rise m.ledger.opening m.writer.published aux.cuts 0 (record_at aux.records r) (record_of m.ledger.opening m.writer.published aux.cuts aux.records legal r)))

  never_older_of : AreRecords m.ledger.opening m.writer.published aux.cuts aux.records → (r : ℕ) (o : Option Stage) → slice_get (machine_at_start ledger readers).readers r ≡ o → IsNonDecreasingBy front_of (reported (suc r))
  never_older_of legal r (Some stage) at =
      let later = there m.readers r (subst (λ (n : ℕ). r < n) (sym (readers_all events (machine_at_start ledger readers))) (inside (machine_at_start ledger readers).readers r stage at)) in
      from_record legal r later.0 later.1
  never_older_of legal r None at =
      subst (IsNonDecreasingBy front_of) (sym (absent_all events (machine_at_start ledger readers) (suc r) (λ q e. ap (slice_get (machine_at_start ledger readers).readers) (let same : q ≡ r = omega arith in same) ∙ at))) nothing_falls

  pub run_never_older : AreRecords m.ledger.opening m.writer.published aux.cuts aux.records → FrontsNeverFall (notes (machine_at_start ledger readers) events)
  run_never_older legal zero = subst (IsNonDecreasingBy front_of) (sym (absent_all events (machine_at_start ledger readers) zero (λ r e. absurd (omega arith)))) nothing_falls
  run_never_older legal (suc r) = never_older_of legal r (slice_get (machine_at_start ledger readers).readers r) refl
