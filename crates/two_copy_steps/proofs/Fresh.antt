-- A reader at rest reads nothing older than what is published by then.
use Rattle.two_copy_steps.proofs.Names.{[], ap, arith, Arrived, AtRest, Auxiliary, auxiliary_start, auxiliary_step}
use Rattle.two_copy_steps.proofs.Names.{auxiliary_steps, Bool, Command, cond, COPY_WORDS, eq-eqb, eqb, Event, false}
use Rattle.two_copy_steps.proofs.Names.{Filling, first_false, front_of, get_or, Idle, is_idle, is_pending}
use Rattle.two_copy_steps.proofs.Names.{IsLawfulMachine, le_trans, Leaving, Ledger, length, length-append, length-take}
use Rattle.two_copy_steps.proofs.Names.{List, machine_and_note, machine_at_start, MachineState, ne_eqb, None, Note}
use Rattle.two_copy_steps.proofs.Names.{Option, Phase, phase_action, Publish, published_by, Read, Reader}
use Rattle.two_copy_steps.proofs.Names.{reader_transition, Reading, reading, refl, replied_at, Reply, response_to}
use Rattle.two_copy_steps.proofs.Names.{same_Some, Seeing, Sequential, sequential_start, sequential_step, SequentialRun}
use Rattle.two_copy_steps.proofs.Names.{sheet, Skipped, slice_get, Some, Stage, stage_action, state_after_events}
use Rattle.two_copy_steps.proofs.Names.{Submit, subst, suc, Swapping, sym, take, transition, true, verdict_of, Writer}
use Rattle.two_copy_steps.proofs.Names.{zero, ℕ, ⊎_elim, ◌++◌, ◌∙◌, ◌∷◌, ◌≡◌, ◌≢◌, ◌≤◌}
use Rattle.std.proofs.Common.{le_refl}
use Rattle.council_core.specs.Sequential as sequential
use Rattle.two_copy_steps.specs.Effects.{replied_to}
use Rattle.two_copy_steps.proofs.Lists.{at_set}
use Rattle.two_copy_steps.proofs.Journals.{IsAccepted}
use Rattle.two_copy_steps.proofs.EventLists.{Together, together_on, together_after, start_together, after_append}
use Rattle.two_copy_steps.proofs.TransitionSteps.{looked_taken}
use Rattle.two_copy_steps.proofs.Outcomes.{Outcome, outcome, skipped, accepted, refused, current, began, wrote, stepped}

-- what is published never gets shorter
module _ (m : MachineState) (aux : Auxiliary) (l : IsLawfulMachine IsAccepted m aux) where
  by_phase : (phase : Phase) → length m.writer.published ≤ length ((phase_action (sheet m.ledger.opening) m.writer phase).after (get_or m.words (phase_action (sheet m.ledger.opening) m.writer phase).word 0)).published
  by_phase Idle = omega arith
  by_phase Seeing =
      let r : ℕ = first_false m.writer.seen_out in
      let same = ap (length {A = Command}) (looked_taken m.writer r (eqb (get_or m.words (phase_action (sheet m.ledger.opening) m.writer Seeing).word 0) 0)).0 in
      omega arith
  by_phase (Filling k) = omega arith
  by_phase Swapping = let b = l.state.writer.begins in let longer = ap (length {A = Command}) b.1 in omega (arith, length-append m.writer.published b.0)

  grows : {next : MachineState} {after : Auxiliary} {event : Event} {note : Note} → Outcome m aux event next after note → length m.writer.published ≤ length next.writer.published
  grows wrote = by_phase m.writer.phase
  grows (stepped r stage at) = omega arith
  grows (skipped event) = omega arith
  grows (accepted command ok) = omega arith
  grows (refused command why) = omega arith
  grows current = omega arith
  grows (began pending) = omega arith

  published_grows : (event : Event) → length m.writer.published ≤ length (transition m event).0.writer.published
  published_grows event = grows (outcome m aux event)

-- a reader that is reading was replied no older sheet
abbrev FreshAt : ℕ → Option Reply → Stage → Type 0
FreshAt low given AtRest = Unit {0}
FreshAt low given Arrived = Unit {0}
FreshAt low given (Reading side words) = (numbers : List ℕ) × (given ≡ Some (reading numbers)) × (low ≤ front_of numbers)
FreshAt low given (Leaving side words) = (numbers : List ℕ) × (given ≡ Some (reading numbers)) × (low ≤ front_of numbers)

abbrev Fresh : ℕ → ℕ → SequentialRun → MachineState → Type 0
Fresh low r t m = (low ≤ length m.writer.published) × ((stage : Stage) → slice_get m.readers r ≡ Some stage → FreshAt low (t.replied (suc r)) stage)

shown_front : (m : MachineState) (aux : Auxiliary) → IsLawfulMachine IsAccepted m aux → front_of (sheet m.ledger.opening (take (length m.writer.published) m.ledger.journal)) ≡ length m.writer.published
shown_front m aux l =
    let begins = ap (length {A = Command}) l.state.writer.begins.1 in
    let extends = ap (length {A = Command}) l.extends.1 in
    let kept = length-take (length m.writer.published) m.ledger.journal in
    omega (arith, length-append m.writer.published l.state.writer.begins.0, length-append m.writer.staged l.extends.0)

module _ (low r : ℕ) (t : SequentialRun) (m : MachineState) (aux : Auxiliary) (h : Together t m aux) (f : Fresh low r t m) where
  -- the reader's own step
  own : (stage : Stage) → slice_get m.readers r ≡ Some stage → FreshAt low (replied_at t (suc r) stage (suc r)) ((stage_action r stage).after (get_or m.words (stage_action r stage).word 0))
  own AtRest at = tt
  own Arrived at =
      let given : Option Reply = Some (response_to t.register sequential.read).1 in
      let here : cond (eqb (suc r) (suc r)) given (t.replied (suc r)) ≡ given = ap (λ (b : Bool). cond b given (t.replied (suc r))) (eq-eqb (suc r) (suc r) refl) in
      let is : given ≡ Some (reading (sheet m.ledger.opening (take (length m.writer.published) m.ledger.journal))) = ap (λ (s : Sequential). let g : Option Reply = Some (response_to s sequential.read).1 in g) h.agrees.register in
      let front = shown_front m aux h.lawful in
      let short = f.0 in
      (sheet m.ledger.opening (take (length m.writer.published) m.ledger.journal), here ∙ is, omega arith)
  own (Reading side words) at =
      elim (eqb (length (words ++ get_or m.words (stage_action r (Reading side words)).word 0 ∷ [])) COPY_WORDS)
      as (λ b. FreshAt low (t.replied (suc r)) (cond b (Leaving side (words ++ get_or m.words (stage_action r (Reading side words)).word 0 ∷ [])) (Reading side (words ++ get_or m.words (stage_action r (Reading side words)).word 0 ∷ []))))
      [ true ↦ f.1 (Reading side words) at | false ↦ f.1 (Reading side words) at ]
  own (Leaving side words) at = tt

  -- another's step replies nothing to this reader
  apart : (q : ℕ) (stage : Stage) → r ≢ q → replied_at t (suc q) stage (suc r) ≡ t.replied (suc r)
  apart q AtRest ne = ap (λ (b : Bool). cond b None (t.replied (suc r))) (ne_eqb (suc r) (suc q) (λ e. ne (omega arith)))
  apart q Arrived ne = ap (λ (b : Bool). cond b (Some (response_to t.register sequential.read).1) (t.replied (suc r))) (ne_eqb (suc r) (suc q) (λ e. ne (omega arith)))
  apart q (Reading side words) ne = refl
  apart q (Leaving side words) ne = refl

  fresh_reader : (q : ℕ) (o : Option Stage) → slice_get m.readers q ≡ o → (stage : Stage) → slice_get (reader_transition m q o).0.readers r ≡ Some stage → FreshAt low (replied_to t (suc q) o (suc r)) stage
  fresh_reader q None is stage at = f.1 stage at
  fresh_reader q (Some s) is stage at =
      ⊎_elim
      (λ (h : (r ≡ q) × ((stage_action q s).after (get_or m.words (stage_action q s).word 0) ≡ stage)).
      subst (FreshAt low (replied_at t (suc q) s (suc r))) h.1
      (subst (λ (k : ℕ). FreshAt low (replied_at t (suc k) s (suc r)) ((stage_action k s).after (get_or m.words (stage_action k s).word 0))) h.0 (own s (ap (slice_get m.readers) h.0 ∙ is))))
      (λ (h : (r ≢ q) × (slice_get m.readers r ≡ Some stage)). subst (λ (g : Option Reply). FreshAt low g stage) (sym (apart q s h.0)) (f.1 stage h.1))
      (at_set m.readers q r ((stage_action q s).after (get_or m.words (stage_action q s).word 0)) stage at)

  fresh_stage : (event : Event) (stage : Stage) → slice_get (transition m event).0.readers r ≡ Some stage → FreshAt low ((sequential_step t m event).replied (suc r)) stage
  fresh_stage (Submit command) =
      elim (is_idle m.writer.phase) as (λ b. (stage : Stage) → slice_get (cond b (machine_and_note m command (verdict_of m.ledger command)) (m, Skipped)).0.readers r ≡ Some stage → FreshAt low (t.replied (suc r)) stage) [ true ↦ f.1 | false ↦ f.1 ]
  fresh_stage Publish =
      elim (is_idle m.writer.phase) as (λ b. (stage : Stage) → slice_get (cond b (published_by m (is_pending m)) (m, Skipped)).0.readers r ≡ Some stage → FreshAt low (t.replied (suc r)) stage) [
        | true ↦ elim (is_pending m) as (λ c. (stage : Stage) → slice_get (published_by m c).0.readers r ≡ Some stage → FreshAt low (t.replied (suc r)) stage) [ true ↦ f.1 | false ↦ f.1 ]
        | false ↦ f.1
      ]
  fresh_stage Writer = f.1
  fresh_stage (Reader zero) = f.1
  fresh_stage (Reader (suc q)) = fresh_reader q (slice_get m.readers q) refl

  stays_fresh : (event : Event) → Fresh low r (sequential_step t m event) (transition m event).0
  stays_fresh event = (le_trans f.0 (published_grows m aux h.lawful event), fresh_stage event)

  -- what it then reads
  reads_fresh : (words : List ℕ) → (transition m (Reader (suc r))).1 ≡ Read (suc r) words → low ≤ front_of words
  reads_fresh words reported = by_stage (slice_get m.readers r) refl reported
    where
      same_sheet : (x y : List ℕ) → Some (reading x) ≡ Some (reading y) → x ≡ y
      same_sheet x y e = cc

      read_words : (n k : ℕ) (x y : List ℕ) → Read n x ≡ Read k y → x ≡ y
      read_words n k x y e = cc

      by_stage : (o : Option Stage) → slice_get m.readers r ≡ o → (reader_transition m r o).1 ≡ Read (suc r) words → low ≤ front_of words
      by_stage None at e = absurd cc
      by_stage (Some AtRest) at e = absurd cc
      by_stage (Some Arrived) at e = absurd cc
      by_stage (Some (Reading side ws)) at e = absurd cc
      by_stage (Some (Leaving side ws)) at e =
          let g = f.1 (Leaving side ws) at in
          let held = h.agrees.held r (Leaving side ws) at in
          let is : g.0 ≡ words = same_sheet g.0 ws (sym g.1 ∙ held) ∙ read_words (suc r) (suc r) ws words e in
          subst (λ (x : List ℕ). low ≤ front_of x) is g.2

-- for any later events
fresh_read : (low r : ℕ) (more : List Event) (t : SequentialRun) (m : MachineState) (aux : Auxiliary) → Together t m aux → Fresh low r t m → (words : List ℕ) → (transition (state_after_events m more) (Reader (suc r))).1 ≡ Read (suc r) words
    → low ≤ front_of words
fresh_read low r [] t m aux h f words reported = reads_fresh low r t m aux h f words reported
fresh_read low r (event ∷ more) t m aux h f words reported =
    fresh_read low r more (sequential_step t m event) (transition m event).0 (auxiliary_step m aux event) (together_on t m aux h event) (stays_fresh low r t m aux h f event) words reported

module _ (ledger : Ledger) (readers : ℕ) (accepted : IsAccepted ledger.opening ledger.journal) where
  -- a reader at rest after some events reads, after any later events, nothing older than what is
  -- published by then
  pub run_fresh : (events more : List Event) (r : ℕ) (words : List ℕ) → slice_get (state_after_events (machine_at_start ledger readers) events).readers r ≡ Some AtRest
      → (transition (state_after_events (machine_at_start ledger readers) (events ++ more)) (Reader (suc r))).1 ≡ Read (suc r) words → length (state_after_events (machine_at_start ledger readers) events).writer.published ≤ front_of words
  run_fresh events more r words rest reported =
      let start : MachineState = machine_at_start ledger readers in
      let m : MachineState = state_after_events start events in
      let t = together_after events (sequential_start ledger) start (auxiliary_start ledger readers) (start_together ledger readers accepted) in
      let low : ℕ = length m.writer.published in
      fresh_read low r more t.0 m (auxiliary_steps start (auxiliary_start ledger readers) events) t.1
      (le_refl low, λ stage at. subst (FreshAt low (t.0.replied (suc r))) (same_Some AtRest stage (sym rest ∙ at)) tt)
      words (ap (λ (x : MachineState). (transition x (Reader (suc r))).1) (sym (after_append events more start)) ∙ reported)
