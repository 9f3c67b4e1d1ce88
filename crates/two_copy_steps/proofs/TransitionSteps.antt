-- Each event keeps the invariant of the machine, with its cuts and records.
use Rattle.two_copy_steps.proofs.Names.{[], abandoned_writing, ap, append-nil, append_assoc, arith, Auxiliary}
use Rattle.two_copy_steps.proofs.Names.{auxiliary_reader_step, auxiliary_step, Bool, Command, cond, eqb, Err, Event}
use Rattle.two_copy_steps.proofs.Names.{false, Filling, first_false, get_or, Idle, is_idle, is_pending, IsLawfulMachine}
use Rattle.two_copy_steps.proofs.Names.{IsLawfulState, ledger_with, length, length-set, List, machine_and_note}
use Rattle.two_copy_steps.proofs.Names.{MachineState, map, None, none-some, Ok, Opening, Option, Phase, phase_action}
use Rattle.two_copy_steps.proofs.Names.{Publish, published_by, Reader, reader_transition, ReaderView, readings_after}
use Rattle.two_copy_steps.proofs.Names.{record_at, refl, Refusal, Result, same_Some, Seeing, seen_writing, set, sheet}
use Rattle.two_copy_steps.proofs.Names.{Skipped, slice_get, Some, Stage, stage_action, State, state_of, Submit, subst}
use Rattle.two_copy_steps.proofs.Names.{suc, Swapping, sym, transition, true, true≢false, verdict_of, Writer, Writing}
use Rattle.two_copy_steps.proofs.Names.{zero, ℕ, ⊤, ◌++◌, ◌<◌, ◌∙◌, ◌∷◌, ◌≡◌}
use Rattle.two_copy_steps.specs.Actions.{writing_action}
use Rattle.two_copy_steps.specs.Auxiliary.{reader_views}
use Rattle.two_copy_steps.proofs.Lists.{inside}
use Rattle.two_copy_steps.proofs.ReaderSteps.{reader_keeps}
use Rattle.two_copy_steps.proofs.WriterSteps.{writer_keeps, begin_keeps}

-- stages with their records
abbrev pub view_at : Stage → List (List ℕ) → ReaderView
view_at stage readings = record { stage = stage; readings = readings }

pub viewed_length : (stages : List Stage) (records : List (List (List ℕ))) → length (reader_views stages records) ≡ length stages
viewed_length [] records = refl
viewed_length (stage ∷ stages) [] = ap suc (viewed_length stages [])
viewed_length (stage ∷ stages) (x ∷ records) = ap suc (viewed_length stages records)

pub viewed_at : (stages : List Stage) (records : List (List (List ℕ))) (r : ℕ) (stage : Stage) → slice_get stages r ≡ Some stage
    → slice_get (reader_views stages records) r ≡ Some (view_at stage (record_at records r))
viewed_at [] records r stage e = absurd (none-some stage e)
viewed_at (x ∷ stages) [] zero stage e = ap (λ z. Some (view_at z [])) (same_Some x stage e)
viewed_at (x ∷ stages) [] (suc r) stage e = viewed_at stages [] r stage e
viewed_at (x ∷ stages) (y ∷ records) zero stage e = ap (λ z. Some (view_at z y)) (same_Some x stage e)
viewed_at (x ∷ stages) (y ∷ records) (suc r) stage e = viewed_at stages records r stage e

pub viewed_set : (stages : List Stage) (records : List (List (List ℕ))) (r : ℕ) (stage : Stage) (readings : List (List ℕ)) → r < length records
    → reader_views (set stages r stage) (set records r readings) ≡ set (reader_views stages records) r (view_at stage readings)
viewed_set [] records r stage readings h = refl
viewed_set (x ∷ stages) [] r stage readings h = absurd (omega arith)
viewed_set (x ∷ stages) (y ∷ records) zero stage readings h = refl
viewed_set (x ∷ stages) (y ∷ records) (suc r) stage readings h = ap (λ l. view_at x y ∷ l) (viewed_set stages records r stage readings (omega arith))

-- the stages and the records of these views
pub stages_viewed : (stages : List Stage) (records : List (List (List ℕ))) → map (λ (v : ReaderView). v.stage) (reader_views stages records) ≡ stages
stages_viewed [] records = refl
stages_viewed (stage ∷ stages) [] = ap (λ l. stage ∷ l) (stages_viewed stages [])
stages_viewed (stage ∷ stages) (x ∷ records) = ap (λ l. stage ∷ l) (stages_viewed stages records)

pub records_viewed : (stages : List Stage) (records : List (List (List ℕ))) → length records ≡ length stages → map (λ (v : ReaderView). v.readings) (reader_views stages records) ≡ records
records_viewed [] [] e = refl
records_viewed [] (x ∷ records) e = absurd (omega (arith, e))
records_viewed (stage ∷ stages) [] e = absurd (omega (arith, e))
records_viewed (stage ∷ stages) (x ∷ records) e = ap (λ l. x ∷ l) (records_viewed stages records (omega (arith, e)))

-- a look at a pin keeps the published and the staged list
pub looked_taken : (w : Writing) (r : ℕ) (b : Bool) → let y = cond b (seen_writing w r) (abandoned_writing w) in (y.published ≡ w.published) × (y.staged ≡ w.staged)
looked_taken w r true = (refl, refl)
looked_taken w r false = (refl, refl)

-- a step of the writer keeps the staged list
pub staged_kept : (opening : Opening) (w : Writing) (p : Phase) (found : ℕ) → ((phase_action (sheet opening) w p).after found).staged ≡ w.staged
staged_kept opening w Idle found = refl
staged_kept opening w Seeing found = (looked_taken w (first_false w.seen_out) (eqb found 0)).1
staged_kept opening w (Filling k) found = refl
staged_kept opening w Swapping found = refl

still_whole : (opening : Opening) (w : Writing) (p : Phase) (found : ℕ) (journal : List Command) → w.phase ≡ p → (is_idle w.phase ≡ false → w.staged ≡ journal)
    → is_idle ((phase_action (sheet opening) w p).after found).phase ≡ false → ((phase_action (sheet opening) w p).after found).staged ≡ journal
still_whole opening w Idle found journal e h = h
still_whole opening w Seeing found journal e h = λ _. staged_kept opening w Seeing found ∙ h (ap is_idle e)
still_whole opening w (Filling k) found journal e h = λ _. h (ap is_idle e)
still_whole opening w Swapping found journal e h = λ _. h (ap is_idle e)

module _ (Legal : Opening → List Command → Type 0) where
  abbrev Keeps : MachineState → Auxiliary → Event → Type 0
  Keeps m aux event = IsLawfulMachine Legal (transition m event).0 (auxiliary_step m aux event)

  -- a reader's step
  read_keeps : (m : MachineState) (aux : Auxiliary) → IsLawfulMachine Legal m aux → (r : ℕ) (o : Option Stage) → slice_get m.readers r ≡ o
      → IsLawfulMachine Legal (reader_transition m r o).0 (auxiliary_reader_step m aux r o)
  read_keeps m aux l r None at = l
  read_keeps m aux l r (Some stage) at =
      let d = stage_action r stage in
      let found : ℕ = get_or m.words d.word 0 in
      let readings : List (List ℕ) = readings_after stage (d.after found) (record_at aux.records r) in
      let here : r < length aux.records = subst (λ (n : ℕ). r < n) (sym l.each_record) (inside m.readers r stage at) in
      let kept = reader_keeps m.ledger.opening (Legal m.ledger.opening) (state_of m aux) l.state r (view_at stage (record_at aux.records r)) (viewed_at m.readers aux.records r stage at) in
      record {
        state = subst (λ (views : List ReaderView). IsLawfulState m.ledger.opening (Legal m.ledger.opening)
            (let s : State = record { words = set m.words d.word (d.becomes found); writer = record { state = m.writer; cuts = aux.cuts }; readers = views } in s))
            (sym (viewed_set m.readers aux.records r (d.after found) readings here)) kept;
        extends = l.extends;
        whole = l.whole;
        each_record = length-set aux.records r readings ∙ (l.each_record ∙ sym (length-set m.readers r (d.after found)));
      }

  -- the writer's step
  pub written_keeps : (m : MachineState) (aux : Auxiliary) → IsLawfulMachine Legal m aux → Keeps m aux Writer
  written_keeps m aux l =
      let w = m.writer in
      let opening = m.ledger.opening in
      let found : ℕ = get_or m.words (writing_action (sheet opening) w).word 0 in
      record {
        state = writer_keeps opening (Legal opening) (state_of m aux) l.state;
        extends = (l.extends.0, l.extends.1 ∙ ap (λ (commands : List Command). commands ++ l.extends.0) (sym (staged_kept opening w w.phase found)));
        whole = still_whole opening w w.phase found m.ledger.journal refl l.whole;
        each_record = l.each_record;
      }

  -- a publication begins, or nothing is pending
  published_keeps : (m : MachineState) (aux : Auxiliary) → IsLawfulMachine Legal m aux → Legal m.ledger.opening m.ledger.journal → (b : Bool) → IsLawfulMachine Legal (published_by m b).0 aux
  published_keeps m aux l legal false = l
  published_keeps m aux l legal true =
      record {
        state = begin_keeps m.ledger.opening (Legal m.ledger.opening) (state_of m aux) l.state m.ledger.journal l.extends.0 legal (sym l.extends.1);
        extends = ([], sym (append-nil m.ledger.journal));
        whole = λ _. refl;
        each_record = l.each_record;
      }

  pub publish_keeps : (m : MachineState) (aux : Auxiliary) → IsLawfulMachine Legal m aux → Legal m.ledger.opening m.ledger.journal → Keeps m aux Publish
  publish_keeps m aux l legal =
      elim (is_idle m.writer.phase) as (λ b. IsLawfulMachine Legal (cond b (published_by m (is_pending m)) (m, Skipped)).0 aux) [ true ↦ published_keeps m aux l legal (is_pending m) | false ↦ l ]

  -- the register accepts a command
  pub accepted_keeps : (m : MachineState) (aux : Auxiliary) → IsLawfulMachine Legal m aux → (command : Command) → is_idle m.writer.phase ≡ true → IsLawfulMachine Legal (record m { ledger = ledger_with m.ledger command }) aux
  accepted_keeps m aux l command idle =
      record {
        state = l.state;
        extends = (l.extends.0 ++ command ∷ [], ap (λ (commands : List Command). commands ++ command ∷ []) l.extends.1 ∙ append_assoc m.writer.staged l.extends.0 (command ∷ []));
        whole = λ busy. absurd (true≢false (sym idle ∙ busy));
        each_record = l.each_record;
      }

  submitted_keeps : (m : MachineState) (aux : Auxiliary) → IsLawfulMachine Legal m aux → (command : Command) (v : Result ⊤ Refusal) → is_idle m.writer.phase ≡ true → IsLawfulMachine Legal (machine_and_note m command v).0 aux
  submitted_keeps m aux l command (Ok u) idle = accepted_keeps m aux l command idle
  submitted_keeps m aux l command (Err refusal) idle = l

  pub submit_keeps : (m : MachineState) (aux : Auxiliary) → IsLawfulMachine Legal m aux → (command : Command) → Keeps m aux (Submit command)
  submit_keeps m aux l command =
      elim (is_idle m.writer.phase) as (λ b. is_idle m.writer.phase ≡ b → IsLawfulMachine Legal (cond b (machine_and_note m command (verdict_of m.ledger command)) (m, Skipped)).0 aux)
      [ true ↦ λ idle. submitted_keeps m aux l command (verdict_of m.ledger command) idle | false ↦ λ busy. l ] refl

  -- the step of an actor
  pub step_keeps : (m : MachineState) (aux : Auxiliary) → IsLawfulMachine Legal m aux → (number : ℕ) → Keeps m aux (Reader number)
  step_keeps m aux l zero = l
  step_keeps m aux l (suc r) = read_keeps m aux l r (slice_get m.readers r) refl

  -- for any event
  pub transition_keeps : (m : MachineState) (aux : Auxiliary) → IsLawfulMachine Legal m aux → Legal m.ledger.opening m.ledger.journal → (event : Event) → Keeps m aux event
  transition_keeps m aux l legal (Submit command) = submit_keeps m aux l command
  transition_keeps m aux l legal Publish = publish_keeps m aux l legal
  transition_keeps m aux l legal Writer = written_keeps m aux l
  transition_keeps m aux l legal (Reader number) = step_keeps m aux l number
