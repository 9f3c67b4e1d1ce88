-- The reader that blocks a publication, and the readers that stay quiescent.
use Rattle.two_copy_steps.proofs.Names.{[], abandoned_writing, all_true, ap, arith, Arrived, AtRest, Auxiliary, Began}
use Rattle.two_copy_steps.proofs.Names.{Bool, Busy, cond, dite, eq-eqb, eqb, Event, false, Filling, Fills, first_false}
use Rattle.two_copy_steps.proofs.Names.{get_or, Idle, IsLawfulMachine, IsLeastUnseen, IsPublishable, Leaving, List}
use Rattle.two_copy_steps.proofs.Names.{MachineState, Moved, Note, Phase, phase_action, phase_note, pin, pin_of}
use Rattle.two_copy_steps.proofs.Names.{Publish, Reading, refl, Seeing, seen_writing, set, sheet, slice_get, Some}
use Rattle.two_copy_steps.proofs.Names.{Stage, stage_note, state_of, subst, suc, Swapping, sym, transition, true}
use Rattle.two_copy_steps.proofs.Names.{true≢false, Writer, Writing, zero, ℕ, ℕ_discrete, ◌<◌, ◌∙◌, ◌∷◌, ◌≡◌, ◌≢◌}
use Rattle.two_copy_steps.proofs.Outcomes.{Outcome, outcome, no_auxiliary, skipped, accepted, refused, current, began, wrote, stepped}
use Rattle.two_copy_steps.specs.Publications.{StaySeen, stores_side}
use Rattle.two_copy_steps.proofs.Lists.{set_here, set_else, inside, there}
use Rattle.two_copy_steps.proofs.WriterSteps.{first_inside}

-- the first false is the least
pub first_is_least : (out : List Bool) → all_true out ≡ false → IsLeastUnseen out (first_false out)
first_is_least [] e = absurd cc
first_is_least (false ∷ out) e = (refl, λ q h. absurd (omega arith))
first_is_least (true ∷ out) e =
    let h = first_is_least out e in (h.0, before h.1)
  where
    before : ((q : ℕ) → q < first_false out → slice_get out q ≡ Some true) → (q : ℕ) → q < suc (first_false out) → slice_get (true ∷ out) q ≡ Some true
    before g zero h = refl
    before g (suc q) h = g q (omega arith)

busy_number : (a b : ℕ) → Busy a ≡ Busy b → a ≡ b
busy_number a b e = cc e

-- a pin that isn't 0 is 1
pinned_one : (stage : Stage) (found : ℕ) → found ≡ pin_of stage → found ≢ 0 → found ≡ 1
pinned_one AtRest found e ne = absurd (ne e)
pinned_one Arrived found e ne = e
pinned_one (Reading side words) found e ne = e
pinned_one (Leaving side words) found e ne = e

module _ (m : MachineState) (aux : Auxiliary) (l : IsLawfulMachine IsPublishable m aux) where
  abbrev w : Writing
  w = m.writer

  abbrev InTheWay : ℕ → Writing → Type 0
  InTheWay number after =
      (r : ℕ) × (number ≡ suc r) × IsLeastUnseen w.seen_out r × (get_or m.words (pin r) 0 ≡ 1) × (after.seen_out ≡ w.seen_out)

  -- the pin of the reader looked at
  pin_is_one : w.phase ≡ Seeing → get_or m.words (pin (first_false w.seen_out)) 0 ≢ 0 → get_or m.words (pin (first_false w.seen_out)) 0 ≡ 1
  pin_is_one e ne =
      let some : all_true w.seen_out ≡ false = subst (Fills m.ledger.opening (IsPublishable m.ledger.opening) m.words w) e l.state.writer.fills in
      let below = first_inside w.seen_out some in
      let flags = l.state.writer.flags in
      let v = there (state_of m aux).readers (first_false w.seen_out) (omega arith) in
      pinned_one v.0.stage (get_or m.words (pin (first_false w.seen_out)) 0) (l.state.each_reader (first_false w.seen_out) v.0 v.1).pinned ne

  looked : (number : ℕ) (b : Bool) → w.phase ≡ Seeing → eqb (get_or m.words (pin (first_false w.seen_out)) 0) 0 ≡ b
      → cond b Moved (Busy (suc (first_false w.seen_out))) ≡ Busy number
      → InTheWay number (cond b (seen_writing w (first_false w.seen_out)) (abandoned_writing w))
  looked number true is at e = cc e
  looked number false is at e =
      let some : all_true w.seen_out ≡ false = subst (Fills m.ledger.opening (IsPublishable m.ledger.opening) m.words w) is l.state.writer.fills in (
        first_false w.seen_out,
        sym (busy_number (suc (first_false w.seen_out)) number e),
        first_is_least w.seen_out some,
        pin_is_one is (λ z. true≢false (sym (eq-eqb (get_or m.words (pin (first_false w.seen_out)) 0) 0 z) ∙ at)),
        refl,
      )

  by_phase : (number : ℕ) (phase : Phase) → w.phase ≡ phase → let found : ℕ = get_or m.words (phase_action (sheet m.ledger.opening) w phase).word 0 in
      phase_note w phase found ≡ Busy number → InTheWay number ((phase_action (sheet m.ledger.opening) w phase).after found)
  by_phase number Idle is e = cc e
  by_phase number Seeing is e = looked number (eqb (get_or m.words (pin (first_false w.seen_out)) 0) 0) is refl e
  by_phase number (Filling k) is e = cc e
  by_phase number Swapping is e = cc e

  not_stage : (number r : ℕ) (stage : Stage) → stage_note r stage ≡ Busy number → ⊥
  not_stage number r AtRest e = cc e
  not_stage number r Arrived e = cc e
  not_stage number r (Reading side words) e = cc e
  not_stage number r (Leaving side words) e = cc e

  busy_by : {next : MachineState} {after : Auxiliary} {event : Event} {note : Note} → Outcome m aux event next after note → (number : ℕ) → note ≡ Busy number → InTheWay number next.writer
  busy_by wrote number e = by_phase number w.phase refl e
  busy_by (stepped r stage at) number e = absurd (not_stage number (suc r) stage e)
  busy_by (skipped event) number e = cc e
  busy_by (accepted command ok) number e = cc e
  busy_by (refused command why) number e = cc e
  busy_by current number e = cc e
  busy_by (began pending) number e = cc e

  pub busy_is : (event : Event) (number : ℕ) → (transition m event).1 ≡ Busy number → InTheWay number (transition m event).0.writer
  busy_is event number e = busy_by (outcome m aux event) number e

-- quiescent readers stay quiescent
pub set_stays : (out : List Bool) (r : ℕ) → StaySeen out (set out r true)
set_stays out r q e =
    dite (ℕ_discrete q r) (λ (s : q ≡ r). ap (slice_get (set out r true)) s ∙ set_here out r true (inside out r true (ap (slice_get out) (sym s) ∙ e))) (λ ne. set_else out r q true ne ∙ e)

module _ (m : MachineState) where
  looked_stays : (b : Bool) → StaySeen m.writer.seen_out (cond b (seen_writing m.writer (first_false m.writer.seen_out)) (abandoned_writing m.writer)).seen_out
  looked_stays true = set_stays m.writer.seen_out (first_false m.writer.seen_out)
  looked_stays false = λ q e. e

  phase_stays : (phase : Phase) → stores_side Writer phase ≡ false
      → StaySeen m.writer.seen_out ((phase_action (sheet m.ledger.opening) m.writer phase).after (get_or m.words (phase_action (sheet m.ledger.opening) m.writer phase).word 0)).seen_out
  phase_stays Idle h = λ q e. e
  phase_stays Seeing h = looked_stays (eqb (get_or m.words (pin (first_false m.writer.seen_out)) 0) 0)
  phase_stays (Filling k) h = λ q e. e
  phase_stays Swapping h = cc

  stay_by : {next : MachineState} {aux after : Auxiliary} {event : Event} {note : Note} → Outcome m aux event next after note → stores_side event m.writer.phase ≡ false → StaySeen m.writer.seen_out next.writer.seen_out
  stay_by wrote h = phase_stays m.writer.phase h
  stay_by (stepped r stage at) h = λ q e. e
  stay_by (skipped event) h = λ q e. e
  stay_by (accepted command ok) h = λ q e. e
  stay_by (refused command why) h = λ q e. e
  stay_by current h = λ q e. e
  stay_by (began pending) h = λ q e. e

  pub stay_is : (event : Event) → stores_side event m.writer.phase ≡ false → StaySeen m.writer.seen_out (transition m event).0.writer.seen_out
  stay_is event h = stay_by (outcome m no_auxiliary event) h

  -- a publication that begins with all readers quiescent
  begun_by : {next : MachineState} {aux after : Auxiliary} {event : Event} {note : Note} → Outcome m aux event next after note → event ≡ Publish → note ≡ Began → all_true m.writer.seen_out ≡ true → next.writer.phase ≡ Filling 0
  begun_by (began pending) is e all = ap (λ (b : Bool). cond b (Filling 0) Seeing) all
  begun_by wrote is e all = cc is
  begun_by (stepped r stage at) is e all = cc is
  begun_by (skipped event) is e all = cc e
  begun_by (accepted command ok) is e all = cc is
  begun_by (refused command why) is e all = cc is
  begun_by current is e all = cc e

  pub at_once_is : all_true m.writer.seen_out ≡ true → (transition m Publish).1 ≡ Began → (transition m Publish).0.writer.phase ≡ Filling 0
  at_once_is all e = begun_by (outcome m no_auxiliary Publish) refl e all
