-- Each output that answers a call is the sequential register's reply.
use Rattle.two_copy_steps.proofs.Names.{[], abandoned_writing, after_reader_step, ap, append_assoc, arith, Arrived}
use Rattle.two_copy_steps.proofs.Names.{AtRest, Auxiliary, Bool, Busy, Command, cond, copy_word, COPY_WORDS, dite}
use Rattle.two_copy_steps.proofs.Names.{eq-eqb, eqb, Err, Event, false, Filling, Fills, first_false, get_or}
use Rattle.two_copy_steps.proofs.Names.{get_or-set_other, HoldsCopy, Idle, is_idle, is_pending, IsLawfulMachine}
use Rattle.two_copy_steps.proofs.Names.{Leaving, length, length-append, List, machine_and_note, MachineState, Moved}
use Rattle.two_copy_steps.proofs.Names.{ne_eqb, None, Note, Ok, Opening, Option, other_side, Phase, phase_action}
use Rattle.two_copy_steps.proofs.Names.{phase_note, pin, Publish, published_by, Reader, reader_transition, Reading}
use Rattle.two_copy_steps.proofs.Names.{reading, record_at, refl, Refusal, replied_at, replies_of, Reply}
use Rattle.two_copy_steps.proofs.Names.{Result, Seeing, seen_writing, Sequential, sequential_step, SequentialRun, set}
use Rattle.two_copy_steps.proofs.Names.{set-get_or, sheet, ShowsSheet, Skipped, slice_get, Some, Stage, stage_note}
use Rattle.two_copy_steps.proofs.Names.{stage_with_words, Stands, state_after, state_of, Submit, subst, suc, Swapping}
use Rattle.two_copy_steps.proofs.Names.{sym, take, transition, true, true≢false, verdict_of, Writer, Writing, zero, ℕ}
use Rattle.two_copy_steps.proofs.Names.{ℕ_discrete, ⊎_elim, ⊤, ◌++◌, ◌+◌, ◌<◌, ◌∙◌, ◌∷◌, ◌≡◌, ◌≢◌, ◌≤◌}
use Rattle.std.proofs.Common.{ltb-false}
use Rattle.std.proofs.lemmas.List.{ext_get_or}
use Rattle.std.proofs.Math.Seq.{take-append_seam}
use Rattle.council_core.specs.declared.calls.Answer.TheVariants as answer
use Rattle.council_core.specs.Sequential.{Call, submit, publish, answered}
use Rattle.council_core.specs.Sequential as sequential
use Rattle.two_copy_steps.specs.Effects.{phase_effect, stage_effect, reader_effect, replied_to, begun_after, OutputIsReply, SwapsOnce, AnswersEvent}
use Rattle.two_copy_steps.proofs.Lists.{at_set}
use Rattle.two_copy_steps.proofs.Records.{sheet_long}
use Rattle.two_copy_steps.proofs.ReaderSteps.{Alike, same, pin_set, copy_word_low, read_more}
use Rattle.two_copy_steps.proofs.WriterSteps.{copy_word_above, copy_word_apart, all_at}
use Rattle.two_copy_steps.proofs.TransitionSteps.{view_at, viewed_at, looked_taken}

-- the sequential register that goes with a machine
abbrev pub sequential_of : MachineState → Sequential
sequential_of m = record { ledger = m.ledger; published = length m.writer.published }

-- what a reader is reading is what it has been replied
abbrev pub Held : List ℕ → Option Reply → Stage → Type 0
Held words given AtRest = Unit {0}
Held words given Arrived = Unit {0}
Held words given (Reading side loaded) = (numbers : List ℕ) × (given ≡ Some (reading numbers)) × (length numbers ≡ COPY_WORDS) × ShowsSheet words side numbers
Held words given (Leaving side loaded) = given ≡ Some (reading loaded)

abbrev pub AllHeld : List ℕ → (ℕ → Option Reply) → List Stage → Type 0
AllHeld words replied readers = (r : ℕ) (stage : Stage) → slice_get readers r ≡ Some stage → Held words (replied (suc r)) stage

pub record Agrees (t : SequentialRun) (m : MachineState) : Type 0 where
  pub register : t.register ≡ sequential_of m
  pub held : AllHeld m.words t.replied m.readers
  pub begun : is_idle m.writer.phase ≡ false → t.begun ≡ true

abbrev sequential_run : MachineState → (ℕ → Option Reply) → Bool → SequentialRun
sequential_run m replied b = record { register = sequential_of m; replied = replied; begun = b }

-- what is to be shown of an event, by its calls, its note, the machine after it, and what the readers have been replied
abbrev Goes : MachineState → Bool → List Call → Note → MachineState → (ℕ → Option Reply) → (ℕ → Option Reply) → Type 0
Goes m b calls note m' replied replied' =
    Agrees (record { register = state_after (sequential_of m) calls; replied = replied'; begun = begun_after b note }) m' × OutputIsReply (replies_of (sequential_of m) calls) replied note

module _ (Legal : Opening → List Command → Type 0) where
  held_alike : (r : ℕ) (ws vs : List ℕ) → Alike r ws vs → (given : Option Reply) (stage : Stage) → Held ws given stage → Held vs given stage
  held_alike r ws vs a given AtRest h = tt
  held_alike r ws vs a given Arrived h = tt
  held_alike r ws vs a given (Reading s xs) h = (h.0, h.1, h.2, λ i l. a.low (copy_word s i) (copy_word_low s i l) ∙ h.3 i l)
  held_alike r ws vs a given (Leaving s xs) h = h

  -- one reader moves, and the others hold what they held
  all_held : (m : MachineState) (r : ℕ) (stage : Stage) (vs : List ℕ) (replied replied' : ℕ → Option Reply) → AllHeld m.words replied m.readers → Alike r m.words vs
      → ((k : ℕ) → k ≢ suc r → replied' k ≡ replied k) → Held vs (replied' (suc r)) stage → AllHeld vs replied' (set m.readers r stage)
  all_held m r stage vs replied replied' all alike stays held q other at =
      ⊎_elim (λ (t : (q ≡ r) × (stage ≡ other)). subst (λ (z : ℕ × Stage). Held vs (replied' (suc z.0)) z.1) (λ i. (sym t.0 i, t.1 i)) held)
      (λ (t : (q ≢ r) × (slice_get m.readers q ≡ Some other)). let apart = t.0 in
      subst (λ (z : Option Reply). Held vs z other) (sym (stays (suc q) (λ e. apart (omega arith)))) (held_alike r m.words vs alike (replied (suc q)) other (all q other t.1)))
      (at_set m.readers r q stage other at)

  -- what the sequential register shows is what is published
  is_shown : (m : MachineState) (aux : Auxiliary) → IsLawfulMachine Legal m aux → take (length m.writer.published) m.ledger.journal ≡ m.writer.published
  is_shown m aux l =
      let w = m.writer in
      let b = l.state.writer.begins in
      let e = l.extends in
      let whole : m.ledger.journal ≡ w.published ++ (b.0 ++ e.0) = e.1 ∙ (ap (λ (c : List Command). c ++ e.0) b.1 ∙ append_assoc w.published b.0 e.0) in
      ap (take (length w.published)) whole ∙ take-append_seam w.published (b.0 ++ e.0)

  loaded_held : (words : List ℕ) (given : Option Reply) (s : ℕ) (ws numbers : List ℕ) → given ≡ Some (reading numbers) → length numbers ≡ COPY_WORDS → ShowsSheet words s numbers
      → ((i : ℕ) → i < length ws → get_or ws i 0 ≡ get_or words (copy_word s i) 0) → length ws ≤ COPY_WORDS → Held words given (stage_with_words s ws)
  loaded_held words given s ws numbers is long shows as_stored short =
      let F : Bool → Type 0 = λ b. Held words given (cond b (Leaving s ws) (Reading s ws)) in
      dite (ℕ_discrete (length ws) COPY_WORDS)
      (λ e. subst F (sym (eq-eqb (length ws) COPY_WORDS e)) (is ∙ ap (λ (x : List ℕ). Some (reading x)) (sym (ext_get_or 0 ws numbers (e ∙ sym long) (λ i l. as_stored i l ∙ shows i (omega arith))))))
      (λ ne. subst F (sym (ne_eqb (length ws) COPY_WORDS ne)) (numbers, is, long, shows))

  abbrev ReadGoes : MachineState → Bool → (ℕ → Option Reply) → ℕ → Stage → Type 0
  ReadGoes m b replied r stage =
      Goes m b (stage_effect stage) (stage_note (suc r) stage) (after_reader_step m r stage) replied (λ k. replied_at (sequential_run m replied b) (suc r) stage k)

  others_none : (number : ℕ) (given : Option Reply) (replied : ℕ → Option Reply) (k : ℕ) → k ≢ number → cond (eqb k number) given (replied k) ≡ replied k
  others_none number given replied k ne = ap (λ (b : Bool). cond b given (replied k)) (ne_eqb k number ne)

  read_goes : (m : MachineState) (aux : Auxiliary) → IsLawfulMachine Legal m aux → (b : Bool) (replied : ℕ → Option Reply) → Agrees (sequential_run m replied b) m
      → (r : ℕ) (stage : Stage) → slice_get m.readers r ≡ Some stage → ReadGoes m b replied r stage
  read_goes m aux l b replied a r AtRest at = (
    record {
      register = refl;
      held = all_held m r Arrived (set m.words (pin r) 1) replied (λ k. cond (eqb k (suc r)) None (replied k)) a.held (pin_set r 1 m.words) (others_none (suc r) None replied) tt;
      begun = a.begun;
    },
    tt,
  )
  read_goes m aux l b replied a r Arrived at =
      let words : List ℕ = m.words in
      let s : ℕ = get_or words 0 0 in
      let o = l.state.writer in
      let new : List ℕ = sheet m.ledger.opening (take (length m.writer.published) m.ledger.journal) in
      let given : Option Reply = Some (reading new) in
      let replied' : ℕ → Option Reply = λ k. cond (eqb k (suc r)) given (replied k) in
      let here : replied' (suc r) ≡ given = ap (λ (z : Bool). cond z given (replied (suc r))) (eq-eqb (suc r) (suc r) refl) in
      let shows : ShowsSheet words s new = λ i g. ap (λ (z : ℕ). get_or words (copy_word z i) 0) o.side_is ∙ (o.shown i g ∙ ap (λ (z : List Command). get_or (sheet m.ledger.opening z) i 0) (sym (is_shown m aux l))) in
      let held : AllHeld words replied' (set m.readers r (Reading s [])) = all_held m r (Reading s []) words replied replied' a.held (same r words) (others_none (suc r) given replied)
      (new, here, sheet_long m.ledger.opening (take (length m.writer.published) m.ledger.journal), shows) in (
        record {
          register = refl;
          held = subst (λ (vs : List ℕ). AllHeld vs replied' (set m.readers r (Reading s []))) (sym (set-get_or words 0 0)) held;
          begun = a.begun;
        },
        tt,
      )
  read_goes m aux l b replied a r (Reading s ws) at =
      let words : List ℕ = m.words in
      let i : ℕ = copy_word s (length ws) in
      let x : ℕ = get_or words i 0 in
      let h = (l.state.each_reader r (view_at (Reading s ws) (record_at aux.records r)) (viewed_at m.readers aux.records r (Reading s ws) at)).stands in
      let short : length ws < COPY_WORDS = h.1 in
      let more : length (ws ++ x ∷ []) ≡ length ws + 1 = length-append ws (x ∷ []) in
      let g = a.held r (Reading s ws) at in
      let held : AllHeld words replied (set m.readers r (stage_with_words s (ws ++ x ∷ []))) = all_held m r (stage_with_words s (ws ++ x ∷ [])) words replied replied a.held (same r words) (λ k ne. refl)
      (loaded_held words (replied (suc r)) s (ws ++ x ∷ []) g.0 g.1 g.2 g.3 (λ j lt. read_more words ws s x refl h.2 j (omega arith)) (omega arith)) in (
        record {
          register = refl;
          held = subst (λ (vs : List ℕ). AllHeld vs replied (set m.readers r (stage_with_words s (ws ++ x ∷ [])))) (sym (set-get_or words i 0)) held;
          begun = a.begun;
        },
        tt,
      )
  read_goes m aux l b replied a r (Leaving s ws) at = (
    record {
      register = refl;
      held = all_held m r AtRest (set m.words (pin r) 0) replied replied a.held (pin_set r 0 m.words) (λ k ne. refl) tt;
      begun = a.begun;
    },
    a.held r (Leaving s ws) at,
  )

  -- the copies that readers read are left as they are
  abbrev Unharmed : MachineState → Auxiliary → List ℕ → Type 0
  Unharmed m aux vs =
      (r s : ℕ) (readings : List (List ℕ)) → HoldsCopy m.ledger.opening (Legal m.ledger.opening) m.words (state_of m aux).writer readings r s
      → (i : ℕ) → i < COPY_WORDS → get_or vs (copy_word s i) 0 ≡ get_or m.words (copy_word s i) 0

  held_on : (m : MachineState) (aux : Auxiliary) (vs : List ℕ) → Unharmed m aux vs → (given : Option Reply) (readings : List (List ℕ)) (r : ℕ) (stage : Stage)
      → Stands m.ledger.opening (Legal m.ledger.opening) m.words (state_of m aux).writer readings r stage → Held m.words given stage → Held vs given stage
  held_on m aux vs u given readings r AtRest h k = tt
  held_on m aux vs u given readings r Arrived h k = tt
  held_on m aux vs u given readings r (Reading s ws) h k = (k.0, k.1, k.2, λ i l. u r s readings h.0 i l ∙ k.3 i l)
  held_on m aux vs u given readings r (Leaving s ws) h k = k

  all_held_on : (m : MachineState) (aux : Auxiliary) → IsLawfulMachine Legal m aux → (vs : List ℕ) → Unharmed m aux vs → (replied : ℕ → Option Reply) → AllHeld m.words replied m.readers → AllHeld vs replied m.readers
  all_held_on m aux l vs u replied all r stage at =
      let ok = l.state.each_reader r (view_at stage (record_at aux.records r)) (viewed_at m.readers aux.records r stage at) in
      held_on m aux vs u (replied (suc r)) (record_at aux.records r) r stage ok.stands (all r stage at)

  abbrev WriteGoes : MachineState → Bool → (ℕ → Option Reply) → Phase → Type 0
  WriteGoes m b replied phase =
      let d = phase_action (sheet m.ledger.opening) m.writer phase in
      let found = get_or m.words d.word 0 in
      Goes m b (phase_effect phase) (phase_note m.writer phase found) (record m { words = set m.words d.word (d.becomes found); writer = d.after found }) replied replied × SwapsOnce b Writer phase

  -- where a pin is found at 0 the publication goes on, else it is given up
  looked_begun : (w : Writing) (number : ℕ) (b z : Bool) → b ≡ true
      → is_idle (cond z (seen_writing w number) (abandoned_writing w)).phase ≡ false → begun_after b (cond z Moved (Busy (suc number))) ≡ true
  looked_begun w number b true begun busy = begun
  looked_begun w number b false begun busy = cc

  looked_reports : (replied : ℕ → Option Reply) (number : ℕ) (z : Bool) → OutputIsReply [] replied (cond z Moved (Busy number))
  looked_reports replied number true = tt
  looked_reports replied number false = refl

  write_goes : (m : MachineState) (aux : Auxiliary) → IsLawfulMachine Legal m aux → (b : Bool) (replied : ℕ → Option Reply) → Agrees (sequential_run m replied b) m
      → (phase : Phase) → m.writer.phase ≡ phase → WriteGoes m b replied phase
  write_goes m aux l b replied a Idle is = (
    (
      record {
        register = refl;
        held = subst (λ (vs : List ℕ). AllHeld vs replied m.readers) (sym (set-get_or m.words 0 0)) a.held;
        begun = a.begun;
      },
      refl,
    ),
    tt,
  )
  write_goes m aux l b replied a Seeing is =
      let w = m.writer in
      let r : ℕ = first_false w.seen_out in
      let k : ℕ = get_or m.words (pin r) 0 in (
        (
          record {
            register = ap (λ (z : List Command). let s : Sequential = record { ledger = m.ledger; published = length z } in s) (sym (looked_taken w r (eqb k 0)).0);
            held = subst (λ (vs : List ℕ). AllHeld vs replied m.readers) (sym (set-get_or m.words (pin r) 0)) a.held;
            begun = looked_begun w r b (eqb k 0) (a.begun (ap is_idle is));
          },
          looked_reports replied (suc r) (eqb k 0),
        ),
        tt,
      )
  write_goes m aux l b replied a (Filling k) is =
      let w = m.writer in
      let word' : ℕ = copy_word (other_side w.side) k in
      let x : ℕ = get_or (sheet m.ledger.opening w.staged) k 0 in
      let o = l.state.writer in
      let f = subst (Fills m.ledger.opening (Legal m.ledger.opening) m.words w) is o.fills in (
        (
          record {
            register = refl;
            held = all_held_on m aux l (set m.words word' x)
                (λ r s readings holds i lt.
                let here : s ≡ w.side = dite (ℕ_discrete s w.side) (λ z. z) (λ ne. absurd (all_at w.seen_out r f.1.0 (holds.late ne))) in
                get_or-set_other m.words word' (copy_word s i) x 0 (subst (λ (z : ℕ). copy_word z i ≢ word') (sym here) (copy_word_apart w.side i k o.two lt f.0)))
                replied a.held;
            begun = λ _. a.begun (ap is_idle is);
          },
          tt,
        ),
        tt,
      )
  write_goes m aux l b replied a Swapping is =
      let w = m.writer in
      let whole = l.whole (ap is_idle is) in
      let long : length m.ledger.journal ≡ length w.staged = ap (length {A = Command}) (sym whole) in (
        (
          record {
            register = ap (λ (z : ℕ). let s : Sequential = record { ledger = m.ledger; published = z } in s) long;
            held = all_held_on m aux l (set m.words 0 (other_side w.side))
                (λ r s readings holds i lt. get_or-set_other m.words 0 (copy_word s i) (other_side w.side) 0 (λ z. let g = copy_word_above s i in omega arith))
                replied a.held;
            begun = λ e. absurd (true≢false e);
          },
          ap (λ (z : ℕ). answered (answer.Published z) ∷ []) long,
        ),
        a.begun (ap is_idle is),
      )

  abbrev PublishGoes : MachineState → Bool → (ℕ → Option Reply) → Bool → Bool → Type 0
  PublishGoes m b replied idle pending =
      let after = cond idle (published_by m pending) (m, Skipped) in
      Goes m b (cond idle (cond pending [] (publish ∷ [])) []) after.1 after.0 replied replied

  not_pending : (m : MachineState) (aux : Auxiliary) → IsLawfulMachine Legal m aux → is_pending m ≡ false → length m.ledger.journal ≡ length m.writer.published
  not_pending m aux l none =
      let b = ap (length {A = Command}) l.state.writer.begins.1 in
      let e = ap (length {A = Command}) l.extends.1 in
      let ge = ltb-false (length m.writer.published) (length m.ledger.journal) none in
      omega (arith, length-append m.writer.published l.state.writer.begins.0, length-append m.writer.staged l.extends.0)

  publish_goes : (m : MachineState) (aux : Auxiliary) → IsLawfulMachine Legal m aux → (b : Bool) (replied : ℕ → Option Reply) → Agrees (sequential_run m replied b) m
      → (idle pending : Bool) → is_idle m.writer.phase ≡ idle → is_pending m ≡ pending → PublishGoes m b replied idle pending
  publish_goes m aux l b replied a false pending is now = (a, refl)
  publish_goes m aux l b replied a true true is now = (record { register = refl; held = a.held; begun = λ _. refl }, refl)
  publish_goes m aux l b replied a true false is now =
      let long = not_pending m aux l now in (
        record {
          register = ap (λ (z : ℕ). let s : Sequential = record { ledger = m.ledger; published = z } in s) long;
          held = a.held;
          begun = λ e. absurd (true≢false (sym is ∙ e));
        },
        ap (λ (z : ℕ). answered (answer.Published z) ∷ []) long,
      )

  abbrev SubmitGoes : MachineState → Bool → (ℕ → Option Reply) → Command → Bool → Type 0
  SubmitGoes m b replied command idle =
      let after = cond idle (machine_and_note m command (verdict_of m.ledger command)) (m, Skipped) in
      Goes m b (cond idle (submit command ∷ []) []) after.1 after.0 replied replied

  -- the same by the verdict
  abbrev VerdictGoes : MachineState → Bool → (ℕ → Option Reply) → Command → Result ⊤ Refusal → Type 0
  VerdictGoes m b replied command v =
      let after = machine_and_note m command v in
      let replies = sequential.submit_response (sequential_of m) command v in
      Agrees (record { register = replies.0; replied = replied; begun = begun_after b after.1 }) after.0 × OutputIsReply (replies.1 ∷ []) replied after.1

  verdict_goes : (m : MachineState) (b : Bool) (replied : ℕ → Option Reply) → Agrees (sequential_run m replied b) m → (command : Command) → (v : Result ⊤ Refusal) → VerdictGoes m b replied command v
  verdict_goes m b replied a command (Ok u) = (record { register = refl; held = a.held; begun = a.begun }, refl)
  verdict_goes m b replied a command (Err refusal) = (record { register = refl; held = a.held; begun = a.begun }, refl)

  submit_goes : (m : MachineState) (b : Bool) (replied : ℕ → Option Reply) → Agrees (sequential_run m replied b) m → (command : Command) → (idle : Bool) → SubmitGoes m b replied command idle
  submit_goes m b replied a command false = (a, refl)
  submit_goes m b replied a command true = verdict_goes m b replied a command (verdict_of m.ledger command)

  reader_goes : (m : MachineState) (aux : Auxiliary) → IsLawfulMachine Legal m aux → (b : Bool) (replied : ℕ → Option Reply) → Agrees (sequential_run m replied b) m → (r : ℕ) (o : Option Stage) → slice_get m.readers r ≡ o
      → Goes m b (reader_effect o) (reader_transition m r o).1 (reader_transition m r o).0 replied (λ k. replied_to (sequential_run m replied b) (suc r) o k)
  reader_goes m aux l b replied a r None at = (a, refl)
  reader_goes m aux l b replied a r (Some stage) at = read_goes m aux l b replied a r stage at

  abbrev EventGoes : SequentialRun → MachineState → Event → Type 0
  EventGoes t m event = Agrees (sequential_step t m event) (transition m event).0 × AnswersEvent t m event

  event_goes : (m : MachineState) (aux : Auxiliary) → IsLawfulMachine Legal m aux → (b : Bool) (replied : ℕ → Option Reply) → Agrees (sequential_run m replied b) m → (event : Event) → EventGoes (sequential_run m replied b) m event
  event_goes m aux l b replied a (Submit command) = let g = submit_goes m b replied a command (is_idle m.writer.phase) in (g.0, (g.1, tt))
  event_goes m aux l b replied a Publish = let g = publish_goes m aux l b replied a (is_idle m.writer.phase) (is_pending m) refl refl in (g.0, (g.1, tt))
  event_goes m aux l b replied a Writer = let g = write_goes m aux l b replied a m.writer.phase refl in (g.0.0, (g.0.1, g.1))
  event_goes m aux l b replied a (Reader zero) = (a, (refl, tt))
  event_goes m aux l b replied a (Reader (suc r)) = let g = reader_goes m aux l b replied a r (slice_get m.readers r) refl in (g.0, (g.1, tt))

  -- an event keeps the machine in agreement with the sequential register, and an output that
  -- answers a call is that register's reply
  pub event_agrees : (m : MachineState) (aux : Auxiliary) → IsLawfulMachine Legal m aux → (t : SequentialRun) → Agrees t m → (event : Event) → EventGoes t m event
  event_agrees m aux l t a event =
      subst (λ (s : Sequential). EventGoes (let z : SequentialRun = record { register = s; replied = t.replied; begun = t.begun } in z) m event) (sym a.register)
      (event_goes m aux l t.begun t.replied record { register = refl; held = a.held; begun = a.begun } event)
