-- The cuts, over every list of events: each is below the next, and the last is the length of the list published.
use Rattle.two_copy_steps.proofs.Names.{[], abandoned_writing, ap, arith, Auxiliary, auxiliary_start, auxiliary_step}
use Rattle.two_copy_steps.proofs.Names.{auxiliary_steps, cond, cuts_past, eqb, Event, false, Filling, first_false}
use Rattle.two_copy_steps.proofs.Names.{get_or, Idle, is_idle, Ledger, length, List, machine_at_start, MachineState}
use Rattle.two_copy_steps.proofs.Names.{None, Note, Opening, Option, Phase, phase_action, refl, same_Some, Seeing}
use Rattle.two_copy_steps.proofs.Names.{seen_writing, sheet, Some, state_after_events, subst, suc, Swapping, transition}
use Rattle.two_copy_steps.proofs.Names.{true, true≢false, Writing, zero, ℕ, ◌++◌, ◌+◌, ◌<◌, ◌∷◌, ◌≡◌}
use Rattle.std.specs.List.{last_or}
use Rattle.std.specs.List.Sorted.{IsStrictlyIncreasing}
use Rattle.std.proofs.lemmas.Bool.{ltb-true}
use Rattle.two_copy_steps.proofs.Outcomes.{Outcome, outcome, skipped, accepted, refused, current, began, wrote, stepped}

last_behind : (o : Option ℕ) (xs : List ℕ) (x : ℕ) → last_or o (xs ++ x ∷ []) ≡ Some x
last_behind o [] x = refl
last_behind o (y ∷ xs) x = last_behind (Some y) xs x

-- one more number, above the last
rises_on : (xs : List ℕ) (l x : ℕ) → IsStrictlyIncreasing xs → last_or None xs ≡ Some l → l < x → IsStrictlyIncreasing (xs ++ x ∷ [])
rises_on [] l x h e above = λ k less. absurd (omega arith)
rises_on (y ∷ []) l x h e above = at
  where
    same : y ≡ l
    same = same_Some y l e

    at : (k : ℕ) → k + 1 < 2 → get_or (y ∷ x ∷ []) k 0 < get_or (y ∷ x ∷ []) (k + 1) 0
    at zero less = let is = same in omega arith
    at (suc k) less = absurd (omega arith)
rises_on (y ∷ z ∷ xs) l x h e above = at (rises_on (z ∷ xs) l x from_next e above)
  where
    from_next : IsStrictlyIncreasing (z ∷ xs)
    from_next j short =
        let next : suc j + 1 ≡ suc (j + 1) = omega arith in
        subst (λ (n : ℕ). get_or (z ∷ xs) j 0 < get_or (y ∷ z ∷ xs) n 0) next (h (suc j) (omega arith))

    at : IsStrictlyIncreasing (z ∷ xs ++ x ∷ []) → (k : ℕ) → k + 1 < length (y ∷ z ∷ xs ++ x ∷ []) → get_or (y ∷ z ∷ xs ++ x ∷ []) k 0 < get_or (y ∷ z ∷ xs ++ x ∷ []) (k + 1) 0
    at on zero less = h 0 (omega arith)
    at on (suc k) less =
        let next : suc (k + 1) ≡ suc k + 1 = omega arith in
        subst (λ (n : ℕ). get_or (z ∷ xs ++ x ∷ []) k 0 < get_or (y ∷ z ∷ xs ++ x ∷ []) n 0) next (on k (omega arith))

-- and a list that a publication takes is longer than the one published
pub record HasCuts (w : Writing) (cuts : List ℕ) : Type 0 where
  pub ascending : IsStrictlyIncreasing cuts
  pub last : last_or None cuts ≡ Some (length w.published)
  pub longer : is_idle w.phase ≡ false → length w.published < length w.staged

-- a step of the writer
cuts_stepped : (opening : Opening) (w : Writing) (p : Phase) (found : ℕ) (cuts : List ℕ) → w.phase ≡ p → HasCuts w cuts → HasCuts ((phase_action (sheet opening) w p).after found) (cuts_past p w.staged cuts)
cuts_stepped opening w Idle found cuts e h = h
cuts_stepped opening w Seeing found cuts e h =
    let more : length w.published < length w.staged = h.longer (ap is_idle e) in
    elim (eqb found 0) as (λ b. HasCuts (cond b (seen_writing w (first_false w.seen_out)) (abandoned_writing w)) cuts) [
      | true ↦ record { ascending = h.ascending; last = h.last; longer = λ _. more }
      | false ↦ record { ascending = h.ascending; last = h.last; longer = λ busy. absurd (true≢false busy) }
    ]
cuts_stepped opening w (Filling k) found cuts e h = record { ascending = h.ascending; last = h.last; longer = λ _. h.longer (ap is_idle e) }
cuts_stepped opening w Swapping found cuts e h =
    record {
      ascending = rises_on cuts (length w.published) (length w.staged) h.ascending h.last (h.longer (ap is_idle e));
      last = last_behind None cuts (length w.staged);
      longer = λ busy. absurd (true≢false busy);
    }

-- for any event: a publication that begins has something pending
cuts_after : (m : MachineState) (aux : Auxiliary) → HasCuts m.writer aux.cuts → {next : MachineState} {after : Auxiliary} {event : Event} {note : Note} → Outcome m aux event next after note → HasCuts next.writer after.cuts
cuts_after m aux h wrote =
    cuts_stepped m.ledger.opening m.writer m.writer.phase (get_or m.words (phase_action (sheet m.ledger.opening) m.writer m.writer.phase).word 0) aux.cuts refl h
cuts_after m aux h (began pending) =
    record { ascending = h.ascending; last = h.last; longer = λ _. ltb-true (length m.writer.published) (length m.ledger.journal) pending }
cuts_after m aux h (skipped event) = h
cuts_after m aux h (accepted command ok) = h
cuts_after m aux h (refused command why) = h
cuts_after m aux h current = h
cuts_after m aux h (stepped r stage at) = h

cuts_along : (events : List Event) (m : MachineState) (aux : Auxiliary) → HasCuts m.writer aux.cuts → HasCuts (state_after_events m events).writer (auxiliary_steps m aux events).cuts
cuts_along [] m aux h = h
cuts_along (event ∷ events) m aux h = cuts_along events (transition m event).0 (auxiliary_step m aux event) (cuts_after m aux h (outcome m aux event))

-- from the start
pub run_cuts : (ledger : Ledger) (readers : ℕ) (events : List Event) → HasCuts (state_after_events (machine_at_start ledger readers) events).writer (auxiliary_steps (machine_at_start ledger readers) (auxiliary_start ledger readers) events).cuts
run_cuts ledger readers events =
    cuts_along events (machine_at_start ledger readers) (auxiliary_start ledger readers) record { ascending = λ k less. absurd (omega arith); last = refl; longer = λ busy. absurd (true≢false busy) }
