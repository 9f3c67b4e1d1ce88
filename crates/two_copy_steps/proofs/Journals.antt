-- Legal journals, for any event.
use Rattle.two_copy_steps.proofs.Names.{[], ap, arith, Auxiliary, Bool, Command, cond, eq-eqb, eqb, Err, Event, false}
use Rattle.two_copy_steps.proofs.Names.{HasVotesInRange, Ledger, ledger_with, length, length-append, List, MachineState}
use Rattle.two_copy_steps.proofs.Names.{Note, Ok, Opening, refl, Refusal, Result, Submit, sym, transition, true}
use Rattle.two_copy_steps.proofs.Names.{true≢false, verdict_of, ⊤, ◌++◌, ◌∷◌, ◌≡◌, ◌≢◌, ◌≤◌}
use Rattle.std.proofs.Common.{◌&&◌, is_ok, IsTrue}
use Rattle.std.proofs.lemmas.List.Elements.{All-push}
use Rattle.std.specs.Result.{result_and}
use Rattle.council_core.specs.Laws.{SetsInRange}
use Rattle.council_core.specs.declared.refusals.Refusal.TheVariants.{JournalFull}
use Rattle.council_core.specs.Rolls.{Roll, opening_roll, fold_from, next_roll, step, all_accepted}
use Rattle.council_core.specs.Ledgers.{roll_of, room_of}
use Rattle.two_copy_steps.specs.Laws.{SubmitsInRange}
use Rattle.two_copy_steps.proofs.Outcomes.{Outcome, outcome, no_auxiliary, skipped, accepted, refused, current, began, wrote, stepped}

-- each command is accepted in its turn
abbrev pub IsAccepted : Opening → List Command → Type 0
IsAccepted opening commands = IsTrue (all_accepted (opening_roll opening) commands)

and_on : (b x y : Bool) → (IsTrue x → IsTrue y) → IsTrue (b && x) → IsTrue (b && y)
and_on true x y f h = f h
and_on false x y f h = cc

both : (a b : Bool) → IsTrue a → IsTrue b → IsTrue (a && b)
both true b p q = q
both false b p q = cc

-- one more command, at the end
accepted_push : (r : Roll) (commands : List Command) (command : Command) → IsTrue (all_accepted r commands) → IsTrue (is_ok (step (fold_from r commands) command)) → IsTrue (all_accepted r (commands ++ command ∷ []))
accepted_push r [] command h g = both (is_ok (step r command)) true g refl
accepted_push r (c ∷ cs) command h g =
    and_on (is_ok (step r c)) (all_accepted (next_roll r c) cs) (all_accepted (next_roll r c) (cs ++ command ∷ [])) (λ q. accepted_push (next_roll r c) cs command q g) h

step_ok : (v : Result Roll Refusal) (room : Result ⊤ Refusal) → result_and v room ≡ Ok tt → IsTrue (is_ok v) × (room ≡ Ok tt)
step_ok (Ok r) room e = (refl, e)
step_ok (Err refusal) room e = absurd (true≢false (sym (ap is_ok e)))

-- a command that the register accepts
pub accepted_more : (ledger : Ledger) (command : Command) → IsAccepted ledger.opening ledger.journal → verdict_of ledger command ≡ Ok tt → IsAccepted ledger.opening (ledger.journal ++ command ∷ [])
accepted_more ledger command h v = accepted_push (opening_roll ledger.opening) ledger.journal command h (step_ok (step (roll_of ledger) command) (room_of ledger) v).0

full_room : (b : Bool) → b ≡ true → is_ok (let r : Result ⊤ Refusal = cond b (Err JournalFull) (Ok tt) in r) ≡ true → ⊥
full_room true p q = true≢false (sym q)
full_room false p q = true≢false (sym p)

room_there : (ledger : Ledger) → room_of ledger ≡ Ok tt → length ledger.journal ≢ ledger.limit
room_there ledger h e = full_room (eqb (length ledger.journal) ledger.limit) (eq-eqb (length ledger.journal) ledger.limit e) (ap is_ok h)

-- a fact of the journal and its limit that each accepted command of such events keeps
module _ (P : Ledger → Type 0) (May : Event → Type 0) (more : (ledger : Ledger) (command : Command) → P ledger → May (Submit command) → verdict_of ledger command ≡ Ok tt → P (ledger_with ledger command)) where
  kept : {m next : MachineState} {aux after : Auxiliary} {event : Event} {note : Note} → Outcome m aux event next after note → P m.ledger → May event → P next.ledger
  kept (accepted command ok) h may = more _ command h may ok
  kept (skipped event) h may = h
  kept (refused command why) h may = h
  kept current h may = h
  kept (began pending) h may = h
  kept wrote h may = h
  kept (stepped r stage at) h may = h

  pub ledger_keeps : (m : MachineState) → P m.ledger → (event : Event) → May event → P (transition m event).0.ledger
  ledger_keeps m h event = kept (outcome m no_auxiliary event) h

abbrev AnyEvent : Event → Type 0
AnyEvent event = Unit {0}

-- the journal keeps being accepted
pub journal_accepted : (m : MachineState) → IsAccepted m.ledger.opening m.ledger.journal → (event : Event) → IsAccepted (transition m event).0.ledger.opening (transition m event).0.ledger.journal
journal_accepted m h event = ledger_keeps (λ l. IsAccepted l.opening l.journal) AnyEvent (λ l command h _. accepted_more l command h) m h event tt

-- a journal within its limit, which is at most a million
abbrev pub IsWithin : Ledger → Type 0
IsWithin ledger = (length ledger.journal ≤ ledger.limit) × (ledger.limit ≤ 1000000)

pub journal_within : (m : MachineState) → IsWithin m.ledger → (event : Event) → IsWithin (transition m event).0.ledger
journal_within m h event =
    ledger_keeps IsWithin AnyEvent (λ l command h _ v.
    let below = h.0 in
    let apart = room_there l (step_ok (step (roll_of l) command) (room_of l) v).1 in
    (omega (arith, length-append l.journal (command ∷ [])), h.1)) m h event tt

-- votes stay in range
pub stays_in_range : (m : MachineState) → HasVotesInRange m.ledger → (event : Event) → SubmitsInRange event → HasVotesInRange (transition m event).0.ledger
stays_in_range = ledger_keeps HasVotesInRange SubmitsInRange (λ l command h c _. (h.0, All-push SetsInRange l.journal command h.1 c))
