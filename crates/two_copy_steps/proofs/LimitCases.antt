-- Words, steps and readers at their limits and one beside them, computed; and what the definitions of runs and machines
-- exclude.
use Rattle.two_copy_steps.proofs.Names.{[], about_to_leave, Accepted, all_true, ap, arith, Arrived, AtRest, Began, Busy}
use Rattle.two_copy_steps.proofs.Names.{Close, copy_word, cuts_past, false, Filling, first_false, FrontsNeverFall}
use Rattle.two_copy_steps.proofs.Names.{HasVotesInRange, Idle, is_idle, is_pending, IsMachine, IsPublishable}
use Rattle.two_copy_steps.proofs.Names.{IsReadable, Leaving, Ledger, machine_at_start, Moved, None, Open, other_side}
use Rattle.two_copy_steps.proofs.Names.{pin, pin_of, Publish, Published, Read, Reader, Reading, reading, readings_after}
use Rattle.two_copy_steps.proofs.Names.{refl, Refusal, Refused, replicate, Seeing, SequentialRun, sheet_read}
use Rattle.two_copy_steps.proofs.Names.{sheets_reported, Skipped, Some, stage_with_words, Submit, Swapping, sym}
use Rattle.two_copy_steps.proofs.Names.{transition, true, true≢false, Writer, ℕ, ◌++◌, ◌+◌, ◌^◌, ◌∷◌, ◌≡◌, ◌≤◌}
use Rattle.council_core.specs.Sequential.{answered}
use Rattle.council_core.specs.declared.calls.Answer.TheVariants as answer
use Rattle.council_core.specs.declared.refusals.Refusal.TheVariants.{BadLimit}
use Rattle.two_copy_steps.specs.Actions.{filling_phase, seeing_phase}
use Rattle.two_copy_steps.specs.Effects.{AllAnswer, OutputIsReply, SwapsOnce}
use Rattle.two_copy_steps.specs.Lawful.{IsPrefix, last_front}
use Rattle.two_copy_steps.specs.Machines.{IsFew}
use Rattle.two_copy_steps.specs.Publications.{seen_out_at}
use Rattle.two_copy_steps.specs.Runs.{IsFault}
use Rattle.two_copy_steps.specs.Stages.{accessed_word, last_load, last_step, left_by, reading_steps, stage_of}
use Rattle.two_copy_steps.specs.States.{EndsWith}
use Rattle.two_copy_steps.specs.declared.stages.Access.TheVariants.{Load, Store}
use Rattle.two_copy_steps.specs.declared.stages.ReaderPc.TheVariants as pc
use Rattle.two_copy_steps.proofs.WorkedCases.{first_sheet, last_sheet, one_member}

-- the first and the last word of each copy, and the pins behind them
words_of_copies : (copy_word 0 0 ≡ 1) × (copy_word 0 33 ≡ 34) × (copy_word 1 0 ≡ 35) × (copy_word 1 33 ≡ 68)
words_of_copies = (refl, refl, refl, refl)

pins : (pin 0 ≡ 69) × (pin 3 ≡ 72) × (other_side 0 ≡ 1) × (other_side 1 ≡ 0)
pins = (refl, refl, refl, refl)

pins_of_stages : (pin_of AtRest ≡ 0) × (pin_of Arrived ≡ 1) × (pin_of (Reading 0 []) ≡ 1) × (pin_of (Leaving 0 []) ≡ 1)
pins_of_stages = (refl, refl, refl, refl)

-- the last word that is loaded, and the last that is stored
last_word : (stage_with_words 1 (replicate 33 0) ≡ Reading 1 (replicate 33 0)) × (stage_with_words 1 (replicate 34 0) ≡ Leaving 1 (replicate 34 0)) × (filling_phase 33 ≡ Filling 33) × (filling_phase 34 ≡ Swapping)
last_word = (refl, refl, refl, refl)

steps : (last_load ≡ 35) × (last_step ≡ 36) × (reading_steps ≡ 37)
steps = (refl, refl, refl)

-- filling begins once all readers are quiescent
quiescent : (all_true [] ≡ true) × (all_true (true ∷ true ∷ []) ≡ true) × (all_true (true ∷ false ∷ []) ≡ false) × (all_true (false ∷ true ∷ []) ≡ false)
quiescent = (refl, refl, refl, refl)

first_to_see : (first_false (false ∷ false ∷ []) ≡ 0) × (first_false (true ∷ false ∷ true ∷ []) ≡ 1) × (first_false (true ∷ true ∷ []) ≡ 2) × (seeing_phase (true ∷ true ∷ []) ≡ Filling 0) × (seeing_phase (true ∷ false ∷ []) ≡ Seeing)
first_to_see = (refl, refl, refl, refl, refl)

-- readers are numbered from 1
seen_by_number : (seen_out_at (true ∷ false ∷ []) 0 ≡ false) × (seen_out_at (true ∷ false ∷ []) 1 ≡ true) × (seen_out_at (true ∷ false ∷ []) 2 ≡ false) × (seen_out_at (true ∷ true ∷ []) 3 ≡ false)
seen_by_number = (refl, refl, refl, refl)

few_readers : (IsFew 0 → ⊥) × IsFew 1 × IsFew 4 × (IsFew 5 → ⊥)
few_readers = (λ h. omega (arith, h.0), (omega arith, omega arith), (omega arith, omega arith), λ h. omega (arith, h.1))

-- a cut comes at the store of side, and a reading at the load of its last word
cuts_of_phases : (cuts_past Swapping (Open 1 ∷ []) (0 ∷ []) ≡ 0 ∷ 1 ∷ []) × (cuts_past (Filling 33) (Open 1 ∷ []) (0 ∷ []) ≡ 0 ∷ []) × (cuts_past Idle (Open 1 ∷ []) (0 ∷ []) ≡ 0 ∷ [])
cuts_of_phases = (refl, refl, refl)

readings_of_stages : (readings_after (Reading 0 []) (Leaving 0 (7 ∷ [])) ([] ∷ []) ≡ [] ∷ (7 ∷ []) ∷ []) × (readings_after (Leaving 0 (7 ∷ [])) AtRest ([] ∷ []) ≡ [] ∷ []) × (readings_after (Reading 0 []) (Reading 0 (7 ∷ [])) ([] ∷ []) ≡ [] ∷ [])
readings_of_stages = (refl, refl, refl)

sheets_of_stages : (sheet_read (Reading 0 (7 ∷ [])) ≡ None) × (sheet_read (Leaving 0 (7 ∷ [])) ≡ Some (7 ∷ [])) × (about_to_leave Arrived ≡ []) × (about_to_leave (Leaving 0 (7 ∷ [])) ≡ (7 ∷ []) ∷ [])
sheets_of_stages = (refl, refl, refl, refl)

-- a reader is at a stage with its side once that is loaded, and with the words that are
stages_of_counters : (stage_of pc.AtRest 1 (7 ∷ 8 ∷ []) ≡ AtRest) × (stage_of pc.Arrived 1 (7 ∷ 8 ∷ []) ≡ Arrived) × (stage_of (pc.Reading 0) 1 (7 ∷ 8 ∷ []) ≡ Reading 1 []) × (stage_of (pc.Reading 1) 1 (7 ∷ 8 ∷ []) ≡ Reading 1 (7 ∷ []))
    × (stage_of pc.Leaving 1 (7 ∷ 8 ∷ []) ≡ Leaving 1 (7 ∷ 8 ∷ []))
stages_of_counters = (refl, refl, refl, refl, refl)

-- a load leaves the number that it finds, and a store its own
accesses : (accessed_word (Load 5) ≡ 5) × (accessed_word (Store 69 1) ≡ 69) × (left_by (Load 5) 7 ≡ 7) × (left_by (Store 69 1) 7 ≡ 1)
accesses = (refl, refl, refl, refl)

-- a reader loads up to 33 words, and leaves with 34, which are a sheet
still_loading : IsReadable (Reading 0 (replicate 33 0)) × (IsReadable (Reading 0 (replicate 34 0)) → ⊥)
still_loading = (omega arith, λ h. omega (arith, h))

leaves_early : IsReadable (Leaving 0 (replicate 33 0)) → ⊥
leaves_early h = omega (arith, h.0)

leaves_with_no_sheet : IsReadable (Leaving 0 (1 ∷ 2 ∷ replicate 32 0)) → ⊥
leaves_with_no_sheet h = omega (arith, h.1.cast)

ends_with_another : EndsWith ((7 ∷ []) ∷ []) (Leaving 0 (8 ∷ [])) → ⊥
ends_with_another ([], same) = let e = same in cc e
ends_with_another (first ∷ [], same) = let e = same in cc e
ends_with_another (first ∷ second ∷ rest, same) = let e = same in cc e

-- commands are pending if more are accepted than published, and nothing is at the start
none_pending : is_pending (machine_at_start one_member 1) ≡ false
none_pending = refl

one_pending : is_pending (transition (machine_at_start one_member 1) (Submit (Open 1))).0 ≡ true
one_pending = refl

idle : (is_idle Idle ≡ true) × (is_idle Seeing ≡ false) × (is_idle (Filling 0) ≡ false) × (is_idle Swapping ≡ false)
idle = (refl, refl, refl, refl)

last_fronts : (last_front 3 [] ≡ 3) × (last_front 3 (last_sheet ∷ first_sheet ∷ []) ≡ 0)
last_fronts = (refl, refl)

-- a prefix
no_prefix : IsPrefix {A = ℕ} (1 ∷ []) (2 ∷ []) → ⊥
no_prefix h = let e = h.1 in cc e

-- what may be published is legal, with numbers in range, and so are a register's votes
abbrev rich : Ledger
rich = record { opening = (65 ∷ 65 ∷ 65 ∷ [], 2 ^ 48 + 1) ∷ []; journal = []; limit = 100 }

refused_published : IsPublishable one_member.opening (Close 1 ∷ []) → ⊥
refused_published h = true≢false (sym h.0.0)

too_many_published : IsPublishable rich.opening [] → ⊥
too_many_published h = omega (arith, h.1.total)

opening_out_of_range : HasVotesInRange rich → ⊥
opening_out_of_range h = omega (arith, h.0.small 0 ([], 0) (omega arith))

-- a machine has published and staged no more than it accepted, and stages that sheet
published_too_much : IsMachine one_member [] 0 1 first_sheet Idle [] [] → ⊥
published_too_much h = omega (arith, h.published_within)

staged_too_much : IsMachine one_member [] 0 0 last_sheet Idle [] [] → ⊥
staged_too_much h = omega (arith, h.staged_within)

staged_another : IsMachine one_member [] 0 0 (1 ∷ replicate 31 0 ++ 10 ∷ 0 ∷ []) Idle [] [] → ⊥
staged_another h = let e = h.sheet_is in cc e

-- the fronts of one reader never fall, and those of two readers are apart
older_reported : (FrontsNeverFall (Read 1 last_sheet ∷ Moved ∷ Read 1 first_sheet ∷ []) → ⊥) × (FrontsNeverFall (Read 2 last_sheet ∷ Read 1 last_sheet ∷ Read 2 first_sheet ∷ []) → ⊥)
older_reported = ((λ h. omega (arith, h 1 0 1 [] (omega arith) (omega arith))), (λ h. omega (arith, h 2 0 1 [] (omega arith) (omega arith))))

reported_by_number : (sheets_reported 1 (Read 1 last_sheet ∷ Published 3 ∷ Read 2 first_sheet ∷ Read 1 last_sheet ∷ []) ≡ last_sheet ∷ last_sheet ∷ []) × (sheets_reported 2 (Read 1 last_sheet ∷ Published 3 ∷ Read 2 first_sheet ∷ Read 1 last_sheet ∷ []) ≡ first_sheet ∷ [])
reported_by_number = (refl, refl)

-- an output is the register's reply, and side is not stored before a publication has begun
reply_made_up : OutputIsReply [] (λ number. None) (Accepted 1) → ⊥
reply_made_up h = let e = h in cc e

reading_made_up : OutputIsReply [] (λ number. None) (Read 1 first_sheet) → ⊥
reading_made_up h = let e = h in cc e

-- no publication, refusal, beginning, blocking reader or skipped event is made up either
publication_made_up : (OutputIsReply [] (λ number. None) (Published 0) → ⊥) × (OutputIsReply (answered (answer.Published 1) ∷ []) (λ number. None) (Published 0) → ⊥)
publication_made_up = ((λ h. let e = h in cc e), λ h. let e = h in cc e)

refusal_made_up : (OutputIsReply [] (λ number. None) (Refused BadLimit) → ⊥) × (OutputIsReply (answered (answer.Refused BadLimit) ∷ []) (λ number. None) (Accepted 1) → ⊥)
refusal_made_up = ((λ h. let e = h in cc e), λ h. let e = h in cc e)

reply_passed_over : (OutputIsReply (answered (answer.Published 0) ∷ []) (λ number. None) Began → ⊥) × (OutputIsReply (answered (answer.Published 0) ∷ []) (λ number. None) (Busy 1) → ⊥)
    × (OutputIsReply (answered (answer.Accepted 1) ∷ []) (λ number. None) Skipped → ⊥)
reply_passed_over = ((λ h. let e = h in cc e), (λ h. let e = h in cc e), λ h. let e = h in cc e)

reading_of_another : OutputIsReply [] (λ number. Some (reading last_sheet)) (Read 1 first_sheet) → ⊥
reading_of_another h = let e = h in cc e

swapped_without_a_beginning : SwapsOnce false Writer Swapping → ⊥
swapped_without_a_beginning h = true≢false (sym h)

-- the register beside the machine has no room for a command, and so does not accept it as the machine does, also after another event
abbrev full : SequentialRun
full = record { register = record { ledger = record one_member { limit = 0 }; published = 0 }; replied = λ number. None; begun = false }

accepted_alone : AllAnswer full (machine_at_start one_member 1) (Submit (Open 1) ∷ []) → ⊥
accepted_alone h = let e = h.0.0 in cc e

accepted_afterwards : AllAnswer full (machine_at_start one_member 1) (Reader 2 ∷ Submit (Open 1) ∷ []) → ⊥
accepted_afterwards h = let e = h.1.0.0 in cc e

-- a fault comes after events of the list, and leaves the register as they left it
within_the_events : (register : Ledger) (done : ℕ) (why : Refusal) → IsFault one_member 1 (Publish ∷ []) register done why → done ≤ 1
within_the_events register done why h = h.within

another_register : IsFault one_member 0 [] (record one_member { limit = 7 }) 0 BadLimit → ⊥
another_register h = let e = ap (λ (l : Ledger). l.limit) h.left in omega (arith, e)
