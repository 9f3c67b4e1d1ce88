-- A reading, step by step.
use Rattle.board_share.proofs.Names.{[], ap, arith, Arrived, AtRest, Command, cond, eqb, false, IsLegalSheet, last_or}
use Rattle.board_share.proofs.Names.{Leaving, List, None, none-some, Opening, Option, ReaderState, ReaderView, Reading}
use Rattle.board_share.proofs.Names.{readings_after, refl, same_Some, sheet, Some, Stage, stage_action, subst, suc, sym}
use Rattle.board_share.proofs.Names.{take, TookStep, true, zero, ℕ, ◌++◌, ◌+◌, ◌∙◌, ◌∷◌, ◌≡◌, ◌≤◌}
use Rattle.std.proofs.Common.{length-take, IfSome}
use Rattle.std.specs.Option.{option_map}
use Rattle.std.specs.Prelude.{IsTrue, is_ok, ◌&&◌}
use Rattle.council_core.specs.Rolls.{Roll, opening_roll, next_roll, step, all_accepted}
use Rattle.council_core.specs.Sheets.{front_of}
use Rattle.council_core.specs.Sequential.{IsRecordFrom}
use Rattle.two_copy_steps.specs.Lawful.{last_front}
use Rattle.two_copy_steps.specs.Stages.{IsReadable, sheet_read, steps_taken, last_step}
use Rattle.two_copy_steps.specs.States.{EndsWith}
use Rattle.board_share.specs.declared.readers.Reading as reading
use Rattle.board_share.proofs.Histories.{last_pushed}
use Rattle.board_share.specs.Readers.{HasLegalRecord, last_of}
use Rattle.two_copy_steps.proofs.Face as stages

-- the steps are counted one by one
pub counted : (p p' : ReaderState) → TookStep p p' → IsReadable p.stage → steps_taken p'.stage ≡ cond (eqb (steps_taken p.stage) last_step) 0 (steps_taken p.stage + 1)
counted p p' t h = ap (λ (v : ReaderView). steps_taken v.stage) t.knows ∙ stages.counted p.index t.found p.stage h

pub last_is : (readings before : List (List ℕ)) (words : List ℕ) → readings ≡ before ++ words ∷ [] → last_or None readings ≡ Some words
last_is readings before words e = ap (last_or None) e ∙ last_pushed None before words

-- what is answered is the last sheet of the record
ended_at : (r : ℕ) (st : Stage) (found : ℕ) (readings : List (List ℕ)) (words : List ℕ) → sheet_read st ≡ Some words → EndsWith readings st
    → (earlier : List (List ℕ)) × (readings_after st ((stage_action r st).after found) readings ≡ earlier ++ words ∷ [])
ended_at r AtRest found readings words e h = absurd (none-some words e)
ended_at r Arrived found readings words e h = absurd (none-some words e)
ended_at r (Reading s ws) found readings words e h = absurd (none-some words e)
ended_at r (Leaving s ws) found readings words e h = (h.0, h.1 ∙ ap (λ (w : List ℕ). h.0 ++ w ∷ []) (same_Some ws words e))

pub ended : (p p' : ReaderState) (answer : Option reading.Reading) → TookStep p p' → option_map (λ x. x.sheet) answer ≡ sheet_read p.stage → EndsWith p.readings p.stage
    → IfSome answer (λ x. last_of p' ≡ Some x.sheet)
ended p p' None t e h = tt
ended p p' (Some x) t e h =
    let f = ended_at p.index p.stage t.found p.readings x.sheet (sym e) h in
    last_is p'.readings f.0 x.sheet (ap (λ (v : ReaderView). v.readings) t.knows ∙ f.1)

last_above : (opening : Opening) (list : List Command) (cuts : List ℕ) (low : ℕ) (before : List (List ℕ)) (words : List ℕ) → IsRecordFrom opening list cuts low (before ++ words ∷ [])
    → last_front low before ≤ front_of words
last_above opening list cuts low [] words h = h.1
last_above opening list cuts low (x ∷ xs) words h = last_above opening list cuts (front_of x) xs words h.2

-- the last sheet of a legal record has no lower front than the one before
pub above : (p : ReaderState) (before : List (List ℕ)) (words : List ℕ) → HasLegalRecord p → p.readings ≡ before ++ words ∷ [] → last_front 0 before ≤ front_of words
above p before words h e = last_above p.opening h.0 h.1 0 before words (subst (λ (x : List (List ℕ)). IsRecordFrom p.opening h.0 h.1 0 x) e h.2.readings.0)

-- the first commands of a legal list are one
accepted_take : (r : Roll) (k : ℕ) (list : List Command) → IsTrue (all_accepted r list) → IsTrue (all_accepted r (take k list))
accepted_take r zero list h = refl
accepted_take r (suc k) [] h = h
accepted_take r (suc k) (c ∷ cs) h =
    elim (is_ok (step r c)) as (λ b. IsTrue (b && all_accepted (next_roll r c) cs) → IsTrue (b && all_accepted (next_roll r c) (take k cs))) [ true ↦ λ g. accepted_take (next_roll r c) k cs g | false ↦ λ g. g ] h

last_cut : (opening : Opening) (list : List Command) (cuts : List ℕ) (low : ℕ) (before : List (List ℕ)) (words : List ℕ) → IsRecordFrom opening list cuts low (before ++ words ∷ [])
    → (cut : ℕ) × (words ≡ sheet opening (take cut list))
last_cut opening list cuts low [] words h = (h.0.0, h.0.2)
last_cut opening list cuts low (x ∷ xs) words h = last_cut opening list cuts (front_of x) xs words h.2

-- the last sheet of a legal record is that of a legal list
pub last_legal : (p : ReaderState) (before : List (List ℕ)) (words : List ℕ) → HasLegalRecord p → p.readings ≡ before ++ words ∷ [] → IsLegalSheet p.opening words
last_legal p before words h e =
    let c = last_cut p.opening h.0 h.1 0 before words (subst (λ (x : List (List ℕ)). IsRecordFrom p.opening h.0 h.1 0 x) e h.2.readings.0) in
    let legal = h.2.legal in
    let bound = legal.1 in
    (take c.0 h.0, (accepted_take (opening_roll p.opening) c.0 h.0 legal.0, omega (arith, length-take c.0 h.0)), c.1)
