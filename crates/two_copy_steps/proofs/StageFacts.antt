-- The stages of a reader, by number and as code.
use Rattle.two_copy_steps.proofs.Names.{[], ap, arith, Arrived, AtRest, Bool, cond, COPY_WORDS, dite, eq-eqb, eqb}
use Rattle.two_copy_steps.proofs.Names.{IsReadable, Leaving, length, length-append, List, ne_eqb, reader_action}
use Rattle.two_copy_steps.proofs.Names.{Reading, refl, sheet_read, Some, Stage, stage_action, stage_with_words}
use Rattle.two_copy_steps.proofs.Names.{steps_taken, sym, ℕ, ℕ_discrete, ◌++◌, ◌+◌, ◌<◌, ◌∙◌, ◌∷◌, ◌≡◌, ◌≢◌, ◌≤◌}
use Rattle.two_copy_steps.specs.Actions.{readings_with}
use Rattle.two_copy_steps.specs.Stages.{last_load, last_step}

-- after the last word the reader leaves
pub loaded_last : (side : ℕ) (words : List ℕ) → length words ≡ COPY_WORDS → stage_with_words side words ≡ Leaving side words
loaded_last side words e = ap (λ (b : Bool). cond b (Leaving side words) (Reading side words)) (eq-eqb (length words) COPY_WORDS e)

pub loaded_more : (side : ℕ) (words : List ℕ) → length words ≢ COPY_WORDS → stage_with_words side words ≡ Reading side words
loaded_more side words ne = ap (λ (b : Bool). cond b (Leaving side words) (Reading side words)) (ne_eqb (length words) COPY_WORDS ne)

-- the steps are counted one by one
pub counted : (r found : ℕ) (stage : Stage) → IsReadable stage → steps_taken ((stage_action r stage).after found) ≡ cond (eqb (steps_taken stage) last_step) 0 (steps_taken stage + 1)
counted r found AtRest h = refl
counted r found Arrived h = refl
counted r found (Leaving side words) h = refl
counted r found (Reading side words) h =
    let short : length words < COPY_WORDS = h in
    let more : length (words ++ found ∷ []) ≡ length words + 1 = length-append words (found ∷ []) in
    let right : cond (eqb (2 + length words) last_step) 0 (2 + length words + 1) ≡ 2 + length words + 1 = ap (λ (b : Bool). cond b 0 (2 + length words + 1)) (ne_eqb (2 + length words) last_step (λ e. omega arith)) in
    dite (ℕ_discrete (length (words ++ found ∷ [])) COPY_WORDS)
    (λ e. ap steps_taken (loaded_last side (words ++ found ∷ []) e) ∙ (let full : last_step ≡ 2 + length words + 1 = omega arith in full ∙ sym right))
    (λ ne. ap steps_taken (loaded_more side (words ++ found ∷ []) ne) ∙ (let some : 2 + length (words ++ found ∷ []) ≡ 2 + length words + 1 = omega arith in some ∙ sym right))

pub few_steps : (stage : Stage) → IsReadable stage → steps_taken stage ≤ last_step
few_steps AtRest h = omega arith
few_steps Arrived h = omega arith
few_steps (Leaving side words) h = omega arith
few_steps (Reading side words) h = let short : length words < COPY_WORDS = h in omega arith

-- only the load of the last word adds to the record
pub grows_not : (r found : ℕ) (stage : Stage) (readings : List (List ℕ)) → IsReadable stage → steps_taken stage ≢ last_load
    → ((reader_action r (record { stage = stage; readings = readings })).after found).readings ≡ readings
grows_not r found AtRest readings h ne = refl
grows_not r found Arrived readings h ne = refl
grows_not r found (Leaving side words) readings h ne = refl
grows_not r found (Reading side words) readings h ne =
    let more : length (words ++ found ∷ []) ≡ length words + 1 = length-append words (found ∷ []) in
    ap (λ (s : Stage). readings_with s readings) (loaded_more side (words ++ found ∷ []) (λ e. ne (omega arith)))

pub grows : (r found : ℕ) (stage : Stage) (readings : List (List ℕ)) → IsReadable stage → steps_taken stage ≡ last_load
    → let w = (reader_action r (record { stage = stage; readings = readings })).after found in (words : List ℕ) × (sheet_read w.stage ≡ Some words) × (w.readings ≡ readings ++ words ∷ [])
grows r found AtRest readings h e = absurd (omega arith)
grows r found Arrived readings h e = absurd (omega arith)
grows r found (Leaving side words) readings h e = absurd (omega arith)
grows r found (Reading side words) readings h e =
    let more : length (words ++ found ∷ []) ≡ length words + 1 = length-append words (found ∷ []) in
    let full : length (words ++ found ∷ []) ≡ COPY_WORDS = omega arith in
    (words ++ found ∷ [], ap sheet_read (loaded_last side (words ++ found ∷ []) full), ap (λ (s : Stage). readings_with s readings) (loaded_last side (words ++ found ∷ []) full))
