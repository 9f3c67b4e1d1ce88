-- Legal records and cuts, with one more at the end.
use Rattle.two_copy_steps.proofs.Names.{[], ap, arith, Command, Contains, COPY_WORDS, front_of, get_or, IsRecordFrom}
use Rattle.two_copy_steps.proofs.Names.{length, length-take, List, Opening, refl, sheet, sym, take, ℕ, ◌++◌, ◌∙◌, ◌∷◌}
use Rattle.two_copy_steps.proofs.Names.{◌≡◌, ◌≤◌}
use Rattle.std.proofs.Common.{◌-◌}
use Rattle.std.proofs.lemmas.List.Elements.{Contains-get_or}
use Rattle.std.proofs.lemmas.List.Sorted.{IsNonDecreasingBy-push}
use Rattle.std.specs.List.Sorted.{IsNonDecreasing}
use Rattle.council_core.specs.Sequential.{IsCutSheet}
use Rattle.two_copy_steps.specs.Lawful.{last_front}

-- the front of a sheet is the number of its commands
pub front_is : (opening : Opening) (commands : List Command) → front_of (sheet opening commands) ≡ length commands
front_is opening commands = refl

-- a sheet has as many numbers as a copy has words
pub sheet_long : (opening : Opening) (commands : List Command) → length (sheet opening commands) ≡ COPY_WORDS
sheet_long opening commands = refl

pub front_of_cut : (opening : Opening) (commands : List Command) (cut : ℕ) → cut ≤ length commands → front_of (sheet opening (take cut commands)) ≡ cut
front_of_cut opening commands cut le = front_is opening (take cut commands) ∙ (length-take cut commands ∙ omega arith)

pub last_front-push : (low : ℕ) (readings : List (List ℕ)) (words : List ℕ) → last_front low (readings ++ words ∷ []) ≡ front_of words
last_front-push low [] words = refl
last_front-push low (x ∷ xs) words = last_front-push (front_of x) xs words

module _ (opening : Opening) where
  -- a record with one more sheet
  pub record-push : (commands : List Command) (cuts : List ℕ) (low : ℕ) (readings : List (List ℕ)) (words : List ℕ)
      → IsRecordFrom opening commands cuts low readings → IsCutSheet opening commands cuts words → last_front low readings ≤ front_of words
      → IsRecordFrom opening commands cuts low (readings ++ words ∷ [])
  record-push commands cuts low [] words legal is above = (is, above, tt)
  record-push commands cuts low (x ∷ xs) words legal is above = (legal.0, legal.1, record-push commands cuts (front_of x) xs words legal.2 is above)

  -- a record stays legal where each cut stays one of the same sheet
  pub record-grows : (commands longer : List Command) (cuts more : List ℕ) (low : ℕ) (readings : List (List ℕ))
      → ((cut : ℕ) → Contains cuts cut → Contains more cut × (take cut longer ≡ take cut commands))
      → IsRecordFrom opening commands cuts low readings → IsRecordFrom opening longer more low readings
  record-grows commands longer cuts more low [] stays legal = tt
  record-grows commands longer cuts more low (x ∷ xs) stays legal =
      let is = legal.0 in
      let kept = stays is.0 is.1 in
      ((is.0, kept.0, is.2 ∙ ap (sheet opening) (sym kept.1)), legal.1, record-grows commands longer cuts more (front_of x) xs stays legal.2)

  -- where no cut is above a number, no front is
  pub record-below : (commands : List Command) (cuts : List ℕ) (low : ℕ) (readings : List (List ℕ)) (high : ℕ)
      → ((cut : ℕ) → Contains cuts cut → cut ≤ length commands) → high ≡ length commands → low ≤ high
      → IsRecordFrom opening commands cuts low readings → last_front low readings ≤ high
  record-below commands cuts low [] high tops is under legal = under
  record-below commands cuts low (x ∷ xs) high tops is under legal =
      let cut = legal.0 in
      let top = tops cut.0 cut.1 in
      let front : front_of x ≡ cut.0 = ap front_of cut.2 ∙ front_of_cut opening commands cut.0 top in
      record-below commands cuts (front_of x) xs high tops is (omega arith) legal.2

-- cuts with one more, not below any
pub ascends-push : (cuts : List ℕ) (cut : ℕ) → IsNonDecreasing cuts → ((c : ℕ) → Contains cuts c → c ≤ cut) → IsNonDecreasing (cuts ++ cut ∷ [])
ascends-push cuts cut up tops =
    IsNonDecreasingBy-push (λ c. c) cuts cut up (λ d some. tops (get_or cuts (length cuts - 1) d) (Contains-get_or cuts (length cuts - 1) d (omega arith)))
