-- The swings of the open chairs as a list, and where each chair's place lies.
use Rattle.std.proofs.Common.{◌≡◌, ℕ, ◌^◌, ◌<◌, ◌≤◌, inl, inr, List, [], ◌∷◌, length, get_or, arith}
use Rattle.std.specs.List.{sum_by, All}
use Rattle.std.proofs.lemmas.Bool.{cases_lt, lt-ltb, le-ltb}
use Rattle.std.proofs.lemmas.List.{get_or-map}
use Rattle.std.proofs.lemmas.List.Elements.{All-cons, All-nil, All-map}
use Rattle.std.proofs.Math.Nat.{pow-le-pow_right}
use Rattle.half_sums.proofs.Face.{sum_by-map}
use Rattle.council_core.specs.Sheets.{Chair, open_chairs}
use Rattle.council_core.specs.Coalitions.{Rule, eta_of}
use Rattle.power_index.specs.Halves.{left_count, open_chair_place}
use Rattle.power_index.specs.Counts.{etas}
use Rattle.power_index.specs.Indices.{swings_among}
use Rattle.power_index.proofs.Bounds.{eta_bound, few_chairs}
use Rattle.council_core.specs.declared.limits.TheConstants.{CHAIRS}

pub etas_at : (wins : Rule) (board : List Chair) (i : ℕ) (d : Chair) → i < length board → get_or (etas wins board) i 0 ≡ eta_of wins (get_or board i d) board
etas_at wins board i d h = get_or-map (λ c. eta_of wins c board) board i d 0 h

pub etas_sum : (wins : Rule) (board : List Chair) → sum_by (λ n. n) (etas wins board) ≡ swings_among wins board board
etas_sum wins board = sum_by-map (λ n. n) (λ c. eta_of wins c board) board

pub set_count_few : (n : ℕ) → n ≤ CHAIRS → 2 ^ n ≤ 2 ^ CHAIRS
set_count_few n h = pow-le-pow_right (omega arith) h

small_among : (wins : Rule) (board chairs : List Chair) → length board ≤ CHAIRS → All (λ c. eta_of wins c board ≤ 2 ^ CHAIRS) chairs
small_among wins board [] bound = All-nil (λ (c : Chair). eta_of wins c board ≤ 2 ^ CHAIRS)
small_among wins board (c ∷ chairs) bound =
    All-cons (λ (ch : Chair). eta_of wins ch board ≤ 2 ^ CHAIRS) c chairs (omega (arith, eta_bound wins c board, set_count_few (length board) bound)) (small_among wins board chairs bound)

pub etas_small : (wins : Rule) (board : List Chair) → length board ≤ CHAIRS → All (λ n. n ≤ 2 ^ CHAIRS) (etas wins board)
etas_small wins board bound = All-map (λ n. n ≤ 2 ^ CHAIRS) (λ (c : Chair). eta_of wins c board) board (small_among wins board board bound)

-- a place is one of the 32
pub place_below : (words : List ℕ) (i : ℕ) → i < length (open_chairs words) → open_chair_place words i < CHAIRS
place_below words i inside =
    let n : ℕ = length (open_chairs words) in
    let bound : n ≤ CHAIRS = few_chairs words in
    elim (cases_lt i (left_count n)) as (λ _. open_chair_place words i < CHAIRS) [
      | inl below ↦ rw (lt-ltb i (left_count n) below) (omega arith)
      | inr above ↦ rw (le-ltb i (left_count n) above) (omega arith)
    ]
