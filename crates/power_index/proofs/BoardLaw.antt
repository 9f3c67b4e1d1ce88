-- The chairs of the two halves have the weights of the open chairs of the sheet, in their order, so
-- the same sets of them win, and the counts at a place are those of the chair at that place.
use Rattle.std.proofs.Common.{◌≡◌, ℕ, ◌+◌, ◌-◌, ◌<◌, Bool, true, false, cond, List, [], ◌∷◌, ◌++◌, map, length, take, drop, get_or, arith, refl, sym, ap, ◌∙◌, eqb, leb, inl, inr, ◌≢◌, zero, suc}
use Rattle.std.specs.Prelude.{◌&&◌, not}
use Rattle.std.specs.List.{sum_by, list_any, enumerate_from, IsDistinct}
use Rattle.std.proofs.lemmas.List.FromFn.{length-enumerate_from, get_or-enumerate_from}
use Rattle.std.proofs.lemmas.Bool.{eq-eqb, ne_eqb, cases_lt, lt-ltb, le-ltb}
use Rattle.std.proofs.lemmas.List.{length-map, map-append, take-append-drop, length-take, length-drop, get_or-map, get_or-append_right, get_or_append_left}
use Rattle.std.proofs.lemmas.Map.Keys.{IsDistinct-tail}
use Rattle.std.proofs.lemmas.Simd.{map-map}
use Rattle.std.proofs.Math.Seq.{split_at}
use Rattle.council_core.specs.Sheets.{Chair, open_chairs}
use Rattle.council_core.specs.Coalitions.{has_chair, omega_of, eta_of, threshold_rule, subsets}
use Rattle.council_core.proofs.Face.{numbers_distinct}
use Rattle.half_sums.specs.declared.entry.Entry.{Entry}
use Rattle.swing_walk.specs.Pairs.{winning_pairs, winning_with, swings_of}
use Rattle.swing_walk.specs.Laws as laws
use Rattle.swing_walk.specs.Laws.{board_of, AreHalf}
use Rattle.swing_walk.proofs.Face.{over-map, pair_law, shifted}
use Rattle.half_sums.proofs.Face.{first_apart, or_left, or_right, over, sum_agree, sum_by-map}
use Rattle.power_index.specs.Halves.{weights, left_count, left_weights, right_weights, place_in_counts, open_chair_place, AreHalves}
use Rattle.power_index.specs.Counts.{etas, EvaluationLaw}
use Rattle.power_index.proofs.HalfLemmas.{slotted_slots, slotted_distinct, slotted_weights, left_few, right_few}
use Rattle.power_index.proofs.RowLemmas.{etas_at}
use Rattle.half_sums.specs.declared.groups.TheConstants.{SLOTS}
use Rattle.council_core.specs.declared.limits.TheConstants.{CHAIRS}
use Rattle.swing_walk.proofs.Face as sets

-- a set of these weights wins
abbrev enough : ℕ → ℕ → List ℕ → Bool
enough quota least_size ws = leb quota (sum_by (λ n. n) ws) && leb least_size (length ws)

abbrev weight : Chair → ℕ
weight chair = chair.1

by_weights : (quota least_size : ℕ) (s : List Chair) → threshold_rule quota least_size s ≡ enough quota least_size (map weight s)
by_weights quota least_size s =
    ap (λ n. leb quota n && leb least_size (length s)) (sym (sum_by-map (λ n. n) weight s))
    ∙ ap (λ n. leb quota (sum_by (λ n. n) (map weight s)) && leb least_size n) (sym (length-map s weight))

-- omega hangs on the weights alone
abbrev omega_by : ℕ → ℕ → List ℕ → ℕ
omega_by quota least_size ws = over (λ s. cond (enough quota least_size s) 1 0) ws

omega_weights : (quota least_size : ℕ) (chairs : List Chair) → omega_of (threshold_rule quota least_size) chairs ≡ omega_by quota least_size (map weight chairs)
omega_weights quota least_size chairs =
    sum_agree (λ s. cond (threshold_rule quota least_size s) 1 0) (λ s. cond (enough quota least_size (map weight s)) 1 0) (subsets chairs) (λ s. ap (λ b. cond b 1 0) (by_weights quota least_size s))
    ∙ sym (over-map (λ s. cond (enough quota least_size s) 1 0) weight chairs)

-- a chair by whether it has a number, and its weight
abbrev Marked : Type 0
Marked = Bool × ℕ

abbrev mark : ℕ → Chair → Marked
mark n chair = (eqb chair.0 n, chair.1)

has_marks : (n : ℕ) (s : List Chair) → has_chair n s ≡ list_any (λ m. m.0) (map (mark n) s)
has_marks n [] = refl
has_marks n (c ∷ s) = cc (has_marks n s)

weights_marks : (n : ℕ) (s : List Chair) → map weight s ≡ map (λ m. m.1) (map (mark n) s)
weights_marks n [] = refl
weights_marks n (c ∷ s) = ap (λ l. c.1 ∷ l) (weights_marks n s)

-- a set of marked chairs without the marked one loses, and wins once it is added
abbrev turned : ℕ → ℕ → ℕ → List Marked → ℕ
turned quota least_size w s = cond (not (list_any (λ m. m.0) s) && (not (enough quota least_size (map (λ m. m.1) s)) && enough quota least_size (w ∷ map (λ m. m.1) s))) 1 0

eta_marks : (quota least_size : ℕ) (chair : Chair) (chairs : List Chair) → eta_of (threshold_rule quota least_size) chair chairs ≡ over (turned quota least_size chair.1) (map (mark chair.0) chairs)
eta_marks quota least_size chair chairs =
    let n : ℕ = chair.0 in
    let g : Bool → Bool → Bool → ℕ = λ h m o. cond (not h && (not m && o)) 1 0 in
    sum_agree (λ s. g (has_chair n s) (threshold_rule quota least_size s) (threshold_rule quota least_size (chair ∷ s))) (λ s. turned quota least_size chair.1 (map (mark n) s)) (subsets chairs)
    (λ s. ap (λ h. g h (threshold_rule quota least_size s) (threshold_rule quota least_size (chair ∷ s))) (has_marks n s)
    ∙ ap (λ m. g (list_any (λ m. m.0) (map (mark n) s)) m (threshold_rule quota least_size (chair ∷ s))) (by_weights quota least_size s)
    ∙ ap (λ o. g (list_any (λ m. m.0) (map (mark n) s)) (enough quota least_size (map weight s)) o) (by_weights quota least_size (chair ∷ s))
    ∙ ap (λ ws. g (list_any (λ m. m.0) (map (mark n) s)) (enough quota least_size ws) (enough quota least_size (chair.1 ∷ ws))) (weights_marks n s))
    ∙ sym (over-map (turned quota least_size chair.1) (mark n) chairs)

-- weights, with the one of a place marked
abbrev plain : ℕ → Marked
plain w = (false, w)

abbrev marks : ℕ → List ℕ → List Marked
marks i [] = []
marks zero (w ∷ ws) = (true, w) ∷ map plain ws
marks (suc i) (w ∷ ws) = plain w ∷ marks i ws

none_marked : (n : ℕ) (chairs : List Chair) → has_chair n chairs ≡ false → map (mark n) chairs ≡ map plain (map weight chairs)
none_marked n [] h = refl
none_marked n (c ∷ chairs) h =
    let first : eqb c.0 n ≡ false = or_left (eqb c.0 n) (has_chair n chairs) h in
    let rest : map (mark n) chairs ≡ map plain (map weight chairs) = none_marked n chairs (or_right (eqb c.0 n) (has_chair n chairs) h) in
    ap (λ b. (b, c.1) ∷ map (mark n) chairs) first ∙ ap (λ l. (false, c.1) ∷ l) rest

not_there : (n : ℕ) (chairs : List Chair) (i : ℕ) (d : Chair) → has_chair n chairs ≡ false → i < length chairs → eqb (get_or chairs i d).0 n ≡ false
not_there n [] i d h below = absurd (omega arith)
not_there n (c ∷ chairs) zero d h below = or_left (eqb c.0 n) (has_chair n chairs) h
not_there n (c ∷ chairs) (suc i) d h below = not_there n chairs i d (or_right (eqb c.0 n) (has_chair n chairs) h) (omega arith)

-- the number of the chair of a place marks that place alone
one_marked : (chairs : List Chair) (i : ℕ) (d : Chair) → IsDistinct eqb (map (λ c. c.0) chairs) → i < length chairs → map (mark (get_or chairs i d).0) chairs ≡ marks i (map weight chairs)
one_marked [] i d distinct h = absurd (omega arith)
one_marked (c ∷ chairs) zero d distinct h =
    ap (λ b. (b, c.1) ∷ map (mark c.0) chairs) (eq-eqb c.0 c.0 refl) ∙ ap (λ l. (true, c.1) ∷ l) (none_marked c.0 chairs (first_apart c chairs distinct))
one_marked (c ∷ chairs) (suc i) d distinct h =
    let n : ℕ = (get_or chairs i d).0 in
    let off : eqb n c.0 ≡ false = not_there c.0 chairs i d (first_apart c chairs distinct) (omega arith) in
    let away : c.0 ≢ n = λ e. absurd (let bad : true ≡ false = sym (eq-eqb n c.0 (sym e)) ∙ off in cc) in
    ap (λ b. (b, c.1) ∷ map (mark n) chairs) (ne_eqb c.0 n away) ∙ ap (λ l. (false, c.1) ∷ l) (one_marked chairs i d (IsDistinct-tail eqb c.0 (map (λ c. c.0) chairs) distinct) (omega arith))

-- eta of the chair of a place hangs on the weights and the place alone
abbrev none : Chair
none = (0, 0)

abbrev eta_by : ℕ → ℕ → ℕ → List ℕ → ℕ
eta_by quota least_size i ws = over (turned quota least_size (get_or ws i 0)) (marks i ws)

eta_weights : (quota least_size : ℕ) (chairs : List Chair) (i : ℕ) → IsDistinct eqb (map (λ c. c.0) chairs) → i < length chairs → eta_of (threshold_rule quota least_size) (get_or chairs i none) chairs ≡ eta_by quota least_size i (map weight chairs)
eta_weights quota least_size chairs i distinct h =
    let chair : Chair = get_or chairs i none in
    let same : chair.1 ≡ get_or (map weight chairs) i 0 = sym (get_or-map weight chairs i none 0 h) in
    eta_marks quota least_size chair chairs
    ∙ ap (λ w. over (turned quota least_size w) (map (mark chair.0) chairs)) same
    ∙ ap (over (turned quota least_size (get_or (map weight chairs) i 0))) (one_marked chairs i none distinct h)

-- the board of a sheet
abbrev left_of : List ℕ → List Chair
left_of words = enumerate_from 0 (left_weights words)

abbrev right_of : List ℕ → List Chair
right_of words = enumerate_from 0 (right_weights words)

abbrev board : List ℕ → List Chair
board words = board_of (left_of words) (right_of words)

board_weights : (words : List ℕ) → map weight (board words) ≡ weights words
board_weights words =
    let h : ℕ = left_count (length (open_chairs words)) in
    map-append weight (left_of words) (map shifted (right_of words))
    ∙ ap (λ l. map weight (left_of words) ++ l) (map-map weight shifted (right_of words))
    ∙ ap (λ l. l ++ map weight (right_of words)) (slotted_weights 0 (left_weights words))
    ∙ ap (λ l. left_weights words ++ l) (slotted_weights 0 (right_weights words))
    ∙ take-append-drop h (weights words)

board_length : (words : List ℕ) → length (board words) ≡ length (open_chairs words)
board_length words = sym (length-map (board words) weight) ∙ ap length (board_weights words) ∙ length-map (open_chairs words) weight

left_half : (words : List ℕ) → AreHalf (left_of words)
left_half words = record { slots = slotted_slots (left_weights words) (left_few words); distinct = slotted_distinct 0 (left_weights words) }

right_half : (words : List ℕ) → AreHalf (right_of words)
right_half words = record { slots = slotted_slots (right_weights words) (right_few words); distinct = slotted_distinct 0 (right_weights words) }

board_distinct : (words : List ℕ) → IsDistinct eqb (map (λ c. c.0) (board words))
board_distinct words =
    sets.board_distinct (left_of words) (right_of words) (left_half words).slots (left_half words).distinct (right_half words).distinct

-- the number of the open chair with `i` open chairs before it is its place
placed : (words : List ℕ) (i : ℕ) → i < length (open_chairs words) → (get_or (board words) i none).0 ≡ place_in_counts (left_count (length (open_chairs words))) i
placed words i inside =
    let n : ℕ = length (open_chairs words) in
    let h : ℕ = left_count n in
    let all : length (weights words) ≡ n = length-map (open_chairs words) weight in
    let lefts : length (left_of words) ≡ h = length-enumerate_from 0 (left_weights words) ∙ omega (arith, length-take h (weights words), all) in
    let rights : length (right_weights words) ≡ n - h = omega (arith, length-drop h (weights words), all) in
    elim (cases_lt i h) as (λ _. (get_or (board words) i none).0 ≡ place_in_counts h i) [
      | inl below ↦
          ap (λ c. c.0) (get_or_append_left (left_of words) (map shifted (right_of words)) none i (omega (arith, lefts)) ∙ get_or-enumerate_from 0 (left_weights words) i none (omega (arith, lefts, length-enumerate_from 0 (left_weights words))))
          ∙ (let number : 0 + i ≡ i = omega arith in number)
          ∙ sym (ap (λ b. cond b i (SLOTS + (i - h))) (lt-ltb i h below))
      | inr above ↦
          ap (λ c. c.0)
          (get_or-append_right (left_of words) (map shifted (right_of words)) h i none lefts above
          ∙ get_or-map shifted (right_of words) (i - h) none none (omega (arith, rights, length-enumerate_from 0 (right_weights words)))
          ∙ ap shifted (get_or-enumerate_from 0 (right_weights words) (i - h) none (omega (arith, rights))))
          ∙ (let number : 0 + (i - h) + SLOTS ≡ SLOTS + (i - h) = omega arith in number)
          ∙ sym (ap (λ b. cond b i (SLOTS + (i - h))) (le-ltb i h above))
    ]

-- what the law of two halves says, of the halves of a sheet
abbrev Meet : ℕ → ℕ → List ℕ → List Entry → List Entry → Type 0
Meet quota least_size words from to = laws.CountsMeet quota least_size (left_of words) (right_of words) from to

-- the swings that the counts give at a place are those of its chair
swings_at : (quota least_size : ℕ) (words : List ℕ) (from to : List Entry) (i : ℕ) → i < length (open_chairs words) → Meet quota least_size words from to →
    swings_of (winning_pairs quota least_size from to) (winning_with quota least_size (open_chair_place words i) from to) ≡ get_or (etas (threshold_rule quota least_size) (open_chairs words)) i 0
swings_at quota least_size words from to i inside law =
    let on_board : i < length (board words) = omega (arith, inside, board_length words) in
    let chair : Chair = get_or (board words) i none in
    ap (λ n. swings_of (winning_pairs quota least_size from to) (winning_with quota least_size n from to)) (sym (placed words i inside))
    ∙ law.swings (take i (board words)) (drop (suc i) (board words)) chair (split_at (board words) i none on_board)
    ∙ eta_weights quota least_size (board words) i (board_distinct words) on_board
    ∙ ap (eta_by quota least_size i) (board_weights words)
    ∙ sym (eta_weights quota least_size (open_chairs words) i (numbers_distinct 1 (take CHAIRS words)) inside)
    ∙ sym (etas_at (threshold_rule quota least_size) (open_chairs words) i none inside)

omega_law : (quota least_size : ℕ) (words : List ℕ) (from to : List Entry) → AreHalves words from to → winning_pairs quota least_size from to ≡ omega_of (threshold_rule quota least_size) (open_chairs words)
omega_law quota least_size words from to halves =
    (pair_law quota least_size (left_of words) (right_of words) from to (left_half words) (right_half words) halves.left_half halves.right_half).winning
    ∙ omega_weights quota least_size (board words)
    ∙ ap (omega_by quota least_size) (board_weights words)
    ∙ sym (omega_weights quota least_size (open_chairs words))

pub evaluation_law : EvaluationLaw
evaluation_law quota least_size words from to halves =
    let law : Meet quota least_size words from to = sets.two_halves_law quota least_size (left_of words) (right_of words) from to (left_half words) (right_half words) halves.left_half halves.right_half in
    record {
      omega = omega_law quota least_size words from to halves;
      bound = law.bound;
      within = λ place h. law.within place;
      half = λ place h. law.half place;
      swings = λ i h. swings_at quota least_size words from to i h law;
    }
