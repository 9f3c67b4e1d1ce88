-- The sets of the chairs of a board, as pairs of sets of its halves, and what the counts of two halves meet.
use Rattle.std.proofs.Common.{◌≡◌, ◌≢◌, ℕ, ◌+◌, ◌-◌, ◌*◌, ◌^◌, ◌<◌, ◌≤◌, Bool, true, false, List, [], ◌∷◌, ◌++◌, map, length, arith, refl, sym, ap, ◌∙◌, subst, eqb, inl, inr}
use Rattle.std.specs.Prelude.{◌&&◌, ◌||◌, flat_map}
use Rattle.std.specs.List.{All, IsDistinct}
use Rattle.std.proofs.lemmas.Bool.{or_from, eq-eqb, ne_eqb, cases_eq}
use Rattle.std.proofs.lemmas.List.{append-nil, map-append, map-id}
use Rattle.std.proofs.lemmas.List.Concat.{flat_map-append}
use Rattle.std.proofs.lemmas.List.Folds.{list_any-append}
use Rattle.std.proofs.lemmas.List.Elements.{All-nil, All-cons, All-head, All-tail, All-weaker, recursion_from_All}
use Rattle.std.proofs.lemmas.Map.Keys.{IsDistinct-cons, IsDistinct-tail}
use Rattle.std.proofs.lemmas.Simd.{map-map}
use Rattle.std.proofs.Math.Nat.{mul-le-mul, pow-le-pow_right}
use Rattle.council_core.specs.Sheets.{Chair}
use Rattle.council_core.specs.Coalitions.{subsets, has_chair, omega_of, omega_with, eta_of, threshold_rule}
use Rattle.half_sums.specs.declared.entry.Entry.{Entry}
use Rattle.half_sums.specs.Entries.{AreSubsets}
use Rattle.half_sums.proofs.Face.{chairs_within_slots, first_apart, length_of_half, of_others, or_left, or_right, subsets_avoid}
use Rattle.swing_walk.specs.Pairs.{winning_pairs, winning_with, reaches, has_size, swings_of}
use Rattle.swing_walk.specs.Laws.{board_of, CoalitionLaw, AreHalf, TwoHalvesLaw, PairsAreCoalitions}
use Rattle.swing_walk.proofs.Counting.{count_none, pairs_bound}
use Rattle.swing_walk.proofs.Coalitions.{swing_law, count_law, bound_law, reaching_rule}
use Rattle.swing_walk.proofs.PairLaws.{shifted, none_below, as_slot, pair_law}
use Rattle.half_sums.specs.declared.groups.TheConstants.{SLOTS}
use Rattle.half_sums.specs.declared.lists.TheConstants.{ROOM}

flat_map_agree : {X Y : Type 0} (f g : X → List Y) (xs : List X) → ((x : X) → f x ≡ g x) → flat_map f xs ≡ flat_map g xs
flat_map_agree f g [] same = refl
flat_map_agree f g (x ∷ xs) same = cc (same x, flat_map_agree f g xs same)

flat_map-joined : {X : Type 0} (x : X) (sets firsts : List (List X)) → flat_map (λ a. map (λ t. a ++ t) sets) (map (λ s. x ∷ s) firsts) ≡ map (λ s. x ∷ s) (flat_map (λ a. map (λ t. a ++ t) sets) firsts)
flat_map-joined x sets [] = refl
flat_map-joined {X} x sets (a ∷ firsts) =
    let f : List X → List (List X) = λ a. map (λ t. a ++ t) sets in
    let here : map (λ t. x ∷ (a ++ t)) sets ≡ map (λ s. x ∷ s) (f a) = sym (map-map (λ (s : List X). x ∷ s) (λ t. a ++ t) sets) in
    ap (λ l. l ++ flat_map f (map (λ s. x ∷ s) firsts)) here
    ∙ ap (λ l. map (λ s. x ∷ s) (f a) ++ l) (flat_map-joined x sets firsts)
    ∙ sym (map-append (λ s. x ∷ s) (f a) (flat_map f firsts))

subsets-append : {X : Type 0} (xs ys : List X) → subsets (xs ++ ys) ≡ flat_map (λ a. map (λ t. a ++ t) (subsets ys)) (subsets xs)
subsets-append [] ys = sym (append-nil (map (λ t. t) (subsets ys)) ∙ map-id (subsets ys))
subsets-append {X} (x ∷ xs) ys =
    let f : List X → List (List X) = λ a. map (λ t. a ++ t) (subsets ys) in
    ap (λ l. l ++ map (λ s. x ∷ s) l) (subsets-append xs ys)
    ∙ ap (λ l. flat_map f (subsets xs) ++ l) (sym (flat_map-joined x (subsets ys) (subsets xs)))
    ∙ sym (flat_map-append f (subsets xs) (map (λ s. x ∷ s) (subsets xs)))

subsets-map : {X Y : Type 0} (h : X → Y) (xs : List X) → subsets (map h xs) ≡ map (map h) (subsets xs)
subsets-map h [] = refl
subsets-map {X} {Y} h (x ∷ xs) =
    let turned : map (λ (s : List Y). h x ∷ s) (map (map h) (subsets xs)) ≡ map (map h) (map (λ s. x ∷ s) (subsets xs)) =
    map-map (λ (s : List Y). h x ∷ s) (map h) (subsets xs) ∙ sym (map-map (map h) (λ s. x ∷ s) (subsets xs)) in
    ap (λ l. l ++ map (λ s. h x ∷ s) l) (subsets-map h xs)
    ∙ ap (λ l. map (map h) (subsets xs) ++ l) turned
    ∙ sym (map-append (map h) (subsets xs) (map (λ s. x ∷ s) (subsets xs)))

pub coalition_law : CoalitionLaw
coalition_law left right =
    subsets-append left (map shifted right)
    ∙ flat_map_agree _ _ (subsets left) (λ a. ap (map (λ t. a ++ t)) (subsets-map shifted right) ∙ map-map (λ t. a ++ t) (map shifted) (subsets right))

-- a number that no chair has is not among their numbers
far : (slot : ℕ) (chairs : List Chair) → has_chair slot chairs ≡ false → All (λ y. eqb slot y ≡ false) (map (λ c. c.0) chairs)
far slot [] h = All-nil (λ y. eqb slot y ≡ false)
far slot (chair ∷ chairs) h =
    let away : slot ≢ chair.0 = λ e. absurd (let bad : true ≡ false = sym (eq-eqb chair.0 slot (sym e)) ∙ or_left (eqb chair.0 slot) (has_chair slot chairs) h in cc) in
    All-cons (λ y. eqb slot y ≡ false) chair.0 (map (λ c. c.0) chairs) (ne_eqb slot chair.0 away) (far slot chairs (or_right (eqb chair.0 slot) (has_chair slot chairs) h))

distinct_more : (chair : Chair) (chairs : List Chair) → has_chair chair.0 chairs ≡ false → IsDistinct eqb (map (λ c. c.0) chairs) → IsDistinct eqb (map (λ c. c.0) (chair ∷ chairs))
distinct_more chair chairs absent distinct =
    IsDistinct-cons eqb chair.0 (map (λ c. c.0) chairs) (recursion_from_All (λ y. eqb chair.0 y ≡ false) (map (λ c. c.0) chairs) (far chair.0 chairs absent)) distinct

tail_of : (chair : Chair) (chairs : List Chair) → IsDistinct eqb (map (λ c. c.0) (chair ∷ chairs)) → IsDistinct eqb (map (λ c. c.0) chairs)
tail_of chair chairs distinct = IsDistinct-tail eqb chair.0 (map (λ c. c.0) chairs) distinct

shifted_distinct : (chairs : List Chair) → IsDistinct eqb (map (λ c. c.0) chairs) → IsDistinct eqb (map (λ c. c.0) (map shifted chairs))
shifted_distinct [] distinct = distinct
shifted_distinct (chair ∷ chairs) distinct =
    let back : chair.0 + SLOTS - SLOTS ≡ chair.0 = omega arith in
    let absent : has_chair (chair.0 + SLOTS) (map shifted chairs) ≡ false =
    as_slot (chair.0 + SLOTS) chairs (omega arith) ∙ ap (λ k. has_chair k chairs) back ∙ first_apart chair chairs distinct in
    distinct_more (shifted chair) (map shifted chairs) absent (shifted_distinct chairs (tail_of chair chairs distinct))

-- the places of a board are distinct
pub board_distinct : (left right : List Chair) → All (λ c. c.0 < SLOTS) left → IsDistinct eqb (map (λ c. c.0) left) → IsDistinct eqb (map (λ c. c.0) right) → IsDistinct eqb (map (λ c. c.0) (board_of left right))
board_distinct [] right slots distinct_left distinct_right = shifted_distinct right distinct_right
board_distinct (chair ∷ left) right slots distinct_left distinct_right =
    let P : Chair → Type 0 = λ c. c.0 < SLOTS in
    let absent : has_chair chair.0 (left ++ map shifted right) ≡ false =
    list_any-append (λ c. eqb c.0 chair.0) left (map shifted right) ∙ or_from _ _ (first_apart chair left distinct_left) (none_below chair.0 right (All-head P chair left slots)) in
    distinct_more chair (board_of left right) absent (board_distinct left right (All-tail P chair left slots) (tail_of chair left distinct_left) distinct_right)

-- among chairs with distinct numbers, no other chair has the number of this one
alone : (before after : List Chair) (chair : Chair) → IsDistinct eqb (map (λ c. c.0) (before ++ chair ∷ after)) → has_chair chair.0 (before ++ after) ≡ false
alone [] after chair distinct = first_apart chair after distinct
alone (x ∷ before) after chair distinct =
    let first : has_chair x.0 (before ++ chair ∷ after) ≡ false = first_apart x (before ++ chair ∷ after) distinct in
    let parts : (has_chair x.0 before || (eqb chair.0 x.0 || has_chair x.0 after)) ≡ false = sym (list_any-append (λ c. eqb c.0 x.0) before (chair ∷ after)) ∙ first in
    let off : eqb chair.0 x.0 ≡ false = or_left (eqb chair.0 x.0) (has_chair x.0 after) (or_right (has_chair x.0 before) _ parts) in
    let away : x.0 ≢ chair.0 = λ e. absurd (let bad : true ≡ false = sym (eq-eqb chair.0 x.0 (sym e)) ∙ off in cc) in
    ap (λ b. b || has_chair chair.0 (before ++ after)) (ne_eqb x.0 chair.0 away) ∙ alone before after chair (tail_of x (before ++ chair ∷ after) distinct)

-- the position of the chair at a place
record Found (place : ℕ) (chairs : List Chair) : Type 0 where
  before : List Chair
  after : List Chair
  chair : Chair
  is : chairs ≡ before ++ chair ∷ after
  at : chair.0 ≡ place

find : (place : ℕ) (chairs : List Chair) → has_chair place chairs ≡ true → Found place chairs
find place [] h = absurd (cc)
find place (x ∷ chairs) h = elim (cases_eq x.0 place) as (λ _. Found place (x ∷ chairs)) [
  | inl same ↦ record { before = []; after = chairs; chair = x; is = refl; at = same }
  | inr other ↦ (let rest : Found place chairs = find place chairs (of_others place x chairs other h) in
      record { before = x ∷ rest.before; after = rest.after; chair = rest.chair; is = ap (λ l. x ∷ l) rest.is; at = rest.at })
]

-- no winning set has a chair that isn't there
omega_with-absent : (quota least_size place : ℕ) (chairs : List Chair) → has_chair place chairs ≡ false → omega_with (threshold_rule quota least_size) place chairs ≡ 0
omega_with-absent quota least_size place chairs h =
    count_none (λ s. has_chair place s && threshold_rule quota least_size s) (subsets chairs)
    (All-weaker (λ (s : List Chair). has_chair place s ≡ false) (λ s. (has_chair place s && threshold_rule quota least_size s) ≡ false) (λ s e. ap (λ t. t && threshold_rule quota least_size s) e) (subsets chairs) (subsets_avoid (λ (c : Chair). eqb c.0 place) chairs h))

-- at least half of the winning sets have a chair that is there
half_at_least : (quota least_size place : ℕ) (chairs : List Chair) → IsDistinct eqb (map (λ c. c.0) chairs) → has_chair place chairs ≡ true → omega_of (threshold_rule quota least_size) chairs ≤ 2 * omega_with (threshold_rule quota least_size) place chairs
half_at_least quota least_size place chairs distinct there =
    let f : Found place chairs = find place chairs there in
    let absent : has_chair f.chair.0 (f.before ++ f.after) ≡ false = alone f.before f.after f.chair (subst (λ l. IsDistinct eqb (map (λ c. c.0) l)) f.is distinct) in
    let law = swing_law (threshold_rule quota least_size) f.before f.after f.chair (reaching_rule quota least_size) absent in
    let here : omega_of (threshold_rule quota least_size) (f.before ++ f.chair ∷ f.after) ≤ 2 * omega_with (threshold_rule quota least_size) f.chair.0 (f.before ++ f.chair ∷ f.after) = omega (arith, law) in
    subst (λ n. omega_of (threshold_rule quota least_size) chairs ≤ 2 * omega_with (threshold_rule quota least_size) n chairs) f.at
    (subst (λ l. omega_of (threshold_rule quota least_size) l ≤ 2 * omega_with (threshold_rule quota least_size) f.chair.0 l) (sym f.is) here)

half_or_none : (quota least_size place : ℕ) (chairs : List Chair) (b : Bool) → has_chair place chairs ≡ b → IsDistinct eqb (map (λ c. c.0) chairs) → 0 < omega_with (threshold_rule quota least_size) place chairs → omega_of (threshold_rule quota least_size) chairs ≤ 2 * omega_with (threshold_rule quota least_size) place chairs
half_or_none quota least_size place chairs true there distinct some = half_at_least quota least_size place chairs distinct there
half_or_none quota least_size place chairs false absent distinct some = absurd (omega (arith, some, omega_with-absent quota least_size place chairs absent))

entries_few : (chairs : List Chair) (es : List Entry) → AreHalf chairs → AreSubsets chairs es → length es ≤ ROOM
entries_few chairs es half are =
    let bound : 2 ^ length chairs ≤ 2 ^ SLOTS = pow-le-pow_right (omega arith) (chairs_within_slots chairs half.slots half.distinct) in
    omega (arith, length_of_half chairs es are, bound)

pub two_halves_law : TwoHalvesLaw
two_halves_law quota least_size left right from to half_left half_right are_left are_right =
    let board : List Chair = board_of left right in
    let p : PairsAreCoalitions quota least_size left right from to = pair_law quota least_size left right from to half_left half_right are_left are_right in
    let distinct : IsDistinct eqb (map (λ (c : Chair). c.0) board) = board_distinct left right half_left.slots half_left.distinct half_right.distinct in
    let area : length from * length to ≤ ROOM * ROOM = mul-le-mul (entries_few left from half_left are_left) (entries_few right to half_right are_right) in
    let as_omega : (place : ℕ) → swings_of (winning_pairs quota least_size from to) (winning_with quota least_size place from to) ≡ swings_of (omega_of (threshold_rule quota least_size) board) (omega_with (threshold_rule quota least_size) place board) =
    λ place. ap (λ n. swings_of n (winning_with quota least_size place from to)) p.winning ∙ ap (swings_of (omega_of (threshold_rule quota least_size) board)) (p.with_chair place) in
    record {
      bound = omega (arith, pairs_bound (λ l r. reaches quota l r && has_size least_size l r) from to, area);
      within = λ place. omega (arith, p.winning, p.with_chair place, bound_law quota least_size place board);
      half = λ place some. omega (arith, p.winning, p.with_chair place, half_or_none quota least_size place board (has_chair place board) refl distinct (omega (arith, some, p.with_chair place)));
      swings = λ before after chair is. as_omega chair.0
          ∙ subst (λ l. swings_of (omega_of (threshold_rule quota least_size) l) (omega_with (threshold_rule quota least_size) chair.0 l) ≡ eta_of (threshold_rule quota least_size) chair l) (sym is)
          (count_law quota least_size before after chair (alone before after chair (subst (λ l. IsDistinct eqb (map (λ c. c.0) l)) is distinct)));
      vacant = λ place absent. as_omega place ∙ ap (swings_of (omega_of (threshold_rule quota least_size) board)) (omega_with-absent quota least_size place board absent);
    }
