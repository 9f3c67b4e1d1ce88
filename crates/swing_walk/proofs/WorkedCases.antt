-- The halves of the worked examples.
use Rattle.std.proofs.Common.{◌≡◌, rules, refl, ℕ, ◌<◌, List, [], map, eqb}
use Rattle.std.specs.List.{All, IsDistinct}
use Rattle.std.proofs.lemmas.List.Elements.{All-nil}
use Rattle.council_core.specs.Sheets.{Chair}
use Rattle.half_sums.specs.declared.entry.Entry.{Entry}
use Rattle.half_sums.specs.Entries.{AreSubsets, three_chairs}
use Rattle.swing_walk.specs.Laws.{AreHalf, CountsMeet, equal_chairs}
use Rattle.swing_walk.specs.Pairs.{winning_pairs, winning_with, swings_of}
use Rattle.swing_walk.proofs.BoardSets.{two_halves_law}

ones_slots : All (λ c. c.0 < 16) equal_chairs
ones_slots = search rules

ones_distinct : IsDistinct eqb (map (λ c. c.0) equal_chairs)
unfolding IsDistinct
ones_distinct = search rules

three_slots : All (λ c. c.0 < 16) three_chairs
three_slots = search rules

three_distinct : IsDistinct eqb (map (λ c. c.0) three_chairs)
unfolding IsDistinct
three_distinct = search rules

none_slots : All (λ (c : Chair). c.0 < 16) []
none_slots = All-nil (λ (c : Chair). c.0 < 16)

none_distinct : IsDistinct eqb (map (λ (c : Chair). c.0) [])
unfolding IsDistinct
none_distinct = search rules

-- the counts of two halves of chairs of one vote
pub ones_meet : (quota least_size : ℕ) (left right : List Entry) → AreSubsets equal_chairs left → AreSubsets equal_chairs right → CountsMeet quota least_size equal_chairs equal_chairs left right
ones_meet quota least_size left right are_left are_right =
    let half : AreHalf equal_chairs = record { slots = ones_slots; distinct = ones_distinct } in
    two_halves_law quota least_size equal_chairs equal_chairs left right half half are_left are_right

-- the counts of three chairs and an empty half
pub three_meet : (quota least_size : ℕ) (left right : List Entry) → AreSubsets three_chairs left → AreSubsets [] right → CountsMeet quota least_size three_chairs [] left right
three_meet quota least_size left right are_left are_right =
    two_halves_law quota least_size three_chairs [] left right (record { slots = three_slots; distinct = three_distinct }) (record { slots = none_slots; distinct = none_distinct }) are_left are_right

-- a place without a chair has no swings: the first of the right half, and the one after the three chairs of the left
pub vacant_places : (quota least_size : ℕ) (left right : List Entry) → AreSubsets three_chairs left → AreSubsets [] right
    → (swings_of (winning_pairs quota least_size left right) (winning_with quota least_size 16 left right) ≡ 0)
    × (swings_of (winning_pairs quota least_size left right) (winning_with quota least_size 3 left right) ≡ 0)
vacant_places quota least_size left right are_left are_right =
    let meet = three_meet quota least_size left right are_left are_right in
    (meet.vacant 16 refl, meet.vacant 3 refl)
