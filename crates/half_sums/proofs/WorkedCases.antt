-- The sets of chairs of 50, 49 and 1 votes, computed by their definitions.
use Rattle.std.proofs.Common.{rules, ◌≡◌, ◌≤◌, ℕ, List, [], ◌∷◌, map, eqb, refl, sym, true≢false}
use Rattle.std.specs.List.{IsDistinct}
use Rattle.half_sums.specs.declared.entry.Entry.{Entry}
use Rattle.half_sums.specs.Masks.{IsOver}
use Rattle.half_sums.specs.Laws.{MaskLaw, occurrences}
use Rattle.half_sums.specs.Entries.{entries_of, three_chairs, AreSubsets}
use Rattle.half_sums.specs.Groups.{group_of, fewer_than}

pub three_entries : entries_of three_chairs
    ≡ record { sum = 0; mask = 0 } ∷ record { sum = 1; mask = 4 } ∷ record { sum = 49; mask = 2 }
    ∷ record { sum = 50; mask = 6 } ∷ record { sum = 50; mask = 1 } ∷ record { sum = 51; mask = 5 }
    ∷ record { sum = 99; mask = 3 } ∷ record { sum = 100; mask = 7 } ∷ []
three_entries = refl

-- the sets of two chairs, which come after those of none and of one
pub pairs_of_three : group_of 2 (entries_of three_chairs)
    ≡ record { sum = 50; mask = 6 } ∷ record { sum = 51; mask = 5 } ∷ record { sum = 99; mask = 3 } ∷ []
unfolding lib.Count.ones
pairs_of_three = refl

pub before_the_pairs : fewer_than 2 (entries_of three_chairs) ≡ 4
unfolding lib.Count.ones
before_the_pairs = refl

three_apart : IsDistinct eqb (map (λ c. c.0) three_chairs)
unfolding IsDistinct
three_apart = search rules

-- by the law, the mask of the first and the last chair appears once in each list of the three, and
-- no mask appears twice
pub mask_once : MaskLaw → (entries : List Entry) → AreSubsets three_chairs entries → IsOver three_chairs 5 → occurrences 5 entries ≡ 1
mask_once law entries are over = (law three_chairs entries three_apart are).once 5 over

pub no_mask_twice : MaskLaw → (entries : List Entry) → AreSubsets three_chairs entries → (mask : ℕ) → occurrences mask entries ≤ 1
no_mask_twice law entries are mask = (law three_chairs entries three_apart are).never_twice mask

-- a mask with a fourth slot is over other chairs
pub fourth_slot : IsOver three_chairs 8 → ⊥
fourth_slot over = true≢false (sym (over 3 refl))
