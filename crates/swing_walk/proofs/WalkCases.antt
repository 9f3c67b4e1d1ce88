-- Where a walk stands and what it has counted, and what these definitions exclude.
use Rattle.std.proofs.Common.{◌≡◌, ℕ, List, [], ◌∷◌, refl, ap, arith, rules}
use Rattle.std.proofs.lemmas.List.Sorted.{IsNonDecreasingBy-short}
use Rattle.half_sums.specs.declared.entry.Entry.{Entry}
use Rattle.half_sums.specs.Entries.{IsHalf, entries_of, three_chairs}
use Rattle.swing_walk.specs.Sides.{sizes_at}
use Rattle.swing_walk.specs.Sizes.{CountsBySize, tally_of_size}
use Rattle.swing_walk.specs.Walks.{HasCredited, IsBetween, IsNext, IsPassed}
use Rattle.swing_walk.specs.declared.partners.BySize.{BySize}
use Rattle.swing_walk.specs.declared.positions.Next.{Next}
use Rattle.swing_walk.specs.declared.positions.Position.{Position}
use Rattle.swing_walk.specs.declared.positions.Route.{Route}
use Rattle.swing_walk.specs.declared.tally.MaskTally.{MaskTally}
use Rattle.std.specs.Prelude.{slice_index_or, true, false}

-- no set, and one set with 5 votes: of the first chair, or of no chair
nothing : IsHalf []
nothing = record { bound = omega arith; ascending = IsNonDecreasingBy-short (λ e. e.sum) [] (omega arith); small = search rules; slots = search rules }

abbrev set : ℕ → List Entry
set mask = record { sum = 5; mask = mask } ∷ []

one_chair : IsHalf (set 1)
one_chair = record { bound = omega arith; ascending = IsNonDecreasingBy-short (λ e. e.sum) (set 1) (omega arith); small = search rules; slots = search rules }

no_chair : IsHalf (set 0)
no_chair = record { bound = omega arith; ascending = IsNonDecreasingBy-short (λ e. e.sum) (set 0) (omega arith); small = search rules; slots = search rules }

abbrev over : {rising falling : List Entry} → ℕ → IsHalf rising → IsHalf falling → Route
over {rising} {falling} quota up down = record { quota = quota; least_size = 0; rising = rising; falling = falling; rising_half = up; falling_half = down }

abbrev at : ℕ → ℕ → Position
at up rest = record { up = up; rest = rest }

-- no more entries are passed than there are
none_passed : (IsBetween (over 1 nothing nothing) (at 1 0) → ⊥) × (IsBetween (over 1 nothing nothing) (at 0 1) → ⊥)
none_passed = ((λ h. omega (arith, h.up_in)), (λ h. omega (arith, h.rest_in)))

-- a rising entry that reaches the quota with a falling one that is left is not passed, nor a falling one that falls short
reaching_passed : IsBetween (over 10 one_chair one_chair) (at 1 1) → ⊥
reaching_passed h = omega (arith, h.short 0 0 (omega arith) (omega arith))

short_passed : IsBetween (over 11 one_chair one_chair) (at 0 0) → ⊥
short_passed h = omega (arith, h.reached 0 0 (omega arith) (omega arith) (omega arith) (omega arith))

-- each passed entry is credited with its partners
not_credited : (HasCredited (over 10 no_chair one_chair) (at 1 1) [] → ⊥) × (HasCredited (over 10 one_chair no_chair) (at 0 0) [] → ⊥)
unfolding lib.Count.ones
not_credited = ((λ h. omega (arith, h.rising_total)), (λ h. omega (arith, h.falling_total)))

-- at its own mask: here at the mask of no chair
abbrev without_chair : MaskTally
without_chair = record { low = 1 ∷ []; high = 1 ∷ []; same_sum = refl }

marked_elsewhere : (HasCredited (over 10 one_chair one_chair) (at 1 1) (without_chair ∷ []) → ⊥) × (HasCredited (over 10 one_chair one_chair) (at 0 0) (record { low = []; high = []; same_sum = refl } ∷ without_chair ∷ []) → ⊥)
unfolding lib.Count.ones
marked_elsewhere = ((λ h. omega (arith, h.rising_marked 0)), (λ h. omega (arith, h.falling_marked 0)))

-- of three chairs' eight sets one has no chair and four have at most one; all eight, and no set of the other half, are counted
module _ (by : BySize) (three : IsHalf (entries_of three_chairs)) (counts : CountsBySize by (over 51 three nothing) (at 8 0)) where
  fewer_sets : (slice_index_or by.fewer 1 0 ≡ 1) × (slice_index_or by.fewer 2 0 ≡ 4)
  unfolding lib.Count.ones
  fewer_sets = (counts.fewer 1 (omega arith), counts.fewer 2 (omega arith))

  all_risen : tally_of_size 0 (sizes_at 0 by.passed) ≡ 8
  unfolding lib.Count.ones
  all_risen = counts.risen 0 (omega arith)

  none_fallen : tally_of_size 0 (sizes_at 1 by.passed) ≡ 0
  unfolding lib.Count.ones
  none_fallen = counts.fallen 0 (omega arith)

-- the entry that is passed next is there, is the next one, and is passed by what it reaches with the other
no_entry_left : (next : Next) → (IsPassed true next (over 10 one_chair one_chair) (at 0 0) → ⊥) × (IsPassed false next (over 10 one_chair one_chair) (at 1 1) → ⊥)
no_entry_left next = ((λ h. omega (arith, h.0)), (λ h. omega (arith, h.0)))

abbrev six : Entry
six = record { sum = 6; mask = 1 }

another_entry : (IsNext (record { low = six; high = six; falls = true }) (over 10 nothing one_chair) (at 0 1) → ⊥) × (IsNext (record { low = six; high = six; falls = false }) (over 10 one_chair nothing) (at 0 0) → ⊥)
another_entry = (
  (λ h. let votes : 6 ≡ 5 = ap (λ (e : Entry). e.sum) h.1 in omega (arith, votes)),
  (λ h. let votes : 6 ≡ 5 = ap (λ (e : Entry). e.sum) h.1 in omega (arith, votes)),
)

wrong_end_passed : (next : Next) → (IsPassed true next (over 11 one_chair one_chair) (at 0 1) → ⊥) × (IsPassed false next (over 10 one_chair one_chair) (at 0 1) → ⊥)
wrong_end_passed next = ((λ h. omega (arith, h.2 (omega arith))), (λ h. omega (arith, h.2 (omega arith))))
