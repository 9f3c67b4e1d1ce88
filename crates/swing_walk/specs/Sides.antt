-- The data of a chain for its rising list (index 0) and its falling list (index 1).
use Rattle.std.specs.Prelude.{ℕ, List, [], slice_index_or, refl}
use Rattle.swing_walk.specs.declared.tally.MaskTally.{MaskTally}
use Rattle.swing_walk.specs.declared.sizes.SizeTally.{SizeTally}

-- the default tally, for an index at which there is none
abbrev pub no_tally : MaskTally
no_tally = record { low = []; high = []; same_sum = refl }

abbrev pub no_sizes : SizeTally
no_sizes = record { at_least = [] }

-- the tally at an index: 0 for the rising sets, 1 for the falling ones
abbrev pub tally_at : ℕ → List MaskTally → MaskTally
tally_at index tallies = slice_index_or tallies index no_tally

abbrev pub sizes_at : ℕ → List SizeTally → SizeTally
sizes_at index tallies = slice_index_or tallies index no_sizes
