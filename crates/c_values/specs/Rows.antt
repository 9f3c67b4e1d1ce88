-- The counts that indices contain.
use Rattle.std.specs.Prelude.{ℕ, List}
use Rattle.majority_rule.specs.declared.majorities.Majority.{Majority}
use Rattle.power_index.specs.declared.indices.ChairPower.{ChairPower}
use Rattle.power_index.specs.declared.indices.Indices.{Indices}
use Rattle.power_index.specs.Indices.{AreIndices}
use Rattle.c_values.specs.declared.counts.BoardChair.{BoardChair}
use Rattle.c_values.specs.declared.counts.BoardCounts.{BoardCounts}
use Rattle.c_values.specs.Counts.{AreCountsOf}

-- the chair, the weight and the swings of a row of the indices
abbrev pub without_indices : ChairPower → BoardChair
without_indices row = record { chair = row.chair; weight = row.weight; swings = row.swings }

-- these are the counts of each board that has these indices
abbrev pub AreCountsAmong : Indices → BoardCounts → Type 0
AreCountsAmong indices counts =
    (m : Majority) (words : List ℕ) → AreIndices m words indices → AreCountsOf m words counts
