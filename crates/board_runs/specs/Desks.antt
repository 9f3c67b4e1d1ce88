-- The indices that a desk keeps for the next reading.
use Rattle.std.specs.Prelude.{◌≡◌, ℕ, List, Option, Some}
use Rattle.power_index.specs.Indices.{indices_of}
use Rattle.power_index.specs.declared.indices.Indices.{Indices}

-- the indices kept, if any, are those of the sheet
abbrev pub AreCounted : Option Indices → List ℕ → Type 0
AreCounted kept words = (i : Indices) → kept ≡ Some i → i ≡ indices_of i.majority words
