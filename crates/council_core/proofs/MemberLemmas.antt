-- The rows that an iterator over the members has left.
use Rattle.std.proofs.Common.{◌≡◌, ℕ, zero, suc, ◌+◌, ◌<◌, length, List, [], ◌∷◌, drop, map, refl, subst, arith}
use Rattle.std.specs.Prelude.{Option, option_map, slice_get}
use Rattle.std.specs.Iterator.{YieldsFirst}
use Rattle.council_core.specs.Members.{row_of}
use Rattle.council_core.specs.Rolls.{RollEntry}
use Rattle.council_core.specs.declared.commands.MemberRow.{MemberRow}

row_is_next : (index : ℕ) (members : List RollEntry) (row : Option MemberRow) → index < length members → row ≡ option_map row_of (slice_get members index) → YieldsFirst (λ rows. rows) (drop index (map row_of members)) row (drop (suc index) (map row_of members))
row_is_next index [] row within same = absurd (omega (arith, within))
row_is_next zero (m ∷ ms) row within same = rw same refl
row_is_next (suc index) (m ∷ ms) row within same = row_is_next index ms row (omega (arith, within)) same

-- the row at an index, before the end, is the first of the rows from there on
pub row_is_first : (index : ℕ) (members : List RollEntry) (row : Option MemberRow) → index < length members → row ≡ option_map row_of (slice_get members index) → YieldsFirst (λ rows. rows) (drop index (map row_of members)) row (drop (index + 1) (map row_of members))
row_is_first index members row within same =
    let next : suc index ≡ index + 1 = omega arith in
    subst (λ k. YieldsFirst (λ rows. rows) (drop index (map row_of members)) row (drop k (map row_of members))) next (row_is_next index members row within same)
