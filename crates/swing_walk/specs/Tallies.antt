-- Amounts stored by the bytes of a mask, and the amounts that walks add.
use Rattle.std.specs.Prelude.{ℕ, ◌≡◌, ◌+◌, Bool, List}
use Rattle.std.specs.List.{sum_by}
use Rattle.half_sums.specs.declared.entry.Entry.{Entry}
use Rattle.swing_walk.specs.Pairs.{pairs_where, with_slot}
use Rattle.swing_walk.specs.Tables.{weighted_sum, low_weight, high_weight}
use Rattle.swing_walk.specs.declared.tally.MaskTally.{MaskTally}

-- the sum of the amounts whose masks have this slot
abbrev pub slot_amount : ℕ → MaskTally → ℕ
slot_amount slot t = weighted_sum (low_weight slot) 0 t.low + weighted_sum (high_weight slot) 0 t.high

-- the sum of all amounts
abbrev pub tally_total : MaskTally → ℕ
tally_total t = sum_by (λ n. n) t.low

-- two tallies together have exactly 1 for each pair that passes a test, at the mask of its first
-- entry
pub record CreditsEach (test : Entry → Entry → Bool) (entries others : List Entry) (one two : MaskTally)
    : Type 0 where
  pub totals : tally_total one + tally_total two ≡ pairs_where test entries others
  pub marks : (slot : ℕ)
      → slot_amount slot one + slot_amount slot two ≡ pairs_where (with_slot slot test) entries others
