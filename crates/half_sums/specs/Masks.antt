-- Masks: the number whose bits are the slots of a set of chairs, slot 0 the lowest bit.
use Rattle.std.specs.Prelude.{ℕ, ◌≡◌, ◌^◌, true, List, [], ◌∷◌, bit_or}
use Rattle.std.specs.Int.{bit_at}
use Rattle.council_core.specs.Sheets.{Chair}
use Rattle.council_core.specs.Coalitions.{has_chair}

-- the number whose bits are the slots of a set
abbrev pub mask_of : List Chair → ℕ
mask_of [] = 0
mask_of (chair ∷ s) = bit_or (mask_of s) (2 ^ chair.0)

-- each bit that is set in the mask is the slot of one of the chairs
abbrev pub IsOver : List Chair → ℕ → Type 0
IsOver chairs mask = (slot : ℕ) → bit_at mask slot ≡ 1 → has_chair slot chairs ≡ true
