-- A member's code.
use Rattle.std.specs.Prelude.{ℕ, List, [], ◌∷◌, Bool, false, ◌&&◌, nat_le, IsTrue}

abbrev pub is_capital : ℕ → Bool
is_capital b = nat_le 65 b && nat_le b 90

-- exactly three ASCII capitals
abbrev pub is_code : List ℕ → Bool
is_code (a ∷ b ∷ c ∷ []) = is_capital a && is_capital b && is_capital c
is_code text = false

abbrev pub IsCode : List ℕ → Type 0
IsCode text = IsTrue (is_code text)
