-- The fields of a record by number.
use Rattle.std.specs.Prelude.{◌≡◌, ◌<◌, ◌⊎◌, ℕ, List, [], ◌∷◌, length}
use Rattle.board_text.specs.declared.fields.Fields.{Fields}
use Rattle.board_text.specs.declared.fields.Fields.TheVariants as n

-- these are the fields of a record that has one to four fields; `Other` is any other record
abbrev pub AreFields : Fields → List (List ℕ) → Type 0
AreFields (n.One a) fields = fields ≡ a.now ∷ []
AreFields (n.Two a b) fields = fields ≡ a.now ∷ b.now ∷ []
AreFields (n.Three a b c) fields = fields ≡ a.now ∷ b.now ∷ c.now ∷ []
AreFields (n.Four a b c d) fields = fields ≡ a.now ∷ b.now ∷ c.now ∷ d.now ∷ []
AreFields n.Other fields = (fields ≡ []) ⊎ (4 < length fields)
