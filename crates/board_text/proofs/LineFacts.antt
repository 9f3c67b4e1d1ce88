-- The fields of a line, read back from it.
use Rattle.std.proofs.Common.{◌≡◌, ◌==◌, ◌<◌, ◌/◌, ◌%◌, ℕ, zero, suc, Bool, true, false, List, [], ◌∷◌, ◌++◌, refl, sym, ap, ◌∙◌, arith, append_assoc, append-nil, if◌then◌else◌}
use Rattle.std.specs.Prelude.{decimal}
use Rattle.std.specs.Fmt.{digit_glyph, digits, digits_onto}
use Rattle.std.specs.List.{list_any}
use Rattle.std.proofs.lemmas.Bool.{or_from, or_parts}
use Rattle.std.proofs.lemmas.Bool.Decides.{nat_tests}
use Rattle.board_text.specs.Lines.{LineBytes, line_of}

-- no byte of a field is a comma
abbrev pub HasNoComma : List ℕ → Type 0
HasNoComma field = list_any (λ b. b == 44) field ≡ false

abbrev pub HaveNoComma : List (List ℕ) → Type 0
HaveNoComma [] = Unit {0}
HaveNoComma (field ∷ fields) = HasNoComma field × HaveNoComma fields

-- the fields of a line, of which the first has start with these bytes
abbrev pub fields_from : List ℕ → LineBytes → List (List ℕ)
fields_from field [] = field ∷ []
fields_from field (b ∷ bs) = if b == 44 then field ∷ fields_from [] bs else fields_from (field ++ b ∷ []) bs

skip : (field x rest : List ℕ) → HasNoComma x → fields_from field (x ++ rest) ≡ fields_from (field ++ x) rest
skip field [] rest none = ap (λ l. fields_from l rest) (sym (append-nil field))
skip field (b ∷ bs) rest none =
    let parts = or_parts (b == 44) (list_any (λ b. b == 44) bs) none in
    rw parts.0 (skip (field ++ b ∷ []) bs rest parts.1 ∙ ap (λ l. fields_from l rest) (append_assoc field (b ∷ []) bs))

-- each field after a comma
abbrev after_commas : List (List ℕ) → LineBytes
after_commas [] = []
after_commas (field ∷ fields) = 44 ∷ field ++ after_commas fields

line-is : (word : List ℕ) (fields : List (List ℕ)) → line_of word fields ≡ word ++ after_commas fields
line-is word [] = sym (append-nil word)
line-is word (f ∷ fs) = line-is (word ++ 44 ∷ f) fs ∙ append_assoc word (44 ∷ f) (after_commas fs)

fields-after : (field : List ℕ) (fields : List (List ℕ)) → HaveNoComma fields → fields_from field (after_commas fields) ≡ field ∷ fields
fields-after field [] none = refl
fields-after field (f ∷ fs) none = ap (λ l. field ∷ l) (skip [] f (after_commas fs) none.0 ∙ fields-after f fs none.1)

-- the fields of a line are those that it was made of
pub line-back : (word : List ℕ) (fields : List (List ℕ)) → HasNoComma word → HaveNoComma fields → fields_from [] (line_of word fields) ≡ word ∷ fields
line-back word fields first none =
    ap (fields_from []) (line-is word fields) ∙ skip [] word (after_commas fields) first ∙ fields-after word fields none

-- a printed number has no comma
glyph-none : (d : ℕ) → d < 10 → (digit_glyph false d == 44) ≡ false
glyph-none d digit = grind (arith, nat_tests)

either : (b : Bool) (x y : List ℕ) → HasNoComma x → HasNoComma y → HasNoComma (if b then x else y)
either true x y first second = first
either false x y first second = second

digits-none : (k n : ℕ) (acc : List ℕ) → HasNoComma acc → HasNoComma (digits_onto k 10 false n acc)
digits-none zero n acc none = none
digits-none (suc k) n acc none =
    let more : HasNoComma (digit_glyph false (n % 10) ∷ acc) = or_from _ _ (glyph-none (n % 10) (omega arith)) none in
    either (n / 10 == 0) _ _ more (digits-none k (n / 10) (digit_glyph false (n % 10) ∷ acc) more)

pub number-none : (n : ℕ) → HasNoComma (decimal n)
unfolding digits
number-none n = digits-none 64 n [] refl
