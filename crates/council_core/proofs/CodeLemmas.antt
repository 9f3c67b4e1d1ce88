-- The letters of a code, as text.
use Rattle.std.proofs.Common.{ℕ, ◌&&◌, ◌<◌, ◌≡◌, true, List, [], ◌∷◌, arith}
use Rattle.std.specs.Str.{IsAscii, IsUtf8}
use Rattle.std.proofs.lemmas.Bool.{false≢true, and_parts}
use Rattle.std.proofs.lemmas.Bool.Decides.{nat_tests}
use Rattle.std.proofs.lemmas.Str.{IsUtf8-from_ascii}
use Rattle.std.proofs.lemmas.Str.Ascii.{IsAscii-cons, IsAscii-nil}
use Rattle.council_core.specs.Codes.{IsCode, is_capital}

capital_small : (b : ℕ) → is_capital b ≡ true → b < 128
capital_small b capital = grind (arith, nat_tests)

letters_are_ascii : (code : List ℕ) → IsCode code → IsAscii code
letters_are_ascii [] is = absurd (false≢true is)
letters_are_ascii (a ∷ []) is = absurd (false≢true is)
letters_are_ascii (a ∷ b ∷ []) is = absurd (false≢true is)
letters_are_ascii (a ∷ b ∷ c ∷ []) is =
    let third = and_parts (is_capital a && is_capital b) (is_capital c) is in
    let both = and_parts (is_capital a) (is_capital b) third.0 in
    IsAscii-cons a (b ∷ c ∷ []) (capital_small a both.0)
    (IsAscii-cons b (c ∷ []) (capital_small b both.1) (IsAscii-cons c [] (capital_small c third.1) IsAscii-nil))
letters_are_ascii (a ∷ b ∷ c ∷ d ∷ rest) is = absurd (false≢true is)

-- a code is text
pub code_is_text : (code : List ℕ) → IsCode code → IsUtf8 code
code_is_text code is = IsUtf8-from_ascii code (letters_are_ascii code is)
