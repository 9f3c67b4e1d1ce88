-- What reads as a number: its digits, after zeros.
use Rattle.std.proofs.Common.{◌≡◌, ◌<◌, ◌+◌, ◌-◌, ◌*◌, ◌^◌, ℕ, suc, Bool, true, false, cond, List, [], ◌∷◌, ◌++◌, Option, Some, None, length, replicate, sym, ap, ◌∙◌, refl, arith, inl, inr, nat_le, nat_lt, ◌&&◌}
use Rattle.std.specs.Prelude.{decimal}
use Rattle.std.specs.Char.{digit_value, is_ascii_digit}
use Rattle.std.specs.Str.Parse.{AllDigits, digits_value, digits_value_after}
use Rattle.std.proofs.lemmas.Bool.{and_parts, cases_eq, leb-true, ltb-true}
use Rattle.std.proofs.lemmas.Bool.Decides.{nat_tests}
use Rattle.std.proofs.lemmas.Fmt.{decimal-digits_value}
use Rattle.std.proofs.lemmas.Str.Parse.{IsNumeralModel, numerals_by_value, tells_digits}
use Rattle.board_text.specs.Numbers.{number_from, number_of_digits}

-- a number that was read after another one: digits, and what they say
pub record Says (k n : ℕ) (ds : List ℕ) : Type 0 where
  pub digits : AllDigits 10 ds
  pub value : digits_value_after 10 k ds ≡ n
  pub fits : n < 2 ^ 64

passes : (b : Bool) (o : Option ℕ) (n : ℕ) → cond b o None ≡ Some n → (b ≡ true) × (o ≡ Some n)
passes true o n read = (refl, read)
passes false o n read = cc read

digit-says : (b : ℕ) → is_ascii_digit b ≡ true → (digit_value b < 10) × (digit_value b ≡ b - 48)
digit-says b digit = (grind (arith, nat_tests), grind (arith, nat_tests))

says : (k n : ℕ) (ds : List ℕ) → k < 2 ^ 64 → number_from k ds ≡ Some n → Says k n ds
says k n [] fits read = let same : k ≡ n = cc read in record { digits = tt; value = same; fits = omega (arith, same, fits) }
says k n (d ∷ ds) fits read =
    let step = passes (is_ascii_digit d && nat_lt (k * 10 + (d - 48)) (2 ^ 64)) (number_from (k * 10 + (d - 48)) ds) n read in
    let tests = and_parts (is_ascii_digit d) (nat_lt (k * 10 + (d - 48)) (2 ^ 64)) step.0 in
    let digit = digit-says d tests.0 in
    let rest = says (k * 10 + (d - 48)) n ds (ltb-true (k * 10 + (d - 48)) (2 ^ 64) tests.1) step.1 in
    record { digits = (digit.0, rest.digits); value = ap (λ x. digits_value_after 10 (k * 10 + x) ds) digit.1 ∙ rest.value; fits = rest.fits }

own : IsNumeralModel (AllDigits 10) (digits_value 10)
own = numerals_by_value (AllDigits 10) tells_digits

-- digits are zeros, and then the number as it is printed
after-zeros : (n : ℕ) (ds : List ℕ) → 0 < length ds → Says 0 n ds → (zeros : ℕ) × (ds ≡ replicate zeros 48 ++ decimal n)
after-zeros n [] some says = absurd (omega (arith, some))
after-zeros n (d ∷ []) some says =
    let printed = decimal-digits_value own (d ∷ []) says.digits (omega arith) (λ e. refl) (omega (arith, says.value, says.fits)) in
    (0, sym printed ∙ ap decimal says.value)
after-zeros n (d ∷ e ∷ ds) some says = elim (cases_eq d 48) [
  | inl nought ↦
      let rest : Says 0 n (e ∷ ds) = record { digits = says.digits.1; value = rw nought at says.value; fits = says.fits } in
      let more = after-zeros n (e ∷ ds) (omega arith) rest in
      (suc more.0, rw nought (ap (λ l. 48 ∷ l) more.1))
  | inr other ↦
      let printed = decimal-digits_value own (d ∷ e ∷ ds) says.digits (omega arith) (λ first. absurd (other first)) (omega (arith, says.value, says.fits)) in
      (0, sym printed ∙ ap decimal says.value)
]

pub no-other-number : (field : List ℕ) (n : ℕ) → number_of_digits field ≡ Some n → (n < 2 ^ 64) × ((zeros : ℕ) × (field ≡ replicate zeros 48 ++ decimal n))
no-other-number field n read =
    let step = passes (nat_le 1 (length field) && nat_le (length field) 20) (number_from 0 field) n read in
    let lengths = and_parts (nat_le 1 (length field)) (nat_le (length field) 20) step.0 in
    let says_n = says 0 n field (omega arith) step.1 in
    (says_n.fits, after-zeros n field (leb-true 1 (length field) lengths.0) says_n)
