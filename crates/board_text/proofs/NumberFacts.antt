-- A number that was printed, read back.
use Rattle.std.proofs.Common.{◌≡◌, ◌<◌, ◌≤◌, ◌+◌, ◌-◌, ◌*◌, ◌/◌, ◌%◌, ◌^◌, ℕ, Bool, true, false, cond, List, [], ◌∷◌, ◌++◌, Option, Some, None, ap, ◌∙◌, arith, refl}
use Rattle.std.specs.Prelude.{decimal}
use Rattle.std.specs.Char.{is_ascii_digit}
use Rattle.std.proofs.lemmas.Bool.{le-leb, lt-ltb}
use Rattle.std.proofs.lemmas.Bool.Decides.{nat_tests}
use Rattle.std.proofs.lemmas.Fmt.{decimal_by_steps, decimal_nonempty, length-decimal-le}
use Rattle.board_text.specs.Numbers.{number_from, number_of_digits}

-- one digit, behind a number
digit-read : (k d : ℕ) → d < 10 → k * 10 + d < 2 ^ 64 → number_from k ((48 + d) ∷ []) ≡ Some (k * 10 + d)
digit-read k d digit fits =
    let is : is_ascii_digit (48 + d) ≡ true = grind (arith, nat_tests) in
    let value : 48 + d - 48 ≡ d = omega arith in
    rw (value, is, lt-ltb (k * 10 + d) (2 ^ 64) fits) refl

passed : (b : Bool) (o p : Option ℕ) (n m : ℕ) → (o ≡ Some n → p ≡ Some m) → cond b o None ≡ Some n → cond b p None ≡ Some m
passed true o p n m more read = more read
passed false o p n m more read = cc read

-- one digit, behind digits that were read
digit-pushed : (k n d : ℕ) (ds : List ℕ) → number_from k ds ≡ Some n → d < 10 → n * 10 + d < 2 ^ 64 → number_from k (ds ++ ((48 + d) ∷ [])) ≡ Some (n * 10 + d)
digit-pushed k n d [] read digit fits =
    let same : k ≡ n = cc in
    rw same (digit-read n d digit fits)
digit-pushed k n d (x ∷ xs) read digit fits = passed _ _ _ n _ (λ r. digit-pushed (k * 10 + (x - 48)) n d xs r digit fits) read

abbrev ReadsAs : ℕ → List ℕ → Type 0
ReadsAs n ds = n < 2 ^ 64 → number_from 0 ds ≡ Some n

one-digit : (n : ℕ) → n < 10 → ReadsAs n ((48 + n) ∷ [])
one-digit n small = λ fits. digit-read 0 n small (omega arith) ∙ ap Some (omega arith)

more-digits : (n : ℕ) (ds : List ℕ) → 10 ≤ n → ReadsAs (n / 10) ds → ReadsAs n (ds ++ ((48 + n % 10) ∷ []))
more-digits n ds large before = λ fits.
    let same : n / 10 * 10 + n % 10 ≡ n = omega arith in
    digit-pushed 0 (n / 10) (n % 10) ds (before (omega arith)) (omega arith) (omega arith) ∙ ap Some same

pub number-back : (n : ℕ) → n < 2 ^ 64 → number_of_digits (decimal n) ≡ Some n
number-back n fits =
    rw (le-leb 1 _ (decimal_nonempty n fits), le-leb _ 20 (length-decimal-le 20 n (omega arith) (omega arith) fits))
    (decimal_by_steps ReadsAs one-digit more-digits n fits fits)
