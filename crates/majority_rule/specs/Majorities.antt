-- The majorities, and the number and the word of each.
use Rattle.std.specs.Prelude.{ℕ, List, [], ◌∷◌, Option, ◌==◌, codes, find}
use Rattle.std.specs.Str.{bytes_eq}
use Rattle.majority_rule.specs.declared.majorities.Majority.{Majority}
use Rattle.majority_rule.specs.declared.majorities.Majority.TheVariants.{Half, Seventy, EightyFive, Quorum}

-- each majority, once
abbrev pub every_majority : List Majority
every_majority = Half ∷ Seventy ∷ EightyFive ∷ Quorum ∷ []

-- the number of a majority for a caller in C, and its word in records and lines
abbrev pub row_of_majority : Majority → ℕ × List ℕ
row_of_majority Half = (0, codes "half")
row_of_majority Seventy = (1, codes "70")
row_of_majority EightyFive = (2, codes "85")
row_of_majority Quorum = (3, codes "quorum")

abbrev pub number_of_majority : Majority → ℕ
number_of_majority m = (row_of_majority m).0

abbrev pub word_of_majority : Majority → List ℕ
word_of_majority m = (row_of_majority m).1

-- a majority, by its number
abbrev pub majority_numbered : ℕ → Option Majority
majority_numbered number = find (λ m. number_of_majority m == number) every_majority

-- a majority, by its word
abbrev pub majority_of : List ℕ → Option Majority
majority_of field = find (λ m. bytes_eq field (word_of_majority m)) every_majority
