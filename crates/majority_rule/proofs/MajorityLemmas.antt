-- What holds of every majority.
use Rattle.std.proofs.Common.{◌≡◌, ℕ, Bool, true, List, Some, refl, arith}
use Rattle.std.specs.List.{list_all}
use Rattle.std.specs.Str.{bytes_eq}
use Rattle.std.proofs.lemmas.List.Sums.{AllPass-from_list_all}
use Rattle.std.proofs.lemmas.Slice.Eq.{bytes_eq-Decides}
use Rattle.council_core.proofs.Face.{found-passes}
use Rattle.majority_rule.specs.Majorities.{every_majority, majority_of, word_of_majority}
use Rattle.majority_rule.specs.declared.majorities.Majority.{Majority}
use Rattle.majority_rule.specs.declared.majorities.Majority.TheVariants.{Half, Seventy, EightyFive, Quorum}

-- what every majority of the list passes, each majority does
pub each-majority : (p : Majority → Bool) → list_all p every_majority ≡ true → (m : Majority) → p m ≡ true
each-majority p all Half = AllPass-from_list_all p every_majority all 0 Half (omega arith)
each-majority p all Seventy = AllPass-from_list_all p every_majority all 1 Half (omega arith)
each-majority p all EightyFive = AllPass-from_list_all p every_majority all 2 Half (omega arith)
each-majority p all Quorum = AllPass-from_list_all p every_majority all 3 Half (omega arith)

-- its word, and no other, reads back
pub majority-back : (m : Majority) → majority_of (word_of_majority m) ≡ Some m
majority-back Half = refl
majority-back Seventy = refl
majority-back EightyFive = refl
majority-back Quorum = refl

pub majority-word : (m : Majority) (field : List ℕ) → majority_of field ≡ Some m → field ≡ word_of_majority m
majority-word m field read = (bytes_eq-Decides field (word_of_majority m)).0 (found-passes (λ m. bytes_eq field (word_of_majority m)) every_majority m read)
