-- Laws that tie the definitions to one another.
use Rattle.std.specs.Prelude.{◌≡◌, ℕ, ◌^◌, ◌≤◌, ◌↔◌, ◌++◌, ◌∷◌, [], Bool, false, List, length, Ok}
use Rattle.std.specs.Prelude.{map, filter, take, count_by, All, nat_eq}
use Rattle.std.specs.List.{IsDistinct}
use Rattle.std.specs.Cmp.Lexicographic.{pointwise}
use Rattle.council_core.specs.declared.limits.TheConstants.{MAX_COMMANDS, MAX_MEMBERS, MAX_VOTES}
use Rattle.council_core.specs.Coalitions.{subsets}
use Rattle.council_core.specs.Ledgers.{has_duplicate, start_verdict}
use Rattle.council_core.specs.Rolls.{Opening, Roll, IsLegal, cast, sheet, sheet_words}
use Rattle.council_core.specs.Sheets.{Chair, IsSheet, cast_of, front_of, open_chairs, weight_of}
use Rattle.council_core.specs.declared.commands.Command.{Command}
use Rattle.council_core.specs.declared.commands.Command.TheVariants.{Open, Close, Move, SetVotes, Suspend, Restore}
use Rattle.council_core.specs.declared.commands.Command.TheVariants.{Admit, Withdraw}

-- the cast of a roll, counted by its members, is the cast that its sheet shows
abbrev pub CastLaw : Type 0
CastLaw = (roll : Roll) (front : ℕ) → cast roll ≡ cast_of (sheet_words roll front)

-- the weights of the open chairs of a sheet add up to its cast
abbrev pub WeightsLaw : Type 0
WeightsLaw = (words : List ℕ) → weight_of (open_chairs words) ≡ cast_of words

-- n chairs have 2^n coalitions
abbrev pub CoalitionsLaw : Type 0
CoalitionsLaw = (chairs : List Chair) → length (subsets chairs) ≡ 2 ^ length chairs

-- whether two sets have the same chairs, listed in the same order
abbrev pub same_set : List Chair → List Chair → Bool
same_set s t = pointwise (λ a b. nat_eq a.0 b.0) s t

-- each choice of chairs is exactly one coalition
abbrev pub EachOnceLaw : Type 0
EachOnceLaw = (chairs : List Chair) → IsDistinct nat_eq (map (λ c. c.0) chairs) → (chosen : Chair → Bool)
    → count_by (same_set (filter chosen chairs)) (subsets chairs) ≡ 1

-- appending a command leaves the sheets of all prefixes unchanged
abbrev pub PrefixLaw : Type 0
PrefixLaw = (opening : Opening) (commands : List Command) (command : Command) (front : ℕ)
    → front ≤ length commands
    → sheet opening (take front (commands ++ command ∷ [])) ≡ sheet opening (take front commands)

-- the front of the sheet of a prefix is its length
abbrev pub FrontLaw : Type 0
FrontLaw = (opening : Opening) (commands : List Command) (front : ℕ) → front ≤ length commands
    → front_of (sheet opening (take front commands)) ≡ front

-- members with which a register can start: at most MAX_MEMBERS, no code twice, and votes in range
pub record IsOpening (opening : Opening) : Type 0 where
  pub bound : length opening ≤ MAX_MEMBERS
  pub apart : has_duplicate opening ≡ false
  pub small : All (λ m. m.1 ≤ MAX_VOTES) opening

-- for members whose votes are in range: the verdict of a start is Ok exactly if they are an opening
-- and the limit is from 1 to MAX_COMMANDS
abbrev pub OpeningLaw : Type 0
OpeningLaw = (opening : Opening) (limit : ℕ) → All (λ m. m.1 ≤ MAX_VOTES) opening
    → (start_verdict opening limit ≡ Ok tt) ↔ ((1 ≤ limit) × (limit ≤ MAX_COMMANDS) × IsOpening opening)

-- the votes that a command sets are in range; a command that sets none always meets this
abbrev pub SetsInRange : Command → Type 0
SetsInRange (Open c) = Unit {0}
SetsInRange (Close c) = Unit {0}
SetsInRange (Move code to) = Unit {0}
SetsInRange (SetVotes code n) = n ≤ MAX_VOTES
SetsInRange (Suspend code) = Unit {0}
SetsInRange (Restore code) = Unit {0}
SetsInRange (Admit code n) = n ≤ MAX_VOTES
SetsInRange (Withdraw code) = Unit {0}

-- the numbers of the sheet of a legal list of commands are in range
abbrev pub SheetLaw : Type 0
SheetLaw = (opening : Opening) (commands : List Command) → IsOpening opening → All SetsInRange commands
    → IsLegal opening commands → IsSheet (sheet opening commands)
