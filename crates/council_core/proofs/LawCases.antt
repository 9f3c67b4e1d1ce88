-- Instances of the laws at worked examples, which meet their premises, and examples that do not.
use Rattle.std.proofs.Common.{rules, ◌≡◌, ◌≤◌, ◌^◌, ◌+◌, ℕ, Ok, length, List, [], ◌∷◌, ◌++◌, take, map, filter, nat_eq, Some, refl, arith, All, count_by, true≢false}
use Rattle.std.specs.List.{IsDistinct}
use Rattle.std.proofs.lemmas.List.Elements.{All-from_recursion}
use Rattle.council_core.specs.Coalitions.{subsets}
use Rattle.council_core.specs.Ledgers.{start_verdict}
use Rattle.council_core.specs.Rolls.{IsLegal, Roll, cast, sheet, sheet_words}
use Rattle.council_core.specs.Sheets.{Chair, IsSheet, cast_of, front_of, open_chairs, weight_of}
use Rattle.council_core.specs.Laws.{IsOpening, SetsInRange, CastLaw, CoalitionsLaw, OpeningLaw, WeightsLaw, SheetLaw, PrefixLaw, FrontLaw, EachOnceLaw, same_set}
use Rattle.council_core.specs.declared.commands.Command.{Command}
use Rattle.council_core.specs.declared.commands.Command.TheVariants.{Open, Close, Move, SetVotes, Suspend, Restore, Admit, Withdraw}
use Rattle.council_core.proofs.WorkedCases.{AAA, BBB, three_members, three}

-- a legal list with each of the eight commands
abbrev each_command : List Command
each_command = Open 1 ∷ Open 2 ∷ Move AAA (Some 1) ∷ SetVotes AAA 7 ∷ Suspend AAA ∷ Restore AAA ∷ Close 2 ∷ Withdraw BBB ∷ Admit BBB 9 ∷ []

pub opening_in_range : IsOpening three_members
opening_in_range = search rules

-- what a start takes is an opening
pub opening_law_used : OpeningLaw → IsOpening three_members
opening_law_used law = ((law three_members 1000000 (search rules)).0 refl).2

-- members with one code twice are no opening
pub one_code_twice : IsOpening ((AAA, 1) ∷ (BBB, 1) ∷ (AAA, 2) ∷ []) → ⊥
one_code_twice h = true≢false h.apart

pub commands_in_range : All SetsInRange each_command
commands_in_range = All-from_recursion SetsInRange each_command (tt, (tt, (tt, (omega arith, (tt, (tt, (tt, (tt, (omega arith, tt)))))))))

pub sets_too_many : SetsInRange (SetVotes AAA (2 ^ 40 + 1)) → ⊥
sets_too_many h = omega (arith, h)

pub admits_too_many : SetsInRange (Admit AAA (2 ^ 40 + 1)) → ⊥
admits_too_many h = omega (arith, h)

pub legal : IsLegal three_members each_command
legal = (refl, omega arith)

pub sheet_law_used : SheetLaw → IsSheet (sheet three_members each_command)
sheet_law_used law = law three_members each_command opening_in_range commands_in_range legal

pub prefix_law_used : PrefixLaw → sheet three_members (take 3 (each_command ++ Close 1 ∷ [])) ≡ sheet three_members (take 3 each_command)
prefix_law_used law = law three_members each_command (Close 1) 3 (omega arith)

pub prefix_law_at_the_end : PrefixLaw → sheet three_members (take 9 (each_command ++ Close 1 ∷ [])) ≡ sheet three_members (take 9 each_command)
prefix_law_at_the_end law = law three_members each_command (Close 1) 9 (omega arith)

pub front_law_used : FrontLaw → front_of (sheet three_members (take 9 each_command)) ≡ 9
front_law_used law = law three_members each_command 9 (omega arith)

three_apart : IsDistinct nat_eq (map (λ c. c.0) three)
unfolding IsDistinct
three_apart = search rules

-- one coalition of the three chairs is the set of the chairs of one vote
pub each_once_used : EachOnceLaw → count_by (same_set (filter (λ c. nat_eq c.1 1) three)) (subsets three) ≡ 1
each_once_used law = law three three_apart (λ c. nat_eq c.1 1)

-- the votes cast are those that the sheet shows, and the weights of its open chairs; three chairs have eight coalitions
pub cast_used : CastLaw → (roll : Roll) → cast roll ≡ cast_of (sheet_words roll 7)
cast_used law roll = law roll 7

pub weights_used : WeightsLaw → (first second : ℕ) → weight_of (open_chairs (first ∷ second ∷ [])) ≡ cast_of (first ∷ second ∷ [])
weights_used law first second = law (first ∷ second ∷ [])

pub coalitions_used : CoalitionsLaw → (a b c : Chair) → length (subsets (a ∷ b ∷ c ∷ [])) ≡ 8
coalitions_used law a b c = law (a ∷ b ∷ c ∷ [])

-- a start is accepted with a limit from 1 to a million, and with no other
pub limit_used : OpeningLaw → (limit : ℕ) → start_verdict three_members limit ≡ Ok tt → (1 ≤ limit) × (limit ≤ 1000000)
limit_used law limit accepted =
    let starts = (law three_members limit (search rules)).0 accepted in
    (starts.0, starts.1)

pub start_used : OpeningLaw → (limit : ℕ) → 1 ≤ limit → limit ≤ 1000000 → start_verdict three_members limit ≡ Ok tt
start_used law limit some few = (law three_members limit (search rules)).1 (some, few, opening_in_range)
