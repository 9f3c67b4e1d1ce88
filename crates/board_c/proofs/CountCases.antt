-- The refusals for three chairs and for members: worked examples, and what the definitions exclude.
use Rattle.std.proofs.Common.{◌≡◌, ◌≤◌, ◌++◌, ◌∙◌, ◌⊎◌, ⊎_elim, inl, inr, ℕ, List, [], ◌∷◌, replicate, refl, ap, sum_by, Some, false, arith}
use Rattle.std.proofs.lemmas.List.Elements.{All-from_recursion, recursion_from_All}
use Rattle.council_core.specs.declared.commands.Standing.{Standing}
use Rattle.council_core.specs.Rolls.{Roll, chair_numbers, is_open, sheet_words as roll_words}
use Rattle.council_core.specs.Sheets.{IsSheet}
use Rattle.council_core.specs.Refusals.{code_of}
use Rattle.council_core.specs.declared.refusals.Refusal.{Refusal}
use Rattle.council_core.specs.declared.refusals.Refusal.TheVariants.{BadRecord, BadSheet, OutOfMemory, JournalFull}
use Rattle.board_c.specs.declared.counts.members.BoardMember.{BoardMember}
use Rattle.board_c.specs.Counts.{IsRefusal, IsRefusedAs, IsRefusalOfWords, words_of_weights}
use Rattle.board_c.specs.Laws.{IsRollOf, MembersLaw, RollLaw}
use Rattle.board_c.specs.declared.TheConstants.{DONE}
use Rattle.board_c.specs.Members.{AreRefusedAs, IsBoard, IsRefusalOfMembers, is_open_by, member_words}
use Rattle.board_c.proofs.MemberCases.{member}

-- chairs 1, 2 and 3 with 50, 49 and 1 votes
abbrev three : List ℕ
three = words_of_weights (50 ∷ 49 ∷ 1 ∷ []) 100

three_words : three ≡ 51 ∷ 50 ∷ 2 ∷ replicate 29 0 ++ 100 ∷ 0 ∷ []
three_words = refl

-- no chair at all, and all 32
no_weights : words_of_weights [] 0 ≡ replicate 32 0 ++ 0 ∷ 0 ∷ []
no_weights = refl

all_weights : words_of_weights (replicate 32 3) 96 ≡ replicate 32 4 ++ 96 ∷ 0 ∷ []
all_weights = refl

-- one weight more, and these are no words of a sheet: there are 35
too_many_weights : IsRefusedAs 0 (words_of_weights (replicate 33 1) 33) BadSheet
too_many_weights whole = omega (arith, whole.long)

-- the answer of a call that has counted
done : DONE ≡ 0
done = refl

-- no other refusal is due; and that of a number is due of a sheet's words alone
no_other : (IsRefusedAs 0 three JournalFull → ⊥) × (IsRefusedAs 0 three OutOfMemory → ⊥)
no_other = ((λ h. h), (λ h. h))

-- a number of a majority is not refused, nor are the words of a sheet
known_majority : (IsRefusedAs 0 three BadRecord → ⊥) × (AreRefusedAs 0 [] BadRecord → ⊥)
known_majority = ((λ h. cc h.1), (λ h. cc h.1))

known_sheet : (IsSheet three → IsRefusedAs 0 three BadSheet → ⊥) × (IsSheet three → (answer : ℕ) → IsRefusalOfWords three answer → ⊥)
known_sheet = ((λ sheet refused. refused (record { long = refl; sheet = sheet })), (λ sheet answer refused. refused.1 (record { long = refl; sheet = sheet })))

-- the number of the refusal of words is that of BadSheet
number_of_words : (answer : ℕ) → IsRefusalOfWords [] answer → answer ≡ 32
number_of_words answer refused = refused.0

-- the number of a refusal is 17 or 32, and at a known majority no sheet has a refusal
reason_numbered : (why : Refusal) → IsRefusedAs 4 three why → (code_of why ≡ 17) ⊎ (code_of why ≡ 32)
reason_numbered BadRecord h = inl refl
reason_numbered BadSheet h = inr refl
reason_numbered why h = absurd h

refusal_numbered : (answer : ℕ) → IsRefusal 4 three answer → (answer ≡ 17) ⊎ (answer ≡ 32)
refusal_numbered answer h = ⊎_elim (λ e. inl (h.1 ∙ e)) (λ e. inr (h.1 ∙ e)) (reason_numbered h.0 h.2)

no_reason : IsSheet three → (why : Refusal) → IsRefusedAs 0 three why → ⊥
no_reason sheet BadRecord h = cc h.1
no_reason sheet BadSheet h = h (record { long = refl; sheet = sheet })
no_reason sheet why h = h

no_refusal : IsSheet three → (answer : ℕ) → IsRefusal 0 three answer → ⊥
no_refusal sheet answer h = no_reason sheet h.0 h.2

words_come_first : IsRefusedAs 4 [] BadRecord → ⊥
words_come_first h = omega (arith, h.0.long)

no_words : IsRefusalOfWords [] 32
no_words = (refl, (λ whole. omega (arith, whole.long)))

-- no members at all are a board's; a member in chair 33 is not, and its board is refused before the number
empty_board : IsBoard []
empty_board = record { seated = All-from_recursion (λ (m : BoardMember). m.chair ≤ 32) [] tt; small = omega arith }

empty_not_refused : (AreRefusedAs 0 [] BadSheet → ⊥) × (AreRefusedAs 0 [] JournalFull → ⊥) × (AreRefusedAs 0 [] OutOfMemory → ⊥)
empty_not_refused = ((λ h. h empty_board), (λ h. h), (λ h. h))

-- a board without members is refused as 17 at a number of no majority, and at no other number
reason_of_none : (why : Refusal) → AreRefusedAs 4 [] why → code_of why ≡ 17
reason_of_none BadRecord h = refl
reason_of_none BadSheet h = absurd (h empty_board)
reason_of_none why h = absurd h

refusal_of_none : (answer : ℕ) → IsRefusalOfMembers 4 [] answer → answer ≡ 17
refusal_of_none answer h = h.1 ∙ reason_of_none h.0 h.2

no_reason_of_none : (why : Refusal) → AreRefusedAs 0 [] why → ⊥
no_reason_of_none BadRecord h = cc h.1
no_reason_of_none BadSheet h = h empty_board
no_reason_of_none why h = h

no_refusal_of_none : (answer : ℕ) → IsRefusalOfMembers 0 [] answer → ⊥
no_refusal_of_none answer h = no_reason_of_none h.0 h.2

-- a member in the last chair is a board's
in_the_last_chair : IsBoard (member 5 32 0 ∷ [])
in_the_last_chair = record { seated = All-from_recursion (λ (m : BoardMember). m.chair ≤ 32) (member 5 32 0 ∷ []) (omega arith, tt); small = omega arith }

members_come_first : AreRefusedAs 4 (member 1 33 0 ∷ []) BadRecord → ⊥
members_come_first h = omega (arith, (recursion_from_All (λ (m : BoardMember). m.chair ≤ 32) (member 1 33 0 ∷ []) h.0.seated).0)

-- by the laws, for any members some roll of the register has their words
members_of_a_roll : MembersLaw → RollLaw → (members : List BoardMember) (mask : ℕ) → (roll : Roll) × (roll_words roll 0 ≡ member_words members mask)
members_of_a_roll same found members mask =
    let roll = found members mask in
    (roll.0, same members mask roll.0 roll.1)

-- a member with 2^48 votes is a board's, and with one vote more is none
pub most_votes : IsBoard (member 281474976710656 0 0 ∷ [])
most_votes = record { seated = All-from_recursion (λ (m : BoardMember). m.chair ≤ 32) (member 281474976710656 0 0 ∷ []) (omega arith, tt); small = omega arith }

pub too_many_votes : IsBoard (member 281474976710657 0 0 ∷ []) → ⊥
too_many_votes h = omega (arith, h.small)

-- a roll of members with other votes, or with another open chair, is not one of these members
abbrev of_one : ℕ → Roll
of_one votes = record { members = (65 ∷ [], record { votes = votes; chair = Some 1; suspended = false }) ∷ []; open_chairs = 1 ∷ [] }

pub other_votes : IsRollOf (member 50 1 0 ∷ []) 0 (of_one 40) → ⊥
other_votes h = let votes : 40 ≡ 50 = ap (λ (l : List Standing). sum_by (λ s. s.votes) l) h.standings in omega (arith, votes)

pub other_chairs : IsRollOf [] 1 (record { members = []; open_chairs = [] }) → ⊥
other_chairs h = cc (recursion_from_All (λ (c : ℕ). is_open (record { members = []; open_chairs = [] }) c ≡ is_open_by [] 1 c) chair_numbers h.chairs).0
