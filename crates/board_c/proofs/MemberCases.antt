-- Worked examples, computed by the definitions.
use Rattle.std.proofs.Common.{◌≡◌, ℕ, List, [], ◌∷◌, ◌++◌, take, Some, refl, replicate}
use Rattle.council_core.specs.Rolls.{Opening, sheet}
use Rattle.council_core.specs.declared.commands.Command.{Command}
use Rattle.council_core.specs.declared.commands.Command.TheVariants.{Open, Move, Suspend}
use Rattle.board_c.specs.declared.counts.members.BoardMember.{BoardMember}
use Rattle.board_c.specs.Members.{member_words}

abbrev pub member : ℕ → ℕ → ℕ → BoardMember
member votes chair suspended = record { votes = votes; chair = chair; suspended = suspended }

-- two members in chair 1, one of them suspended; one in chair 2, suspended; one in no chair
abbrev four_members : List BoardMember
four_members = member 50 1 0 ∷ member 7 1 1 ∷ member 3 2 9 ∷ member 40 0 0 ∷ []

-- chair 3, which the mask names, is open though no member sits there
pub four_members-words : member_words four_members 4 ≡ 51 ∷ 1 ∷ 1 ∷ replicate 29 0 ++ 90 ∷ 0 ∷ []
four_members-words = refl

-- a mask that names no chair, or chairs where members sit, changes nothing
pub seated_chairs_named : member_words four_members 3 ≡ member_words four_members 0
seated_chairs_named = refl

pub last_chair_named : member_words [] (2147483648) ≡ replicate 31 0 ++ 1 ∷ 0 ∷ 0 ∷ []
last_chair_named = refl

-- a member in the last chair
pub last_chair_taken : member_words (member 5 32 0 ∷ []) 0 ≡ replicate 31 0 ++ 6 ∷ 5 ∷ 0 ∷ []
last_chair_taken = refl

-- the same members by the commands of a register
abbrev opening : Opening
opening = (65 ∷ [], 50) ∷ (66 ∷ [], 7) ∷ (67 ∷ [], 3) ∷ (68 ∷ [], 40) ∷ []

abbrev commands : List Command
commands = Open 3 ∷ Open 2 ∷ Open 1 ∷ Move (65 ∷ []) (Some 1) ∷ Move (66 ∷ []) (Some 1) ∷ Move (67 ∷ []) (Some 2)
    ∷ Suspend (66 ∷ []) ∷ Suspend (67 ∷ []) ∷ []

pub by_a_register : take 33 (sheet opening commands) ≡ take 33 (member_words four_members 4)
by_a_register = refl
