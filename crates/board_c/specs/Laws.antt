-- Laws that tie the words of members to the register's own definitions.
use Rattle.std.specs.Prelude.{◌≡◌, ℕ, List, map}
use Rattle.std.specs.List.{All}
use Rattle.council_core.specs.Rolls.{Roll, chair_numbers, is_open, sheet_words}
use Rattle.board_c.specs.Members.{is_open_by, member_words, standing_of}
use Rattle.board_c.specs.declared.counts.members.BoardMember.{BoardMember}

-- a roll whose members have the standings of these members, with any codes, and the same open
-- chairs
pub record IsRollOf (members : List BoardMember) (mask : ℕ) (roll : Roll) : Type 0 where
  pub standings : map (λ m. m.1) roll.members ≡ map standing_of members
  pub chairs : All (λ c. is_open roll c ≡ is_open_by members mask c) chair_numbers

-- the sheet of such a roll, before any command, has the words of these members
abbrev pub MembersLaw : Type 0
MembersLaw = (members : List BoardMember) (mask : ℕ) (roll : Roll) → IsRollOf members mask roll
    → sheet_words roll 0 ≡ member_words members mask

-- such a roll exists
abbrev pub RollLaw : Type 0
RollLaw = (members : List BoardMember) (mask : ℕ) → (roll : Roll) × IsRollOf members mask roll
