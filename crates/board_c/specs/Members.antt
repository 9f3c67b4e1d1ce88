-- A board that is given by its members and a mask of open chairs, and the words of its sheet.
use Rattle.std.specs.Prelude.{◌≡◌, ℕ, ◌+◌, ◌-◌, ◌≤◌, ◌==◌, Bool, not, ◌||◌, if◌then◌else◌, None, Some}
use Rattle.std.specs.Prelude.{List, [], ◌∷◌, ◌++◌, map, sum_by}
use Rattle.std.specs.Int.{bit_at}
use Rattle.std.specs.List.{All, list_any}
use Rattle.council_core.specs.declared.limits.TheConstants.{CHAIRS, MAX_TOTAL}
use Rattle.council_core.specs.declared.commands.Standing.{Standing}
use Rattle.council_core.specs.Rolls.{sits_in, effective_votes, votes_in, chair_numbers}
use Rattle.council_core.specs.declared.refusals.Refusal.{Refusal}
use Rattle.council_core.specs.declared.refusals.Refusal.TheVariants.{BadRecord, BadSheet}
use Rattle.council_core.specs.Refusals.{code_of}
use Rattle.majority_rule.specs.Majorities.{majority_numbered}
use Rattle.board_c.specs.declared.counts.members.BoardMember.{BoardMember}

-- the standing of a member: chair 0 means no chair, and any number except 0 means suspended
abbrev pub standing_of : BoardMember → Standing
standing_of m = record {
  votes = m.votes;
  chair = if m.chair == 0 then None else Some m.chair;
  suspended = not (m.suspended == 0);
}

-- whether the mask names chair c: its bit c - 1 is set
abbrev pub is_named : ℕ → ℕ → Bool
is_named mask c = bit_at mask (c - 1) == 1

-- whether a chair is open: the mask names it or a member sits in it, suspended or not
abbrev pub is_open_by : List BoardMember → ℕ → ℕ → Bool
is_open_by members mask c = is_named mask c || list_any (λ m. sits_in c (standing_of m)) members

-- the word of a chair: 0 if it is closed, else the votes of its members that are not suspended,
-- plus 1
abbrev pub member_word : List BoardMember → ℕ → ℕ → ℕ
member_word members mask c =
    if is_open_by members mask c then sum_by (λ m. votes_in c (standing_of m)) members + 1 else 0

-- the votes of all members that are not suspended, in a chair or in none
abbrev pub member_total : List BoardMember → ℕ
member_total members = sum_by (λ m. effective_votes (standing_of m)) members

-- the words of the board's sheet, before any command
abbrev pub member_words : List BoardMember → ℕ → List ℕ
member_words members mask = map (member_word members mask) chair_numbers ++ member_total members ∷ 0 ∷ []

-- the members of a board: each is in a chair from 1 to 32 or in none, and their total is one that a
-- sheet can have
pub record IsBoard (members : List BoardMember) : Type 0 where
  pub seated : All (λ m. m.chair ≤ CHAIRS) members
  pub small : member_total members ≤ MAX_TOTAL

-- the reason for which a call for members is refused: they are not a board's; or they are, and no
-- majority has this number
abbrev pub AreRefusedAs : ℕ → List BoardMember → Refusal → Type 0
AreRefusedAs number members BadSheet = IsBoard members → ⊥
AreRefusedAs number members BadRecord = IsBoard members × (majority_numbered number ≡ None)
AreRefusedAs number members _ = ⊥

-- the number of such a refusal
abbrev pub IsRefusalOfMembers : ℕ → List BoardMember → ℕ → Type 0
IsRefusalOfMembers number members answer =
    (why : Refusal) × (answer ≡ code_of why) × AreRefusedAs number members why
