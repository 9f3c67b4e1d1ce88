-- The meaning of the fields of a record.
use Rattle.std.specs.Prelude.{ℕ, List, Option, Some, None, nat_le, ◌&&◌, if◌then◌else◌, option_map, codes}
use Rattle.std.specs.Option.{option_and_then}
use Rattle.std.specs.Str.{bytes_eq}
use Rattle.council_core.specs.Codes.{is_code}
use Rattle.board_text.specs.Numbers.{number_of_digits}
use Rattle.council_core.specs.declared.limits.TheConstants.{CHAIRS, MAX_VOTES}

-- a number, if it lies between two others
abbrev pub number_within : ℕ → ℕ → ℕ → Option ℕ
number_within low high n = if nat_le low n && nat_le n high then Some n else None

-- a chair: a number from 1 to 32
abbrev pub chair_of : List ℕ → Option ℕ
chair_of field = option_and_then (number_within 1 CHAIRS) (number_of_digits field)

-- a member's votes: a number of at most 2^40
abbrev pub votes_of : List ℕ → Option ℕ
votes_of field = option_and_then (number_within 0 MAX_VOTES) (number_of_digits field)

-- a member's code: three ASCII capitals
abbrev pub code_of_member : List ℕ → Option (List ℕ)
code_of_member field = if is_code field then Some field else None

-- where a member is moved: to a chair, or to none
abbrev pub target_chair : List ℕ → Option (Option ℕ)
target_chair field = if bytes_eq field (codes "none") then Some None else option_map Some (chair_of field)

-- two options combined, if both are present
abbrev pub pair_of : {A B C : Type 0} → (A → B → C) → Option A → Option B → Option C
pair_of f None other = None
pair_of f (Some a) None = None
pair_of f (Some a) (Some b) = Some (f a b)
