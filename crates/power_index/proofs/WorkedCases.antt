-- Whole indices of worked examples, computed by their definition from the 34 words of a sheet.
use Rattle.std.proofs.Common.{◌≡◌, ℕ, List, [], ◌∷◌, ◌++◌, Some, None, refl, replicate}
use Rattle.majority_rule.specs.declared.majorities.Majority.{Majority}
use Rattle.majority_rule.specs.declared.majorities.Majority.TheVariants.{Half, Seventy, EightyFive, Quorum}
use Rattle.power_index.specs.declared.indices.ChairPower.{ChairPower}
use Rattle.power_index.specs.declared.indices.Indices.{Indices}
use Rattle.power_index.specs.Indices.{ratio, indices_of}

-- indices: front, open chairs, quota, least size, votes cast, total, winning coalitions, all of them
abbrev pub indices : Majority → ℕ → ℕ → ℕ → ℕ → ℕ → ℕ → ℕ → ℕ → List ChairPower → Indices
indices majority front chairs quota least_size cast total winning coalitions rows =
    record {
      majority = majority;
      front = front;
      chairs = chairs;
      quota = quota;
      least_size = least_size;
      cast = cast;
      total = total;
      winning = winning;
      coalitions = coalitions;
      act = ratio winning coalitions;
      rows = record { items = rows };
    }

-- a row: chair, weight and swings, of the sets of the other chairs, of all swings, of the coalitions
-- that win, and of those that lose
abbrev pub row : ℕ → ℕ → ℕ → ℕ → ℕ → ℕ → ℕ → ChairPower
row chair weight swings others all winning losing =
    record {
      chair = chair;
      weight = weight;
      swings = swings;
      banzhaf = ratio swings others;
      share = Some (ratio swings all);
      prevent = Some (ratio swings winning);
      initiate = ratio swings losing;
    }

-- the row of a single chair that can't win alone
abbrev powerless_row : ℕ → ChairPower
powerless_row weight =
    record {
      chair = 1;
      weight = weight;
      swings = 0;
      banzhaf = ratio 0 1;
      share = None;
      prevent = None;
      initiate = ratio 0 2;
    }

-- chairs 1, 2 and 3 with 50, 49 and 1 votes
abbrev pub three_chairs : List ℕ
three_chairs = 51 ∷ 50 ∷ 2 ∷ replicate 29 0 ++ 100 ∷ 6 ∷ []

-- a chair of one vote has as much power as one of 49
pub three_chairs_half : indices_of Half three_chairs
    ≡ indices Half 6 3 51 0 100 100 3 8 (row 1 50 3 4 5 3 5 ∷ row 2 49 1 4 5 3 5 ∷ row 3 1 1 4 5 3 5 ∷ [])
three_chairs_half = refl

-- a chair of one vote has no power
pub three_chairs_seventy : indices_of Seventy three_chairs
    ≡ indices Seventy 6 3 70 0 100 100 2 8 (row 1 50 2 4 4 2 6 ∷ row 2 49 2 4 4 2 6 ∷ row 3 1 0 4 4 2 6 ∷ [])
three_chairs_seventy = refl

-- any two of three chairs have half of the total
pub three_chairs_quorum : indices_of Quorum three_chairs
    ≡ indices Quorum 6 3 50 2 100 100 4 8 (row 1 50 2 4 6 4 4 ∷ row 2 49 2 4 6 4 4 ∷ row 3 1 2 4 6 4 4 ∷ [])
three_chairs_quorum = refl

-- chairs 1, 2 and 3 with 90, 5 and 5 votes: chair 1 has weight enough alone, and still needs another
-- chair
abbrev one_large_chair : List ℕ
one_large_chair = 91 ∷ 6 ∷ 6 ∷ replicate 29 0 ++ 100 ∷ 6 ∷ []

pub one_large_chair_quorum : indices_of Quorum one_large_chair
    ≡ indices Quorum 6 3 50 2 100 100 3 8 (row 1 90 3 4 5 3 5 ∷ row 2 5 1 4 5 3 5 ∷ row 3 5 1 4 5 3 5 ∷ [])
one_large_chair_quorum = refl

-- chair 1 with 60 of 100 votes; the other 40 sit in no chair
abbrev members_without_a_chair : List ℕ
members_without_a_chair = 61 ∷ replicate 31 0 ++ 100 ∷ 2 ∷ []

-- the one chair decides
pub members_without_a_chair_half : indices_of Half members_without_a_chair
    ≡ indices Half 2 1 31 0 60 100 1 2 (row 1 60 1 1 1 1 1 ∷ [])
members_without_a_chair_half = refl

-- no coalition wins, so two of the fractions are absent
pub members_without_a_chair_seventy : indices_of Seventy members_without_a_chair
    ≡ indices Seventy 2 1 70 0 60 100 0 2 (powerless_row 60 ∷ [])
members_without_a_chair_seventy = refl

-- chair 1 is open, and its one member is suspended
abbrev all_suspended : List ℕ
all_suspended = 1 ∷ replicate 31 0 ++ 0 ∷ 3 ∷ []

pub all_suspended_half : indices_of Half all_suspended ≡ indices Half 3 1 1 0 0 0 0 2 (powerless_row 0 ∷ [])
all_suspended_half = refl

pub all_suspended_seventy : indices_of Seventy all_suspended ≡ indices Seventy 3 1 1 0 0 0 0 2 (powerless_row 0 ∷ [])
all_suspended_seventy = refl

pub all_suspended_eighty_five : indices_of EightyFive all_suspended
    ≡ indices EightyFive 3 1 1 0 0 0 0 2 (powerless_row 0 ∷ [])
all_suspended_eighty_five = refl

-- one chair of no weight is a majority of the chairs, and has half of nothing
pub all_suspended_quorum : indices_of Quorum all_suspended ≡ indices Quorum 3 1 0 1 0 0 1 2 (row 1 0 1 1 1 1 1 ∷ [])
all_suspended_quorum = refl

-- no chair is open: the empty coalition alone, which loses
abbrev no_chair_open : List ℕ
no_chair_open = replicate 32 0 ++ 10 ∷ 0 ∷ []

pub no_chair_open_eighty_five : indices_of EightyFive no_chair_open ≡ indices EightyFive 0 0 9 0 0 10 0 1 []
no_chair_open_eighty_five = refl

pub no_chair_open_quorum : indices_of Quorum no_chair_open ≡ indices Quorum 0 0 5 1 0 10 0 1 []
no_chair_open_quorum = refl
