-- The voting power indices of a sheet, counted over all coalitions of its open chairs. Swings and
-- the Banzhaf measure: Banzhaf 1965. The powers to prevent, to initiate and of the board to act:
-- Coleman 1971. Names and fractions: Felsenthal and Machover 1998.
use Rattle.std.specs.Prelude.{◌≡◌, ℕ, ◌-◌, ◌^◌, ◌≤◌, ◌==◌, ◌↔◌, IsTrue}
use Rattle.std.specs.Prelude.{if◌then◌else◌, List, ◌∷◌, ◌++◌, length, map, sum_by, Option, None, Some, decimal}
use Rattle.council_core.specs.Sheets.{Chair, open_chairs, cast_of, total_of, front_of}
use Rattle.council_core.specs.Coalitions.{Rule, omega_of, eta_of}
use Rattle.majority_rule.specs.declared.majorities.Majority.{Majority}
use Rattle.majority_rule.specs.Winning.{wins, rule_of, quota_of, least_size_of}
use Rattle.power_index.specs.declared.indices.Fraction.{Fraction}
use Rattle.power_index.specs.declared.indices.ChairPower.{ChairPower}
use Rattle.power_index.specs.declared.indices.Indices.{Indices}

-- a fraction, not reduced
abbrev pub ratio : ℕ → ℕ → Fraction
ratio n d = record { num = n; den = d }

-- the text of a fraction: `NUM/DEN`, not reduced
abbrev pub fraction : Fraction → List ℕ
fraction f = decimal f.num ++ 47 ∷ decimal f.den

-- a fraction, or None if its denominator is 0
abbrev pub ratio_unless_zero : ℕ → ℕ → Option Fraction
ratio_unless_zero n d = if d == 0 then None else Some (ratio n d)

-- the sum of the swings of some chairs of a board
abbrev pub swings_among : Rule → List Chair → List Chair → ℕ
swings_among wins board chairs = sum_by (λ c. eta_of wins c board) chairs

-- the row of a chair with eta swings, among n chairs with omega winning coalitions and etas swings
-- in total: the Banzhaf measure, over the sets of the other chairs; the share of all swings; the
-- power to prevent action, over the winning coalitions; the power to initiate action, over the
-- losing ones
abbrev pub power_of : ℕ → ℕ → ℕ → ℕ → Chair → ChairPower
power_of n omega etas eta c =
    record {
      chair = c.0;
      weight = c.1;
      swings = eta;
      banzhaf = ratio eta (2 ^ (n - 1));
      share = ratio_unless_zero eta etas;
      prevent = ratio_unless_zero eta omega;
      initiate = ratio eta (2 ^ n - omega);
    }

-- the rows of some chairs of a board
abbrev pub rows_among : Rule → List Chair → List Chair → List ChairPower
rows_among wins board chairs =
    map (λ c. power_of (length board) (omega_of wins board) (swings_among wins board board) (eta_of wins c board) c)
    chairs

-- every field of the indices of a sheet by a majority: the quota and the least size are reached
-- exactly by what wins, the power of the board to act is omega over all coalitions, and the rows
-- are those of all open chairs
pub record AreIndices (majority : Majority) (words : List ℕ) (indices : Indices) : Type 0 where
  pub same_majority : indices.majority ≡ majority
  pub same_front : indices.front ≡ front_of words
  pub open_count : indices.chairs ≡ length (open_chairs words)
  pub least_winning : (w k : ℕ)
      → ((indices.quota ≤ w) × (indices.least_size ≤ k)) ↔ IsTrue (wins majority words w k)
  pub same_cast : indices.cast ≡ cast_of words
  pub same_total : indices.total ≡ total_of words
  pub omega : indices.winning ≡ omega_of (rule_of majority words) (open_chairs words)
  pub all : indices.coalitions ≡ 2 ^ length (open_chairs words)
  pub to_act : indices.act
      ≡ ratio (omega_of (rule_of majority words) (open_chairs words)) (2 ^ length (open_chairs words))
  pub row_each : indices.rows.items ≡ rows_among (rule_of majority words) (open_chairs words) (open_chairs words)

-- the indices as a value that computes
abbrev pub indices_of : Majority → List ℕ → Indices
indices_of m words =
    let board = open_chairs words in
    let rule = rule_of m words in
    record {
      majority = m;
      front = front_of words;
      chairs = length board;
      quota = quota_of m words;
      least_size = least_size_of m words;
      cast = cast_of words;
      total = total_of words;
      winning = omega_of rule board;
      coalitions = 2 ^ length board;
      act = ratio (omega_of rule board) (2 ^ length board);
      rows = record { items = rows_among rule board board };
    }
