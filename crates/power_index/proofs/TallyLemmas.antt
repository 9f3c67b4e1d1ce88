-- The swings that counts by place give, and the rows that agree with a tally.
use Rattle.std.proofs.Common.{◌≡◌, ℕ, ◌^◌, ◌<◌, ◌≤◌, List, length, get_or, arith, sym, ap, ◌∙◌, subst}
use Rattle.std.proofs.lemmas.List.{ext_get_or, length-map}
use Rattle.council_core.specs.Sheets.{Chair, open_chairs}
use Rattle.council_core.specs.Coalitions.{Rule, eta_of, omega_of}
use Rattle.half_sums.specs.declared.entry.Entry.{Entry}
use Rattle.majority_rule.specs.declared.majorities.Majority.{Majority}
use Rattle.majority_rule.specs.Winning.{rule_of}
use Rattle.swing_walk.specs.Pairs.{winning_pairs, winning_with, swings_of}
use Rattle.power_index.specs.Halves.{AreHalves, left_count, place_in_counts, open_chair_place}
use Rattle.power_index.specs.Counts.{AreCounts, etas}
use Rattle.power_index.specs.Indices.{power_of, swings_among}
use Rattle.power_index.specs.Tallies.{IsSwingTally}
use Rattle.power_index.specs.declared.rows.SwingTally.{SwingTally}
use Rattle.power_index.proofs.BoardLaw.{evaluation_law}
use Rattle.power_index.proofs.Bounds.{IsQuota, etas_by_majority, omega_bound}
use Rattle.power_index.proofs.RowLemmas.{etas_at, place_below}
use Rattle.council_core.specs.declared.limits.TheConstants.{CHAIRS}

pub winning_part : (words : List ℕ) (tally : SwingTally) (n : ℕ) → IsSwingTally words tally → n ≡ length (open_chairs words) → tally.winning ≤ 2 ^ n
winning_part words tally n is count =
    subst (λ (m : ℕ). tally.winning ≤ 2 ^ m) (sym count) (omega (arith, is.omega, omega_bound (rule_of tally.majority words) (open_chairs words)))

-- the numbers of a row by the tally are those of its chair
pub row_agree : (words : List ℕ) (tally : SwingTally) (n sum i : ℕ) (d : Chair) → IsSwingTally words tally → n ≡ length (open_chairs words) → sum ≡ swings_among (rule_of tally.majority words) (open_chairs words) (open_chairs words) → i < length (open_chairs words) →
    let rule = rule_of tally.majority words in let board = open_chairs words in let chair = get_or board i d in power_of n tally.winning sum (get_or tally.swings.items i 0) chair ≡ power_of (length board) (omega_of rule board) (swings_among rule board board) (eta_of rule chair board) chair
row_agree words tally n sum i d is count same inside =
    let rule : Rule = rule_of tally.majority words in
    let board : List Chair = open_chairs words in
    let eta : ℕ = get_or tally.swings.items i 0 in
    let chair : Chair = get_or board i d in
    ap (λ x. power_of x tally.winning sum eta chair) count
    ∙ ap (λ x. power_of (length board) x sum eta chair) is.omega
    ∙ ap (λ x. power_of (length board) (omega_of rule board) x eta chair) same
    ∙ ap (λ x. power_of (length board) (omega_of rule board) (swings_among rule board board) x chair) (ap (λ l. get_or l i 0) is.each ∙ etas_at rule board i d inside)

pub are_counts : (quota least_size : ℕ) (words : List ℕ) (from to : List Entry) (winning : ℕ) (with_chair : ℕ → ℕ) → AreHalves words from to →
    winning ≡ winning_pairs quota least_size from to → ((place : ℕ) → place < CHAIRS → with_chair place ≡ winning_with quota least_size place from to) → AreCounts quota least_size words winning with_chair
are_counts quota least_size words from to winning with_chair halves w each =
    let law : AreCounts quota least_size words (winning_pairs quota least_size from to) (λ place. winning_with quota least_size place from to) = evaluation_law quota least_size words from to halves in
    record {
      omega = w ∙ law.omega;
      bound = omega (arith, law.bound);
      within = λ place h. omega (arith, each place h, law.within place h);
      half = λ place h some. omega (arith, each place h, law.half place h (omega (arith, each place h)));
      swings = λ i h. ap (λ n. swings_of n (with_chair (open_chair_place words i))) w ∙ ap (swings_of (winning_pairs quota least_size from to)) (each (open_chair_place words i) (place_below words i h)) ∙ law.swings i h;
    }

-- the items at the places of the open chairs, in their order, are the chairs' swings
pub swings_in_order : (quota least_size : ℕ) (majority : Majority) (words : List ℕ) (winning n : ℕ) (with_chair by_place swings : List ℕ) → n ≡ length (open_chairs words) → length swings ≡ n →
    ((i : ℕ) → i < n → get_or swings i 0 ≡ get_or by_place (place_in_counts (left_count n) i) 0) → AreCounts quota least_size words winning (λ place. get_or with_chair place 0) →
    ((place : ℕ) → place < CHAIRS → get_or by_place place 0 ≡ swings_of winning (get_or with_chair place 0)) → IsQuota quota least_size majority words → swings ≡ etas (rule_of majority words) (open_chairs words)
swings_in_order quota least_size majority words winning n with_chair by_place swings count long ordered counts each is =
    let board : List Chair = open_chairs words in
    let size : length (etas (rule_of majority words) board) ≡ length board = length-map board (λ c. eta_of (rule_of majority words) c board) in
    ext_get_or 0 swings (etas (rule_of majority words) board) (long ∙ count ∙ sym size)
    (λ i h. (let inside : i < length board = omega (arith, long, count) in
    ordered i (omega (arith, long))
    ∙ ap (λ m. get_or by_place (place_in_counts (left_count m) i) 0) count
    ∙ each (open_chair_place words i) (place_below words i inside)
    ∙ counts.swings i inside
    ∙ ap (λ l. get_or l i 0) (etas_by_majority quota least_size majority words is)))
