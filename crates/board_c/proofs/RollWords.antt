-- The words of members are those of a roll with the same standings.
use Rattle.std.proofs.Common.{◌≡◌, ℕ, ◌+◌, ◌≤◌, ◌==◌, Bool, true, false, cond, ◌&&◌, List, [], ◌∷◌, ◌++◌, map, filter, sum_by, refl, sym, ap, ◌∙◌, subst, arith}
use Rattle.std.specs.List.{AllByRecursion, list_any}
use Rattle.std.proofs.lemmas.List.Elements.{All-weaker, recursion_from_All}
use Rattle.std.proofs.lemmas.List.Sums.{AllPass-from_list_all, sum_by-cons}
use Rattle.std.proofs.lemmas.Map.Views.{any-filter_same}
use Rattle.std.proofs.lemmas.Bool.{eqb-true}
use Rattle.std.proofs.lemmas.List.FromFn.{get_or-map-range_with_len}
use Rattle.council_core.specs.declared.limits.TheConstants.{MAX_TOTAL}
use Rattle.council_core.specs.Sheets.{IsSheet}
use Rattle.council_core.proofs.Face.{cast_within, IsSheet-made, weight_within}
use Rattle.council_core.specs.declared.commands.Standing.{Standing}
use Rattle.council_core.specs.Rolls.{RollEntry, Roll, chair_numbers, chair_word, effective_votes, is_open, total, votes_in, weight, sheet_words}
use Rattle.board_c.specs.declared.counts.members.BoardMember.{BoardMember}
use Rattle.board_c.specs.Members.{IsBoard, is_open_by, member_total, member_word, member_words, standing_of}
use Rattle.c_values.specs.Counts.{IsSheetInRange}
use Rattle.board_c.specs.Laws.{IsRollOf, MembersLaw, RollLaw}

-- a sum over what has a standing is the sum over the standings
sum_of_standings : {X : Type 0} (stand : X → Standing) (f : Standing → ℕ) (xs : List X) → sum_by (λ x. f (stand x)) xs ≡ sum_by f (map stand xs)
sum_of_standings stand f [] = refl
sum_of_standings {X} stand f (x ∷ xs) = omega (arith, sum_by-cons (λ (y : X). f (stand y)) x xs, sum_by-cons f (stand x) (map stand xs), sum_of_standings stand f xs)

module _ (members : List BoardMember) (mask : ℕ) (roll : Roll) (same : IsRollOf members mask roll) where
  -- a sum over the roll's members is the sum over the members with the same standings
  sum_same : (f : Standing → ℕ) → sum_by (λ m. f m.1) roll.members ≡ sum_by (λ m. f (standing_of m)) members
  sum_same f = sum_of_standings (λ m. m.1) f roll.members ∙ ap (sum_by f) same.standings ∙ sym (sum_of_standings standing_of f members)

  words_of_chairs : (ns : List ℕ) → AllByRecursion (λ c. is_open roll c ≡ is_open_by members mask c) ns → map (chair_word roll) ns ≡ map (member_word members mask) ns
  words_of_chairs [] all = refl
  words_of_chairs (c ∷ ns) all =
      let weighs : weight roll c ≡ sum_by (λ m. votes_in c (standing_of m)) members = sum_same (votes_in c) in
      let word : chair_word roll c ≡ member_word members mask c =
      ap (λ b. cond b (weight roll c + 1) 0) all.0 ∙ ap (λ n. cond (is_open_by members mask c) (n + 1) 0) weighs in
      ap (λ w. w ∷ map (chair_word roll) ns) word ∙ ap (λ ws. member_word members mask c ∷ ws) (words_of_chairs ns all.1)

  words_same : map (chair_word roll) chair_numbers ++ total roll ∷ 0 ∷ [] ≡ map (member_word members mask) chair_numbers ++ member_total members ∷ 0 ∷ []
  words_same =
      ap (λ ws. ws ++ total roll ∷ 0 ∷ []) (words_of_chairs chair_numbers (recursion_from_All (λ c. is_open roll c ≡ is_open_by members mask c) chair_numbers same.chairs))
      ∙ ap (λ n. map (member_word members mask) chair_numbers ++ n ∷ 0 ∷ []) (sum_same effective_votes)

pub words_of_members : MembersLaw
words_of_members members mask roll same = words_same members mask roll same

-- the roll with the standings of these members, each without a code
abbrev roll_of : List BoardMember → ℕ → Roll
roll_of members mask = record { members = map (λ m. ([], standing_of m)) members; open_chairs = filter (is_open_by members mask) chair_numbers }

-- the words of a roll are a sheet's where its total is one that a sheet can have
word_within : (roll : Roll) (c : ℕ) → total roll ≤ MAX_TOTAL → chair_word roll c ≤ MAX_TOTAL + 1
word_within roll c small = elim (is_open roll c) as (λ b. cond b (weight roll c + 1) 0 ≤ MAX_TOTAL + 1) [ true ↦ omega (arith, small, weight_within roll c) | false ↦ omega arith ]

sheet_of_roll : (roll : Roll) → total roll ≤ MAX_TOTAL → IsSheet (sheet_words roll 0)
sheet_of_roll roll small =
    IsSheet-made (map (chair_word roll) chair_numbers) (total roll) 0 refl
    (λ k inside. subst (λ (w : ℕ). w ≤ MAX_TOTAL + 1) (sym (get_or-map-range_with_len (chair_word roll) 1 32 k (k + 1) 0 inside (omega arith))) (word_within roll (k + 1) small))
    (cast_within roll) small (omega arith)

module _ (members : List BoardMember) (mask : ℕ) where
  standings_of : (ms : List BoardMember) → map (λ (e : RollEntry). e.1) (map (λ m. ([], standing_of m)) ms) ≡ map standing_of ms
  standings_of [] = refl
  standings_of (m ∷ ms) = ap (λ (ss : List Standing). standing_of m ∷ ss) (standings_of ms)

  opens : (c : ℕ) → list_any (λ d. c == d) chair_numbers ≡ true → is_open (roll_of members mask) c ≡ is_open_by members mask c
  opens c among =
      any-filter_same (λ d. c == d) (is_open_by members mask) (is_open_by members mask c) (λ d same. ap (is_open_by members mask) (sym (eqb-true c d same))) chair_numbers
      ∙ ap (λ b. is_open_by members mask c && b) among
      ∙ and_true (is_open_by members mask c)
    where
      and_true : (b : Bool) → (b && true) ≡ b
      and_true true = refl
      and_true false = refl

  is_roll_of : IsRollOf members mask (roll_of members mask)
  is_roll_of = record {
    standings = standings_of members;
    chairs = All-weaker (λ c. list_any (λ d. c == d) chair_numbers ≡ true) (λ c. is_open (roll_of members mask) c ≡ is_open_by members mask c) opens chair_numbers
        (AllPass-from_list_all (λ c. list_any (λ d. c == d) chair_numbers) chair_numbers refl);
  }

  -- members of a board have a sheet's words
  pub whole : IsBoard members → IsSheetInRange (member_words members mask)
  whole board =
      let roll = roll_of members mask in
      let words : sheet_words roll 0 ≡ member_words members mask = words_of_members members mask roll is_roll_of in
      let sum : total roll ≡ member_total members = sum_same members mask roll is_roll_of effective_votes in
      record { long = refl; sheet = subst IsSheet words (sheet_of_roll roll (omega (arith, sum, board.small))) }

pub members_on_roll : RollLaw
members_on_roll members mask = (roll_of members mask, is_roll_of members mask)
