-- The pairs of two halves are the sets of their chairs.
use Rattle.std.proofs.Common.{◌≡◌, ℕ, ◌+◌, ◌-◌, ◌<◌, ◌≤◌, Bool, true, false, cond, List, [], ◌∷◌, ◌++◌, map, length, arith, refl, sym, ap, ◌∙◌, eqb, leb, inl, inr}
use Rattle.std.specs.Prelude.{◌&&◌, ◌||◌}
use Rattle.std.specs.List.{sum_by, count_by, All}
use Rattle.std.proofs.lemmas.Bool.{eq-eqb, ne_eqb, cases_eq, cases_lt, lt-ltb, le-ltb}
use Rattle.std.proofs.lemmas.List.{length-append, length-map}
use Rattle.std.proofs.lemmas.List.Sums.{sum_by-append}
use Rattle.std.proofs.lemmas.List.Sorted.{sum_by-IsPermutation}
use Rattle.std.proofs.lemmas.List.Folds.{list_any-append, list_any_none}
use Rattle.std.proofs.lemmas.List.Elements.{All-weaker}
use Rattle.half_sums.specs.declared.entry.Entry.{Entry}
use Rattle.council_core.specs.Sheets.{weight_of}
use Rattle.council_core.specs.Coalitions.{subsets, has_chair, threshold_rule}
use Rattle.half_sums.specs.Entries.{entry_of, AreSubsets}
use Rattle.half_sums.specs.Groups.{size_of}
use Rattle.swing_walk.specs.Pairs.{pairs_where, reaches, has_slot, has_place, has_size}
use Rattle.swing_walk.specs.Laws.{board_of, PairLaw}
use Rattle.half_sums.proofs.Face.{mask_has, over, over-cons, sets_sized, subsets_avoid, sum_agree, sum_agree_on, sum_by-map}
use Rattle.swing_walk.proofs.Coalitions.{over-append}
use Rattle.half_sums.specs.declared.groups.TheConstants.{SLOTS}

abbrev pub shifted : ℕ × ℕ → ℕ × ℕ
shifted chair = (chair.0 + SLOTS, chair.1)

pub over-map : {X Y : Type 0} (f : List Y → ℕ) (h : X → Y) (xs : List X) → over f (map h xs) ≡ over (λ s. f (map h s)) xs
over-map f h [] = refl
over-map f h (x ∷ xs) = omega (arith, over-cons f (h x) (map h xs), over-map f h xs, over-map (λ s. f (h x ∷ s)) h xs, over-cons (λ s. f (map h s)) x xs)

-- a count over pairs of entries, as one over pairs of sets
pairs_over : (test : Entry → Entry → Bool) (left right : List (ℕ × ℕ)) (from to : List Entry) → AreSubsets left from → AreSubsets right to →
    pairs_where test from to ≡ sum_by (λ a. over (λ b. cond (test (entry_of a) (entry_of b)) 1 0) right) (subsets left)
pairs_over test left right from to are_left are_right =
    let g : Entry → ℕ = λ l. count_by (test l) to in
    sum_by-IsPermutation g _ _ are_left.each_once
    ∙ sum_by-map g entry_of (subsets left)
    ∙ sum_agree _ _ (subsets left) (λ a. sum_by-IsPermutation (λ r. cond (test (entry_of a) r) 1 0) _ _ are_right.each_once ∙ sum_by-map (λ r. cond (test (entry_of a) r) 1 0) entry_of (subsets right))

weight_both : (a b : List (ℕ × ℕ)) → weight_of (a ++ map shifted b) ≡ weight_of a + weight_of b
weight_both a b = sum_by-append (λ c. c.1) a (map shifted b) ∙ ap (λ n. weight_of a + n) (sum_by-map (λ c. c.1) shifted b)

board_over : (f : List (ℕ × ℕ) → ℕ) (left right : List (ℕ × ℕ)) → over f (board_of left right) ≡ sum_by (λ a. over (λ b. f (a ++ map shifted b)) right) (subsets left)
board_over f left right = over-append f left (map shifted right) ∙ sum_agree _ _ (subsets left) (λ a. over-map (λ b. f (a ++ b)) shifted right)

or_none : (b c : Bool) → c ≡ false → (b || c) ≡ b
or_none false c h = h
or_none true c h = refl

and_turned : (a b c d : Bool) → a ≡ c → b ≡ d → (a && b) ≡ (d && c)
and_turned false false c d p q = cc
and_turned false true c d p q = cc
and_turned true false c d p q = cc
and_turned true true c d p q = cc

-- a right chair is at a place from 16 on
pub none_below : (place : ℕ) (b : List (ℕ × ℕ)) → place < SLOTS → has_chair place (map shifted b) ≡ false
none_below place [] h = refl
none_below place (c ∷ b) h =
    let apart : eqb (c.0 + SLOTS) place ≡ false = ne_eqb (c.0 + SLOTS) place (λ e. absurd (omega arith)) in
    ap (λ t. t || has_chair place (map shifted b)) apart ∙ none_below place b h

same_slot : (slot place : ℕ) → SLOTS ≤ place → eqb (slot + SLOTS) place ≡ eqb slot (place - SLOTS)
same_slot slot place h = elim (cases_eq slot (place - SLOTS)) as (λ _. eqb (slot + SLOTS) place ≡ eqb slot (place - SLOTS)) [
  | inl same ↦ eq-eqb (slot + SLOTS) place (omega arith) ∙ sym (eq-eqb slot (place - SLOTS) same)
  | inr other ↦ ne_eqb (slot + SLOTS) place (λ e. other (omega arith)) ∙ sym (ne_eqb slot (place - SLOTS) other)
]

pub as_slot : (place : ℕ) (b : List (ℕ × ℕ)) → SLOTS ≤ place → has_chair place (map shifted b) ≡ has_chair (place - SLOTS) b
as_slot place [] h = refl
as_slot place (c ∷ b) h =
    let here : eqb (c.0 + SLOTS) place ≡ eqb c.0 (place - SLOTS) = same_slot c.0 place h in
    cc (here, as_slot place b h)

-- the chair of a place in a pair of sets
has_both : (place : ℕ) (a b : List (ℕ × ℕ)) → (SLOTS ≤ place → has_chair place a ≡ false) → has_place place (entry_of a) (entry_of b) ≡ has_chair place (a ++ map shifted b)
has_both place a b low = elim (cases_lt place SLOTS) as (λ _. has_place place (entry_of a) (entry_of b) ≡ has_chair place (a ++ map shifted b)) [
  | inl below ↦
      ap (λ t. cond t (has_slot place (entry_of a)) (has_slot (place - SLOTS) (entry_of b))) (lt-ltb place SLOTS below)
      ∙ mask_has place a
      ∙ sym (list_any-append (λ c. eqb c.0 place) a (map shifted b) ∙ or_none (has_chair place a) (has_chair place (map shifted b)) (none_below place b below))
  | inr above ↦
      ap (λ t. cond t (has_slot place (entry_of a)) (has_slot (place - SLOTS) (entry_of b))) (le-ltb place SLOTS above)
      ∙ mask_has (place - SLOTS) b
      ∙ sym (as_slot place b above)
      ∙ sym (list_any-append (λ c. eqb c.0 place) a (map shifted b) ∙ ap (λ t. t || has_chair place (map shifted b)) (low above))
]

absent_left : (place : ℕ) (left : List (ℕ × ℕ)) → All (λ c. c.0 < SLOTS) left → SLOTS ≤ place → has_chair place left ≡ false
absent_left place left slots h =
    list_any_none (λ c. eqb c.0 place) left (All-weaker (λ (c : ℕ × ℕ). c.0 < SLOTS) (λ c. eqb c.0 place ≡ false) (λ c u. ne_eqb c.0 place (λ e. absurd (omega arith))) left slots)

-- a pair of sets has as many chairs as their masks have bits
sizes_both : (a b : List (ℕ × ℕ)) → size_of (entry_of a) ≡ length a → size_of (entry_of b) ≡ length b → length (a ++ map shifted b) ≡ size_of (entry_of a) + size_of (entry_of b)
sizes_both a b in_a in_b = omega (arith, in_a, in_b, length-append a (map shifted b), length-map b shifted)

-- a pair of sets wins where its entries do
wins_both : (quota least_size : ℕ) (a b : List (ℕ × ℕ)) → size_of (entry_of a) ≡ length a → size_of (entry_of b) ≡ length b →
    (reaches quota (entry_of a) (entry_of b) && has_size least_size (entry_of a) (entry_of b)) ≡ threshold_rule quota least_size (a ++ map shifted b)
wins_both quota least_size a b in_a in_b =
    ap (λ n. leb quota n && has_size least_size (entry_of a) (entry_of b)) (sym (weight_both a b))
    ∙ ap (λ n. leb quota (weight_of (a ++ map shifted b)) && leb least_size n) (sym (sizes_both a b in_a in_b))

-- sums over pairs of sets that agree wherever sets are of a half
pairs_agree : (f g : List (ℕ × ℕ) → List (ℕ × ℕ) → ℕ) (P Q : List (ℕ × ℕ) → Type 0) (left right : List (ℕ × ℕ)) → ((a b : List (ℕ × ℕ)) → P a → Q b → f a b ≡ g a b) → All P (subsets left) → All Q (subsets right) →
    sum_by (λ a. over (f a) right) (subsets left) ≡ sum_by (λ a. over (g a) right) (subsets left)
pairs_agree f g P Q left right same all_left all_right =
    sum_agree_on (λ a. over (f a) right) (λ a. over (g a) right) (subsets left)
    (All-weaker P (λ a. over (f a) right ≡ over (g a) right)
    (λ a p. sum_agree_on (f a) (g a) (subsets right) (All-weaker Q (λ b. f a b ≡ g a b) (λ b q. same a b p q) (subsets right) all_right)) (subsets left) all_left)

pub pair_law : PairLaw
pair_law quota least_size left right from to half_left half_right are_left are_right =
    let C : Type 0 = List (ℕ × ℕ) in
    let sized : C → Type 0 = λ s. size_of (entry_of s) ≡ length s in
    let sized_right : All sized (subsets right) = sets_sized right half_right.distinct in
    let sized_left : All sized (subsets left) = sets_sized left half_left.distinct in
    record {
      winning = pairs_over (λ l r. reaches quota l r && has_size least_size l r) left right from to are_left are_right
          ∙ pairs_agree (λ a b. cond (reaches quota (entry_of a) (entry_of b) && has_size least_size (entry_of a) (entry_of b)) 1 0) (λ a b. cond (threshold_rule quota least_size (a ++ map shifted b)) 1 0) sized sized left right
          (λ a b in_a in_b. ap (λ t. cond t 1 0) (wins_both quota least_size a b in_a in_b)) sized_left sized_right
          ∙ sym (board_over (λ s. cond (threshold_rule quota least_size s) 1 0) left right);
      with_chair = λ place.
          (let g : C → ℕ = λ s. cond (has_chair place s && threshold_rule quota least_size s) 1 0 in
          let low : C → Type 0 = λ s. sized s × (SLOTS ≤ place → has_chair place s ≡ false) in
          let low_left : All low (subsets left) = λ k d h. (sized_left k d h, λ t. subsets_avoid (λ (c : ℕ × ℕ). eqb c.0 place) left (absent_left place left half_left.slots t) k d h) in
          pairs_over (λ l r. (reaches quota l r && has_size least_size l r) && has_place place l r) left right from to are_left are_right
          ∙ pairs_agree (λ a b. cond ((reaches quota (entry_of a) (entry_of b) && has_size least_size (entry_of a) (entry_of b)) && has_place place (entry_of a) (entry_of b)) 1 0) (λ a b. g (a ++ map shifted b)) low sized left right
          (λ a b in_a in_b. ap (λ u. cond u 1 0) (and_turned _ _ _ _ (wins_both quota least_size a b in_a.0 in_b) (has_both place a b in_a.1))) low_left sized_right
          ∙ sym (board_over g left right));
    }
