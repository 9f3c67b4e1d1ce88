-- Sums over all sets of chairs.
use Rattle.std.proofs.Common.{◌≡◌, ℕ, ◌+◌, ◌-◌, ◌*◌, ◌≤◌, Bool, true, false, cond, List, [], ◌∷◌, ◌++◌, length, arith, refl, sym, ap, ◌∙◌, eqb, leb, zero, suc}
use Rattle.std.specs.Prelude.{◌&&◌, ◌||◌, not}
use Rattle.std.specs.List.{sum_by, All}
use Rattle.std.specs.List.Sorted.{IsPermutation}
use Rattle.std.proofs.lemmas.List.Elements.{All-weaker}
use Rattle.std.proofs.lemmas.Bool.{eq-eqb, ne_eqb, le-leb, leb-true}
use Rattle.std.proofs.lemmas.List.Sums.{sum_by-cons, sum_by-le-sum_by}
use Rattle.std.proofs.lemmas.List.Sorted.{IsPermutation-cons, IsPermutation-append_left, IsPermutation-append_comm, sum_by-IsPermutation, length_permutation, list_any-IsPermutation}
use Rattle.council_core.specs.Sheets.{weight_of}
use Rattle.council_core.specs.Coalitions.{subsets, has_chair, IsRule, threshold_rule}
use Rattle.swing_walk.specs.Laws.{SwingLaw, CountLaw, BoundLaw}
use Rattle.swing_walk.specs.Pairs.{swings_of}
use Rattle.half_sums.proofs.Face.{over, over-cons, subsets_avoid, sum_agree, sum_agree_on, sum_zero}

sum_add : {X : Type 0} (f g : X → ℕ) (xs : List X) → sum_by (λ x. f x + g x) xs ≡ sum_by f xs + sum_by g xs
sum_add f g [] = refl
sum_add f g (x ∷ xs) = omega (arith, sum_by-cons f x xs, sum_by-cons g x xs, sum_by-cons (λ x. f x + g x) x xs, sum_add f g xs)

-- a set of two lists is a set of the one and a set of the other
pub over-append : {X : Type 0} (f : List X → ℕ) (xs ys : List X) → over f (xs ++ ys) ≡ sum_by (λ a. over (λ b. f (a ++ b)) ys) (subsets xs)
over-append f [] ys = omega arith
over-append {X} f (x ∷ xs) ys =
    let g : List X → ℕ = λ a. over (λ b. f (a ++ b)) ys in
    omega (arith, over-cons f x (xs ++ ys), over-append f xs ys, over-append (λ s. f (x ∷ s)) xs ys, over-cons g x xs)

swap_two : {X : Type 0} (x y : X) (s : List X) → IsPermutation (x ∷ y ∷ s) (y ∷ x ∷ s)
swap_two x y s = IsPermutation-append_left s (x ∷ y ∷ []) (y ∷ x ∷ []) (IsPermutation-append_comm (x ∷ []) (y ∷ []))

-- a chair in the middle may be first
over_middle : {X : Type 0} (f : List X → ℕ) → ((s t : List X) → IsPermutation s t → f s ≡ f t) → (xs ys : List X) (c : X) → over f (xs ++ c ∷ ys) ≡ over f (c ∷ (xs ++ ys))
over_middle f same [] ys c = refl
over_middle {X} f same (x ∷ xs) ys c =
    let fx : List X → ℕ = λ s. f (x ∷ s) in
    let fc : List X → ℕ = λ s. f (c ∷ s) in
    let same_x : (s t : List X) → IsPermutation s t → fx s ≡ fx t = λ s t h. same _ _ (IsPermutation-cons x s t h) in
    let turned : over (λ s. f (x ∷ c ∷ s)) (xs ++ ys) ≡ over (λ s. f (c ∷ x ∷ s)) (xs ++ ys) = sum_agree _ _ (subsets (xs ++ ys)) (λ s. same _ _ (swap_two x c s)) in
    omega (arith, over-cons f x (xs ++ c ∷ ys), over_middle f same xs ys c, over_middle fx same_x xs ys c, over-cons f c (xs ++ ys), over-cons fx c (xs ++ ys), over-cons f c (x ∷ (xs ++ ys)), over-cons f x (xs ++ ys), over-cons fc x (xs ++ ys), turned)

-- one set without the chair, as it loses or wins
gain : (has w v : Bool) → has ≡ false → (w ≡ true → v ≡ true) → cond (not has && (not w && v)) 1 0 + cond w 1 0 ≡ cond v 1 0
gain true w v h g = absurd (cc)
gain false false v h g = omega arith
gain false true true h g = refl
gain false true false h g = let bad : false ≡ true = g refl in absurd (cc)

has_itself : (place : ℕ) (s : Bool) → (eqb place place || s) ≡ true
has_itself place s = ap (λ b. b || s) (eq-eqb place place refl)

pub swing_law : SwingLaw
swing_law wins before after chair rule absent =
    let C : Type 0 = List (ℕ × ℕ) in
    let o : C = before ++ after in
    let h : C → Bool = has_chair chair.0 in
    let fe : C → ℕ = λ s. cond (not (h s) && (not (wins s) && wins (chair ∷ s))) 1 0 in
    let fo : C → ℕ = λ s. cond (wins s) 1 0 in
    let fw : C → ℕ = λ s. cond (h s && wins s) 1 0 in
    let b : C → ℕ = λ s. cond (wins (chair ∷ s)) 1 0 in
    let same_h : (s t : C) → IsPermutation s t → h s ≡ h t = λ s t m. list_any-IsPermutation (λ c. eqb c.0 chair.0) s t m in
    let same_e : (s t : C) → IsPermutation s t → fe s ≡ fe t = λ s t m. cc (same_h s t m, rule.same s t m, rule.same (chair ∷ s) (chair ∷ t) (IsPermutation-cons chair s t m)) in
    let same_o : (s t : C) → IsPermutation s t → fo s ≡ fo t = λ s t m. cc (rule.same s t m) in
    let same_w : (s t : C) → IsPermutation s t → fw s ≡ fw t = λ s t m. cc (same_h s t m, rule.same s t m) in
    let free : All (λ s. h s ≡ false) (subsets o) = subsets_avoid (λ (c : ℕ × ℕ). eqb c.0 chair.0) o absent in
    let gains : over (λ s. fe s + fo s) o ≡ over b o =
    sum_agree_on (λ s. fe s + fo s) b (subsets o) (All-weaker (λ (s : C). h s ≡ false) (λ s. fe s + fo s ≡ b s) (λ s f. gain (h s) (wins s) (wins (chair ∷ s)) f (rule.grows chair s)) (subsets o) free) in
    let none_e : over (λ s. fe (chair ∷ s)) o ≡ 0 =
    sum_agree (λ s. fe (chair ∷ s)) (λ s. 0) (subsets o) (λ s. ap (λ t. cond (not t && (not (wins (chair ∷ s)) && wins (chair ∷ chair ∷ s))) 1 0) (has_itself chair.0 (h s))) ∙ sum_zero (subsets o) in
    let none_w : over fw o ≡ 0 =
    sum_agree_on fw (λ s. 0) (subsets o) (All-weaker (λ (s : C). h s ≡ false) (λ s. fw s ≡ 0) (λ s f. ap (λ t. cond (t && wins s) 1 0) f) (subsets o) free) ∙ sum_zero (subsets o) in
    let all_w : over (λ s. fw (chair ∷ s)) o ≡ over b o =
    sum_agree (λ s. fw (chair ∷ s)) b (subsets o) (λ s. ap (λ t. cond (t && wins (chair ∷ s)) 1 0) (has_itself chair.0 (h s))) in
    omega (
      arith,
      over_middle fe same_e before after chair,
      over_middle fo same_o before after chair,
      over_middle fw same_w before after chair,
      over-cons fe chair o,
      over-cons fo chair o,
      over-cons fw chair o,
      sum_add fe fo (subsets o),
      gains,
      none_e,
      none_w,
      all_w,
    )

pub both_true : (a b : Bool) → (a && b) ≡ true → (a ≡ true) × (b ≡ true)
both_true true b h = (refl, h)
both_true false b h = absurd (cc)

pub reaching_rule : (quota least_size : ℕ) → IsRule (threshold_rule quota least_size)
reaching_rule quota least_size = record {
  same = λ s t moves.
      ap (λ n. leb quota n && leb least_size (length s)) (sym (sum_by-IsPermutation (λ c. c.1) s t moves))
      ∙ ap (λ n. leb quota (weight_of t) && leb least_size n) (sym (length_permutation s t moves));
  grows = λ chair s won.
      (let both = both_true (leb quota (weight_of s)) (leb least_size (length s)) won in
      let heavy : leb quota (weight_of (chair ∷ s)) ≡ true = le-leb quota _ (omega (arith, leb-true quota (weight_of s) both.0, sum_by-cons (λ (c : ℕ × ℕ). c.1) chair s)) in
      let large : leb least_size (length (chair ∷ s)) ≡ true = le-leb least_size _ (omega (arith, leb-true least_size (length s) both.1)) in
      ap (λ b. b && leb least_size (length (chair ∷ s))) heavy ∙ large);
}

swings_from : (winning with_chair eta : ℕ) → eta + winning ≡ 2 * with_chair → swings_of winning with_chair ≡ eta
swings_from winning zero eta h = omega arith
swings_from winning (suc n) eta h = ap (λ b. cond b 0 (2 * suc n - winning)) (ne_eqb (suc n) 0 (λ e. absurd (omega arith))) ∙ omega arith

pub count_law : CountLaw
count_law quota least_size before after chair absent = swings_from _ _ _ (swing_law (threshold_rule quota least_size) before after chair (reaching_rule quota least_size) absent)

part_of : (a b : Bool) → cond (a && b) 1 0 ≤ cond b 1 0
part_of true b = omega arith
part_of false true = omega arith
part_of false false = omega arith

pub bound_law : BoundLaw
bound_law quota least_size place chairs = sum_by-le-sum_by (λ s. cond (has_chair place s && threshold_rule quota least_size s) 1 0) (λ s. cond (threshold_rule quota least_size s) 1 0) (subsets chairs) (λ s. part_of (has_chair place s) (threshold_rule quota least_size s))
