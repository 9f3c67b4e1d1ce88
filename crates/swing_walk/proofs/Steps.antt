-- Counts over pairs, seen from the entries of either list.
use Rattle.std.proofs.Common.{◌≡◌, ℕ, ◌+◌, ◌^◌, ◌≤◌, Bool, cond, List, [], ◌∷◌, length, take, drop, get_or, arith, refl, ap}
use Rattle.std.specs.Prelude.{nat_le}
use Rattle.std.specs.List.{count_by}
use Rattle.std.proofs.lemmas.List.{take_all}
use Rattle.std.proofs.lemmas.List.Sums.{sum_by-cons, sum_by-take-drop}
use Rattle.half_sums.specs.declared.entry.Entry.{Entry}
use Rattle.swing_walk.specs.Pairs.{pairs_where, reaches}
use Rattle.swing_walk.proofs.Counting.{count_agree, pairs_room}
use Rattle.half_sums.proofs.Face.{sum_agree}
use Rattle.half_sums.specs.declared.lists.TheConstants.{ROOM}

pairs_none : (test : Entry → Entry → Bool) (xs : List Entry) → pairs_where test xs [] ≡ 0
pairs_none test [] = refl
pairs_none test (x ∷ xs) = omega (arith, sum_by-cons (λ (l : Entry). count_by (test l) []) x xs, pairs_none test xs)

-- one more in the second list
pairs_column : (test : Entry → Entry → Bool) (xs ys : List Entry) (y : Entry) → pairs_where test xs (y ∷ ys) ≡ count_by (λ x. test x y) xs + pairs_where test xs ys
pairs_column test [] ys y = refl
pairs_column test (x ∷ xs) ys y =
    omega (
      arith,
      sum_by-cons (λ l. count_by (test l) (y ∷ ys)) x xs,
      sum_by-cons (λ l. count_by (test l) ys) x xs,
      sum_by-cons (λ (b : Entry). cond (test x b) 1 0) y ys,
      sum_by-cons (λ (a : Entry). cond (test a y) 1 0) x xs,
      pairs_column test xs ys y,
    )

pub pairs_swap : (test : Entry → Entry → Bool) (xs ys : List Entry) → pairs_where test xs ys ≡ pairs_where (λ y x. test x y) ys xs
pairs_swap test xs [] = pairs_none test xs
pairs_swap test xs (y ∷ ys) = omega (arith, pairs_column test xs ys y, pairs_swap test xs ys, sum_by-cons (λ b. count_by (λ a. test a b) xs) y ys)

pub pairs_agree : (p q : Entry → Entry → Bool) (xs ys : List Entry) → ((a b : Entry) → p a b ≡ q a b) → pairs_where p xs ys ≡ pairs_where q xs ys
pairs_agree p q xs ys same = sum_agree _ _ xs (λ a. count_agree (p a) (q a) ys (λ k d h. same a (get_or ys k d)))

pub turned : (quota : ℕ) (a b : Entry) → reaches quota b a ≡ reaches quota a b
turned quota a b = let swap : b.sum + a.sum ≡ a.sum + b.sum = omega arith in ap (λ n. nat_le quota n) swap

-- what the entries of a list from an index on can come to
pub back_room : (test : Entry → Entry → Bool) (left right : List Entry) (at : ℕ) → length left ≤ ROOM → length right ≤ ROOM → pairs_where test (drop at right) left ≤ 2 ^ 32
back_room test left right at few_left few_right =
    let whole : pairs_where test (take (length right) right) left ≡ pairs_where test right left = ap (λ xs. pairs_where test xs left) (take_all (length right) right (omega arith)) in
    omega (arith, pairs_room test right left (length right) few_right few_left, sum_by-take-drop (λ b. count_by (test b) left) right at, whole)
