-- The number of coalitions, and that each appears once.
use Rattle.std.proofs.Common.{◌≡◌, ℕ, ◌+◌, ◌^◌, Bool, true, false, cond, ◌&&◌, List, [], ◌∷◌, ◌++◌, length, map, filter, refl, ap, arith, nat_eq}
use Rattle.std.specs.List.{count_by, AllByRecursion, IsDistinct}
use Rattle.std.proofs.lemmas.List.{length-append, length-map}
use Rattle.std.proofs.lemmas.List.Sums.{sum_by-cons, sum_by-append}
use Rattle.std.proofs.Math.Nat.{pow-suc}
use Rattle.std.proofs.lemmas.Bool.Decides.{nat_tests}
use Rattle.council_core.specs.Sheets.{Chair}
use Rattle.council_core.specs.Coalitions.{subsets}
use Rattle.council_core.specs.Laws.{same_set}

pub length-subsets : {X : Type 0} (xs : List X) → length (subsets xs) ≡ 2 ^ length xs
length-subsets [] = refl
length-subsets {X} (x ∷ xs) =
    let f : List X → List X = λ s. x ∷ s in
    omega (arith, length-append (subsets xs) (map f (subsets xs)), length-map (subsets xs) f, length-subsets xs, pow-suc 2 (length xs))

counted : {X : Type 0} (p : X → Bool) (x : X) (xs : List X) → count_by p (x ∷ xs) ≡ cond (p x) 1 0 + count_by p xs
counted p x xs = sum_by-cons (λ y. cond (p y) 1 0) x xs

count-map : (p : List Chair → Bool) (x : Chair) (ss : List (List Chair)) → count_by p (map (λ s. x ∷ s) ss) ≡ count_by (λ s. p (x ∷ s)) ss
count-map p x [] = refl
count-map p x (s ∷ ss) = omega (arith, count-map p x ss, counted p (x ∷ s) (map (λ s. x ∷ s) ss), counted (λ s. p (x ∷ s)) s ss)

-- the coalitions without a chair, and those with it
pub count-subsets : (p : List Chair → Bool) (x : Chair) (xs : List Chair) → count_by p (subsets (x ∷ xs)) ≡ count_by p (subsets xs) + count_by (λ s. p (x ∷ s)) (subsets xs)
count-subsets p x xs = omega (arith, sum_by-append (λ s. cond (p s) 1 0) (subsets xs) (map (λ s. x ∷ s) (subsets xs)), count-map p x (subsets xs))

count_none : (p : List Chair → Bool) (ss : List (List Chair)) → AllByRecursion (λ s. p s ≡ false) ss → count_by p ss ≡ 0
count_none p [] h = refl
count_none p (s ∷ ss) h =
    let value : Bool → ℕ = λ b. cond b 1 0 in
    let here : value (p s) ≡ 0 = ap value h.0 in
    omega (arith, here, count_none p ss h.1, counted p s ss)

count_agrees : (p q : List Chair → Bool) (ss : List (List Chair)) → ((s : List Chair) → p s ≡ q s) → count_by p ss ≡ count_by q ss
count_agrees p q [] h = refl
count_agrees p q (s ∷ ss) h =
    let value : Bool → ℕ = λ b. cond b 1 0 in
    let here : value (p s) ≡ value (q s) = ap value (h s) in
    omega (arith, here, count_agrees p q ss h, counted p s ss, counted q s ss)

-- whether a chair with this number is first
abbrev leads : Chair → List Chair → Bool
leads x [] = false
leads x (y ∷ s) = nat_eq x.0 y.0

abbrev IsAbsent : Chair → List Chair → Type 0
IsAbsent x xs = AllByRecursion (λ n. nat_eq x.0 n ≡ false) (map (λ (c : Chair). c.0) xs)

all_both : (P : List Chair → Type 0) (xs ys : List (List Chair)) → AllByRecursion P xs → AllByRecursion P ys → AllByRecursion P (xs ++ ys)
all_both P [] ys h k = k
all_both P (x ∷ xs) ys h k = (h.0, all_both P xs ys h.1 k)

all_headed : (x y : Chair) (ss : List (List Chair)) → nat_eq x.0 y.0 ≡ false → AllByRecursion (λ s. leads x s ≡ false) (map (λ s. y ∷ s) ss)
all_headed x y [] h = tt
all_headed x y (s ∷ ss) h = (h, all_headed x y ss h)

never_leads : (x : Chair) (xs : List Chair) → IsAbsent x xs → AllByRecursion (λ s. leads x s ≡ false) (subsets xs)
never_leads x [] h = (refl, tt)
never_leads x (y ∷ ys) h = all_both (λ s. leads x s ≡ false) (subsets ys) (map (λ s. y ∷ s) (subsets ys)) (never_leads x ys h.1) (all_headed x y (subsets ys) h.0)

chosen_without : (x : Chair) (chosen : Chair → Bool) (xs : List Chair) → IsAbsent x xs → leads x (filter chosen xs) ≡ false
chosen_without x chosen [] h = refl
chosen_without x chosen (y ∷ ys) h = elim (chosen y) as (λ b. leads x (cond b (y ∷ filter chosen ys) (filter chosen ys)) ≡ false) [ true ↦ h.0 | false ↦ chosen_without x chosen ys h.1 ]

-- sets that begin with different chairs are different
other_first : (x : Chair) (f s : List Chair) → leads x s ≡ false → same_set (x ∷ f) s ≡ false
other_first x f [] h = refl
other_first x f (y ∷ s) h = ap (λ b. b && same_set f s) h

turned : (a b : ℕ) → nat_eq a b ≡ false → nat_eq b a ≡ false
turned a b h = grind (arith, nat_tests, h)

other_second : (x : Chair) (f s : List Chair) → leads x f ≡ false → same_set f (x ∷ s) ≡ false
other_second x [] s h = refl
other_second x (y ∷ f) s h = ap (λ b. b && same_set f s) (turned x.0 y.0 h)

all_other : (x : Chair) (f : List Chair) (ss : List (List Chair)) → AllByRecursion (λ s. leads x s ≡ false) ss → AllByRecursion (λ s. same_set (x ∷ f) s ≡ false) ss
all_other x f [] h = tt
all_other x f (s ∷ ss) h = (other_first x f s h.0, all_other x f ss h.1)

all_without : (x : Chair) (f : List Chair) (ss : List (List Chair)) → leads x f ≡ false → AllByRecursion (λ s. same_set f (x ∷ s) ≡ false) ss
all_without x f [] h = tt
all_without x f (s ∷ ss) h = (other_second x f s h, all_without x f ss h)

itself : (n : ℕ) → nat_eq n n ≡ true
itself n = grind (arith, nat_tests)

-- each choice of chairs is exactly one coalition
pub each_once : (chairs : List Chair) → IsDistinct nat_eq (map (λ (c : Chair). c.0) chairs) → (chosen : Chair → Bool) → count_by (same_set (filter chosen chairs)) (subsets chairs) ≡ 1
unfolding IsDistinct
each_once [] apart chosen = refl
each_once (x ∷ xs) apart chosen =
    let f = filter chosen xs in
    elim (chosen x) as (λ b. count_by (same_set (cond b (x ∷ f) f)) (subsets (x ∷ xs)) ≡ 1) [
      | true ↦
          let without = count_none (same_set (x ∷ f)) (subsets xs) (all_other x f (subsets xs) (never_leads x xs apart.0)) in
          let with_it = count_agrees (λ s. same_set (x ∷ f) (x ∷ s)) (same_set f) (subsets xs) (λ s. ap (λ b. b && same_set f s) (itself x.0)) in
          omega (arith, count-subsets (same_set (x ∷ f)) x xs, without, with_it, each_once xs apart.1 chosen)
      | false ↦
          let with_it = count_none (λ s. same_set f (x ∷ s)) (subsets xs) (all_without x f (subsets xs) (chosen_without x chosen xs apart.0)) in
          omega (arith, count-subsets (same_set f) x xs, with_it, each_once xs apart.1 chosen)
    ]
