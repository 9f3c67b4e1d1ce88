-- Sums over all sets of the elements of a list.
use Rattle.std.proofs.Common.{◌≡◌, ℕ, ◌+◌, ◌≤◌, Bool, true, false, cond, List, [], ◌∷◌, map, arith, refl, ap, ◌∙◌}
use Rattle.std.specs.Prelude.{◌||◌}
use Rattle.std.specs.List.{sum_by, list_any, All}
use Rattle.std.proofs.lemmas.List.Elements.{All-head, All-tail, All-cons, All-nil, All-append, All-map, All-weaker}
use Rattle.std.proofs.lemmas.List.Sums.{sum_by-cons, sum_by-append}
use Rattle.council_core.specs.Coalitions.{subsets}

pub sum_by-map : {X Y : Type 0} (f : Y → ℕ) (g : X → Y) (xs : List X) → sum_by f (map g xs) ≡ sum_by (λ x. f (g x)) xs
sum_by-map f g [] = refl
sum_by-map f g (x ∷ xs) = omega (arith, sum_by-cons f (g x) (map g xs), sum_by-cons (λ x. f (g x)) x xs, sum_by-map f g xs)

pub sum_agree : {X : Type 0} (f g : X → ℕ) (xs : List X) → ((x : X) → f x ≡ g x) → sum_by f xs ≡ sum_by g xs
sum_agree f g [] same = refl
sum_agree f g (x ∷ xs) same = omega (arith, sum_by-cons f x xs, sum_by-cons g x xs, same x, sum_agree f g xs same)

pub sum_agree_on : {X : Type 0} (f g : X → ℕ) (xs : List X) → All (λ x. f x ≡ g x) xs → sum_by f xs ≡ sum_by g xs
sum_agree_on f g [] same = refl
sum_agree_on f g (x ∷ xs) same = omega (arith, sum_by-cons f x xs, sum_by-cons g x xs, All-head (λ y. f y ≡ g y) x xs same, sum_agree_on f g xs (All-tail (λ y. f y ≡ g y) x xs same))

pub sum_zero : {X : Type 0} (xs : List X) → sum_by (λ x. 0) xs ≡ 0
sum_zero [] = refl
sum_zero {X} (x ∷ xs) = omega (arith, sum_by-cons (λ (y : X). 0) x xs, sum_zero xs)

-- a sum over all sets
abbrev pub over : {X : Type 0} → (List X → ℕ) → List X → ℕ
over f xs = sum_by f (subsets xs)

pub over-cons : {X : Type 0} (f : List X → ℕ) (x : X) (xs : List X) → over f (x ∷ xs) ≡ over f xs + over (λ s. f (x ∷ s)) xs
over-cons f x xs = sum_by-append f (subsets xs) _ ∙ ap (λ n. over f xs + n) (sum_by-map f (λ s. x ∷ s) (subsets xs))

pub or_left : (a b : Bool) → (a || b) ≡ false → a ≡ false
or_left false b h = refl
or_left true b h = absurd (cc)

pub or_right : (a b : Bool) → (a || b) ≡ false → b ≡ false
or_right false b h = h
or_right true b h = absurd (cc)

-- what no element has, no set of them has
pub subsets_avoid : {X : Type 0} (p : X → Bool) (xs : List X) → list_any p xs ≡ false → All (λ s. list_any p s ≡ false) (subsets xs)
subsets_avoid {X} p [] h = All-cons (λ (s : List X). list_any p s ≡ false) [] [] refl (All-nil (λ (s : List X). list_any p s ≡ false))
subsets_avoid {X} p (x ∷ xs) h =
    let P : List X → Type 0 = λ s. list_any p s ≡ false in
    let rest : All P (subsets xs) = subsets_avoid p xs (or_right (p x) (list_any p xs) h) in
    All-append P (subsets xs) _ rest
    (All-map P (λ s. x ∷ s) (subsets xs) (All-weaker P (λ s. P (x ∷ s)) (λ s t. ap (λ b. b || list_any p s) (or_left (p x) (list_any p xs) h) ∙ t) (subsets xs) rest))

-- what one test counts
pub at_most_one : (b : Bool) → cond b 1 0 ≤ 1
at_most_one true = omega arith
at_most_one false = omega arith
