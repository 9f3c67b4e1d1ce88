-- A thing at its index in a list.
use Rattle.std.proofs.Common.{◌≡◌, ◌+◌, ◌<◌, ℕ, zero, suc, List, [], ◌∷◌, ◌++◌, length, map, take, drop, get_or, arith, refl, sym, ap, ◌∙◌}
use Rattle.std.proofs.lemmas.List.{map-append, take_more}

-- this item is at this index of a list
pub record StandsAt {X : Type 0} (xs : List X) (i : ℕ) (x : X) : Type 0 where
  pub within : i < length xs
  pub here : x ≡ get_or xs i x

-- the item at an index within a list doesn't depend on the default
same-get : {X : Type 0} (xs : List X) (i : ℕ) (d e : X) → i < length xs → get_or xs i d ≡ get_or xs i e
same-get [] i d e within = absurd (omega arith)
same-get (x ∷ xs) zero d e within = refl
same-get (x ∷ xs) (suc i) d e within = same-get xs i d e (omega arith)

-- a list has, at an index, the item that is found there
pub found-at : {X : Type 0} (xs : List X) (i : ℕ) (d : X) → i < length xs → StandsAt xs i (get_or xs i d)
found-at xs i d within = record { within = within; here = same-get xs i d (get_or xs i d) within }

-- the things before an index, and the one at it
pub first-more : {X Y : Type 0} (f : X → Y) (xs : List X) (i : ℕ) (x : X) → StandsAt xs i x → map f (take (i + 1) xs) ≡ map f (take i xs) ++ f x ∷ []
first-more f xs i x at = ap (map f) (take_more xs i x at.within ∙ ap (λ y. take i xs ++ (y ∷ [])) (sym at.here)) ∙ map-append f (take i xs) (x ∷ [])

split : {X : Type 0} (xs : List X) (i : ℕ) (x : X) → i < length xs → x ≡ get_or xs i x → xs ≡ take i xs ++ (x ∷ drop (suc i) xs)
split [] i x within at = absurd (omega arith)
split (y ∷ ys) zero x within at = ap (λ z. z ∷ ys) (sym at)
split (y ∷ ys) (suc i) x within at = ap (λ l. y ∷ l) (split ys i x (omega arith) at)

-- the items before an index, the item at it, and those after it
pub split-at : {X : Type 0} (xs : List X) (i : ℕ) (x : X) → StandsAt xs i x → xs ≡ take i xs ++ (x ∷ drop (suc i) xs)
split-at xs i x at = split xs i x at.within at.here
