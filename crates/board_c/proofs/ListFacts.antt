-- Prefixes, and a list that is written over the front of another.
use Rattle.std.proofs.Common.{◌≡◌, ℕ, ◌+◌, List, [], ◌∷◌, ◌++◌, length, take, set, refl, sym, ap, ◌∙◌, map, get_or, ◌<◌, arith}
use Rattle.std.proofs.lemmas.List.{map_more, length-map, length-take-le}
use Rattle.std.proofs.Math.Seq.{take-nil}
use Rattle.board_c.specs.Written.{overlaid}

pub overlaid-none : {A : Type 0} (old : List A) → overlaid [] old ≡ old
overlaid-none old = rw (take-nil (length old)) refl

-- one more, written behind those before it, if there is room
pub overlaid-more : {A : Type 0} (all old : List A) (x : A) → set (overlaid all old) (length all) x ≡ overlaid (all ++ x ∷ []) old
overlaid-more [] [] x = refl
overlaid-more [] (o ∷ os) x = rw (take-nil (length os)) refl
overlaid-more (a ∷ more) [] x = refl
overlaid-more (a ∷ more) (o ∷ os) x = ap (λ l. a ∷ l) (overlaid-more more os x)

-- the image of one more element, written so
pub overlaid-image : {X Y : Type 0} (f : X → Y) (xs : List X) (at : ℕ) (x : X) (old now then : List Y) → at < length xs → x ≡ get_or xs at x
    → now ≡ overlaid (map f (take at xs)) old → then ≡ set now at (f x) → then ≡ overlaid (map f (take (at + 1) xs)) old
overlaid-image f xs at x old now then inside is so put =
    let long : length (map f (take at xs)) ≡ at = length-map (take at xs) f ∙ length-take-le at xs (omega arith) in
    let more : map f (take (at + 1) xs) ≡ map f (take at xs) ++ f x ∷ [] = map_more f xs at x inside ∙ ap (λ y. map f (take at xs) ++ f y ∷ []) (sym is) in
    put ∙ ap (λ l. set l at (f x)) so
    ∙ ap (λ n. set (overlaid (map f (take at xs)) old) n (f x)) (sym long)
    ∙ overlaid-more (map f (take at xs)) old (f x)
    ∙ ap (λ l. overlaid l old) (sym more)
