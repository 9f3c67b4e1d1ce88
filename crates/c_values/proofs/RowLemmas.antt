-- The rows that a caller is shown, and a list that is filled from its front.
use Rattle.std.proofs.Common.{◌≡◌, ℕ, suc, ◌+◌, ◌-◌, ◌<◌, refl, List, [], ◌∷◌, ◌++◌, length, map, take, replicate, get_or, set, ap, sym, ◌∙◌, append_assoc, arith}
use Rattle.std.proofs.Math.Seq.{set-append_seam}
use Rattle.std.proofs.lemmas.List.{map_more, length-map, length-take-le}
use Rattle.council_core.specs.Sheets.{Chair}
use Rattle.council_core.specs.Coalitions.{Rule}
use Rattle.power_index.specs.declared.indices.ChairPower.{ChairPower}
use Rattle.power_index.specs.Indices.{rows_among}
use Rattle.c_values.specs.Counts.{chair_row, no_chair}
use Rattle.c_values.specs.Rows.{without_indices}

-- of the same values in the room that is left, the first
pub first_left : {X : Type 0} → (room at : ℕ) (z : X) → at < room → replicate (room - at) z ≡ z ∷ replicate (room - (at + 1)) z
first_left room at z inside =
    let left : room - at ≡ suc (room - (at + 1)) = omega arith in
    rw left

-- the image of one more element, written over the first value after the images of those before it
pub next_image : {X Y : Type 0} → (f : X → Y) (xs : List X) (at : ℕ) (x : X) (z : Y) (rest : List Y) → at < length xs → x ≡ get_or xs at x
    → set (map f (take at xs) ++ z ∷ rest) at (f x) ≡ map f (take (at + 1) xs) ++ rest
next_image f xs at x z rest inside is =
    let long : length (map f (take at xs)) ≡ at = length-map (take at xs) f ∙ length-take-le at xs (omega arith) in
    let more : map f (take (at + 1) xs) ≡ map f (take at xs) ++ f x ∷ [] = map_more f xs at x inside ∙ ap (λ y. map f (take at xs) ++ f y ∷ []) (sym is) in
    ap (λ n. set (map f (take at xs) ++ z ∷ rest) n (f x)) (sym long)
    ∙ set-append_seam (map f (take at xs)) z rest (f x)
    ∙ sym (append_assoc (map f (take at xs)) (f x ∷ []) rest)
    ∙ ap (λ front. front ++ rest) (sym more)

-- the rows without their indices are the counts of the chairs
map_rows : (rule : Rule) (board chairs : List Chair) → map without_indices (rows_among rule board chairs) ≡ map (chair_row rule board) chairs
map_rows rule board [] = refl
map_rows rule board (c ∷ rest) = ap (λ rows. chair_row rule board c ∷ rows) (map_rows rule board rest)

-- the same with the zeros that follow
pub shown_rows : (rule : Rule) (board : List Chair) (rows : List ChairPower) → rows ≡ rows_among rule board board
    → map without_indices rows ++ replicate (32 - length rows) no_chair ≡ map (chair_row rule board) board ++ replicate (32 - length board) no_chair
shown_rows rule board rows is =
    let shown : map without_indices rows ≡ map (chair_row rule board) board = ap (map without_indices) is ∙ map_rows rule board board in
    let long : length rows ≡ length board = sym (length-map rows without_indices) ∙ ap length shown ∙ length-map board (chair_row rule board) in
    rw (shown, long)
