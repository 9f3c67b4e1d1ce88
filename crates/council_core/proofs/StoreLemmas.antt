-- The members in the map, entered again without one of them.
use Rattle.std.proofs.Common.{◌≡◌, ℕ, zero, suc, ◌+◌, ◌<◌, ◌≤◌, false, cond, List, [], ◌∷◌, ◌++◌, length, take, get_or, Some, None, sym, ◌∙◌, ap, refl, arith, slice_set}
use Rattle.std.specs.Prelude.{remove, slice_get}
use Rattle.std.specs.List.{AllByRecursion, IsDistinct}
use Rattle.std.specs.Map.{keys_of}
use Rattle.std.specs.Cmp.Lexicographic.{nat_list_eq_equiv}
use Rattle.council_core.specs.Rolls.{RollEntry, same_code, standing_among}

later_differs : (code : List ℕ) (rows : List RollEntry) (i : ℕ) (row : RollEntry) → AllByRecursion (λ y. same_code code y ≡ false) (keys_of rows) → i < length rows → row ≡ get_or rows i row → same_code code row.0 ≡ false
later_differs code [] i row h within at = absurd (omega arith)
later_differs code (r ∷ rs) zero row h within at = ap (λ (e : RollEntry). same_code code e.0) at ∙ h.0
later_differs code (r ∷ rs) (suc i) row h within at = later_differs code rs i row h.1 (omega arith) at

-- where no two codes are the same, none is among those before it
pub unlike_earlier : (rows : List RollEntry) (i : ℕ) (row : RollEntry) → IsDistinct same_code (keys_of rows) → i < length rows → row ≡ get_or rows i row → standing_among row.0 (take i rows) ≡ None
unfolding IsDistinct
unlike_earlier [] i row h within at = absurd (omega arith)
unlike_earlier (r ∷ rs) zero row h within at = refl
unlike_earlier (r ∷ rs) (suc i) row h within at =
    ap (λ b. cond b (Some r.1) (standing_among row.0 (take i rs))) (nat_list_eq_equiv.symm row.0 r.0 ∙ later_differs r.0 rs i row h.0 (omega arith) at)
    ∙ unlike_earlier rs i row h.1 (omega arith) at

differs_from_fewer : (code : List ℕ) (rows : List RollEntry) (i : ℕ) → AllByRecursion (λ y. same_code code y ≡ false) (keys_of rows) → AllByRecursion (λ y. same_code code y ≡ false) (keys_of (remove rows i))
differs_from_fewer code [] zero h = tt
differs_from_fewer code [] (suc i) h = tt
differs_from_fewer code (r ∷ rs) zero h = h.1
differs_from_fewer code (r ∷ rs) (suc i) h = (h.0, differs_from_fewer code rs i h.1)

-- one code fewer is the same as another no more than before
pub distinct_without : (rows : List RollEntry) (i : ℕ) → IsDistinct same_code (keys_of rows) → IsDistinct same_code (keys_of (remove rows i))
unfolding IsDistinct
distinct_without [] zero h = tt
distinct_without [] (suc i) h = tt
distinct_without (r ∷ rs) zero h = h.1
distinct_without (r ∷ rs) (suc i) h = (differs_from_fewer r.0 rs i h.0, distinct_without rs i h.1)

set_next : (rows : List RollEntry) (i : ℕ) (row : RollEntry) → i < length rows → take (suc i) (slice_set rows i row) ≡ take i rows ++ row ∷ []
set_next [] i row within = absurd (omega arith)
set_next (r ∷ rs) zero row within = refl
set_next (r ∷ rs) (suc i) row within = ap (λ (l : List RollEntry). r ∷ l) (set_next rs i row (omega arith))

pub take_next : {A : Type 0} (xs : List A) (i : ℕ) (x : A) → i < length xs → x ≡ get_or xs i x → take (suc i) xs ≡ take i xs ++ x ∷ []
take_next [] i x within at = absurd (omega arith)
take_next {A} (y ∷ ys) zero x within at = ap (λ (e : A). e ∷ []) (sym at)
take_next {A} (y ∷ ys) (suc i) x within at = ap (λ (l : List A). y ∷ l) (take_next ys i x (omega arith) at)

pub length_without : (rows : List RollEntry) (i : ℕ) → i < length rows → length (remove rows i) + 1 ≡ length rows
length_without [] i h = absurd (omega arith)
length_without (r ∷ rs) zero h = omega arith
length_without (r ∷ rs) (suc i) h = omega (arith, length_without rs i (omega arith))

-- the row at a place, once the one at an index is gone
pub at_place : (rows : List RollEntry) (index place : ℕ) (row : RollEntry) → index < length rows → suc place < length rows
    → ((place < index) → row ≡ get_or rows place row) → ((index ≤ place) → row ≡ get_or rows (suc place) row) → row ≡ get_or (remove rows index) place row
at_place [] index place row within short below above = absurd (omega arith)
at_place (r ∷ rs) zero place row within short below above = above (omega arith)
at_place (r ∷ rs) (suc index) zero row within short below above = below (omega arith)
at_place (r ∷ rs) (suc index) (suc place) row within short below above =
    at_place rs index place row (omega arith) (omega arith) (λ h. below (omega (arith, h))) (λ h. above (omega (arith, h)))

-- one more row is written
pub next_other : (rows others : List RollEntry) (place : ℕ) (row : RollEntry) → place < length rows → place < length others → row ≡ get_or others place row
    → take place rows ≡ take place others → take (suc place) (slice_set rows place row) ≡ take (suc place) others
next_other rows others place row within short at before =
    set_next rows place row within ∙ ap (λ (l : List RollEntry). l ++ row ∷ []) before ∙ sym (take_next others place row short at)

pub row_at : (rows : List RollEntry) (i : ℕ) (row : RollEntry) → slice_get rows i ≡ Some row → row ≡ get_or rows i row
row_at [] i row h = cc
row_at (r ∷ rs) zero row h = cc
row_at (r ∷ rs) (suc i) row h = row_at rs i row h

pub length_set : (rows : List RollEntry) (i : ℕ) (row : RollEntry) → length (slice_set rows i row) ≡ length rows
length_set [] i row = refl
length_set (r ∷ rs) zero row = refl
length_set (r ∷ rs) (suc i) row = ap suc (length_set rs i row)
