-- A sheet's words: those of the chairs, and the two written after them.
use Rattle.std.proofs.Common.{◌≡◌, ℕ, zero, suc, ◌+◌, ◌<◌, ◌≤◌, List, [], ◌∷◌, ◌++◌, length, take, sym, ap, refl, arith, slice_set, subst, sum_by, ◌^◌, slice_index}
use Rattle.std.proofs.lemmas.Grind.{common_steps}
use Rattle.std.proofs.lemmas.List.{take_at, get_or_append_left}
use Rattle.council_core.specs.Sheets.{IsSheet, weight_in, cast_of, total_of, front_of}

-- the words, and the two written into the room after them
pub written_behind : (n : ℕ) (words : List ℕ) (t f : ℕ) → length words ≡ suc (suc n) → slice_set (slice_set words n t) (suc n) f ≡ take n words ++ t ∷ f ∷ []
written_behind zero (a ∷ b ∷ []) t f long = refl
written_behind zero [] t f long = absurd (omega (arith, long))
written_behind zero (a ∷ []) t f long = absurd (omega (arith, long))
written_behind zero (a ∷ b ∷ c ∷ rest) t f long = absurd (omega (arith, long))
written_behind (suc n) [] t f long = absurd (omega (arith, long))
written_behind (suc n) (w ∷ words) t f long = ap (λ (l : List ℕ). w ∷ l) (written_behind n words t f (omega (arith, long)))

-- what a sheet made of 32 words, a total and a front has
pub IsSheet-made : (words : List ℕ) (t f : ℕ) → length words ≡ 32 → ((k : ℕ) → k < 32 → slice_index words k ≤ 2 ^ 48 + 1) → sum_by weight_in words ≤ t → t ≤ 2 ^ 48 → f ≤ 1000000 → IsSheet (words ++ t ∷ f ∷ [])
IsSheet-made words t f long chairs cast total front =
    let at_total : total_of (words ++ t ∷ f ∷ []) ≡ t = grind (arith, common_steps, long) in
    let at_front : front_of (words ++ t ∷ f ∷ []) ≡ f = grind (arith, common_steps, long) in
    let first : cast_of (words ++ t ∷ f ∷ []) ≡ sum_by weight_in words = ap (sum_by weight_in) (take_at words (t ∷ f ∷ []) 32 long) in
    record {
      chairs = λ k h. let lt : k < length words = omega (arith, h, long) in subst (λ (x : ℕ). x ≤ 2 ^ 48 + 1) (sym (get_or_append_left words (t ∷ f ∷ []) 0 k lt)) (chairs k h);
      cast = omega (arith, first, at_total, cast);
      total = omega (arith, at_total, total);
      front = omega (arith, at_front, front);
    }
