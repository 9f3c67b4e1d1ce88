-- The chairs of a half, weight by weight, and what a rebuild asks of them.
use Rattle.std.proofs.Common.{◌≡◌, ℕ, ◌+◌, ◌-◌, ◌*◌, ◌%◌, ◌^◌, ◌<◌, ◌≤◌, List, [], ◌∷◌, ◌++◌, map, length, take, get_or, arith, refl, sym, ap, ◌∙◌, eqb, subst, replicate, inl, inr, ◌≢◌}
use Rattle.std.specs.List.{sum_by, enumerate_from, All, IsDistinct}
use Rattle.std.proofs.Math.Nat.{pow-le-pow_right}
use Rattle.std.proofs.lemmas.Nat.{one_shl}
use Rattle.std.proofs.lemmas.List.{get_or-replicate, take_more, length-take, length-take-le, length-map, length-drop, get_or_append_left}
use Rattle.std.proofs.Math.Seq.{get_or-append_seam}
use Rattle.std.proofs.lemmas.List.FromFn.{length-enumerate_from}
use Rattle.std.proofs.lemmas.Bool.{cases_eq}
use Rattle.std.proofs.lemmas.List.Elements.{All-weaker}
use Rattle.std.proofs.lemmas.List.Sums.{sum_by-take-drop}
use Rattle.half_sums.proofs.Face.{sum_by-map}
use Rattle.council_core.specs.Sheets.{Chair, open_from, open_chairs, weight_of, IsSheet, cast_of}
use Rattle.council_core.proofs.Face.{chair_of, chair_of-open, numbers_distinct, numbers_within, open_from-cons, weight_of-open}
use Rattle.power_index.proofs.Bounds.{few_chairs}
use Rattle.power_index.specs.Halves.{weights, left_count, left_weights, right_weights}
use Rattle.half_sums.specs.declared.groups.TheConstants.{SLOTS}
use Rattle.half_sums.specs.declared.lists.TheConstants.{ROOM}
use Rattle.council_core.specs.declared.limits.TheConstants.{CHAIRS, SHEET_WORDS}

-- chairs at slots are the open chairs of words of one more
abbrev more : List ℕ → List ℕ
more ws = map (λ w. w + 1) ws

slotted_is : (c : ℕ) (ws : List ℕ) → enumerate_from c ws ≡ open_from c (more ws)
slotted_is c [] = refl
slotted_is c (w ∷ ws) =
    let back : w + 1 - 1 ≡ w = omega arith in
    let one : chair_of c (w + 1) ≡ (c, w) ∷ [] = chair_of-open c (w + 1) (λ e. absurd (omega arith)) ∙ ap (λ v. (c, v) ∷ []) back in
    sym (open_from-cons c (w + 1) (more ws) ∙ ap (λ l. l ++ open_from (c + 1) (more ws)) one ∙ ap (λ l. (c, w) ∷ l) (sym (slotted_is (c + 1) ws)))

pub slotted_slots : (ws : List ℕ) → length ws ≤ SLOTS → All (λ chair. chair.0 < SLOTS) (enumerate_from 0 ws)
slotted_slots ws bound =
    rw (slotted_is 0 ws)
    (All-weaker (λ (ch : Chair). (0 ≤ ch.0) × (ch.0 < 0 + length (more ws))) (λ ch. ch.0 < SLOTS)
    (λ ch h. omega (arith, h.1, length-map ws (λ w. w + 1))) (open_from 0 (more ws)) (numbers_within 0 (more ws)))

pub slotted_distinct : (c : ℕ) (ws : List ℕ) → IsDistinct eqb (map (λ ch. ch.0) (enumerate_from c ws))
slotted_distinct c ws = rw (slotted_is c ws) (numbers_distinct c (more ws))

pub slotted_weights : (c : ℕ) (ws : List ℕ) → map (λ ch. ch.1) (enumerate_from c ws) ≡ ws
slotted_weights c [] = refl
slotted_weights c (w ∷ ws) = ap (λ l. w ∷ l) (slotted_weights (c + 1) ws)

-- the sets of chairs at slots from 0 on take the first part of a half's room
pub sets_fit : (ws room : List ℕ) → length ws ≤ SLOTS → length room ≡ ROOM → length (take (1 * 2 ^ length ws % 2 ^ 64) room) ≡ 2 ^ length (enumerate_from 0 ws)
sets_fit ws room few all =
    let count : 1 * 2 ^ length ws % 2 ^ 64 ≡ 2 ^ length ws = one_shl (length ws) 64 (omega (arith, few)) in
    let fits : 2 ^ length ws ≤ 2 ^ SLOTS = pow-le-pow_right (omega arith) few in
    rw (count, length-enumerate_from 0 ws) (length-take-le (2 ^ length ws) room (omega (arith, fits, all)))

pub slotted_sum : (c : ℕ) (ws : List ℕ) → weight_of (enumerate_from c ws) ≡ sum_by (λ n. n) ws
slotted_sum c ws = sym (sum_by-map (λ n. n) (λ (ch : Chair). ch.1) (enumerate_from c ws)) ∙ ap (sum_by (λ n. n)) (slotted_weights c ws)

pub slotted-append : (c : ℕ) (xs ys : List ℕ) → enumerate_from c (xs ++ ys) ≡ enumerate_from c xs ++ enumerate_from (c + length xs) ys
slotted-append c [] ys = ap (λ n. enumerate_from n ys) (omega arith)
slotted-append c (x ∷ xs) ys =
    let turn : c + 1 + length xs ≡ c + length (x ∷ xs) = omega arith in
    ap (λ l. (c, x) ∷ l) (slotted-append (c + 1) xs ys ∙ ap (λ n. enumerate_from (c + 1) xs ++ enumerate_from n ys) turn)

pub slotted_more : (ws : List ℕ) (i : ℕ) → i < length ws → enumerate_from 0 (take (i + 1) ws) ≡ enumerate_from 0 (take i ws) ++ (i, get_or ws i 0) ∷ []
slotted_more ws i h =
    let at : 0 + length (take i ws) ≡ i = omega (arith, length-take i ws) in
    ap (enumerate_from 0) (take_more ws i 0 h)
    ∙ slotted-append 0 (take i ws) (get_or ws i 0 ∷ [])
    ∙ ap (λ n. enumerate_from 0 (take i ws) ++ enumerate_from n (get_or ws i 0 ∷ [])) at

-- the weights add up to the votes cast
pub weights_sum : (words : List ℕ) → sum_by (λ n. n) (weights words) ≡ cast_of words
weights_sum words = sum_by-map (λ n. n) (λ (ch : Chair). ch.1) (open_chairs words) ∙ weight_of-open 1 (take CHAIRS words)

pub left_small : (words : List ℕ) → IsSheet words → sum_by (λ n. n) (left_weights words) ≤ 2 ^ 48
left_small words lawful =
    omega (arith, sum_by-take-drop (λ n. n) (weights words) (left_count (length (open_chairs words))), weights_sum words, lawful.cast, lawful.total)

pub right_small : (words : List ℕ) → IsSheet words → sum_by (λ n. n) (right_weights words) ≤ 2 ^ 48
right_small words lawful =
    omega (arith, sum_by-take-drop (λ n. n) (weights words) (left_count (length (open_chairs words))), weights_sum words, lawful.cast, lawful.total)

-- a list that agrees with f at each place, with one more
pub agrees_with_more : (xs : List ℕ) (v : ℕ) (f : ℕ → ℕ) → ((p : ℕ) → p < length xs → get_or xs p 0 ≡ f p) → v ≡ f (length xs) → (p : ℕ) → p < length xs + 1 → get_or (xs ++ v ∷ []) p 0 ≡ f p
agrees_with_more xs v f done same p below = elim (cases_eq p (length xs)) as (λ _. get_or (xs ++ v ∷ []) p 0 ≡ f p) [
  | inl e ↦ ap (λ k. get_or (xs ++ v ∷ []) k 0) e ∙ get_or-append_seam xs v [] 0 ∙ same ∙ ap f (sym e)
  | inr n ↦ (let apart : p ≢ length xs = n in get_or_append_left xs (v ∷ []) 0 p (omega arith) ∙ done p (omega arith))
]

pub left_few : (words : List ℕ) → length (left_weights words) ≤ SLOTS
left_few words =
    let h : ℕ = left_count (length (open_chairs words)) in
    omega (arith, length-take h (weights words), length-map (open_chairs words) (λ ch. ch.1), few_chairs words)

pub right_few : (words : List ℕ) → length (right_weights words) ≤ SLOTS
right_few words =
    let h : ℕ = left_count (length (open_chairs words)) in
    omega (arith, length-drop h (weights words), length-map (open_chairs words) (λ ch. ch.1), few_chairs words)

pub blank_lawful : IsSheet (replicate SHEET_WORDS 0)
blank_lawful = record {
  chairs = λ k h. (let z : get_or (replicate SHEET_WORDS 0) k 0 ≡ 0 = get_or-replicate SHEET_WORDS k 0 0 (omega arith) in subst (λ (n : ℕ). n ≤ 2 ^ 48 + 1) (sym z) (omega arith));
  cast = omega arith;
  total = omega arith;
  front = omega arith;
}
