-- Which sets of chairs have a mask: each mask over the slots is that of exactly one.
use Rattle.std.proofs.Common.{◌≡◌, ◌≢◌, ℕ, ◌+◌, ◌*◌, ◌^◌, ◌<◌, ◌≤◌, Bool, true, false, cond, List, [], ◌∷◌, length, map, arith, refl, sym, ap, ◌∙◌, eqb, inl, inr, max, zero, suc}
use Rattle.std.specs.Prelude.{◌||◌, bit_and, bit_or, bit_xor}
use Rattle.std.specs.List.{All, AllByRecursion, IsDistinct}
use Rattle.std.specs.Int.{bit_at}
use Rattle.std.proofs.lemmas.Bool.{eq-eqb, ne_eqb, cases_eq}
use Rattle.std.proofs.lemmas.Nat.Bits.{and_pow, bit_at_or, bit_at_xor, bit_at-pow_same, bit_at-pow_other, bit_at-zero, bit_at-lt, same_from_bits}
use Rattle.std.proofs.lemmas.List.Elements.{All-map, All-weaker, All-cons, All-nil, All-append}
use Rattle.std.proofs.lemmas.List.Sorted.{sum_by-IsPermutation, All-permutation}
use Rattle.std.proofs.lemmas.Map.Keys.{IsDistinct-head, IsDistinct-tail}
use Rattle.council_core.specs.Sheets.{Chair}
use Rattle.council_core.specs.Coalitions.{subsets, has_chair}
use Rattle.half_sums.specs.declared.entry.Entry.{Entry}
use Rattle.half_sums.specs.Masks.{mask_of, IsOver}
use Rattle.half_sums.specs.Entries.{entry_of, AreSubsets}
use Rattle.half_sums.specs.Groups.{size_of}
use Rattle.half_sums.specs.Laws.{occurrences, MaskLaw}
use Rattle.half_sums.proofs.GroupFacts.{no_ones, size_more}
use Rattle.half_sums.proofs.SetSums.{at_most_one, sum_by-map, sum_agree, sum_agree_on, sum_zero, over, over-cons, subsets_avoid}

top_bit : (m p : ℕ) → m < 2 → p ≡ 1 → eqb (max m p) 1 ≡ true
top_bit m p small one = eq-eqb (max m p) 1 (omega arith)

-- a mask has the bits of its set's slots
pub mask_has : (k : ℕ) (s : List Chair) → eqb (bit_at (mask_of s) k) 1 ≡ has_chair k s
mask_has k [] = ap (λ n. eqb n 1) (bit_at-zero k)
mask_has k (chair ∷ s) =
    ap (λ n. eqb n 1) (bit_at_or (mask_of s) (2 ^ chair.0) k) ∙ elim (cases_eq chair.0 k) as (λ _. eqb (max (bit_at (mask_of s) k) (bit_at (2 ^ chair.0) k)) 1 ≡ (eqb chair.0 k || has_chair k s)) [
      | inl same ↦ (let one : bit_at (2 ^ chair.0) k ≡ 1 = ap (λ j. bit_at (2 ^ j) k) same ∙ bit_at-pow_same k in
          top_bit _ _ (bit_at-lt (mask_of s) k) one ∙ sym (ap (λ b. b || has_chair k s) (eq-eqb chair.0 k same)))
      | inr other ↦ (let none : bit_at (2 ^ chair.0) k ≡ 0 = bit_at-pow_other chair.0 k (λ e. other (sym e)) in
          let low : max (bit_at (mask_of s) k) (bit_at (2 ^ chair.0) k) ≡ bit_at (mask_of s) k = omega arith in
          ap (λ n. eqb n 1) low ∙ mask_has k s ∙ sym (ap (λ b. b || has_chair k s) (ne_eqb chair.0 k other)))
    ]

-- how many sets of the chairs have a mask
abbrev hits : ℕ → List Chair → ℕ
hits mask chairs = over (λ s. cond (eqb (mask_of s) mask) 1 0) chairs

times_hits : (mask : ℕ) (chairs : List Chair) (entries : List Entry) → AreSubsets chairs entries → occurrences mask entries ≡ hits mask chairs
times_hits mask chairs entries are =
    let f : Entry → ℕ = λ e. cond (eqb e.mask mask) 1 0 in
    sum_by-IsPermutation f _ _ are.each_once ∙ sum_by-map f entry_of (subsets chairs)

-- a mask without one of its slots
abbrev without : ℕ → ℕ → ℕ
without slot mask = bit_xor mask (2 ^ slot)

without_same : (slot mask : ℕ) → bit_at mask slot ≡ 1 → bit_at (without slot mask) slot ≡ 0
without_same slot mask has = omega (arith, bit_at_xor mask (2 ^ slot) slot, bit_at-pow_same slot, has)

without_other : (slot mask k : ℕ) → k ≢ slot → bit_at (without slot mask) k ≡ bit_at mask k
without_other slot mask k other = omega (arith, bit_at_xor mask (2 ^ slot) k, bit_at-pow_other slot k other, bit_at-lt mask k)

with_same : (slot m : ℕ) → bit_at (bit_or m (2 ^ slot)) slot ≡ 1
with_same slot m = omega (arith, bit_at_or m (2 ^ slot) slot, bit_at-pow_same slot, bit_at-lt m slot)

with_other : (slot m k : ℕ) → k ≢ slot → bit_at (bit_or m (2 ^ slot)) k ≡ bit_at m k
with_other slot m k other = omega (arith, bit_at_or m (2 ^ slot) k, bit_at-pow_other slot k other)

-- the slot joins a mask that lacks it
joins : (slot m mask : ℕ) → bit_at m slot ≡ 0 → bit_at mask slot ≡ 1 → m ≡ without slot mask → bit_or m (2 ^ slot) ≡ mask
joins slot m mask lacks has same = same_from_bits _ _ (λ k. elim (cases_eq k slot) as (λ _. bit_at (bit_or m (2 ^ slot)) k ≡ bit_at mask k) [
  | inl at ↦ rw at (with_same slot m ∙ sym has)
  | inr other ↦ with_other slot m k other ∙ ap (λ n. bit_at n k) same ∙ without_other slot mask k other
])

leaves : (slot m mask : ℕ) → bit_at m slot ≡ 0 → bit_at mask slot ≡ 1 → bit_or m (2 ^ slot) ≡ mask → m ≡ without slot mask
leaves slot m mask lacks has same = same_from_bits _ _ (λ k. elim (cases_eq k slot) as (λ _. bit_at m k ≡ bit_at (without slot mask) k) [
  | inl at ↦ rw at (lacks ∙ sym (without_same slot mask has))
  | inr other ↦ sym (with_other slot m k other) ∙ ap (λ n. bit_at n k) same ∙ sym (without_other slot mask k other)
])

same_test : (slot m mask : ℕ) → bit_at m slot ≡ 0 → bit_at mask slot ≡ 1 → eqb (bit_or m (2 ^ slot)) mask ≡ eqb m (without slot mask)
same_test slot m mask lacks has = elim (cases_eq m (without slot mask)) as (λ _. eqb (bit_or m (2 ^ slot)) mask ≡ eqb m (without slot mask)) [
  | inl same ↦ eq-eqb _ _ (joins slot m mask lacks has same) ∙ sym (eq-eqb _ _ same)
  | inr other ↦ ne_eqb _ _ (λ e. other (leaves slot m mask lacks has e)) ∙ sym (ne_eqb _ _ other)
]

bit_zero : (m : ℕ) → m < 2 → eqb m 1 ≡ false → m ≡ 0
bit_zero zero h e = refl
bit_zero (suc zero) h e = absurd (cc)
bit_zero (suc (suc m)) h e = absurd (omega arith)

lacks_slot : (slot : ℕ) (s : List Chair) → has_chair slot s ≡ false → bit_at (mask_of s) slot ≡ 0
lacks_slot slot s h = bit_zero _ (bit_at-lt (mask_of s) slot) (mask_has slot s ∙ h)

differ : (slot m mask : ℕ) → bit_at m slot ≢ bit_at mask slot → eqb m mask ≡ false
differ slot m mask other = ne_eqb m mask (λ e. other (ap (λ n. bit_at n slot) e))

-- a mask without the first chair's slot is that of sets without the chair
hits-without : (mask : ℕ) (chair : Chair) (chairs : List Chair) → bit_at mask chair.0 ≡ 0 → hits mask (chair ∷ chairs) ≡ hits mask chairs
hits-without mask chair chairs lacks =
    let f : List Chair → ℕ = λ s. cond (eqb (mask_of s) mask) 1 0 in
    let none : over (λ s. f (chair ∷ s)) chairs ≡ 0 =
    sum_agree (λ s. f (chair ∷ s)) (λ s. 0) (subsets chairs) (λ s. ap (λ b. cond b 1 0) (differ chair.0 (mask_of (chair ∷ s)) mask (λ e. absurd (omega (arith, e, lacks, with_same chair.0 (mask_of s)))))) ∙ sum_zero (subsets chairs) in
    omega (arith, over-cons f chair chairs, none)

-- a mask with it is that of sets with the chair
hits-with : (mask : ℕ) (chair : Chair) (chairs : List Chair) → has_chair chair.0 chairs ≡ false → bit_at mask chair.0 ≡ 1 → hits mask (chair ∷ chairs) ≡ hits (without chair.0 mask) chairs
hits-with mask chair chairs absent has =
    let f : List Chair → ℕ = λ s. cond (eqb (mask_of s) mask) 1 0 in
    let g : List Chair → ℕ = λ s. cond (eqb (mask_of s) (without chair.0 mask)) 1 0 in
    let A : List Chair → Type 0 = λ s. has_chair chair.0 s ≡ false in
    let free : All A (subsets chairs) = subsets_avoid (λ (c : Chair). eqb c.0 chair.0) chairs absent in
    let none : over f chairs ≡ 0 =
    sum_agree_on f (λ s. 0) (subsets chairs) (All-weaker A (λ s. f s ≡ 0) (λ s h. ap (λ b. cond b 1 0) (differ chair.0 (mask_of s) mask (λ e. absurd (omega (arith, e, has, lacks_slot chair.0 s h))))) (subsets chairs) free) ∙ sum_zero (subsets chairs) in
    let rest : over (λ s. f (chair ∷ s)) chairs ≡ over g chairs =
    sum_agree_on (λ s. f (chair ∷ s)) g (subsets chairs) (All-weaker A (λ s. f (chair ∷ s) ≡ g s) (λ s h. ap (λ b. cond b 1 0) (same_test chair.0 (mask_of s) mask (lacks_slot chair.0 s h) has)) (subsets chairs) free) in
    omega (arith, over-cons f chair chairs, none, rest)

apart : (slot : ℕ) (chairs : List Chair) → AllByRecursion (λ y. eqb slot y ≡ false) (map (λ c. c.0) chairs) → has_chair slot chairs ≡ false
apart slot [] h = refl
apart slot (chair ∷ chairs) h =
    let other : eqb chair.0 slot ≡ false = ne_eqb chair.0 slot (λ e. absurd (let bad : true ≡ false = sym (eq-eqb slot chair.0 (sym e)) ∙ h.0 in cc)) in
    ap (λ b. b || has_chair slot chairs) other ∙ apart slot chairs h.1

-- the first chair's slot is not one of the others
pub first_apart : (chair : Chair) (chairs : List Chair) → IsDistinct eqb (map (λ c. c.0) (chair ∷ chairs)) → has_chair chair.0 chairs ≡ false
first_apart chair chairs distinct = apart chair.0 chairs (IsDistinct-head eqb chair.0 (map (λ c. c.0) chairs) distinct)

bit_cases : (n : ℕ) → n < 2 → (P : Type 0) → (n ≡ 0 → P) → (n ≡ 1 → P) → P
bit_cases zero h P none one = none refl
bit_cases (suc zero) h P none one = one refl
bit_cases (suc (suc n)) h P none one = absurd (omega arith)

hits-le : (mask : ℕ) (chairs : List Chair) → IsDistinct eqb (map (λ c. c.0) chairs) → hits mask chairs ≤ 1
hits-le mask [] distinct = omega (arith, at_most_one (eqb 0 mask))
hits-le mask (chair ∷ chairs) distinct =
    let tail : IsDistinct eqb (map (λ (c : Chair). c.0) chairs) = IsDistinct-tail eqb chair.0 (map (λ c. c.0) chairs) distinct in
    bit_cases (bit_at mask chair.0) (bit_at-lt mask chair.0) (hits mask (chair ∷ chairs) ≤ 1)
    (λ lacks. omega (arith, hits-without mask chair chairs lacks, hits-le mask chairs tail))
    (λ has. omega (arith, hits-with mask chair chairs (first_apart chair chairs distinct) has, hits-le (without chair.0 mask) chairs tail))

no_slots : (mask : ℕ) → IsOver [] mask → mask ≡ 0
no_slots mask over_none = same_from_bits mask 0 (λ k. bit_cases (bit_at mask k) (bit_at-lt mask k) (bit_at mask k ≡ bit_at 0 k)
    (λ none. none ∙ sym (bit_at-zero k))
    (λ one. absurd (let bad : false ≡ true = over_none k one in cc)))

-- a slot of a mask that is not the first chair's is one of the others
pub of_others : (slot : ℕ) (chair : Chair) (chairs : List Chair) → chair.0 ≢ slot → has_chair slot (chair ∷ chairs) ≡ true → has_chair slot chairs ≡ true
of_others slot chair chairs other h = sym (ap (λ b. b || has_chair slot chairs) (ne_eqb chair.0 slot other)) ∙ h

hits-one : (mask : ℕ) (chairs : List Chair) → IsDistinct eqb (map (λ c. c.0) chairs) → IsOver chairs mask → hits mask chairs ≡ 1
hits-one mask [] distinct is_over =
    let one : ℕ = cond (eqb 0 mask) 1 0 in
    let is_one : one ≡ 1 = ap (λ b. cond b 1 0) (eq-eqb 0 mask (sym (no_slots mask is_over))) in
    omega (arith, is_one)
hits-one mask (chair ∷ chairs) distinct is_over =
    let tail : IsDistinct eqb (map (λ (c : Chair). c.0) chairs) = IsDistinct-tail eqb chair.0 (map (λ c. c.0) chairs) distinct in
    bit_cases (bit_at mask chair.0) (bit_at-lt mask chair.0) (hits mask (chair ∷ chairs) ≡ 1)
    (λ lacks.
    let others : IsOver chairs mask = λ slot one. of_others slot chair chairs (λ e. absurd (omega (arith, one, lacks, ap (λ k. bit_at mask k) e))) (is_over slot one) in
    hits-without mask chair chairs lacks ∙ hits-one mask chairs tail others)
    (λ has.
    let others : IsOver chairs (without chair.0 mask) = λ slot one.
    let away : slot ≢ chair.0 = λ e. absurd (omega (arith, one, without_same chair.0 mask has, ap (λ k. bit_at (without chair.0 mask) k) e)) in
    of_others slot chair chairs (λ e. away (sym e)) (is_over slot (sym (without_other chair.0 mask slot away) ∙ one)) in
    hits-with mask chair chairs (first_apart chair chairs distinct) has ∙ hits-one (without chair.0 mask) chairs tail others)

-- a set's mask is over the slots of the chairs whose subset it is
over_part : (slot : ℕ) (chairs : List Chair) → All (λ s. has_chair slot s ≡ true → has_chair slot chairs ≡ true) (subsets chairs)
over_part slot chairs =
    part (has_chair slot chairs) refl
  where
    part : (b : Bool) → has_chair slot chairs ≡ b → All (λ s. has_chair slot s ≡ true → has_chair slot chairs ≡ true) (subsets chairs)
    part true there = λ k d h t. there
    part false absent = All-weaker (λ (s : List Chair). has_chair slot s ≡ false) (λ s. has_chair slot s ≡ true → has_chair slot chairs ≡ true) (λ s none t. absurd (cc)) (subsets chairs) (subsets_avoid (λ (c : Chair). eqb c.0 slot) chairs absent)

sets_over : (chairs : List Chair) → All (λ s. IsOver chairs (mask_of s)) (subsets chairs)
sets_over chairs k d h slot one = over_part slot chairs k d h (sym (mask_has slot _) ∙ eq-eqb _ 1 one)

-- no set of the others has the slot of the first chair
pub slot_free : (chair : Chair) (chairs : List Chair) (entries : List Entry) → IsDistinct eqb (map (λ c. c.0) (chair ∷ chairs)) → AreSubsets chairs entries → All (λ e. bit_at e.mask chair.0 ≡ 0) entries
slot_free chair chairs entries distinct are =
    let P : Entry → Type 0 = λ e. bit_at e.mask chair.0 ≡ 0 in
    let A : List Chair → Type 0 = λ s. has_chair chair.0 s ≡ false in
    let free : All A (subsets chairs) = subsets_avoid (λ (c : Chair). eqb c.0 chair.0) chairs (first_apart chair chairs distinct) in
    All-permutation P _ _ are.each_once (All-map P entry_of (subsets chairs) (All-weaker A (λ s. P (entry_of s)) (λ s h. lacks_slot chair.0 s h) (subsets chairs) free))

-- masks without a slot have no bit in common with it
pub bit_free : (slot : ℕ) (entries : List Entry) → All (λ e. bit_at e.mask slot ≡ 0) entries → All (λ e. bit_and e.mask (2 ^ slot) ≡ 0) entries
bit_free slot entries free =
    let none : 0 * 2 ^ slot ≡ 0 = omega arith in
    All-weaker (λ (e : Entry). bit_at e.mask slot ≡ 0) (λ e. bit_and e.mask (2 ^ slot) ≡ 0) (λ e h. and_pow e.mask slot ∙ ap (λ b. b * 2 ^ slot) h ∙ none) entries free

-- a set has as many chairs as its mask has bits
pub sets_sized : (chairs : List Chair) → IsDistinct eqb (map (λ c. c.0) chairs) → All (λ s. size_of (entry_of s) ≡ length s) (subsets chairs)
sets_sized [] distinct = All-cons (λ (s : List Chair). size_of (entry_of s) ≡ length s) [] [] no_ones (All-nil (λ (s : List Chair). size_of (entry_of s) ≡ length s))
sets_sized (chair ∷ chairs) distinct =
    let P : List Chair → Type 0 = λ s. size_of (entry_of s) ≡ length s in
    let rest : All P (subsets chairs) = sets_sized chairs (IsDistinct-tail eqb chair.0 (map (λ c. c.0) chairs) distinct) in
    let free : All (λ s. has_chair chair.0 s ≡ false) (subsets chairs) = subsets_avoid (λ (c : Chair). eqb c.0 chair.0) chairs (first_apart chair chairs distinct) in
    All-append P (subsets chairs) _ rest
    (All-map P (λ s. chair ∷ s) (subsets chairs) (λ k d h. size_more chair.0 _ (lacks_slot chair.0 _ (free k d h)) ∙ ap (λ n. n + 1) (rest k d h) ∙ omega arith))

pub mask_law : MaskLaw
mask_law chairs entries distinct are =
    let P : Entry → Type 0 = λ e. IsOver chairs e.mask in
    record {
      never_twice = λ mask. omega (arith, times_hits mask chairs entries are, hits-le mask chairs distinct);
      once = λ mask is_over. times_hits mask chairs entries are ∙ hits-one mask chairs distinct is_over;
      no_other = All-permutation P _ _ are.each_once (All-map P entry_of (subsets chairs) (sets_over chairs));
    }
