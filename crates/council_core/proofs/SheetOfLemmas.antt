-- The sheet of a roll, from what a register keeps.
use Rattle.std.proofs.Common.{◌≡◌, ℕ, zero, suc, ◌+◌, ◌-◌, ◌<◌, ◌≤◌, ◌==◌, true, false, cond, List, [], ◌∷◌, ◌++◌, length, map, sum_by, Option, None, Some, ◌∙◌, ap, refl, arith, slice_index, get_or}
use borrow.Author.Tests.{eqb-true}
use Rattle.std.specs.List.{range_with_len}
use Rattle.std.proofs.lemmas.List.{get_or_append_left}
use Rattle.std.proofs.lemmas.List.FromFn.{get_or-map-range_with_len}
use Rattle.std.proofs.lemmas.Bool.Decides.{nat_tests}
use Rattle.std.proofs.lemmas.List.Sums.{sum_by-cons}
use Rattle.council_core.specs.Rolls.{Roll, RollEntry, same_chair, effective_votes, votes_in, weight, total, is_open, chair_word, chair_numbers, sheet_words}
use Rattle.council_core.specs.Sheets.{weight_in}

different : (d a : ℕ) → d < a → (d == a) ≡ false
different d a h = grind (arith, nat_tests, h)

at_most : (d a : ℕ) → d ≡ a → d < a + 1
at_most d a h = omega arith

-- the votes of one member are counted in at most one chair
none_below : (v d a n : ℕ) → d < a → sum_by (λ c. cond (d == c) v 0) (range_with_len a n) ≡ 0
none_below v d a zero h = refl
none_below v d a (suc n) h =
    let off : (d == a) ≡ false = different d a h in
    let here : cond (d == a) v 0 ≡ 0 = ap (λ b. cond b v 0) off in
    omega (arith, here, none_below v d (a + 1) n (omega arith), sum_by-cons (λ (c : ℕ). cond (d == c) v 0) a (range_with_len (a + 1) n))

seat_sum : (v : ℕ) (o : Option ℕ) (a n : ℕ) → sum_by (λ c. cond (same_chair o (Some c)) v 0) (range_with_len a n) ≤ v
seat_sum v None a zero = omega arith
seat_sum v None a (suc n) = omega (arith, seat_sum v None (a + 1) n, sum_by-cons (λ (c : ℕ). cond (same_chair None (Some c)) v 0) a (range_with_len (a + 1) n))
seat_sum v (Some d) a zero = omega arith
seat_sum v (Some d) a (suc n) =
    let split = sum_by-cons (λ (c : ℕ). cond (d == c) v 0) a (range_with_len (a + 1) n) in
    elim (d == a) as (λ b. (d == a) ≡ b → sum_by (λ c. cond (same_chair (Some d) (Some c)) v 0) (range_with_len a (suc n)) ≤ v) [
      | true ↦ λ e.
          let here : cond (d == a) v 0 ≡ v = ap (λ b. cond b v 0) e in
          omega (arith, split, here, none_below v d (a + 1) n (at_most d a (eqb-true d a e)))
      | false ↦ λ e.
          let here : cond (d == a) v 0 ≡ 0 = ap (λ b. cond b v 0) e in
          omega (arith, split, here, seat_sum v (Some d) (a + 1) n)
    ] refl

no_sum : (a n : ℕ) → sum_by (λ (c : ℕ). 0) (range_with_len a n) ≡ 0
no_sum a zero = refl
no_sum a (suc n) = omega (arith, no_sum (a + 1) n, sum_by-cons (λ (c : ℕ). 0) a (range_with_len (a + 1) n))

sum_of_sums : (f g : ℕ → ℕ) (ns : List ℕ) → sum_by (λ c. f c + g c) ns ≡ sum_by f ns + sum_by g ns
sum_of_sums f g [] = refl
sum_of_sums f g (c ∷ ns) = omega (arith, sum_of_sums f g ns, sum_by-cons (λ (c : ℕ). f c + g c) c ns, sum_by-cons f c ns, sum_by-cons g c ns)

same_sums : (f g : ℕ → ℕ) (ns : List ℕ) → ((c : ℕ) → f c ≡ g c) → sum_by f ns ≡ sum_by g ns
same_sums f g [] h = refl
same_sums f g (c ∷ ns) h = omega (arith, h c, same_sums f g ns h, sum_by-cons f c ns, sum_by-cons g c ns)

-- all chairs together weigh no more than all members
weights_within : (es : List RollEntry) (a n : ℕ) → sum_by (λ c. sum_by (λ m. votes_in c m.1) es) (range_with_len a n) ≤ sum_by (λ m. effective_votes m.1) es
weights_within [] a n = omega (arith, no_sum a n)
weights_within (e ∷ es) a n =
    let ns = range_with_len a n in
    let split = same_sums (λ c. sum_by (λ m. votes_in c m.1) (e ∷ es)) (λ c. votes_in c e.1 + sum_by (λ m. votes_in c m.1) es) ns (λ c. sum_by-cons (λ (m : RollEntry). votes_in c m.1) e es) in
    omega (arith, split, sum_of_sums (λ c. votes_in c e.1) (λ c. sum_by (λ m. votes_in c m.1) es) ns, seat_sum (effective_votes e.1) e.1.chair a n, weights_within es a n, sum_by-cons (λ (m : RollEntry). effective_votes m.1) e es)

word_weight : (roll : Roll) (c : ℕ) → chair_word roll c - 1 ≤ weight roll c
word_weight roll c = elim (is_open roll c) as (λ b. cond b (weight roll c + 1) 0 - 1 ≤ weight roll c) [ true ↦ omega arith | false ↦ omega arith ]

sum_of_words : (roll : Roll) (ns : List ℕ) → sum_by weight_in (map (chair_word roll) ns) ≤ sum_by (weight roll) ns
sum_of_words roll [] = omega arith
sum_of_words roll (c ∷ ns) = omega (arith, word_weight roll c, sum_of_words roll ns, sum_by-cons weight_in (chair_word roll c) (map (chair_word roll) ns), sum_by-cons (weight roll) c ns)

pub cast_within : (roll : Roll) → sum_by weight_in (map (chair_word roll) chair_numbers) ≤ total roll
cast_within roll = omega (arith, sum_of_words roll chair_numbers, weights_within roll.members 1 32)

-- the words that are kept are those of the chairs from a on
kept_words : (roll : Roll) (words : List ℕ) (a : ℕ) → ((k : ℕ) → k < length words → get_or words k 0 ≡ chair_word roll (k + a)) → words ≡ map (chair_word roll) (range_with_len a (length words))
kept_words roll [] a each = refl
kept_words roll (w ∷ words) a each =
    let head : w ≡ chair_word roll a = each 0 (omega arith) ∙ ap (chair_word roll) (omega arith) in
    let tail = kept_words roll words (a + 1) (λ k h. each (suc k) (omega (arith, h)) ∙ ap (chair_word roll) (omega arith)) in
    ap (λ (x : ℕ). x ∷ words) head ∙ ap (λ (l : List ℕ). chair_word roll a ∷ l) tail

pub same_words : (roll : Roll) (words : List ℕ) → length words ≡ 32 → ((k : ℕ) → k < 32 → slice_index words k ≡ chair_word roll (k + 1)) → words ≡ map (chair_word roll) chair_numbers
same_words roll words long each =
    kept_words roll words 1 (λ k h. each k (omega (arith, h, long))) ∙ ap (λ n. map (chair_word roll) (range_with_len 1 n)) long

pub sheet_is : (roll : Roll) (words : List ℕ) (t f n : ℕ) → length words ≡ 32 → ((k : ℕ) → k < 32 → slice_index words k ≡ chair_word roll (k + 1)) → t ≡ total roll → f ≡ n
    → words ++ t ∷ f ∷ [] ≡ sheet_words roll n
sheet_is roll words t f n long each e g =
    ap (λ (l : List ℕ). l ++ t ∷ f ∷ []) (same_words roll words long each) ∙ ap (λ (x : ℕ). map (chair_word roll) chair_numbers ++ x ∷ f ∷ []) e ∙ ap (λ (x : ℕ). map (chair_word roll) chair_numbers ++ total roll ∷ x ∷ []) g

-- a sheet's number at the index of a chair
pub word_at : (roll : Roll) (front k : ℕ) → k < 32 → slice_index (sheet_words roll front) k ≡ chair_word roll (k + 1)
word_at roll front k h =
    get_or_append_left (map (chair_word roll) chair_numbers) (total roll ∷ front ∷ []) 0 k h
    ∙ get_or-map-range_with_len (chair_word roll) 1 32 k (k + 1) 0 h (omega arith)
