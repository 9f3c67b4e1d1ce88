-- What one more chair does to the entries of a half, and how many and how large they are.
use Rattle.std.proofs.Common.{◌≡◌, ℕ, ◌+◌, ◌-◌, ◌*◌, ◌^◌, ◌/◌, ◌%◌, ◌<◌, ◌≤◌, List, [], ◌∷◌, ◌++◌, length, map, take, drop, get_or, arith, refl, ap, ◌∙◌, eqb, true, zero, suc}
use Rattle.std.specs.List.{All, sum_by, IsDistinct, list_any}
use Rattle.std.specs.List.Sorted.{IsPermutation, IsNonDecreasingBy}
use Rattle.std.specs.Prelude.{bit_or, bit_and}
use Rattle.std.proofs.lemmas.List.{take_all, length-take-le, length-append, length-map, map-append, drop_more, drop-map, length-drop}
use Rattle.std.proofs.lemmas.List.Elements.{All-head, All-tail, All-append, All-map, All-weaker, All-cons, All-nil, All-contains}
use Rattle.std.proofs.lemmas.Map.Views.{Contains-from_any}
use Rattle.std.proofs.lemmas.Bool.{eqb-true}
use Rattle.std.proofs.lemmas.List.Sums.{sum_by-cons, sum_by-take-drop}
use Rattle.std.proofs.lemmas.List.Sorted.{IsPermutation-trans, IsPermutation-append, IsPermutation-map, length_permutation, All-permutation, IsPermutation-refl, IsNonDecreasingBy-short}
use Rattle.std.proofs.lemmas.Map.Keys.{IsDistinct-tail}
use Rattle.std.proofs.lemmas.Map.Steps.{length-le_from_distinct_below}
use Rattle.std.proofs.Math.Nat.{pow-suc, pow-le-pow_right}
use Rattle.std.proofs.lemmas.Nat.{shl_whole, or_lt}
use Rattle.half_sums.specs.declared.entry.Entry.{Entry}
use Rattle.council_core.specs.Sheets.{weight_of}
use Rattle.council_core.specs.Coalitions.{subsets}
use Rattle.half_sums.specs.Masks.{mask_of}
use Rattle.half_sums.specs.Entries.{entry_with, entry_of, entries_of, entries_from, set_of, chair_number, AreSubsets, IsHalf}
use Rattle.half_sums.proofs.Numbers.{length-entries, sets_with}
use Rattle.half_sums.specs.declared.groups.TheConstants.{SLOTS}
use Rattle.half_sums.specs.declared.lists.TheConstants.{ROOM}

map_joined : (chair : ℕ × ℕ) (sets : List (List (ℕ × ℕ))) → map entry_of (map (λ s. chair ∷ s) sets) ≡ map (entry_with chair.1 (2 ^ chair.0)) (map entry_of sets)
map_joined chair [] = refl
map_joined chair (s ∷ sets) =
    let here : entry_of (chair ∷ s) ≡ entry_with chair.1 (2 ^ chair.0) (entry_of s) =
    ap (λ n. let e : Entry = record { sum = n; mask = bit_or (mask_of s) (2 ^ chair.0) } in e) (omega (arith, sum_by-cons (λ (c : ℕ × ℕ). c.1) chair s)) in
    cc (here, map_joined chair sets)

entries_of-cons : (chair : ℕ × ℕ) (chairs : List (ℕ × ℕ)) → entries_of (chair ∷ chairs) ≡ entries_of chairs ++ map (entry_with chair.1 (2 ^ chair.0)) (entries_of chairs)
entries_of-cons chair chairs =
    map-append entry_of (subsets chairs) _ ∙ ap (λ es. entries_of chairs ++ es) (map_joined chair (subsets chairs))

length-entries_of : (chairs : List (ℕ × ℕ)) → length (entries_of chairs) ≡ 2 ^ length chairs
length-entries_of [] = refl
length-entries_of (chair ∷ chairs) =
    rw (entries_of-cons chair chairs) (omega (arith, length-append (entries_of chairs) (map (entry_with chair.1 (2 ^ chair.0)) (entries_of chairs)), length-map (entries_of chairs) (entry_with chair.1 (2 ^ chair.0)), length-entries_of chairs, pow-suc 2 (length chairs)))

sums_within : (chairs : List (ℕ × ℕ)) → All (λ e. e.sum ≤ weight_of chairs) (entries_of chairs)
sums_within [] = All-cons (λ (e : Entry). e.sum ≤ weight_of []) (entry_of []) [] (omega arith) (All-nil (λ (e : Entry). e.sum ≤ weight_of []))
sums_within (chair ∷ chairs) =
    let P : Entry → Type 0 = λ e. e.sum ≤ weight_of (chair ∷ chairs) in
    let all : weight_of (chair ∷ chairs) ≡ chair.1 + weight_of chairs = sum_by-cons (λ (c : ℕ × ℕ). c.1) chair chairs in
    let old : All P (entries_of chairs) = All-weaker (λ (e : Entry). e.sum ≤ weight_of chairs) P (λ e h. omega (arith, all)) (entries_of chairs) (sums_within chairs) in
    let new : All (λ e. P (entry_with chair.1 (2 ^ chair.0) e)) (entries_of chairs) =
    All-weaker (λ (e : Entry). e.sum ≤ weight_of chairs) (λ e. P (entry_with chair.1 (2 ^ chair.0) e)) (λ e h. omega (arith, all)) (entries_of chairs) (sums_within chairs) in
    rw (entries_of-cons chair chairs) (All-append P (entries_of chairs) _ old (All-map P (entry_with chair.1 (2 ^ chair.0)) (entries_of chairs) new))

pub AreSubsets-none : AreSubsets [] (record { sum = 0; mask = 0 } ∷ [])
AreSubsets-none =
    let one : List Entry = record { sum = 0; mask = 0 } ∷ [] in
    record { each_once = IsPermutation-refl one; ascending = IsNonDecreasingBy-short (λ (e : Entry). e.sum) one (omega arith) }

pub AreSubsets-more : (chairs : List (ℕ × ℕ)) (chair : ℕ × ℕ) (bit : ℕ) (es out : List Entry) → AreSubsets chairs es → 2 ^ chair.0 ≡ bit → IsPermutation (es ++ map (entry_with chair.1 bit) es) out → IsNonDecreasingBy (λ e. e.sum) out → AreSubsets (chair ∷ chairs) out
AreSubsets-more chairs chair bit es out are bit_is moves up =
    let f : Entry → Entry = entry_with chair.1 (2 ^ chair.0) in
    let f_is : f ≡ entry_with chair.1 bit = ap (entry_with chair.1) bit_is in
    let ends : IsPermutation (es ++ map f es) out = rw f_is moves in
    record {
      each_once = rw (entries_of-cons chair chairs) (IsPermutation-trans _ _ _ (IsPermutation-append _ _ _ _ are.each_once (IsPermutation-map f _ _ are.each_once)) ends);
      ascending = up;
    }

pub length_of_half : (chairs : List (ℕ × ℕ)) (es : List Entry) → AreSubsets chairs es → length es ≡ 2 ^ length chairs
length_of_half chairs es are = length_permutation _ _ are.each_once ∙ length-entries_of chairs

sums_of_half : (chairs : List (ℕ × ℕ)) (es : List Entry) → AreSubsets chairs es → All (λ e. e.sum ≤ weight_of chairs) es
sums_of_half chairs es are = All-permutation (λ (e : Entry). e.sum ≤ weight_of chairs) _ _ are.each_once (sums_within chairs)

slot_found : (xs : List ℕ) (n q : ℕ) → All (λ x. x < n) xs → list_any (eqb q) xs ≡ true → q < n
slot_found xs n q small found = All-contains (λ x. x < n) xs q small (Contains-from_any eqb-true q xs found)

-- chairs at distinct slots below 16 are at most 16
pub chairs_within_slots : (chairs : List (ℕ × ℕ)) → All (λ c. c.0 < SLOTS) chairs → IsDistinct eqb (map (λ c. c.0) chairs) → length chairs ≤ SLOTS
chairs_within_slots chairs small apart =
    let slots : List ℕ = map (λ (c : ℕ × ℕ). c.0) chairs in
    let below : All (λ x. x < SLOTS) slots = All-map (λ x. x < SLOTS) (λ (c : ℕ × ℕ). c.0) chairs small in
    omega (arith, length-map chairs (λ (c : ℕ × ℕ). c.0), length-le_from_distinct_below slots SLOTS apart (λ q found. slot_found slots SLOTS q below found))

-- the sets of up to sixteen chairs fit into the room of a half
pub room_of : (chairs : List (ℕ × ℕ)) → length chairs ≤ SLOTS → 2 ^ length chairs ≤ ROOM
room_of chairs fits = pow-le-pow_right (omega arith) fits

-- the room and the sums of the next chair, at index `at - 1`
pub room_left : (chairs : List (ℕ × ℕ)) (at : ℕ) (es : List Entry) → AreSubsets (drop at chairs) es → 0 < at → at ≤ length chairs → 2 * length es ≤ 2 ^ length chairs
room_left chairs at es are some within =
    let left : ℕ = length (drop at chairs) in
    let more : suc left ≤ length chairs = omega (arith, length-drop at chairs) in
    let bound : 2 ^ suc left ≤ 2 ^ length chairs = pow-le-pow_right (omega arith) more in
    omega (arith, length_of_half (drop at chairs) es are, pow-suc 2 left, bound)

-- a list of all sets takes the whole of a slice that is as long as that
pub all_sets : (chairs : List (ℕ × ℕ)) (full count : ℕ) (words : List ℕ) → AreSubsets chairs (entries_from full (take count words)) → count ≤ 2 ^ length chairs
    → length words ≡ 2 ^ length chairs → take count words ≡ words
all_sets chairs full count words are bound room =
    let all : count ≡ 2 ^ length chairs = omega (arith, length_of_half chairs _ are, length-entries full (take count words), length-take-le count words (omega (arith, room))) in
    take_all count words (omega (arith, all, room))

pub drop_back : (chairs : List (ℕ × ℕ)) (at : ℕ) → 0 < at → at ≤ length chairs → drop (at - 1) chairs ≡ get_or chairs (at - 1) (0, 0) ∷ drop at chairs
drop_back chairs at some within =
    let one : at - 1 + 1 ≡ at = omega arith in
    let below : at - 1 < length chairs = omega arith in
    rw one at (drop_more chairs (at - 1) (0, 0) below)

-- the next chair and those after it have distinct slots too
distinct_drop : (n : ℕ) (keys : List ℕ) → IsDistinct eqb keys → IsDistinct eqb (drop n keys)
distinct_drop zero keys distinct = distinct
distinct_drop (suc n) [] distinct = distinct
distinct_drop (suc n) (k ∷ keys) distinct = distinct_drop n keys (IsDistinct-tail eqb k keys distinct)

pub distinct_left : (chairs : List (ℕ × ℕ)) (at : ℕ) → IsDistinct eqb (map (λ c. c.0) chairs) → 0 < at → at ≤ length chairs → IsDistinct eqb (map (λ c. c.0) (get_or chairs (at - 1) (0, 0) ∷ drop at chairs))
distinct_left chairs at distinct some within =
    let left : IsDistinct eqb (map (λ c. c.0) (drop (at - 1) chairs)) = rw (drop-map (λ (c : ℕ × ℕ). c.0) (at - 1) chairs) at (distinct_drop (at - 1) (map (λ c. c.0) chairs) distinct) in
    rw (drop_back chairs at some within) at left

pub small_left : (chairs : List (ℕ × ℕ)) (at : ℕ) (es : List Entry) → AreSubsets (drop at chairs) es → weight_of chairs ≤ 2 ^ 48 → 0 < at → at ≤ length chairs → All (λ e. e.sum + (get_or chairs (at - 1) (0, 0)).1 ≤ 2 ^ 48) es
small_left chairs at es are small some within =
    let w : ℕ × ℕ → ℕ = λ c. c.1 in
    let split : weight_of (drop (at - 1) chairs) ≡ (get_or chairs (at - 1) (0, 0)).1 + weight_of (drop at chairs) =
    ap weight_of (drop_back chairs at some within) ∙ sum_by-cons w (get_or chairs (at - 1) (0, 0)) (drop at chairs) in
    let whole : sum_by w (take (at - 1) chairs) + sum_by w (drop (at - 1) chairs) ≡ sum_by w chairs = sum_by-take-drop w chairs (at - 1) in
    All-weaker (λ (e : Entry). e.sum ≤ weight_of (drop at chairs)) (λ e. e.sum + (get_or chairs (at - 1) (0, 0)).1 ≤ 2 ^ 48) (λ e h. omega (arith, split, whole)) es (sums_of_half (drop at chairs) es are)

-- `1 << slot` at 16 bits
pub slot_bit : (slot : ℕ) → slot < 16 → 2 ^ slot ≡ 1 * 2 ^ slot % 2 ^ 16
slot_bit slot h = omega (arith, shl_whole 1 1 slot 16 (omega arith) (omega arith))

pub IsHalf-one : IsHalf (record { sum = 0; mask = 0 } ∷ [])
IsHalf-one =
    let one : List Entry = record { sum = 0; mask = 0 } ∷ [] in
    record {
      bound = omega arith;
      ascending = IsNonDecreasingBy-short (λ (e : Entry). e.sum) one (omega arith);
      small = All-cons (λ (e : Entry). e.sum ≤ 2 ^ 48) (record { sum = 0; mask = 0 }) [] (omega arith) (All-nil (λ (e : Entry). e.sum ≤ 2 ^ 48));
      slots = All-cons (λ (e : Entry). e.mask < 2 ^ SLOTS) (record { sum = 0; mask = 0 }) [] (omega arith) (All-nil (λ (e : Entry). e.mask < 2 ^ SLOTS));
    }

pub IsHalf-more : (es out : List Entry) (weight bit : ℕ) → IsHalf es → bit < 2 ^ SLOTS → 2 * length es ≤ ROOM → All (λ e. e.sum + weight ≤ 2 ^ 48) es → IsPermutation (es ++ map (entry_with weight bit) es) out → IsNonDecreasingBy (λ e. e.sum) out → IsHalf out
IsHalf-more es out weight bit half slot room small moves up =
    let P : Entry → Type 0 = λ e. e.sum ≤ 2 ^ 48 in
    let Q : Entry → Type 0 = λ e. e.mask < 2 ^ SLOTS in
    record {
      bound = omega (arith, length_permutation _ _ moves, length-append es (map (entry_with weight bit) es), length-map es (entry_with weight bit));
      ascending = up;
      small = All-permutation P _ _ moves (All-append P es _ half.small (All-map P (entry_with weight bit) es small));
      slots = All-permutation Q _ _ moves (All-append Q es _ half.slots (All-map Q (entry_with weight bit) es (All-weaker Q (λ e. Q (entry_with weight bit e)) (λ e h. or_lt SLOTS e.mask bit h slot) es half.slots)));
    }

-- a doubled list of numbers is one of sets
pub sets_doubled : (numbers out : List ℕ) (weight bit : ℕ) → bit < 2 ^ SLOTS → All (λ e. bit_and e.mask bit ≡ 0) (map set_of numbers) → IsPermutation (numbers ++ map (λ n. n + chair_number weight bit) numbers) out
    → IsPermutation (map set_of numbers ++ map (entry_with weight bit) (map set_of numbers)) (map set_of out)
sets_doubled numbers out weight bit small free moves =
    let joined : List ℕ = map (λ n. n + chair_number weight bit) numbers in
    let sets : map set_of (numbers ++ joined) ≡ map set_of numbers ++ map (entry_with weight bit) (map set_of numbers) = map-append set_of numbers joined ∙ ap (λ es. map set_of numbers ++ es) (sets_with numbers weight bit small free) in
    rw sets at (IsPermutation-map set_of _ _ moves)

-- what one more chair adds to the numbers of sets fits 65 bits
pub numbers_small : (numbers : List ℕ) (weight bit : ℕ) → bit < 2 ^ SLOTS → All (λ e. e.sum + weight ≤ 2 ^ 48) (map set_of numbers) → All (λ n. n + chair_number weight bit < 2 ^ 65) numbers
numbers_small [] weight bit small fit = All-nil (λ n. n + chair_number weight bit < 2 ^ 65)
numbers_small (n ∷ ns) weight bit small fit =
    let P : Entry → Type 0 = λ e. e.sum + weight ≤ 2 ^ 48 in
    let here : n / 2 ^ SLOTS + weight ≤ 2 ^ 48 = All-head P (set_of n) (map set_of ns) fit in
    All-cons (λ n. n + chair_number weight bit < 2 ^ 65) n ns (omega (arith, here)) (numbers_small ns weight bit small (All-tail P (set_of n) (map set_of ns) fit))
