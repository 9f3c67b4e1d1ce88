-- The open chairs among words: their numbers, their weights, and what one more word adds.
use Rattle.std.proofs.Common.{◌≡◌, ℕ, ◌+◌, ◌-◌, ◌<◌, ◌≤◌, Bool, true, false, cond, not, List, [], ◌∷◌, ◌++◌, map, length, take, get_or, arith, refl, sym, ap, ◌∙◌, eqb, inl, inr, subst, ◌≢◌, Option, None, Some}
use Rattle.std.specs.List.{sum_by, All, IsDistinct}
use Rattle.std.proofs.lemmas.Bool.{eq-eqb, ne_eqb, cases_eq, cases_lt}
use Rattle.std.proofs.lemmas.List.{append-nil, take_all, take_more, get_or_past, length-append, length-take, append_assoc}
use Rattle.std.proofs.lemmas.List.Elements.{All-cons, All-nil, All-append, All-map, All-weaker, recursion_from_All}
use Rattle.std.proofs.lemmas.List.Sums.{sum_by-cons, sum_by-append}
use Rattle.std.proofs.lemmas.Map.Keys.{IsDistinct-cons}
use Rattle.council_core.specs.Sheets.{Chair, open_from, weight_of, weight_in, weight_word}

-- the chair of one word, if it is open
abbrev pub chair_of : ℕ → ℕ → List Chair
chair_of c word = cond (eqb word 0) [] ((c, word - 1) ∷ [])

prefixed : (b : Bool) (chair : Chair) (rest : List Chair) → cond b rest (chair ∷ rest) ≡ cond b [] (chair ∷ []) ++ rest
prefixed true chair rest = refl
prefixed false chair rest = refl

pub open_from-cons : (c word : ℕ) (rest : List ℕ) → open_from c (word ∷ rest) ≡ chair_of c word ++ open_from (c + 1) rest
open_from-cons c word rest = prefixed (eqb word 0) (c, word - 1) (open_from (c + 1) rest)

pub chair_of-shut : (c word : ℕ) → word ≡ 0 → chair_of c word ≡ []
chair_of-shut c word h = ap (λ b. cond b [] ((c, word - 1) ∷ [])) (eq-eqb word 0 h)

pub chair_of-open : (c word : ℕ) → word ≢ 0 → chair_of c word ≡ (c, word - 1) ∷ []
chair_of-open c word h = ap (λ b. cond b [] ((c, word - 1) ∷ [])) (ne_eqb word 0 h)

-- a word is 0, or its chair is open
by_word : (P : List Chair → Type 0) (c word : ℕ) → (word ≡ 0 → P []) → (word ≢ 0 → P ((c, word - 1) ∷ [])) → P (chair_of c word)
by_word P c word shut some = elim (cases_eq word 0) as (λ _. P (chair_of c word)) [
  | inl e ↦ subst P (sym (chair_of-shut c word e)) (shut e)
  | inr n ↦ subst P (sym (chair_of-open c word n)) (some n)
]

pub open_from-append : (c : ℕ) (xs ys : List ℕ) → open_from c (xs ++ ys) ≡ open_from c xs ++ open_from (c + length xs) ys
open_from-append c [] ys = ap (λ n. open_from n ys) (omega arith)
open_from-append c (x ∷ xs) ys =
    let turn : c + 1 + length xs ≡ c + length (x ∷ xs) = omega arith in
    open_from-cons c x (xs ++ ys)
    ∙ ap (λ l. chair_of c x ++ l) (open_from-append (c + 1) xs ys ∙ ap (λ n. open_from (c + 1) xs ++ open_from n ys) turn)
    ∙ sym (append_assoc (chair_of c x) (open_from (c + 1) xs) (open_from (c + length (x ∷ xs)) ys))
    ∙ sym (ap (λ l. l ++ open_from (c + length (x ∷ xs)) ys) (open_from-cons c x xs))

alone : (c word : ℕ) → open_from c (word ∷ []) ≡ chair_of c word
alone c word = open_from-cons c word [] ∙ append-nil (chair_of c word)

pub open_from-more : (c : ℕ) (words : List ℕ) (i : ℕ) → i < length words → open_from c (take (i + 1) words) ≡ open_from c (take i words) ++ chair_of (c + i) (get_or words i 0)
open_from-more c words i h =
    let here : length (take i words) ≡ i = omega (arith, length-take i words) in
    let at : c + length (take i words) ≡ c + i = omega (arith, here) in
    ap (open_from c) (take_more words i 0 h)
    ∙ open_from-append c (take i words) (get_or words i 0 ∷ [])
    ∙ ap (λ n. open_from c (take i words) ++ open_from n (get_or words i 0 ∷ [])) at
    ∙ ap (λ l. open_from c (take i words) ++ l) (alone (c + i) (get_or words i 0))

weight_one : (c word : ℕ) → weight_of (chair_of c word) ≡ word - 1
weight_one c word = by_word (λ l. weight_of l ≡ word - 1) c word (λ e. omega arith) (λ n. omega (arith, sum_by-cons (λ (ch : Chair). ch.1) (c, word - 1) []))

-- the weights of the open chairs add up to what the words say
pub weight_of-open : (c : ℕ) (words : List ℕ) → weight_of (open_from c words) ≡ sum_by weight_in words
weight_of-open c [] = refl
weight_of-open c (x ∷ xs) =
    let split : weight_of (open_from c (x ∷ xs)) ≡ weight_of (chair_of c x) + weight_of (open_from (c + 1) xs) =
    ap weight_of (open_from-cons c x xs) ∙ sum_by-append (λ ch. ch.1) (chair_of c x) (open_from (c + 1) xs) in
    omega (arith, split, weight_one c x, weight_of-open (c + 1) xs, sum_by-cons weight_in x xs)

all_one : (P : Chair → Type 0) (c word : ℕ) → P (c, word - 1) → All P (chair_of c word)
all_one P c word h = by_word (All P) c word (λ e. All-nil P) (λ n. All-cons P (c, word - 1) [] h (All-nil P))

-- the numbers lie between the first and the last
pub numbers_within : (c : ℕ) (words : List ℕ) → All (λ ch. (c ≤ ch.0) × (ch.0 < c + length words)) (open_from c words)
numbers_within c [] = All-nil (λ (ch : Chair). (c ≤ ch.0) × (ch.0 < c + 0))
numbers_within c (x ∷ xs) =
    let P : Chair → Type 0 = λ ch. (c ≤ ch.0) × (ch.0 < c + length (x ∷ xs)) in
    rw (open_from-cons c x xs)
    (All-append P (chair_of c x) (open_from (c + 1) xs) (all_one P c x (omega arith, omega arith))
    (All-weaker (λ (ch : Chair). (c + 1 ≤ ch.0) × (ch.0 < c + 1 + length xs)) P (λ ch h. (omega (arith, h.0), omega (arith, h.1))) (open_from (c + 1) xs) (numbers_within (c + 1) xs)))

length_one : (c word : ℕ) → length (chair_of c word) ≤ 1
length_one c word = by_word (λ l. length l ≤ 1) c word (λ e. omega arith) (λ n. omega arith)

pub length-open : (c : ℕ) (words : List ℕ) → length (open_from c words) ≤ length words
length-open c [] = omega arith
length-open c (x ∷ xs) =
    let split : length (open_from c (x ∷ xs)) ≡ length (chair_of c x) + length (open_from (c + 1) xs) =
    ap length (open_from-cons c x xs) ∙ length-append (chair_of c x) (open_from (c + 1) xs) in
    omega (arith, split, length_one c x, length-open (c + 1) xs)

distinct_more : (c word : ℕ) (chairs : List Chair) → All (λ ch. c + 1 ≤ ch.0) chairs → IsDistinct eqb (map (λ ch. ch.0) chairs) → IsDistinct eqb (map (λ ch. ch.0) (chair_of c word ++ chairs))
distinct_more c word chairs above apart =
    by_word (λ l. IsDistinct eqb (map (λ (ch : Chair). ch.0) (l ++ chairs))) c word (λ e. apart)
    (λ n. IsDistinct-cons eqb c (map (λ (ch : Chair). ch.0) chairs)
    (recursion_from_All (λ n. eqb c n ≡ false) (map (λ (ch : Chair). ch.0) chairs)
    (All-map (λ n. eqb c n ≡ false) (λ (ch : Chair). ch.0) chairs
    (All-weaker (λ (ch : Chair). c + 1 ≤ ch.0) (λ ch. eqb c ch.0 ≡ false) (λ ch h. ne_eqb c ch.0 (λ e. absurd (omega arith))) chairs above)))
    apart)

-- each number appears once
pub numbers_distinct : (c : ℕ) (words : List ℕ) → IsDistinct eqb (map (λ ch. ch.0) (open_from c words))
unfolding IsDistinct
numbers_distinct c [] = tt
numbers_distinct c (x ∷ xs) =
    rw (open_from-cons c x xs) (distinct_more c x (open_from (c + 1) xs)
    (All-weaker (λ (ch : Chair). (c + 1 ≤ ch.0) × (ch.0 < c + 1 + length xs)) (λ ch. c + 1 ≤ ch.0) (λ ch h. h.0) (open_from (c + 1) xs) (numbers_within (c + 1) xs))
    (numbers_distinct (c + 1) xs))

-- the chair with this number, by the weight that a sheet gives for it
abbrev listed : ℕ → Option ℕ → List Chair
listed c None = []
listed c (Some weight) = (c, weight) ∷ []

listed_is : (b : Bool) (c weight : ℕ) → listed c (cond b None (Some weight)) ≡ cond b [] ((c, weight) ∷ [])
listed_is true c weight = refl
listed_is false c weight = refl

listed_word : (words : List ℕ) (i : ℕ) → listed (i + 1) (weight_word words (i + 1)) ≡ chair_of (i + 1) (get_or words i 0)
listed_word words i =
    let here : i + 1 - 1 ≡ i = omega arith in
    listed_is (eqb (get_or words (i + 1 - 1) 0) 0) (i + 1) (get_or words (i + 1 - 1) 0 - 1) ∙ ap (λ n. chair_of (i + 1) (get_or words n 0)) here

-- past the words there is no chair
none_past : (words : List ℕ) (i : ℕ) → length words ≤ i → open_from 1 (take (i + 1) words) ≡ open_from 1 (take i words) ++ chair_of (i + 1) (get_or words i 0)
none_past words i past =
    ap (open_from 1) (take_all (i + 1) words (omega arith) ∙ sym (take_all i words past))
    ∙ sym (append-nil (open_from 1 (take i words)))
    ∙ sym (ap (λ l. open_from 1 (take i words) ++ l) (chair_of-shut (i + 1) (get_or words i 0) (get_or_past words i 0 past)))

-- one more word
word_more : (words : List ℕ) (i : ℕ) → open_from 1 (take (i + 1) words) ≡ open_from 1 (take i words) ++ chair_of (i + 1) (get_or words i 0)
word_more words i =
    let number : 1 + i ≡ i + 1 = omega arith in
    elim (cases_lt i (length words)) as (λ _. open_from 1 (take (i + 1) words) ≡ open_from 1 (take i words) ++ chair_of (i + 1) (get_or words i 0)) [
      | inl within ↦ open_from-more 1 words i within ∙ ap (λ n. open_from 1 (take i words) ++ chair_of n (get_or words i 0)) number
      | inr past ↦ none_past words i past
    ]

length_of : (b : Bool) (chair : Chair) → length (cond b [] (chair ∷ [])) ≡ cond (not b) 1 0
length_of true chair = refl
length_of false chair = refl

-- the count of the open chairs, with one more word
pub length_more : (words : List ℕ) (i : ℕ) → length (open_from 1 (take (i + 1) words)) ≡ length (open_from 1 (take i words)) + cond (not (eqb (get_or words i 0) 0)) 1 0
length_more words i =
    let word : ℕ = get_or words i 0 in
    ap length (word_more words i)
    ∙ length-append (open_from 1 (take i words)) (chair_of (i + 1) word)
    ∙ ap (λ n. length (open_from 1 (take i words)) + n) (length_of (eqb word 0) (i + 1, word - 1))

-- one more chair, by the weight that its sheet gives for it
pub listed_more : (words : List ℕ) (i : ℕ) (weight : Option ℕ) → weight ≡ weight_word words (i + 1) → open_from 1 (take (i + 1) words) ≡ open_from 1 (take i words) ++ listed (i + 1) weight
listed_more words i weight same =
    word_more words i ∙ sym (ap (λ l. open_from 1 (take i words) ++ l) (ap (listed (i + 1)) same ∙ listed_word words i))
