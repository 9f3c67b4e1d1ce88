-- What is printed of a reading determines it.
use Rattle.std.proofs.Common.{◌≡◌, ◌==◌, ◌<◌, ◌≤◌, ◌+◌, ◌-◌, ◌^◌, ℕ, zero, suc, Bool, true, false, List, [], ◌∷◌, ◌++◌, length, map, take, get_or, Option, Some, None, refl, sym, ap, ◌∙◌, arith, inl, inr, if◌then◌else◌}
use Rattle.std.specs.Prelude.{decimal, not, slice_index, codes}
use Rattle.std.specs.List.{list_any}
use Rattle.std.proofs.Math.Seq.{drop-cons}
use Rattle.std.proofs.lemmas.Bool.{cases_Bool, eqb-true, false_from_ne_true, false≢true, or_from}
use Rattle.std.proofs.lemmas.Fmt.{decimal_injective}
use Rattle.std.proofs.lemmas.List.{drop_all, length-take, length-take-le, take-append-drop}
use Rattle.std.proofs.lemmas.List.Folds.{list_any-append}
use Rattle.council_core.specs.Sheets.{Chair, IsSheet, open_chairs, open_from}
use Rattle.majority_rule.specs.declared.majorities.Majority.{Majority}
use Rattle.majority_rule.proofs.Face.{each-majority, majority-back}
use Rattle.power_index.specs.Indices.{fraction, indices_of}
use Rattle.power_index.specs.declared.indices.ChairPower.{ChairPower}
use Rattle.power_index.specs.declared.indices.Fraction.{Fraction}
use Rattle.power_index.specs.declared.indices.Indices.{Indices}
use Rattle.board_text.specs.Lines.{chair_line, fraction_if_any, reading_line, reading_lines}
use Rattle.board_text.specs.Laws.{IsReading}
use Rattle.majority_rule.specs.Majorities.{majority_of, word_of_majority}
use Rattle.board_text.proofs.LineFacts.{HasNoComma, fields_from, line-back, number-none}

word-none : (m : Majority) → HasNoComma (word_of_majority m)
word-none m = false_from_ne_true _ (λ t. false≢true (sym (ap not t) ∙ each-majority (λ m. not (list_any (λ b. b == 44) (word_of_majority m))) refl m))

fraction-none : (f : Fraction) → HasNoComma (fraction f)
fraction-none f = list_any-append (λ b. b == 44) (decimal f.num) (47 ∷ decimal f.den) ∙ or_from _ _ (number-none f.num) (number-none f.den)

if_any-none : (f : Option Fraction) → HasNoComma (fraction_if_any f)
if_any-none None = refl
if_any-none (Some f) = fraction-none f

-- the fields of the lines of a reading
reading-fields : (r : ℕ) (i : Indices) → fields_from [] (reading_line r i) ≡ codes "reading" ∷ decimal r ∷ decimal i.front ∷ word_of_majority i.majority ∷ decimal i.chairs ∷ decimal i.quota
    ∷ decimal i.cast ∷ decimal i.total ∷ decimal i.winning ∷ decimal i.coalitions ∷ []
reading-fields r i = line-back (codes "reading") _ refl (
  number-none r,
  (
    number-none i.front,
    (
      word-none i.majority,
      (
        number-none i.chairs,
        (
          number-none i.quota,
          (number-none i.cast, (number-none i.total, (number-none i.winning, (number-none i.coalitions, tt)))),
        ),
      ),
    ),
  ),
)

chair-fields : (c : ChairPower) → fields_from [] (chair_line c) ≡ codes "chair" ∷ decimal c.chair ∷ decimal c.weight ∷ decimal c.swings ∷ fraction c.banzhaf ∷ fraction_if_any c.share
    ∷ fraction_if_any c.prevent ∷ fraction c.initiate ∷ []
chair-fields c = line-back (codes "chair") _ refl (
  number-none c.chair,
  (
    number-none c.weight,
    (
      number-none c.swings,
      (
        fraction-none c.banzhaf,
        (if_any-none c.share, (if_any-none c.prevent, (fraction-none c.initiate, tt))),
      ),
    ),
  ),
)

-- a chair whose numbers fit 64 bits, and a row that shows it
pub record ShowsChair (c : Chair) (row : ChairPower) : Type 0 where
  pub number : row.chair ≡ c.0
  pub weight : row.weight ≡ c.1
  pub number_fits : c.0 < 2 ^ 64
  pub weight_fits : c.1 < 2 ^ 64

same-number : (a b x y : ℕ) → x ≡ a → y ≡ b → a < 2 ^ 64 → b < 2 ^ 64 → decimal x ≡ decimal y → a ≡ b
same-number a b x y of_a of_b small_a small_b same =
    decimal_injective a b small_a small_b (ap decimal (sym of_a) ∙ same ∙ ap decimal of_b)

same-pair : (c d : Chair) → c.0 ≡ d.0 → c.1 ≡ d.1 → c ≡ d
same-pair c d first second =
    let chair : ℕ → ℕ → Chair = λ number weight. (number, weight) in
    ap (λ number. chair number c.1) first ∙ ap (chair d.0) second

same-chair : (c d : Chair) (f g : ChairPower) → ShowsChair c f → ShowsChair d g → chair_line f ≡ chair_line g → c ≡ d
same-chair c d f g shows_c shows_d same =
    let fields = sym (chair-fields f) ∙ ap (fields_from []) same ∙ chair-fields g in
    let number = same-number c.0 d.0 f.chair g.chair shows_c.number shows_d.number shows_c.number_fits shows_d.number_fits (cc fields) in
    let weight = same-number c.1 d.1 f.weight g.weight shows_c.weight shows_d.weight shows_c.weight_fits shows_d.weight_fits (cc fields) in
    same-pair c d number weight

-- chairs with a number from `low` on, below 64, and weights that fit
abbrev pub AreSmall : List Chair → Type 0
AreSmall [] = Unit {0}
AreSmall (c ∷ cs) = ((c.0 < 2 ^ 64) × (c.1 < 2 ^ 64)) × AreSmall cs

-- rows that show their chairs are equal only if the chairs are
same-chairs : (f g : Chair → ChairPower) → ((c : Chair) → ((f c).chair ≡ c.0) × ((f c).weight ≡ c.1)) → ((c : Chair) → ((g c).chair ≡ c.0) × ((g c).weight ≡ c.1))
    → (cs ds : List Chair) → AreSmall cs → AreSmall ds → map chair_line (map f cs) ≡ map chair_line (map g ds) → cs ≡ ds
same-chairs f g shows_f shows_g [] [] small_c small_d same = refl
same-chairs f g shows_f shows_g [] (d ∷ ds) small_c small_d same = cc same
same-chairs f g shows_f shows_g (c ∷ cs) [] small_c small_d same = cc same
same-chairs f g shows_f shows_g (c ∷ cs) (d ∷ ds) small_c small_d same =
    let row_c : ShowsChair c (f c) = record { number = (shows_f c).0; weight = (shows_f c).1; number_fits = small_c.0.0; weight_fits = small_c.0.1 } in
    let row_d : ShowsChair d (g d) = record { number = (shows_g d).0; weight = (shows_g d).1; number_fits = small_d.0.0; weight_fits = small_d.0.1 } in
    ap (λ x. x ∷ cs) (same-chair c d (f c) (g d) row_c row_d (cc same))
    ∙ ap (λ l. d ∷ l) (same-chairs f g shows_f shows_g cs ds small_c.1 small_d.1 (cc same))

-- the open chairs among words that are in range
abbrev pub AreWords : List ℕ → Type 0
AreWords [] = Unit {0}
AreWords (w ∷ ws) = (w ≤ 2 ^ 48 + 1) × AreWords ws

open-small : (c : ℕ) (ws : List ℕ) → AreWords ws → c + length ws < 2 ^ 64 → AreSmall (open_from c ws)
open-small c [] are fits = tt
open-small c (w ∷ ws) are fits = either (w == 0) (open-small (c + 1) ws are.1 (omega (arith, fits)))
  where
    either : (b : Bool) → AreSmall (open_from (c + 1) ws) → AreSmall (if b then open_from (c + 1) ws else (c, w - 1) ∷ open_from (c + 1) ws)
    either true small = small
    either false small = ((omega (arith, fits), omega (arith, are.0)), small)

-- two lists of chairs that begin alike
heads : (c d : Chair) (cs ds : List Chair) → c ∷ cs ≡ d ∷ ds → (c.0 ≡ d.0) × (c.1 ≡ d.1) × (cs ≡ ds)
heads c d cs ds same =
    let first : c ≡ d = cc same in
    (ap (λ (p : Chair). p.0) first, ap (λ (p : Chair). p.1) first, cc same)

-- no chair has a number below the first
none-below : (c d weight : ℕ) (ws : List ℕ) (rest : List Chair) → c < d → open_from d ws ≡ (c, weight) ∷ rest → ⊥
none-below c d weight [] rest below same = cc same
none-below c d weight (w ∷ ws) rest below same = elim (cases_Bool (w == 0)) [
  | inl closed ↦ none-below c (d + 1) weight ws rest (omega arith) (rw closed at same)
  | inr weighed ↦
      let e : (d, w - 1) ∷ open_from (d + 1) ws ≡ (c, weight) ∷ rest = rw weighed at same in
      let number : d ≡ c = (heads (d, w - 1) (c, weight) (open_from (d + 1) ws) rest e).0 in
      absurd (omega (arith, number))
]

not-closed : (w : ℕ) → (w == 0) ≡ false → 0 < w
not-closed zero e = cc e
not-closed (suc w) e = omega arith

-- words of which the same chairs are open, with the same weights, are the same
open-same : (c : ℕ) (ws vs : List ℕ) → length ws ≡ length vs → open_from c ws ≡ open_from c vs → ws ≡ vs
open-same c [] [] size same = refl
open-same c [] (v ∷ vs) size same = cc size
open-same c (w ∷ ws) [] size same = cc size
open-same c (w ∷ ws) (v ∷ vs) size same = elim (cases_Bool (w == 0)) [
  | inl closed_w ↦ elim (cases_Bool (v == 0)) [
    | inl closed_v ↦
        let words : w ≡ v = eqb-true w 0 closed_w ∙ sym (eqb-true v 0 closed_v) in
        ap (λ x. x ∷ ws) words ∙ ap (λ l. v ∷ l) (open-same (c + 1) ws vs (omega (arith, size)) (rw (closed_w, closed_v) at same))
    | inr open_v ↦ absurd (none-below c (c + 1) (v - 1) ws _ (omega arith) (rw (closed_w, open_v) at same))
  ]
  | inr open_w ↦ elim (cases_Bool (v == 0)) [
    | inl closed_v ↦ absurd (none-below c (c + 1) (w - 1) vs _ (omega arith) (sym (rw (open_w, closed_v) at same)))
    | inr open_v ↦
        let e : (c, w - 1) ∷ open_from (c + 1) ws ≡ (c, v - 1) ∷ open_from (c + 1) vs = rw (open_w, open_v) at same in
        let parts = heads (c, w - 1) (c, v - 1) (open_from (c + 1) ws) (open_from (c + 1) vs) e in
        let weight : w - 1 ≡ v - 1 = parts.1 in
        let words : w ≡ v = omega (arith, weight, not-closed w open_w, not-closed v open_v) in
        ap (λ x. x ∷ ws) words ∙ ap (λ l. v ∷ l) (open-same (c + 1) ws vs (omega (arith, size)) parts.2)
  ]
]

words-of : (n : ℕ) (ws : List ℕ) → ((k : ℕ) → k < n → slice_index ws k ≤ 2 ^ 48 + 1) → AreWords (take n ws)
words-of zero ws small = tt
words-of (suc n) [] small = tt
words-of (suc n) (w ∷ ws) small = (small 0 (omega arith), words-of n ws (λ k below. small (suc k) (omega (arith, below))))

-- the chairs' words, the total and the front are all of a sheet
whole : (words : List ℕ) → length words ≡ 34 → words ≡ take 32 words ++ (slice_index words 32 ∷ slice_index words 33 ∷ [])
whole words size =
    sym (take-append-drop 32 words) ∙ ap (λ l. take 32 words ++ l)
    (drop-cons words 32 0 (omega (arith, size)) ∙ ap (λ l. get_or words 32 0 ∷ l)
    (drop-cons words 33 0 (omega (arith, size)) ∙ ap (λ l. get_or words 33 0 ∷ l) (drop_all 34 words (omega (arith, size)))))

-- what a first line shows
pub record ShowsAlike (r s : ℕ) (i j : Indices) : Type 0 where
  pub reader : decimal r ≡ decimal s
  pub front : decimal i.front ≡ decimal j.front
  pub majority : word_of_majority i.majority ≡ word_of_majority j.majority
  pub total : decimal i.total ≡ decimal j.total

first-line : (r s : ℕ) (i j : Indices) → reading_line r i ≡ reading_line s j → ShowsAlike r s i j
first-line r s i j same =
    let fields = sym (reading-fields r i) ∙ ap (fields_from []) same ∙ reading-fields s j in
    record { reader = cc fields; front = cc fields; majority = cc fields; total = cc fields }

same-majority : (m n : Majority) → word_of_majority m ≡ word_of_majority n → m ≡ n
same-majority m n same = let e = sym (majority-back m) ∙ ap majority_of same ∙ majority-back n in cc e

-- the words of two sheets with the same open chairs, the same total and the same front
same-words : (words others : List ℕ) → length words ≡ 34 → length others ≡ 34 → open_chairs words ≡ open_chairs others
    → slice_index words 32 ≡ slice_index others 32 → slice_index words 33 ≡ slice_index others 33 → words ≡ others
same-words words others size size_others chairs total front =
    whole words size
    ∙ ap (λ l. l ++ (slice_index words 32 ∷ slice_index words 33 ∷ []))
    (open-same 1 (take 32 words) (take 32 others) (length-take-le 32 words (omega (arith, size)) ∙ sym (length-take-le 32 others (omega (arith, size_others)))) chairs)
    ∙ ap (λ n. take 32 others ++ (n ∷ slice_index words 33 ∷ [])) total
    ∙ ap (λ n. take 32 others ++ (slice_index others 32 ∷ n ∷ [])) front
    ∙ sym (whole others size_others)

sheet-small : (words : List ℕ) → IsSheet words → AreSmall (open_chairs words)
sheet-small words is = open-small 1 (take 32 words) (words-of 32 words is.chairs) (omega (arith, length-take 32 words))

pub reading-law : (r s : ℕ) (m n : Majority) (words others : List ℕ) → IsReading r words → IsReading s others → reading_lines r m words ≡ reading_lines s n others → (r ≡ s) × (m ≡ n) × (words ≡ others)
reading-law r s m n words others is_r is_s same =
    let shown = first-line r s (indices_of m words) (indices_of n others) (cc same) in
    let rows : map chair_line (indices_of m words).rows.items ≡ map chair_line (indices_of n others).rows.items = cc same in
    let chairs : open_chairs words ≡ open_chairs others = same-chairs _ _ (λ c. (refl, refl)) (λ c. (refl, refl)) (open_chairs words) (open_chairs others) (sheet-small words is_r.sheet) (sheet-small others is_s.sheet) rows in (
      decimal_injective r s is_r.number is_s.number shown.reader,
      same-majority m n shown.majority,
      same-words words others is_r.size is_s.size chairs
          (decimal_injective _ _ (omega (arith, is_r.sheet.total)) (omega (arith, is_s.sheet.total)) shown.total)
          (decimal_injective _ _ (omega (arith, is_r.sheet.front)) (omega (arith, is_s.sheet.front)) shown.front),
    )
