-- The text of records, read by csv.
use Rattle.std.proofs.Common.{◌≡◌, ◌==◌, ◌&&◌, ◌<◌, ◌≤◌, ◌+◌, ◌^◌, ◌%◌, ℕ, zero, suc, Bool, true, false, List, [], ◌∷◌, ◌++◌, length, Some, refl, sym, ap, ◌∙◌, arith, append_assoc, map, length-append}
use Rattle.std.specs.Prelude.{decimal}
use Rattle.std.specs.List.{list_any}
use Rattle.std.proofs.lemmas.Bool.{eqb-true, false_from_ne_true, false≢true, or_parts, or_from, and_parts}
use Rattle.std.proofs.lemmas.Bool.Decides.{nat_tests}
use Rattle.std.proofs.lemmas.Fmt.{decimal_by_steps}
use Rattle.std.proofs.lemmas.List.Folds.{list_any-append}
use Rattle.csv.specs.Machine.{next_record}
use Rattle.csv.specs.Reading.{default_config, records, records_from}
use Rattle.csv.specs.Writing.{default_writer, escaped, needs_byte}
use Rattle.csv.specs.declared.parser.State.TheVariants as st
use Rattle.csv.proofs.RoundTrip.{after-quote-same, plain-run, quoted-run, record-same, start-same}
use Rattle.council_core.specs.Codes.{IsCode, is_capital}
use Rattle.board_text.specs.Requests.{Row}
use Rattle.board_text.specs.Writing.{Field, bytes_of, field_text, fields_text, quoted_as, row_text, rows_text}

-- no byte of a field is a comma, a quote or part of a line end
abbrev pub IsPlain : List ℕ → Type 0
IsPlain field = list_any (needs_byte default_writer) field ≡ false

abbrev pub ArePlain : Row → Type 0
ArePlain [] = Unit {0}
ArePlain (field ∷ fields) = IsPlain field × ArePlain fields

-- a plain byte is no mark of the format
no-mark : (b mark : ℕ) → needs_byte default_writer mark ≡ true → needs_byte default_writer b ≡ false → (b == mark) ≡ false
no-mark b mark marked plain =
    false_from_ne_true (b == mark) (λ t. false≢true (sym plain ∙ ap (needs_byte default_writer) (eqb-true b mark t) ∙ marked))

escaped-plain : (x : List ℕ) → IsPlain x → escaped default_writer x ≡ x
unfolding escaped
escaped-plain [] plain = refl
escaped-plain (b ∷ bs) plain =
    let parts = or_parts _ _ plain in
    rw (no-mark b 34 refl parts.0) (ap (λ l. b ∷ l) (escaped-plain bs parts.1))

module _ (done : List (List ℕ)) (c : ℕ) (tail : List ℕ) (other : (c == 34) ≡ false) where
  plain-start : (x : List ℕ) → IsPlain x → next_record default_config st.StartField done [] (x ++ (c ∷ tail)) ≡ next_record default_config st.InField done x (c ∷ tail)
  plain-start [] plain = start-same done [] c tail other
  plain-start (b ∷ bs) plain =
      start-same done [] b (bs ++ (c ∷ tail)) (no-mark b 34 refl (or_parts _ _ plain).0)
      ∙ plain-run done [] (b ∷ bs) (c ∷ tail) plain

  -- a field, quoted or not, with what comes after it
  field-read : (quoted : Bool) (x : List ℕ) → IsPlain x → next_record default_config st.StartField done [] (quoted_as quoted x ++ (c ∷ tail)) ≡ next_record default_config st.InField done x (c ∷ tail)
  unfolding next_record
  field-read false x plain = plain-start x plain
  field-read true x plain =
      let text : (x ++ 34 ∷ []) ++ (c ∷ tail) ≡ escaped default_writer x ++ (34 ∷ c ∷ tail) =
      append_assoc x (34 ∷ []) (c ∷ tail) ∙ ap (λ l. l ++ (34 ∷ c ∷ tail)) (sym (escaped-plain x plain)) in
      rw text (quoted-run done [] x (c ∷ tail) ∙ after-quote-same done x c tail other)

-- a field with the fields after it
field-then : (done : List (List ℕ)) (f : Field) (fs : List Field) (tail : List ℕ) → IsPlain f.bytes
    → next_record default_config st.StartField done [] (field_text f ++ (fields_text fs ++ tail)) ≡ next_record default_config st.InField done f.bytes (fields_text fs ++ tail)
field-then done f [] tail plain = field-read done 10 tail refl f.quoted f.bytes plain
field-then done f (g ∷ gs) tail plain = field-read done 44 ((field_text g ++ fields_text gs) ++ tail) refl f.quoted f.bytes plain

comma-read : (done : List (List ℕ)) (x tail : List ℕ) → next_record default_config st.InField done x (44 ∷ tail) ≡ next_record default_config st.StartField (done ++ x ∷ []) [] tail
unfolding next_record
comma-read done x tail = refl

-- the fields after one that was read, and the line end
rest-read : (done : List (List ℕ)) (x : List ℕ) (fs : List Field) (tail : List ℕ) → ArePlain (bytes_of fs)
    → next_record default_config st.InField done x (fields_text fs ++ tail) ≡ Some (done ++ (x ∷ bytes_of fs), st.StartRecord, tail)
unfolding next_record
rest-read done x [] tail plain = refl
rest-read done x (f ∷ fs) tail plain =
    comma-read done x ((field_text f ++ fields_text fs) ++ tail)
    ∙ ap (λ l. next_record default_config st.StartField (done ++ x ∷ []) [] l) (append_assoc (field_text f) (fields_text fs) tail)
    ∙ field-then (done ++ x ∷ []) f fs tail plain.0
    ∙ rest-read (done ++ x ∷ []) f.bytes fs tail plain.1
    ∙ ap (λ l. Some (l, st.StartRecord, tail)) (append_assoc done (x ∷ []) (f.bytes ∷ bytes_of fs))

-- a record with a field in front that isn't empty, so that its line isn't blank
abbrev pub HasStart : Row → Type 0
HasStart [] = ⊥
HasStart (field ∷ fields) = 0 < length field

pub record IsPlainRow (row : Row) : Type 0 where
  pub starts : HasStart row
  pub plain : ArePlain row

first-read : (quoted : Bool) (x rest : List ℕ) → 0 < length x → IsPlain x
    → next_record default_config st.StartRecord [] [] (quoted_as quoted x ++ rest) ≡ next_record default_config st.StartField [] [] (quoted_as quoted x ++ rest)
first-read true x rest some plain = record-same [] [] 34 _ refl refl
first-read false [] rest some plain = absurd (omega (arith, some))
first-read false (b ∷ bs) rest some plain =
    let byte = (or_parts _ _ plain).0 in
    record-same [] [] b (bs ++ rest) (no-mark b 13 refl byte) (no-mark b 10 refl byte)

row-read : (fs : List Field) (tail : List ℕ) → IsPlainRow (bytes_of fs) → next_record default_config st.StartRecord [] [] (row_text fs ++ tail) ≡ Some (bytes_of fs, st.StartRecord, tail)
row-read [] tail row = absurd row.starts
row-read (f ∷ fs) tail row =
    ap (λ l. next_record default_config st.StartRecord [] [] l) (append_assoc (field_text f) (fields_text fs) tail)
    ∙ first-read f.quoted f.bytes (fields_text fs ++ tail) row.starts row.plain.0
    ∙ field-then [] f fs tail row.plain.0
    ∙ rest-read [] f.bytes fs tail row.plain.1

abbrev pub ArePlainRows : List Row → Type 0
ArePlainRows [] = Unit {0}
ArePlainRows (row ∷ rows) = IsPlainRow row × ArePlainRows rows

rows-from : (n : ℕ) (rows : List (List Field)) → ArePlainRows (map bytes_of rows) → length rows ≤ n → records_from default_config n st.StartRecord (rows_text rows) ≡ map bytes_of rows
unfolding records_from next_record
rows-from zero [] plain fits = refl
rows-from (suc n) [] plain fits = refl
rows-from zero (row ∷ rows) plain fits = absurd (omega (arith, fits))
rows-from (suc n) (row ∷ rows) plain fits =
    rw (row-read row (rows_text rows) plain.0) (ap (λ rs. bytes_of row ∷ rs) (rows-from n rows plain.1 (omega (arith, fits))))

ends : (fs : List Field) → 0 < length (fields_text fs)
ends [] = omega arith
ends (f ∷ fs) = omega arith

some-bytes : (row : List Field) → 0 < length (row_text row)
some-bytes [] = omega arith
some-bytes (f ∷ fs) = omega (arith, length-append (field_text f) (fields_text fs), ends fs)

no-more-rows : (rows : List (List Field)) → length rows ≤ length (rows_text rows)
no-more-rows [] = omega arith
no-more-rows (row ∷ rows) = omega (arith, length-append (row_text row) (rows_text rows), some-bytes row, no-more-rows rows)

-- the records of a text are those that were written
pub rows-read : (rows : List (List Field)) → ArePlainRows (map bytes_of rows) → records default_config (rows_text rows) ≡ map bytes_of rows
rows-read rows plain = rows-from (length (rows_text rows) + 1) rows plain (omega (arith, no-more-rows rows))

-- digits are plain, and so are the capitals of a code
digit-plain : (d : ℕ) → d < 10 → needs_byte default_writer (48 + d) ≡ false
digit-plain d digit = grind (arith, nat_tests)

number-one : (n : ℕ) → n < 10 → IsPlain ((48 + n) ∷ [])
number-one n small = or_from _ _ (digit-plain n small) refl

number-more : (n : ℕ) (ds : List ℕ) → 10 ≤ n → IsPlain ds → IsPlain (ds ++ ((48 + n % 10) ∷ []))
number-more n ds large plain = list_any-append (needs_byte default_writer) ds ((48 + n % 10) ∷ []) ∙ or_from _ _ plain (number-one (n % 10) (omega arith))

pub number-plain : (n : ℕ) → n < 2 ^ 64 → IsPlain (decimal n)
number-plain n fits = decimal_by_steps (λ n ds. IsPlain ds) number-one number-more n fits

capital-plain : (b : ℕ) → is_capital b ≡ true → needs_byte default_writer b ≡ false
capital-plain b capital = grind (arith, nat_tests)

pub code-plain : (code : List ℕ) → IsCode code → IsPlain code
code-plain [] is = refl
code-plain (a ∷ []) is = absurd (false≢true is)
code-plain (a ∷ b ∷ []) is = absurd (false≢true is)
code-plain (a ∷ b ∷ c ∷ []) is =
    let third = and_parts (is_capital a && is_capital b) (is_capital c) is in
    let both = and_parts (is_capital a) (is_capital b) third.0 in
    or_from _ _ (capital-plain a both.0) (or_from _ _ (capital-plain b both.1) (or_from _ _ (capital-plain c third.1) refl))
code-plain (a ∷ b ∷ c ∷ d ∷ rest) is = absurd (false≢true is)

pub code-some : (code : List ℕ) → IsCode code → 0 < length code
code-some [] is = absurd (false≢true is)
code-some (a ∷ rest) is = omega arith
