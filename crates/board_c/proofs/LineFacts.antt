-- Records that stand on one line.
use Rattle.std.proofs.Common.{if◌then◌else◌, ◌≡◌, ◌⊎◌, inl, inr, ◌+◌, ◌==◌, ◌<◌, ◌||◌, ◌&&◌, not, ℕ, zero, suc, Bool, true, false, List, [], ◌∷◌, ◌++◌, length, Option, Some, None, refl, sym, ap, ◌∙◌, arith, append_assoc, add-one}
use Rattle.std.proofs.lemmas.List.{length-append}
use Rattle.std.proofs.lemmas.Bool.{cases_Bool, eqb-true}
use Rattle.std.proofs.lemmas.List.Folds.{list_all-append}
use Rattle.std.specs.List.{list_all}
use Rattle.csv.specs.Machine.{Read, next_record, ends_at_end, is_end, step, fields_after, field_after}
use Rattle.csv.specs.Reading.{default_config, records, records_from, records_next}
use Rattle.csv.specs.declared.parser.State.{State}
use Rattle.csv.specs.declared.parser.State.TheVariants as st
use Rattle.csv.specs.declared.parser.Action.{Action}
use Rattle.csv.specs.declared.parser.Action.TheVariants as act
use Rattle.board_c.specs.Spans.{is_in_line, is_line_end, is_one_line}
use Rattle.board_c.specs.TextLines.{is_plain}
use Rattle.board_text.proofs.Face.{same-records}

pub and-left : (a b : Bool) → (a && b) ≡ true → a ≡ true
and-left true b e = refl
and-left false b e = cc

pub and-right : (a b : Bool) → (a && b) ≡ true → b ≡ true
and-right true b e = e
and-right false b e = cc

-- a byte within a line is neither of the bytes that end one
neither : (a b : Bool) → not (a || b) ≡ true → (a ≡ false) × (b ≡ false)
neither true b e = cc
neither false true e = cc
neither false false e = (refl, refl)

-- the state of a machine that has read a part of a record
abbrev pub is_inside : State → Bool
is_inside st.StartRecord = false
is_inside st.StartField = true
is_inside st.InField = true
is_inside st.InQuoted = true
is_inside st.AfterQuote = true
is_inside st.InEscape = false
is_inside st.InComment = false
is_inside st.AfterCr = false

-- a byte within a line ends no record
abbrev IsSameOutput : State → ℕ → Type 0
IsSameOutput s c = (is_inside (step default_config s c).0 ≡ true) × (is_end (step default_config s c).1 ≡ false)

goes-on : (s : State) (c : ℕ) → is_inside s ≡ true → is_in_line c ≡ true → IsSameOutput s c
goes-on st.StartRecord c i e = cc
goes-on st.InEscape c i e = cc
goes-on st.InComment c i e = cc
goes-on st.AfterCr c i e = cc
goes-on st.InQuoted c i e = elim (cases_Bool (c == 34)) [
  | inl q ↦ rw q (refl, refl)
  | inr q ↦ rw q (refl, refl)
]
goes-on st.InField c i e = let n = neither (c == 13) (c == 10) e in elim (cases_Bool (c == 44)) [
  | inl d ↦ rw d (refl, refl)
  | inr d ↦ rw (d, n.0, n.1) (refl, refl)
]
goes-on st.StartField c i e = let n = neither (c == 13) (c == 10) e in elim (cases_Bool (c == 34)) [
  | inl q ↦ rw q (refl, refl)
  | inr q ↦ elim (cases_Bool (c == 44)) [
    | inl d ↦ rw (q, d) (refl, refl)
    | inr d ↦ rw (q, d, n.0, n.1) (refl, refl)
  ]
]
goes-on st.AfterQuote c i e = let n = neither (c == 13) (c == 10) e in elim (cases_Bool (c == 34)) [
  | inl q ↦ rw q (refl, refl)
  | inr q ↦ elim (cases_Bool (c == 44)) [
    | inl d ↦ rw (q, d) (refl, refl)
    | inr d ↦ rw (q, d, n.0, n.1) (refl, refl)
  ]
]

-- likewise one that starts a record
begins : (c : ℕ) → is_in_line c ≡ true → IsSameOutput st.StartRecord c
begins c e = let n = neither (c == 13) (c == 10) e in elim (cases_Bool (c == 34)) [
  | inl q ↦ rw (n.0, n.1, q) (refl, refl)
  | inr q ↦ elim (cases_Bool (c == 44)) [
    | inl d ↦ rw (n.0, n.1, q, d) (refl, refl)
    | inr d ↦ rw (n.0, n.1, q, d) (refl, refl)
  ]
]

plain-more : (fields : List (List ℕ)) (field : List ℕ) → is_plain (fields ++ field ∷ []) ≡ true → (is_plain fields ≡ true) × (is_one_line field ≡ true)
plain-more fields field e =
    let both = rw (list_all-append is_one_line fields (field ∷ [])) at e in
    let here = and-right (is_plain fields) _ both in
    (and-left (is_plain fields) _ both, and-left (is_one_line field) true here)

line-more : (field : List ℕ) (c : ℕ) → is_one_line (field ++ c ∷ []) ≡ true → (is_one_line field ≡ true) × (is_in_line c ≡ true)
line-more field c e =
    let both = rw (list_all-append is_in_line field (c ∷ [])) at e in
    let here = and-right (is_one_line field) _ both in
    (and-left (is_one_line field) _ both, and-left (is_in_line c) true here)

-- what was read of a record with no line end has none
abbrev Plain : List (List ℕ) → List ℕ → Type 0
Plain fields field = (is_plain fields ≡ true) × (is_one_line field ≡ true)

plain-before : (a : Action) (c : ℕ) (fields : List (List ℕ)) (field : List ℕ) → is_end a ≡ false → Plain (fields_after a fields field) (field_after a c field) → Plain fields field
plain-before act.EndRecord c fields field e p = cc
plain-before act.Skip c fields field e p = p
plain-before act.Copy c fields field e p = (p.0, (line-more field c p.1).0)
plain-before act.EndField c fields field e p = plain-more fields field p.0

plain-ended : (a : Action) (fields : List (List ℕ)) (field : List ℕ) → is_end a ≡ true → is_plain (fields_after a fields field) ≡ true → Plain fields field
plain-ended act.EndRecord fields field e p = plain-more fields field p
plain-ended act.Skip fields field e p = cc
plain-ended act.Copy fields field e p = cc
plain-ended act.EndField fields field e p = cc

plain-last : (b : Bool) (fields : List (List ℕ)) (field : List ℕ) (q : Read) → (if b then Some (fields ++ (field ∷ []), st.StartRecord, []) else None) ≡ Some q → is_plain q.0 ≡ true → Plain fields field
plain-last true fields field q e p = plain-more fields field (let same : q.0 ≡ fields ++ (field ∷ []) = cc in ap is_plain (sym same) ∙ p)
plain-last false fields field q e p = cc

plain-either : (b : Bool) (p q : Read) (o : Option Read) (G : Type 0) → (b ≡ true → p ≡ q → G) → (b ≡ false → o ≡ Some q → G) → (if b then Some p else o) ≡ Some q → G
plain-either true p q o G f g e = f refl cc
plain-either false p q o G f g e = g refl e

plain-first : (s : State) (fields : List (List ℕ)) (field text : List ℕ) (q : Read) → next_record default_config s fields field text ≡ Some q → is_plain q.0 ≡ true → Plain fields field
unfolding next_record
plain-first s fields field [] q e p = plain-last (ends_at_end s) fields field q e p
plain-first s fields field (c ∷ rest) q e p =
    let a = (step default_config s c).1 in
    plain-either (is_end a) (fields_after a fields field, (step default_config s c).0, rest) q _ _
    (λ t same. plain-ended a fields field t (ap (λ (r : Read). is_plain r.0) same ∙ p))
    (λ t next. plain-before a c fields field t (plain-first (step default_config s c).0 (fields_after a fields field) (field_after a c field) rest q next p))
    e

-- a text that is empty or starts with a line end
abbrev pub IsBounded : List ℕ → Type 0
IsBounded [] = Unit {0}
IsBounded (c ∷ rest) = is_line_end c ≡ true

-- `other` may take the place of `rest` after a record of a text
abbrev pub MayFollow : List ℕ → List ℕ → Type 0
MayFollow [] other = other ≡ []
MayFollow (c ∷ rest) other = is_line_end c ≡ true → IsBounded other

-- the state and the text after a line's record
abbrev pub state_after : List ℕ → State
state_after [] = st.StartRecord
state_after (c ∷ rest) = if c == 13 then st.AfterCr else st.StartRecord

abbrev pub text_after : List ℕ → List ℕ
text_after [] = []
text_after (c ∷ rest) = rest

not-within : (c : ℕ) → is_line_end c ≡ true → is_in_line c ≡ true → ⊥
not-within c e i = cc (rw e at i)

abbrev Ends : State → List (List ℕ) → List ℕ → List ℕ → Type 0
Ends s fields field other = next_record default_config s fields field other ≡ Some (fields ++ field ∷ [], state_after other, text_after other)

either-end : (a b : Bool) → (a || b) ≡ true → (a ≡ true) ⊎ ((a ≡ false) × (b ≡ true))
either-end true b e = inl refl
either-end false b e = inr (refl, e)

-- a line end is neither a comma nor a quote
end-not : (c : ℕ) → is_line_end c ≡ true → ((c == 44) ≡ false) × ((c == 34) ≡ false)
end-not c e = elim (either-end (c == 13) (c == 10) e) [
  | inl r ↦ let same : c ≡ 13 = eqb-true c 13 r in rw same (refl, refl)
  | inr n ↦ let same : c ≡ 10 = eqb-true c 10 n.1 in rw same (refl, refl)
]

-- outside quotes a line end ends a record
ends-at : (s : State) (fields : List (List ℕ)) (field : List ℕ) (c : ℕ) (rest : List ℕ) → (s ≡ st.InField) ⊎ (s ≡ st.StartField) ⊎ (s ≡ st.AfterQuote) → is_line_end c ≡ true → Ends s fields field (c ∷ rest)
unfolding next_record
ends-at s fields field c rest is e =
    let n = end-not c e in
    elim is [
      | inl same ↦ rw (same, n.0, e) refl
      | inr other ↦ elim other [
        | inl same ↦ rw (same, n.1, n.0, e) refl
        | inr same ↦ rw (same, n.1, n.0, e) refl
      ]
    ]

at-end : (s : State) (fields : List (List ℕ)) (field : List ℕ) → is_inside s ≡ true → Ends s fields field []
unfolding next_record
at-end st.StartRecord fields field i = cc
at-end st.StartField fields field i = refl
at-end st.InField fields field i = refl
at-end st.InQuoted fields field i = refl
at-end st.AfterQuote fields field i = refl
at-end st.InEscape fields field i = cc
at-end st.InComment fields field i = cc
at-end st.AfterCr fields field i = cc

outside-quotes : (s : State) → is_inside s ≡ true → ((s ≡ st.InField) ⊎ (s ≡ st.StartField) ⊎ (s ≡ st.AfterQuote)) ⊎ (s ≡ st.InQuoted)
outside-quotes st.StartRecord i = cc
outside-quotes st.StartField i = inl (inr (inl refl))
outside-quotes st.InField i = inl (inl refl)
outside-quotes st.InQuoted i = inr refl
outside-quotes st.AfterQuote i = inl (inr (inr refl))
outside-quotes st.InEscape i = cc
outside-quotes st.InComment i = cc
outside-quotes st.AfterCr i = cc

-- between quotes a line end joins the field
quoted-end : (fields : List (List ℕ)) (field : List ℕ) (c : ℕ) (rest : List ℕ) → is_line_end c ≡ true
    → next_record default_config st.InQuoted fields field (c ∷ rest) ≡ next_record default_config st.InQuoted fields (field ++ c ∷ []) rest
unfolding next_record
quoted-end fields field c rest e = let n = end-not c e in rw n.1 refl

not-quoted : (fields : List (List ℕ)) (field : List ℕ) (c : ℕ) (rest : List ℕ) (q : Read) → is_line_end c ≡ true
    → next_record default_config st.InQuoted fields field (c ∷ rest) ≡ Some q → is_plain q.0 ≡ true → ⊥
not-quoted fields field c rest q e next p =
    let plain = plain-first st.InQuoted fields (field ++ c ∷ []) rest q (sym (quoted-end fields field c rest e) ∙ next) p in
    not-within c e (line-more field c plain.1).1

-- what ends a record of a line, where a record with no line end is read
end-of : (s : State) (fields : List (List ℕ)) (field rest other : List ℕ) (q : Read) → is_inside s ≡ true → IsBounded rest → MayFollow rest other
    → next_record default_config s fields field rest ≡ Some q → is_plain q.0 ≡ true → Ends s fields field other
end-of s fields field [] other q i b m next p = rw m (at-end s fields field i)
end-of s fields field (c ∷ rest) [] q i b m next p = at-end s fields field i
end-of s fields field (c ∷ rest) (d ∷ more) q i b m next p = elim (outside-quotes s i) [
  | inl out ↦ ends-at s fields field d more out (m b)
  | inr same ↦ absurd (not-quoted fields field c rest q b (rw same at next) p)
]

pub bounded-follows : (rest : List ℕ) → IsBounded rest → MayFollow rest rest
bounded-follows [] b = refl
bounded-follows (c ∷ rest) b = λ e. b

next-on : (s : State) (fields : List (List ℕ)) (field : List ℕ) (c : ℕ) (text : List ℕ) → is_end (step default_config s c).1 ≡ false
    → next_record default_config s fields field (c ∷ text) ≡ next_record default_config (step default_config s c).0 (fields_after (step default_config s c).1 fields field) (field_after (step default_config s c).1 c field) text
unfolding next_record
next-on s fields field c text e = rw e refl

-- a line's record is the same whatever follows the line
line-record : (s : State) (fields : List (List ℕ)) (field line rest other : List ℕ) (q : Read) → is_inside s ≡ true → is_one_line line ≡ true → IsBounded rest → MayFollow rest other
    → next_record default_config s fields field (line ++ rest) ≡ Some q → is_plain q.0 ≡ true → next_record default_config s fields field (line ++ other) ≡ Some (q.0, state_after other, text_after other)
line-record s fields field [] rest other q i l b m next p =
    let here = end-of s fields field rest rest q i b (bounded-follows rest b) next p in
    let same : fields ++ field ∷ [] ≡ q.0 = cc (here, next) in
    end-of s fields field rest other q i b m next p ∙ ap (λ (f : List (List ℕ)). Some (f, state_after other, text_after other)) same
line-record s fields field (c ∷ line) rest other q i l b m next p =
    let g = goes-on s c i (and-left _ _ l) in
    next-on s fields field c (line ++ other) g.1
    ∙ line-record (step default_config s c).0 (fields_after (step default_config s c).1 fields field) (field_after (step default_config s c).1 c field) line rest other q g.0 (and-right (is_in_line c) _ l) b m (sym (next-on s fields field c (line ++ rest) g.1) ∙ next) p

pub line-first : (c : ℕ) (line rest other : List ℕ) (q : Read) → is_one_line (c ∷ line) ≡ true → IsBounded rest → MayFollow rest other
    → next_record default_config st.StartRecord [] [] (c ∷ line ++ rest) ≡ Some q → is_plain q.0 ≡ true
    → next_record default_config st.StartRecord [] [] (c ∷ line ++ other) ≡ Some (q.0, state_after other, text_after other)
line-first c line rest other q l b m next p =
    let g = begins c (and-left _ _ l) in
    next-on st.StartRecord [] [] c (line ++ other) g.1
    ∙ line-record _ _ _ line rest other q g.0 (and-right (is_in_line c) _ l) b m (sym (next-on st.StartRecord [] [] c (line ++ rest) g.1) ∙ next) p

-- a line end before a record changes nothing
end-skipped : (c : ℕ) (text : List ℕ) → is_line_end c ≡ true → next_record default_config st.StartRecord [] [] (c ∷ text) ≡ next_record default_config st.StartRecord [] [] text
unfolding next_record
end-skipped c text e = rw e refl

-- after a carriage return a record starts as it does at the start of a text
after-return : (text : List ℕ) → next_record default_config st.AfterCr [] [] text ≡ next_record default_config st.StartRecord [] [] text
unfolding next_record
after-return [] = refl
after-return (c ∷ rest) = elim (cases_Bool (c == 10)) [
  | inl n ↦ let same : c ≡ 10 = eqb-true c 10 n in rw same refl
  | inr n ↦ rw n refl
]

from-return : (n : ℕ) (text : List ℕ) → records_from default_config n st.AfterCr text ≡ records_from default_config n st.StartRecord text
unfolding records_from
from-return zero text = refl
from-return (suc n) text = ap (records_next (records_from default_config n)) (after-return text)

records-first : (text : List ℕ) (q : Read) → next_record default_config st.StartRecord [] [] text ≡ Some q → records default_config text ≡ q.0 ∷ records_from default_config (length text) q.1 q.2
unfolding records_from
records-first text q e = rw (add-one, e) refl

records-skip : (c : ℕ) (text : List ℕ) → is_line_end c ≡ true → records default_config (c ∷ text) ≡ records default_config text
unfolding records_from
records-skip c text e =
    let one : records_from default_config (length (c ∷ text) + 1) st.StartRecord (c ∷ text) ≡ records_from default_config (length (c ∷ text) + 1) st.StartRecord text = rw add-one (ap (records_next (records_from default_config (length (c ∷ text)))) (end-skipped c text e)) in
    one ∙ same-records default_config (length (c ∷ text) + 1) (length text + 1) st.StartRecord text (omega arith) (omega arith)

records-after : (n : ℕ) (other : List ℕ) → IsBounded other → length other < n → records_from default_config n (state_after other) (text_after other) ≡ records default_config other
records-after n [] b h = same-records default_config n 1 st.StartRecord [] h (omega arith)
records-after n (d ∷ more) b h =
    let tail : records_from default_config n st.StartRecord more ≡ records default_config (d ∷ more) = same-records default_config n (length more + 1) st.StartRecord more (omega arith) (omega arith) ∙ sym (records-skip d more b) in
    elim (cases_Bool (d == 13)) [
      | inl r ↦ rw r (from-return n more ∙ tail)
      | inr r ↦ rw r tail
    ]

some-read : (o : Option Read) (next : State → List ℕ → List (List (List ℕ))) (row : List (List ℕ)) (more : List (List (List ℕ))) → records_next next o ≡ row ∷ more → (q : Read) × (o ≡ Some q) × (q.0 ≡ row)
some-read None next row more e = cc
some-read (Some q) next row more e = (q, refl, cc)

first-read : (text : List ℕ) (row : List (List ℕ)) (more : List (List (List ℕ))) → records default_config text ≡ row ∷ more → (q : Read) × (next_record default_config st.StartRecord [] [] text ≡ Some q) × (q.0 ≡ row)
unfolding records_from
first-read text row more e = some-read (next_record default_config st.StartRecord [] [] text) (records_from default_config (length text)) row more (rw add-one at e)

follows-bounded : (rest other : List ℕ) → IsBounded rest → MayFollow rest other → IsBounded other
follows-bounded [] other b m = rw m tt
follows-bounded (c ∷ rest) other b m = m b

-- a line's record, and then those of the text after the line
pub line-reads : (c : ℕ) (line rest other : List ℕ) (row : List (List ℕ)) (more : List (List (List ℕ))) → is_one_line (c ∷ line) ≡ true → IsBounded rest → is_plain row ≡ true
    → records default_config (c ∷ line ++ rest) ≡ row ∷ more → MayFollow rest other → records default_config (c ∷ line ++ other) ≡ row ∷ records default_config other
line-reads c line rest other row more l b p e m =
    let w = first-read (c ∷ line ++ rest) row more e in
    let next = line-first c line rest other w.0 l b m w.1 (ap is_plain w.2 ∙ p) in
    let first = records-first (c ∷ line ++ other) _ next in
    let tail = records-after (length (c ∷ line ++ other)) other (follows-bounded rest other b m) (omega (arith, length-append (c ∷ line) other)) in
    first ∙ ap (λ r. r ∷ records_from default_config (length (c ∷ line ++ other)) (state_after other) (text_after other)) w.2 ∙ ap (λ rs. row ∷ rs) tail

pub gap-skipped : (gap text : List ℕ) → list_all is_line_end gap ≡ true → records default_config (gap ++ text) ≡ records default_config text
gap-skipped [] text e = refl
gap-skipped (c ∷ gap) text e = records-skip c (gap ++ text) (and-left _ _ e) ∙ gap-skipped gap text (and-right (is_line_end c) _ e)

-- the records of `before` are these, and those of the bytes after it follow
pub record IsRead (before : List ℕ) (rows : List (List (List ℕ))) (rest : List ℕ) : Type 0 where
  pub reads : (other : List ℕ) → MayFollow rest other → records default_config (before ++ other) ≡ rows ++ records default_config other

pub follows-itself : (rest : List ℕ) → MayFollow rest rest
follows-itself [] = refl
follows-itself (c ∷ rest) = λ e. e

pub read-none : (text : List ℕ) → IsRead [] [] text
read-none text = record { reads = λ other m. refl }

pub gap-follows : (gap : List ℕ) (c : ℕ) (tail other : List ℕ) → is_in_line c ≡ true → MayFollow (gap ++ c ∷ tail) (gap ++ other)
gap-follows [] c tail other i = λ e. absurd (not-within c e i)
gap-follows (g ∷ gap) c tail other i = λ e. e

-- up to a line
pub read-gap : (before gap : List ℕ) (c : ℕ) (tail : List ℕ) (rows : List (List (List ℕ))) → IsRead before rows (gap ++ c ∷ tail) → list_all is_line_end gap ≡ true → is_in_line c ≡ true
    → (other : List ℕ) → records default_config ((before ++ gap) ++ other) ≡ rows ++ records default_config other
read-gap before gap c tail rows h g i other =
    rw (append_assoc before gap other) (h.reads (gap ++ other) (gap-follows gap c tail other i) ∙ ap (λ rs. rows ++ rs) (gap-skipped gap other g))

-- and past it
pub read-line : (before gap : List ℕ) (c : ℕ) (line rest : List ℕ) (rows : List (List (List ℕ))) (row : List (List ℕ)) (more : List (List (List ℕ))) → IsRead before rows (gap ++ (c ∷ line ++ rest)) → list_all is_line_end gap ≡ true
    → is_one_line (c ∷ line) ≡ true → IsBounded rest → is_plain row ≡ true → records default_config (gap ++ (c ∷ line ++ rest)) ≡ row ∷ more → IsRead ((before ++ gap) ++ c ∷ line) (rows ++ row ∷ []) rest
read-line before gap c line rest rows row more h g l b p e = record {
  reads = λ other m. rw (append_assoc (before ++ gap) (c ∷ line) other, append_assoc rows (row ∷ []) (records default_config other))
      (read-gap before gap c (line ++ rest) rows h g (and-left _ _ l) (c ∷ line ++ other)
      ∙ ap (λ rs. rows ++ rs) (line-reads c line rest other row more l b p (sym (gap-skipped gap (c ∷ line ++ rest) g) ∙ e) m));
}
