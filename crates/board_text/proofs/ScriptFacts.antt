-- How a read of a record takes the first of the records that are left.
use Rattle.std.proofs.Common.{◌≡◌, ◌+◌, ◌<◌, ◌≤◌, ℕ, zero, suc, Bool, true, false, cond, List, [], ◌∷◌, ◌++◌, length, Option, Some, None, refl, sym, ap, ◌∙◌, arith, add-one, MatchBool}
use Rattle.csv.specs.Machine.{Read, next_record, ends_at_end, is_end, step, fields_after, field_after}
use Rattle.csv.specs.Reading.{default_config, has_failed, is_bom, strip_bom, NextIs, pending_of, reader_config, ReadRecord, ReadsNext, records_from, records_next, source_of}
use Rattle.csv.specs.declared.parser.Config.{Config}
use Rattle.csv.specs.declared.parser.State.{State}
use Rattle.csv.specs.declared.parser.State.TheVariants as st
use Rattle.board_text.specs.Script.{SliceReader, records_after, records_left, slice_left}

-- what a record leaves of a text: less than the text, or nothing, at the start of a record
abbrev pub LeavesLess : List ℕ → Read → Type 0
LeavesLess [] q = (q.1 ≡ st.StartRecord) × (q.2 ≡ [])
LeavesLess (c ∷ rest) q = length q.2 ≤ length rest

at-most : (xs : List ℕ) (q : Read) → LeavesLess xs q → length q.2 ≤ length xs
at-most [] q h = omega (arith, ap length h.1)
at-most (c ∷ rest) q h = omega arith

last-leaves : (b : Bool) (fields : List (List ℕ)) (q : Read) → cond b (Some (fields, st.StartRecord, [])) None ≡ Some q → LeavesLess [] q
last-leaves true fields q e = (cc, cc)
last-leaves false fields q e = cc

ended-leaves : (b : Bool) (c : ℕ) (rest : List ℕ) (p q : Read) (o : Option Read) → p.2 ≡ rest → (o ≡ Some q → LeavesLess rest q) → cond b (Some p) o ≡ Some q → LeavesLess (c ∷ rest) q
ended-leaves true c rest p q o e h s = let same : p ≡ q = cc in omega (arith, ap (λ (r : Read). length r.2) same, ap length e)
ended-leaves false c rest p q o e h s = at-most rest q (h s)

pub next-leaves : (cfg : Config) (s : State) (fields : List (List ℕ)) (field xs : List ℕ) (q : Read) → next_record cfg s fields field xs ≡ Some q → LeavesLess xs q
unfolding next_record
next-leaves cfg s fields field [] q e = last-leaves (ends_at_end s) (fields ++ (field ∷ [])) q e
next-leaves cfg s fields field (c ∷ rest) q e =
    ended-leaves (is_end (step cfg s c).1) c rest (fields_after (step cfg s c).1 fields field, (step cfg s c).0, rest) q _ refl
    (next-leaves cfg (step cfg s c).0 (fields_after (step cfg s c).1 fields field) (field_after (step cfg s c).1 c field) rest q) e

-- no record is left at the end of a text, at the start of a record
none-at-end : (cfg : Config) (n : ℕ) → records_from cfg n st.StartRecord [] ≡ []
unfolding records_from next_record
none-at-end cfg zero = refl
none-at-end cfg (suc n) = refl

same-next : (cfg : Config) (n m : ℕ) (xs : List ℕ) (o : Option Read) → ((q : Read) → o ≡ Some q → LeavesLess xs q)
    → ((s : State) (ys : List ℕ) → length ys < n → length ys < m → records_from cfg n s ys ≡ records_from cfg m s ys)
    → length xs < suc n → length xs < suc m → records_next (records_from cfg n) o ≡ records_next (records_from cfg m) o
same-next cfg n m xs None leaves more hn hm = refl
same-next cfg n m [] (Some p) leaves more hn hm =
    let l = leaves p refl in
    ap (λ rs. p.0 ∷ rs) (rw (l.0, l.1) (none-at-end cfg n ∙ sym (none-at-end cfg m)))
same-next cfg n m (c ∷ rest) (Some p) leaves more hn hm =
    let l = leaves p refl in
    ap (λ rs. p.0 ∷ rs) (more p.1 p.2 (omega arith) (omega arith))

-- any number of turns above the length of a text gives the same records
pub same-records : (cfg : Config) (n m : ℕ) (s : State) (xs : List ℕ) → length xs < n → length xs < m → records_from cfg n s xs ≡ records_from cfg m s xs
unfolding records_from
same-records cfg zero m s xs hn hm = absurd (omega arith)
same-records cfg (suc n) zero s xs hn hm = absurd (omega arith)
same-records cfg (suc n) (suc m) s xs hn hm =
    same-next cfg n m xs (next_record cfg s [] [] xs) (λ q e. next-leaves cfg s [] [] xs q e) (λ t ys a b. same-records cfg n m t ys a b) hn hm

-- the records after one that was read
after-first : (xs : List ℕ) (p : Read) → LeavesLess xs p → records_from default_config (length xs) p.1 p.2 ≡ records_after p.1 (Some p.2)
after-first [] p l = rw (l.0, l.1) (none-at-end default_config _ ∙ sym (none-at-end default_config _))
after-first (c ∷ rest) p l = same-records default_config (length (c ∷ rest)) (length p.2 + 1) p.1 p.2 (omega arith) (omega arith)

first-left : (xs : List ℕ) (o : Option Read) (found : Bool) (fields : List (List ℕ)) (s2 : State) (z : List ℕ)
    → ((q : Read) → o ≡ Some q → LeavesLess xs q) → NextIs o found fields s2 z
    → MatchBool found (records_next (records_from default_config (length xs)) o ≡ fields ∷ records_after s2 (Some z)) (records_next (records_from default_config (length xs)) o ≡ [])
first-left xs None found fields s2 z leaves n = rw n refl
first-left xs (Some p) found fields s2 z leaves n =
    rw (n.0, n.1, n.2, n.3) (ap (λ rs. p.0 ∷ rs) (after-first xs p (leaves p refl)))

next-left-of : (s s2 : State) (xs : List ℕ) (k : Option (List ℕ)) (found : Bool) (fields : List (List ℕ)) → ReadsNext default_config s (Some xs) k found fields s2
    → MatchBool found (records_after s (Some xs) ≡ fields ∷ records_after s2 k) (records_after s (Some xs) ≡ [])
unfolding records_from
next-left-of s s2 xs None found fields r = absurd r
next-left-of s s2 xs (Some z) found fields r =
    rw add-one (first-left xs (next_record default_config s [] [] xs) found fields s2 z (λ q e. next-leaves default_config s [] [] xs q e) r)

some-of : (b : Bool) (u v : List ℕ) → (y : List ℕ) × (cond b (Some u) (Some v) ≡ Some y)
some-of true u v = (u, refl)
some-of false u v = (v, refl)

-- the bytes that a reader of a slice has left are known, unless it has failed
pub source-known : (a : SliceReader) → has_failed a ≡ false → (y : List ℕ) × (source_of slice_left a ≡ Some y)
source-known a e = rw e (some-of _ _ _)

left-by : (a b : SliceReader) (failed : Bool) (found : Bool) (fields : List (List ℕ)) → has_failed a ≡ failed
    → (has_failed a ≡ false → (reader_config a ≡ default_config) × ReadRecord slice_left a b found fields)
    → (has_failed a ≡ true → found ≡ false)
    → MatchBool found (records_left a ≡ fields ∷ records_left b) (records_left a ≡ [])
left-by a b true found fields e reads none = rw (none e, e) refl
left-by a b false found fields e reads none =
    let r = reads e in
    let y = source-known a e in
    let next = rw (r.0, y.1) at r.1.0 in
    let left = next-left-of a.state b.state y.0 (pending_of (slice_left b.rdr) b) found fields next in
    rw (y.1, r.1.1) left

-- a read takes the first of the records that are left, or there are none
pub takes-first : (a b : SliceReader) (found : Bool) (fields : List (List ℕ))
    → (has_failed a ≡ false → (reader_config a ≡ default_config) × ReadRecord slice_left a b found fields)
    → (has_failed a ≡ true → found ≡ false)
    → MatchBool found (records_left a ≡ fields ∷ records_left b) (records_left a ≡ [])
takes-first a b found fields = left-by a b (has_failed a) found fields refl

-- a text has no more records than turns
count-next : (cfg : Config) (n : ℕ) (o : Option Read) → ((s : State) (xs : List ℕ) → length (records_from cfg n s xs) ≤ n) → length (records_next (records_from cfg n) o) ≤ suc n
count-next cfg n None more = omega arith
count-next cfg n (Some p) more = omega (arith, more p.1 p.2)

pub count-records : (cfg : Config) (n : ℕ) (s : State) (xs : List ℕ) → length (records_from cfg n s xs) ≤ n
unfolding records_from
count-records cfg zero s xs = omega arith
count-records cfg (suc n) s xs = count-next cfg n (next_record cfg s [] [] xs) (λ t ys. count-records cfg n t ys)

shorter-by : (t : Bool) (a b c : ℕ) (rest : List ℕ) → length (cond t rest (a ∷ b ∷ c ∷ rest)) ≤ length (a ∷ b ∷ c ∷ rest)
shorter-by true a b c rest = omega arith
shorter-by false a b c rest = omega arith

pub strip-shorter : (xs : List ℕ) → length (strip_bom xs) ≤ length xs
unfolding strip_bom
strip-shorter [] = omega arith
strip-shorter (a ∷ []) = omega arith
strip-shorter (a ∷ b ∷ []) = omega arith
strip-shorter (a ∷ b ∷ c ∷ rest) = shorter-by (is_bom a b c) a b c rest

pub count-left : (a : SliceReader) (text : List ℕ) → source_of slice_left a ≡ Some (strip_bom text) → length (records_left a) ≤ length text + 1
count-left a text e = rw e (omega (arith, count-records default_config (length (strip_bom text) + 1) a.state (strip_bom text), strip-shorter text))
