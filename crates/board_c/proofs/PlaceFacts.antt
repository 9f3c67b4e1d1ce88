-- Where each record of an input stands, one line after the other.
use Rattle.std.proofs.Common.{if◌then◌else◌, ◌≡◌, inl, inr, ◌+◌, ◌≤◌, not, ℕ, zero, suc, Bool, true, false, List, [], ◌∷◌, ◌++◌, length, take, drop, refl, sym, ap, ◌∙◌, arith, append_assoc, append-nil, subst, drop-drop}
use Rattle.std.proofs.lemmas.Bool.{cases_Bool}
use Rattle.std.proofs.lemmas.List.{drop-take, length-drop, take-append-drop}
use Rattle.std.proofs.Math.Seq.{take-add}
use Rattle.std.proofs.lemmas.List.Sums.{prefix_len-le-length}
use Rattle.std.specs.List.{list_all, prefix_len}
use Rattle.csv.specs.Reading.{default_config, is_bom, records, records_from, strip_bom}
use Rattle.csv.specs.Machine.{next_record}
use Rattle.board_text.specs.Requests.{Row}
use Rattle.board_c.specs.Spans.{IsRecordAt, bytes_between, is_in_line, is_line_end, is_one_line, input_rows}
use Rattle.board_c.specs.TextLines.{is_plain, line_after, lines_end, mark_size}
use Rattle.board_c.proofs.LineFacts.{and-left, and-right, IsBounded, IsRead, MayFollow, gap-skipped, line-reads, read-gap, read-line, read-none, follows-itself, bounded-follows}

not-false : (b : Bool) → not b ≡ false → b ≡ true
not-false true e = refl
not-false false e = cc

one-more : (n : ℕ) → 1 + n ≡ suc n
one-more n = omega arith

-- the pieces of a list: the elements that pass a test, up to the first that doesn't
prefix-passes : (p : ℕ → Bool) (xs : List ℕ) → list_all p (take (prefix_len p xs) xs) ≡ true
prefix-passes p [] = refl
prefix-passes p (x ∷ xs) = elim (cases_Bool (p x)) [
  | inl t ↦ rw (t, one-more (prefix_len p xs), t) (prefix-passes p xs)
  | inr f ↦ rw f refl
]

-- what stands behind them
abbrev pub Stops : (ℕ → Bool) → List ℕ → Type 0
Stops p [] = Unit {0}
Stops p (x ∷ xs) = p x ≡ false

prefix-stops : (p : ℕ → Bool) (xs : List ℕ) → Stops p (drop (prefix_len p xs) xs)
prefix-stops p [] = tt
prefix-stops p (x ∷ xs) = elim (cases_Bool (p x)) [
  | inl t ↦ rw (t, one-more (prefix_len p xs)) (prefix-stops p xs)
  | inr f ↦ rw f f
]

-- a byte order mark taken off a front of an input
mark-taken : (m : Bool) (a b c : ℕ) (rest front behind : List ℕ) → is_bom a b c ≡ m → (if m then rest else a ∷ b ∷ c ∷ rest) ≡ front ++ behind → strip_bom (take (if m then 3 else 0) (a ∷ b ∷ c ∷ rest) ++ front) ≡ front
unfolding strip_bom
mark-taken true a b c rest front behind e is = rw e refl
mark-taken false a b c rest [] behind e is = refl
mark-taken false a b c rest (x ∷ []) behind e is = refl
mark-taken false a b c rest (x ∷ y ∷ []) behind e is = refl
mark-taken false a b c rest (x ∷ y ∷ z ∷ front) behind e is =
    let first : a ≡ x = cc in
    let second : b ≡ y = cc in
    let third : c ≡ z = cc in
    rw (← first, ← second, ← third, e) refl

pub mark-off : (input front behind : List ℕ) → strip_bom input ≡ front ++ behind → strip_bom (take (mark_size input) input ++ front) ≡ front
unfolding strip_bom
mark-off [] [] behind is = refl
mark-off [] (x ∷ front) behind is = cc
mark-off (a ∷ []) [] behind is = refl
mark-off (a ∷ []) (x ∷ []) behind is = refl
mark-off (a ∷ []) (x ∷ y ∷ front) behind is = cc
mark-off (a ∷ b ∷ []) [] behind is = refl
mark-off (a ∷ b ∷ []) (x ∷ []) behind is = refl
mark-off (a ∷ b ∷ []) (x ∷ y ∷ []) behind is = refl
mark-off (a ∷ b ∷ []) (x ∷ y ∷ z ∷ front) behind is = cc
mark-off (a ∷ b ∷ c ∷ rest) front behind is = mark-taken (is_bom a b c) a b c rest front behind refl is

marked-by : (m : Bool) (a b c : ℕ) (rest : List ℕ) → (if m then rest else a ∷ b ∷ c ∷ rest) ≡ drop (if m then 3 else 0) (a ∷ b ∷ c ∷ rest)
marked-by true a b c rest = refl
marked-by false a b c rest = refl

pub strip-drop : (input : List ℕ) → strip_bom input ≡ drop (mark_size input) input
unfolding strip_bom
strip-drop [] = refl
strip-drop (a ∷ []) = refl
strip-drop (a ∷ b ∷ []) = refl
strip-drop (a ∷ b ∷ c ∷ rest) = marked-by (is_bom a b c) a b c rest

-- the records before an offset, and those left behind it
pub record IsAt (input : List ℕ) (at : ℕ) (rows left : List Row) : Type 0 where
  pub before : List ℕ
  pub split : strip_bom input ≡ before ++ drop at input
  pub front : take at input ≡ take (mark_size input) input ++ before
  pub inside : at ≤ length input
  pub reads : IsRead before rows (drop at input)
  pub behind : left ≡ records default_config (drop at input)

mark-within : (input : List ℕ) → mark_size input ≤ length input
mark-within [] = omega arith
mark-within (a ∷ []) = omega arith
mark-within (a ∷ b ∷ []) = omega arith
mark-within (a ∷ b ∷ c ∷ rest) = elim (cases_Bool (is_bom a b c)) [
  | inl t ↦ rw t (omega arith)
  | inr f ↦ rw f (omega arith)
]

-- at the start of the text
pub at-start : (input : List ℕ) → IsAt input (mark_size input) [] (input_rows input)
at-start input = record {
  before = [];
  split = strip-drop input;
  front = sym (append-nil (take (mark_size input) input));
  inside = mark-within input;
  reads = read-none (drop (mark_size input) input);
  behind = ap (records default_config) (strip-drop input);
}

none-read : records default_config [] ≡ []
unfolding records_from next_record
none-read = refl

bounded-of : (rest : List ℕ) → Stops is_in_line rest → IsBounded rest
bounded-of [] h = tt
bounded-of (c ∷ rest) h = not-false (is_line_end c) h

-- a line of a text that has a record and doesn't start with a line end
line-starts : (text : List ℕ) (row : Row) (more : List Row) → Stops is_line_end text → records default_config text ≡ row ∷ more
    → (c : ℕ) × (line : List ℕ) × (take (prefix_len is_in_line text) text ≡ c ∷ line)
line-starts [] row more h e = absurd (cc (none-read, e))
line-starts (c ∷ text) row more h e = (c, take (prefix_len is_in_line text) text, rw (h, one-more (prefix_len is_in_line text)) refl)

-- what stands from an offset on: line ends, a line with a byte in it, and the rest
record Pieces (text : List ℕ) (row : Row) (more : List Row) : Type 0 where
  gap : List ℕ
  first : ℕ
  line : List ℕ
  rest : List ℕ
  is : text ≡ gap ++ (first ∷ line ++ rest)
  gap_is : gap ≡ take (prefix_len is_line_end text) text
  line_is : first ∷ line ≡ take (prefix_len is_in_line (drop (prefix_len is_line_end text) text)) (drop (prefix_len is_line_end text) text)
  rest_is : rest ≡ drop (prefix_len is_in_line (drop (prefix_len is_line_end text) text)) (drop (prefix_len is_line_end text) text)
  skipped : list_all is_line_end gap ≡ true
  on_line : is_one_line (first ∷ line) ≡ true
  bounded : IsBounded rest
  reads : records default_config (gap ++ (first ∷ line ++ rest)) ≡ row ∷ more

pieces : (text : List ℕ) (row : Row) (more : List Row) → records default_config text ≡ row ∷ more → Pieces text row more
pieces text row more e =
    let n = prefix_len is_line_end text in
    let tail = drop n text in
    let m = prefix_len is_in_line tail in
    let cut : text ≡ take n text ++ tail = sym (take-append-drop n text) in
    let skip : list_all is_line_end (take n text) ≡ true = prefix-passes is_line_end text in
    let left : records default_config tail ≡ row ∷ more = sym (gap-skipped (take n text) tail skip) ∙ ap (records default_config) (sym cut) ∙ e in
    let s = line-starts tail row more (prefix-stops is_line_end text) left in
    let whole : tail ≡ s.0 ∷ s.1 ++ drop m tail = sym (take-append-drop m tail) ∙ ap (λ xs. xs ++ drop m tail) s.2 in
    let all : text ≡ take n text ++ (s.0 ∷ s.1 ++ drop m tail) = cut ∙ ap (λ xs. take n text ++ xs) whole in
    record {
      gap = take n text;
      first = s.0;
      line = s.1;
      rest = drop m tail;
      is = all;
      gap_is = refl;
      line_is = sym s.2;
      rest_is = refl;
      skipped = skip;
      on_line = ap is_one_line (sym s.2) ∙ prefix-passes is_in_line tail;
      bounded = bounded-of (drop m tail) (prefix-stops is_in_line tail);
      reads = ap (records default_config) (sym all) ∙ e;
    }

none-follows : (rest : List ℕ) → MayFollow rest []
none-follows [] = refl
none-follows (c ∷ rest) = λ e. tt

module _ (input : List ℕ) (at : ℕ) (rows : List Row) (row : Row) (more : List Row) (h : IsAt input at rows (row ∷ more)) (plain : is_plain row ≡ true) where
  abbrev from : ℕ
  from = (line_after input at).from

  abbrev to : ℕ
  to = (line_after input at).to

  p : Pieces (drop at input) row more
  p = pieces (drop at input) row more (sym h.behind)

  from-tail : drop from input ≡ drop (prefix_len is_line_end (drop at input)) (drop at input)
  from-tail = sym (drop-drop (prefix_len is_line_end (drop at input)) at input)

  to-rest : drop to input ≡ p.rest
  to-rest = sym (drop-drop (prefix_len is_in_line (drop from input)) from input) ∙ ap (λ (t : List ℕ). drop (prefix_len is_in_line t) t) from-tail ∙ sym p.rest_is

  line-bytes : take (prefix_len is_in_line (drop from input)) (drop from input) ≡ p.first ∷ p.line
  line-bytes = ap (λ (t : List ℕ). take (prefix_len is_in_line t) t) from-tail ∙ sym p.line_is

  between : bytes_between from to input ≡ p.first ∷ p.line
  between = drop-take from (prefix_len is_in_line (drop from input)) input ∙ line-bytes

  front-from : take from input ≡ take (mark_size input) input ++ (h.before ++ p.gap)
  front-from =
      take-add at (prefix_len is_line_end (drop at input)) input
      ∙ ap (λ (f : List ℕ). f ++ take (prefix_len is_line_end (drop at input)) (drop at input)) h.front
      ∙ append_assoc (take (mark_size input) input) h.before _
      ∙ ap (λ (g : List ℕ). take (mark_size input) input ++ (h.before ++ g)) (sym p.gap_is)

  split-from : strip_bom input ≡ (h.before ++ p.gap) ++ (p.first ∷ p.line ++ p.rest)
  split-from = h.split ∙ ap (λ (t : List ℕ). h.before ++ t) p.is ∙ sym (append_assoc h.before p.gap (p.first ∷ p.line ++ p.rest))

  reads-here : IsRead h.before rows (p.gap ++ (p.first ∷ p.line ++ p.rest))
  reads-here = subst (λ (t : List ℕ). IsRead h.before rows t) p.is h.reads

  first-in : is_in_line p.first ≡ true
  first-in = and-left (is_in_line p.first) (is_one_line p.line) p.on_line

  before-rows : input_rows (take from input) ≡ rows
  before-rows =
      ap (records default_config) (ap strip_bom front-from ∙ mark-off input (h.before ++ p.gap) _ split-from ∙ sym (append-nil (h.before ++ p.gap)))
      ∙ read-gap h.before p.gap p.first (p.line ++ p.rest) rows reads-here p.skipped first-in []
      ∙ ap (λ (rs : List Row). rows ++ rs) none-read ∙ append-nil rows

  line-read : (other : List ℕ) → MayFollow p.rest other → records default_config (p.first ∷ p.line ++ other) ≡ row ∷ records default_config other
  line-read other m = line-reads p.first p.line p.rest other row more p.on_line p.bounded plain (sym (gap-skipped p.gap (p.first ∷ p.line ++ p.rest) p.skipped) ∙ p.reads) m

  alone : records default_config (p.first ∷ p.line) ≡ row ∷ []
  alone = ap (records default_config) (sym (append-nil (p.first ∷ p.line))) ∙ line-read [] (none-follows p.rest) ∙ ap (λ (rs : List Row). row ∷ rs) none-read

  text-rows : records default_config (drop at input) ≡ row ∷ records default_config p.rest
  text-rows = ap (records default_config) p.is ∙ gap-skipped p.gap (p.first ∷ p.line ++ p.rest) p.skipped ∙ line-read p.rest (bounded-follows p.rest p.bounded)

  all-rows : input_rows input ≡ rows ++ row ∷ records default_config p.rest
  all-rows = ap (records default_config) h.split ∙ h.reads.reads (drop at input) (follows-itself (drop at input)) ∙ ap (λ (rs : List Row). rows ++ rs) text-rows

  to-within : to ≤ length input
  to-within =
      let a = prefix_len-le-length is_line_end (drop at input) in
      let b = prefix_len-le-length is_in_line (drop from input) in
      let c = length-drop at input in
      let d = length-drop from input in
      let i = h.inside in
      omega arith

  -- the next record stands on the next line
  pub stands : IsRecordAt input (length rows + 1) from to
  stands = record {
    row = row;
    within = to-within;
    one_line = ap is_one_line between ∙ p.on_line;
    alone = ap (records default_config) between ∙ alone;
    parts = rw (before-rows, to-rest) all-rows;
    counted = ap (λ (rs : List Row). length rs + 1) (sym before-rows);
  }

  -- and then the records after it are left
  pub at-next : IsAt input to (rows ++ row ∷ []) more
  at-next = record {
    before = (h.before ++ p.gap) ++ p.first ∷ p.line;
    split = split-from ∙ sym (append_assoc (h.before ++ p.gap) (p.first ∷ p.line) p.rest) ∙ ap (λ (t : List ℕ). ((h.before ++ p.gap) ++ p.first ∷ p.line) ++ t) (sym to-rest);
    front = take-add from (prefix_len is_in_line (drop from input)) input
        ∙ ap (λ (t : List ℕ). take from input ++ t) line-bytes
        ∙ ap (λ (t : List ℕ). t ++ p.first ∷ p.line) front-from
        ∙ append_assoc (take (mark_size input) input) (h.before ++ p.gap) (p.first ∷ p.line);
    inside = to-within;
    reads = subst (λ (t : List ℕ). IsRead ((h.before ++ p.gap) ++ p.first ∷ p.line) (rows ++ row ∷ []) t) (sym to-rest)
        (read-line h.before p.gap p.first p.line p.rest rows row more reads-here p.skipped p.on_line p.bounded plain p.reads);
    behind = let both = h.behind ∙ text-rows in let same : more ≡ records default_config p.rest = cc in same ∙ ap (records default_config) (sym to-rest);
  }

lines-none : (input : List ℕ) (at : ℕ) → lines_end 0 input at ≡ at
unfolding lines_end
lines-none input at = refl

lines-first : (n : ℕ) (input : List ℕ) (at : ℕ) → lines_end (suc n) input at ≡ lines_end n input (line_after input at).to
unfolding lines_end
lines-first zero input at = refl
lines-first (suc n) input at = ap (λ (e : ℕ). (line_after input e).to) (lines-first n input at)

-- past as many lines as there are records
pub at-later : (input : List ℕ) (at : ℕ) (rows front left : List Row) → IsAt input at rows (front ++ left) → list_all is_plain front ≡ true → IsAt input (lines_end (length front) input at) (rows ++ front) left
at-later input at rows [] left h plain = rw (append-nil rows, lines-none input at) h
at-later input at rows (r ∷ front) left h plain =
    let next = at-next input at rows r (front ++ left) h (and-left (is_plain r) _ plain) in
    let later = at-later input (line_after input at).to (rows ++ r ∷ []) front left next (and-right (is_plain r) _ plain) in
    rw (lines-first (length front) input at) (rw (append_assoc rows (r ∷ []) front) at later)
