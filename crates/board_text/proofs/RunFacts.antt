-- Runs in parts: lines that were written, and then a run from there.
use Rattle.std.proofs.Common.{◌≡◌, ◌+◌, ◌⊎◌, inl, inr, ℕ, suc, ◌<◌, length, map, take, drop, get_or, List, [], ◌∷◌, ◌++◌, Option, Result, Ok, Err, refl, sym, ap, ◌∙◌, subst, append_assoc}
use Rattle.std.proofs.lemmas.List.{append-nil, map-append}
use Rattle.std.proofs.lemmas.Grind.{flat_map-append}
use Rattle.std.proofs.KnownBytes.{Appends-trans, Appends-nil}
use Rattle.std.specs.Io.KnownBytes.{Appends}
use Rattle.board_text.specs.Lines.{LineBytes}
use Rattle.board_text.specs.Text.{Run, with_lines, line_text, printed_run, text_of}
use Rattle.board_text.specs.Output.{AppendsFront, IsPrefixOf, Writes, WritesRun, WritesUntilStop}
use Rattle.board_text.specs.declared.stops.Stop.{Stop}
use Rattle.board_text.specs.declared.stops.Stop.TheVariants as stop
use Rattle.board_text.proofs.IndexFacts.{StandsAt, first-more, found-at, split-at}

pub front-none : {A : Type 0} (xs : List A) → IsPrefixOf [] xs
front-none xs = (xs, refl)

-- a front, after what comes before
pub front-after : {A : Type 0} (done f xs : List A) → IsPrefixOf f xs → IsPrefixOf (done ++ f) (done ++ xs)
front-after done f xs h = (h.0, ap (λ l. done ++ l) h.1 ∙ sym (append_assoc done f h.0))

-- a prefix of a list is a prefix of a longer list
pub front-before : {A : Type 0} (f xs ys : List A) → IsPrefixOf f xs → IsPrefixOf f (xs ++ ys)
front-before f xs ys h = (h.0 ++ ys, ap (λ l. l ++ ys) h.1 ∙ append_assoc f h.0 ys)

pub text-after : (a b : List (List ℕ)) → text_of (a ++ b) ≡ text_of a ++ text_of b
text-after a b = flat_map-append line_text a b

pub appends-same : (a b : Option (List ℕ)) (x y : List ℕ) → x ≡ y → Appends a b x → Appends a b y
appends-same a b x y e p = let P : List ℕ → Type 0 = λ bs. Appends a b bs in subst P e p

-- lines written, and then more
pub lines-then : (a b c : Option (List ℕ)) (done ls : List (List ℕ)) → Appends a b (text_of done) → Appends b c (text_of ls) → Appends a c (text_of (done ++ ls))
lines-then a b c done ls p q = appends-same a c _ _ (sym (text-after done ls)) (Appends-trans a b c _ _ p q)

stops-after : (a b c : Option (List ℕ)) (done : List (List ℕ)) (e : Stop) (run : Run) → Appends a b (text_of done) → WritesUntilStop b c e run → WritesUntilStop a c e (with_lines done run)
stops-after a b c done stop.OutOfMemory run p q = (done ++ q.0, front-after done q.0 run.lines q.1, lines-then a b c done q.0 p q.2)
stops-after a b c done stop.ReadFault run p q = (done ++ q.0, front-after done q.0 run.lines q.1, lines-then a b c done q.0 p q.2)
stops-after a b c done stop.WriteFault run p q =
    let P : List ℕ → Type 0 = λ t. IsPrefixOf (text_of done ++ q.0) t in
    (text_of done ++ q.0, subst P (sym (text-after done run.lines)) (front-after (text_of done) q.0 (text_of run.lines) q.1), Appends-trans a b c _ _ p q.2)
stops-after a b c done (stop.Fault f) run p q = (q.0, lines-then a b c done run.lines p q.1)

-- lines written, and then a run played
pub writes-after : {A : Type 0} (a b c : Option (List ℕ)) (done : List (List ℕ)) (r : Result A Stop) (run : Run) → Appends a b (text_of done) → WritesRun b c r run → WritesRun a c r (with_lines done run)
writes-after a b c done (Ok u) run p q = (q.0, lines-then a b c done run.lines p q.1)
writes-after a b c done (Err e) run p q = stops-after a b c done e run p q

-- what stops the first lines of a run stops the run
pub writes-more : (a b : Option (List ℕ)) (e : Stop) (ls : List (List ℕ)) (run : Run) → WritesUntilStop a b e (printed_run ls) → WritesUntilStop a b e (with_lines ls run)
writes-more a b stop.OutOfMemory ls run p = (p.0, front-before p.0 ls run.lines p.1, p.2)
writes-more a b stop.ReadFault ls run p = (p.0, front-before p.0 ls run.lines p.1, p.2)
writes-more a b stop.WriteFault ls run p =
    let P : List ℕ → Type 0 = λ t. IsPrefixOf p.0 t in
    (p.0, subst P (sym (text-after ls run.lines)) (front-before p.0 (text_of ls) (text_of run.lines) p.1), p.2)
writes-more a b (stop.Fault f) ls run p = cc p.0

written-line : (a b : Option (List ℕ)) (e : Stop) (l : List ℕ) → e ≡ stop.WriteFault → AppendsFront a b (line_text l) → WritesUntilStop a b e (printed_run (l ∷ []))
written-line a b stop.WriteFault l e p =
    let P : List ℕ → Type 0 = λ t. IsPrefixOf p.0 t in
    (p.0, subst P (sym (append-nil (line_text l))) p.1, p.2)
written-line a b stop.OutOfMemory l e p = cc e
written-line a b stop.ReadFault l e p = cc e
written-line a b (stop.Fault f) l e p = cc e

-- a line written is a run of one line
pub writes-line : (a b : Option (List ℕ)) (r : Result (Unit {0}) Stop) (l : List ℕ) → Writes a b r (line_text l) → WritesRun a b r (printed_run (l ∷ []))
writes-line a b (Ok u) l p = (refl, appends-same a b _ _ (sym (append-nil (line_text l))) p)
writes-line a b (Err e) l p = written-line a b e l p.0 p.1

-- the same of a line that is spelled so
pub writes-spelled : (a b : Option (List ℕ)) (r : Result (Unit {0}) Stop) (l m : List ℕ) → l ≡ m → Writes a b r (line_text l) → WritesRun a b r (printed_run (m ∷ []))
writes-spelled a b r l m e p = rw (← e) (writes-line a b r l p)

-- an error that is passed on is the error that stopped the run
pub writes-passed : (a b : Option (List ℕ)) (e d : Stop) (run : Run) → d ≡ e → WritesUntilStop a b e run → WritesUntilStop a b d run
writes-passed a b e d run same p = let P : Stop → Type 0 = λ s. WritesUntilStop a b s run in subst P (sym same) p

after-after : (ls ms : List (List ℕ)) (r : Run) → with_lines ls (with_lines ms r) ≡ with_lines (ls ++ ms) r
after-after ls ms r = ap (λ (l : List (List ℕ)). let run : Run = record { lines = l; end = r.end } in run) (sym (append_assoc ls ms r.lines))

-- the first lines of a run were written, and this run is left of it
pub record WrittenTo (a b : Option (List ℕ)) (whole left : Run) : Type 0 where
  pub lines : List LineBytes
  pub written : Appends a b (text_of lines)
  pub goes_on : whole ≡ with_lines lines left

-- what is left, said in other words
pub left-as : (a b : Option (List ℕ)) (whole left other : Run) → WrittenTo a b whole left → left ≡ other → WrittenTo a b whole other
left-as a b whole left other so_far same = record { lines = so_far.lines; written = so_far.written; goes_on = so_far.goes_on ∙ ap (λ r. with_lines so_far.lines r) same }

pub written-none : (a : Option (List ℕ)) (whole : Run) → WrittenTo a a whole whole
written-none a whole = record { lines = []; written = Appends-nil a; goes_on = refl }

-- lines more of what was left
pub written-on : (a b c : Option (List ℕ)) (whole left more : Run) → WrittenTo a b whole left → WrittenTo b c left more → WrittenTo a c whole more
written-on a b c whole left more so_far next = record {
  lines = so_far.lines ++ next.lines;
  written = lines-then a b c so_far.lines next.lines so_far.written next.written;
  goes_on = so_far.goes_on ∙ ap (λ r. with_lines so_far.lines r) next.goes_on ∙ after-after so_far.lines next.lines more;
}

-- a run goes on after lines that were written
pub writes-whole : {A : Type 0} (a b c : Option (List ℕ)) (r : Result A Stop) (whole left : Run) → WrittenTo a b whole left → WritesRun b c r left → WritesRun a c r whole
writes-whole a b c r whole left so_far q = rw so_far.goes_on (writes-after a b c so_far.lines r left so_far.written q)

pub writes-nothing : {A : Type 0} (a : Option (List ℕ)) (u : A) → WritesRun a a (Ok u) (printed_run [])
writes-nothing a u = (refl, Appends-nil a)

-- the item at an index of a list, and its line
pub record RowAt {X : Type 0} (f : X → LineBytes) (xs : List X) (i : ℕ) : Type 0 where
  pub thing : X
  pub line : LineBytes
  pub stands : StandsAt xs i thing
  pub spelled : line ≡ f thing

-- the row of what a list has at an index
abbrev pub row-found : {X : Type 0} (f : X → LineBytes) (xs : List X) (i : ℕ) (d : X) (l : LineBytes) → i < length xs → l ≡ f (get_or xs i d) → RowAt f xs i
row-found f xs i d l within spelled = record { thing = get_or xs i d; line = l; stands = found-at xs i d within; spelled = spelled }

-- lines of a list's first things, and one more
pub rows-more : {X : Type 0} (f : X → LineBytes) (a b c : Option (List ℕ)) (xs : List X) (i : ℕ) (row : RowAt f xs i)
    → Appends a b (text_of (map f (take i xs))) → Appends b c (line_text row.line) → Appends a c (text_of (map f (take (i + 1) xs)))
rows-more f a b c xs i row p q =
    let x = row.thing in
    let one : Appends b c (text_of (f x ∷ [])) = appends-same b c _ _ (ap line_text row.spelled ∙ sym (append-nil (line_text (f x)))) q in
    appends-same a c _ _ (sym (ap text_of (first-more f xs i x row.stands))) (lines-then a b c (map f (take i xs)) (f x ∷ []) p one)

-- lines of a list's first things, of which the next stopped the run
pub rows-stop : {X : Type 0} (f : X → LineBytes) (a b c : Option (List ℕ)) (e : Stop) (xs : List X) (i : ℕ) (row : RowAt f xs i)
    → Appends a b (text_of (map f (take i xs))) → Writes b c (Err e) (line_text row.line) → WritesUntilStop a c e (printed_run (map f xs))
rows-stop f a b c e xs i row p q =
    let x = row.thing in
    let rest = map f (drop (suc i) xs) in
    let split : map f xs ≡ map f (take i xs) ++ (f x ∷ rest) = ap (map f) (split-at xs i x row.stands) ∙ map-append f (take i xs) (x ∷ drop (suc i) xs) in
    let so_far : WrittenTo a b (printed_run (map f xs)) (printed_run (f x ∷ rest)) = record { lines = map f (take i xs); written = p; goes_on = ap printed_run split } in
    writes-whole {A = Unit {0}} a b c (Err e) _ _ so_far (writes-more b c e (f x ∷ []) (printed_run rest) (writes-spelled b c (Err e) row.line (f x) row.spelled q))

-- a line with others after it, as they are written and as they are spelled
pub record FirstLine (spelled : LineBytes) (behind : List LineBytes) : Type 0 where
  pub line : LineBytes
  pub others : List LineBytes
  pub line_is : line ≡ spelled
  pub others_are : others ≡ behind

-- lines of which the first stopped the run
pub first-stops : (a b : Option (List ℕ)) (e : Stop) (l m : LineBytes) (rest : List LineBytes) → l ≡ m → Writes a b (Err e) (line_text l) → WritesUntilStop a b e (printed_run (m ∷ rest))
first-stops a b e l m rest spelled p = writes-more a b e (m ∷ []) (printed_run rest) (writes-spelled a b (Err e) l m spelled p)

-- lines of which the first was written
pub first-then : (a b c : Option (List ℕ)) (r : Result (Unit {0}) Stop) (m : LineBytes) (rest : List LineBytes) (first : FirstLine m rest)
    → Appends a b (line_text first.line) → WritesRun b c r (printed_run first.others) → WritesRun a c r (printed_run (m ∷ rest))
first-then a b c r m rest first p q =
    let P : List LineBytes → Type 0 = λ ls. WritesRun b c r (printed_run ls) in
    writes-after a b c (m ∷ []) r (printed_run rest) (appends-same a b _ _ (ap line_text first.line_is ∙ sym (append-nil (line_text m))) p) (subst P first.others_are q)

broken-here : (a : Option (List ℕ)) (e : Stop) (run : Run) → (e ≡ stop.OutOfMemory) ⊎ (e ≡ stop.ReadFault) → WritesUntilStop a a e run
broken-here a e run (inl memory) = rw memory ([], front-none run.lines, Appends-nil a)
broken-here a e run (inr failed) = rw failed ([], front-none run.lines, Appends-nil a)

-- lines written, and then out of memory or a failed read
pub writes-broken : (a b : Option (List ℕ)) (e : Stop) (whole left : Run) → (e ≡ stop.OutOfMemory) ⊎ (e ≡ stop.ReadFault) → WrittenTo a b whole left → WritesUntilStop a b e whole
writes-broken a b e whole left causes so_far = writes-whole {A = Unit {0}} a b b (Err e) whole left so_far (broken-here b e left causes)

pub line-then : (a b c : Option (List ℕ)) (ls : List LineBytes) (l : LineBytes) → Appends a b (text_of ls) → Appends b c (line_text l) → Appends a c (text_of (ls ++ l ∷ []))
line-then a b c ls l p q = lines-then a b c ls (l ∷ []) p (appends-same b c _ _ (sym (append-nil (line_text l))) q)

-- lines, and a prefix of one more
pub front-then : (a b c : Option (List ℕ)) (ls : List LineBytes) (l : LineBytes) → Appends a b (text_of ls) → AppendsFront b c (line_text l) → AppendsFront a c (text_of (ls ++ l ∷ []))
front-then a b c ls l p q =
    let P : List ℕ → Type 0 = λ t. IsPrefixOf (text_of ls ++ q.0) t in
    let whole : text_of (ls ++ l ∷ []) ≡ text_of ls ++ line_text l = text-after ls (l ∷ []) ∙ ap (λ t. text_of ls ++ t) (append-nil (line_text l)) in
    (text_of ls ++ q.0, subst P (sym whole) (front-after (text_of ls) q.0 (line_text l) q.1), Appends-trans a b c _ _ p q.2)
