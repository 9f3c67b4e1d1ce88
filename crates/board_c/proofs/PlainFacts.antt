-- The header, the mark, a member's record and a request's contain no line end.
use Rattle.std.proofs.Common.{if◌then◌else◌, ◌≡◌, ◌⊎◌, inl, inr, ◌+◌, ◌-◌, ◌*◌, ◌≤◌, ◌&&◌, ℕ, zero, suc, Bool, true, false, List, [], ◌∷◌, ◌++◌, length, Option, Some, None, Result, Ok, refl, sym, ap, ◌∙◌, subst, arith}
use Rattle.std.proofs.lemmas.Bool.{eqb-true, leb-true, ne_eqb}
use Rattle.std.specs.Prelude.{codes, nat_eq, nat_le, nat_lt, option_map}
use Rattle.std.specs.Char.{is_ascii_digit}
use Rattle.std.specs.Str.{bytes_eq}
use Rattle.std.specs.List.{list_all}
use Rattle.std.specs.Option.{option_and_then, option_or}
use Rattle.std.proofs.lemmas.Option.{option_and_then_some}
use Rattle.council_core.specs.Codes.{is_capital, is_code}
use Rattle.council_core.specs.Rolls.{Opening}
use Rattle.council_core.specs.declared.commands.Command.{Command}
use Rattle.council_core.specs.Commands.{command_of_parts, form_of_kind, kind_of_word, word_of_kind}
use Rattle.council_core.specs.declared.kinds.CommandKind.{CommandKind}
use Rattle.council_core.specs.declared.kinds.Form.{Form}
use Rattle.council_core.specs.declared.kinds.Form.TheVariants as form
use Rattle.council_core.specs.declared.kinds.Parts.{Parts}
use Rattle.council_core.specs.declared.kinds.Parts.TheVariants.{Chair, Member, Seat, Votes}
use Rattle.council_core.proofs.Face.{each-kind, kind-word}
use Rattle.council_core.specs.declared.limits.TheConstants.{MAX_MEMBERS}
use Rattle.majority_rule.specs.declared.majorities.Majority.{Majority}
use Rattle.majority_rule.proofs.Face.{each-majority, majority-word}
use Rattle.board_text.specs.Numbers.{number_from, number_of_digits}
use Rattle.board_text.specs.Requests.{Row, command_of, command_of_kind, is_header, is_mark, is_publish, member_of, parts_of_fields, reading_of, request_of, submission}
use Rattle.board_text.specs.Text.{Preamble, is_served, preamble_of, request_within, valid_or_refused}
use Rattle.board_text.specs.Words.{chair_of, code_of_member, pair_of, target_chair, votes_of, number_within}
use Rattle.majority_rule.specs.Majorities.{majority_of, word_of_majority}
use Rattle.board_text.specs.declared.bounds.Limits.{Limits}
use Rattle.board_text.specs.declared.faults.Fault.{Fault}
use Rattle.board_text.specs.declared.requests.Request.{Request}
use Rattle.board_text.proofs.Face.{opening-bad, opening-ends, opening-full, opening-mark, opening-member, opening-starts, opening_after}
use Rattle.board_c.specs.Spans.{is_in_line, is_one_line, input_rows}
use Rattle.board_c.specs.TextLines.{IsLeft, is_plain}
use Rattle.board_c.proofs.LineFacts.{and-left, and-right}

-- a word with no line end
pub same-word : (field word : List ℕ) → bytes_eq field word ≡ true → is_one_line word ≡ true → is_one_line field ≡ true
same-word [] [] e p = refl
same-word [] (w ∷ word) e p = cc
same-word (f ∷ field) [] e p = cc
same-word (f ∷ field) (w ∷ word) e p =
    let same : f ≡ w = eqb-true f w (and-left _ _ e) in
    rw (same, and-left (is_in_line w) _ p) (same-word field word (and-right (nat_eq f w) _ e) (and-right (is_in_line w) _ p))

above-end : (b low : ℕ) → 14 ≤ low → low ≤ b → is_in_line b ≡ true
above-end b low h g = rw (ne_eqb b 13 (λ e. absurd (omega (arith, e))), ne_eqb b 10 (λ e. absurd (omega (arith, e)))) refl

digit-in : (b : ℕ) → is_ascii_digit b ≡ true → is_in_line b ≡ true
digit-in b e = above-end b 48 (omega arith) (leb-true 48 b (and-left _ _ e))

capital-in : (b : ℕ) → is_capital b ≡ true → is_in_line b ≡ true
capital-in b e = above-end b 65 (omega arith) (leb-true 65 b (and-left _ _ e))

both-true : (a b : Bool) → a ≡ true → b ≡ true → (a && b) ≡ true
both-true a b p q = rw (p, q) refl

-- one branch of a test gave this value
pub from-either : {A : Type 0} (b : Bool) (x y : Option A) (q : A) (G : Type 0) → (b ≡ true → x ≡ Some q → G) → (y ≡ Some q → G) → (if b then x else y) ≡ Some q → G
from-either true x y q G f g e = f refl e
from-either false x y q G f g e = g e

digits-from : (n : ℕ) (ds : List ℕ) (m : ℕ) → number_from n ds ≡ Some m → is_one_line ds ≡ true
digits-from n [] m e = refl
digits-from n (d ∷ ds) m e =
    from-either (is_ascii_digit d && nat_lt (n * 10 + (d - 48)) 0x1_0000_0000_0000_0000) (number_from (n * 10 + (d - 48)) ds) None m _
    (λ t more. both-true (is_in_line d) (is_one_line ds) (digit-in d (and-left _ _ t)) (digits-from (n * 10 + (d - 48)) ds m more))
    (λ none. cc none) e

pub number-plain : (field : List ℕ) (n : ℕ) → number_of_digits field ≡ Some n → is_one_line field ≡ true
number-plain field n e = from-either (nat_le 1 (length field) && nat_le (length field) 20) (number_from 0 field) None n _ (λ t more. digits-from 0 field n more) (λ none. cc none) e

then-some : {A B : Type 0} (f : A → Option B) (o : Option A) (b : B) → option_and_then f o ≡ Some b → (a : A) × (o ≡ Some a)
then-some f None b e = cc
then-some f (Some a) b e = (a, refl)

mapped-some : {A B : Type 0} (f : A → B) (o : Option A) (b : B) → option_map f o ≡ Some b → (a : A) × (o ≡ Some a)
mapped-some f None b e = cc
mapped-some f (Some a) b e = (a, refl)

paired-some : {A B C : Type 0} (f : A → B → C) (o : Option A) (p : Option B) (c : C) → pair_of f o p ≡ Some c → (a : A) × (b : B) × (o ≡ Some a) × (p ≡ Some b)
paired-some f None p c e = cc
paired-some f (Some a) None c e = cc
paired-some f (Some a) (Some b) c e = (a, b, refl, refl)

chair-plain : (field : List ℕ) (n : ℕ) → chair_of field ≡ Some n → is_one_line field ≡ true
chair-plain field n e = let d = then-some (number_within 1 32) (number_of_digits field) n e in number-plain field d.0 d.1

votes-plain : (field : List ℕ) (n : ℕ) → votes_of field ≡ Some n → is_one_line field ≡ true
votes-plain field n e = let d = then-some _ (number_of_digits field) n e in number-plain field d.0 d.1

code-plain : (field : List ℕ) → is_code field ≡ true → is_one_line field ≡ true
code-plain [] e = refl
code-plain (a ∷ []) e = cc
code-plain (a ∷ b ∷ []) e = cc
code-plain (a ∷ b ∷ c ∷ d ∷ rest) e = cc
code-plain (a ∷ b ∷ c ∷ []) e =
    let front = and-left (is_capital a && is_capital b) (is_capital c) e in
    let last = and-right (is_capital a && is_capital b) (is_capital c) e in
    rw (capital-in a (and-left (is_capital a) (is_capital b) front), capital-in b (and-right (is_capital a) (is_capital b) front), capital-in c last) refl

member-plain : (field code : List ℕ) → code_of_member field ≡ Some code → is_one_line field ≡ true
member-plain field code e = from-either (is_code field) (Some field) None code _ (λ t same. code-plain field t) (λ none. cc none) e

target-plain : (field : List ℕ) (to : Option ℕ) → target_chair field ≡ Some to → is_one_line field ≡ true
target-plain field to e = from-either (bytes_eq field (codes "none")) (Some None) (option_map Some (chair_of field)) to _
    (λ t same. same-word field (codes "none") t refl)
    (λ more. let d = mapped-some Some (chair_of field) to more in chair-plain field d.0 d.1) e

majority-plain : (field : List ℕ) (m : Majority) → majority_of field ≡ Some m → is_one_line field ≡ true
majority-plain field m e = subst (λ w. is_one_line w ≡ true) (sym (majority-word m field e)) (each-majority (λ m. is_one_line (word_of_majority m)) refl m)

plain-one : (a : List ℕ) → is_one_line a ≡ true → is_plain (a ∷ []) ≡ true
plain-one a p = rw p refl

plain-two : (a b : List ℕ) → is_one_line a ≡ true → is_one_line b ≡ true → is_plain (a ∷ b ∷ []) ≡ true
plain-two a b p q = rw (p, q) refl

kind-plain : (word : List ℕ) (k : CommandKind) → kind_of_word word ≡ Some k → is_one_line word ≡ true
kind-plain word k e = subst (λ w. is_one_line w ≡ true) (sym (kind-word word k e)) (each-kind (λ k. is_one_line (word_of_kind k)) refl k)

one-part : {A : Type 0} (f : A → Parts) (read : List ℕ → Option A) (a : List ℕ) (p : Parts) → ((x : A) → read a ≡ Some x → is_one_line a ≡ true)
    → option_map f (read a) ≡ Some p → is_plain (a ∷ []) ≡ true
one-part f read a p plain e = let d = mapped-some f (read a) p e in plain-one a (plain d.0 d.1)

two-parts : {A B : Type 0} (f : A → B → Parts) (read : List ℕ → Option A) (more : List ℕ → Option B) (a b : List ℕ) (p : Parts) → ((x : A) → read a ≡ Some x → is_one_line a ≡ true) → ((y : B) → more b ≡ Some y → is_one_line b ≡ true)
    → pair_of f (read a) (more b) ≡ Some p → is_plain (a ∷ b ∷ []) ≡ true
two-parts f read more a b p first second e = let d = paired-some f (read a) (more b) p e in plain-two a b (first d.0 d.2) (second d.1 d.3)

parts-plain : (form : Form) (fields : Row) (p : Parts) → parts_of_fields form fields ≡ Some p → is_plain fields ≡ true
parts-plain form.Chair [] p e = cc
parts-plain form.Chair (a ∷ []) p e = one-part Chair chair_of a p (chair-plain a) e
parts-plain form.Chair (a ∷ b ∷ more) p e = cc
parts-plain form.Member [] p e = cc
parts-plain form.Member (a ∷ []) p e = one-part Member code_of_member a p (member-plain a) e
parts-plain form.Member (a ∷ b ∷ more) p e = cc
parts-plain form.Seat [] p e = cc
parts-plain form.Seat (a ∷ []) p e = cc
parts-plain form.Seat (a ∷ b ∷ []) p e = two-parts Seat code_of_member target_chair a b p (member-plain a) (target-plain b) e
parts-plain form.Seat (a ∷ b ∷ c ∷ more) p e = cc
parts-plain form.Votes [] p e = cc
parts-plain form.Votes (a ∷ []) p e = cc
parts-plain form.Votes (a ∷ b ∷ []) p e = two-parts Votes code_of_member votes_of a b p (member-plain a) (votes-plain b) e
parts-plain form.Votes (a ∷ b ∷ c ∷ more) p e = cc

command-plain : (word : List ℕ) (fields : Row) (c : Command) → command_of (word ∷ fields) ≡ Some c → is_plain (word ∷ fields) ≡ true
command-plain word fields c e =
    option_and_then_some (command_of_kind fields) (kind_of_word word) c e (λ k known of.
    option_and_then_some (command_of_parts k) (parts_of_fields (form_of_kind k) fields) c of (λ p given made.
    both-true (is_one_line word) (is_plain fields) (kind-plain word k known) (parts-plain (form_of_kind k) fields p given)))

reading-plain : (word : List ℕ) (fields : Row) (q : Request) → reading_of (word ∷ fields) ≡ Some q → is_plain (word ∷ fields) ≡ true
reading-plain word [] q e = cc
reading-plain word (a ∷ []) q e = cc
reading-plain word (a ∷ b ∷ []) q e = from-either (bytes_eq word (codes "read")) _ None q _
    (λ t more. let d = paired-some _ (number_of_digits a) (majority_of b) q more in
    both-true (is_one_line word) _ (same-word word (codes "read") t refl) (plain-two a b (number-plain a d.0 d.2) (majority-plain b d.1 d.3)))
    (λ none. cc none) e
reading-plain word (a ∷ b ∷ c ∷ more) q e = cc

publish-plain : (word : List ℕ) (fields : Row) → is_publish (word ∷ fields) ≡ true → is_plain (word ∷ fields) ≡ true
publish-plain word [] t = plain-one word (same-word word (codes "publish") t refl)
publish-plain word (a ∷ more) t = cc

some-first : {A : Type 0} (o p : Option A) (q : A) → option_or o p ≡ Some q → (o ≡ Some q) ⊎ (p ≡ Some q)
some-first None p q e = inr e
some-first (Some a) p q e = inl e

pub request-plain : (row : Row) (q : Request) → request_of row ≡ Some q → is_plain row ≡ true
request-plain [] q e = cc
request-plain (w ∷ fields) q e = from-either (is_publish (w ∷ fields)) _ _ q _ (λ t same. publish-plain w fields t)
    (λ more. elim (some-first (reading_of (w ∷ fields)) (option_map submission (command_of (w ∷ fields))) q more) [
      | inl read ↦ reading-plain w fields q read
      | inr command ↦ let d = mapped-some submission (command_of (w ∷ fields)) q command in command-plain w fields d.0 d.1
    ]) e

within-some : (lim : Limits) (o : Option Request) (q : Request) → valid_or_refused (is_served lim) o ≡ Ok q → (r : Request) × (o ≡ Some r)
within-some lim None q e = cc
within-some lim (Some r) q e = (r, refl)

pub within-plain : (lim : Limits) (row : Row) (q : Request) → request_within lim row ≡ Ok q → is_plain row ≡ true
within-plain lim row q e = let d = within-some lim (request_of row) q e in request-plain row d.0 d.1

header-plain : (row : Row) → is_header row ≡ true → is_plain row ≡ true
header-plain [] e = cc
header-plain (a ∷ []) e = cc
header-plain (a ∷ b ∷ []) e = plain-two a b (same-word a (codes "member") (and-left _ _ e) refl) (same-word b (codes "votes") (and-right (bytes_eq a (codes "member")) _ e) refl)
header-plain (a ∷ b ∷ c ∷ more) e = cc

mark-plain : (row : Row) → is_mark row ≡ true → is_plain row ≡ true
mark-plain [] e = cc
mark-plain (a ∷ []) e = plain-one a (same-word a (codes "script") e refl)
mark-plain (a ∷ b ∷ more) e = cc

member-row-plain : (row : Row) (m : List ℕ × ℕ) → member_of row ≡ Some m → is_plain row ≡ true
member-row-plain [] m e = cc
member-row-plain (a ∷ []) m e = cc
member-row-plain (a ∷ b ∷ []) m e = let d = paired-some _ (code_of_member a) (votes_of b) m e in plain-two a b (member-plain a d.0 d.2) (votes-plain b d.1 d.3)
member-row-plain (a ∷ b ∷ c ∷ more) m e = cc

-- either branch of a test gave this value
from-if : {A : Type 0} (b : Bool) (x y q : A) (G : Type 0) → (b ≡ true → x ≡ q → G) → (y ≡ q → G) → (if b then x else y) ≡ q → G
from-if true x y q G f g e = f refl e
from-if false x y q G f g e = g e

-- what an opening takes: records with no line end
pub record Takes (rows : List Row) (k : ℕ) (o : Preamble) : Type 0 where
  pub front : List Row
  pub split : rows ≡ front ++ o.2
  pub plain : list_all is_plain front ≡ true
  pub counted : o.1 ≡ length front + k

takes-more : (r : Row) (rs : List Row) (k : ℕ) (o : Preamble) → is_plain r ≡ true → Takes rs (k + 1) o → Takes (r ∷ rs) k o
takes-more r rs k o p t = record {
  front = r ∷ t.front;
  split = ap (λ (xs : List Row). r ∷ xs) t.split;
  plain = both-true (is_plain r) (list_all is_plain t.front) p t.plain;
  counted = let c = t.counted in omega arith;
}

takes-mark : (members : Opening) (r : Row) (rs : List Row) (k : ℕ) (o : Preamble) → is_plain r ≡ true → (whole : Result Preamble Fault) → whole ≡ Ok (members, k + 1, rs) → whole ≡ Ok o → Takes (r ∷ rs) k o
takes-mark members r rs k o p whole is e =
    let same : (members, k + 1, rs) ≡ o = cc in
    subst (λ (x : Preamble). Takes (r ∷ rs) k x) same record {
      front = r ∷ [];
      split = refl;
      plain = rw p refl;
      counted = omega arith;
    }

takes-member : (members : Opening) (room k : ℕ) (r : Row) (rs : List Row) (o : Preamble) → is_mark r ≡ false → opening_after members room k (r ∷ rs) ≡ Ok o
    → ((ms : Opening) (left : ℕ) → opening_after ms left (k + 1) rs ≡ Ok o → Takes rs (k + 1) o) → Takes (r ∷ rs) k o
takes-member members zero k r rs o mark e rest = let full = sym (opening-full members 0 k _ r rs refl mark refl) ∙ e in cc full
takes-member members (suc left) k r rs o mark e rest =
    elim (member_of r) as (λ found. member_of r ≡ found → Takes (r ∷ rs) k o) [
      | None ↦ λ none. let bad = sym (opening-bad members (suc left) k _ r rs refl left mark refl none) ∙ e in cc bad
      | Some m ↦ λ found. takes-more r rs k o (member-row-plain r m found)
          (rest (members ++ m ∷ []) left (sym (opening-member members (suc left) k _ r rs refl left mark refl m found) ∙ e))
    ] refl

takes : (members : Opening) (room k : ℕ) (rows : List Row) (o : Preamble) → opening_after members room k rows ≡ Ok o → Takes rows k o
takes members room k [] o e = let none = sym (opening-ends members room k [] refl) ∙ e in cc none
takes members room k (r ∷ rs) o e =
    elim (is_mark r) as (λ b. is_mark r ≡ b → Takes (r ∷ rs) k o) [
      | true ↦ λ mark. takes-mark members r rs k o (mark-plain r mark) _ (opening-mark members room k _ r rs refl mark) e
      | false ↦ λ mark. takes-member members room k r rs o mark e (λ ms left. takes ms left (k + 1) rs o)
    ] refl

takes-all : (rows : List Row) (o : Preamble) → preamble_of rows ≡ Ok o → Takes rows 1 o
takes-all [] o e = cc
takes-all (r ∷ rs) o e = from-if (is_header r) _ _ (Ok o) _ (λ t next. takes-more r rs 1 o (header-plain r t) (takes [] MAX_MEMBERS 2 rs o (sym (opening-starts rs) ∙ next))) (λ none. cc none) e

-- the records behind an opening
pub left-of : (input : List ℕ) (rows : List Row) (o : Preamble) → rows ≡ input_rows input → preamble_of rows ≡ Ok o → IsLeft input o.1 o.2
left-of input rows o same e =
    let t = takes-all rows o e in
    record { front = t.front; split = sym same ∙ t.split; plain = t.plain; counted = t.counted }
