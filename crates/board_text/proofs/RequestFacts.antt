-- Requests and members, written as records and read back.
use Rattle.std.proofs.Common.{◌≡◌, ◌≤◌, ◌<◌, ◌^◌, ℕ, false, List, [], ◌∷◌, map, append-nil, Option, Some, None, IfSome, refl, sym, ap, ◌∙◌, subst, arith}
use Rattle.std.specs.Prelude.{codes, decimal, length, nat_lt, not, option_map}
use Rattle.std.specs.List.{list_any}
use Rattle.std.specs.Option.{option_and_then}
use Rattle.std.proofs.lemmas.Bool.{false_from_ne_true, false≢true, le-leb, ltb-true}
use Rattle.std.proofs.lemmas.Slice.Eq.{bytes_eq-Decides}
use Rattle.std.specs.Str.{bytes_eq}
use Rattle.board_text.specs.Numbers.{number_of_digits}
use Rattle.csv.specs.Reading.{default_config, records}
use Rattle.csv.specs.Writing.{default_writer, needs_byte}
use Rattle.council_core.specs.Codes.{IsCode}
use Rattle.council_core.specs.declared.calls.Order.TheVariants as order
use Rattle.council_core.specs.declared.commands.Command.{Command}
use Rattle.council_core.specs.Commands.{command_of_parts, form_of_kind, form_of_parts, parts_of_command, word_of_kind}
use Rattle.council_core.specs.declared.kinds.CommandKind.{CommandKind}
use Rattle.council_core.specs.declared.kinds.Form.{Form}
use Rattle.council_core.specs.declared.kinds.Parts.{Parts}
use Rattle.council_core.specs.declared.kinds.Parts.TheVariants.{Chair, Member, Seat, Votes}
use Rattle.council_core.proofs.Face.{command-formed, command-whole, each-kind, kind-back}
use Rattle.majority_rule.specs.declared.majorities.Majority.{Majority}
use Rattle.majority_rule.proofs.Face.{each-majority, majority-back}
use Rattle.board_text.specs.Laws.{ReadsBack}
use Rattle.board_text.specs.Requests.{Row, command_of, command_of_kind, member_of, parts_of_fields, request_of, submission}
use Rattle.majority_rule.specs.Majorities.{word_of_majority}
use Rattle.board_text.specs.Words.{chair_of, code_of_member, target_chair, votes_of}
use Rattle.board_text.specs.Writing.{AreParts, IsChair, IsCommand, IsMember, IsRequest, command_row, member_row, parts_row, request_row, row_text, target_field}
use Rattle.board_text.specs.declared.requests.Request.{Request}
use Rattle.board_text.specs.declared.requests.Request.TheVariants as ask
use Rattle.board_text.proofs.NumberFacts.{number-back}
use Rattle.board_text.proofs.WritingFacts.{ArePlain, IsPlain, IsPlainRow, code-plain, code-some, number-plain, rows-read}

chair-back : (c : ℕ) → IsChair c → chair_of (decimal c) ≡ Some c
chair-back c is = rw (number-back c (omega (arith, is.1))) (rw (le-leb 1 c is.0, le-leb c 32 is.1) refl)

votes-back : (n : ℕ) → n ≤ 2 ^ 40 → votes_of (decimal n) ≡ Some n
votes-back n small = rw (number-back n (omega (arith, small))) (rw (le-leb 0 n (omega arith), le-leb n (2 ^ 40) small) refl)

code-back : (code : List ℕ) → IsCode code → code_of_member code ≡ Some code
code-back code is = rw is refl

-- a printed number is no word
not-none : (c : ℕ) → c < 2 ^ 64 → bytes_eq (decimal c) (codes "none") ≡ false
not-none c fits = false_from_ne_true _ (λ t. let e = sym (number-back c fits) ∙ ap number_of_digits ((bytes_eq-Decides (decimal c) (codes "none")).0 t) in cc e)

target-back : (to : Option ℕ) → IfSome to IsChair → target_chair (target_field to) ≡ Some to
target-back None is = refl
target-back (Some c) is = rw (not-none c (omega (arith, is.1)), chair-back c is) refl

parts-back : (p : Parts) → AreParts p → parts_of_fields (form_of_parts p) (parts_row p) ≡ Some p
parts-back (Chair c) is = rw (chair-back c is) refl
parts-back (Member code) is = rw (code-back code is) refl
parts-back (Seat code to) is = rw (code-back code is.0, target-back to is.1) refl
parts-back (Votes code n) is = rw (code-back code is.0, votes-back n is.1) refl

kind-with : (k : CommandKind) (p : Parts) → form_of_parts p ≡ form_of_kind k → AreParts p → command_of (word_of_kind k ∷ parts_row p) ≡ command_of_parts k p
kind-with k p formed is =
    ap (option_and_then (command_of_kind (parts_row p))) (kind-back k)
    ∙ ap (λ (form : Form). option_and_then (command_of_parts k) (parts_of_fields form (parts_row p))) (sym formed)
    ∙ ap (option_and_then (command_of_parts k)) (parts-back p is)

pub command-back : (command : Command) → IsCommand command → command_of (command_row command) ≡ Some command
command-back c is = kind-with (parts_of_command c).0 (parts_of_command c).1 (command-formed c) is ∙ command-whole c

not-read : (k : CommandKind) → bytes_eq (word_of_kind k) (codes "read") ≡ false
not-read k = false_from_ne_true _ (λ t. false≢true (sym (ap not t) ∙ each-kind (λ k. not (bytes_eq (word_of_kind k) (codes "read"))) refl k))

no-reading : (k : CommandKind) (p : Parts) → request_of (word_of_kind k ∷ parts_row p) ≡ option_map submission (command_of (word_of_kind k ∷ parts_row p))
no-reading k (Chair c) = refl
no-reading k (Member code) = refl
no-reading k (Seat code to) = rw (not-read k) refl
no-reading k (Votes code n) = rw (not-read k) refl

request-back : (request : Request) → IsRequest request → request_of (request_row request) ≡ Some request
request-back (ask.Order (order.Submit c)) is = no-reading (parts_of_command c).0 (parts_of_command c).1 ∙ ap (option_map submission) (command-back c is)
request-back (ask.Order order.Publish) is = refl
request-back (ask.Read reader m) is = rw (number-back reader is, majority-back m) refl

pub member-back : (m : List ℕ × ℕ) → IsMember m → member_of (member_row m) ≡ Some m
member-back m is = rw (code-back m.0 is.0, votes-back m.1 is.1) refl

-- their fields are plain, and the first isn't empty
word-plain : (m : Majority) → IsPlain (word_of_majority m)
word-plain m = false_from_ne_true _ (λ t. false≢true (sym (ap not t) ∙ each-majority (λ m. not (list_any (needs_byte default_writer) (word_of_majority m))) refl m))

target-plain : (to : Option ℕ) → IfSome to IsChair → IsPlain (target_field to)
target-plain None is = refl
target-plain (Some c) is = number-plain c (omega (arith, is.1))

kind-plain : (k : CommandKind) → IsPlain (word_of_kind k)
kind-plain k = false_from_ne_true _ (λ t. false≢true (sym (ap not t) ∙ each-kind (λ k. not (list_any (needs_byte default_writer) (word_of_kind k))) refl k))

kind-some : (k : CommandKind) → 0 < length (word_of_kind k)
kind-some k = ltb-true 0 (length (word_of_kind k)) (each-kind (λ k. nat_lt 0 (length (word_of_kind k))) refl k)

parts-plain : (p : Parts) → AreParts p → ArePlain (parts_row p)
parts-plain (Chair c) is = (number-plain c (omega (arith, is.1)), tt)
parts-plain (Member code) is = (code-plain code is, tt)
parts-plain (Seat code to) is = (code-plain code is.0, (target-plain to is.1, tt))
parts-plain (Votes code n) is = (code-plain code is.0, (number-plain n (omega (arith, is.1)), tt))

pub command-plain : (command : Command) → IsCommand command → IsPlainRow (command_row command)
command-plain c is = let k = (parts_of_command c).0 in record { starts = kind-some k; plain = (kind-plain k, parts-plain (parts_of_command c).1 is) }

pub request-plain : (request : Request) → IsRequest request → IsPlainRow (request_row request)
request-plain (ask.Order (order.Submit command)) is = command-plain command is
request-plain (ask.Order order.Publish) is = record { starts = omega arith; plain = (refl, tt) }
request-plain (ask.Read reader m) is = record { starts = omega arith; plain = (refl, (number-plain reader is, (word-plain m, tt))) }

pub member-plain : (m : List ℕ × ℕ) → IsMember m → IsPlainRow (member_row m)
member-plain m is = record { starts = code-some m.0 is.0; plain = (code-plain m.0 is.0, (number-plain m.1 (omega (arith, is.1)), tt)) }

-- a plain record of which the fields read as this
pub reads-back : {A : Type 0} (read : Row → Option A) (row : Row) (a : A) → IsPlainRow row → read row ≡ Some a → ReadsBack read row a
reads-back read row a plain back = λ fields same.
    ap (map read) (ap (records default_config) (sym (append-nil (row_text fields))) ∙ rows-read (fields ∷ []) (subst IsPlainRow (sym same) plain, tt))
    ∙ ap (λ o. o ∷ []) (ap read same ∙ back)

pub request-law : (request : Request) → IsRequest request → ReadsBack request_of (request_row request) request
request-law request is = reads-back request_of (request_row request) request (request-plain request is) (request-back request is)

pub member-law : (m : List ℕ × ℕ) → IsMember m → ReadsBack member_of (member_row m) m
member-law m is = reads-back member_of (member_row m) m (member-plain m is) (member-back m is)
