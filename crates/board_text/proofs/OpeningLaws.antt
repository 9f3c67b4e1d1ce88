-- An input, written and read back.
use Rattle.std.proofs.Common.{◌≡◌, ◌≤◌, ◌+◌, ℕ, zero, suc, Bool, true, false, List, [], ◌∷◌, ◌++◌, length, map, Ok, All, refl, sym, ap, ◌∙◌, subst, arith, append_assoc, append-nil}
use Rattle.std.specs.Prelude.{codes}
use Rattle.std.specs.List.{AllByRecursion}
use Rattle.std.proofs.lemmas.List.Elements.{recursion_from_All}
use Rattle.csv.specs.Reading.{default_config, records, strip_bom}
use Rattle.council_core.specs.Rolls.{Opening}
use Rattle.council_core.specs.declared.limits.TheConstants.{MAX_MEMBERS}
use Rattle.board_text.specs.Requests.{Row}
use Rattle.board_text.specs.Text.{preamble_of}
use Rattle.board_text.specs.Writing.{Field, IsMember, IsRequest, bytes_of, field_text, fields_text, header_row, written_rows, mark_row, member_row, quoted_as, request_row, rows_text}
use Rattle.board_text.specs.declared.requests.Request.{Request}
use Rattle.board_text.proofs.OpeningFacts.{opening-mark, opening-member, opening-starts, opening_after}
use Rattle.board_text.proofs.RequestFacts.{member-back, member-plain, request-plain}
use Rattle.board_text.proofs.WritingFacts.{ArePlainRows, rows-read}

-- the members of an opening, after some that were read
opening-read : (done members : Opening) (room k : ℕ) (script : List Row) → AllByRecursion IsMember members → length members ≤ room
    → opening_after done room k (map member_row members ++ mark_row ∷ script) ≡ Ok (done ++ members, k + length members + 1, script)
opening-read done [] room k script are fits = opening-mark done room k _ mark_row script refl refl ∙ rw append-nil (ap (λ n. Ok (done, n, script)) (omega arith))
opening-read done (m ∷ members) zero k script are fits = absurd (omega (arith, fits))
opening-read done (m ∷ members) (suc room) k script are fits =
    opening-member done (suc room) k _ (member_row m) _ refl room refl refl m (member-back m are.0)
    ∙ opening-read (done ++ m ∷ []) members room (k + 1) script are.1 (omega (arith, fits))
    ∙ rw append_assoc (ap (λ n. Ok (done ++ (m ∷ members), n, script)) (omega arith))

-- the text of an input begins with no byte order mark
no-mark : (quoted : Bool) (x rest : List ℕ) → x ≡ codes "member" → strip_bom (quoted_as quoted x ++ rest) ≡ quoted_as quoted x ++ rest
unfolding strip_bom
no-mark true x rest same = rw same refl
no-mark false x rest same = rw same refl

begins : (input : List (List Field)) (rows : List Row) → map bytes_of input ≡ header_row ∷ rows → strip_bom (rows_text input) ≡ rows_text input
begins [] rows same = cc same
begins ([] ∷ input) rows same = cc same
begins ((f ∷ fs) ∷ input) rows same =
    let first : f.bytes ≡ codes "member" = cc same in
    rw (append_assoc (field_text f) (fields_text fs) (rows_text input)) (no-mark f.quoted f.bytes (fields_text fs ++ rows_text input) first)

members-plain : (members : Opening) (rows : List Row) → AllByRecursion IsMember members → ArePlainRows rows → ArePlainRows (map member_row members ++ rows)
members-plain [] rows are plain = plain
members-plain (m ∷ members) rows are plain = (member-plain m are.0, members-plain members rows are.1 plain)

requests-plain : (requests : List Request) → AllByRecursion IsRequest requests → ArePlainRows (map request_row requests)
requests-plain [] are = tt
requests-plain (q ∷ requests) are = (request-plain q are.0, requests-plain requests are.1)

pub input-law : (members : Opening) (requests : List Request) (input : List (List Field)) → All IsMember members → All IsRequest requests → length members ≤ MAX_MEMBERS
    → map bytes_of input ≡ written_rows members (map request_row requests)
    → preamble_of (records default_config (strip_bom (rows_text input))) ≡ Ok (members, length members + 3, map request_row requests)
input-law members requests input are asked fits same =
    let members_are = recursion_from_All IsMember members are in
    let requests_are = recursion_from_All IsRequest requests asked in
    let plain : ArePlainRows (written_rows members (map request_row requests)) = (
      record { starts = omega arith; plain = (refl, (refl, tt)) },
      members-plain members (mark_row ∷ map request_row requests) members_are (record { starts = omega arith; plain = (refl, tt) }, requests-plain requests requests_are),
    ) in
    ap (λ bytes. preamble_of (records default_config bytes)) (begins input _ same)
    ∙ ap preamble_of (rows-read input (subst ArePlainRows (sym same) plain) ∙ same)
    ∙ opening-starts _ ∙ opening-read [] members MAX_MEMBERS 2 (map request_row requests) members_are (omega (arith, fits))
    ∙ ap (λ n. Ok (members, n, map request_row requests)) (omega arith)
