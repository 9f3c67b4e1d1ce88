-- Items and their spans, computed on inputs; and spans that they don't have.
use Rattle.std.proofs.Common.{◌≡◌, ℕ, List, [], ◌∷◌, Some, refl, arith}
use Rattle.std.specs.Prelude.{codes}
use Rattle.council_core.specs.Sequential.{Sequential}
use Rattle.council_core.specs.declared.refusals.Refusal.TheVariants.{BadReader, BadRecord}
use Rattle.csv.specs.Machine.{next_record}
use Rattle.csv.specs.Reading.{records_from, strip_bom}
use Rattle.board_text.specs.Requests.{Row}
use Rattle.board_text.specs.Scripts.{script_course}
use Rattle.board_text.specs.Text.{started_of, members_before, fault_at, preamble_after_header, run_limits}
use Rattle.c_values.specs.Given.{fields_with, no_code}
use Rattle.board_c.specs.declared.TheConstants.{DONE}
use Rattle.board_c.specs.Contents.{end_from, items_from, items_of, members_of}
use Rattle.board_c.specs.Items.{item_with, only_kind, with_span}
use Rattle.board_c.specs.Spans.{IsRecordAt}
use Rattle.board_c.specs.Written.{overlaid}

-- the answer of a call that is not refused
done : DONE ≡ 0
done = refl

-- records 4 to 10 of an input; there are three readers, so the sixth of these has a fault
abbrev rows : List Row
rows = (codes "open" ∷ codes "2" ∷ []) ∷ (codes "move" ∷ codes "ABC" ∷ codes "none" ∷ []) ∷ (codes "publish" ∷ [])
    ∷ (codes "read" ∷ codes "3" ∷ codes "85" ∷ []) ∷ (codes "read" ∷ codes "1" ∷ codes "quorum" ∷ []) ∷ (codes "read" ∷ codes "4" ∷ codes "85" ∷ []) ∷ (codes "publish" ∷ []) ∷ []

pub items : items_from (run_limits 3 10) 4 rows
    ≡ item_with 4 (fields_with 0 no_code 2 0) 0 0 ∷ item_with 5 (fields_with 2 (65 ∷ 66 ∷ 67 ∷ 0 ∷ []) 0 0) 0 0
    ∷ item_with 6 (only_kind 8) 0 0 ∷ item_with 7 (only_kind 9) 3 2 ∷ item_with 8 (only_kind 9) 1 3 ∷ []
unfolding items_from
items = refl

-- each number of an item is in its own part
pub parts_of_an_item : let item = with_span 9 11 (item_with 7 (only_kind 8) 1 3) in
    (item.command.kind ≡ 8) × (item.number ≡ 7) × (item.reader ≡ 1) × (item.majority ≡ 3) × (item.from ≡ 9) × (item.to ≡ 11)
parts_of_an_item = (refl, refl, refl, refl, refl, refl)

pub fault : (s : Sequential) → end_from (run_limits 3 10) 4 s rows ≡ Some (fault_at BadReader 9)
unfolding script_course
fault s = refl

-- the members before a record with a fault
pub members : members_before ((codes "ABC" ∷ codes "7" ∷ []) ∷ (codes "abc" ∷ codes "7" ∷ []) ∷ (codes "script" ∷ []) ∷ [])
    ≡ (65 ∷ 66 ∷ 67 ∷ [], 7) ∷ []
unfolding members_before
members = refl

-- more than fits, and less
pub first_two : overlaid {A = ℕ} (1 ∷ 2 ∷ 3 ∷ []) (7 ∷ 8 ∷ []) ≡ 1 ∷ 2 ∷ []
first_two = refl

pub first_of_two : overlaid {A = ℕ} (1 ∷ []) (7 ∷ 8 ∷ []) ≡ 1 ∷ 8 ∷ []
first_of_two = refl

-- member,votes / AAA,1 / script / "op"en,2 / publish
abbrev pub input : List ℕ
input = codes "member,votes\nAAA,1\nscript\n\"op\"en,2\npublish"

-- the fourth record, whose quotes end before its field does, is open,2
pub quoted : items_of (run_limits 1 10) input ≡ item_with 4 (fields_with 0 no_code 2 0) 0 0 ∷ item_with 5 (only_kind 8) 0 0 ∷ []
unfolding started_of preamble_after_header items_from records_from strip_bom next_record
quoted = refl

pub quoted_members : members_of (run_limits 1 10) input ≡ (65 ∷ 65 ∷ 65 ∷ [], 1) ∷ []
unfolding members_before records_from strip_bom next_record
quoted_members = refl

pub quoted_at : IsRecordAt input 4 26 34
unfolding records_from strip_bom next_record
quoted_at = record { row = codes "open" ∷ codes "2" ∷ []; within = omega arith; one_line = refl; alone = refl; parts = refl; counted = refl }

pub last_at : IsRecordAt input 5 35 42
unfolding records_from strip_bom next_record
last_at = record { row = codes "publish" ∷ []; within = omega arith; one_line = refl; alone = refl; parts = refl; counted = refl }

-- not from a byte earlier or later, and not to a byte earlier or later
pub not_early : IsRecordAt input 4 25 34 → ⊥
not_early h = cc

pub not_late : IsRecordAt input 4 27 34 → ⊥
unfolding records_from strip_bom next_record
not_late h = cc

pub not_short : IsRecordAt input 4 26 33 → ⊥
unfolding records_from strip_bom next_record
not_short h = cc

pub not_long : IsRecordAt input 4 26 35 → ⊥
not_long h = cc

-- not where another record stands
pub not_before : IsRecordAt input 4 19 25 → ⊥
unfolding records_from strip_bom next_record
not_before h = omega arith

pub not_behind : IsRecordAt input 4 35 42 → ⊥
unfolding records_from strip_bom next_record
not_behind h = omega arith

-- no bytes at all
pub not_empty : IsRecordAt input 4 26 26 → ⊥
unfolding records_from strip_bom next_record
not_empty h = cc

-- a byte order mark, line ends of two bytes and blank lines: in front of each record, and after the last
abbrev marked : List ℕ
marked = 239 ∷ 187 ∷ 191 ∷ codes "member,votes\r\n\r\nscript\r\n\r\n\nopen,1\n\n"

pub header_at : IsRecordAt marked 1 3 15
unfolding records_from strip_bom next_record
header_at = record { row = codes "member" ∷ codes "votes" ∷ []; within = omega arith; one_line = refl; alone = refl; parts = refl; counted = refl }

pub mark_at : IsRecordAt marked 2 19 25
unfolding records_from strip_bom next_record
mark_at = record { row = codes "script" ∷ []; within = omega arith; one_line = refl; alone = refl; parts = refl; counted = refl }

pub open_at : IsRecordAt marked 3 30 36
unfolding records_from strip_bom next_record
open_at = record { row = codes "open" ∷ codes "1" ∷ []; within = omega arith; one_line = refl; alone = refl; parts = refl; counted = refl }

-- the mark is no part of the first record, nor a blank line of the record after it
pub not_mark : IsRecordAt marked 1 0 15 → ⊥
unfolding records_from strip_bom next_record
not_mark h = cc

pub not_blank : IsRecordAt marked 3 29 36 → ⊥
not_blank h = cc

-- a quote that ends the last field belongs to its record, although the bytes before it read as the same
abbrev ended : List ℕ
ended = codes "member,votes\nscript\nopen,\"2\"\npublish"

pub ended_at : IsRecordAt ended 3 20 28
unfolding records_from strip_bom next_record
ended_at = record { row = codes "open" ∷ codes "2" ∷ []; within = omega arith; one_line = refl; alone = refl; parts = refl; counted = refl }

pub not_unended : IsRecordAt ended 3 20 27 → ⊥
unfolding records_from strip_bom next_record
not_unended h = cc

-- a fault: the items before it remain
pub before_fault : items_of (run_limits 1 10) (codes "member,votes\nscript\npublish\nopen,33\npublish") ≡ item_with 3 (only_kind 8) 0 0 ∷ []
unfolding started_of preamble_after_header items_from records_from strip_bom next_record
before_fault = refl

pub at_fault : (s : Sequential) → end_from (run_limits 1 10) 3 s ((codes "publish" ∷ []) ∷ (codes "open" ∷ codes "33" ∷ []) ∷ (codes "publish" ∷ []) ∷ []) ≡ Some (fault_at BadRecord 4)
unfolding script_course
at_fault s = refl

-- a fault before the script: no items, but the members before it
pub no_items : items_of (run_limits 1 10) (codes "member,votes\nAAA,1\nAAA,2\nscript\npublish") ≡ []
unfolding started_of preamble_after_header items_from records_from strip_bom next_record
no_items = refl

pub both_members : members_of (run_limits 1 10) (codes "member,votes\nAAA,1\nAAA,2\nscript\npublish") ≡ (65 ∷ 65 ∷ 65 ∷ [], 1) ∷ (65 ∷ 65 ∷ 65 ∷ [], 2) ∷ []
unfolding members_before records_from strip_bom next_record
both_members = refl
