-- What a call shows of an input, part by part, and what it does not.
use Rattle.std.proofs.Common.{◌≡◌, ◌++◌, ◌∙◌, ⊎_elim, ℕ, All, List, [], ◌∷◌, ◌+◌, length, map, Some, Ok, Err, refl, sym, ap, subst, arith}
use Rattle.std.specs.Prelude.{⊤}
use Rattle.std.proofs.lemmas.List.Elements.{recursion_from_All}
use Rattle.csv.specs.Machine.{next_record}
use Rattle.csv.specs.Reading.{records_from, strip_bom}
use Rattle.council_core.specs.Rolls.{Opening}
use Rattle.council_core.specs.Refusals.{code_of}
use Rattle.council_core.specs.declared.refusals.Refusal.TheVariants.{BadLimit, DuplicateMember}
use Rattle.board_text.specs.Requests.{Row}
use Rattle.board_runs.specs.Replays.{run_of}
use Rattle.board_text.specs.Text.{started_of, fault_at, members_in, preamble_after_header, run_limits}
use Rattle.board_text.specs.declared.bounds.Limits.{Limits}
use Rattle.board_text.specs.declared.faults.Fault.{Fault}
use Rattle.board_text.specs.declared.stops.Stop.TheVariants as stop
use Rattle.c_values.specs.Given.{entry_as}
use Rattle.c_values.specs.declared.entries.BoardEntry.{BoardEntry}
use Rattle.board_c.specs.Contents.{items_of, members_of}
use Rattle.board_c.specs.Items.{item_with, only_kind, with_span, without_span}
use Rattle.board_c.specs.Spans.{SpansItsLine, IsRecordAt, input_rows}
use Rattle.board_c.specs.TextLines.{IsLeft}
use Rattle.board_c.specs.Written.{ChecksOpening, IsPartOfInput, IsWholeInput, ReadItems, ShowsInput, overlaid}
use Rattle.board_c.specs.Ends.{answer_of, record_of}
use Rattle.board_c.specs.declared.script.items.BoardItem.{BoardItem}
use Rattle.board_c.proofs.InputFacts.{begun-out_of_range, end-by}
use Rattle.board_c.proofs.ListFacts.{overlaid-none}
use Rattle.board_c.proofs.ScriptCases.{input}

-- limits out of range: nothing is read of any input, and its fault is BadLimit, at no record
abbrev none : Limits
none = run_limits 0 10

abbrev item : BoardItem
item = item_with 3 (only_kind 8) 0 0

abbrev member : Opening
member = (65 ∷ 65 ∷ 65 ∷ [], 1) ∷ []

no_items : (bytes : List ℕ) → items_of none bytes ≡ []
unfolding started_of
no_items bytes = refl

end : (bytes : List ℕ) → (run_of none bytes).end ≡ Some (fault_at BadLimit 0)
end bytes = end-by none bytes (Err (fault_at BadLimit 0)) (begun-out_of_range none bytes refl)

module _ (bytes : List ℕ) where
  pub other_members : (members : Opening) (items : List BoardItem) (answer place : ℕ) → IsWholeInput none bytes (member ++ members) items answer place → ⊥
  other_members members items answer place h = cc h.members_read

  pub other_items : (members : Opening) (items : List BoardItem) (answer place : ℕ) → IsWholeInput none bytes members (item ∷ items) answer place → ⊥
  other_items members items answer place h = let is : map without_span (item ∷ items) ≡ [] = h.items_read ∙ no_items bytes in cc is

  pub no_fault : (members : Opening) (items : List BoardItem) (place : ℕ) → IsWholeInput none bytes members items 0 place → ⊥
  no_fault members items place h = let is : 0 ≡ code_of BadLimit = h.number ∙ ap answer_of (end bytes) in omega (arith, is)

  pub at_no_record : (members : Opening) (items : List BoardItem) (answer place : ℕ) → IsWholeInput none bytes members items answer place → place ≡ 0
  at_no_record members items answer place h = h.at ∙ ap record_of (end bytes)

  -- where memory ran out, no member and no item but those that there are, and the number of that fault at no record
  pub no_front_of_none : (members : Opening) (items : List BoardItem) (answer place : ℕ)
      → (IsPartOfInput none bytes (member ++ members) items answer place → ⊥) × (IsPartOfInput none bytes members (item ∷ items) answer place → ⊥)
  no_front_of_none members items answer place = (
    (λ h. cc h.members_front.1),
    (λ h. let is : [] ≡ map without_span (item ∷ items) ++ h.items_front.0 = sym (no_items bytes) ∙ h.items_front.1 in cc is),
  )

  pub out_of_memory : (members : Opening) (items : List BoardItem) (answer place : ℕ) → IsPartOfInput none bytes members items answer place → (answer ≡ 10) × (place ≡ 0)
  out_of_memory members items answer place h = (h.number, h.at)

-- the members with which a replay starts are those that are read
pub members_of_a_start : (members : Opening) (items : List BoardItem) (answer place : ℕ) → IsWholeInput (run_limits 1 10) input members items answer place → members ≡ member
unfolding started_of preamble_after_header records_from strip_bom next_record
members_of_a_start members items answer place h = h.opening

-- of an input of one byte more than is read there are no members, and of one of the most bytes those of its records
pub members_at_the_limit : (bytes : List ℕ) → (length bytes ≡ 4194305 → members_of (run_limits 1 10) bytes ≡ []) × (length bytes ≡ 4194304 → members_of (run_limits 1 10) bytes ≡ members_in (input_rows bytes))
members_at_the_limit bytes = ((λ long. rw long refl), (λ most. rw most refl))

-- an answer is the fault's number, or that of out of memory
pub no_other_answer : (bytes : List ℕ) (place mc ic : ℕ) (old new : List BoardEntry) (before after : List BoardItem) → ShowsInput none bytes 0 place old new mc before after ic → ⊥
no_other_answer bytes place mc ic old new before after h =
    ⊎_elim (λ whole. no_fault bytes h.members h.items place whole) (λ part. let is : 0 ≡ 10 = part.number in omega (arith, is)) h.contents

-- one item is counted and written at a place where it doesn't stand
abbrev misplaced : BoardItem
misplaced = with_span 25 34 (item_with 4 (only_kind 8) 0 0)

not_there : (items : List BoardItem) → 1 ≡ length items → misplaced ∷ [] ≡ overlaid items (item ∷ []) → All (SpansItsLine input) items → ⊥
not_there [] count written spans = omega (arith, count)
not_there (x ∷ []) count written spans =
    let first : misplaced ≡ x = cc written in
    let at : SpansItsLine input misplaced = subst (SpansItsLine input) (sym first) (recursion_from_All (SpansItsLine input) (x ∷ []) spans).0 in
    not_early at
  where
    not_early : IsRecordAt input 4 25 34 → ⊥
    not_early h = cc
not_there (x ∷ y ∷ items) count written spans = omega (arith, count)

pub no_misplaced : (answer place mc : ℕ) (old new : List BoardEntry) → ShowsInput (run_limits 1 10) input answer place old new mc (item ∷ []) (misplaced ∷ []) 1 → ⊥
no_misplaced answer place mc old new h = not_there h.items h.items_number h.items_written h.spans

-- where none is counted, what was in the caller's memory is still there
nothing_over : (items : List BoardItem) (old new : List BoardItem) → 0 ≡ length items → new ≡ overlaid items old → new ≡ old
nothing_over [] old new count written = written ∙ overlaid-none old
nothing_over (x ∷ items) old new count written = absurd (omega (arith, count))

pub items_left : (lim : Limits) (bytes : List ℕ) (answer place mc : ℕ) (old new : List BoardEntry) (before after : List BoardItem)
    → ShowsInput lim bytes answer place old new mc before after 0 → after ≡ before
items_left lim bytes answer place mc old new before after h = nothing_over h.items before after h.items_number h.items_written

no_member_over : (members : Opening) (old new : List BoardEntry) → 0 ≡ length members → new ≡ overlaid (map entry_as members) old → new ≡ old
no_member_over [] old new count written = written ∙ overlaid-none old
no_member_over (x ∷ members) old new count written = absurd (omega (arith, count))

pub members_left : (lim : Limits) (bytes : List ℕ) (answer place ic : ℕ) (old new : List BoardEntry) (before after : List BoardItem)
    → ShowsInput lim bytes answer place old new 0 before after ic → new ≡ old
members_left lim bytes answer place ic old new before after h = no_member_over h.members old new h.members_number h.members_written

-- a record stands within the input
pub not_beyond : IsRecordAt input 5 35 43 → ⊥
not_beyond h = omega (arith, h.within)

-- no items are read of none, and as many are counted as are written
pub none_read : (old new : List BoardItem) (count : ℕ) → ReadItems {T = ⊤} (Ok tt) [] [] count old new → (count ≡ 0) × (new ≡ old)
none_read old new count h = by_items h.got h.read h.written h.counted
  where
    by_items : (got : List BoardItem) → map without_span got ≡ [] → new ≡ overlaid got old → count ≡ length got → (count ≡ 0) × (new ≡ old)
    by_items [] read written counted = (counted, written ∙ overlaid-none old)
    by_items (x ∷ got) read written counted = cc read

placed_items : (old new : List BoardItem) (h : ReadItems {T = ⊤} (Ok tt) input (without_span misplaced ∷ []) 1 old new) → All (SpansItsLine input) h.got
placed_items old new h = h.spans

-- an opening is refused for its own reason, at no record
pub openings_refused : (ChecksOpening (Err BadLimit) (Err (stop.Fault (fault_at BadLimit 3))) → ⊥) × (ChecksOpening (Err BadLimit) (Err (stop.Fault (fault_at DuplicateMember 0))) → ⊥)
openings_refused = (
  (λ h. let at : 3 ≡ 0 = ap (λ (f : Fault). f.place) h.2 in omega (arith, at)),
  (λ h. let same : BadLimit ≡ h.0 = cc h.1 in
      let code : code_of DuplicateMember ≡ code_of BadLimit = ap (λ (f : Fault). f.code) h.2 ∙ ap code_of (sym same) in
      cc code),
)

-- of an input without records the first record is the next, and none is left
pub first_is_next : (number : ℕ) → IsLeft [] number [] → number ≡ 1
unfolding records_from strip_bom next_record
first_is_next number h = by_front h.front h.split h.counted
  where
    by_front : (front : List Row) → [] ≡ front ++ [] → number ≡ length front + 1 → number ≡ 1
    by_front [] split counted = counted
    by_front (x ∷ front) split counted = cc split

pub none_left : (row : Row) (left : List Row) (number : ℕ) → IsLeft [] number (row ∷ left) → ⊥
unfolding records_from strip_bom next_record
none_left row left number h = by_front h.front h.split
  where
    by_front : (front : List Row) → [] ≡ front ++ row ∷ left → ⊥
    by_front [] split = cc split
    by_front (x ∷ front) split = cc split
