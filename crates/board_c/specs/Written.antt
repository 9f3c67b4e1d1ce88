-- What a call leaves in its caller's memory.
use Rattle.std.specs.Prelude.{◌≡◌, ◌⊎◌, ℕ, List, ◌++◌, length, map, take, drop, All, Option, Some, None}
use Rattle.std.specs.Prelude.{Result, Ok, Err, ⊤, IfOk}
use Rattle.council_core.specs.Refusals.{code_of}
use Rattle.council_core.specs.Rolls.{Opening}
use Rattle.council_core.specs.declared.refusals.Refusal.{Refusal}
use Rattle.council_core.specs.declared.refusals.Refusal.TheVariants.{OutOfMemory}
use Rattle.board_runs.specs.Replays.{run_of}
use Rattle.board_text.specs.Output.{IsPrefixOf, ReadTo}
use Rattle.board_text.specs.Text.{started_of, fault_at}
use Rattle.board_text.specs.declared.bounds.Limits.{Limits}
use Rattle.board_text.specs.declared.faults.Fault.{Fault}
use Rattle.board_text.specs.declared.stops.Stop.{Stop}
use Rattle.board_text.specs.declared.stops.Stop.TheVariants as stop
use Rattle.board_c.specs.Ends.{answer_of, record_of}
use Rattle.board_c.specs.Contents.{items_of, members_of}
use Rattle.c_values.specs.Given.{entry_as}
use Rattle.board_c.specs.Items.{without_span}
use Rattle.board_c.specs.Spans.{SpansItsLine}
use Rattle.board_c.specs.declared.script.items.BoardItem.{BoardItem}
use Rattle.c_values.specs.declared.entries.BoardEntry.{BoardEntry}

-- as many as fit of `all`, written over the front of `old`
abbrev pub overlaid : {A : Type 0} → List A → List A → List A
overlaid all old = take (length old) all ++ drop (length all) old

-- the items were read and written so; `all` are without their spans
pub record ReadItems {T : Type 0} (result : Result T Stop) (bytes : List ℕ) (all : List BoardItem)
    (count : ℕ) (old new : List BoardItem) : Type 0 where
  pub got : List BoardItem
  pub read : ReadTo result (map without_span got) all
  pub spans : All (SpansItsLine bytes) got
  pub written : new ≡ overlaid got old
  pub counted : count ≡ length got

-- the end of a reading: with this fault, if any, or memory ran out
abbrev pub EndsReading : {T : Type 0} → Result T Stop → Option Fault → Type 0
EndsReading (Ok _) end = end ≡ None
EndsReading (Err (stop.Fault f)) end = end ≡ Some f
EndsReading (Err stop.OutOfMemory) end = Unit {0}
EndsReading (Err stop.ReadFault) end = Unit {0}
EndsReading (Err stop.WriteFault) end = Unit {0}

-- the result of checking an opening: the verdict, or memory ran out
abbrev pub ChecksOpening : Result ⊤ Refusal → Result ⊤ Stop → Type 0
ChecksOpening verdict (Ok _) = verdict ≡ Ok tt
ChecksOpening verdict (Err (stop.Fault f)) = (why : Refusal) × (verdict ≡ Err why) × (f ≡ fault_at why 0)
ChecksOpening verdict (Err stop.OutOfMemory) = Unit {0}
ChecksOpening verdict (Err stop.ReadFault) = ⊥
ChecksOpening verdict (Err stop.WriteFault) = ⊥

-- the fault of a reading, if any; the reader and the writer are memory, so each other stop is out of
-- memory
abbrev pub end_of : Result ⊤ Stop → Option Fault
end_of (Ok _) = None
end_of (Err (stop.Fault f)) = Some f
end_of (Err stop.OutOfMemory) = Some (fault_at OutOfMemory 0)
end_of (Err stop.ReadFault) = Some (fault_at OutOfMemory 0)
end_of (Err stop.WriteFault) = Some (fault_at OutOfMemory 0)

-- all that the input contains, and the fault that ends its replay; where its script begins, the
-- members are those with which a replay starts the register
pub record IsWholeInput (lim : Limits) (bytes : List ℕ) (members : Opening) (items : List BoardItem)
    (answer place : ℕ) : Type 0 where
  pub members_read : members ≡ members_of lim bytes
  pub opening : IfOk (started_of lim bytes) (λ b. members ≡ b.0.opening)
  pub items_read : map without_span items ≡ items_of lim bytes
  pub number : answer ≡ answer_of (run_of lim bytes).end
  pub at : place ≡ record_of (run_of lim bytes).end

-- memory ran out: a part of it
pub record IsPartOfInput (lim : Limits) (bytes : List ℕ) (members : Opening) (items : List BoardItem)
    (answer place : ℕ) : Type 0 where
  pub members_front : IsPrefixOf members (members_of lim bytes)
  pub items_front : IsPrefixOf (map without_span items) (items_of lim bytes)
  pub number : answer ≡ code_of OutOfMemory
  pub at : place ≡ 0

-- what was read, whole or in part, where each item stands, and what is left of all that in the
-- caller's memory
pub record ShowsInput (lim : Limits) (bytes : List ℕ) (answer place : ℕ)
    (old_members new_members : List BoardEntry) (members_count : ℕ)
    (old_items new_items : List BoardItem) (items_count : ℕ) : Type 0 where
  pub members : Opening
  pub items : List BoardItem
  pub contents : IsWholeInput lim bytes members items answer place
      ⊎ IsPartOfInput lim bytes members items answer place
  pub spans : All (SpansItsLine bytes) items
  pub members_written : new_members ≡ overlaid (map entry_as members) old_members
  pub members_number : members_count ≡ length members
  pub items_written : new_items ≡ overlaid items old_items
  pub items_number : items_count ≡ length items
