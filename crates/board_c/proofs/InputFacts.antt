-- What an input contains, by the start of its script.
use Rattle.std.proofs.Common.{◌≡◌, ◌⊎◌, inl, inr, ◌≤◌, ◌<◌, ◌&&◌, ℕ, Bool, true, false, IfOk, if◌then◌else◌, List, [], length, map, nat_le, Option, Result, Ok, Err, refl, sym, ap, ◌∙◌, subst}
use Rattle.std.proofs.lemmas.Bool.{le-leb, lt-leb}
use Rattle.board_c.specs.Spans.{SpansItsLine, input_rows}
use Rattle.board_c.specs.Items.{without_span}
use Rattle.council_core.specs.Ledgers.{start_verdict}
use Rattle.council_core.specs.Rolls.{Opening}
use Rattle.council_core.specs.Sequential.{Sequential}
use Rattle.council_core.specs.declared.refusals.Refusal.{Refusal}
use Rattle.council_core.specs.declared.refusals.Refusal.TheVariants.{BadLimit, TooLong}
use Rattle.board_text.specs.Output.{StopsReading, ReadTo}
use Rattle.board_text.specs.Requests.{Row}
use Rattle.board_text.specs.Scripts.{started_course, course_of_script}
use Rattle.board_text.specs.Text.{Started, Preamble, started_of, fault_at, in_range, ledger_at_start, preamble_of, request_within, started_after, started_with}
use Rattle.board_text.specs.declared.bounds.Limits.{Limits}
use Rattle.board_text.specs.declared.faults.Fault.{Fault}
use Rattle.board_text.specs.declared.stops.Stop.{Stop}
use Rattle.board_text.specs.declared.stops.Stop.TheVariants as stop
use Rattle.board_runs.specs.Replays.{replay_effect, replay_start, run_of}
use Rattle.board_c.specs.Contents.{end_from, items_started, items_from, items_of, members_of}
use Rattle.board_text.specs.Text.{members_in}
use Rattle.board_c.specs.Written.{ChecksOpening, EndsReading, IsPartOfInput, IsWholeInput, ReadItems, end_of}
use Rattle.board_c.specs.Ends.{answer_of, record_of}
use Rattle.board_c.specs.declared.script.items.BoardItem.{BoardItem}
use Rattle.board_text.proofs.Face.{front-none, front-whole, members-opened}
use Rattle.board_text.specs.declared.input.TheConstants.{INPUT_LIMIT}
use Rattle.std.specs.Bool.{⊤}
use Rattle.std.specs.Result.{result_err}
use Rattle.board_c.proofs.ListFacts.{overlaid-none}
use Rattle.board_c.proofs.ItemFacts.{all-none}

-- the fault of a start, or of its script
abbrev pub fault_begun : Limits → Result Started Fault → Option Fault
fault_begun lim b = result_err (started_course (course_of_script replay_start request_within replay_effect lim) b).end

module _ (lim : Limits) (bytes : List ℕ) where
  pub items-by : (b : Result Started Fault) → started_of lim bytes ≡ b → items_of lim bytes ≡ items_started lim b
  items-by b e = ap (items_started lim) e

  pub end-by : (b : Result Started Fault) → started_of lim bytes ≡ b → (run_of lim bytes).end ≡ fault_begun lim b
  end-by b e = ap (fault_begun lim) e

  -- limits out of range
  pub begun-out_of_range : in_range lim ≡ false → started_of lim bytes ≡ Err (fault_at BadLimit 0)
  unfolding started_of
  begun-out_of_range e = rw e refl

  module _ (fits : in_range lim ≡ true) where
    -- more bytes than are read
    pub begun-too_long : INPUT_LIMIT < length bytes → started_of lim bytes ≡ Err (fault_at TooLong 0)
    unfolding started_of
    begun-too_long h = rw (fits, lt-leb _ _ h) refl

    module _ (short : length bytes ≤ INPUT_LIMIT) where
      abbrev rows : List Row
      rows = input_rows bytes

      pub members-rows : members_of lim bytes ≡ members_in (input_rows bytes)
      members-rows = rw (fits, le-leb _ _ short) refl

      begun-rows : started_of lim bytes ≡ started_after lim (preamble_of rows)
      unfolding started_of
      begun-rows = rw (fits, le-leb _ _ short) refl

      pub begun-fault : (f : Fault) → preamble_of rows ≡ Err f → started_of lim bytes ≡ Err f
      begun-fault f e = begun-rows ∙ ap (started_after lim) e

      module _ (members : Opening) (n : ℕ) (left : List Row) (opened : preamble_of rows ≡ Ok (members, n, left)) where
        pub begun-refused : (why : Refusal) → start_verdict members lim.journal ≡ Err why → started_of lim bytes ≡ Err (fault_at why 0)
        begun-refused why verdict = begun-rows ∙ ap (started_after lim) opened ∙ rw verdict refl

        pub begun-script : start_verdict members lim.journal ≡ Ok tt → started_of lim bytes ≡ Ok (ledger_at_start lim members, n, left)
        begun-script verdict = begun-rows ∙ ap (started_after lim) opened ∙ rw verdict refl

-- what was read of an input, by the result of reading its opening
module _ (lim : Limits) (bytes : List ℕ) where
  pub items-refused : (d : Stop) (f : Fault) → d ≡ stop.Fault f → started_of lim bytes ≡ Err f → ReadTo {T = Unit {0}} (Err d) [] (items_of lim bytes)
  items-refused d f is begun = rw is (sym (items-by lim bytes (Err f) begun))

  pub end-refused : (d : Stop) (f : Fault) → d ≡ stop.Fault f → started_of lim bytes ≡ Err f → EndsReading {T = Unit {0}} (Err d) (run_of lim bytes).end
  end-refused d f is begun = rw is (end-by lim bytes (Err f) begun)

  -- no item was written
  pub none-written : (d : Stop) (old : List BoardItem) (count : ℕ) → count ≡ 0 → ReadTo {T = Unit {0}} (Err d) [] (items_of lim bytes) → ReadItems {T = Unit {0}} (Err d) bytes (items_of lim bytes) count old old
  none-written d old count zero read = record { got = []; read = read; spans = all-none (SpansItsLine bytes); written = sym (overlaid-none old); counted = zero }

  module _ (fits : in_range lim ≡ true) (short : length bytes ≤ INPUT_LIMIT) (script : List Row) (same : script ≡ input_rows bytes) where
    items-unopened : (e : Stop) → StopsReading e (preamble_of script) → ReadTo {T = Unit {0}} (Err e) [] (items_of lim bytes)
    items-unopened stop.OutOfMemory p = front-none (items_of lim bytes)
    items-unopened stop.ReadFault p = front-none (items_of lim bytes)
    items-unopened stop.WriteFault p = absurd p
    items-unopened (stop.Fault f) p = items-refused (stop.Fault f) f refl (begun-fault lim bytes fits short f (rw same at p))

    end-unopened : (e : Stop) → StopsReading e (preamble_of script) → EndsReading {T = Unit {0}} (Err e) (run_of lim bytes).end
    end-unopened stop.OutOfMemory p = tt
    end-unopened stop.ReadFault p = tt
    end-unopened stop.WriteFault p = absurd p
    end-unopened (stop.Fault f) p = end-refused (stop.Fault f) f refl (begun-fault lim bytes fits short f (rw same at p))

    -- the opening wasn't read
    pub unopened-items : (e d : Stop) (old : List BoardItem) (count : ℕ) → d ≡ e → StopsReading e (preamble_of script) → count ≡ 0 → ReadItems {T = Unit {0}} (Err d) bytes (items_of lim bytes) count old old
    unopened-items e d old count is p zero = rw is (none-written e old count zero (items-unopened e p))

    pub unopened-end : (e d : Stop) → d ≡ e → StopsReading e (preamble_of script) → EndsReading {T = Unit {0}} (Err d) (run_of lim bytes).end
    unopened-end e d is p = rw is (end-unopened e p)

    module _ (members : Opening) (n : ℕ) (left : List Row) (opened : preamble_of script ≡ Ok (members, n, left)) where
      now-opened : preamble_of (input_rows bytes) ≡ Ok (members, n, left)
      now-opened = rw same at opened

      items-unchecked : (e : Stop) → ChecksOpening (start_verdict members lim.journal) (Err e) → ReadTo {T = Unit {0}} (Err e) [] (items_of lim bytes)
      items-unchecked stop.OutOfMemory p = front-none (items_of lim bytes)
      items-unchecked stop.ReadFault p = absurd p
      items-unchecked stop.WriteFault p = absurd p
      items-unchecked (stop.Fault f) p = items-refused (stop.Fault f) (fault_at p.0 0) (ap stop.Fault p.2) (begun-refused lim bytes fits short members n left now-opened p.0 p.1)

      end-unchecked : (e : Stop) → ChecksOpening (start_verdict members lim.journal) (Err e) → EndsReading {T = Unit {0}} (Err e) (run_of lim bytes).end
      end-unchecked stop.OutOfMemory p = tt
      end-unchecked stop.ReadFault p = absurd p
      end-unchecked stop.WriteFault p = absurd p
      end-unchecked (stop.Fault f) p = end-refused (stop.Fault f) (fault_at p.0 0) (ap stop.Fault p.2) (begun-refused lim bytes fits short members n left now-opened p.0 p.1)

      -- the register can't start
      pub unchecked-items : (e d : Stop) (old : List BoardItem) (count : ℕ) → d ≡ e → ChecksOpening (start_verdict members lim.journal) (Err e) → count ≡ 0 → ReadItems {T = Unit {0}} (Err d) bytes (items_of lim bytes) count old old
      unchecked-items e d old count is p zero = rw is (none-written e old count zero (items-unchecked e p))

      pub unchecked-end : (e d : Stop) → d ≡ e → ChecksOpening (start_verdict members lim.journal) (Err e) → EndsReading {T = Unit {0}} (Err d) (run_of lim bytes).end
      unchecked-end e d is p = rw is (end-unchecked e p)

      -- it starts: the script's records are the input's
      pub script-items : start_verdict members lim.journal ≡ Ok tt → items_of lim bytes ≡ items_from lim n left
      script-items verdict = items-by lim bytes _ (begun-script lim bytes fits short members n left now-opened verdict)

      pub script-end : {T : Type 0} (r : Result T Stop) → start_verdict members lim.journal ≡ Ok tt → ((s : Sequential) → EndsReading r (end_from lim n s left)) → EndsReading r (run_of lim bytes).end
      script-end r verdict ends = rw (end-by lim bytes _ (begun-script lim bytes fits short members n left now-opened verdict)) (ends (replay_start lim (ledger_at_start lim members)))

    -- all members were read
    pub members-read : (r : Result (Unit {0}) Stop) (got : Opening) → got ≡ members_in script → ReadTo r got (members_of lim bytes)
    members-read (Ok u) got is = is ∙ ap members_in same ∙ sym (members-rows lim bytes fits short)
    members-read (Err (stop.Fault f)) got is = is ∙ ap members_in same ∙ sym (members-rows lim bytes fits short)
    members-read (Err stop.OutOfMemory) got is = rw (is ∙ ap members_in same ∙ sym (members-rows lim bytes fits short)) (front-whole (members_of lim bytes))
    members-read (Err stop.ReadFault) got is = rw (is ∙ ap members_in same ∙ sym (members-rows lim bytes fits short)) (front-whole (members_of lim bytes))
    members-read (Err stop.WriteFault) got is = rw (is ∙ ap members_in same ∙ sym (members-rows lim bytes fits short)) (front-whole (members_of lim bytes))

-- where the script begins, the members are those of the register at its start
start-members : (lim : Limits) (got : Opening) (verdict : Result ⊤ Refusal) (o : Preamble) → got ≡ o.0 → IfOk (started_with lim verdict o) (λ b. got ≡ b.0.opening)
start-members lim got (Ok u) o is = is
start-members lim got (Err why) o is = tt

begun-members : (lim : Limits) (got : Opening) (opened : Result Preamble Fault) → IfOk opened (λ o. got ≡ o.0) → IfOk (started_after lim opened) (λ b. got ≡ b.0.opening)
begun-members lim got (Err f) is = tt
begun-members lim got (Ok o) is = start-members lim got (start_verdict o.0 lim.journal) o is

by-length : (lim : Limits) (bytes : List ℕ) (short : Bool) (rows : List Row)
    → IfOk (if short then started_after lim (preamble_of rows) else Err (fault_at TooLong 0)) (λ b. (if true && short then members_in rows else []) ≡ b.0.opening)
by-length lim bytes true rs = begun-members lim (members_in rs) (preamble_of rs) (members-opened rs)
by-length lim bytes false rs = tt

by-tests : (lim : Limits) (bytes : List ℕ) (fits short : Bool) (rows : List Row)
    → IfOk (if fits then (if short then started_after lim (preamble_of rows) else Err (fault_at TooLong 0)) else Err (fault_at BadLimit 0)) (λ b. (if fits && short then members_in rows else []) ≡ b.0.opening)
by-tests lim bytes true short rs = by-length lim bytes short rs
by-tests lim bytes false short rs = tt

pub members-begun : (lim : Limits) (bytes : List ℕ) → IfOk (started_of lim bytes) (λ b. members_of lim bytes ≡ b.0.opening)
unfolding started_of
members-begun lim bytes = by-tests lim bytes (in_range lim) (nat_le (length bytes) INPUT_LIMIT) (input_rows bytes)

opening-kept : (lim : Limits) (bytes : List ℕ) (members : Opening) → members ≡ members_of lim bytes → IfOk (started_of lim bytes) (λ b. members ≡ b.0.opening)
opening-kept lim bytes members is = subst (λ (ms : Opening). IfOk (started_of lim bytes) (λ b. ms ≡ b.0.opening)) (sym is) (members-begun lim bytes)

-- all that was read, or a part
pub whole-or-part : (lim : Limits) (bytes : List ℕ) (r : Result (Unit {0}) Stop) (members : Opening) (items : List BoardItem)
    → ReadTo r members (members_of lim bytes) → ReadTo r (map without_span items) (items_of lim bytes) → EndsReading r (run_of lim bytes).end
    → IsWholeInput lim bytes members items (answer_of (end_of r)) (record_of (end_of r)) ⊎ IsPartOfInput lim bytes members items (answer_of (end_of r)) (record_of (end_of r))
whole-or-part lim bytes (Ok u) members items m i e = inl record { members_read = m; opening = opening-kept lim bytes members m; items_read = i; number = ap answer_of (sym e); at = ap record_of (sym e) }
whole-or-part lim bytes (Err (stop.Fault f)) members items m i e = inl record { members_read = m; opening = opening-kept lim bytes members m; items_read = i; number = ap answer_of (sym e); at = ap record_of (sym e) }
whole-or-part lim bytes (Err stop.OutOfMemory) members items m i e = inr record { members_front = m; items_front = i; number = refl; at = refl }
whole-or-part lim bytes (Err stop.ReadFault) members items m i e = inr record { members_front = m; items_front = i; number = refl; at = refl }
whole-or-part lim bytes (Err stop.WriteFault) members items m i e = inr record { members_front = m; items_front = i; number = refl; at = refl }
