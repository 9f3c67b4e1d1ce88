-- Writes that go on where the last one ended.
use Rattle.std.proofs.Common.{◌≡◌, ◌⊎◌, inl, inr, Bool, true, false, IfErr, ℕ, ◌+◌, ◌-◌, ◌≤◌, List, [], Option, Result, Ok, Err, length, take, drop, ◌++◌, subst, sym, ap, ◌∙◌, arith, append_assoc}
use Rattle.std.proofs.Math.Seq.{take-add}
use Rattle.std.proofs.lemmas.List.{append-nil, length-drop, take_all, take-append-drop}
use Rattle.std.proofs.KnownBytes.{Appends-trans}
use Rattle.std.specs.Io.KnownBytes.{Appends}
use Rattle.board_text.specs.Output.{AppendsFront, Writes}
use Rattle.recording_io.specs.Tapes.{Calls, IsSameWriter, WriterRecord, after_call}
use Rattle.board_text.specs.OutputStates.{FailsOnce, HasFailed, IsWrittenBy, OutputState}
use Rattle.board_text.specs.Streams.{WriteFailed}
use Rattle.board_text.specs.declared.stops.Stop.{Stop}

-- the rest of a slice, as a range of it
pub rest-of : (i : ℕ) (text : List ℕ) → take (length text - i) (drop i text) ≡ drop i text
rest-of i text = take_all _ _ (omega (arith, length-drop i text))

-- a prefix of a text, and then the next bytes of it
pub appends-on : (a b c : Option (List ℕ)) (i n : ℕ) (text : List ℕ) → Appends a b (take i text) → Appends b c (take n (take (length text - i) (drop i text))) → Appends a c (take (i + n) text)
appends-on a b c i n text p q =
    let P : List ℕ → Type 0 = λ bs. Appends a c bs in
    subst P (sym (take-add i n text)) (Appends-trans a b c _ _ p (rw rest-of at q))

-- bytes so far, and then a prefix of the rest
pub front-and-front : (a b c : Option (List ℕ)) (i : ℕ) (text : List ℕ) → Appends a b (take i text) → AppendsFront b c (take (length text - i) (drop i text)) → AppendsFront a c text
front-and-front a b c i text p q =
    let rest : drop i text ≡ q.0 ++ q.1.0 = sym (rest-of i text) ∙ q.1.1 in
    let whole : text ≡ (take i text ++ q.0) ++ q.1.0 = sym (take-append-drop i text) ∙ ap (λ l. take i text ++ l) rest ∙ sym (append_assoc (take i text) q.0 q.1.0) in
    (take i text ++ q.0, (q.1.0, whole), Appends-trans a b c _ _ p q.2)

-- the bytes written of a text are a prefix of it
pub front-written_by : (a b : Option (List ℕ)) (r : Result (Unit {0}) Stop) (text : List ℕ) → Writes a b r text → AppendsFront a b text
front-written_by a b (Ok u) text p = (text, ([], sym (append-nil text)), p)
front-written_by a b (Err e) text p = p.1

-- a text was written whole, or the writer failed
pub whole-or-failed : (before after : OutputState) (r : Result (Unit {0}) Stop) (text : List ℕ) → Writes before.contents after.contents r text → IfErr r (λ _. after.failed ≡ true)
    → Appends before.contents after.contents text ⊎ (after.failed ≡ true)
whole-or-failed before after (Ok u) text p q = inl p
whole-or-failed before after (Err e) text p q = inr q

-- what fails in an output that hadn't failed before
pub first-failure : (before after : OutputState) → before.failed ≡ false → FailsOnce before.failed before after → HasFailed before after
first-failure before after live h = subst (λ (b : Bool). FailsOnce b before after) live h

pub as-first : (before after : OutputState) → before.failed ≡ false → HasFailed before after → FailsOnce before.failed before after
as-first before after live h = subst (λ (b : Bool). FailsOnce b before after) (sym live) h

-- a writer whose last write failed: it moved no byte, or was interrupted with no retry left
pub failed-write : (start before after : WriterRecord) (retried : ℕ) (failed : Bool) → failed ≡ false → IsWrittenBy start before retried failed → IsSameWriter before after → after.bytes ≡ before.bytes
    → (after.calls ≡ after_call before.calls 0 false) ⊎ ((after.calls ≡ after_call before.calls 0 true) × (1000 ≤ retried)) → IsWrittenBy start after retried true
failed-write start before after retried failed live is same bytes = by-call
  where
    was : IsWrittenBy start before retried false
    was = subst (λ (b : Bool). IsWrittenBy start before retried b) live is

    more : length after.bytes ≡ length before.bytes
    more = ap length bytes

    -- the counts after it
    written : (after.calls.made ≡ before.calls.made + 1) → (after.calls.empty ≤ before.calls.empty + 1) → (after.calls.interrupted ≤ before.calls.interrupted + 1) → (before.calls.empty ≤ after.calls.empty) → (before.calls.interrupted ≤ after.calls.interrupted) → WriteFailed start.calls after.calls → IsWrittenBy start after retried true
    written made empty interrupted more-empty kept failure = record {
      same = (same.0 ∙ was.same.0, same.1 ∙ was.same.1);
      grown = omega (arith, was.grown, more);
      calls = record { made = omega (arith, was.calls.made, made, more, was.grown); empty = omega (arith, was.calls.empty, empty); interrupted = omega (arith, was.calls.interrupted, interrupted) };
      empty_grown = omega (arith, was.empty_grown, more-empty);
      retries = omega (arith, was.retries, kept);
      failure = λ e. failure;
    }

    by-call : (after.calls ≡ after_call before.calls 0 false) ⊎ ((after.calls ≡ after_call before.calls 0 true) × (1000 ≤ retried)) → IsWrittenBy start after retried true
    by-call (inl e) =
        let empty = ap (λ (c : Calls). c.empty) e in
        let interrupted = ap (λ (c : Calls). c.interrupted) e in
        written (ap (λ (c : Calls). c.made) e) (omega (arith, empty)) (omega (arith, interrupted)) (omega (arith, empty)) (omega (arith, interrupted)) (inl (omega (arith, empty, was.empty_grown)))
    by-call (inr (e, full)) =
        let empty = ap (λ (c : Calls). c.empty) e in
        let interrupted = ap (λ (c : Calls). c.interrupted) e in
        written (ap (λ (c : Calls). c.made) e) (omega (arith, empty)) (omega (arith, interrupted)) (omega (arith, empty)) (omega (arith, interrupted)) (inr (omega (arith, interrupted, was.retries, full)))
