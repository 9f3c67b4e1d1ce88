-- The course of a script, one record at a time.
use Rattle.std.proofs.Common.{◌≡◌, ◌+◌, ℕ, List, [], ◌∷◌, Option, Result, Ok, Err, refl, sym, ap}
use Rattle.std.proofs.KnownBytes.{Appends-nil}
use Rattle.board_text.specs.Requests.{Row}
use Rattle.board_text.specs.Text.{fault_at, printed_run, with_lines}
use Rattle.board_text.specs.Scripts.{Course, Effect, course_from, run_in, script_course}
use Rattle.board_text.specs.Lines.{LineBytes}
use Rattle.board_text.specs.Output.{WritesUntilStop, WritesRun}
use Rattle.board_text.specs.declared.stops.Stop.{Stop}
use Rattle.board_text.specs.declared.stops.Stop.TheVariants as stop
use Rattle.council_core.specs.declared.refusals.Refusal.{Refusal}
use Rattle.board_text.proofs.RunFacts.{WrittenTo, writes-more}

pub end-as : {S : Type 0} {c d : Course S} → c ≡ d → c.end ≡ d.end
end-as same = ap (λ x. x.end) same

module _ {S A : Type 0} (parsed : Row → Result A Refusal) (effect : Effect S A) (s : S) (k : ℕ) (rs : List Row) where
  pub script-ends : rs ≡ [] → script_course parsed effect s k rs ≡ record { lines = []; end = Ok s }
  unfolding script_course
  script-ends e = rw e refl

  module _ (r : Row) (ss : List Row) (next : rs ≡ r ∷ ss) where
    -- the next record asks for this
    pub script-goes : (a : A) → Ok a ≡ parsed r → script_course parsed effect s k rs ≡ course_from (effect s a) (λ t. script_course parsed effect t (k + 1) ss)
    unfolding script_course
    script-goes a asks = rw (next, ← asks) refl

    -- or it is refused
    pub script-refused : (why : Refusal) → Err why ≡ parsed r → script_course parsed effect s k rs ≡ record { lines = []; end = Err (fault_at why k) }
    unfolding script_course
    script-refused why refused = rw (next, ← refused) refl

-- a fault at a record stops a run, before any line
pub refused-stops : {S : Type 0} (a : Option (List ℕ)) (e : Stop) (course : Course S) (why : Refusal) (k : ℕ) → e ≡ stop.Fault (fault_at why k) → course ≡ record { lines = []; end = Err (fault_at why k) } → WritesUntilStop a a e (run_in course)
refused-stops a e course why k is same = rw (is, same) (refl, Appends-nil a)

module _ {S : Type 0} (a b : Option (List ℕ)) (p : List LineBytes × S) (more : S → Course S) where
  -- what stops the lines of a record stops the run
  pub step-stops : (e : Stop) → WritesUntilStop a b e (printed_run p.0) → WritesUntilStop a b e (run_in (course_from p more))
  step-stops e written = writes-more a b e p.0 (run_in (more p.1)) written

  -- a record's lines were written, and the course from there is left
  pub step-goes : (u : Unit {0}) (t : S) → WritesRun a b (Ok u) (printed_run p.0) → t ≡ p.1
      → WrittenTo a b (run_in (course_from p more)) (run_in (more t)) × ((course_from p more).end ≡ (more t).end)
  step-goes u t written s = (record { lines = p.0; written = written.1; goes_on = ap (λ x. with_lines p.0 (run_in (more x))) (sym s) }, ap (λ x. (more x).end) (sym s))
