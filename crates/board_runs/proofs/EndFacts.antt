-- The fault that ends a run, where one does, is one that the input has.
use Rattle.std.proofs.Common.{◌≡◌, ◌==◌, ℕ, ◌+◌, Bool, true, false, List, [], ◌∷◌, Option, Some, None, Result, Ok, Err, ◌||◌, IsTrue, IfErr, if◌then◌else◌, nat_le, nat_lt, refl, subst, length}
use Rattle.std.specs.Bool.{⊤}
use Rattle.std.specs.List.{list_any}
use Rattle.std.specs.Result.{result_err}
use Rattle.csv.specs.Reading.{default_config, records, strip_bom}
use Rattle.council_core.specs.Ledgers.{Ledger, has_duplicate, start_verdict}
use Rattle.council_core.specs.declared.limits.TheConstants.{MAX_COMMANDS, MAX_MEMBERS}
use Rattle.council_core.specs.Rolls.{Opening}
use Rattle.council_core.specs.Refusals.{code_of}
use Rattle.council_core.specs.declared.refusals.Refusal.{Refusal}
use Rattle.council_core.specs.declared.refusals.Refusal.TheVariants.{BadHeader, BadLimit, BadReader, BadRecord, DuplicateMember, NoScript, TooLong, TooManyMembers}
use Rattle.board_text.specs.Requests.{Row, request_of, is_mark, is_header}
use Rattle.board_text.specs.Text.{Started, Preamble, started_of, started_after, before_mark, in_range, is_served, preamble_of, preamble_after_header, request_within, started_with, unless_bad, valid_or_refused}
use Rattle.board_text.specs.declared.bounds.Limits.{Limits}
use Rattle.board_text.specs.declared.faults.Fault.{Fault}
use Rattle.board_text.specs.Scripts.{Course, Effect, started_course, course_of_script, interpreted_course, record_course, run_in, script_course}
use Rattle.board_runs.specs.Replays.{replay_effect, replay_start, run_of}
use Rattle.board_runs.specs.Schedules.{events_of, events_within, has_actor}
use Rattle.board_runs.specs.Traces.{trace_effect, trace_of, trace_start}

-- the numbers of the faults that an input may have
abbrev pub is_of_input : ℕ → Bool
is_of_input n = list_any (λ why. n == code_of why)
    (BadHeader ∷ BadLimit ∷ BadReader ∷ BadRecord ∷ DuplicateMember ∷ NoScript ∷ TooLong ∷ TooManyMembers ∷ [])

abbrev IsOfInput : Fault → Type 0
IsOfInput f = IsTrue (is_of_input f.code)

abbrev ErrsByInput : {A : Type 0} → Result A Fault → Type 0
ErrsByInput r = IfErr r IsOfInput

either : {A : Type 0} (b : Bool) (x y : Result A Fault) → ErrsByInput x → ErrsByInput y → ErrsByInput (if b then x else y)
either true x y p q = p
either false x y p q = q

unless-errs : (bad : Option ℕ) (more : Result Preamble Fault) → ErrsByInput more → ErrsByInput (unless_bad bad more)
unless-errs None more p = p
unless-errs (Some number) more p = refl

opening-errs : (rs : List Row) → ErrsByInput (preamble_after_header rs)
unfolding preamble_after_header
opening-errs rs = unless-errs _ _ (either (nat_lt MAX_MEMBERS (length (before_mark rs))) _ _ refl (either (list_any is_mark rs) _ _ tt refl))

opened-errs : (rs : List Row) → ErrsByInput (preamble_of rs)
opened-errs [] = refl
opened-errs (r ∷ rs) = either (is_header r) _ _ (opening-errs rs) refl

-- why a register isn't started is the input's fault
abbrev refusal_of : Bool → Bool → Bool → Result ⊤ Refusal
refusal_of a b c = if a then Err BadLimit else (if b then Err TooManyMembers else (if c then Err DuplicateMember else Ok tt))

refused-errs : (a b c : Bool) → IfErr (refusal_of a b c) (λ why. IsTrue (is_of_input (code_of why)))
refused-errs true b c = refl
refused-errs false true c = refl
refused-errs false false true = refl
refused-errs false false false = tt

verdict-errs : (members : Opening) (limit : ℕ) → IfErr (start_verdict members limit) (λ why. IsTrue (is_of_input (code_of why)))
verdict-errs members limit = refused-errs (limit == 0 || nat_lt MAX_COMMANDS limit) (nat_lt MAX_MEMBERS (length members)) (has_duplicate members)

started-errs : (lim : Limits) (verdict : Result ⊤ Refusal) (p : Preamble) → IfErr verdict (λ why. IsTrue (is_of_input (code_of why))) → ErrsByInput (started_with lim verdict p)
started-errs lim (Err why) p is = is
started-errs lim (Ok u) p is = tt

begun_with-errs : (lim : Limits) (opened : Result Preamble Fault) → ErrsByInput opened → ErrsByInput (started_after lim opened)
begun_with-errs lim (Err f) p = p
begun_with-errs lim (Ok o) p = started-errs lim _ o (verdict-errs o.0 lim.journal)

start-errs : (lim : Limits) (bytes : List ℕ) → ErrsByInput (started_of lim bytes)
unfolding started_of
start-errs lim bytes =
    either (in_range lim) _ _
    (either (nat_le (length bytes) 4194304) _ _ (begun_with-errs lim _ (opened-errs (records default_config (strip_bom bytes)))) refl)
    refl

valid-errs : {A : Type 0} (fits : A → Bool) (q : Option A) → IfErr (valid_or_refused fits q) (λ why. IsTrue (is_of_input (code_of why)))
valid-errs fits None = refl
valid-errs fits (Some q) = served (fits q)
  where
    served : (b : Bool) → IfErr (if b then Ok q else Err BadReader) (λ why. IsTrue (is_of_input (code_of why)))
    served true = tt
    served false = refl

step-ends : {S A : Type 0} (k : ℕ) (r : Result A Refusal) (course : A → Course S) → IfErr r (λ why. IsTrue (is_of_input (code_of why))) → ((a : A) → ErrsByInput (course a).end) → ErrsByInput (record_course k r course).end
step-ends k (Err why) course is rest = is
step-ends k (Ok a) course is rest = rest a

end-by_input : {S : Type 0} (end : Result S Fault) (f : Fault) → ErrsByInput end → result_err end ≡ Some f → IsOfInput f
end-by_input (Ok s) f p is = cc is
end-by_input (Err g) f p is = let same : g ≡ f = cc is in subst IsOfInput same p

-- an interpreter that refuses a record only by faults that an input has
module _ {S A : Type 0} (opened : Limits → Ledger → S) (parsed : Limits → Row → Result A Refusal) (effect : Effect S A) (lim : Limits) (errs : (r : Row) → IfErr (parsed lim r) (λ why. IsTrue (is_of_input (code_of why)))) where
  script-ends : (s : S) (k : ℕ) (rs : List Row) → ErrsByInput (script_course (parsed lim) effect s k rs).end
  unfolding script_course
  script-ends s k [] = tt
  script-ends s k (r ∷ rs) = step-ends k (parsed lim r) _ (errs r) (λ a. script-ends (effect s a).1 (k + 1) rs)

  start-ends : (start : Result Started Fault) → ErrsByInput start → ErrsByInput (started_course (course_of_script opened parsed effect lim) start).end
  start-ends (Err f) p = p
  start-ends (Ok b) p = script-ends _ b.1 b.2

  interpreted-ends : (bytes : List ℕ) (f : Fault) → (run_in (interpreted_course opened parsed effect lim bytes)).end ≡ Some f → IsTrue (is_of_input f.code)
  interpreted-ends bytes f is = end-by_input _ f (start-ends (started_of lim bytes) (start-errs lim bytes)) is

-- where a fault ends a replay, it is one of these
pub run-ends : (lim : Limits) (bytes : List ℕ) (f : Fault) → (run_of lim bytes).end ≡ Some f → IsTrue (is_of_input f.code)
run-ends lim = interpreted-ends replay_start request_within replay_effect lim (λ r. valid-errs (is_served lim) (request_of r))

-- and where one ends a trace
pub trace-ends : (lim : Limits) (bytes : List ℕ) (f : Fault) → (trace_of lim bytes).end ≡ Some f → IsTrue (is_of_input f.code)
trace-ends lim = interpreted-ends trace_start events_within trace_effect lim (λ r. valid-errs (λ e. has_actor lim e.0) (events_of r))
