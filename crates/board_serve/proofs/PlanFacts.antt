-- The plan of a run of the threads, from its input.
use Rattle.std.proofs.Common.{◌≡◌, ◌≤◌, ◌+◌, ◌-◌, ℕ, zero, suc, List, [], ◌∷◌, length, Result, Ok, Err, refl, sym, ap, arith}
use Rattle.council_core.specs.declared.calls.Order.{Order}
use Rattle.council_core.specs.declared.refusals.Refusal.{Refusal}
use Rattle.board_text.specs.Requests.{Row}
use Rattle.board_text.specs.Scripts.{Course, started_course, course_from, course_of_script, record_course, script_course}
use Rattle.board_text.specs.Text.{Started, request_within}
use Rattle.board_text.specs.declared.bounds.Limits.{Limits}
use Rattle.board_text.specs.declared.faults.Fault.{Fault}
use Rattle.board_text.specs.declared.requests.Request.{Request}
use Rattle.board_text.specs.declared.requests.Request.TheVariants as ask
use Rattle.majority_rule.specs.declared.majorities.Majority.{Majority}
use Rattle.board_serve.specs.Plans.{Planned, ThreadRecords, add_at, plan_effect, plan_start, with_request}

-- a list behind the last isn't there
add-behind : {A : Type 0} (index : ℕ) (a : A) (lists : List (List A)) → length lists ≤ index → add_at index a lists ≡ lists
add-behind index a [] behind = refl
add-behind zero a (l ∷ ls) behind = absurd (omega (arith, behind))
add-behind (suc index) a (l ∷ ls) behind = ap (λ rest. l ∷ rest) (add-behind index a ls (omega (arith, behind)))

-- a reading by a reader that a run doesn't have is left out
pub read-by-none : (orders : List Order) (asked : List (List Majority)) (reader : ℕ) (m : Majority) → length asked ≤ reader - 1
    → let s : ThreadRecords = record { orders = orders; asked = asked } in s ≡ with_request s (ask.Read reader m)
read-by-none orders asked reader m none =
    let P : List (List Majority) → ThreadRecords = λ lists. record { orders = orders; asked = lists } in
    ap P (sym (add-behind (reader - 1) m asked none))

module _ (lim : Limits) where
  -- a request that is added to a plan prints nothing
  no-line : (p : Planned) (k : ℕ) (r : Result Request Refusal) (more : Planned → Course Planned) → ((t : Planned) → (more t).lines ≡ []) → (record_course k r (λ q. course_from (plan_effect p q) more)).lines ≡ []
  no-line p k (Ok q) more rest = rest (plan_effect p q).1
  no-line p k (Err why) more rest = refl

  no-lines : (p : Planned) (k : ℕ) (rs : List Row) → (script_course (request_within lim) plan_effect p k rs).lines ≡ []
  unfolding script_course
  no-lines p k [] = refl
  no-lines p k (r ∷ rs) = no-line p k (request_within lim r) (λ t. script_course (request_within lim) plan_effect t (k + 1) rs) (λ t. no-lines t (k + 1) rs)

  -- a plan prints nothing
  pub plan-lines : (start : Result Started Fault) → (started_course (course_of_script plan_start request_within plan_effect lim) start).lines ≡ []
  plan-lines (Err f) = refl
  plan-lines (Ok b) = no-lines (plan_start lim b.0) b.1 b.2
