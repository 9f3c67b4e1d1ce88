use Rattle.std.proofs.Common.{List, subst, sym}
use Rattle.std.proofs.lemmas.Result.{err_from_is_err_and}
use Rattle.council_core.specs.Sequential.{Sequential}
use Rattle.council_core.specs.declared.calls.Order.{Order}
use Rattle.board_text.specs.declared.stops.Stop.{Stop}
use Rattle.board_serve.specs.Work.{StopsAll}
use Rattle.board_serve.specs.Plans.{plan_over, records_of}
use Rattle.board_serve.proofs.OutcomeFacts.{outcome-of, seated}
use Rattle.board_serve.proofs.serving.perform.Goals as goal

pub returns-clause-done : goal.returns-clause-done
returns-clause-done g c =
    let parts = c.into_parts-register in
    let work = c.in_ok-work.work in
    let start = c.in_ok-work.ensures in
    let seats = seated parts.result.0 parts.result.1 work parts.ensures.empty start.writer start.orders start.readers start.asked in
    rw parts.ensures.parts
    (outcome-of (plan_over parts.result.0 (records_of parts.result.1)) work c.in_ok-done.done c.in_ok-answers.answers.items c.in_ok-answers.served seats c.in_ok-done.ensures.done c.in_ok-answers.ensures.collected)

pub returns-clause-legal : goal.returns-clause-legal
returns-clause-legal g c = rw (c.into_parts-register.ensures.parts, ← c.opening.ensures.members, ← c.in_ok-members.ensures.items, ← c.as_slice.ensures.value) c.in_ok-legal.ensures.legal

pub returns-in_err-done-clause-stopped : goal.returns-in_err-done-clause-stopped
returns-in_err-done-clause-stopped g c =
    let p = err_from_is_err_and c.from_residual-in_err-done.result c.from_residual-in_err-done.ensures.1 in
    let parts = c.into_parts-register in
    let work = c.in_ok-work.work in
    let start = c.in_ok-work.ensures in
    let seats = seated parts.result.0 parts.result.1 work parts.ensures.empty start.writer start.orders start.readers start.asked in
    let P : Sequential × List Order × Stop → Type 0 = λ z. StopsAll z.0 z.1 z.2 in
    rw (p.1, parts.ensures.parts) (subst P (λ i. (seats.start i, seats.orders i, sym p.2 i)) c.in_err-done.ensures.stopped)
