use Rattle.two_copy_steps.proofs.Names.{[], ap, arith, length, MachineState, sym, transition, ◌++◌, ◌<◌, ◌∙◌, ◌∷◌}
use Rattle.two_copy_steps.proofs.EventLists.{after_more, notes_more}
use Rattle.two_copy_steps.proofs.runs.step_all.Goals as goal

pub loop-done-preserved : goal.loop-done-preserved
loop-done-preserved c =
    let v = c.loop-done.invariant in
    let start : MachineState = c.args.machine.now in
    let event = c.index-events-done.result in
    let below : c.loop-done.done < length c.args.events.now = omega arith in
    let step = c.in-Ok.ensures in
    let long = c.push_reserved.ensures.len in
    let room = c.push_reserved.ensures.capacity in
    let kept = v.2 in
    let count = v.3 in (
      step.machine ∙ (ap (λ (m : MachineState). (transition m event).0) v.0 ∙ sym (after_more start c.args.events.now c.loop-done.done event below c.index-events-done.is)),
      c.push_reserved.ensures.items
          ∙ ((λ i. v.1 i ++ (step.note ∙ ap (λ (m : MachineState). (transition m event).1) v.0) i ∷ []) ∙ sym (notes_more start c.args.events.now c.loop-done.done event below c.index-events-done.is)),
      omega arith,
      omega arith,
    )
