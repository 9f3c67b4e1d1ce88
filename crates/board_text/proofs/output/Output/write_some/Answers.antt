use Rattle.std.proofs.Common.{rules, ◌≡◌, ◌≤◌, ◌⊎◌, false, true, ap, ◌∙◌}
use Rattle.recording_io.specs.Tapes.{IsSameWriter, after_call}
use Rattle.board_text.specs.OutputStates.{OutputState}
use Rattle.board_text.proofs.WriteFacts.{failed-write}
use Rattle.board_text.proofs.output.Output.write_some.Goals as goal

pub invariant_of-self-in_default : goal.invariant_of-self-in_default
invariant_of-self-in_default g c =
    let before = g.W.Recorder.recorded c.self.inside.out.now in
    let after = g.W.Recorder.recorded c.write_once.new.self in
    let live : c.self.inside.failed ≡ false = ap (λ (s : OutputState). s.failed) c.self.view_is ∙ c.requires.live in
    let same : IsSameWriter before after = search rules in
    let bytes : after.bytes ≡ before.bytes = search rules in
    let calls : (after.calls ≡ after_call before.calls 0 false) ⊎ ((after.calls ≡ after_call before.calls 0 true) × (1000 ≤ c.self.inside.interrupted)) = search rules in
    (c.self.invariant.0, failed-write (g.W.Recorder.recorded c.self.inside.start.value) before after c.self.inside.interrupted c.self.inside.failed live c.self.invariant.1 same bytes calls)
