use Rattle.std.proofs.Common.{rules, ◌∙◌, subst}
use Rattle.recording_io.specs.Tapes.{IsSameWriter, WriterRecord}
use Rattle.board_text.specs.Streams.{WritesWithin}
use Rattle.board_text.proofs.output.say.Goals as goal

pub returns-clause-same : goal.returns-clause-same
returns-clause-same g c =
    let same = subst (λ (w : WriterRecord). IsSameWriter w (g.W.Recorder.recorded c.into_inner-out.result.now)) (c.write_front.ensures.same_output.1 ∙ c.new-output.ensures.start) c.into_inner-out.ensures.same in
    search rules

pub returns-clause-writes : goal.returns-clause-writes
returns-clause-writes g c =
    let within = subst (λ (w : WriterRecord). WritesWithin w (g.W.Recorder.recorded c.into_inner-out.result.now)) (c.write_front.ensures.same_output.1 ∙ c.new-output.ensures.start) c.into_inner-out.ensures.writes in
    search rules
