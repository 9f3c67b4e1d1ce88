use Rattle.std.proofs.Common.{◌≡◌, sym, ap, ◌∙◌}
use Rattle.std.specs.Prelude.{codes}
use Rattle.std.proofs.lemmas.Slice.Eq.{bytes_eq-Decides}
use Rattle.board_text.specs.Requests.{Row}
use Rattle.board_text.specs.Text.{request_within}
use Rattle.board_text.proofs.FieldFacts.{reading-row}
use Rattle.board_text.proofs.requests.request_in.Goals as goal

pub returns-in-Three : goal.returns-in-Three
returns-in-Three c =
    let read : c.in-Three.word.now ≡ codes "read" = (bytes_eq-Decides c.in-Three.word.now (codes "read")).0 (sym c.if-is_word-2.ensures) in
    let row = ap (λ (r : Row). request_within c.args.limits r) (sym c.in-Three.ensures) in
    record { same = c.reading_in.ensures ∙ reading-row c.args.limits c.in-Three.word.now c.in-Three.reader.now c.in-Three.majority.now read ∙ row }
