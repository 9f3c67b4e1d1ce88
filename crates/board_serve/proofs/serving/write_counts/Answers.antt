use Rattle.std.proofs.Common.{[], ◌∷◌, refl}
use Rattle.std.proofs.lemmas.Result.{err_from_is_err_and}
use Rattle.board_text.specs.Lines.{reader_line}
use Rattle.board_text.proofs.Face.{first-stops, first-then, writes-passed, writes-spelled}
use Rattle.board_serve.proofs.serving.write_counts.Goals as goal

pub returns-in_err-write_line-clause-wrote : goal.returns-in_err-write_line-clause-wrote
returns-in_err-write_line-clause-wrote g c =
    let p = err_from_is_err_and c.from_residual.result c.from_residual.ensures.1 in
    rw p.1 (writes-passed _ _ c.in_err-write_line.field-0.0 p.0 _ p.2
    (first-stops _ _ c.in_err-write_line.field-0.0 _ _ _ c.line_of_count.ensures.text c.in_err-write_line.ensures.written))

pub returns-clause-wrote : goal.returns-clause-wrote
returns-clause-wrote g c =
    let second = reader_line 2 c.args.counts.1 ∷ [] in
    first-then _ _ _ c.write_line-2.result (reader_line 1 c.args.counts.0) second
    (record { line = c.line_of_count.result; others = second; line_is = c.line_of_count.ensures.text; others_are = refl })
    c.in_ok-write_line.ensures.written (writes-spelled _ _ c.write_line-2.result _ _ c.line_of_count-2.ensures.text c.write_line-2.ensures.written)
