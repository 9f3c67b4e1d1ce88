use Rattle.std.proofs.Common.{arith, ◌∙◌}
use Rattle.std.proofs.lemmas.Result.{err_from_is_err_and}
use Rattle.board_text.specs.Lines.{chair_line}
use Rattle.board_text.proofs.Face.{RowAt, rows-more, rows-stop, writes-passed}
use Rattle.board_runs.proofs.replaying.write_chairs.Goals as goal

pub returns-in_err-write_line-clause-wrote : goal.returns-in_err-write_line-clause-wrote
returns-in_err-write_line-clause-wrote g c =
    let p = err_from_is_err_and c.from_residual.result c.from_residual.ensures.1 in
    let row : RowAt chair_line c.args.rows.now c.loop-row.row-index = record {
      thing = c.row-item.result;
      line = c.line_of_chair.result;
      stands = record { within = c.loop-row-test.true; here = c.row-item.is };
      spelled = c.line_of_chair.ensures.text;
    } in
    rw p.1 (writes-passed _ _ c.in_err-write_line.field-0.0 p.0 _ p.2
    (rows-stop chair_line _ _ _ c.in_err-write_line.field-0.0 c.args.rows.now c.loop-row.row-index row c.loop-row.invariant.so_far c.in_err-write_line.ensures.written))

pub loop-row-preserved : goal.loop-row-preserved
loop-row-preserved g c =
    let row : RowAt chair_line c.args.rows.now c.loop-row.row-index = record {
      thing = c.row-item.result;
      line = c.line_of_chair.result;
      stands = record { within = c.loop-row-test.true; here = c.row-item.is };
      spelled = c.line_of_chair.ensures.text;
    } in
    record {
      so_far = rows-more chair_line _ _ _ c.args.rows.now c.loop-row.row-index row c.loop-row.invariant.so_far c.in_ok-write_line.ensures.written;
      same_output = (c.in_ok-write_line.ensures.same_output.0 ∙ c.loop-row.invariant.same_output.0, c.in_ok-write_line.ensures.same_output.1 ∙ c.loop-row.invariant.same_output.1, omega (arith, c.loop-row.invariant.same_output.2, c.in_ok-write_line.ensures.same_output.2));
    }
