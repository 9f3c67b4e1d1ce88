use Rattle.std.proofs.Common.{map, ap, ◌∙◌}
use Rattle.std.proofs.lemmas.Result.{err_from_is_err_and}
use Rattle.power_index.specs.declared.indices.Indices.{Indices}
use Rattle.board_text.specs.Lines.{chair_line, reading_line}
use Rattle.board_text.proofs.Face.{first-stops, first-then, writes-passed}
use Rattle.board_runs.proofs.DeskFacts.{at-their-own}
use Rattle.board_runs.proofs.replaying.write_reading.Goals as goal

pub keep-requires : goal.keep-requires
keep-requires g c = record {
  counted = at-their-own c.args.desk.now c.indices-indices.new.self c.indices-indices.result c.args.majority c.indices-indices.ensures.counted c.indices-indices.ensures.unchanged;
}

pub returns-in_err-write_line-clause-wrote : goal.returns-in_err-write_line-clause-wrote
returns-in_err-write_line-clause-wrote g c =
    let p = err_from_is_err_and c.from_residual.result c.from_residual.ensures.1 in
    rw p.1 (writes-passed _ _ c.in_err-write_line.field-0.0 p.0 _ p.2 (first-stops _ _ c.in_err-write_line.field-0.0 c.line_of_reading.result _ _
    (c.line_of_reading.ensures.text ∙ ap (reading_line c.args.reader) c.indices-indices.ensures.counted) c.in_err-write_line.ensures.written))

pub returns-clause-wrote : goal.returns-clause-wrote
returns-clause-wrote g c =
    first-then _ _ _ _ _ _ (record {
      line = c.line_of_reading.result;
      others = map chair_line c.as_slice.result.now;
      line_is = c.line_of_reading.ensures.text ∙ ap (reading_line c.args.reader) c.indices-indices.ensures.counted;
      others_are = ap (map chair_line) (c.as_slice.ensures.value ∙ ap (λ (i : Indices). i.rows.items) c.indices-indices.ensures.counted);
    }) c.in_ok-write_line.ensures.written c.write_chairs-written.ensures.wrote
