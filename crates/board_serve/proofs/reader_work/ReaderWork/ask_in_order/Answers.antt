use Rattle.std.proofs.Common.{rules, ap, ◌∙◌, ◌++◌, ◌∷◌, [], arith}
use Rattle.power_index.specs.declared.indices.Indices.{Indices}
use Rattle.board_serve.specs.declared.reader_work.ReaderWork.{ReaderWork}
use Rattle.board_text.proofs.Face.{found-at}
use Rattle.board_serve.proofs.WorkFacts.{answered-more, none-read, read-more}
use Rattle.board_serve.proofs.reader_work.ReaderWork.ask_in_order.Goals as goal

pub loop-majority-init : goal.loop-majority-init
loop-majority-init g c = record {
  so_far = none-read c.args.self.now c.requires.ready;
  done = search rules;
  sheets_stored = search rules;
  winning_stored = search rules;
  sheets_fit = search rules;
  winning_fit = search rules;
}

pub loop-majority-preserved : goal.loop-majority-preserved
loop-majority-preserved g c =
    let done = c.loop-majority.invariant in
    let asked = c.ask-indices.ensures in
    let fields = c.loop-majority.self.1 in
    let after : ReaderWork = record { analyst = fields.0; number = fields.1.0; asked = fields.1.1.0; sheets = fields.1.1.1.0; winning = fields.1.1.1.1.0 } in
    let kept = c.push_reserved.ensures.items ∙ ap (λ w. after.sheets.items ++ w ∷ []) c.sheet.ensures.same in
    record {
      so_far = read-more c.args.self.now.analyst after _ done.so_far (record {
        table = asked.table;
        number = asked.number;
        steps = asked.steps;
        opening = asked.opening;
        grown = asked.reading;
        legal = asked.sheet;
        not_older = asked.not_older;
        sheets = kept;
      });
      done = answered-more c.args.self.now.asked.items c.loop-majority.majority-index _ after _ done.done (record {
        words = c.ask-indices.new.self.sheet;
        number = c.ask-indices.result.winning;
        stands = rw (← c.as_slice-majority-items.ensures.value) (found-at c.as_slice-majority-items.result.now c.loop-majority.majority-index _ c.loop-majority-test.true);
        counted = ap (λ (i : Indices). i.winning) asked.same;
        sheets = kept;
        winning = c.push_reserved-in-loop-majority.ensures.items;
      });
      sheets_stored = omega (arith, done.sheets_stored, c.push_reserved.ensures.len);
      winning_stored = omega (arith, done.winning_stored, c.push_reserved-in-loop-majority.ensures.len);
      sheets_fit = search rules;
      winning_fit = search rules;
    }
