use Rattle.board_share.proofs.Names.{[], ap, arc_value, AtRest, IsLegalSheet, Opening, reader_at, ReaderState, subst}
use Rattle.board_share.proofs.Names.{◌++◌, ◌∙◌, ◌∷◌}
use Rattle.board_share.proofs.WholeReadings.{above, last_legal, last_is}
use Rattle.board_share.proofs.readers.Reader.read.Goals as goal

pub returns-clause-sheet : goal.returns-clause-sheet
returns-clause-sheet c =
    let e = c.read_all.ensures.read in
    let known = e.seat_is.known in
    subst (λ (o : Opening). IsLegalSheet o c.read_all.result.sheet) (e.opening_is ∙ ap (λ (p : ReaderState). p.opening) c.self.view_is)
    (last_legal (reader_at (arc_value c.self.inside.board).shared.table_id c.read_all.new.seat.me.0 c.self.inside.index AtRest) _ _ (known.list, known.cuts, known.records) e.reading_is)

pub returns-clause-not_older : goal.returns-clause-not_older
returns-clause-not_older c =
    let e = c.read_all.ensures.read in
    let known = e.seat_is.known in
    above (reader_at (arc_value c.self.inside.board).shared.table_id c.read_all.new.seat.me.0 c.self.inside.index AtRest) _ _ (known.list, known.cuts, known.records)
    (e.reading_is ∙ ap (λ (p : ReaderState). p.readings ++ c.read_all.result.sheet ∷ []) c.self.view_is)

pub returns-clause-last : goal.returns-clause-last
returns-clause-last c =
    last_is (reader_at (arc_value c.self.inside.board).shared.table_id c.read_all.new.seat.me.0 c.self.inside.index AtRest).readings _ _ c.read_all.ensures.read.reading_is
