use Rattle.std.proofs.Common.{subst}
use Rattle.board_serve.specs.Work.{HasAsked, HasWritten}
use Rattle.board_serve.specs.declared.reader_work.ReaderWork.{ReaderWork}
use Rattle.board_serve.specs.declared.writer_work.WriterWork.{WriterWork}
use Rattle.board_serve.proofs.OutcomeFacts.{all-done}
use Rattle.board_serve.proofs.WorkFacts.{all-stopped}
use Rattle.board_serve.proofs.threads.run_in.Goals as goal

pub returns-clause-done : goal.returns-clause-done
returns-clause-done g c =
    all-done c.args.work c.join.result c.join-2.result c.join-3.result c.all_done.result
    (subst (λ (w : WriterWork). HasWritten w c.join.result) c.in_ok-writer.ensures.promise c.join.ensures)
    (subst (λ (w : ReaderWork). HasAsked w c.join-2.result) c.in_ok-first.ensures.promise c.join-2.ensures)
    (subst (λ (w : ReaderWork). HasAsked w c.join-3.result) c.in_ok-second.ensures.promise c.join-3.ensures)
    c.all_done.ensures.writer c.all_done.ensures.first c.all_done.ensures.second

pub returns-clause-stopped : goal.returns-clause-stopped
returns-clause-stopped g c =
    all-stopped c.args.work c.join.result c.join-2.result c.join-3.result c.all_done.result
    (subst (λ (w : WriterWork). HasWritten w c.join.result) c.in_ok-writer.ensures.promise c.join.ensures)
    (subst (λ (w : ReaderWork). HasAsked w c.join-2.result) c.in_ok-first.ensures.promise c.join-2.ensures)
    (subst (λ (w : ReaderWork). HasAsked w c.join-3.result) c.in_ok-second.ensures.promise c.join-3.ensures)
    c.all_done.ensures.stopped
