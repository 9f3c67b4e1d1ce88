use Rattle.two_copy_steps.proofs.Names.{IsPublishable}
use Rattle.two_copy_steps.proofs.ReaderSteps.{reader_keeps}
use Rattle.two_copy_steps.proofs.WriterSteps.{writer_keeps, begin_keeps}
use Rattle.two_copy_steps.proofs.laws.step_laws.Goals as goal

pub returns-clause-reader : goal.returns-clause-reader
returns-clause-reader c = λ opening s l r v at. reader_keeps opening (IsPublishable opening) s l r v at

pub returns-clause-writer : goal.returns-clause-writer
returns-clause-writer c = λ opening s l. writer_keeps opening (IsPublishable opening) s l

pub returns-clause-begin : goal.returns-clause-begin
returns-clause-begin c = λ opening s l commands rest legal longer. begin_keeps opening (IsPublishable opening) s l commands rest legal longer
