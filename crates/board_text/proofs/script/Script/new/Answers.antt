use Rattle.board_text.proofs.ScriptFacts.{count-left}
use Rattle.board_text.proofs.script.Script.new.Goals as goal

pub returns-clause-count : goal.returns-clause-count
returns-clause-count c = count-left c.from_reader-reader.result c.args.text.now c.from_reader-reader.ensures.source
