use Rattle.std.proofs.Common.{List, Option, subst, sym}
use Rattle.clap.specs.Words.{Row, Text, found_of, rows_of}
use Rattle.board_report.specs.Calls.{IsCall, IsFound}
use Rattle.board_report.proofs.WordFacts.{command-of, no-command-of}
use Rattle.board_report.proofs.calls.Invocation.of_matches.Goals as goal

pub returns-in-Some : goal.returns-in-Some
returns-in-Some c =
    let found = command-of c.args.matches.now c.in-Some.name.now (rows_of (found_of c.in-Some.found.now)) c.in-Some.ensures.name c.in-Some.ensures.rows in
    record { found = subst (λ (o : Option (Text × List Row)). IsFound c.of_command.result (IsCall o)) (sym found) c.of_command.ensures.found }

pub returns-in-None : goal.returns-in-None
returns-in-None c = record { found = λ call is. subst (λ (o : Option (Text × List Row)). IsCall o call) (no-command-of c.args.matches.now c.in-None.ensures.name) is }
