use Rattle.std.proofs.Common.{map, inr, Some, None}
use Rattle.std.specs.String.{string_bytes}
use Rattle.clap.specs.Words.{app_of}
use Rattle.board_report.proofs.WordFacts.{call-asked, kinds-said, no-kinds}
use Rattle.board_report.proofs.calls.Invocation.from_words.Goals as goal

pub returns-in-Err : goal.returns-in-Err
returns-in-Err c =
    let words = map string_bytes c.args.words.now in
    record { answers = c.explanation.ensures.explained words (kinds-said (app_of c.in_ok-command.command) words c.in_ok-command.ensures.app c.in-Err.error c.in-Err.ensures.kinds) }

pub returns-in-Some : goal.returns-in-Some
returns-in-Some c =
    let words = map string_bytes c.args.words.now in
    let a = app_of c.in_ok-command.command in
    let none = no-kinds a words c.in_ok-command.ensures.app c.in-Ok.ensures.kinds in
    record { answers = call-asked a c.in-Ok.matches words c.in_ok-command.ensures.app c.in-Ok.ensures.matches none (Some c.in-Some.call) c.in-Some.ensures.found }

pub returns-in-None : goal.returns-in-None
returns-in-None c =
    let words = map string_bytes c.args.words.now in
    let a = app_of c.in_ok-command.command in
    let none = no-kinds a words c.in_ok-command.ensures.app c.in-Ok.ensures.kinds in
    record { answers = inr (none, call-asked a c.in-Ok.matches words c.in_ok-command.ensures.app c.in-Ok.ensures.matches none None c.in-None.ensures.found) }
