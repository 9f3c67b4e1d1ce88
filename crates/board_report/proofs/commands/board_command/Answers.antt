use Rattle.std.proofs.Common.{◌∙◌, ap, ap₂}
use Rattle.std.proofs.lemmas.Result.{IfOk-weaker}
use Rattle.clap.specs.Words.{App, with_subcommand}
use Rattle.board_report.proofs.WordFacts.{no-globals}
use Rattle.board_report.proofs.commands.board_command.Goals as goal

pub returns : goal.returns
returns c =
    let replay = c.in_ok-replay.ensures.app in
    let trace = c.in_ok-trace.ensures.app in
    let serve = c.in_ok-serve.ensures.app in
    let one = c.in_ok-with_replay.ensures.shape (no-globals _ _ _ _ (ap (λ (a : App). a.top.is_plain) replay))
    ∙ ap₂ with_subcommand c.bare_command.ensures.app (ap (λ (a : App). a.top) replay) in
    let two = c.in_ok-with_trace.ensures.shape (no-globals _ _ _ _ (ap (λ (a : App). a.top.is_plain) trace))
    ∙ ap₂ with_subcommand one (ap (λ (a : App). a.top) trace) in
    record {
      app = IfOk-weaker c.subcommand-3.result _ _ (λ command added. added.shape (no-globals _ _ _ _ (ap (λ (a : App). a.top.is_plain) serve))
          ∙ ap₂ with_subcommand two (ap (λ (a : App). a.top) serve)) c.subcommand-3.ensures;
    }
