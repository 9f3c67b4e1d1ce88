-- The arguments that the program accepts, in clap's definitions.
use Rattle.std.specs.Prelude.{ℕ, [], ◌∷◌, true, Some, pos, codes}
use Rattle.clap.specs.Simple.{on_top}
use Rattle.clap.specs.Words.{App, Rule, Text, new_app, new_rule}
use Rattle.clap.specs.Words.{with_rule, with_subcommand}
use Rattle.council_core.specs.declared.limits.TheConstants.{MAX_COMMANDS}
use Rattle.board_text.specs.declared.bounds.TheConstants.{READERS}
use Rattle.clap.specs.declared.builder.ArgAction.TheVariants.{Set}
use Rattle.clap.specs.declared.builder.value_parser.ValueParser.TheVariants as parser

-- an option `--NAME N` with a default; N is a number from 1 to `most`
abbrev pub number_rule : Text → ℕ → Text → Rule
number_rule name most default =
    record (new_rule name) {
      long = Some name;
      action = Some Set;
      parser = Some (parser.Signed (pos 1) (pos most));
      defaults = default ∷ [];
      value_names = 1;
    }

abbrev pub readers_rule : Rule
readers_rule = number_rule (codes "readers") READERS (codes "1")

abbrev pub journal_rule : Rule
journal_rule = number_rule (codes "journal") MAX_COMMANDS (codes "1000000")

-- a command with the options `--readers` and `--journal`
abbrev pub limited_app : Text → App
limited_app name = with_rule (with_rule (new_app name) readers_rule) journal_rule

-- the command `serve`, with the option `--journal`
abbrev pub serve_app : App
serve_app = with_rule (new_app (codes "serve")) journal_rule

-- the program without its commands: it requires a command and has a version
abbrev pub bare_app : App
bare_app = on_top (λ s. record s { has_version = true; subcommand_required = true }) (new_app (codes "board"))

abbrev pub board_app : App
board_app =
    with_subcommand
    (with_subcommand (with_subcommand bare_app (limited_app (codes "replay")).top) (limited_app (codes "trace")).top)
    serve_app.top
