use Rattle.std.proofs.Common.{rules, ◌≡◌, ap, ◌∙◌}
use Rattle.board_text.specs.Text.{run_limits}
use Rattle.council_core.specs.declared.limits.TheConstants.{MAX_COMMANDS}
use Rattle.board_c.specs.Written.{end_of}
use Rattle.board_c.specs.Ends.{answer_of, record_of}
use Rattle.board_c.proofs.InputFacts.{whole-or-part}
use Rattle.board_c.proofs.script.board_script.Goals as goal

pub returns : goal.returns
returns c =
    let read = c.read_input-found in
    let answer : c.answer_of.result ≡ answer_of (end_of read.result) = c.answer_of.ensures ∙ ap answer_of c.end_of-end.ensures in
    let place : c.record_of.result ≡ record_of (end_of read.result) = c.record_of.ensures ∙ ap record_of c.end_of-end.ensures in
    record {
      shows = record {
        members = read.new.members.items;
        items = read.ensures.items.got;
        contents = rw (answer, place) (whole-or-part (run_limits c.args.readers MAX_COMMANDS) c.args.input.now read.result _ _ read.ensures.members read.ensures.items.read read.ensures.end);
        spans = read.ensures.items.spans;
        members_written = search rules;
        members_number = search rules;
        items_written = read.ensures.items.written;
        items_number = read.ensures.items.counted;
      };
    }
