use Rattle.std.proofs.Common.{◌≡◌, ◌∙◌, ℕ, List, map, ap, refl, subst, sym}
use Rattle.std.proofs.lemmas.Iterator.{items_from_collect}
use Rattle.std.proofs.lemmas.Iterator.Adapters.{YieldsList-from_vec}
use Rattle.std.specs.String.{string_bytes}
use Rattle.std.specs.Vec.Iter.{into_iter_items}
use Rattle.clap.specs.Words.{Text}
use Rattle.board_report.specs.Calls.{AskForNone, Asks}
use Rattle.board_report.specs.Programs.{CallExits, IsHandled, streams_of, words_of}
use Rattle.board_report.proofs.CallFacts.{if-ok, of-ok}
use Rattle.board_report.proofs.programs.process.Given.{Over}
use Rattle.board_report.proofs.programs.process.Goals as goal

-- the words that were collected are those of the arguments
same-words : (g : Over) (c : goal.After-drop-words g) → map string_bytes c.as_slice.result.now ≡ words_of c.in-Ok.args
same-words g c =
    let items = items_from_collect c.collect.result c.collect.ensures.ran (YieldsList-from_vec {s = c.in-Ok.args} (into_iter_items c.in-Ok.args) refl c.in-Ok.args.rest.ok.0) in
    ap (map string_bytes) (c.as_slice.ensures.value ∙ of-ok _ c.in-Ok-collect.words _ c.in-Ok-collect.is items)

pub returns-clause-calls : goal.returns-clause-calls
returns-clause-calls g c =
    let s = streams_of (g.W.Recorder.recorded c.args.out.now) (g.W.Recorder.recorded c.program.new.out) (g.E.Recorder.recorded c.args.err.now) (g.E.Recorder.recorded c.program.new.err) in
    if-ok c.args.args c.in-Ok.args _ c.in-Ok.is (λ call asks bytes is.
    subst (λ (n : ℕ). CallExits call bytes n s) (sym c.from-2.ensures)
    (c.program.ensures.calls call (subst (λ (words : List Text). Asks words call) (sym (same-words g c)) asks) bytes is))

pub returns-clause-answers : goal.returns-clause-answers
returns-clause-answers g c =
    let s = streams_of (g.W.Recorder.recorded c.args.out.now) (g.W.Recorder.recorded c.program.new.out) (g.E.Recorder.recorded c.args.err.now) (g.E.Recorder.recorded c.program.new.err) in
    if-ok c.args.args c.in-Ok.args _ c.in-Ok.is
    (subst (λ (z : List Text × ℕ). IsHandled c.args.input.now c.program.new.input z.0 z.1 s) (λ i. (same-words g c i, sym c.from-2.ensures i)) c.program.ensures.answers)

pub returns-clause-unread : goal.returns-clause-unread
returns-clause-unread g c =
    if-ok c.args.args c.in-Ok.args _ c.in-Ok.is (λ none. c.program.ensures.unread (subst AskForNone (sym (same-words g c)) none))
