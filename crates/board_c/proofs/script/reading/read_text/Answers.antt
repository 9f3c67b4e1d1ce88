use Rattle.std.proofs.Common.{◌≡◌, Ok, Err, subst}
use Rattle.std.proofs.lemmas.Result.{err_from_is_err_and}
use Rattle.council_core.specs.Ledgers.{start_verdict}
use Rattle.council_core.specs.Rolls.{Opening}
use Rattle.board_c.specs.Written.{ChecksOpening}
use Rattle.board_c.proofs.InputFacts.{members-read, script-end, script-items, unchecked-end, unchecked-items, unopened-end, unopened-items}
use Rattle.board_c.proofs.PlainFacts.{left-of}
use Rattle.board_c.proofs.script.reading.read_text.Goals as goal

pub returns-in_err-first-clause-items : goal.returns-in_err-first-clause-items
returns-in_err-first-clause-items c =
    let p = err_from_is_err_and c.from_residual.result c.from_residual.ensures.1 in
    rw p.1 (unopened-items c.args.limits c.args.text.now c.requires.in_range c.requires.short c.new-script.result c.new-script.ensures.records
    c.in_err-first.field-0.0 p.0 c.args.items.now c.args.count.now p.2 c.in_err-first.ensures.fault c.requires.zero)

pub returns-in_err-first-clause-end : goal.returns-in_err-first-clause-end
returns-in_err-first-clause-end c =
    let p = err_from_is_err_and c.from_residual.result c.from_residual.ensures.1 in
    rw p.1 (unopened-end c.args.limits c.args.text.now c.requires.in_range c.requires.short c.new-script.result c.new-script.ensures.records
    c.in_err-first.field-0.0 p.0 p.2 c.in_err-first.ensures.fault)

pub returns-in_err-check_opening-clause-members : goal.returns-in_err-check_opening-clause-members
returns-in_err-check_opening-clause-members c =
    members-read c.args.limits c.args.text.now c.requires.in_range c.requires.short c.new-script.result c.new-script.ensures.records
    c.from_residual-in_err-check_opening.result c.read_preamble.new.members.items c.in_ok-first.ensures.members

pub returns-in_err-check_opening-clause-items : goal.returns-in_err-check_opening-clause-items
returns-in_err-check_opening-clause-items c =
    let p = err_from_is_err_and c.from_residual-in_err-check_opening.result c.from_residual-in_err-check_opening.ensures.1 in
    let checked = subst (λ (ms : Opening). ChecksOpening (start_verdict ms c.args.limits.journal) (Err c.in_err-check_opening.field-0.0)) c.as_slice.ensures.value c.in_err-check_opening.ensures.checked in
    rw p.1 (unchecked-items c.args.limits c.args.text.now c.requires.in_range c.requires.short c.new-script.result c.new-script.ensures.records
    c.read_preamble.new.members.items c.in_ok-first.first c.read_preamble.new.script c.in_ok-first.ensures.preamble
    c.in_err-check_opening.field-0.0 p.0 c.args.items.now c.args.count.now p.2 checked c.requires.zero)

pub returns-in_err-check_opening-clause-end : goal.returns-in_err-check_opening-clause-end
returns-in_err-check_opening-clause-end c =
    let p = err_from_is_err_and c.from_residual-in_err-check_opening.result c.from_residual-in_err-check_opening.ensures.1 in
    let checked = subst (λ (ms : Opening). ChecksOpening (start_verdict ms c.args.limits.journal) (Err c.in_err-check_opening.field-0.0)) c.as_slice.ensures.value c.in_err-check_opening.ensures.checked in
    rw p.1 (unchecked-end c.args.limits c.args.text.now c.requires.in_range c.requires.short c.new-script.result c.new-script.ensures.records
    c.read_preamble.new.members.items c.in_ok-first.first c.read_preamble.new.script c.in_ok-first.ensures.preamble
    c.in_err-check_opening.field-0.0 p.0 p.2 checked)

pub read_records-requires-clause-left : goal.read_records-requires-clause-left
read_records-requires-clause-left c = left-of c.args.text.now c.new-script.result _ c.new-script.ensures.records c.in_ok-first.ensures.preamble

pub returns-clause-members : goal.returns-clause-members
returns-clause-members c =
    members-read c.args.limits c.args.text.now c.requires.in_range c.requires.short c.new-script.result c.new-script.ensures.records
    c.read_records.result c.read_preamble.new.members.items c.in_ok-first.ensures.members

pub returns-clause-items : goal.returns-clause-items
returns-clause-items c =
    let verdict : start_verdict c.read_preamble.new.members.items c.args.limits.journal ≡ Ok tt = rw c.as_slice.ensures.value at c.in_ok-check_opening.ensures.checked in
    rw (script-items c.args.limits c.args.text.now c.requires.in_range c.requires.short c.new-script.result c.new-script.ensures.records
    c.read_preamble.new.members.items c.in_ok-first.first c.read_preamble.new.script c.in_ok-first.ensures.preamble verdict) c.read_records.ensures.items

pub returns-clause-end : goal.returns-clause-end
returns-clause-end c =
    let verdict : start_verdict c.read_preamble.new.members.items c.args.limits.journal ≡ Ok tt = rw c.as_slice.ensures.value at c.in_ok-check_opening.ensures.checked in
    script-end c.args.limits c.args.text.now c.requires.in_range c.requires.short c.new-script.result c.new-script.ensures.records
    c.read_preamble.new.members.items c.in_ok-first.first c.read_preamble.new.script c.in_ok-first.ensures.preamble c.read_records.result verdict c.read_records.ensures.end
