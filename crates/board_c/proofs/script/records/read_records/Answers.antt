use Rattle.std.proofs.Common.{◌≡◌, ◌∷◌, [], length, ap, arith}
use Rattle.std.proofs.lemmas.Result.{err_from_is_err_and}
use Rattle.csv.specs.Records.{fields_of}
use Rattle.board_c.proofs.ItemFacts.{end-lost, end-passed, fault-end, items-end, items-lost, items-passed, read-item, read-none}
use Rattle.board_c.proofs.script.records.read_records.Goals as goal

pub records-init : goal.records-init
records-init c = record {
  so = read-none c.args.text.now c.args.limits c.args.first _ c.args.script.now _ _ c.requires.zero c.requires.left c.end_of_lines-at.ensures.end;
  inside = c.end_of_lines-at.ensures.within;
  numbers = c.requires.numbers;
  few = omega (arith, c.requires.zero);
}

pub returns-then-not-branch-clause-items : goal.returns-then-not-branch-clause-items
returns-then-not-branch-clause-items c =
    let none : c.records.script ≡ [] = rw c.if-not-branch.true at c.in_ok-next.ensures.read in
    items-end c.args.text.now c.args.limits c.args.first c.args.script.now c.records.number c.records.at c.records.script c.args.items.now c.records.items c.records.count c.records.invariant.so none

pub returns-then-not-branch-clause-end : goal.returns-then-not-branch-clause-end
returns-then-not-branch-clause-end c =
    let none : c.records.script ≡ [] = rw c.if-not-branch.true at c.in_ok-next.ensures.read in
    fault-end c.args.text.now c.args.limits c.args.first c.args.script.now c.records.number c.records.at c.records.script c.args.items.now c.records.items c.records.count c.records.invariant.so none

pub returns-in_err-next-clause-items : goal.returns-in_err-next-clause-items
returns-in_err-next-clause-items c =
    let p = err_from_is_err_and c.from_residual.result c.from_residual.ensures.1 in
    rw p.1 (items-lost c.args.text.now c.args.limits c.args.first c.args.script.now c.records.number c.records.at c.records.script c.args.items.now c.records.items c.records.count c.records.invariant.so
    c.in_err-next.field-0.0 p.0 c.in_err-next.ensures.causes p.2)

pub returns-in_err-next-clause-end : goal.returns-in_err-next-clause-end
returns-in_err-next-clause-end c =
    let p = err_from_is_err_and c.from_residual.result c.from_residual.ensures.1 in
    rw p.1 (end-lost c.args.text.now c.args.limits c.args.first c.args.script.now c.records.number c.records.at c.records.script c.args.items.now c.records.items c.records.count c.records.invariant.so
    c.in_err-next.field-0.0 p.0 c.in_err-next.ensures.causes p.2)

pub returns-in-Err-clause-items : goal.returns-in-Err-clause-items
returns-in-Err-clause-items c =
    let next : c.records.script ≡ fields_of c.next.new.row ∷ c.next.new.self = rw c.if-not-branch.false at c.in_ok-next.ensures.read in
    items-passed c.args.text.now c.args.limits c.args.first c.args.script.now c.records.number c.records.at c.records.script c.args.items.now c.records.items c.records.count c.records.invariant.so _ _ next
    c.in-Err.why c.at.result c.in-Err.ensures.same c.at.ensures.same

pub returns-in-Err-clause-end : goal.returns-in-Err-clause-end
returns-in-Err-clause-end c =
    let next : c.records.script ≡ fields_of c.next.new.row ∷ c.next.new.self = rw c.if-not-branch.false at c.in_ok-next.ensures.read in
    end-passed c.args.text.now c.args.limits c.args.first c.args.script.now c.records.number c.records.at c.records.script c.args.items.now c.records.items c.records.count c.records.invariant.so _ _ next
    c.in-Err.why c.at.result c.in-Err.ensures.same c.at.ensures.same

pub records-preserved : goal.records-preserved
records-preserved c =
    let next : c.records.script ≡ fields_of c.next.new.row ∷ c.next.new.self = rw c.if-not-branch.false at c.in_ok-next.ensures.read in
    let fewer = ap length next in
    record {
      so = read-item c.args.text.now c.args.limits c.args.first c.args.script.now c.records.number c.records.at c.records.script c.args.items.now c.records.items c.records.count c.records.invariant.so _ _ next
          c.line_after-span.result c.in-Ok.request c.item_for.result c.put.new.list c.line_after-span.ensures.line c.in-Ok.ensures.same c.item_for.ensures.item c.put.ensures;
      inside = c.line_after-span.ensures.within;
      numbers = omega (arith, c.records.invariant.numbers, fewer);
      few = omega (arith, c.records.invariant.few);
    }
