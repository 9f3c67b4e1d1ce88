use Rattle.std.proofs.Common.{◌≡◌, true, false, sym, ◌∙◌}
use Rattle.council_core.specs.declared.limits.TheConstants.{MAX_COMMANDS}
use Rattle.council_core.specs.declared.refusals.Refusal.TheVariants.{BadLimit, TooLong}
use Rattle.board_text.specs.Text.{fault_at, in_range, run_limits}
use Rattle.board_c.proofs.InputFacts.{begun-out_of_range, begun-too_long, end-refused, items-refused, none-written}
use Rattle.board_c.proofs.script.reading.read_input.Goals as goal

pub returns-then-not-is_in_range-clause-items : goal.returns-then-not-is_in_range-clause-items
returns-then-not-is_in_range-clause-items c =
    let lim = run_limits c.args.readers MAX_COMMANDS in
    let out : in_range lim ≡ false = sym c.limits_of-limits.ensures.range ∙ (sym c.is_in_range.ensures.known ∙ c.if-not-is_in_range.true) in
    none-written lim c.args.input.now c.at.result c.args.items.now c.args.count.now c.requires.zero
    (items-refused lim c.args.input.now c.at.result (fault_at BadLimit 0) c.at.ensures.same (begun-out_of_range lim c.args.input.now out))

pub returns-then-not-is_in_range-clause-end : goal.returns-then-not-is_in_range-clause-end
returns-then-not-is_in_range-clause-end c =
    let lim = run_limits c.args.readers MAX_COMMANDS in
    let out : in_range lim ≡ false = sym c.limits_of-limits.ensures.range ∙ (sym c.is_in_range.ensures.known ∙ c.if-not-is_in_range.true) in
    end-refused lim c.args.input.now c.at.result (fault_at BadLimit 0) c.at.ensures.same (begun-out_of_range lim c.args.input.now out)

pub returns-then-input-gt-INPUT_LIMIT-clause-items : goal.returns-then-input-gt-INPUT_LIMIT-clause-items
returns-then-input-gt-INPUT_LIMIT-clause-items c =
    let lim = run_limits c.args.readers MAX_COMMANDS in
    let why = c.at-then-input-gt-INPUT_LIMIT in
    let fits : in_range lim ≡ true = sym c.limits_of-limits.ensures.range ∙ (sym c.is_in_range.ensures.known ∙ c.if-not-is_in_range.false) in
    none-written lim c.args.input.now why.result c.args.items.now c.args.count.now c.requires.zero
    (items-refused lim c.args.input.now why.result (fault_at TooLong 0) why.ensures.same (begun-too_long lim c.args.input.now fits c.if-input-gt-INPUT_LIMIT.true))

pub returns-then-input-gt-INPUT_LIMIT-clause-end : goal.returns-then-input-gt-INPUT_LIMIT-clause-end
returns-then-input-gt-INPUT_LIMIT-clause-end c =
    let lim = run_limits c.args.readers MAX_COMMANDS in
    let why = c.at-then-input-gt-INPUT_LIMIT in
    let fits : in_range lim ≡ true = sym c.limits_of-limits.ensures.range ∙ (sym c.is_in_range.ensures.known ∙ c.if-not-is_in_range.false) in
    end-refused lim c.args.input.now why.result (fault_at TooLong 0) why.ensures.same (begun-too_long lim c.args.input.now fits c.if-input-gt-INPUT_LIMIT.true)
