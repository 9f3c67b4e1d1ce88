use Rattle.std.proofs.Common.{◌≡◌, arith, false, true, refl, sym}
use Rattle.board_text.specs.Text.{run_limits}
use Rattle.board_c.proofs.LimitFacts.{same-out_of_range, too_many-out_of_range}
use Rattle.board_c.proofs.limits.limits_of.Goals as goal

pub returns-else-readers-from : goal.returns-else-readers-from
returns-else-readers-from c =
    let lim = run_limits c.args.readers c.args.journal in
    let out = too_many-out_of_range lim (omega (arith, c.if-readers-from.false, c.from.ensures)) in
    record {
      range = sym out;
      given = λ is. absurd (let bad : false ≡ true = is in cc);
      same = λ kind bytes. same-out_of_range kind (run_limits 0 c.args.journal) lim bytes refl out;
    }
